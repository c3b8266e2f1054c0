use Rattle.std.proofs.Common.{sym, ◌∙◌, rules, tests}
use Rattle.std.proofs.lemmas.Iterator.Adapters.{option_map_id}
use Rattle.std.proofs.lemmas.Iterator.{YieldsList-from_slice, YieldsList-from_map}
use Rattle.std.proofs.lemmas.Iterator.Consumers.{YieldsList-at, YieldsList-from_enumerate, YieldsList-from_filter, nth_from_yields_List}
use Rattle.formula.proofs.Openings.{opens, place, bracket_nth}
use Rattle.formula.proofs.suiting.bracket.Goals as goal

pub returns : goal.returns
returns c =
    let t = c.args.text.now in
    c.unwrap_or.ensures
    ∙ bracket_nth t c.args.ahead c.nth.result (sym (option_map_id _) ∙
    (nth_from_yields_List c.nth.result c.nth.new.self c.args.ahead c.nth.ensures.ran
    (YieldsList-from_map _ place
    (YieldsList-at c.map-brackets.ensures.source (YieldsList-from_filter _ opens
    (YieldsList-at c.filter.ensures.source (YieldsList-from_enumerate (YieldsList-at c.enumerate.ensures.source (YieldsList-from_slice t cc)) c.enumerate.ensures.count))
    c.filter.ensures.closure (λ x b q k. search (rules, tests))))
    c.map-brackets.ensures.closure (λ x r q k. search (rules, tests)))))
