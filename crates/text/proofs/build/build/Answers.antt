use Rattle.std.proofs.Common.{◌≡◌, ℕ, List, ◌∷◌, length, sym, refl, ap, ◌∙◌, arith, rules}
use Rattle.std.proofs.lemmas.Result.{err_from_is_err_and}
use Rattle.grammar.specs.Recording.{newline, pieces}
use Rattle.text.specs.Places.{byte_place}
use Rattle.text.specs.Standing.{Stand}
use Rattle.text.specs.Tokens.{is_blank}
use Rattle.text.proofs.Building.{at_lines, at_rule, built_fails, built_ok, built_out, count_on, lines_on, opened, rule_on, rule_part, rule_roles, rule_size, trim_values, values_on}
use Rattle.text.proofs.Meeting.{meet}
use Rattle.text.proofs.Taking.{next_moved}
use Rattle.text.proofs.build.build.Goals as goal
use Rattle.text.proofs.build.build.Goals.{After-verb, After-next, After-next-2, After-pass}

-- where the reader stands behind `(open`, ahead of the values, behind their brackets, and at the rule
counting : (c : After-verb) → Stand (pieces c.requires.0) c.verb.new.reader (count_on c.requires.0)
counting c =
    opened c.requires.0 c.new-reader.result c.verb.new.reader c.verb.result c.requires.1 (c.new-reader.ensures.text ∙ c.requires.2) c.new-reader.ensures.start c.verb.ensures.kind

valuing : (c : After-next) → Stand (pieces c.requires.0) c.next.new.self (values_on c.requires.0)
valuing c =
    let two = c.in_ok-threads.ensures.taken _ _ _ c.requires.0.threads refl (counting (goal.at.After-next c).After-verb) refl in
    (meet {s = c.number.new.reader} {e = c.next.new.self} two.1 refl (next_moved {s = c.number.new.reader} {e = c.next.new.self} c.next.ensures.text c.next.ensures.token)).goes tt

lining : (c : After-next-2) → Stand (pieces c.requires.0) c.next-2.new.self (newline ∷ lines_on c.requires.0)
lining c =
    let four = c.in_ok-starts.ensures _ _ _ c.requires.0.starts (valuing (goal.at.After-next-2 c).After-next) (trim_values c.requires.0.starts _) in
    (meet {s = c.values.new.reader} {e = c.next-2.new.self} four.1 refl (next_moved {s = c.values.new.reader} {e = c.next-2.new.self} c.next-2.ensures.text c.next-2.ensures.token)).goes tt

ruling : (c : After-pass) → Stand (pieces c.requires.0) c.pass.new.self (rule_on c.requires.0)
ruling c =
    let r = c.requires.0 in
    let six = c.in_ok-actions.ensures _ _ _ r.actions c.requires.1.actions (lining (goal.at.After-pass c).After-next-2) (at_lines r) in
    at_rule r c.actions.new.reader c.pass.new.self six.1 c.pass.ensures.onward.text (c.pass.ensures.at is_blank (λ x b p. search rules))

pub returns-in_err-threads : goal.returns-in_err-threads
returns-in_err-threads c =
    let r = c.requires.0 in
    let p = err_from_is_err_and c.from_residual.result c.from_residual.ensures.1 in
    let at = counting (goal.at.returns-in_err-threads c).After-verb in
    built_out c.args.text.now r c.requires.1 c.requires.2 p.1 p.2 (c.in_err-threads.ensures.taken _ _ _ r.threads refl at refl)

pub returns-in_err-starts : goal.returns-in_err-starts
returns-in_err-starts c =
    let r = c.requires.0 in
    let p = err_from_is_err_and c.from_residual-in_err-starts.result c.from_residual-in_err-starts.ensures.1 in
    let at = valuing (goal.at.returns-in_err-starts c).After-next in
    built_fails c.args.text.now r c.requires.1 c.requires.2 p.1 p.2 (c.in_err-starts.ensures _ _ _ r.starts at (trim_values r.starts _))

pub returns-in_err-actions : goal.returns-in_err-actions
returns-in_err-actions c =
    let r = c.requires.0 in
    let p = err_from_is_err_and c.from_residual-in_err-actions.result c.from_residual-in_err-actions.ensures.1 in
    let at = lining (goal.at.returns-in_err-actions c).After-next-2 in
    built_fails c.args.text.now r c.requires.1 c.requires.2 p.1 p.2 (c.in_err-actions.ensures _ _ _ r.actions c.requires.1.actions at (at_lines r))

pub returns-in_err-rule : goal.returns-in_err-rule
returns-in_err-rule c =
    let r = c.requires.0 in
    let p = err_from_is_err_and c.from_residual-in_err-rule.result c.from_residual-in_err-rule.ensures.1 in
    let at = ruling (goal.at.returns-in_err-rule c).After-pass in
    built_out c.args.text.now r c.requires.1 c.requires.2 p.1 p.2 (c.in_err-rule.ensures _ _ at (rule_roles r))

pub part-requires : goal.part-requires
part-requires c =
    let at = ruling (goal.at.part-requires c).After-pass in
    omega (arith, rule_size c.requires.0 c.args.text.now c.pass.new.self c.requires.2 at)

pub returns : goal.returns
returns c =
    let r = c.requires.0 in
    let t = c.args.text.now in
    let e = c.pass.new.self in
    let counted = c.in_ok-threads.ensures.taken _ _ _ r.threads refl (counting (goal.at.returns c).After-verb) refl in
    let valued = c.in_ok-starts.ensures _ _ _ r.starts (valuing (goal.at.returns c).After-next) (trim_values r.starts _) in
    let lined = c.in_ok-actions.ensures _ _ _ r.actions c.requires.1.actions (lining (goal.at.returns c).After-next-2) (at_lines r) in
    let at = ruling (goal.at.returns c).After-pass in
    let spells = c.part.ensures ∙ rule_part r t e c.requires.2 at in
    let same : e.text.now ≡ t = at.text ∙ sym c.requires.2 in
    built_ok t r
    (record { threads = c.in_ok-threads.threads; starts = c.in_ok-starts.starts; actions = c.in_ok-actions.actions; rule = c.part.result; rule_place = e.place })
    c.requires.1 c.requires.2 counted.0 valued.0 lined.0 (c.in_ok-rule.ensures _ _ at (rule_roles r))
    (record {
      spells = spells;
      at = e.at;
      ends = omega (arith, rule_size r t e c.requires.2 at, ap length spells);
      place = e.placed ∙ ap (λ (w : List ℕ). byte_place w e.at) same;
    })
