use Rattle.std.proofs.Common.{sym, ◌∙◌, rules}
use Rattle.std.proofs.lemmas.Iterator.{YieldsList-from_slice}
use Rattle.std.proofs.lemmas.Iterator.Search.{any_from_yields_List}
use Rattle.automaton.specs.Made.{outside}
use Rattle.automaton.proofs.Making.{exact}
use Rattle.automaton.proofs.automaton.Automaton.new.Goals as goal

pub invariant_of-result-clause-arcs_within : goal.invariant_of-result-clause-arcs_within
invariant_of-result-clause-arcs_within c =
    sym (any_from_yields_List (outside c.args.states) _ _ _ c.any.ensures.ran (YieldsList-from_slice c.args.arcs.now cc) (λ x b q k. search rules))
    ∙ c.if-any.false

pub returns-clause-exact : goal.returns-clause-exact
returns-clause-exact c = exact _
