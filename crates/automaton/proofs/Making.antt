-- What the tests of a new automaton tell.
use Rattle.std.proofs.Common.{◌≡◌, ℕ, ◌<◌, ◌&&◌, None, ap, ◌∙◌, inl, inr, arith}
use Rattle.std.specs.List.{Contains}
use Rattle.std.proofs.lemmas.Bool.{cases_Bool, lt-ltb, le-ltb, leb-false, or_parts, or_from, ne_eqb, lt-leb, cond-false}
use Rattle.events.specs.First.{first_fit}
use Rattle.events.specs.declared.event.Action.{Action}
use Rattle.codes.specs.Codes.{bit_of}
use Rattle.codes.proofs.Bitwise.{only_pow}
use Rattle.automaton.specs.declared.arc.Arc.{Arc}
use Rattle.automaton.specs.declared.automaton.Automaton.{Automaton}
use Rattle.automaton.specs.Made.{outside, fault_tests}
use Rattle.automaton.specs.Rule.{Moves, rests, along, stays}
use Rattle.automaton.specs.Exact.{Exact}
use Rattle.automaton.proofs.Lists.{any_none}

-- no test of a new automaton fits these
pub none_fits : (m : Automaton) → first_fit (fault_tests m.states m.start m.bad m.arcs.now) ≡ None
none_fits m =
    cond-false _ _ _ (or_from _ _ (ne_eqb m.states 0 (λ e. omega (arith, e, m.start_within))) (le-ltb 32 m.states m.few))
    ∙ cond-false _ _ _ (or_from _ _ (lt-leb m.states m.start m.start_within) (lt-leb m.states m.bad m.bad_within))
    ∙ cond-false _ _ _ m.arcs_within

module _ (m : Automaton) where
  to_state : (arc : Arc) → Contains m.arcs.now arc → arc.to < m.states
  to_state arc o =
      elim (cases_Bool (outside m.states arc)) [
        | inl out ↦ absurd (any_none (outside m.states) m.arcs.now arc m.arcs_within o out)
        | inr fits ↦ leb-false _ _ (or_parts _ _ (or_parts _ _ fits).1).0
      ]

  closed : (a : Action) (p s : ℕ) → p < m.states → Moves m.bad m.arcs.now a p s → s < m.states
  closed a p s h (rests same e) = omega arith
  closed a p s h (along other arc o from matches e) = omega (arith, to_state arc o)
  closed a p s h (stays other none e) = omega arith

  pub exact : Exact m
  exact = record {
    closed = closed;
    starting = only_pow m.start (omega (arith, m.few, m.start_within));
    telling = λ c. ap (λ b. b && bit_of c m.bad) (lt-ltb _ _ m.bad_within);
  }
