-- What an automaton means as a monitor. The meaning holds the proof of its law, for any values of the fields.
use Rattle.std.specs.Prelude.{◌≡◌, ℕ, ◌<◌, true, ◌&&◌, List, nat_eq, nat_lt, refl}
use Rattle.std.proofs.Common.{◌∙◌}
use Rattle.std.proofs.lemmas.Bool.{eq-eqb, ltb-true, and_parts, and_from}
use Rattle.codes.specs.Codes.{bit_of, only_bit, some}
use Rattle.codes.proofs.Codes.{bit_code, some_at}
use Rattle.events.specs.declared.event.Action.{Action}
use Rattle.monitor.specs.Meaning.{Meaning}
use Rattle.automaton.specs.declared.arc.Arc.{Arc}
use Rattle.automaton.specs.declared.automaton.Automaton.{Automaton}
use Rattle.automaton.specs.Moves.{goes, stepped, is_bad}

-- the bad state stays, so a bad code stays bad
pub bad_stays : (n bad : ℕ) (arcs : List Arc) (c : ℕ) (a : Action) → is_bad n bad c ≡ true → is_bad n bad (stepped n bad arcs c a) ≡ true
unfolding stepped goes
bad_stays n bad arcs c a h =
    let both = and_parts (nat_lt bad n) (bit_of c bad) h in
    let in_code : bit_of c bad ≡ true = both.1 in
    let self : nat_eq bad bad ≡ true = eq-eqb bad bad refl in
    let below : bad < n = ltb-true bad n both.0 in
    and_from _ _ both.0
    (bit_code n (λ s. some n (λ p. bit_of c p && goes bad arcs a p s)) bad below
    ∙ some_at n (λ p. bit_of c p && goes bad arcs a p bad) bad below (rw (in_code, self)))

-- from the count, the start state, the bad state and the arcs
abbrev pub meant_by : ℕ → ℕ → ℕ → List Arc → Meaning
meant_by n start bad arcs = record {
  start = only_bit start;
  step = stepped n bad arcs;
  bad = is_bad n bad;
  stays = bad_stays n bad arcs;
}

abbrev pub meant : Automaton → Meaning
meant a = meant_by a.states a.start a.bad a.arcs.now
