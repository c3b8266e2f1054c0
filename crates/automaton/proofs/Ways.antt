-- After a run, the bits of the code are the states that a path leads to.
use Rattle.std.proofs.Common.{◌≡◌, ℕ, ◌<◌, ◌≤◌, Bool, true, ltb, List, [], ◌∷◌, Decides, fold, sym, refl, ap, ◌∙◌, subst, arith}
use Rattle.std.proofs.lemmas.Bool.{eq-eqb, eqb-true, lt-ltb, ltb-true, and_parts, and_from}
use Rattle.std.proofs.lemmas.Bool.Decides.{Decides-at, Decides-like}
use Rattle.codes.specs.Codes.{bit_of, only_bit}
use Rattle.codes.proofs.Bitwise.{bit_only}
use Rattle.events.specs.declared.event.Action.{Action}
use Rattle.monitor.specs.Meaning.{ran}
use Rattle.monitor.proofs.Ends.{end_tells}
use Rattle.automaton.specs.declared.arc.Arc.{Arc}
use Rattle.automaton.specs.declared.automaton.Automaton.{Automaton}
use Rattle.automaton.specs.Moves.{stepped}
use Rattle.automaton.specs.Rule.{Path, stop, move, CanBe}
use Rattle.automaton.specs.Meant.{meant}
use Rattle.automaton.specs.Runs.{CanBeIn, BitsTell, BadTells}
use Rattle.automaton.proofs.Decided.{decides_reaches}

module _ (n bad : ℕ) (arcs : List Arc) where
  -- a path to a state begins at a state
  path_state : {p s : ℕ} {actions : List Action} → Path n bad arcs p actions s → s < n → p < n
  path_state stop h = h
  path_state (move l m rest) h = l

  -- from a state of the code, a path leads to s
  abbrev Leads : ℕ → List Action → ℕ → Type 0
  Leads c actions s = (p : ℕ) × (p < n) × ((bit_of c p ≡ true) × Path n bad arcs p actions s)

  leads_sound : (actions : List Action) (c s : ℕ) → s < n → bit_of (fold (stepped n bad arcs) c actions) s ≡ true → Leads c actions s
  leads_sound [] c s h e = (s, h, (e, stop))
  leads_sound (a ∷ actions) c s h e =
      let rest = leads_sound actions (stepped n bad arcs c a) s h e in
      let came = (decides_reaches n bad arcs c a rest.0 rest.1).0 rest.2.0 in
      (came.0, came.1, (came.2.0, move came.1 came.2.1 rest.2.1))

  leads_complete : (actions : List Action) (c p s : ℕ) → s < n → bit_of c p ≡ true → Path n bad arcs p actions s
      → bit_of (fold (stepped n bad arcs) c actions) s ≡ true
  leads_complete [] c p s h e stop = e
  leads_complete (a ∷ actions) c p s h e (move {q = q} l m rest) =
      leads_complete actions (stepped n bad arcs c a) q s h
      ((decides_reaches n bad arcs c a q (path_state rest h)).1 (p, l, (e, m))) rest

  pub decides_can_be : (start : ℕ) (actions : List Action) (s : ℕ) → n ≤ 64 → s < n
      → Decides (bit_of (fold (stepped n bad arcs) (only_bit start) actions) s) (CanBe n start bad arcs actions s)
  decides_can_be start actions s few h = (
    λ e. let came = leads_sound actions (only_bit start) s h e in
        let low : came.0 < 64 = omega (arith, came.1) in
        let same : came.0 ≡ start = eqb-true _ _ (sym (bit_only start came.0 low) ∙ came.2.0) in
        subst (λ p. Path n bad arcs p actions s) same came.2.1,
    λ path. let low : start < 64 = omega (arith, path_state path h) in
        leads_complete actions (only_bit start) start s h (bit_only start start low ∙ eq-eqb start start refl) path,
  )

module _ (m : Automaton) (actions : List Action) where
  few : m.states ≤ 64
  few = omega (arith, m.few)

  pub bits_tell : BitsTell m actions
  bits_tell s h =
      Decides-like _ (λ path. (h, path)) (λ both. both.1)
      (decides_can_be m.states m.bad m.arcs.now m.start actions s few h)

  pub bad_tells : BadTells m actions
  bad_tells = (
    λ v. let both = and_parts (ltb m.bad m.states) (bit_of (ran (meant m) actions) m.bad) ((end_tells (meant m) actions).1 v) in
        (bits_tell m.bad (ltb-true _ _ both.0)).0 both.1,
    λ b. (end_tells (meant m) actions).0 (and_from _ _ (lt-ltb _ _ b.0) ((bits_tell m.bad b.0).1 b)),
  )

  -- what a bit of the code at the end answers
  pub answers : (state code : ℕ) (r : Bool) → code ≡ ran (meant m) actions → state < m.states → r ≡ bit_of code state
      → Decides r (CanBeIn m actions state)
  answers state code r ends h is = Decides-at _ _ (is ∙ ap (λ x. bit_of x state) ends) (bits_tell state h)
