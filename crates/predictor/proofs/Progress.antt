-- How far the actions of a recording are noted.
use Rattle.std.proofs.Common.{◌≡◌, ℕ, ◌+◌, ◌<◌, List, [], ◌∷◌, ◌++◌, map, length, get_or, take, Some, None, Ok, Err, Option, sym, refl, ap, ◌∙◌, subst, arith}
use Rattle.std.proofs.lemmas.List.{map-append, take_more}
use Rattle.events.specs.declared.event.Action.{Action}
use Rattle.events.specs.declared.event.Event.{Event}
use Rattle.events.specs.declared.refusal.Refusal.{Refusal}
use Rattle.events.specs.Events.{action_of}
use Rattle.events.specs.Noting.{Opening, refused, answer, extended, noting, Noted}
use Rattle.events.specs.Noting.Noted.{none, more}
use Rattle.predictor.specs.declared.fault.Fault.{Fault}
use Rattle.predictor.specs.declared.fault.Fault.TheVariants.{Record}
use Rattle.predictor.specs.declared.fault.RecordFault.TheVariants as record-fault
use Rattle.predictor.specs.Outcome.{line_start, no_action, placed, Stuck}

-- the first i actions are noted as the events es
pub record Progress (o : Opening) (actions : List Action) (es : List Event) (i : ℕ) : Type 0 where
  pub noted : Noted o es
  pub ahead : map action_of es ≡ take i actions

pub begun : (o : Opening) (actions : List Action) (es : List Event) → es ≡ [] → Progress o actions es 0
begun o actions es e = let P : List Event → Type 0 = λ l. Progress o actions l 0 in subst P (sym e) record { noted = none; ahead = refl }

-- an event that has a place was not refused
granted : (w : Option Refusal) (es : List Event) (a : Action) (line p : ℕ) → Ok p ≡ placed (answer w es a) line → w ≡ None
granted None es a line p h = refl
granted (Some why) es a line p h = let z : ◌≡◌ {A = ℕ} 0 1 = cc in absurd (omega arith)

onward : (o : Opening) (actions : List Action) (es : List Event) (i : ℕ) → Progress o actions es i → i < length actions
    → refused o es (get_or actions i no_action) ≡ None → Progress o actions (es ++ noting es (get_or actions i no_action) ∷ []) (i + 1)
onward o actions es i p l free =
    let a : Action = get_or actions i no_action in
    record {
      noted = more a p.noted free;
      ahead = map-append action_of es (noting es a ∷ []) ∙ ap (λ (l : List Action). l ++ a ∷ []) p.ahead ∙ sym (take_more actions i no_action l);
    }

pub noted_next : (o : Opening) (actions : List Action) (es fs : List Event) (i line place : ℕ) → Progress o actions es i → i < length actions
    → Ok place ≡ placed (answer (refused o es (get_or actions i no_action)) es (get_or actions i no_action)) line
    → fs ≡ extended (refused o es (get_or actions i no_action)) es (get_or actions i no_action)
    → Progress o actions fs (i + 1)
noted_next o actions es fs i line place p l ok q =
    let a : Action = get_or actions i no_action in
    let free : refused o es a ≡ None = granted (refused o es a) es a line place ok in
    let P : List Event → Type 0 = λ l. Progress o actions l (i + 1) in
    subst P (sym (q ∙ ap (λ (w : Option Refusal). extended w es a) free)) (onward o actions es i p l free)

-- a fault is that of a refused event, which leaves the noted list
faulty : (w : Option Refusal) (es : List Event) (a : Action) (line : ℕ) (f : Fault) → Err f ≡ placed (answer w es a) line
    → (why : Refusal) × (w ≡ Some why) × (f ≡ Record (record-fault.Noting why) (line_start line))
faulty None es a line f h = let z : ◌≡◌ {A = ℕ} 0 1 = cc in absurd (omega arith)
faulty (Some why) es a line f h = (why, refl, cc)

pub stuck : (o : Opening) (actions : List Action) (es fs : List Event) (i line : ℕ) (f : Fault) → Progress o actions es i → i < length actions
    → Err f ≡ placed (answer (refused o es (get_or actions i no_action)) es (get_or actions i no_action)) line
    → fs ≡ extended (refused o es (get_or actions i no_action)) es (get_or actions i no_action)
    → (why : Refusal) × Stuck o actions fs i why × (f ≡ Record (record-fault.Noting why) (line_start line))
stuck o actions es fs i line f p l bad q =
    let a : Action = get_or actions i no_action in
    let w = faulty (refused o es a) es a line f bad in
    let same : fs ≡ es = q ∙ ap (λ (v : Option Refusal). extended v es a) w.1 in
    let P : List Event → Type 0 = λ l. Stuck o actions l i w.0 in
    (w.0, subst P (sym same) record { inside = l; noted = p.noted; ahead = p.ahead; refusal = w.1 }, w.2)
