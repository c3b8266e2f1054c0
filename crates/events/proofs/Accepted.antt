-- The test of noted lists decides which lists a trace can have noted.
use Rattle.std.proofs.Common.{◌≡◌, ℕ, suc, true, not, eqb, List, [], ◌∷◌, ◌++◌, is_some, Some, None, Decides, Option, sym, refl, ap, ◌∙◌, subst, append_assoc}
use Rattle.std.proofs.lemmas.List.{append-nil}
use Rattle.std.proofs.lemmas.Bool.{and_parts, and_from, eqb-true, eq-eqb, false≢true}
use Rattle.events.specs.declared.event.Action.{Action}
use Rattle.events.specs.declared.event.Event.{Event}
use Rattle.events.specs.declared.refusal.Refusal.{Refusal}
use Rattle.events.specs.Events.{action_of, event_at}
use Rattle.events.specs.Noting.{Opening, count_of, refused, noting, Noted, none, more}
use Rattle.events.specs.Accepted.{accepted_after, accepted_from, accepted}

none_from : {A : Type 0} (x : Option A) → not (is_some x) ≡ true → x ≡ None
none_from (Some a) h = absurd (false≢true h)
none_from None h = refl

-- an event with the next place of its thread is the noting of what its thread did
pub noting_is : (es : List Event) (e : Event) → e.place ≡ suc (count_of e.thread es) → noting es (action_of e) ≡ e
noting_is es e h = ap (λ (n : ℕ). event_at n (action_of e)) (sym h)

pub noted_from : (o : Opening) (ahead es : List Event) → Noted o ahead → accepted_from o ahead es ≡ true → Noted o (ahead ++ es)
noted_from o ahead [] n h = subst (Noted o) (sym (append-nil ahead)) n
noted_from o ahead (e ∷ es) n h =
    let both = and_parts (accepted_after o ahead e) (accepted_from o (ahead ++ e ∷ []) es) h in
    let here = and_parts (not (is_some (refused o ahead (action_of e)))) (eqb e.place (suc (count_of e.thread ahead))) both.0 in
    let step : Noted o (ahead ++ noting ahead (action_of e) ∷ []) = more (action_of e) n (none_from (refused o ahead (action_of e)) here.0) in
    let next : Noted o (ahead ++ e ∷ []) = subst (λ (d : Event). Noted o (ahead ++ d ∷ [])) (noting_is ahead e (eqb-true e.place (suc (count_of e.thread ahead)) here.1)) step in
    subst (Noted o) (append_assoc ahead (e ∷ []) es) (noted_from o (ahead ++ e ∷ []) es next both.1)

pub accepted_push : (o : Opening) (ahead es : List Event) (a : Action) → accepted_from o ahead es ≡ true → refused o (ahead ++ es) a ≡ None
    → accepted_from o ahead (es ++ noting (ahead ++ es) a ∷ []) ≡ true
accepted_push o ahead [] a h r =
    let r' : refused o ahead a ≡ None = ap (λ (l : List Event). refused o l a) (sym (append-nil ahead)) ∙ r in
    let k : count_of a.thread (ahead ++ []) ≡ count_of a.thread ahead = ap (count_of a.thread) (append-nil ahead) in
    and_from (accepted_after o ahead (noting (ahead ++ []) a)) true
    (and_from (not (is_some (refused o ahead a))) (eqb (suc (count_of a.thread (ahead ++ []))) (suc (count_of a.thread ahead)))
    (ap (λ (x : Option Refusal). not (is_some x)) r') (eq-eqb (suc (count_of a.thread (ahead ++ []))) (suc (count_of a.thread ahead)) (ap suc k)))
    refl
accepted_push o ahead (e ∷ es) a h r =
    let both = and_parts (accepted_after o ahead e) (accepted_from o (ahead ++ e ∷ []) es) h in
    let q : (ahead ++ e ∷ []) ++ es ≡ ahead ++ e ∷ es = append_assoc ahead (e ∷ []) es in
    let rest : accepted_from o (ahead ++ e ∷ []) (es ++ noting ((ahead ++ e ∷ []) ++ es) a ∷ []) ≡ true
    = accepted_push o (ahead ++ e ∷ []) es a both.1 (ap (λ (l : List Event). refused o l a) q ∙ r) in
    and_from (accepted_after o ahead e) (accepted_from o (ahead ++ e ∷ []) (es ++ noting (ahead ++ e ∷ es) a ∷ [])) both.0
    (ap (λ (l : List Event). accepted_from o (ahead ++ e ∷ []) (es ++ noting l a ∷ [])) (sym q) ∙ rest)

accepted_from_noted : (o : Opening) (es : List Event) → Noted o es → accepted o es ≡ true
accepted_from_noted o _ none = refl
accepted_from_noted o _ (more {es} a n r) = accepted_push o [] es a (accepted_from_noted o es n) r

pub accepted_decides : (o : Opening) (es : List Event) → Decides (accepted o es) (Noted o es)
accepted_decides o es = (λ h. noted_from o [] es none h, accepted_from_noted o es)
