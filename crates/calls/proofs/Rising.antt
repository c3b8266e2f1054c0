-- Lists of calls that grow by one, and what is noted along them.
use Rattle.std.proofs.Common.{◌≡◌, ℕ, zero, suc, ◌+◌, ◌<◌, ◌≤◌, List, [], ◌∷◌, ◌++◌, length, take, Some, None, fold, Option, sym, refl, ap, ◌∙◌, subst, inl, inr, le_refl, arith}
use Rattle.std.specs.List.{slice_get}
use Rattle.std.proofs.lemmas.Option.{slice_get_within}
use Rattle.std.proofs.lemmas.List.{append-nil, append_assoc, length_push, take_all, take_at, take-append-le}
use Rattle.std.proofs.lemmas.List.Sums.{fold_push}
use Rattle.std.proofs.lemmas.Bool.{cases_lt}
use Rattle.events.specs.declared.event.Action.{Action}
use Rattle.events.specs.declared.event.Event.{Event}
use Rattle.events.specs.declared.refusal.Refusal.{Refusal}
use Rattle.events.specs.Noting.{Opening, refused, extended, Noted}
use Rattle.events.specs.Noting.Noted.{more}
use Rattle.calls.specs.Acts.{Act, to_note, to_map, to_replay, to_judge, Outcome, Gives, after, ahead, Performed}
use Rattle.calls.specs.More.{Extends, OneMore, EveryCallExtends, EveryListExtends}
use Rattle.calls.proofs.Places.{nth_left, nth_last}

-- what is noted stays a noted list
noted_extended : (o : Opening) (es : List Event) (a : Action) (x : Option Refusal) → refused o es a ≡ x → Noted o es → Noted o (extended x es a)
noted_extended o es a (Some why) e n = n
noted_extended o es a None e n = more a n e

noted_after_lem : (o : Opening) (es : List Event) (a : Act) → Noted o es → Noted o (after o es a)
noted_after_lem o es (to_note a) n = noted_extended o es a (refused o es a) refl n
noted_after_lem o es (to_map rows) n = n
noted_after_lem o es (to_replay m ts) n = n
noted_after_lem o es (to_judge m rows list) n = n

pub noted_ahead : (o : Opening) (es : List Event) (acts : List Act) (k : ℕ) → Noted o es → Noted o (ahead o es acts k)
noted_ahead o es acts zero n = n
noted_ahead o es [] (suc k) n = n
noted_ahead o es (a ∷ acts) (suc k) n = noted_ahead o (after o es a) acts k (noted_after_lem o es a n)

pub none_performed : (o : Opening) (es : List Event) → Performed o es [] [] es
none_performed o es = record {
  as_many = refl;
  each = λ k a q h g. absurd cc;
  leaves = refl;
}

module _ (o : Opening) (before : List Event) (acts : List Act) (outs : List Outcome) (es : List Event) (p : Performed o before acts outs es)
    (a : Act) (q : Outcome) (gives : Gives o es a q) where
  all : es ≡ fold (after o) before acts
  all = p.leaves ∙ ap (fold (after o) before) (take_all (length acts) acts (le_refl (length acts)))

  earlier : (k : ℕ) (b : Act) (r : Outcome) → k < length acts → slice_get (acts ++ a ∷ []) k ≡ Some b → slice_get (outs ++ q ∷ []) k ≡ Some r
      → Gives o (ahead o before (acts ++ a ∷ []) k) b r
  earlier k b r l x y =
      let near : k < length outs = omega (arith, p.as_many) in
      let e : take k (acts ++ a ∷ []) ≡ take k acts = take-append-le k acts (a ∷ []) (omega arith) in
      subst (λ (zs : List Act). Gives o (fold (after o) before zs) b r) (sym e)
      (p.each k b r (sym (nth_left acts (a ∷ []) k l) ∙ x) (sym (nth_left outs (q ∷ []) k near) ∙ y))

  last : (k : ℕ) (b : Act) (r : Outcome) → length acts ≤ k → slice_get (acts ++ a ∷ []) k ≡ Some b → slice_get (outs ++ q ∷ []) k ≡ Some r
      → Gives o (ahead o before (acts ++ a ∷ []) k) b r
  last k b r l x y =
      let at : k ≡ length acts = omega (arith, slice_get_within (acts ++ a ∷ []) k b x, length_push acts a) in
      let u : Some a ≡ Some b = sym (nth_last acts a) ∙ ap (slice_get (acts ++ a ∷ [])) (sym at) ∙ x in
      let v : Some q ≡ Some r = sym (nth_last outs q) ∙ ap (slice_get (outs ++ q ∷ [])) (p.as_many ∙ sym at) ∙ y in
      let same : a ≡ b = cc in
      let alike : q ≡ r = cc in
      let here : es ≡ ahead o before (acts ++ a ∷ []) k = all ∙ ap (fold (after o) before) (sym (take_at acts (a ∷ []) k (sym at))) in
      subst (λ (c : Act). Gives o (ahead o before (acts ++ a ∷ []) k) c r) same
      (subst (λ (s : Outcome). Gives o (ahead o before (acts ++ a ∷ []) k) a s) alike (subst (λ (xs : List Event). Gives o xs a q) here gives))

  -- one call more
  pub pushed : (fs : List Event) → fs ≡ after o es a → Performed o before (acts ++ a ∷ []) (outs ++ q ∷ []) fs
  pushed fs e = record {
    as_many = length_push outs q ∙ ap (λ (n : ℕ). n + 1) p.as_many ∙ sym (length_push acts a);
    each = λ k b r x y. elim (cases_lt k (length acts)) [ inl l ↦ earlier k b r l x y | inr l ↦ last k b r l x y ];
    leaves =
        e ∙ ap (λ (xs : List Event). after o xs a) all ∙ sym (fold_push (after o) before acts a)
        ∙ ap (fold (after o) before) (sym (take_all (length (acts ++ a ∷ [])) (acts ++ a ∷ []) (le_refl (length (acts ++ a ∷ [])))));
  }

-- the first call of a list, and the others after it
first_given : (o : Opening) (es : List Event) (a : Act) (acts : List Act) (q : Outcome) (outs : List Outcome) (left : List Event)
    → Performed o es (a ∷ acts) (q ∷ outs) left → Gives o es a q
first_given o es a acts q outs left p = p.each 0 a q refl refl

others_given : (o : Opening) (es : List Event) (a : Act) (acts : List Act) (q : Outcome) (outs : List Outcome) (left : List Event)
    → Performed o es (a ∷ acts) (q ∷ outs) left → Performed o (after o es a) acts outs left
others_given o es a acts q outs left p =
    let n : length (q ∷ outs) ≡ length (a ∷ acts) = p.as_many in
    record { as_many = omega arith; each = λ k b r x y. p.each (suc k) b r x y; leaves = p.leaves }

-- one list after another
pub joined : (o : Opening) (before : List Event) (earlier : List Act) (theirs : List Outcome) (es : List Event) → Performed o before earlier theirs es
    → (acts : List Act) (outs : List Outcome) (left : List Event) → Performed o es acts outs left → Performed o before (earlier ++ acts) (theirs ++ outs) left
joined o before earlier theirs es p [] [] left w =
    subst (λ (xs : List Event). Performed o before (earlier ++ []) (theirs ++ []) xs) (sym w.leaves)
    (subst (λ (xs : List Act). Performed o before xs (theirs ++ []) es) (sym (append-nil earlier))
    (subst (λ (xs : List Outcome). Performed o before earlier xs es) (sym (append-nil theirs)) p))
joined o before earlier theirs es p [] (q ∷ outs) left w = let n = w.as_many in absurd (omega arith)
joined o before earlier theirs es p (a ∷ acts) [] left w = let n = w.as_many in absurd (omega arith)
joined o before earlier theirs es p (a ∷ acts) (q ∷ outs) left w =
    subst (λ (xs : List Act). Performed o before xs (theirs ++ q ∷ outs) left) (append_assoc earlier (a ∷ []) acts)
    (subst (λ (xs : List Outcome). Performed o before ((earlier ++ a ∷ []) ++ acts) xs left) (append_assoc theirs (q ∷ []) outs)
    (joined o before (earlier ++ a ∷ []) (theirs ++ q ∷ []) (after o es a)
    (pushed o before earlier theirs es p a q (first_given o es a acts q outs left w) (after o es a) refl)
    acts outs left (others_given o es a acts q outs left w)))

pub extends : (o : Opening) (es : List Event) (acts : List Act) (outs : List Outcome) (fs : List Event) → Performed o es acts outs fs
    → (p : Opening) → p ≡ o → Extends o es acts outs p fs
extends o es acts outs fs w p e = record {
  opens = e;
  longer = λ before earlier theirs q.
      subst (λ (r : Opening). Performed r before (earlier ++ acts) (theirs ++ outs) fs) (sym e) (joined o before earlier theirs es q acts outs fs w);
}

pub one_more : (o : Opening) (es : List Event) (a : Act) (q : Outcome) → Gives o es a q → (p : Opening) (fs : List Event) → p ≡ o → fs ≡ after o es a
    → OneMore o es a q p fs
one_more o es a q g p fs e l = extends o es (a ∷ []) (q ∷ []) fs (pushed o es [] [] es (none_performed o es) a q g fs l) p e

pub every_call : EveryCallExtends
every_call o es a q g = one_more o es a q g o (after o es a) refl refl

pub every_list : EveryListExtends
every_list o es acts outs left w = extends o es acts outs left w o refl
