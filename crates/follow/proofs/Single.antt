-- At most one answer is right.
use Rattle.std.proofs.Common.{◌≡◌, ℕ, suc, List, Ok, Err, Result, get_or, sym, refl, ap, ◌∙◌, subst}
use Rattle.events.specs.declared.event.Event.{Event}
use Rattle.order.specs.Trace.{blank, thread_at}
use Rattle.order.specs.Cuts.{Cut, MayFollow}
use Rattle.order.specs.Sound.{Sound}
use Rattle.order.specs.Waiting.{HasNext, Missing, Blocked}
use Rattle.order.proofs.Places.{same_event}
use Rattle.follow.specs.declared.no_next.NoNext.{NoNext}
use Rattle.follow.specs.declared.no_next.NoNext.TheVariants as because
use Rattle.follow.specs.Answers.{Answers, OneAnswer}

module _ (es : List Event) (sound : Sound es) (c : Cut) (t : ℕ) where
  one_next : (i j : ℕ) → HasNext es c t i → HasNext es c t j → i ≡ j
  one_next i j a b = same_event es sound i j a.noted b.noted (a.own ∙ sym b.own) (a.place ∙ sym b.place)

  the_next : (i : ℕ) → MayFollow es c i × (thread_at es i ≡ t) → HasNext es c t i
  the_next i m = record { noted = m.0.noted; own = m.1; place = m.0.next ∙ ap (λ u. suc (c u)) m.1 }

  not_lacking : {A : Type 0} (i j : ℕ) → MayFollow es c i × (thread_at es i ≡ t) → HasNext es c t j → Missing es c j → A
  not_lacking i j m n l =
      let m' = subst (MayFollow es c) (one_next i j (the_next i m) n) m.0 in
      absurd (l.3 (m'.ready l.0 l.1 l.2))

  not_crowded : {A : Type 0} (i j : ℕ) → MayFollow es c i × (thread_at es i ≡ t) → HasNext es c t j → Blocked es c j → A
  not_crowded i j m n w =
      let m' = subst (MayFollow es c) (one_next i j (the_next i m) n) m.0 in
      absurd (m'.alone w.0 w.1 w.2 w.3)

  not_full : {A : Type 0} (i j : ℕ) → HasNext es c t i → Missing es c i → HasNext es c t j → (Missing es c j → ⊥) → A
  not_full i j a l b n = absurd (n (subst (Missing es c) (one_next i j a b) l))

  one_event : (i j : ℕ) (e f : Event) → i ≡ j → e ≡ get_or es i blank → f ≡ get_or es j blank → e ≡ f
  one_event i j e f q a b = a ∙ ap (λ z. get_or es z blank) q ∙ sym b

  one : (a b : Result Event NoNext) → Answers es c t a → Answers es c t b → a ≡ b
  one (Ok e) (Ok f) x y =
      ap Ok (one_event x.0 y.0 e f (one_next x.0 y.0 (the_next x.0 (x.1, x.2)) (the_next y.0 (y.1, y.2))) x.3 y.3)
  one (Ok e) (Err because.Done) x y = absurd (y x.0 (the_next x.0 (x.1, x.2)))
  one (Ok e) (Err because.Missing) x y = not_lacking x.0 y.0 (x.1, x.2) y.1 y.2
  one (Ok e) (Err because.Blocked) x y = not_crowded x.0 y.0 (x.1, x.2) y.1 y.3
  one (Err because.Done) (Ok f) x y = absurd (x y.0 (the_next y.0 (y.1, y.2)))
  one (Err because.Done) (Err because.Done) x y = refl
  one (Err because.Done) (Err because.Missing) x y = absurd (x y.0 y.1)
  one (Err because.Done) (Err because.Blocked) x y = absurd (x y.0 y.1)
  one (Err because.Missing) (Ok f) x y = not_lacking y.0 x.0 (y.1, y.2) x.1 x.2
  one (Err because.Missing) (Err because.Done) x y = absurd (y x.0 x.1)
  one (Err because.Missing) (Err because.Missing) x y = refl
  one (Err because.Missing) (Err because.Blocked) x y = not_full x.0 y.0 x.1 x.2 y.1 y.2
  one (Err because.Blocked) (Ok f) x y = not_crowded y.0 x.0 (y.1, y.2) x.1 x.3
  one (Err because.Blocked) (Err because.Done) x y = absurd (y x.0 x.1)
  one (Err because.Blocked) (Err because.Missing) x y = not_full y.0 x.0 y.1 y.2 x.1 x.2
  one (Err because.Blocked) (Err because.Blocked) x y = refl

pub one_answer : OneAnswer
one_answer es sound c t a b x y = one es sound c t a b x y
