-- Single steps of the system of pairs.
use Rattle.std.proofs.Common.{◌≡◌, ℕ, zero, suc, ◌+◌, ◌<◌, ◌≤◌, Bool, true, false, eqb, List, length, get_or, replicate, Some, None, Option, sym, refl, ap, ◌∙◌, subst, inl, inr, add-one, arith}
use mathlib.Core.Path.{fun_ext}
use Rattle.std.proofs.lemmas.Bool.{cases_lt, cases_eq, eqb-true, eq-eqb, false≢true}
use Rattle.std.proofs.lemmas.List.{get_or-set_same, get_or-set_other}
use Rattle.events.specs.declared.event.Event.{Event}
use Rattle.events.specs.Noting.{Opening}
use Rattle.order.specs.Trace.{blank, thread_at}
use Rattle.order.specs.Cuts.{Cut, empty_cut, advance, MayFollow}
use Rattle.order.specs.Tests.{may_follow}
use Rattle.order.specs.Sound.{Sound}
use Rattle.order.specs.Reached.{cut_of}
use Rattle.order.specs.Waiting.{HasNext}
use Rattle.order.proofs.Noting.{sound_of, within_of}
use Rattle.order.proofs.Places.{same_event}
use Rattle.order.proofs.Cuts.{advance_own, advance_other}
use Rattle.order.proofs.Accepting.{decides_may_follow}
use Rattle.monitor.specs.Meaning.{Meaning}
use Rattle.pairs.specs.declared.pair.Pair.{Pair}
use Rattle.pairs.specs.Pairs.{follower, advanced, moved, moved_by, pairs}
use Rattle.pairs.specs.Judged.{Recorded}

-- what the proofs use of a noted list of n threads
pub record Given (es : List Event) (n : ℕ) : Type 0 where
  pub sound : Sound es
  pub few : n ≤ 8
  pub threads : (i : ℕ) → i < length es → thread_at es i < n

pub given : (o : Opening) (es : List Event) (n : ℕ) → Recorded o es n → Given es n
given o es n r = record {
  sound = sound_of o es r.noted;
  few = omega (arith, r.few, r.threads);
  threads = λ i l. omega (arith, r.threads, (within_of o es r.noted).threads i l);
}

pub cut_advanced : (c : List ℕ) (t : ℕ) → t < length c → cut_of (advanced c t) ≡ advance t (cut_of c)
cut_advanced c t l = fun_ext at
  where
    at : (u : ℕ) → cut_of (advanced c t) u ≡ advance t (cut_of c) u
    at u =
        elim (cases_eq t u) [
          | inl e ↦
              subst (λ v. cut_of (advanced c t) v ≡ suc (cut_of c v)) e (get_or-set_same c t (get_or c t 0 + 1) 0 l ∙ add-one (get_or c t 0))
              ∙ sym (advance_own t (cut_of c) u e)
          | inr d ↦ get_or-set_other c t u (get_or c t 0 + 1) 0 (λ h. d (sym h)) ∙ sym (advance_other t (cut_of c) u d)
        ]

pub zeros : (k u : ℕ) → cut_of (replicate k 0) u ≡ 0
zeros zero u = refl
zeros (suc k) zero = refl
zeros (suc k) (suc u) = zeros k u

pub first_cut : cut_of (replicate 8 0) ≡ empty_cut
first_cut = fun_ext (zeros 8)

record Follows (es : List Event) (c : List ℕ) (t k i : ℕ) : Type 0 where
  noted : i < k
  own : thread_at es i ≡ t
  follows : may_follow es (cut_of c) i ≡ true

is_at : (es : List Event) (c : List ℕ) (t k i : ℕ) (o : Option ℕ) → (o ≡ Some i → Follows es c t k i)
    → (a b : Bool) → eqb (thread_at es k) t ≡ a → may_follow es (cut_of c) k ≡ b
    → (elim a [ true ↦ elim b [ true ↦ Some k | false ↦ o ] | false ↦ o ]) ≡ Some i → Follows es c t (suc k) i
is_at es c t k i o ih true true p q h =
    let u : k ≡ i = cc in
    subst (Follows es c t (suc k)) u (record { noted = omega arith; own = eqb-true (thread_at es k) t p; follows = q })
is_at es c t k i o ih true false p q h = let f = ih h in record { noted = omega (arith, f.noted); own = f.own; follows = f.follows }
is_at es c t k i o ih false b p q h = let f = ih h in record { noted = omega (arith, f.noted); own = f.own; follows = f.follows }

follower_is : (es : List Event) (c : List ℕ) (t k i : ℕ) → follower es c t k ≡ Some i → Follows es c t k i
follower_is es c t zero i e = cc
follower_is es c t (suc k) i e =
    is_at es c t k i (follower es c t k) (follower_is es c t k i) (eqb (thread_at es k) t) (may_follow es (cut_of c) k) refl refl e

has_at : (k i : ℕ) (a b : Bool) (o : Option ℕ) → (i < k → (j : ℕ) × (o ≡ Some j)) → i < suc k → (i ≡ k → (a ≡ true) × (b ≡ true))
    → (j : ℕ) × ((elim a [ true ↦ elim b [ true ↦ Some k | false ↦ o ] | false ↦ o ]) ≡ Some j)
has_at k i true true o ih l h = (k, refl)
has_at k i true false o ih l h = elim (cases_lt i k) [ inl q ↦ ih q | inr q ↦ absurd (false≢true (h (omega arith)).1) ]
has_at k i false b o ih l h = elim (cases_lt i k) [ inl q ↦ ih q | inr q ↦ absurd (false≢true (h (omega arith)).0) ]

follower_has : (es : List Event) (c : List ℕ) (t k i : ℕ) → Follows es c t k i → (j : ℕ) × (follower es c t k ≡ Some j)
follower_has es c t zero i f = absurd (omega (arith, f.noted))
follower_has es c t (suc k) i f =
    has_at k i (eqb (thread_at es k) t) (may_follow es (cut_of c) k) (follower es c t k)
    (λ l. follower_has es c t k i (record { noted = l; own = f.own; follows = f.follows }))
    f.noted
    (λ e. (eq-eqb (thread_at es k) t (ap (thread_at es) (sym e) ∙ f.own), ap (may_follow es (cut_of c)) (sym e) ∙ f.follows))

-- thread t leads from x to y by an event
pub record Moves (es : List Event) (m : Meaning) (x y : Pair) (t : ℕ) : Type 0 where
  pub event : ℕ
  pub follows : MayFollow es (cut_of x.cut) event
  pub own : thread_at es event ≡ t
  pub is : y ≡ moved m x t (get_or es event blank)

module _ (es : List Event) (sound : Sound es) (n : ℕ) (m : Meaning) where
  pub next_is : (x y : Pair) (t : ℕ) → (pairs es n m).next x t ≡ Some y → Moves es m x y t
  next_is x y t e = go (follower es x.cut t (length es)) refl e
    where
      go : (o : Option ℕ) → follower es x.cut t (length es) ≡ o → moved_by es m x t o ≡ Some y → Moves es m x y t
      go None p q = cc
      go (Some i) p q =
          let f = follower_is es x.cut t (length es) i p in
          record { event = i; follows = (decides_may_follow es sound (cut_of x.cut) i).0 f.follows; own = f.own; is = cc }

  pub next_moves : (x : Pair) (t i : ℕ) → MayFollow es (cut_of x.cut) i → thread_at es i ≡ t
      → (pairs es n m).next x t ≡ Some (moved m x t (get_or es i blank))
  next_moves x t i may own =
      let c : Cut = cut_of x.cut in
      let h = follower_has es x.cut t (length es) i
      (record { noted = may.noted; own = own; follows = (decides_may_follow es sound c i).1 may }) in
      let f = follower_is es x.cut t (length es) h.0 h.1 in
      let may' : MayFollow es c h.0 = (decides_may_follow es sound c h.0).0 f.follows in
      let threads : thread_at es h.0 ≡ thread_at es i = f.own ∙ sym own in
      let one : h.0 ≡ i = same_event es sound h.0 i f.noted may.noted threads (may'.next ∙ ap (λ u. suc (c u)) threads ∙ sym may.next) in
      ap (moved_by es m x t) (h.1 ∙ ap Some one)

  pub next-none : (x : Pair) (t : ℕ) → ((i : ℕ) → MayFollow es (cut_of x.cut) i → thread_at es i ≡ t → ⊥) → (pairs es n m).next x t ≡ None
  next-none x t none = go (follower es x.cut t (length es)) refl
    where
      go : (o : Option ℕ) → follower es x.cut t (length es) ≡ o → moved_by es m x t o ≡ None
      go None p = refl
      go (Some i) p =
          let f = follower_is es x.cut t (length es) i p in
          absurd (none i ((decides_may_follow es sound (cut_of x.cut) i).0 f.follows) f.own)

  -- a thread whose next event is held back leads nowhere
  pub next_held : (x : Pair) (t i : ℕ) → HasNext es (cut_of x.cut) t i → (MayFollow es (cut_of x.cut) i → ⊥) → (pairs es n m).next x t ≡ None
  next_held x t i next held =
      let c : Cut = cut_of x.cut in
      next-none x t (λ j may own.
      held (subst (MayFollow es c)
      (same_event es sound j i may.noted next.noted (own ∙ sym next.own) (may.next ∙ ap (λ u. suc (c u)) own ∙ sym next.place)) may))
