-- The sums of a table over the places of each thread.
use Rattle.std.proofs.Common.{◌≡◌, ℕ, suc, ◌+◌, ◌-◌, ◌<◌, ◌≤◌, List, length, get_or, sym, ap, ◌∙◌, subst, inl, inr, arith}
use Rattle.std.proofs.lemmas.Bool.{cases_eq}
use Rattle.follow.specs.declared.tables.Tally.{Tally}
use Rattle.follow.specs.Made.{tally_at}
use Rattle.follow.specs.Filling.{both, Summed, SummedAt}

abbrev none : Tally
none = record { led = 0; taken = 0 }

-- ys has the sums of the thread whose cells begin at f, below i; all else is as in xs
pub record Sums (xs ys : List Tally) (f i : ℕ) : Type 0 where
  pub size : length ys ≡ 98304
  pub before : (k : ℕ) → k < f + 48 → get_or ys k none ≡ get_or xs k none
  pub later : (k : ℕ) → i ≤ k → get_or ys k none ≡ get_or xs k none
  pub more : (k : ℕ) → f + 48 ≤ k → k < i → get_or ys k none ≡ both (get_or xs k none) (get_or ys (k - 48) none)

-- ys is summed up at the threads below n, and as xs at the others
pub record SummedBelow (xs ys : List Tally) (n : ℕ) : Type 0 where
  pub first : (t b : ℕ) → t < 8 → b < 48 → tally_at ys t 0 b ≡ tally_at xs t 0 b
  pub more : (t c b : ℕ) → t < n → suc c < 256 → b < 48
      → tally_at ys t (suc c) b ≡ both (tally_at xs t (suc c) b) (tally_at ys t c b)
  pub later : (t c b : ℕ) → n ≤ t → t < 8 → c < 256 → b < 48 → tally_at ys t c b ≡ tally_at xs t c b

pub summed_more : (xs ys zs : List Tally) (n : ℕ) → n < 8 → SummedBelow xs ys n → SummedAt ys zs n → SummedBelow xs zs (n + 1)
summed_more xs ys zs n near s h = record {
  first = λ t b l m.
      elim (cases_eq t n) [
        | inl e ↦ subst (λ u. tally_at zs u 0 b ≡ tally_at ys u 0 b) (sym e) (h.first b m)
        | inr d ↦ h.others t 0 b d l (omega arith) m
      ]
      ∙ s.first t b l m;
  more = λ t c b l m o.
      elim (cases_eq t n) [
        | inl e ↦
            subst (λ u. tally_at zs u (suc c) b ≡ both (tally_at xs u (suc c) b) (tally_at zs u c b)) (sym e)
            (h.more c b m o ∙ ap (λ a. both a (tally_at zs n c b)) (s.later n (suc c) b (omega arith) near m o))
        | inr d ↦
            h.others t (suc c) b d (omega arith) m o ∙ s.more t c b (omega arith) m o
            ∙ ap (both (tally_at xs t (suc c) b)) (sym (h.others t c b d (omega arith) (omega arith) o))
      ];
  later = λ t c b l m o p. h.others t c b (λ e. omega arith) m o p ∙ s.later t c b (omega arith) m o p;
}

pub summed : (xs ys : List Tally) → SummedBelow xs ys 8 → Summed xs ys
summed xs ys s = record { first = s.first; more = s.more }
