-- What the codes of sets keep.
use Rattle.std.proofs.Common.{◌≡◌, ℕ, zero, suc, ◌+◌, ◌*◌, ◌/◌, ◌%◌, ◌^◌, ◌<◌, ◌≤◌, Bool, true, false, cond, ◌||◌, eqb, ◌⊎◌, Decides, sym, refl, ap, ◌∙◌, inl, inr, pow-suc, arith}
use lib.Pow.{high}
use lib.Bits.{bit_or, or_block}
use Rattle.std.proofs.lemmas.Nat.{pow_pos, div-add-mod', mod_below, div_below}
use Rattle.std.proofs.lemmas.Nat.Bits.{bit_at_cat_low, bit_at_above}
use Rattle.std.proofs.lemmas.Bool.{eq-eqb, ne_eqb, cases_order, or_left, or_right}
use Rattle.std.proofs.lemmas.Bool.Decides.{Decides-below_or}
use Rattle.codes.specs.Codes.{bit_of, code_of, some}

pub code_lt : (n : ℕ) (p : ℕ → Bool) → code_of n p < 2 ^ n
unfolding code_of
code_lt zero p = omega arith
code_lt (suc n) p =
    let ih = code_lt n p in
    elim (p n) as (λ b. cond b 1 0 * 2 ^ n + code_of n p < 2 ^ suc n) [ true ↦ omega (arith, pow-suc 2 n) | false ↦ omega (arith, pow-suc 2 n) ]

pub code_ext : (n : ℕ) (p q : ℕ → Bool) → ((s : ℕ) → s < n → p s ≡ q s) → code_of n p ≡ code_of n q
unfolding code_of
code_ext zero p q h = refl
code_ext (suc n) p q h =
    let ih : code_of n p ≡ code_of n q = code_ext n p q (λ s l. h s (omega arith)) in
    let here : p n ≡ q n = h n (omega arith) in
    rw (here, ih)

pub code_none : (n : ℕ) → code_of n (λ _. false) ≡ 0
unfolding code_of
code_none zero = refl
code_none (suc n) = omega (arith, code_none n)

pub or_code : (n : ℕ) (p q : ℕ → Bool) → bit_or (code_of n p) (code_of n q) ≡ code_of n (λ s. p s || q s)
unfolding code_of
or_code zero p q = refl
or_code (suc n) p q =
    let joined = or_block n (cond (p n) 1 0) (cond (q n) 1 0) (code_of n p) (code_of n q) (code_lt n p) (code_lt n q) in
    let ih = or_code n p q in
    let top : bit_or (cond (p n) 1 0) (cond (q n) 1 0) ≡ cond (p n || q n) 1 0 =
    elim (p n) as (λ x. bit_or (cond x 1 0) (cond (q n) 1 0) ≡ cond (x || q n) 1 0) [
      | true ↦ elim (q n) as (λ y. bit_or 1 (cond y 1 0) ≡ 1) [ true ↦ refl | false ↦ refl ]
      | false ↦ elim (q n) as (λ y. bit_or 0 (cond y 1 0) ≡ cond y 1 0) [ true ↦ refl | false ↦ refl ]
    ] in
    joined ∙ ap (λ x. x * 2 ^ n + bit_or (code_of n p) (code_of n q)) top ∙ ap (λ x. cond (p n || q n) 1 0 * 2 ^ n + x) ih

pub only_code : (n s : ℕ) → s < n → 2 ^ s ≡ code_of n (λ t. eqb t s)
unfolding code_of
only_code zero s h = omega arith
only_code (suc n) s h = go (λ l. only_code n s l) (cases_order s n)
  where
    go : (s < n → 2 ^ s ≡ code_of n (λ t. eqb t s)) → (s ≡ n) ⊎ ((s < n) ⊎ (n < s)) → 2 ^ s ≡ code_of (suc n) (λ t. eqb t s)
    go ih (inl e) =
        let here : eqb n s ≡ true = eq-eqb n s (sym e) in
        let rest : code_of n (λ t. eqb t s) ≡ 0 = code_ext n (λ t. eqb t s) (λ _. false) (λ t l. ne_eqb t s (λ e'. omega arith)) ∙ code_none n in
        let same : 2 ^ s ≡ 2 ^ n = ap (λ x. 2 ^ x) e in
        rw (here, rest) (omega arith)
    go ih (inr (inl l)) =
        let here : eqb n s ≡ false = ne_eqb n s (λ e. omega arith) in
        rw here (omega (arith, ih l))
    go ih (inr (inr l)) = absurd (omega arith)

-- what lies above bit s does not change it
pub bit_low : (a n r s : ℕ) → s < n → bit_of (a * 2 ^ n + r) s ≡ bit_of r s
unfolding bit_of
bit_low a n r s l = ap (λ y. eqb y 1) (bit_at_cat_low a n r s l)

-- a number has no bit that is too high for it
pub bit_over : (n c s : ℕ) → c < 2 ^ n → n ≤ s → bit_of c s ≡ false
unfolding bit_of
bit_over n c s h l = ap (λ y. eqb y 1) (bit_at_above c n s h l)

pub bit_code : (n : ℕ) (p : ℕ → Bool) (s : ℕ) → s < n → bit_of (code_of n p) s ≡ p s
unfolding code_of bit_of
bit_code zero p s h = absurd (omega arith)
bit_code (suc n) p s h = go (λ l. bit_code n p s l) (cases_order s n)
  where
    go : (s < n → bit_of (code_of n p) s ≡ p s) → (s ≡ n) ⊎ ((s < n) ⊎ (n < s)) → bit_of (code_of (suc n) p) s ≡ p s
    go ih (inl e) =
        let top : code_of (suc n) p / 2 ^ s ≡ cond (p n) 1 0 = ap (λ k. code_of (suc n) p / 2 ^ k) e ∙ high (cond (p n) 1 0) n (code_lt n p) in
        ap (λ y. eqb (y % 2) 1) top
        ∙ (elim (p n) as (λ b. eqb (cond b 1 0 % 2) 1 ≡ b) [ true ↦ refl | false ↦ refl ])
        ∙ ap p (sym e)
    go ih (inr (inl l)) = bit_low (cond (p n) 1 0) n (code_of n p) s l ∙ ih l
    go ih (inr (inr l)) = absurd (omega arith)

pub bit_above : (n : ℕ) (p : ℕ → Bool) (s : ℕ) → n ≤ s → bit_of (code_of n p) s ≡ false
bit_above n p s h = bit_over n (code_of n p) s (code_lt n p) h

-- a code is determined by its bits
pub code_bits : (n c : ℕ) → c < 2 ^ n → c ≡ code_of n (bit_of c)
unfolding code_of bit_of
code_bits zero c h = omega arith
code_bits (suc n) c h =
    let q : ℕ = c / 2 ^ n in
    let r : ℕ = c % 2 ^ n in
    let parts : q * 2 ^ n + r ≡ c = div-add-mod' c (2 ^ n) in
    let rest : r < 2 ^ n = mod_below c (2 ^ n) (pow_pos n) in
    let small : q < 2 = div_below c (2 ^ n) 2 (pow_pos n) (omega (arith, pow-suc 2 n)) in
    let ih : r ≡ code_of n (bit_of r) = code_bits n r rest in
    let same : code_of n (bit_of r) ≡ code_of n (bit_of c) =
    code_ext n (bit_of r) (bit_of c) (λ s l. sym (ap (λ x. bit_of x s) (sym parts) ∙ bit_low q n r s l)) in
    let top : cond (eqb (q % 2) 1) 1 0 ≡ q = top_digit q small in
    sym parts ∙ ap (λ x. x * 2 ^ n + r) (sym top) ∙ ap (λ x. cond (eqb (q % 2) 1) 1 0 * 2 ^ n + x) (ih ∙ same)
  where
    top_digit : (q : ℕ) → q < 2 → cond (eqb (q % 2) 1) 1 0 ≡ q
    top_digit zero l = refl
    top_digit (suc zero) l = refl
    top_digit (suc (suc q)) l = absurd (omega arith)

pub some_at : (n : ℕ) (p : ℕ → Bool) (k : ℕ) → k < n → p k ≡ true → some n p ≡ true
unfolding some
some_at zero p k h e = absurd (omega arith)
some_at (suc n) p k h e = go (λ l. some_at n p k l e) (cases_order k n)
  where
    go : (k < n → some n p ≡ true) → (k ≡ n) ⊎ ((k < n) ⊎ (n < k)) → (p n || some n p) ≡ true
    go ih (inl same) = or_left (p n) (some n p) (ap p (sym same) ∙ e)
    go ih (inr (inl l)) = or_right (p n) (some n p) (ih l)
    go ih (inr (inr l)) = absurd (omega arith)

pub some_decides : (p : ℕ → Bool) (P : ℕ → Type 0) → ((k : ℕ) → Decides (p k) (P k)) → (n : ℕ) → Decides (some n p) ((k : ℕ) × (k < n) × P k)
unfolding some
some_decides p P each n = Decides-below_or p P (λ m. some m p) each refl (λ _. refl) n
