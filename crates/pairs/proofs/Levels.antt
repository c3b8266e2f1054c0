-- The pairs are in levels, a test tells pairs apart, and counts tell which cuts are full.
use Rattle.std.proofs.Common.{◌≡◌, ℕ, zero, suc, ◌+◌, ◌<◌, ◌≤◌, Bool, true, false, ◌&&◌, eqb, leb, List, [], ◌∷◌, length, get_or, Decides, sym, refl, ap, ◌∙◌, subst, ap₂, inl, inr, arith}
use Rattle.std.proofs.lemmas.Bool.{cases_lt, cases_eq, eqb-true, eq-eqb, and_parts, and_from}
use Rattle.std.proofs.lemmas.Bool.Decides.{Decides-eqb, Decides-and}
use Rattle.std.proofs.lemmas.List.{length-set, ext_get_or, take_all}
use Rattle.events.specs.declared.event.Event.{Event}
use Rattle.events.specs.Noting.{count_of}
use Rattle.order.specs.Trace.{thread_at}
use Rattle.order.specs.Cuts.{Cut, advance, Full}
use Rattle.order.specs.Sound.{count}
use Rattle.order.specs.Tests.{every}
use Rattle.order.specs.Reached.{cut_of, same_counts}
use Rattle.order.proofs.Places.{count_own, count_up, count_met}
use Rattle.order.proofs.Cuts.{advance_own, advance_other}
use Rattle.order.proofs.Decided.{decides_every, decides_leb}
use Rattle.order.proofs.Noting.{count_take}
use Rattle.explore.specs.System.{System, Steps, Goes, here, along}
use Rattle.explore.specs.Levels.{Levelled, Tells}
use Rattle.monitor.specs.Meaning.{Meaning}
use Rattle.pairs.specs.declared.pair.Pair.{Pair}
use Rattle.pairs.specs.Pairs.{pair_of, pairs, full, hit, same, total, size_of}
use Rattle.pairs.specs.Judged.{LeadsTo}
use Rattle.pairs.proofs.Steps.{Given, cut_advanced, zeros, next_is}
use Rattle.pairs.proofs.Reaching.{decides_full}

same_counts_eq : (c d : List ℕ) → same_counts c d ≡ true → c ≡ d
same_counts_eq [] [] h = refl
same_counts_eq [] (y ∷ d) h = cc
same_counts_eq (x ∷ c) [] h = cc
same_counts_eq (x ∷ c) (y ∷ d) h =
    let p = and_parts (eqb x y) (same_counts c d) h in ap₂ (λ u us. u ∷ us) (eqb-true x y p.0) (same_counts_eq c d p.1)

same_counts_self : (c : List ℕ) → same_counts c c ≡ true
same_counts_self [] = refl
same_counts_self (x ∷ c) = and_from (eqb x x) (same_counts c c) (eq-eqb x x refl) (same_counts_self c)

-- the test tells pairs apart
pub told : Tells same
told = record {
  equal = λ x y h.
      let p = and_parts (eqb x.code y.code) (same_counts x.cut y.cut) h in
      ap₂ pair_of (same_counts_eq x.cut y.cut p.1) (eqb-true x.code y.code p.0);
  self = λ x. and_from (eqb x.code x.code) (same_counts x.cut x.cut) (eq-eqb x.code x.code refl) (same_counts_self x.cut);
}

total_more : (t : ℕ) (f : ℕ → ℕ) (k : ℕ) → (t < k → total (advance t f) k ≡ suc (total f k)) × (k ≤ t → total (advance t f) k ≡ total f k)
total_more t f zero = ((λ l. absurd (omega arith)), (λ l. refl))
total_more t f (suc k) =
    let ih = total_more t f k in (
      (λ l. elim (cases_lt t k) [
        | inl b ↦ omega (arith, ih.0 b, advance_other t f k (λ e. omega arith))
        | inr b ↦ omega (arith, ih.1 b, advance_own t f k (omega arith))
      ]),
      (λ l. omega (arith, ih.1 (omega arith), advance_other t f k (λ e. omega arith))),
    )

total_up : (f h : ℕ → ℕ) (k : ℕ) → ((t : ℕ) → t < k → f t ≤ h t) → total f k ≤ total h k
total_up f h zero le = omega arith
total_up f h (suc k) le = omega (arith, le k (omega arith), total_up f h k (λ t l. le t (omega arith)))

-- where the sums are equal, so is each part
total_tight : (f h : ℕ → ℕ) (k : ℕ) → ((t : ℕ) → t < k → f t ≤ h t) → total f k ≡ total h k → (t : ℕ) → t < k → f t ≡ h t
total_tight f h zero le e t l = absurd (omega arith)
total_tight f h (suc k) le e t l =
    let a = le k (omega arith) in
    let b = total_up f h k (λ u q. le u (omega arith)) in
    elim (cases_lt t k) [
      | inl q ↦ total_tight f h k (λ u z. le u (omega arith)) (omega arith) t q
      | inr q ↦
          let w : f k ≡ h k = omega arith in
          let z : k ≡ t = omega arith in
          subst (λ u. f u ≡ h u) z w
    ]

total_none : (k : ℕ) → total (λ t. 0) k ≡ 0
total_none zero = refl
total_none (suc k) = omega (arith, total_none k)

total_count : (es : List Event) → ((i : ℕ) → i < length es → thread_at es i < 8) → (k : ℕ) → k ≤ length es → total (λ t. count es t k) 8 ≡ k
total_count es few zero l = total_none 8
total_count es few (suc k) l = (total_more (thread_at es k) (λ t. count es t k) 8).0 (few k l) ∙ ap suc (total_count es few k (omega arith))

one_test : {P : Type 0} (x y : Bool) → Decides x P → Decides y P → x ≡ y
one_test true true d e = refl
one_test true false d e = sym (e.1 (d.0 refl))
one_test false true d e = d.1 (e.0 refl)
one_test false false d e = refl

module _ {N : Type 0} (S : System N) (top : ℕ) (v : Levelled S top) where
  -- a path from a good node leads to a good node, one level up by each label
  pub goes_good : {x y : N} {p : List ℕ} → Goes S x p y → v.good x ≡ true → (v.good y ≡ true) × (v.level x + length p ≡ v.level y)
  goes_good here ok = (ok, omega arith)
  goes_good (along {n = x} {m = y} {a = a} e g) ok =
      let h = goes_good g (v.good_next x y a ok e) in
      (h.0, omega (arith, h.1, v.level_next x y a ok e))

module _ (es : List Event) (n : ℕ) (m : Meaning) (g : Given es n) where
  -- how many events thread t has
  abbrev all : Cut
  all t = count es t (length es)

  abbrev good : Pair → Bool
  good x = eqb (length x.cut) 8 && every (λ t. leb (get_or x.cut t 0) (all t)) 8

  abbrev Good : Pair → Type 0
  Good x = (length x.cut ≡ 8) × ((t : ℕ) → t < 8 → get_or x.cut t 0 ≤ all t)

  few8 : (i : ℕ) → i < length es → thread_at es i < 8
  few8 i l = let a = g.few in let b = g.threads i l in omega arith

  decides_good : (x : Pair) → Decides (good x) (Good x)
  decides_good x =
      Decides-and _ _ (Decides-eqb (length x.cut) 8)
      (decides_every (λ t. leb (get_or x.cut t 0) (all t)) (λ t. get_or x.cut t 0 ≤ all t) (λ t. decides_leb (get_or x.cut t 0) (all t)) 8)

  cut_next : (x y : Pair) (t : ℕ) → length x.cut ≡ 8 → Steps (pairs es n m) x t y → cut_of y.cut ≡ advance t (cut_of x.cut)
  cut_next x y t w s =
      let few = g.few in
      let below : t < n = s.0 in
      ap (λ (z : Pair). cut_of z.cut) (next_is es g.sound n m x y t s.1).is ∙ cut_advanced x.cut t (omega arith)

  good_to : (x y : Pair) (t : ℕ) → Good x → Steps (pairs es n m) x t y → Good y
  good_to x y t h st =
      let s = next_is es g.sound n m x y t st.1 in
      let i : ℕ = s.event in
      let c : Cut = cut_of x.cut in
      let at = cut_next x y t h.0 st in
      let next = s.follows.next in
      let noted = s.follows.noted in
      let own = ap c s.own in
      let place = g.sound.places i noted in
      let tie : count es (thread_at es i) i ≡ count es t i = ap (λ u. count es u i) s.own in
      let one = count_own es t i s.own in
      let up = count_up es t (suc i) (length es) noted in (
        ap (λ (z : Pair). length z.cut) s.is ∙ length-set x.cut t (get_or x.cut t 0 + 1) ∙ h.0,
        (λ u b. elim (cases_eq t u) [
          | inl q ↦
              let a : cut_of y.cut t ≡ suc (c t) = ap (λ (f : Cut). f t) at ∙ advance_own t c t refl in
              subst (λ v. get_or y.cut v 0 ≤ all v) q (omega arith)
          | inr d ↦
              let a : cut_of y.cut u ≡ c u = ap (λ (f : Cut). f u) at ∙ advance_other t c u d in
              omega (arith, h.1 u b)
        ]),
      )

  top : total all 8 ≡ length es
  top = total_count es few8 (length es) (omega arith)

  pub levelled : Levelled (pairs es n m) (length es)
  levelled = record {
    level = λ x. size_of x.cut;
    good = good;
    good_first = (decides_good (pairs es n m).first).1 (refl, λ t l. omega (arith, zeros 8 t));
    good_next = λ x y t h s. (decides_good y).1 (good_to x y t ((decides_good x).0 h) s);
    level_first = refl;
    level_next = λ x y t h s.
        let few = g.few in
        let below : t < n = s.0 in
        let more : total (advance t (cut_of x.cut)) 8 ≡ suc (total (cut_of x.cut) 8) = (total_more t (cut_of x.cut) 8).0 (omega arith) in
        let q : total (cut_of y.cut) 8 ≡ total (advance t (cut_of x.cut)) 8
        = ap (λ (f : Cut). total f 8) (cut_next x y t ((decides_good x).0 h).0 s) in
        omega (arith, q ∙ more);
    level_top = λ x h. omega (arith, total_up (cut_of x.cut) all 8 ((decides_good x).0 h).1, top);
  }

  pub level_is : (x : Pair) → levelled.level x ≡ size_of x.cut
  unfolding levelled
  level_is x = refl

  -- each thread has at most as many events in the cut as it has
  reached_good : (p : List ℕ) (x : Pair) → LeadsTo es n m p x → Good x
  unfolding levelled
  reached_good p x go = (decides_good x).0 (goes_good (pairs es n m) (length es) levelled go levelled.good_first).0

  -- a full cut has every thread's events
  full_all : (c : List ℕ) → Full es (cut_of c) → (t : ℕ) → all t ≤ get_or c t 0
  full_all c f t = go (all t) refl
    where
      go : (k : ℕ) → all t ≡ k → all t ≤ get_or c t 0
      go zero e = omega arith
      go (suc p) e =
          let j = count_met es t p (length es) (omega arith) in
          let a = f j.0 j.1 in
          let b : get_or c (thread_at es j.0) 0 ≡ get_or c t 0 = ap (λ u. get_or c u 0) j.2 in
          let k : count es (thread_at es j.0) j.0 ≡ p = ap (λ u. count es u j.0) j.2 ∙ j.3 in
          omega (arith, g.sound.places j.0 j.1)

  all_full : (c : List ℕ) → ((t : ℕ) → t < 8 → get_or c t 0 ≡ all t) → Full es (cut_of c)
  all_full c h i l =
      let own = count_own es (thread_at es i) i refl in
      let up = count_up es (thread_at es i) (suc i) (length es) l in
      omega (arith, g.sound.places i l, h (thread_at es i) (few8 i l))

  -- the sum tells whether a cut that can be reached is full
  pub full_by_sum : (p : List ℕ) (x : Pair) → LeadsTo es n m p x → Decides (full es x.cut) (size_of x.cut ≡ length es)
  full_by_sum p x go =
      let ok = reached_good p x go in
      let d = decides_full es x.cut in (
        (λ f.
            let low = total_up all (cut_of x.cut) 8 (λ t l. full_all x.cut (d.0 f) t) in
            let high = total_up (cut_of x.cut) all 8 ok.1 in
            omega (arith, top)),
        (λ e. d.1 (all_full x.cut (total_tight (cut_of x.cut) all 8 ok.1 (e ∙ sym top)))),
      )

  count_all : (t : ℕ) → count_of t es ≡ all t
  count_all t = ap (count_of t) (sym (take_all (length es) es (omega arith))) ∙ count_take es t (length es) (omega arith)

  -- and so do the counts
  pub full_by_counts : (counts : List ℕ) → length counts ≡ 8 → ((t : ℕ) → t < 8 → get_or counts t 0 ≡ count_of t es)
      → (p : List ℕ) (x : Pair) → LeadsTo es n m p x → Decides (full es x.cut) (x.cut ≡ counts)
  full_by_counts counts w h p x go =
      let ok = reached_good p x go in
      let d = decides_full es x.cut in (
        (λ f. ext_get_or 0 x.cut counts (ok.0 ∙ sym w) (λ t l.
            let b : t < 8 = omega (arith, ok.0) in
            omega (arith, ok.1 t b, full_all x.cut (d.0 f) t, h t b, count_all t))),
        (λ e. d.1 (all_full x.cut (λ t l. ap (λ c. get_or c t 0) e ∙ h t l ∙ count_all t))),
      )

  -- so a hit can be told by a test that compares the counts
  pub hit_by_counts : (counts : List ℕ) → length counts ≡ 8 → ((t : ℕ) → t < 8 → get_or counts t 0 ≡ count_of t es)
      → (p : List ℕ) (x : Pair) → LeadsTo es n m p x → (b : Bool) → Decides b (x.cut ≡ counts) → hit es m x ≡ (b && m.bad x.code)
  hit_by_counts counts w h p x go b d =
      ap (λ f. f && m.bad x.code) (one_test (full es x.cut) b (full_by_counts counts w h p x go) d)
