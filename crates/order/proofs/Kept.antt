-- Clocks that are kept by the rule are the scan's.
use Rattle.std.proofs.Common.{◌≡◌, ℕ, zero, suc, ◌<◌, ◌≤◌, max, cond, eqb, List, length, get_or, sym, refl, ap, ◌∙◌, subst, ap₂, inl, inr, arith}
use Rattle.std.proofs.lemmas.Bool.{cases_lt, cases_eq}
use Rattle.events.specs.declared.event.Event.{Event}
use Rattle.order.specs.Trace.{blank, thread_at, kind_at, subject_at, Reads, Writes}
use Rattle.order.specs.Before.{NoneBetween, Feeds}
use Rattle.order.specs.Clocks.{Counts, Clock, Clocks, zeros, tick, clock_of, scan, Kept}
use Rattle.order.specs.Sound.{Sound}
use Rattle.order.proofs.Feeders.{reads_from, no_feeder, fed_write}
use Rattle.order.proofs.Clocks.{knows, next_writes, next_threads, clock_read, clock_plain, put_own, scan_counts}

module _ (es : List Event) (sound : Sound es) where
  -- event k's clock in the scan
  abbrev pub at : ℕ → Clock
  at k = clock_of (scan es k) (get_or es k blank)

  unwritten : (k x : ℕ) → k ≤ length es → ((i : ℕ) → i < k → Writes es x i → ⊥) → (scan es k).writes x ≡ zeros
  unwritten zero x l n = refl
  unwritten (suc k) x l n =
      elim (next_writes es sound k l (scan es k) (knows es sound k (omega arith)) x) [
        | inl q ↦ absurd (n k (omega arith) q.0)
        | inr q ↦ q.1 ∙ unwritten k x (omega arith) (λ i h. n i (omega arith))
      ]

  latest : (k x w : ℕ) → k ≤ length es → w < k → Writes es x w → NoneBetween w k (Writes es x) → (scan es k).writes x ≡ at w
  latest zero x w l h a n = absurd (omega arith)
  latest (suc k) x w l h a n =
      elim (next_writes es sound k l (scan es k) (knows es sound k (omega arith)) x) [
        | inl q ↦
            elim (cases_lt w k) [
              | inl b ↦ absurd (n k b (omega arith) q.0)
              | inr b ↦ let z : k ≡ w = omega arith in q.1 ∙ ap at z
            ]
        | inr q ↦
            elim (cases_lt w k) [
              | inl b ↦ q.1 ∙ latest k x w (omega arith) b a (λ i u v. n i u (omega arith))
              | inr b ↦ let z : w ≡ k = omega arith in absurd (q.0 (subst (Writes es x) z a))
            ]
      ]

  -- what the rule gives, event k's clock in the scan is
  abbrev pub base : ℕ → Clock
  base k = tick (thread_at es k) ((scan es k).threads (thread_at es k))

  pub clock_met : (k j m : ℕ) → k < length es
      → ((x w : ℕ) → Reads es x k → Feeds es w k → m ≡ max (base k j) (at w j))
      → (((x w : ℕ) → Reads es x k → Feeds es w k → ⊥) → m ≡ base k j)
      → m ≡ at k j
  clock_met k j m l reads plain =
      let s : Clocks = scan es k in
      let known = knows es sound k (omega arith) in
      let x : ℕ = subject_at es k in
      elim (cases_eq (kind_at es k) 1) [
        | inl q ↦
            let r : Reads es x k = record { noted = l; kind = q; subject = refl } in
            let z : at k j ≡ max (base k j) (s.writes x j) = ap (λ (d : Clock). d j) (clock_read es sound k l s known q) in
            elim (reads_from es x k r) [
              | inl e ↦
                  let y : s.writes x j ≡ 0 = ap (λ (d : Clock). d j) (unwritten k x (omega arith) e.1) in
                  omega (arith, plain (λ x' w r' f. no_feeder es w k x e f))
              | inr f ↦
                  let g = fed_write es f.0 k x r f.1 in
                  let y : s.writes x j ≡ at f.0 j = ap (λ (d : Clock). d j) (latest k x f.0 (omega arith) g.1 g.0 g.2) in
                  omega (arith, reads x f.0 r f.1)
            ]
        | inr q ↦
            let z : at k j ≡ base k j = ap (λ (d : Clock). d j) (clock_plain es sound k l s known q) in
            plain (λ x' w r f. q r.kind) ∙ sym z
      ]

  -- the thread's clock behind event k is event k's
  pub own_clock : (k j : ℕ) → (scan es (suc k)).threads (thread_at es k) j ≡ at k j
  own_clock k j = ap (λ (d : Clock). d j) (put_own (thread_at es k) (thread_at es k) (at k) (scan es k).threads refl)

  module _ (n : ℕ) (few : (i : ℕ) → i < length es → thread_at es i < n) (v : ℕ → ℕ → Clock) (c : ℕ → Clock) (kept : Kept es n v c) where
    record Same (k : ℕ) : Type 0 where
      threads : (t j : ℕ) → t < n → j < 8 → v k t j ≡ (scan es k).threads t j
      events : (w j : ℕ) → w < k → j < 8 → c w j ≡ at w j

    module _ (k : ℕ) (l : k < length es) (same : Same k) (j : ℕ) (h : j < 8) where
      base_same : tick (thread_at es k) (v k (thread_at es k)) j ≡ base k j
      base_same = ap (λ m. cond (eqb (thread_at es k) j) (suc m) m) (same.threads (thread_at es k) j (few k l) h)

      clock_same : c k j ≡ at k j
      clock_same =
          clock_met k j (c k j) l
          (λ x w r f. kept.reads k x w j l h r f ∙ ap₂ max base_same (same.events w j (fed_write es w k x r f).1 h))
          (λ no_one. kept.plain k j l h no_one ∙ base_same)

    same_next : (k : ℕ) → k < length es → Same k → Same (suc k)
    same_next k l same = record {
      threads = λ t j a h.
          elim (next_threads es sound k l (scan es k) (knows es sound k (omega arith)) t) [
            | inl q ↦
                let y : v (suc k) t j ≡ c k j = subst (λ u. v (suc k) u j ≡ c k j) q.0 (kept.own k j l h) in
                y ∙ clock_same k l same j h ∙ sym (ap (λ (d : Clock). d j) q.1)
            | inr q ↦ kept.others k t j l a h q.0 ∙ same.threads t j a h ∙ sym (ap (λ (d : Clock). d j) q.1)
          ];
      events = λ w j a h.
          elim (cases_lt w k) [
            | inl b ↦ same.events w j b h
            | inr b ↦ let z : k ≡ w = omega arith in subst (λ u. c u j ≡ at u j) z (clock_same k l same j h)
          ];
    }

    same_all : (k : ℕ) → k ≤ length es → Same k
    same_all zero l = record { threads = λ t j a h. kept.starts t j a h; events = λ w j a h. absurd (omega arith) }
    same_all (suc k) l = same_next k l (same_all k (omega arith))

pub kept_counts : (es : List Event) → Sound es → (n : ℕ) → ((i : ℕ) → i < length es → thread_at es i < n)
    → (v : ℕ → ℕ → Clock) (c : ℕ → Clock) → Kept es n v c
    → (k j : ℕ) → k < length es → j < 8 → Counts es k j (c k j)
kept_counts es sound n few v c kept k j l h =
    let z = clock_same es sound n few v c kept k l (same_all es sound n few v c kept k (omega arith)) j h in
    subst (Counts es k j) (own_clock es sound k j ∙ sym z) (scan_counts es sound k j l)
