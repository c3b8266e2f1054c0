-- The tables of latest writes and acquires, and what they say of the next event.
use Rattle.std.proofs.Common.{◌≡◌, ℕ, suc, ◌<◌, ◌≤◌, max, cond, eqb, ◌⊎◌, List, length, get_or, set, replicate, Some, None, Option, sym, refl, ap, ◌∙◌, subst, ap₂, inl, inr, arith}
use Rattle.std.proofs.lemmas.List.{length-set, get_or-set_same, get_or-set_other, get_or-replicate, length-replicate}
use Rattle.std.proofs.lemmas.Bool.{cases_lt, cases_eq, cases_order, eq-eqb, ne_eqb, cond-true, cond-false}
use Rattle.events.specs.declared.event.Event.{Event}
use Rattle.order.specs.declared.row.Row.{Row}
use Rattle.order.specs.Trace.{blank, kind_at, subject_at, Is, Reads, Releases}
use Rattle.order.specs.Before.{NoneBetween, Feeds, Before, UpTo}
use Rattle.order.specs.Before.Before.{fed, chain}
use Rattle.order.specs.Before.Feeds.{value, hold}
use Rattle.order.specs.Clocks.{clock_at}
use Rattle.order.specs.Sound.{Sound}
use Rattle.order.specs.Maps.{Source}
use Rattle.order.proofs.Order.{feeds_later}
use Rattle.order.proofs.Decided.{feeds_noted}
use Rattle.order.proofs.Rows.{same_threads, same_places}
use Rattle.order.proofs.Feeders.{clash, agree, release_from, fed_write, feeds_ends, one_feeder}
use Rattle.order.proofs.Clocks.{scan_counts}
use Rattle.order.proofs.Numbers.{within}
use Rattle.order.proofs.Kept.{at, base, clock_met, own_clock}
use Rattle.mapping.specs.declared.latest.Latest.{Latest}
use Rattle.mapping.specs.Latest.{feeder, source_of, met, with_latest}

-- w is event i's row, with the clock of the scan
pub record Written (es : List Event) (i : ℕ) (w : Row) : Type 0 where
  pub event : w.event ≡ get_or es i blank
  pub source : Source es i w.source.0 w.source.1
  pub width : length w.clock ≡ 8
  pub clock : (j : ℕ) → j < 8 → get_or w.clock j 0 ≡ clock_at es i j

-- the row of the latest of the first k events that is of this kind and subject, if there is one
abbrev pub LatestRow : List Event → ℕ → ℕ → ℕ → Option Row → Type 0
LatestRow es kind s k (Some r) = (w : ℕ) × (w < k) × Is es kind s w × NoneBetween w k (Is es kind s) × Written es w r
LatestRow es kind s k None = (w : ℕ) → w < k → Is es kind s w → ⊥

pub record Table (es : List Event) (kind n k : ℕ) (table : List (Option Row)) : Type 0 where
  pub size : length table ≡ n
  pub each : (s : ℕ) → s < n → LatestRow es kind s k (get_or table s None)

module _ (es : List Event) (kind n : ℕ) where
  pub table_none : Table es kind n 0 (replicate n None)
  table_none = record {
    size = length-replicate n None;
    each = λ s h. subst (LatestRow es kind s 0) (sym (get_or-replicate n s None None h)) (λ w l. absurd (omega arith));
  }

  module _ (k : ℕ) where
    latest_kept : (s : ℕ) (r : Option Row) → (Is es kind s k → ⊥) → LatestRow es kind s k r → LatestRow es kind s (suc k) r
    latest_kept s (Some r) n w = (
      w.0,
      omega (arith, w.1),
      w.2,
      (λ q a b h. elim (cases_lt q k) [ inl l ↦ w.3 q a l h | inr l ↦ let z : q ≡ k = omega arith in n (subst (Is es kind s) z h) ]),
      w.4,
    )
    latest_kept s None n w = λ q b h. elim (cases_lt q k) [ inl l ↦ w q l h | inr l ↦ let z : q ≡ k = omega arith in n (subst (Is es kind s) z h) ]

    pub table_next : (table : List (Option Row)) (r : Row) → k < length es → Written es k r → (kind_at es k ≡ kind → subject_at es k < n)
        → Table es kind n k table → Table es kind n (suc k) (with_latest kind table (get_or es k blank) r)
    table_next table r h here below t =
        let x : ℕ = subject_at es k in
        (elim (cases_eq (kind_at es k) kind) [
          | inl q ↦
              subst (Table es kind n (suc k)) (sym (cond-true (eqb (kind_at es k) kind) (set table x (Some r)) table (eq-eqb (kind_at es k) kind q)))
              (record {
                size = length-set table x (Some r) ∙ t.size;
                each = λ s l.
                    elim (cases_eq x s) [
                      | inl e ↦
                          let z : get_or (set table x (Some r)) s None ≡ Some r
                          = subst (λ y. get_or (set table x (Some r)) y None ≡ Some r) e (get_or-set_same table x (Some r) None (omega (arith, below q, t.size))) in
                          subst (LatestRow es kind s (suc k)) (sym z)
                          (k, omega arith, record { noted = h; kind = q; subject = e }, (λ q a b. absurd (omega arith)), here)
                      | inr e ↦
                          subst (LatestRow es kind s (suc k)) (sym (get_or-set_other table x s (Some r) None (λ z. e (sym z))))
                          (latest_kept s (get_or table s None) (λ i. e i.subject) (t.each s l))
                    ];
              })
          | inr q ↦
              subst (Table es kind n (suc k)) (sym (cond-false (eqb (kind_at es k) kind) (set table x (Some r)) table (ne_eqb (kind_at es k) kind q)))
              (record {
                size = t.size;
                each = λ s l. latest_kept s (get_or table s None) (λ i. q i.kind) (t.each s l);
              })
        ])

-- the row of what feeds event k, if something does
abbrev pub FedBy : List Event → ℕ → Option Row → Type 0
FedBy es k (Some r) = (e : ℕ) × Feeds es e k × Written es e r
FedBy es k None = (e : ℕ) → Feeds es e k → ⊥

-- What the tables say feeds the next event does.
module _ (es : List Event) (sound : Sound es) (k : ℕ) (h : k < length es) where
  from_write : (x : ℕ) (r : Option Row) → Reads es x k → LatestRow es 2 x k r → FedBy es k r
  from_write x (Some r) p w = (w.0, value x w.2 p w.1 w.3, w.4)
  from_write x None p w = λ e f. let g = fed_write es e k x p f in w e g.1 g.0

  -- the acquire that feeds a release is the latest
  same_acquire : (l w e : ℕ) → w < k → Is es 3 l w → NoneBetween w k (Is es 3 l) → Is es 3 l e → Feeds es e k → e ≡ w
  same_acquire l w e a b n c (value x u r v o) = clash es 3 l 2 x e (λ z. omega arith) c u
  same_acquire l w e a b n c (hold x u r v o) =
      elim (cases_order e w) [
        | inl q ↦ q
        | inr q ↦ elim q [
          | inl z ↦ absurd (o w z a (inl (subst (λ y. Is es 3 y w) (agree es 3 l 3 x e c u) b)))
          | inr z ↦ absurd (n e z v c)
        ]
      ]

  from_acquire : (l : ℕ) (r : Option Row) → Releases es l k → LatestRow es 3 l k r → FedBy es k r
  from_acquire l None p w =
      let e = release_from es sound l k p in
      absurd (w e.0 (feeds_later es sound e.0 k e.1) e.2)
  from_acquire l (Some r) p w =
      let e = release_from es sound l k p in
      let q : e.0 ≡ w.0 = same_acquire l w.0 e.0 w.1 w.2 w.3 e.2 e.1 in
      (w.0, subst (λ i. Feeds es i k) q e.1, w.4)

  no_feeder : (kind_at es k ≡ 1 → ⊥) → (kind_at es k ≡ 4 → ⊥) → FedBy es k None
  no_feeder a b e f = none (feeds_ends es e k f)
    where
      none : (x : ℕ) × (Reads es x k ⊎ Releases es x k) → ⊥
      none (x, inl r) = a r.kind
      none (x, inr r) = b r.kind

  pub fed_by : (s : Latest) → Table es 2 32 k s.writes → Table es 3 16 k s.acquires
      → subject_at es k < 32 → (2 < kind_at es k → subject_at es k < 16) → FedBy es k (feeder s (get_or es k blank))
  fed_by s writes acquires u v =
      let x : ℕ = subject_at es k in
      let w : Option Row = get_or s.writes x None in
      let a : Option Row = get_or s.acquires x None in
      let rest : Option Row = cond (eqb (kind_at es k) 4) a None in
      elim (cases_eq (kind_at es k) 1) [
        | inl q ↦
            subst (FedBy es k) (sym (cond-true (eqb (kind_at es k) 1) w rest (eq-eqb (kind_at es k) 1 q)))
            (from_write x w (record { noted = h; kind = q; subject = refl }) (writes.each x u))
        | inr q ↦
            subst (FedBy es k) (sym (cond-false (eqb (kind_at es k) 1) w rest (ne_eqb (kind_at es k) 1 q)))
            (elim (cases_eq (kind_at es k) 4) [
              | inl z ↦
                  subst (FedBy es k) (sym (cond-true (eqb (kind_at es k) 4) a None (eq-eqb (kind_at es k) 4 z)))
                  (from_acquire x a (record { noted = h; kind = z; subject = refl }) (acquires.each x (v (omega arith))))
              | inr z ↦
                  subst (FedBy es k) (sym (cond-false (eqb (kind_at es k) 4) a None (ne_eqb (kind_at es k) 4 z)))
                  (no_feeder q z)
            ])
      ]

  pub fed_source : (r : Option Row) → FedBy es k r → Source es k (source_of r).0 (source_of r).1
  fed_source (Some r) f = inl (f.0, f.1, same_threads f.2.event, same_places f.2.event)
  fed_source None f = inr (f, refl, refl)

  -- what is before event e, or is it, is also before what e feeds
  clock_up : (e j : ℕ) → Feeds es e k → at es sound e j ≤ at es sound k j
  clock_up e j f =
      let l = (feeds_noted es e k f).0 in
      let u = within es sound e j (scan_counts es sound e j l) (omega arith) in
      let w = within es sound k j (scan_counts es sound k j h) (omega arith) in
      let x = own_clock es sound e j in
      let y = own_clock es sound k j in
      elim (cases_lt 0 (at es sound e j)) [
        | inl z ↦
            let s = u.attained (omega arith) in
            let up : UpTo es s.0 k = elim s.4 [ inl q ↦ inr (subst (λ i. Before es i k) (sym q) (fed f)) | inr b ↦ inr (chain b (fed f)) ] in
            omega (arith, (w.passes s.0 s.1 s.2).0 up, s.3)
        | inr z ↦ omega arith
      ]

  -- the thread's clock with one more, where it meets that of what feeds the event
  pub fed_clock : (r : Option Row) → FedBy es k r → (j n c : ℕ) → j < 8 → n ≡ base es sound k j → c ≡ met r j n → c ≡ at es sound k j
  fed_clock None f j n c l own e = clock_met es sound k j c h (λ x w r g. absurd (f w g)) (λ none. e ∙ own)
  fed_clock (Some r) f j n c l own e =
      let z : c ≡ max (base es sound k j) (at es sound f.0 j) = e ∙ ap₂ max own (f.2.clock j l ∙ own_clock es sound f.0 j) in
      clock_met es sound k j c h
      (λ x w r g. z ∙ ap (λ i. max (base es sound k j) (at es sound i j)) (one_feeder es f.0 w k f.1 g))
      (λ none.
      let own_alone = clock_met es sound k j (base es sound k j) h (λ x w r g. absurd (none x w r g)) (λ n. refl) in
      omega (arith, z, clock_up f.0 j f.1, own_alone))
