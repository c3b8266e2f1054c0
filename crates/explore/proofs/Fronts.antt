-- Rightly found rows with no step left out are the front of every listing.
use Rattle.std.proofs.Common.{◌≡◌, ℕ, zero, suc, ◌<◌, ◌≤◌, true, false, List, length, get_or, take, sym, ap, ◌∙◌, subst, ⊎_elim, arith}
use Rattle.std.proofs.lemmas.List.{get_or_default, same_lists, length-take-le, get_or-take, take_all}
use Rattle.std.proofs.lemmas.Bool.{cases_lt, le-leb, lt-leb}
use Rattle.std.proofs.Math.Nat.{eq-or-lt_of_le}
use Rattle.explore.specs.System.{System, Steps}
use Rattle.explore.specs.Rows.{Row, At, Has, Before, row_at}
use Rattle.explore.specs.Listing.{Found, Listing, Passed, Wanting, none, next}
use Rattle.explore.specs.Upto.{Upto}
use Rattle.explore.specs.Theorems.{RoomHoldsFirst}
use Rattle.explore.proofs.Places.{at_self, at_same, row-at, NoLater, not-before}

-- xs is a front of ys
abbrev pub Front : {A : Type 0} → List A → List A → Type 0
Front {A} xs ys = (length xs ≤ length ys) × ((j : ℕ) (x : A) → At xs j x → At ys j x)

pub front_take : {A : Type 0} (xs ys : List A) → Front xs ys → xs ≡ take (length xs) ys
front_take xs ys h =
    same_lists xs (take (length xs) ys) (sym (length-take-le (length xs) ys h.0))
    (λ k d l. let w = h.1 k (get_or xs k d) (at_self xs k d l) in
    w.1 ∙ get_or_default ys k (get_or xs k d) d w.0 ∙ sym (get_or-take (length xs) ys k d l))

fronts_same : {A : Type 0} (xs ys : List A) → Front xs ys → Front ys xs → xs ≡ ys
fronts_same xs ys h k = front_take xs ys h ∙ take_all (length xs) ys k.0

pub row_same : {N : Type 0} (x y : Row N) → x.node ≡ y.node → x.from ≡ y.from → x.label ≡ y.label → x ≡ y
row_same x y p q r = λ t. record { node = p t; from = q t; label = r t }

module _ {N : Type 0} (S : System N) (xs ys : List (Row N)) (fx : Found S xs) (px : Passed S xs) (ly : Listing S ys) where
  fy : Found S ys
  fy = ly.found

  -- Row j of xs, where the rows ahead of it are those of ys.
  module _ (j : ℕ) (pos : 0 < j) (ih : (k : ℕ) → k < j → (x : Row N) → At xs k x → At ys k x) (x : Row N) (u : At xs j x) where
    up : x.from < j
    up = fx.earlier j x pos u

    -- the row that x was found from
    p : Row N
    p = get_or xs x.from x

    p_at : At xs x.from p
    unfolding p
    p_at = at_self xs x.from x (let h = up in let k = u.0 in omega arith)

    p_step : Steps S p.node x.label x.node
    p_step = fx.stepped j x p pos u p_at

    p_in : At ys x.from p
    p_in = ih x.from up p p_at

    -- where ys has its node
    spot : Has ys x.node
    spot = ly.closed x.from x.label p x.node p_in p_step

    down : (k : ℕ) (s : Row N) → k < j → At ys k s → At xs k s
    down k s b t =
        let o = at_self xs k s (let h = u.0 in omega arith) in
        subst (λ (ρ : Row N). At xs k ρ) (at_same ys k (get_or xs k s) s (ih k b (get_or xs k s) o) t) o

    late : j ≤ spot.place
    late = ⊎_elim (λ (k : spot.place < j). absurd (fx.once spot.place j spot.row x k (down spot.place spot.row k spot.at) u spot.is))
        (λ k. k)
        (cases_lt spot.place j)

    -- row j of ys
    z : Row N
    z = get_or ys j x

    z_at : At ys j z
    unfolding z
    z_at = at_self ys j x (let h = late in let k = spot.at.0 in omega arith)

    spot_early : NoLater spot.row.from spot.row.label x.from x.label
    spot_early = not-before x.from x.label spot.row.from spot.row.label
        (λ b. fy.earliest spot.place x.from x.label spot.row p (let h = late in omega arith) spot.at p_in b (rw spot.is p_step))

    upper : NoLater z.from z.label x.from x.label
    upper =
        let w = spot_early in
        ⊎_elim (λ (q : j ≡ spot.place). subst (λ (ρ : Row N). NoLater ρ.from ρ.label x.from x.label) (at_same ys j spot.row z (subst (λ (k : ℕ). At ys k spot.row) (sym q) spot.at) z_at) w)
        (λ k. let b = fy.rising j spot.place z spot.row pos k z_at spot.at in omega arith)
        (eq-or-lt_of_le late)

    z_up : z.from < j
    z_up = fy.earlier j z pos z_at

    -- the row that z was found from
    q : Row N
    q = get_or ys z.from z

    q_at : At ys z.from q
    unfolding q
    q_at = at_self ys z.from z (let h = z_up in let k = z_at.0 in omega arith)

    q_step : Steps S q.node z.label z.node
    q_step = fy.stepped j z q pos z_at q_at

    q_in : At xs z.from q
    q_in = down z.from q z_up q_at

    lower : Before z.from z.label x.from x.label → ⊥
    lower b =
        let w = px j x pos u z.from z.label q z.node q_in b q_step in
        ⊎_elim
        (λ (k : w.place < j). fy.once w.place j w.row z k (ih w.place k w.row w.at) z_at w.is)
        (λ (k : j ≤ w.place). ⊎_elim
        (λ (e : j ≡ w.place). let s : w.row ≡ x = at_same xs j w.row x (subst (λ (k : ℕ). At xs k w.row) (sym e) w.at) u in
        fx.earliest j z.from z.label x q pos u q_in b (subst (λ (n : N). Steps S q.node z.label n) (sym w.is ∙ ap (λ (ρ : Row N). ρ.node) s) q_step))
        (λ (l : j < w.place). let c = fx.rising j w.place x w.row pos l u w.at in
        fx.earliest w.place z.from z.label w.row q (omega arith) w.at q_in (omega arith) (rw w.is q_step))
        (eq-or-lt_of_le k))
        (cases_lt w.place j)

    z_from : z.from ≡ x.from
    z_from = let h = upper in ⊎_elim (λ k. k) (λ (k : z.from < x.from). absurd (lower (omega arith))) (eq-or-lt_of_le h.0)

    z_label : z.label ≡ x.label
    z_label = let h = upper in let e = z_from in
        ⊎_elim (λ k. k) (λ (k : z.label < x.label). absurd (lower (omega arith))) (eq-or-lt_of_le {n = z.label} {m = x.label} (omega arith))

    z_node : z.node ≡ x.node
    z_node =
        let same : q ≡ p = at_same ys x.from q p (subst (λ (k : ℕ). At ys k q) z_from q_at) p_in in
        let e = z_label in
        let s = q_step.1 in
        let t = p_step.1 in
        cc

    here : At ys j x
    here = subst (λ (ρ : Row N). At ys j ρ) (row_same z x z_node z_from z_label) z_at

  at_root : (x : Row N) → At xs 0 x → At ys 0 x
  at_root x u = let o = row-at S ys 0 ly.some in subst (λ (ρ : Row N). At ys 0 ρ) (fy.root (row_at S ys 0) o ∙ sym (fx.root x u)) o

  agree : (n j : ℕ) → j < n → (x : Row N) → At xs j x → At ys j x
  agree zero j h x u = absurd (omega arith)
  agree (suc n) j h x u = ⊎_elim (λ (e : j ≡ n). ⊎_elim
      (λ (k : 0 ≡ j). subst (λ (i : ℕ). At ys i x) k (at_root x (subst (λ (i : ℕ). At xs i x) (sym k) u)))
      (λ (k : 0 < j). here j k (λ i l. agree n i (omega arith)) x u)
      (eq-or-lt_of_le {n = 0} {m = j} (omega arith)))
      (λ (k : j < n). agree n j k x u)
      (eq-or-lt_of_le {n = j} {m = n} (omega arith))

  pub front : Front xs ys
  front = (
    ⊎_elim (λ (k : length ys < length xs). let w = agree (length xs) (length ys) k (row_at S xs (length ys)) (row-at S xs (length ys) k) in absurd (omega arith)) (λ k. k)
        (cases_lt (length ys) (length xs)),
    λ j x u. agree (length xs) j u.0 x u,
  )

module _ {N : Type 0} (S : System N) where
  pub listing_passed : {rows : List (Row N)} → Listing S rows → Passed S rows
  listing_passed l k t p u j b r m w h s = l.closed j b r m w s

  pub upto_passed : {rows : List (Row N)} {i a : ℕ} → Upto S rows i a → Passed S rows
  upto_passed v k t p u j b r m w h s = let e = v.past k t p u in v.closed j b r m w (omega arith) s

  pub one : (xs ys : List (Row N)) → Listing S xs → Listing S ys → xs ≡ ys
  one xs ys l k = fronts_same xs ys (front S xs ys l.found (listing_passed l) k) (front S ys xs k.found (listing_passed k) l)

  -- a node that is wanted stands past the front
  wanted : (xs ys : List (Row N)) → Front xs ys → Listing S ys → Wanting S xs → length xs < length ys
  wanted xs ys f l none = l.some
  wanted xs ys f l (next j a r m u s lacks) =
      let w = l.closed j a r m (f.1 j r u) s in
      ⊎_elim (λ (k : w.place < length xs).
      let o = at_self xs w.place w.row k in
      let e : get_or xs w.place w.row ≡ w.row = at_same ys w.place _ _ (f.1 w.place (get_or xs w.place w.row) o) w.at in
      absurd (lacks w.place w.row (subst (λ (ρ : Row N). At xs w.place ρ) e o) w.is))
      (λ (k : length xs ≤ w.place). let b = w.at.0 in omega arith)
      (cases_lt w.place (length xs))

pub room : {N : Type 0} → RoomHoldsFirst N
room S c rows whole true l h =
    let e = one S rows whole h.extent l in
    let k = h.fits in
    let n : length whole ≤ c = rw e at k in
    (e ∙ sym (take_all c whole n), sym (le-leb (length whole) c n))
room S c rows whole false l h =
    let f = front S rows whole h.found h.passed l in
    let n = h.extent.0 in
    let w = wanted S rows whole f l h.extent.1 in
    (front_take rows whole f ∙ ap (λ (k : ℕ). take k whole) n, sym (lt-leb (length whole) c (omega arith)))
