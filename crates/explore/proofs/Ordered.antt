-- In levels, the rows that a room holds stand in the order of their least paths.
use Rattle.std.proofs.Common.{◌≡◌, ℕ, zero, suc, ◌+◌, ◌<◌, true, ◌&&◌, eqb, ◌⊎◌, List, ◌∷◌, reverse, length, sym, refl, ap, ◌∙◌, subst, inl, inr, ⊎_elim, arith}
use Rattle.std.proofs.lemmas.Bool.{and_parts, and_from, eqb-true, eq-eqb}
use Rattle.explore.specs.System.{System, Goes, here, along}
use Rattle.explore.specs.Rows.{Row, row_at}
use Rattle.explore.specs.Listing.{Found, Listing}
use Rattle.explore.specs.Paths.{back, path, Less, Sooner, Reaches}
use Rattle.explore.specs.Levels.{Levelled, Ordered}
use Rattle.explore.specs.Rounds.{computed}
use Rattle.explore.specs.Theorems.{RowsAreOrdered}
use Rattle.explore.proofs.Places.{row-at, is_row_at}
use Rattle.explore.proofs.Back.{way, up, way_none, way_more}
use Rattle.explore.proofs.Fronts.{Front, front}
use Rattle.explore.proofs.Paths.{reaches}
use Rattle.explore.proofs.Rounds.{exists}

module _ {N : Type 0} (S : System N) (top : ℕ) (v : Levelled S top) where
  goes_level : {n m : N} {p : List ℕ} → Goes S n p m → v.good n ≡ true → v.level n + length p ≡ v.level m
  goes_level here ok = omega arith
  goes_level (along {n = n} {m = m} {a = a} e g) ok = let q = v.level_next n m a ok e in omega (arith, goes_level g (v.good_next n m a ok e))

  module _ (rows : List (Row N)) (all : Listing S rows) where
    c : Reaches S rows
    c = reaches S rows all

    deep : (j : ℕ) → j < length rows → length (path rows j) ≡ v.level (row_at S rows j).node
    deep j b = omega (arith, goes_level (c.leads j b) v.good_first, v.level_first)

    pub ordered_all : Ordered S v.level rows
    ordered_all =
        record {
          leads = c.leads;
          depth = deep;
          least = λ j p b g.
              let q = goes_level g v.good_first in
              let r = goes_level (c.leads j b) v.good_first in
              ⊎_elim (λ e. inl e) (λ (e : Sooner (path rows j) p). inr (e.1 (omega arith))) (c.soonest j p b g);
          levels = λ j l h b. let p = deep j (omega arith) in let q = deep l b in let o = c.order j l h b in omega arith;
          words = λ j l h b e. let p = deep j (omega arith) in let q = deep l b in (c.order j l h b).1 (omega arith);
          best = λ P j b none p n g pn e.
              let q = goes_level g v.good_first in
              let r = deep j b in
              ⊎_elim (λ w. inl w) (λ (w : Sooner (path rows j) p). inr (w.1 (omega (arith, v.level_first))))
              (c.best (λ y. P y && eqb (v.level y) (v.level (row_at S rows j).node)) j b
              (λ l h t. let a = and_parts (P (row_at S rows l).node) (eqb (v.level (row_at S rows l).node) (v.level (row_at S rows j).node)) t in
              none l h a.0 (eqb-true _ _ a.1))
              p n g (and_from (P n) (eqb (v.level n) (v.level (row_at S rows j).node)) pn (eq-eqb _ _ e)));
        }

-- A front has the rows and the paths of the whole.
module _ {N : Type 0} (S : System N) (rows whole : List (Row N)) (fr : Found S rows) (fw : Found S whole) (f : Front rows whole) where
  row_is : (j : ℕ) → j < length rows → row_at S rows j ≡ row_at S whole j
  row_is j b = is_row_at S whole j (row_at S rows j) (f.1 j (row_at S rows j) (row-at S rows j b))

  way_is : (n j : ℕ) → j < length rows → way S rows fr n j ≡ way S whole fw n j
  unfolding way back
  way_is zero j b = refl
  way_is (suc n) zero b = way_none S rows fr (suc n) ∙ sym (way_none S whole fw (suc n))
  way_is (suc n) (suc j) b =
      let r = row_at S rows (suc j) in
      let u = up S rows fr (suc j) (omega arith) b in
      let l = f.0 in
      way_more S rows fr n (suc j) (omega arith) b
      ∙ ap (λ (w : List ℕ). r.label ∷ w) (way_is n r.from (omega arith))
      ∙ ap (λ (ρ : Row N). ρ.label ∷ way S whole fw n ρ.from) (row_is (suc j) b)
      ∙ sym (way_more S whole fw n (suc j) (omega arith) (omega arith))

  path_is : (j : ℕ) → j < length rows → path rows j ≡ path whole j
  unfolding way
  path_is j b = ap reverse (way_is j j b)

  pub ordered_front : (level : N → ℕ) → Ordered S level whole → Ordered S level rows
  ordered_front level o =
      record {
        leads = λ j b. subst (λ (w : List ℕ). Goes S S.first w (row_at S rows j).node) (sym (path_is j b))
            (subst (λ (ρ : Row N). Goes S S.first (path whole j) ρ.node) (sym (row_is j b)) (o.leads j (wide j b)));
        depth = λ j b. ap length (path_is j b) ∙ o.depth j (wide j b) ∙ ap (λ (ρ : Row N). level ρ.node) (sym (row_is j b));
        least = λ j p b g. subst (λ (w : List ℕ). (w ≡ p) ⊎ Less w p) (sym (path_is j b))
            (o.least j p (wide j b) (subst (λ (ρ : Row N). Goes S S.first p ρ.node) (row_is j b) g));
        levels = λ j l h b.
            let e = lev j (omega arith) in
            let d = lev l b in
            let k = o.levels j l h (wide l b) in
            omega arith;
        words = λ j l h b e.
            let k : j < length rows = omega arith in
            subst (λ (w : List ℕ). Less w (path rows l)) (sym (path_is j k)) (subst (λ (w : List ℕ). Less (path whole j) w) (sym (path_is l b))
            (o.words j l h (wide l b) (sym (lev j k) ∙ e ∙ lev l b)));
        best = λ P j b none p n g pn e. subst (λ (w : List ℕ). (w ≡ p) ⊎ Less w p) (sym (path_is j b))
            (o.best P j (wide j b)
            (λ l h t q. let k : l < length rows = omega arith in
            none l h (ap (λ (ρ : Row N). P ρ.node) (row_is l k) ∙ t) (lev l k ∙ q ∙ sym (lev j b)))
            p n g pn (e ∙ lev j b));
      }
    where
      wide : (j : ℕ) → j < length rows → j < length whole
      wide j b = let l = f.0 in omega arith

      lev : (j : ℕ) → j < length rows → level (row_at S rows j).node ≡ level (row_at S whole j).node
      lev j b = ap (λ (ρ : Row N). level ρ.node) (row_is j b)

pub ordered : {N : Type 0} → RowsAreOrdered N
ordered S same top v t c rows b h =
    let l = exists S same top v t in
    ordered_front S rows (computed S same top) h.found l.found (front S rows (computed S same top) h.found h.passed l) v.level (ordered_all S top v (computed S same top) l)
