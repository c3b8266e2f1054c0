-- Systems that agree on what can be reached have the same rows.
use Rattle.std.proofs.Common.{◌≡◌, ℕ, zero, suc, ◌<◌, Bool, true, false, List, [], ◌∷◌, ◌++◌, sym, ap, ◌∙◌, subst, arith}
use Rattle.explore.specs.System.{System, Steps, Goes, here, along}
use Rattle.explore.specs.Rows.{Row, At, row_of, row_at, first_row}
use Rattle.explore.specs.Listing.{Found, Listing, Passed, Wanting, Extent}
use Rattle.explore.specs.Listing.Wanting.{none, next}
use Rattle.explore.proofs.Places.{row-at}
use Rattle.pairs.specs.Agreement.{Agree}
use Rattle.pairs.specs.Theorems.{SystemsAgree}

-- one step more
pub goes_more : {N : Type 0} (S : System N) {x y z : N} {p : List ℕ} {a : ℕ} → Goes S x p y → Steps S y a z → Goes S x (p ++ a ∷ []) z
goes_more S here s = along s here
goes_more S (along e g) s = along e (goes_more S g s)

module _ {N : Type 0} (S T : System N) (agree : Agree S T) where
  -- some path of T leads to x
  abbrev Reached : N → Type 0
  Reached x = (p : List ℕ) × Goes T T.first p x

  step_to : (x y : N) (a : ℕ) → Reached x → Steps S x a y → Steps T x a y
  step_to x y a r s =
      let l : a < T.labels = subst (λ k. a < k) agree.labels s.0 in
      (l, sym (agree.next r.0 x a r.1 l) ∙ s.1)

  step_from : (x y : N) (a : ℕ) → Reached x → Steps T x a y → Steps S x a y
  step_from x y a r s = (subst (λ k. a < k) (sym agree.labels) s.0, agree.next r.0 x a r.1 s.0 ∙ s.1)

  first_row_lem : first_row S ≡ first_row T
  first_row_lem = ap (λ (x : N). row_of x 0 255) agree.first

  module _ (rows : List (Row N)) (found : Found S rows) where
    -- the rows below k
    upto : (k j : ℕ) (r : Row N) → j < k → At rows j r → Reached r.node
    upto zero j r l at = absurd (omega arith)
    upto (suc k) zero r l at =
        let e : T.first ≡ r.node = sym agree.first ∙ ap (λ (w : Row N). w.node) (sym (found.root r at)) in
        ([], subst (λ (y : N). Goes T T.first [] y) e here)
    upto (suc k) (suc j) r l at =
        let early = found.earlier (suc j) r (omega arith) at in
        let p : Row N = row_at S rows r.from in
        let pat : At rows r.from p = row-at S rows r.from (omega (arith, at.0)) in
        let ih = upto k r.from p (omega arith) pat in
        let s = step_to p.node r.node r.label ih (found.stepped (suc j) r p (omega arith) at pat) in
        (ih.0 ++ r.label ∷ [], goes_more T ih.1 s)

    reached : (j : ℕ) (r : Row N) → At rows j r → Reached r.node
    reached j r at = upto (suc j) j r (omega arith) at

    found_to : Found T rows
    found_to = record {
      root = λ r at. found.root r at ∙ first_row_lem;
      earlier = found.earlier;
      stepped = λ j r p l at pat. step_to p.node r.node r.label (reached r.from p pat) (found.stepped j r p l at pat);
      earliest = λ j i a r s l at sat b e. found.earliest j i a r s l at sat b (step_from s.node r.node a (reached i s sat) e);
      rising = found.rising;
      once = found.once;
    }

    passed_to : Passed S rows → Passed T rows
    passed_to passed l t q at j b r m rat w e = passed l t q at j b r m rat w (step_from r.node m b (reached j r rat) e)

    listing_to : Listing S rows → Listing T rows
    listing_to all = record {
      some = all.some;
      found = found_to;
      closed = λ j a r m at e. all.closed j a r m at (step_from r.node m a (reached j r at) e);
    }

  wanting_to : (rows : List (Row N)) → Found S rows → Wanting S rows → Wanting T rows
  wanting_to rows found none = none
  wanting_to rows found (next j a r m at e lacks) = next j a r m at (step_to r.node m a (reached rows found j r at) e) lacks

  extent_to : (c : ℕ) (rows : List (Row N)) (b : Bool) → Found S rows → Extent S c rows b → Extent T c rows b
  extent_to c rows true found h = listing_to rows found h
  extent_to c rows false found h = (h.0, wanting_to rows found h.1)

-- what a room holds of S it holds of T
pub agreement : {N : Type 0} → SystemsAgree N
agreement S T agree c rows b h = record {
  fits = h.fits;
  found = found_to S T agree rows h.found;
  passed = passed_to S T agree rows h.found h.passed;
  extent = extent_to S T agree c rows b h.found h.extent;
}
