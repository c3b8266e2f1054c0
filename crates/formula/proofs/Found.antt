-- Where the subformulas of a formula stand in its text, and which number of it is the first out of range.
use Rattle.std.proofs.Common.{◌≡◌, ℕ, zero, suc, ◌+◌, ◌^◌, ◌<◌, Bool, true, cond, not, ◌&&◌, eqb, ltb, leb, List, [], ◌∷◌, ◌++◌, map, length, drop, ℤ, pos, negsuc, Some, None, codes, decimal, Option, sym, refl, ap, ◌∙◌, append_assoc, arith}
use lib.Signed.{mag}
use Rattle.std.specs.Fmt.{signed_decimal}
use Rattle.std.proofs.lemmas.List.{map-append}
use Rattle.std.proofs.lemmas.Bool.{and_parts, and_from, not-true}
use Rattle.std.proofs.lemmas.Bool.Decides.{nat_tests}
use Rattle.grammar.specs.Recording.{Formula, eq, lt, gt, mark, by, neg, before, once, always, and, or, implies, since}
use Rattle.grammar.specs.Recording.{Piece, opening, closing, blank, newline, word, small, wide, All, Nests, TenDigits, bytes, flat, formula}
use Rattle.formula.specs.Reading.{openings, digit, Ten}
use Rattle.formula.specs.Truth.{subformulas}
use Rattle.formula.proofs.Bytes.{all_digit}
use Rattle.formula.proofs.Figures.{decimal-digits, part_passed}

-- no opening bracket
abbrev clear : List ℕ → Bool
clear [] = true
clear (b ∷ bs) = not (eqb b 40) && clear bs

clear_digits : (ds : List ℕ) → all_digit ds ≡ true → clear ds ≡ true
clear_digits [] h = refl
clear_digits (d ∷ ds) h =
    let p = and_parts (digit d) (all_digit ds) h in
    let is : digit d ≡ true = p.0 in
    let other : not (eqb d 40) ≡ true = grind (arith, nat_tests) in
    and_from (not (eqb d 40)) (clear ds) other (clear_digits ds p.1)

clear_small : (n : ℕ) → n < 10 ^ 10 → clear (decimal n) ≡ true
clear_small n h = clear_digits (decimal n) (decimal-digits n (omega arith))

clear_wide : (z : ℤ) → TenDigits z → clear (signed_decimal z) ≡ true
clear_wide (pos n) h = clear_small n h
clear_wide (negsuc n) h = clear_digits (decimal (suc n)) (decimal-digits (suc n) (omega arith))

open_clear : (w rest : List ℕ) (k : ℕ) → clear w ≡ true → openings k (w ++ rest) ≡ openings (k + length w) rest
open_clear [] rest k c = let same : k ≡ k + 0 = omega arith in ap (λ n. openings n rest) same
open_clear (b ∷ w) rest k c =
    let p = and_parts (not (eqb b 40)) (clear w) c in
    let same : k + 1 + length w ≡ k + suc (length w) = omega arith in
    ap (λ x. cond x (k ∷ openings (k + 1) (w ++ rest)) (openings (k + 1) (w ++ rest))) (not-true (eqb b 40) p.0)
    ∙ open_clear w rest (k + 1) p.1 ∙ ap (λ n. openings n rest) same

-- numbers in range
abbrev pub in_range : Piece → Bool
in_range opening = true
in_range closing = true
in_range blank = true
in_range newline = true
in_range (word w) = true
in_range (small n) = leb n 255
in_range (wide z) = ltb (mag z) (2 ^ 31)

-- where the first piece out of range stands, if there is one, where k bytes stand ahead of the pieces
abbrev pub first_out : ℕ → List Piece → Option ℕ
first_out k [] = None
first_out k (p ∷ ps) = cond (in_range p) (first_out (k + length (bytes p)) ps) (Some k)

-- the same of a formula's word at k, where `z` is that of what comes behind the word
abbrev pub pair_out : ℕ → ℕ → ℤ → Option ℕ → Option ℕ
pair_out k x c z = cond (leb x 255) (cond (ltb (mag c) (2 ^ 31)) z (Some (k + length (decimal x) + 1))) (Some k)

abbrev pub name_out : ℕ → ℕ → Option ℕ → Option ℕ
name_out k n z = cond (leb n 255) z (Some k)

abbrev pub head_out : ℕ → Formula → Option ℕ → Option ℕ
head_out k (eq x c) z = pair_out (k + 4) x c z
head_out k (lt x c) z = pair_out (k + 4) x c z
head_out k (gt x c) z = pair_out (k + 4) x c z
head_out k (mark m) z = name_out (k + 6) m z
head_out k (by m) z = name_out (k + 4) m z
head_out k (neg f) z = z
head_out k (before f) z = z
head_out k (once f) z = z
head_out k (always f) z = z
head_out k (and f g) z = z
head_out k (or f g) z = z
head_out k (implies f g) z = z
head_out k (since f g) z = z

-- a subformula and where it stands
abbrev pub Spot : Type 0
Spot = ℕ × Formula

abbrev pub walk : List Spot → Option ℕ → Option ℕ
walk [] z = z
walk (s ∷ ss) z = head_out s.0 s.1 (walk ss z)

walk_append : (ss rs : List Spot) (z : Option ℕ) → walk (ss ++ rs) z ≡ walk ss (walk rs z)
walk_append [] rs z = refl
walk_append (s ∷ ss) rs z = ap (head_out s.0 s.1) (walk_append ss rs z)

all_append : {A : Type 0} (P : A → Type 0) (xs ys : List A) → All P xs → All P ys → All P (xs ++ ys)
all_append P [] ys a b = b
all_append P (x ∷ xs) ys a b = (a.0, all_append P xs ys a.1 b)

abbrev pub place : Spot → ℕ
place s = s.0

abbrev pub of : Spot → Formula
of s = s.1

-- the text has the formula there, with numbers that can be written
abbrev pub Stands : List ℕ → Spot → Type 0
Stands t s = Ten s.1 × ((more : List Piece) × (drop s.0 t ≡ flat (formula s.1 more)))

-- the text has f at k, and `more` behind it
pub record Found (t : List ℕ) (k : ℕ) (f : Formula) (more : List Piece) : Type 0 where
  pub spots : List Spot
  pub end : ℕ
  pub rest : drop end t ≡ flat more
  pub found : openings k (drop k t) ≡ map place spots ++ openings end (drop end t)
  pub names : map of spots ≡ subformulas f
  pub stand : All (Stands t) spots
  pub out : first_out k (formula f more) ≡ walk spots (first_out end more)

module _ (t : List ℕ) where
  -- from j the text is passed up to k with no bracket met, and the rest stands there
  Go : ℕ → ℕ → List ℕ → Type 0
  Go j k rest = (drop k t ≡ rest) × (openings j (drop j t) ≡ openings k (drop k t))

  go : (j k : ℕ) (w rest : List ℕ) → clear w ≡ true → Go j k (w ++ rest) → Go j (k + length w) rest
  unfolding Go
  go j k w rest c g =
      let passed = part_passed t k w rest g.0 in
      (passed, g.1 ∙ ap (openings k) g.0 ∙ open_clear w rest k c ∙ ap (openings (k + length w)) (sym passed))

  -- past the bracket at k
  opened : (k : ℕ) (rest : List ℕ) → drop k t ≡ 40 ∷ rest → (drop (k + 1) t ≡ rest) × (openings k (drop k t) ≡ k ∷ openings (k + 1) (drop (k + 1) t))
  opened k rest e =
      let passed = part_passed t k (40 ∷ []) rest e in
      (passed, ap (openings k) e ∙ ap (λ r. k ∷ openings (k + 1) r) (sym passed))

  start : (k : ℕ) (rest : List ℕ) → drop k t ≡ rest → Go k k rest
  unfolding Go
  start k rest e = (e, refl)

  module _ (f : Formula) (k : ℕ) (more : List Piece) (w : List ℕ) (cl : clear w ≡ true) (ten : Ten f) (here : drop k t ≡ flat (formula f more)) (alone : f ∷ [] ≡ subformulas f) where
    compare : (x : ℕ) (c : ℤ) → Ten (eq x c) → k + 1 + length w + 1 ≡ k + 4
        → formula f more ≡ opening ∷ word w ∷ blank ∷ small x ∷ blank ∷ wide c ∷ closing ∷ more
        → ((z : Option ℕ) → head_out k f z ≡ pair_out (k + 4) x c z) → Found t k f more
    unfolding Go
    compare x c tens at shape head =
        let b = opened k (w ++ (32 ∷ (decimal x ++ (32 ∷ (signed_decimal c ++ (41 ∷ flat more)))))) (here ∙ ap flat shape) in
        let g1 = go (k + 1) (k + 1) w (32 ∷ (decimal x ++ (32 ∷ (signed_decimal c ++ (41 ∷ flat more))))) cl (start (k + 1) _ b.0) in
        let g2 = go (k + 1) (k + 1 + length w) (32 ∷ []) (decimal x ++ (32 ∷ (signed_decimal c ++ (41 ∷ flat more)))) refl g1 in
        let g3 = go (k + 1) (k + 1 + length w + 1) (decimal x) (32 ∷ (signed_decimal c ++ (41 ∷ flat more))) (clear_small x tens.0) g2 in
        let g4 = go (k + 1) (k + 1 + length w + 1 + length (decimal x)) (32 ∷ []) (signed_decimal c ++ (41 ∷ flat more)) refl g3 in
        let g5 = go (k + 1) (k + 1 + length w + 1 + length (decimal x) + 1) (signed_decimal c) (41 ∷ flat more) (clear_wide c tens.1) g4 in
        let g6 = go (k + 1) (k + 1 + length w + 1 + length (decimal x) + 1 + length (signed_decimal c)) (41 ∷ []) (flat more) refl g5 in
        let end : ℕ = k + 1 + length w + 1 + length (decimal x) + 1 + length (signed_decimal c) + 1 in
        record {
          spots = (k, f) ∷ [];
          end = end;
          rest = g6.0;
          found = b.1 ∙ ap (λ os. k ∷ os) g6.1;
          names = alone;
          stand = ((ten, (more, here)), tt);
          out = ap (first_out k) shape ∙ ap (λ a. pair_out a x c (first_out end more)) at ∙ sym (head (first_out end more));
        }

    name : (n h : ℕ) → n < 10 ^ 10 → k + 1 + length w + 1 ≡ k + h
        → formula f more ≡ opening ∷ word w ∷ blank ∷ small n ∷ closing ∷ more
        → ((z : Option ℕ) → head_out k f z ≡ name_out (k + h) n z) → Found t k f more
    unfolding Go
    name n h tens at shape head =
        let b = opened k (w ++ (32 ∷ (decimal n ++ (41 ∷ flat more)))) (here ∙ ap flat shape) in
        let g1 = go (k + 1) (k + 1) w (32 ∷ (decimal n ++ (41 ∷ flat more))) cl (start (k + 1) _ b.0) in
        let g2 = go (k + 1) (k + 1 + length w) (32 ∷ []) (decimal n ++ (41 ∷ flat more)) refl g1 in
        let g3 = go (k + 1) (k + 1 + length w + 1) (decimal n) (41 ∷ flat more) (clear_small n tens) g2 in
        let g4 = go (k + 1) (k + 1 + length w + 1 + length (decimal n)) (41 ∷ []) (flat more) refl g3 in
        let end : ℕ = k + 1 + length w + 1 + length (decimal n) + 1 in
        record {
          spots = (k, f) ∷ [];
          end = end;
          rest = g4.0;
          found = b.1 ∙ ap (λ os. k ∷ os) g4.1;
          names = alone;
          stand = ((ten, (more, here)), tt);
          out = ap (first_out k) shape ∙ ap (λ a. name_out a n (first_out end more)) at ∙ sym (head (first_out end more));
        }

  module _ (f : Formula) (k : ℕ) (more : List Piece) (w : List ℕ) (cl : clear w ≡ true) (ten : Ten f) (here : drop k t ≡ flat (formula f more)) (head : (z : Option ℕ) → head_out k f z ≡ z) where
    one : (g : Formula) → f ∷ subformulas g ≡ subformulas f → formula f more ≡ opening ∷ word w ∷ blank ∷ formula g (closing ∷ more)
        → ((j : ℕ) → drop j t ≡ flat (formula g (closing ∷ more)) → Found t j g (closing ∷ more)) → Found t k f more
    unfolding Go
    one g subs shape inner =
        let b = opened k (w ++ (32 ∷ flat (formula g (closing ∷ more)))) (here ∙ ap flat shape) in
        let g1 = go (k + 1) (k + 1) w (32 ∷ flat (formula g (closing ∷ more))) cl (start (k + 1) _ b.0) in
        let g2 = go (k + 1) (k + 1 + length w) (32 ∷ []) (flat (formula g (closing ∷ more))) refl g1 in
        let i = inner (k + 1 + length w + 1) g2.0 in
        let g3 = go i.end i.end (41 ∷ []) (flat more) refl (start i.end _ i.rest) in
        record {
          spots = (k, f) ∷ i.spots;
          end = i.end + 1;
          rest = g3.0;
          found = b.1 ∙ ap (λ os. k ∷ os) (g2.1 ∙ i.found ∙ ap (λ os. map place i.spots ++ os) g3.1);
          names = ap (λ fs. f ∷ fs) i.names ∙ subs;
          stand = ((ten, (more, here)), i.stand);
          out = ap (first_out k) shape ∙ i.out ∙ sym (head (walk i.spots (first_out (i.end + 1) more)));
        }

    two : (g h : Formula) → f ∷ (subformulas g ++ subformulas h) ≡ subformulas f → formula f more ≡ opening ∷ word w ∷ blank ∷ formula g (blank ∷ formula h (closing ∷ more))
        → ((j : ℕ) → drop j t ≡ flat (formula g (blank ∷ formula h (closing ∷ more))) → Found t j g (blank ∷ formula h (closing ∷ more)))
        → ((j : ℕ) → drop j t ≡ flat (formula h (closing ∷ more)) → Found t j h (closing ∷ more)) → Found t k f more
    unfolding Go
    two g h subs shape left right =
        let b = opened k (w ++ (32 ∷ flat (formula g (blank ∷ formula h (closing ∷ more))))) (here ∙ ap flat shape) in
        let g1 = go (k + 1) (k + 1) w (32 ∷ flat (formula g (blank ∷ formula h (closing ∷ more)))) cl (start (k + 1) _ b.0) in
        let g2 = go (k + 1) (k + 1 + length w) (32 ∷ []) (flat (formula g (blank ∷ formula h (closing ∷ more)))) refl g1 in
        let i = left (k + 1 + length w + 1) g2.0 in
        let g3 = go i.end i.end (32 ∷ []) (flat (formula h (closing ∷ more))) refl (start i.end _ i.rest) in
        let j = right (i.end + 1) g3.0 in
        let g4 = go j.end j.end (41 ∷ []) (flat more) refl (start j.end _ j.rest) in
        let last = openings (j.end + 1) (drop (j.end + 1) t) in
        record {
          spots = (k, f) ∷ (i.spots ++ j.spots);
          end = j.end + 1;
          rest = g4.0;
          found = b.1 ∙ ap (λ os. k ∷ os) (g2.1 ∙ i.found ∙ ap (λ os. map place i.spots ++ os) (g3.1 ∙ j.found ∙ ap (λ os. map place j.spots ++ os) g4.1)
              ∙ sym (append_assoc (map place i.spots) (map place j.spots) last)
              ∙ ap (λ os. os ++ last) (sym (map-append place i.spots j.spots)));
          names = ap (λ fs. f ∷ fs) (map-append of i.spots j.spots ∙ ap (λ fs. fs ++ map of j.spots) i.names ∙ ap (λ fs. subformulas g ++ fs) j.names) ∙ subs;
          stand = ((ten, (more, here)), all_append (Stands t) i.spots j.spots i.stand j.stand);
          out = ap (first_out k) shape ∙ i.out ∙ ap (walk i.spots) j.out ∙ sym (walk_append i.spots j.spots (first_out (j.end + 1) more))
              ∙ sym (head (walk (i.spots ++ j.spots) (first_out (j.end + 1) more)));
        }

  pub found_at : (d : ℕ) (f : Formula) → Nests d f → (k : ℕ) (more : List Piece) → drop k t ≡ flat (formula f more) → Found t k f more
  found_at d (eq x c) n k more e = compare (eq x c) k more (codes "eq") refl n e refl x c n (omega arith) refl (λ z. refl)
  found_at d (lt x c) n k more e = compare (lt x c) k more (codes "lt") refl n e refl x c n (omega arith) refl (λ z. refl)
  found_at d (gt x c) n k more e = compare (gt x c) k more (codes "gt") refl n e refl x c n (omega arith) refl (λ z. refl)
  found_at d (mark m) n k more e = name (mark m) k more (codes "mark") refl n e refl m 6 n (omega arith) refl (λ z. refl)
  found_at d (by m) n k more e = name (by m) k more (codes "by") refl n e refl m 4 n (omega arith) refl (λ z. refl)
  found_at zero (neg f) n k more e = absurd n
  found_at (suc d) (neg f) n k more e = one (neg f) k more (codes "not") refl tt e (λ z. refl) f refl refl (λ j i. found_at d f n j (closing ∷ more) i)
  found_at zero (before f) n k more e = absurd n
  found_at (suc d) (before f) n k more e = one (before f) k more (codes "before") refl tt e (λ z. refl) f refl refl (λ j i. found_at d f n j (closing ∷ more) i)
  found_at zero (once f) n k more e = absurd n
  found_at (suc d) (once f) n k more e = one (once f) k more (codes "once") refl tt e (λ z. refl) f refl refl (λ j i. found_at d f n j (closing ∷ more) i)
  found_at zero (always f) n k more e = absurd n
  found_at (suc d) (always f) n k more e = one (always f) k more (codes "always") refl tt e (λ z. refl) f refl refl (λ j i. found_at d f n j (closing ∷ more) i)
  found_at zero (and f g) n k more e = absurd n
  found_at (suc d) (and f g) n k more e =
      two (and f g) k more (codes "and") refl tt e (λ z. refl) f g refl refl (λ j i. found_at d f n.0 j (blank ∷ formula g (closing ∷ more)) i) (λ j i. found_at d g n.1 j (closing ∷ more) i)
  found_at zero (or f g) n k more e = absurd n
  found_at (suc d) (or f g) n k more e =
      two (or f g) k more (codes "or") refl tt e (λ z. refl) f g refl refl (λ j i. found_at d f n.0 j (blank ∷ formula g (closing ∷ more)) i) (λ j i. found_at d g n.1 j (closing ∷ more) i)
  found_at zero (implies f g) n k more e = absurd n
  found_at (suc d) (implies f g) n k more e =
      two (implies f g) k more (codes "implies") refl tt e (λ z. refl) f g refl refl (λ j i. found_at d f n.0 j (blank ∷ formula g (closing ∷ more)) i) (λ j i. found_at d g n.1 j (closing ∷ more) i)
  found_at zero (since f g) n k more e = absurd n
  found_at (suc d) (since f g) n k more e =
      two (since f g) k more (codes "since") refl tt e (λ z. refl) f g refl refl (λ j i. found_at d f n.0 j (blank ∷ formula g (closing ∷ more)) i) (λ j i. found_at d g n.1 j (closing ∷ more) i)
