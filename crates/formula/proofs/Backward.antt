-- A list gone through from its end, with the number of each item.
use Rattle.std.proofs.Common.{◌≡◌, ℕ, ◌+◌, ◌<◌, ◌≤◌, List, [], ◌∷◌, ◌++◌, length, get_or, take, sym, refl, ap, ◌∙◌, arith, length-append, get_or-take}
use Rattle.std.proofs.lemmas.List.{get_or_push, take-take, take_all, take_at}
use Rattle.std.specs.Iterator.Adapters.{rev_source, enumerate_source, enumerate_count}
use Rattle.std.specs.Slice.Iter.{iter_rest}
use Rattle.std.specs.declared.iter.Rev.{Rev}
use Rattle.std.specs.declared.iter.Enumerate.{Enumerate}
use Rattle.std.specs.declared.slice.Iter.{Iter}

-- the items that are left
abbrev pub rest : {A : Type 0} → Rev (Enumerate (Iter A)) → List A
rest s = iter_rest (enumerate_source (rev_source s))

-- they are the first of the list
pub record Ahead {A : Type 0} (xs : List A) (s : Rev (Enumerate (Iter A))) : Type 0 where
  pub left : rest s ≡ take (length (rest s)) xs
  pub within : length (rest s) ≤ length xs
  pub plain : enumerate_count (rev_source s) ≡ 0

-- where it begins
pub begun : {A : Type 0} (xs : List A) (s : Rev (Enumerate (Iter A))) → rest s ≡ xs → enumerate_count (rev_source s) ≡ 0 → Ahead xs s
begun xs s e z = record {
  left = e ∙ sym (take_all (length (rest s)) xs (omega (arith, ap length e)));
  within = omega (arith, ap length e);
  plain = z;
}

-- item i was taken
pub record Taken {A : Type 0} (xs : List A) (d : A) (s t : Rev (Enumerate (Iter A))) (i : ℕ) (x : A) : Type 0 where
  pub here : i ≡ length (rest t)
  pub more : length (rest s) ≡ i + 1
  pub low : i < length xs
  pub item : get_or xs i d ≡ x
  pub ahead : Ahead xs t

pub taken : {A : Type 0} (xs : List A) (d : A) (s t : Rev (Enumerate (Iter A))) (i : ℕ) (x : A) → Ahead xs s
    → enumerate_count (rev_source t) ≡ enumerate_count (rev_source s) → rest s ≡ rest t ++ x ∷ [] → i ≡ enumerate_count (rev_source s) + length (rest t) → Taken xs d s t i x
taken xs d s t i x h e f g =
    let here : i ≡ length (rest t) = omega (arith, h.plain) in
    let long : length (rest s) ≡ length (rest t) + 1 = ap length f ∙ omega (arith, length-append (rest t) (x ∷ [])) in
    let all : rest t ++ x ∷ [] ≡ take (length (rest s)) xs = sym f ∙ h.left in
    let low : i < length xs = omega (arith, h.within) in
    record {
      here = here;
      more = omega arith;
      low = low;
      item = sym (get_or-take (length (rest s)) xs i d (omega arith)) ∙ ap (λ ys. get_or ys i d) (sym all) ∙ get_or_push (rest t) x d i (sym here);
      ahead = record {
        left = sym (take_at (rest t) (x ∷ []) (length (rest t)) refl) ∙ ap (take (length (rest t))) all ∙ take-take (length (rest t)) (length (rest s)) xs (omega arith);
        within = omega arith;
        plain = e ∙ h.plain;
      };
    }
