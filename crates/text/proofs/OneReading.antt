-- Of each text one answer is right.
use Rattle.std.proofs.Common.{◌≡◌, ℕ, ◌^◌, ◌<◌, ◌≤◌, ◌⊎◌, List, [], ◌∷◌, ◌++◌, length, sym, refl, ap, ◌∙◌, subst, inl, inr, arith}
use mathlib.Core.List.{head-eq_of_cons-eq, tail-eq_of_cons-eq}
use native.Mathlib.Decide.{dec_le, dec_lt}
use lib.Signed.{mag}
use Rattle.grammar.specs.Machine.{start}
use Rattle.grammar.specs.Recording as grammar
use Rattle.grammar.specs.Recording.{All, Legal, Piece, Proper, Shape, Shaped, flat, pieces}
use Rattle.grammar.specs.Recording.{opening, closing, blank, newline, word, small, wide}
use Rattle.grammar.proofs.Judged.{tracks_legal, just_one}
use Rattle.grammar.proofs.OneText.{one_recording}
use Rattle.text.specs.Ranges.{FirstOut, InRange}
use Rattle.text.specs.Reading.{Reading, Right, long, wrong, early, outside, reads}
use Rattle.text.specs.Theorems.{OneReading}

-- whether a piece is in range
in_range_lem : (p : Piece) → Dec (InRange p)
in_range_lem opening = yes tt
in_range_lem closing = yes tt
in_range_lem blank = yes tt
in_range_lem newline = yes tt
in_range_lem (word w) = yes tt
in_range_lem (small n) = dec_le n 255
in_range_lem (wide z) = dec_lt (mag z) (2 ^ 31)

-- one more piece in range ahead of the first that is not
out_behind : (p : Piece) (ps : List Piece) → InRange p → (k : ℕ) × FirstOut ps k → (k : ℕ) × FirstOut (p ∷ ps) k
out_behind p ps h (k, (qs, o, rest, e, all, n, is)) = (length (flat (p ∷ qs)), (p ∷ qs, o, rest, ap (λ (l : List Piece). p ∷ l) e, (h, all), n, refl))

-- all pieces are in range, or there is a first that is not
all_or_out : (ps : List Piece) → All InRange ps ⊎ ((k : ℕ) × FirstOut ps k)
all_or_out [] = inl tt
all_or_out (p ∷ ps) =
    elim (in_range_lem p) [
      | yes h ↦ elim (all_or_out ps) [ inl all ↦ inl (h, all) | inr out ↦ inr (out_behind p ps h out) ]
      | no n ↦ inr (0, ([], p, ps, refl, tt, n, refl))
    ]

-- two first pieces out of range of one list have the same ahead of them
one_front : (qs us : List Piece) (p o : Piece) (rest more : List Piece) → qs ++ p ∷ rest ≡ us ++ o ∷ more → All InRange qs → All InRange us → (InRange p → ⊥) → (InRange o → ⊥) → qs ≡ us
one_front [] [] p o rest more e a b m n = refl
one_front [] (u ∷ us) p o rest more e a b m n = absurd (m (subst InRange (sym (head-eq_of_cons-eq e)) b.0))
one_front (q ∷ qs) [] p o rest more e a b m n = absurd (n (subst InRange (head-eq_of_cons-eq e) a.0))
one_front (q ∷ qs) (u ∷ us) p o rest more e a b m n =
    let first = head-eq_of_cons-eq e in
    let others = one_front qs us p o rest more (tail-eq_of_cons-eq e) a.1 b.1 m n in
    cc

one_out : (ps : List Piece) (k j : ℕ) → FirstOut ps k → FirstOut ps j → k ≡ j
one_out ps k j (qs, p, rest, e, a, m, is) (us, o, more, d, b, n, also) =
    is ∙ ap (λ (l : List Piece). length (flat l)) (one_front qs us p o rest more (sym e ∙ d) a b m n) ∙ sym also

-- where all are in range, none is out
at_middle : (qs : List Piece) (p : Piece) (rest : List Piece) → All InRange (qs ++ p ∷ rest) → InRange p
at_middle [] p rest a = a.0
at_middle (q ∷ qs) p rest a = at_middle qs p rest a.1

none_out : (ps : List Piece) (k : ℕ) → All InRange ps → FirstOut ps k → ⊥
none_out ps k a (qs, p, rest, e, b, m, is) = m (at_middle qs p rest (subst (λ (l : List Piece). All InRange l) e a))

-- the shape that an answer tells, and the answer of a shape that is not whole
abbrev shape : Reading → Shape
shape long = grammar.whole
shape (wrong k) = grammar.wrong k
shape early = grammar.early
shape (outside k) = grammar.whole
shape (reads r) = grammar.whole

abbrev flaw : Shape → Reading
flaw grammar.whole = long
flaw (grammar.wrong k) = wrong k
flaw grammar.early = early

flaw_shape : (a : Reading) → (shape a ≡ grammar.whole → ⊥) → a ≡ flaw (shape a)
flaw_shape long n = refl
flaw_shape (wrong k) n = refl
flaw_shape early n = refl
flaw_shape (outside k) n = absurd (n refl)
flaw_shape (reads r) n = absurd (n refl)

-- a text past the bound is too long, and nothing else
only_long : (t : List ℕ) → 60000 < length t → (b : Reading) → Right t b → b ≡ long
only_long t h long x = refl
only_long t h (wrong k) (w, x) = absurd (omega arith)
only_long t h early (w, x) = absurd (omega arith)
only_long t h (outside k) (w, x) = absurd (omega arith)
only_long t h (reads r) (w, p, e, all) = absurd (omega arith)

-- a text within the bound
module _ (t : List ℕ) (within : length t ≤ 60000) where
  not_long : Right t long → ⊥
  not_long x = let h : 60000 < length t = x in omega arith

  shaped : (a : Reading) → Right t a → Shaped Legal t (shape a)
  shaped long x = absurd (not_long x)
  shaped (wrong k) (w, x) = x
  shaped early (w, x) = x
  shaped (outside k) (w, (r, p, e, out)) = (r, p, e)
  shaped (reads r) (w, p, e, all) = (r, p, e)

  -- a text that is not legal
  only_flaw : (s : Shape) → (s ≡ grammar.whole → ⊥) → ((q : Shape) → Shaped Legal t q → q ≡ s) → (b : Reading) → Right t b → b ≡ flaw s
  only_flaw s n one b x = let e = one (shape b) (shaped b x) in flaw_shape b (λ h. n (sym e ∙ h)) ∙ ap flaw e

  -- a legal text
  module _ (one : (q : Shape) → Shaped Legal t q → q ≡ grammar.whole) (r : grammar.Recording) (p : Proper r) (e : t ≡ flat (pieces r)) where
    same : (q : grammar.Recording) → Proper q → t ≡ flat (pieces q) → q ≡ r
    same q h d = one_recording q r h p (sym d ∙ e)

    only_reads : All InRange (pieces r) → (b : Reading) → Right t b → b ≡ reads r
    only_reads all long x = absurd (not_long x)
    only_reads all (wrong k) (w, x) = let h = one (grammar.wrong k) x in let z : ◌≡◌ {A = ℕ} 0 1 = cc in absurd (omega arith)
    only_reads all early (w, x) = let h = one grammar.early x in let z : ◌≡◌ {A = ℕ} 0 1 = cc in absurd (omega arith)
    only_reads all (outside k) (w, (q, h, d, out)) = absurd (none_out (pieces r) k all (subst (λ (g : grammar.Recording). FirstOut (pieces g) k) (same q h d) out))
    only_reads all (reads q) (w, h, d, also) = ap reads (same q h d)

    only_outside : (k : ℕ) → FirstOut (pieces r) k → (b : Reading) → Right t b → b ≡ outside k
    only_outside k out long x = absurd (not_long x)
    only_outside k out (wrong j) (w, x) = let h = one (grammar.wrong j) x in let z : ◌≡◌ {A = ℕ} 0 1 = cc in absurd (omega arith)
    only_outside k out early (w, x) = let h = one grammar.early x in let z : ◌≡◌ {A = ℕ} 0 1 = cc in absurd (omega arith)
    only_outside k out (outside j) (w, (q, h, d, also)) = ap outside (one_out (pieces r) j k (subst (λ (g : grammar.Recording). FirstOut (pieces g) j) (same q h d) also) out)
    only_outside k out (reads q) (w, h, d, all) = absurd (none_out (pieces r) k (subst (λ (g : grammar.Recording). All InRange (pieces g)) (same q h d) all) out)

  by_shape : (s : Shape) → Shaped Legal t s → ((q : Shape) → Shaped Legal t q → q ≡ s) → (a : Reading) × Right t a × ((b : Reading) → Right t b → b ≡ a)
  by_shape grammar.whole (r, p, e) one =
      elim (all_or_out (pieces r)) [
        | inl all ↦ (reads r, (within, p, e, all), only_reads one r p e all)
        | inr out ↦ (outside out.0, (within, (r, p, e, out.1)), only_outside one r p e out.0 out.1)
      ]
  by_shape (grammar.wrong k) x one = (wrong k, (within, x), only_flaw (grammar.wrong k) (λ h. let z : ◌≡◌ {A = ℕ} 0 1 = cc in omega arith) one)
  by_shape grammar.early x one = (early, (within, x), only_flaw grammar.early (λ h. let z : ◌≡◌ {A = ℕ} 0 1 = cc in omega arith) one)

pub one_reading : OneReading
one_reading t =
    let s = just_one Legal start tracks_legal t in
    elim (dec_le (length t) 60000) [
      | yes within ↦ by_shape t within s.0 s.1 s.2
      | no n ↦ let h : 60000 < length t = omega arith in (long, h, only_long t h)
    ]
