-- Places and runs, one byte on.
use Rattle.std.proofs.Common.{◌≡◌, ℕ, suc, ◌+◌, ◌-◌, ◌<◌, ◌≤◌, Bool, true, false, cond, eqb, List, [], ◌∷◌, ◌++◌, length, get_or, take, drop, Some, Option, sym, refl, ap, ◌∙◌, arith, length-drop, length-take, Bor}
use Rattle.std.proofs.lemmas.List.{take_more, drop-drop}
use Rattle.text.specs.declared.place.Place.{Place}
use Rattle.text.specs.declared.token.Sort.{Sort}
use Rattle.text.specs.declared.token.Sort.TheVariants.{Word, Number}
use Rattle.text.specs.declared.token.Token.{Token}
use Rattle.text.specs.declared.token.Token.TheVariants as token
use Rattle.text.specs.Places.{start, past, behind_all, byte_place}
use Rattle.text.specs.Tokens.{Lexeme, Next, lexeme, lexeme_as, is_digit, is_letter, placed, run, seen, size, skip, sort_of}

behind_push : (p : Place) (cs : List ℕ) (c : ℕ) → behind_all p (cs ++ c ∷ []) ≡ past (behind_all p cs) c
behind_push p [] c = refl
behind_push p (b ∷ bs) c = behind_push (past p b) bs c

-- the place of the next byte
pub place_more : (t : List ℕ) (k : ℕ) → k < length t → past (byte_place t k) (get_or t k 0) ≡ byte_place t (k + 1)
place_more t k h = sym (ap (behind_all start) (take_more t k 0 h) ∙ behind_push start (take k t) (get_or t k 0))

-- one byte on, of those that are left
pub place_on : (p q : Place) (c : ℕ) (left rest : List ℕ) (n m : ℕ) → left ≡ c ∷ rest → m + 1 ≡ n → q ≡ past p c → behind_all q (take m rest) ≡ behind_all p (take n left)
place_on p q c left rest n m first size is = let one : n ≡ suc m = omega arith in rw (first, one, is) refl

-- no line or column is past the count of the bytes ahead
pub past_line : (b : Bool) (p : Place) → (cond {A = Place} b (record { line = p.line + 1; column = 1 }) (record { line = p.line; column = p.column + 1 })).line ≤ p.line + 1
past_line true p = omega arith
past_line false p = omega arith

pub past_column : (b : Bool) (p : Place) → (cond {A = Place} b (record { line = p.line + 1; column = 1 }) (record { line = p.line; column = p.column + 1 })).column ≤ p.column + 1
past_column true p = omega arith
past_column false p = omega arith

behind_line : (p : Place) (cs : List ℕ) → (behind_all p cs).line ≤ p.line + length cs
behind_line p [] = omega arith
behind_line p (c ∷ cs) = omega (arith, behind_line (past p c) cs, past_line (eqb c 10) p)

behind_column : (p : Place) (cs : List ℕ) → (behind_all p cs).column ≤ p.column + length cs
behind_column p [] = omega arith
behind_column p (c ∷ cs) = omega (arith, behind_column (past p c) cs, past_column (eqb c 10) p)

pub line_le : (t : List ℕ) (k : ℕ) → (byte_place t k).line ≤ k + 1
line_le t k = omega (arith, behind_line start (take k t), length-take k t)

pub column_le : (t : List ℕ) (k : ℕ) → (byte_place t k).column ≤ k + 1
column_le t k = omega (arith, behind_column start (take k t), length-take k t)

-- a byte that begins a token is there
sort_some : (bs : List ℕ) (s : Sort) → sort_of bs ≡ Some s → 0 < length bs
sort_some [] s e = let z : ◌≡◌ {A = ℕ} 0 1 = cc in omega arith
sort_some (c ∷ cs) s e = omega arith

pub sort_within : (t : List ℕ) (i : ℕ) (s : Sort) → sort_of (drop i t) ≡ Some s → i < length t
sort_within t i s e = omega (arith, sort_some (drop i t) s e, length-drop i t)

one_or_none : (b : Bool) (r n : ℕ) → r ≤ n → cond b (suc r) 0 ≤ suc n
one_or_none true r n h = omega arith
one_or_none false r n h = omega arith

run_le : (k : ℕ → Bool) (bs : List ℕ) → run k bs ≤ length bs
run_le k [] = omega arith
run_le k (c ∷ cs) = one_or_none (k c) (run k cs) (length cs) (run_le k cs)

-- a run behind the first byte, as a part of the text
module _ (t : List ℕ) (b e : ℕ) (k : ℕ → Bool) (here : b < length t) (end : e ≡ b + 1 + run k (drop (b + 1) t)) where
  behind_first : run k (drop (b + 1) t) ≡ run k (drop 1 (drop b t))
  behind_first = ap (run k) (sym (drop-drop 1 b t))

  pub part_is : take (e - b) (drop b t) ≡ take (suc (run k (drop 1 (drop b t)))) (drop b t)
  part_is = let size : e - b ≡ suc (run k (drop 1 (drop b t))) = omega (arith, behind_first, end) in ap (λ (n : ℕ). take n (drop b t)) size

  pub part_size : e ≡ b + length (take (suc (run k (drop 1 (drop b t)))) (drop b t))
  part_size =
      omega (arith, behind_first, end, length-take (suc (run k (drop 1 (drop b t)))) (drop b t), run_le k (drop 1 (drop b t)), length-drop 1 (drop b t), length-drop b t)

as_sort : (s : Sort) (bs : List ℕ) → sort_of bs ≡ Some s → lexeme bs ≡ lexeme_as (Some s) bs
as_sort s bs e = ap (λ (o : Option Sort). lexeme_as o bs) e

-- what is read from the place b behind the blanks
module _ (t was : List ℕ) (k b e : ℕ) (p : Place) (same : was ≡ t) (from : b ≡ skip t k) (at : p ≡ byte_place was b) where
  next_at : (r : Option Token) → seen r ≡ placed (lexeme (drop b was)) p → e ≡ b + size (lexeme (drop b was)) → Next t k r e
  next_at r told end = record { token = cc; end = cc }

  pub next_word : (w : Bor (List ℕ)) → sort_of (drop b was) ≡ Some Word → e ≡ b + 1 + run is_letter (drop (b + 1) was) → w.now ≡ take (e - b) (drop b was) → Next t k (Some (token.Word w p)) e
  next_word w s end is =
      let here = sort_within was b Word s in
      let l = as_sort Word (drop b was) s in
      let x = is ∙ part_is was b e is_letter here end in
      let y = part_size was b e is_letter here end in
      next_at (Some (token.Word w p)) (cc) (y ∙ ap (λ (o : Option Lexeme). b + size o) (sym l))

  pub next_number : (w : Bor (List ℕ)) → sort_of (drop b was) ≡ Some Number → e ≡ b + 1 + run is_digit (drop (b + 1) was) → w.now ≡ take (e - b) (drop b was) → Next t k (Some (token.Number w p)) e
  next_number w s end is =
      let here = sort_within was b Number s in
      let l = as_sort Number (drop b was) s in
      let x = is ∙ part_is was b e is_digit here end in
      let y = part_size was b e is_digit here end in
      next_at (Some (token.Number w p)) (cc) (y ∙ ap (λ (o : Option Lexeme). b + size o) (sym l))
