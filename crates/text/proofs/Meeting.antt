-- The next token of a text that is made of pieces.
use Rattle.std.proofs.Common.{◌≡◌, ℕ, suc, ◌+◌, ◌^◌, ◌<◌, Bool, true, false, cond, List, [], ◌∷◌, ◌++◌, length, take, drop, pos, negsuc, Some, None, decimal, Option, sym, refl, ap, ◌∙◌, subst, append_assoc, arith, length-append}
use Rattle.std.specs.Str.Parse.{AllDigits}
use Rattle.std.specs.Int.{IsInRange}
use Rattle.std.specs.Fmt.{signed_decimal}
use Rattle.std.proofs.lemmas.Fmt.{decimal_is_IsNumeral}
use Rattle.std.proofs.lemmas.List.{append-nil, drop_at, take_at}
use Rattle.std.proofs.lemmas.Str.Parse.{digit_from_value}
use Rattle.std.proofs.lemmas.Bool.Decides.{nat_tests}
use Rattle.grammar.specs.Recording.{All, Piece, bytes, flat}
use Rattle.grammar.specs.Recording.{opening, closing, blank, newline, word, small, wide}
use Rattle.text.specs.declared.reader.Reader.{Reader}
use Rattle.text.specs.declared.token.Sort.{Sort}
use Rattle.text.specs.declared.token.Sort.TheVariants.{Word, Number}
use Rattle.text.specs.Places.{byte_place}
use Rattle.text.specs.Ranges.{FirstOut, InRange}
use Rattle.text.specs.Tokens.{Lexeme, ahead, begins, left_bracket, letters, lexeme, lexeme_as, numeral, is_blank, is_digit, is_letter, placed, right_bracket, run, size, skip, sort_of_byte}
use Rattle.text.specs.Standing.{Moved, Neat, Stand, Stops, token_of, trim}
use Rattle.text.proofs.Numerals.{small_range}

-- lists of pieces
pub flat_append : (ps qs : List Piece) → flat (ps ++ qs) ≡ flat ps ++ flat qs
flat_append [] qs = refl
flat_append (p ∷ ps) qs = ap (λ (x : List ℕ). bytes p ++ x) (flat_append ps qs) ∙ sym (append_assoc (bytes p) (flat ps) (flat qs))

pub all_append : (ps qs : List Piece) → All InRange ps → All InRange qs → All InRange (ps ++ qs)
all_append [] qs a b = b
all_append (p ∷ ps) qs a b = (a.0, all_append ps qs a.1 b)

-- a run of the kind, and what stops it
cond_suc : (b : Bool) (r n : ℕ) → cond b (suc r) 0 ≡ suc n → (b ≡ true) × (r ≡ n)
cond_suc true r n e = (refl, omega arith)
cond_suc false r n e = let z : ⊥ = omega arith in elim z [ ]

run_stop : (k : ℕ → Bool) (w rest : List ℕ) → run k w ≡ length w → run k rest ≡ 0 → run k (w ++ rest) ≡ length w
run_stop k [] rest all stop = stop
run_stop k (c ∷ cs) rest all stop =
    let h = cond_suc (k c) (run k cs) (length cs) all in
    ap (λ (b : Bool). cond b (suc (run k (cs ++ rest))) 0) h.0 ∙ ap suc (run_stop k cs rest h.1 stop)

letter_sort : (c : ℕ) (d : Bool) → is_letter c ≡ true → sort_of_byte c d ≡ Some Word
letter_sort c d e = grind (arith, nat_tests)

digit_sort : (c : ℕ) (d : Bool) → is_digit c ≡ true → sort_of_byte c d ≡ Some Number
digit_sort c d e = grind (arith, nat_tests)

letter_not_blank : (c : ℕ) → is_letter c ≡ true → is_blank c ≡ false
letter_not_blank c e = grind (arith, nat_tests)

digit_not_blank : (c : ℕ) → is_digit c ≡ true → is_blank c ≡ false
digit_not_blank c e = grind (arith, nat_tests)

in_digit : (c : ℕ) → IsInRange 48 57 c → is_digit c ≡ true
in_digit c i = grind (arith, nat_tests)

-- a word, digits, and digits behind a minus
word_lexeme : (w rest : List ℕ) → 0 < length w → run is_letter w ≡ length w → run is_letter rest ≡ 0 → lexeme (w ++ rest) ≡ Some (letters w)
word_lexeme [] rest some all stop = let z : ⊥ = omega arith in elim z [ ]
word_lexeme (c ∷ cs) rest some all stop =
    let h = cond_suc (is_letter c) (run is_letter cs) (length cs) all in
    ap (λ (o : Option Sort). lexeme_as o (c ∷ cs ++ rest)) (letter_sort c (begins is_digit (cs ++ rest)) h.0)
    ∙ ap (λ (n : ℕ). Some (letters (take (suc n) (c ∷ cs ++ rest)))) (run_stop is_letter cs rest h.1 stop)
    ∙ ap (λ (x : List ℕ). Some (letters (c ∷ x))) (take_at cs rest (length cs) refl)

digits_lexeme : (w rest : List ℕ) → 0 < length w → run is_digit w ≡ length w → run is_digit rest ≡ 0 → lexeme (w ++ rest) ≡ Some (numeral w)
digits_lexeme [] rest some all stop = let z : ⊥ = omega arith in elim z [ ]
digits_lexeme (c ∷ cs) rest some all stop =
    let h = cond_suc (is_digit c) (run is_digit cs) (length cs) all in
    ap (λ (o : Option Sort). lexeme_as o (c ∷ cs ++ rest)) (digit_sort c (begins is_digit (cs ++ rest)) h.0)
    ∙ ap (λ (n : ℕ). Some (numeral (take (suc n) (c ∷ cs ++ rest)))) (run_stop is_digit cs rest h.1 stop)
    ∙ ap (λ (x : List ℕ). Some (numeral (c ∷ x))) (take_at cs rest (length cs) refl)

begins_front : (w rest : List ℕ) → 0 < length w → run is_digit w ≡ length w → begins is_digit (w ++ rest) ≡ true
begins_front [] rest some all = let z : ⊥ = omega arith in elim z [ ]
begins_front (c ∷ cs) rest some all = (cond_suc (is_digit c) (run is_digit cs) (length cs) all).0

minus_lexeme : (w rest : List ℕ) → 0 < length w → run is_digit w ≡ length w → run is_digit rest ≡ 0 → lexeme (45 ∷ w ++ rest) ≡ Some (numeral (45 ∷ w))
minus_lexeme w rest some all stop =
    ap (λ (b : Bool). lexeme_as (sort_of_byte 45 b) (45 ∷ w ++ rest)) (begins_front w rest some all)
    ∙ ap (λ (n : ℕ). Some (numeral (take (suc n) (45 ∷ w ++ rest)))) (run_stop is_digit w rest all stop)
    ∙ ap (λ (x : List ℕ). Some (numeral (45 ∷ x))) (take_at w rest (length w) refl)

digits-run : (ds : List ℕ) → AllDigits 10 ds → run is_digit ds ≡ length ds
digits-run [] d = refl
digits-run (c ∷ cs) d =
    ap (λ (b : Bool). cond b (suc (run is_digit cs)) 0) (in_digit c (digit_from_value c d.0)) ∙ ap suc (digits-run cs d.1)

decimal_solid : (n : ℕ) → n < 2 ^ 64 → (0 < length (decimal n)) × (run is_digit (decimal n) ≡ length (decimal n))
decimal_solid n h = let d = decimal_is_IsNumeral n h in (d.0.0, digits-run (decimal n) d.0.1)

no_letter : (ps : List Piece) → Stops ps → run is_letter (flat ps) ≡ 0
no_letter [] s = refl
no_letter (opening ∷ ps) s = refl
no_letter (closing ∷ ps) s = refl
no_letter (blank ∷ ps) s = refl
no_letter (newline ∷ ps) s = refl
no_letter (word w ∷ ps) s = elim s [ ]
no_letter (small n ∷ ps) s = elim s [ ]
no_letter (wide z ∷ ps) s = elim s [ ]

no_digit : (ps : List Piece) → Stops ps → run is_digit (flat ps) ≡ 0
no_digit [] s = refl
no_digit (opening ∷ ps) s = refl
no_digit (closing ∷ ps) s = refl
no_digit (blank ∷ ps) s = refl
no_digit (newline ∷ ps) s = refl
no_digit (word w ∷ ps) s = elim s [ ]
no_digit (small n ∷ ps) s = elim s [ ]
no_digit (wide z ∷ ps) s = elim s [ ]

piece_lexeme : (p : Piece) (rest : List Piece) → Neat (p ∷ rest) → lexeme (bytes p ++ flat rest) ≡ token_of p
piece_lexeme opening rest n = refl
piece_lexeme closing rest n = refl
piece_lexeme blank rest n = refl
piece_lexeme newline rest n = refl
piece_lexeme (word w) rest n = word_lexeme w (flat rest) n.0 n.1 (no_letter rest n.2)
piece_lexeme (small k) rest n =
    let d = decimal_solid k (small_range k n.0) in digits_lexeme (decimal k) (flat rest) d.0 d.1 (no_digit rest n.1)
piece_lexeme (wide (pos k)) rest n =
    let d = decimal_solid k (small_range k n.0) in digits_lexeme (decimal k) (flat rest) d.0 d.1 (no_digit rest n.1)
piece_lexeme (wide (negsuc k)) rest n =
    let h = n.0 in
    let d = decimal_solid (suc k) (omega arith) in minus_lexeme (decimal (suc k)) (flat rest) d.0 d.1 (no_digit rest n.1)

piece_size : (p : Piece) (x : Lexeme) → token_of p ≡ Some x → size (token_of p) ≡ length (bytes p)
piece_size opening x e = refl
piece_size closing x e = refl
piece_size blank x e = let z : ◌≡◌ {A = ℕ} 0 1 = cc in z
piece_size newline x e = let z : ◌≡◌ {A = ℕ} 0 1 = cc in z
piece_size (word w) x e = refl
piece_size (small n) x e = refl
piece_size (wide z) x e = refl

-- the blanks and line ends in front
gap : List Piece → List Piece
gap [] = []
gap (blank ∷ ps) = blank ∷ gap ps
gap (newline ∷ ps) = newline ∷ gap ps
gap (opening ∷ ps) = []
gap (closing ∷ ps) = []
gap (word w ∷ ps) = []
gap (small n ∷ ps) = []
gap (wide z ∷ ps) = []

gap_trim : (ps : List Piece) → ps ≡ gap ps ++ trim ps
unfolding gap
gap_trim [] = refl
gap_trim (blank ∷ ps) = ap (λ (x : List Piece). blank ∷ x) (gap_trim ps)
gap_trim (newline ∷ ps) = ap (λ (x : List Piece). newline ∷ x) (gap_trim ps)
gap_trim (opening ∷ ps) = refl
gap_trim (closing ∷ ps) = refl
gap_trim (word w ∷ ps) = refl
gap_trim (small n ∷ ps) = refl
gap_trim (wide z ∷ ps) = refl

gap_fits : (ps : List Piece) → All InRange (gap ps)
unfolding gap
gap_fits [] = tt
gap_fits (blank ∷ ps) = (tt, gap_fits ps)
gap_fits (newline ∷ ps) = (tt, gap_fits ps)
gap_fits (opening ∷ ps) = tt
gap_fits (closing ∷ ps) = tt
gap_fits (word w ∷ ps) = tt
gap_fits (small n ∷ ps) = tt
gap_fits (wide z ∷ ps) = tt

not_blank : (k : ℕ → Bool) (w rest : List ℕ) → ((c : ℕ) → k c ≡ true → is_blank c ≡ false) → 0 < length w → run k w ≡ length w → run is_blank (w ++ rest) ≡ 0
not_blank k [] rest apart some all = let z : ⊥ = omega arith in elim z [ ]
not_blank k (c ∷ cs) rest apart some all =
    ap (λ (b : Bool). cond b (suc (run is_blank (cs ++ rest))) 0) (apart c (cond_suc (k c) (run k cs) (length cs) all).0)

gap_run : (ps : List Piece) → Neat ps → run is_blank (flat ps) ≡ length (flat (gap ps))
unfolding gap
gap_run [] n = refl
gap_run (blank ∷ ps) n = ap suc (gap_run ps n)
gap_run (newline ∷ ps) n = ap suc (gap_run ps n)
gap_run (opening ∷ ps) n = refl
gap_run (closing ∷ ps) n = refl
gap_run (word w ∷ ps) n = not_blank is_letter w (flat ps) letter_not_blank n.0 n.1
gap_run (small k ∷ ps) n =
    let d = decimal_solid k (small_range k n.0) in not_blank is_digit (decimal k) (flat ps) digit_not_blank d.0 d.1
gap_run (wide (pos k) ∷ ps) n =
    let d = decimal_solid k (small_range k n.0) in not_blank is_digit (decimal k) (flat ps) digit_not_blank d.0 d.1
gap_run (wide (negsuc k) ∷ ps) n = refl

trim_neat : (ps : List Piece) → Neat ps → Neat (trim ps)
trim_neat [] n = n
trim_neat (blank ∷ ps) n = trim_neat ps n
trim_neat (newline ∷ ps) n = trim_neat ps n
trim_neat (opening ∷ ps) n = n
trim_neat (closing ∷ ps) n = n
trim_neat (word w ∷ ps) n = n
trim_neat (small k ∷ ps) n = n
trim_neat (wide z ∷ ps) n = n

neat_rest : (p : Piece) (ps : List Piece) → Neat (p ∷ ps) → Neat ps
neat_rest opening ps n = n
neat_rest closing ps n = n
neat_rest blank ps n = n
neat_rest newline ps n = n
neat_rest (word w) ps n = n.3
neat_rest (small k) ps n = n.2
neat_rest (wide z) ps n = n.2

pub trim_token : (ps : List Piece) (p : Piece) (rest : List Piece) → trim ps ≡ p ∷ rest → (x : Lexeme) × (token_of p ≡ Some x)
trim_token [] p rest e = let z : ◌≡◌ {A = ℕ} 0 1 = cc in let n : ⊥ = omega arith in elim n [ ]
trim_token (blank ∷ ps) p rest e = trim_token ps p rest e
trim_token (newline ∷ ps) p rest e = trim_token ps p rest e
trim_token (opening ∷ ps) p rest e = let same : p ≡ opening = cc in (left_bracket, ap token_of same)
trim_token (closing ∷ ps) p rest e = let same : p ≡ closing = cc in (right_bracket, ap token_of same)
trim_token (word w ∷ ps) p rest e = let same : p ≡ word w = cc in (letters w, ap token_of same)
trim_token (small n ∷ ps) p rest e = let same : p ≡ small n = cc in (numeral (decimal n), ap token_of same)
trim_token (wide z ∷ ps) p rest e = let same : p ≡ wide z = cc in (numeral (signed_decimal z), ap token_of same)

-- where the pieces behind the blanks begin
pub record At (whole : List Piece) (s : Reader) (ps : List Piece) : Type 0 where
  pub front : List Piece
  pub split : whole ≡ front ++ ps
  pub fits : All InRange front
  pub skips : skip s.text.now s.at ≡ length (flat front)
  pub drops : drop (skip s.text.now s.at) s.text.now ≡ flat ps
  pub neat : Neat ps

after_gap : (whole : List Piece) (s : Reader) (ps : List Piece) → Stand whole s ps → At whole s (trim ps)
after_gap whole s ps st =
    let done = st.done in
    let front = done ++ gap ps in
    let t = s.text.now in
    let split : whole ≡ front ++ trim ps = st.split ∙ ap (λ (x : List Piece). done ++ x) (gap_trim ps) ∙ sym (append_assoc done (gap ps) (trim ps)) in
    let text : t ≡ flat done ++ flat ps = st.text ∙ ap flat st.split ∙ flat_append done ps in
    let rest : drop s.at t ≡ flat ps = ap (drop s.at) text ∙ drop_at (flat done) (flat ps) s.at (sym st.at) in
    let blanks : run is_blank (drop s.at t) ≡ length (flat (gap ps)) = ap (run is_blank) rest ∙ gap_run ps st.neat in
    let long : length (flat front) ≡ length (flat done) + length (flat (gap ps)) = ap length (flat_append done (gap ps)) ∙ length-append (flat done) (flat (gap ps)) in
    let skips : skip t s.at ≡ length (flat front) = omega (arith, blanks, long, st.at) in
    let whole-text : t ≡ flat front ++ flat (trim ps) = st.text ∙ ap flat split ∙ flat_append front (trim ps) in
    record {
      front = front;
      split = split;
      fits = all_append done (gap ps) st.fits (gap_fits ps);
      skips = skips;
      drops = ap (drop (skip t s.at)) whole-text ∙ drop_at (flat front) (flat (trim ps)) (skip t s.at) (sym skips);
      neat = trim_neat ps st.neat;
    }

-- the reader s passes the piece p, and is e then
pub record Met (whole : List Piece) (s : Reader) (p : Piece) (rest : List Piece) (e : Reader) : Type 0 where
  pub from : ℕ
  pub token : ahead s.text.now s.at ≡ placed (token_of p) (byte_place (flat whole) from)
  pub goes : InRange p → Stand whole e rest
  pub stops : (InRange p → ⊥) → FirstOut whole from
  pub neat : Neat (p ∷ rest)

met_at : (whole : List Piece) (s : Reader) (p : Piece) (rest : List Piece) (e : Reader) (x : Lexeme) → token_of p ≡ Some x → s.text.now ≡ flat whole → At whole s (p ∷ rest) → Moved s e → Met whole s p rest e
met_at whole s p rest e x is text at m =
    let t = s.text.now in
    let front = at.front in
    let from : ℕ = length (flat front) in
    let lex : lexeme (drop (skip t s.at) t) ≡ token_of p = ap lexeme at.drops ∙ piece_lexeme p rest at.neat in
    let long : length (flat (front ++ p ∷ [])) ≡ from + length (bytes p) = ap length (flat_append front (p ∷ [])) ∙ length-append (flat front) (bytes p ++ []) ∙ ap (λ (w : List ℕ). from + length w) (append-nil (bytes p)) in
    let wide : size (lexeme (drop (skip t s.at) t)) ≡ length (bytes p) = ap size lex ∙ piece_size p x is in
    record {
      from = from;
      token = ap (λ (o : Option Lexeme). placed o (byte_place t (skip t s.at))) lex ∙ ap (λ (k : ℕ). placed (token_of p) (byte_place t k)) at.skips ∙ ap (λ (w : List ℕ). placed (token_of p) (byte_place w from)) text;
      goes = λ fits. record {
        done = front ++ p ∷ [];
        split = at.split ∙ sym (append_assoc front (p ∷ []) rest);
        fits = all_append front (p ∷ []) at.fits (fits, tt);
        text = m.text ∙ text;
        at = omega (arith, m.at, at.skips, wide, long);
        neat = neat_rest p rest at.neat;
      };
      stops = λ out. (front, p, rest, at.split, at.fits, out, refl);
      neat = at.neat;
    }

pub meet : {whole ps rest : List Piece} {p : Piece} {s e : Reader} → Stand whole s ps → trim ps ≡ p ∷ rest → Moved s e → Met whole s p rest e
meet {whole} {ps} {rest} {p} {s} {e} st is m =
    let x = trim_token ps p rest is in
    met_at whole s p rest e x.0 x.1 st.text (subst (λ (qs : List Piece). At whole s qs) is (after_gap whole s ps st)) m

-- past the blanks
pub stand_trimmed : {whole ps : List Piece} {s e : Reader} → Stand whole s ps → e.text.now ≡ s.text.now → e.at ≡ skip s.text.now s.at → Stand whole e (trim ps)
stand_trimmed {whole} {ps} {s} {e} st text at =
    let a = after_gap whole s ps st in
    record { done = a.front; split = a.split; fits = a.fits; text = text ∙ st.text; at = at ∙ a.skips; neat = a.neat }

-- nothing but blanks is left
pub meet_end : {whole ps : List Piece} {s : Reader} → Stand whole s ps → trim ps ≡ [] → (ahead s.text.now s.at ≡ None) × All InRange whole
meet_end {whole} {ps} {s} st is =
    let a = subst (λ (qs : List Piece). At whole s qs) is (after_gap whole s ps st) in
    let t = s.text.now in
    (ap (λ (w : List ℕ). placed (lexeme w) (byte_place t (skip t s.at))) a.drops, subst (λ (qs : List Piece). All InRange qs) (sym (a.split ∙ append-nil a.front)) a.fits)
