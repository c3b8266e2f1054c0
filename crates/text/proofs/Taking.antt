-- What is read of the next token.
use Rattle.std.proofs.Common.{◌≡◌, ℕ, zero, suc, ◌^◌, ◌<◌, Bool, true, false, ltb, leb, List, [], ◌∷◌, drop, ℤ, Some, None, Err, Option, Result, sym, refl, ap, ◌∙◌, subst, arith}
use lib.Signed.{mag}
use Rattle.std.proofs.lemmas.Bool.Decides.{nat_tests}
use Rattle.events.specs.declared.kind.Kind.{Kind}
use Rattle.events.specs.declared.event.Action.{Action}
use Rattle.grammar.specs.Recording.{Piece, bytes, ending, flat}
use Rattle.grammar.specs.Recording.{opening, closing, blank, newline, word, small, wide}
use Rattle.text.specs.declared.place.Place.{Place}
use Rattle.text.specs.declared.reader.Reader.{Reader}
use Rattle.text.specs.declared.fault.TextFault.{TextFault}
use Rattle.text.specs.declared.token.Token.{Token}
use Rattle.text.specs.declared.token.Sort.{Sort}
use Rattle.text.specs.declared.token.Sort.TheVariants as sort
use Rattle.text.specs.Places.{byte_place}
use Rattle.text.specs.Ranges.{InRange, Short, fitting, if_fits}
use Rattle.text.specs.Tokens.{Lexeme, ahead, lexeme, lexeme_as, Next, kind_in, number_in, numeral, passed, placed, size, skip, sort_of, word_in}
use Rattle.text.specs.Standing.{Moved, Onward, Outside, Taken, is_number, token_of}
use Rattle.text.proofs.Meeting.{Met}

-- a token that comes next is passed
lexeme_some : (o : Option Sort) (c : ℕ) (cs : List ℕ) (p : Place) (x : Lexeme × Place) → placed (lexeme_as o (c ∷ cs)) p ≡ Some x → 0 < size (lexeme_as o (c ∷ cs))
lexeme_some None c cs p x e = let z : ◌≡◌ {A = ℕ} 0 1 = cc in omega arith
lexeme_some (Some sort.Open) c cs p x e = omega arith
lexeme_some (Some sort.Close) c cs p x e = omega arith
lexeme_some (Some sort.Word) c cs p x e = omega arith
lexeme_some (Some sort.Number) c cs p x e = omega arith

bytes_some : (bs : List ℕ) (p : Place) (x : Lexeme × Place) → placed (lexeme bs) p ≡ Some x → 0 < size (lexeme bs)
bytes_some [] p x e = let z : ◌≡◌ {A = ℕ} 0 1 = cc in omega arith
bytes_some (c ∷ cs) p x e = lexeme_some (sort_of (c ∷ cs)) c cs p x e

pub token_moves : (t : List ℕ) (k : ℕ) (x : Lexeme × Place) → ahead t k ≡ Some x → k < passed t k
token_moves t k x e = omega (arith, bytes_some (drop (skip t k) t) (byte_place t (skip t k)) x e)

pub moved_onward : {s e : Reader} → Moved s e → Onward s e
moved_onward m = record { text = m.text; at = omega (arith, m.at) }

-- the word that comes next
module _ {whole rest : List Piece} {s e : Reader} {w : List ℕ} (m : Met whole s (word w) rest e) where
  word_met : word_in (ahead s.text.now s.at) ≡ Some w
  word_met = ap word_in m.token

  pub kind_none : (None ≡ word_in (ahead s.text.now s.at)) → ⊥
  kind_none e = let same = e ∙ word_met in let z : ◌≡◌ {A = ℕ} 0 1 = cc in omega arith

  pub kind_some : (v : List ℕ) (r : Option Kind) → Some v ≡ word_in (ahead s.text.now s.at) → r ≡ kind_in v → r ≡ kind_in w
  kind_some v r e is = let same = e ∙ word_met in let vw : v ≡ w = cc in is ∙ ap kind_in vw

-- a word that comes next is passed
word_some : (o : Option (Lexeme × Place)) (v : List ℕ) → Some v ≡ word_in o → (x : Lexeme × Place) × (o ≡ Some x)
word_some None v e = let z : ◌≡◌ {A = ℕ} 0 1 = cc in let n : ⊥ = omega arith in elim n [ ]
word_some (Some x) v e = (x, refl)

pub word_moves : {s e : Reader} (v : List ℕ) → Some v ≡ word_in (ahead s.text.now s.at) → Moved s e → s.at < e.at
word_moves {s} {e} v told m =
    let x = word_some (ahead s.text.now s.at) v told in omega (arith, m.at, token_moves s.text.now s.at x.0 x.1)

pub next_moved : {s e : Reader} {r : Option Token} → e.text.now ≡ s.text.now → Next s.text.now s.at r e.at → Moved s e
next_moved text n = record { text = text; at = n.end }

-- the end of an event line
pub ending_value : (k : ℕ) (z : ℤ) (more : List Piece) → k < 3 → ending k z more ≡ blank ∷ wide z ∷ more
ending_value zero z more h = refl
ending_value (suc zero) z more h = refl
ending_value (suc (suc zero)) z more h = refl
ending_value (suc (suc (suc k))) z more h = let n : ⊥ = omega arith in elim n [ ]

-- by the test of the range
taken_by : {A : Type 0} {whole rest : List Piece} {s e : Reader} {p : Piece} (m : Met whole s p rest e) (b : Bool) (x : A) (r : Result A TextFault) → r ≡ if_fits b x (byte_place (flat whole) m.from) → (b ≡ true → InRange p) → (b ≡ false → InRange p → ⊥) → Taken whole e x rest r
taken_by {A} {whole} {rest} {s} {e} m true x r is within out =
    subst (λ (q : Result A TextFault). Taken whole e x rest q) (sym is) (refl, m.goes (within refl))
taken_by {A} {whole} {rest} {s} {e} m false x r is within out =
    subst (λ (q : Result A TextFault). Taken whole e x rest q) (sym is) (m.from, m.stops (out refl), refl)

-- a piece that is a number is handed out as one
module _ {whole rest : List Piece} {s e : Reader} {p : Piece} (m : Met whole s p rest e) (d : List ℕ) (is : token_of p ≡ Some (numeral d)) where
  pub number_met : number_in (ahead s.text.now s.at) ≡ Some (d, byte_place (flat whole) m.from)
  number_met = ap number_in (m.token ∙ ap (λ (o : Option Lexeme). placed o (byte_place (flat whole) m.from)) is)

  pub never_none : None ≡ number_in (ahead s.text.now s.at) → ⊥
  never_none e = let same = e ∙ number_met in let z : ◌≡◌ {A = ℕ} 0 1 = cc in omega arith

  pub handed_met : (w : List ℕ) (at : Place) → Some (w, at) ≡ number_in (ahead s.text.now s.at) → (w ≡ d) × (at ≡ byte_place (flat whole) m.from)
  handed_met w at e =
      let same = e ∙ number_met in
      let pair : (w, at) ≡ (d, byte_place (flat whole) m.from) = cc in
      (ap (λ (x : List ℕ × Place). x.0) pair, ap (λ (x : List ℕ × Place). x.1) pair)

numeral_of : (p : Piece) → is_number p ≡ true → token_of p ≡ Some (numeral (bytes p))
numeral_of (small n) e = refl
numeral_of (wide z) e = refl
numeral_of opening e = let z : ◌≡◌ {A = ℕ} 0 1 = cc in let n : ⊥ = omega arith in elim n [ ]
numeral_of closing e = let z : ◌≡◌ {A = ℕ} 0 1 = cc in let n : ⊥ = omega arith in elim n [ ]
numeral_of blank e = let z : ◌≡◌ {A = ℕ} 0 1 = cc in let n : ⊥ = omega arith in elim n [ ]
numeral_of newline e = let z : ◌≡◌ {A = ℕ} 0 1 = cc in let n : ⊥ = omega arith in elim n [ ]
numeral_of (word w) e = let z : ◌≡◌ {A = ℕ} 0 1 = cc in let n : ⊥ = omega arith in elim n [ ]

fitting_taken : {A : Type 0} {whole rest : List Piece} {s e : Reader} (p : Piece) (m : Met whole s p rest e) (x : A) (r : Result A TextFault) → is_number p ≡ true → (Short p → r ≡ fitting p x (byte_place (flat whole) m.from)) → Taken whole e x rest r
fitting_taken opening m x r is reads = let z : ◌≡◌ {A = ℕ} 0 1 = cc in let n : ⊥ = omega arith in elim n [ ]
fitting_taken closing m x r is reads = let z : ◌≡◌ {A = ℕ} 0 1 = cc in let n : ⊥ = omega arith in elim n [ ]
fitting_taken blank m x r is reads = let z : ◌≡◌ {A = ℕ} 0 1 = cc in let n : ⊥ = omega arith in elim n [ ]
fitting_taken newline m x r is reads = let z : ◌≡◌ {A = ℕ} 0 1 = cc in let n : ⊥ = omega arith in elim n [ ]
fitting_taken (word w) m x r is reads = let z : ◌≡◌ {A = ℕ} 0 1 = cc in let n : ⊥ = omega arith in elim n [ ]
fitting_taken (small n) m x r is reads = taken_by m (leb n 255) x r (reads m.neat.0) (λ y. grind (arith, nat_tests)) (λ n fits. grind (arith, nat_tests))
fitting_taken (wide z) m x r is reads = taken_by m (ltb (mag z) (2 ^ 31)) x r (reads m.neat.0) (λ y. grind (arith, nat_tests)) (λ n fits. grind (arith, nat_tests))

pub number_taken : {A : Type 0} {whole rest : List Piece} {s e : Reader} {p : Piece} (m : Met whole s p rest e) → is_number p ≡ true → (x : A) (w : List ℕ) (at : Place) (r : Result A TextFault) → Some (w, at) ≡ number_in (ahead s.text.now s.at) → (Short p → w ≡ bytes p → r ≡ fitting p x at) → Taken whole e x rest r
number_taken {A} {whole} {rest} {s} {e} {p} m is x w at r told reads =
    let h = handed_met m (bytes p) (numeral_of p is) w at told in
    fitting_taken p m x r is (λ short. reads short h.0 ∙ ap (fitting p x) h.1)

pub number_there : {whole rest : List Piece} {s e : Reader} {p : Piece} (m : Met whole s p rest e) → is_number p ≡ true → None ≡ number_in (ahead s.text.now s.at) → ⊥
number_there {whole} {rest} {s} {e} {p} m is told = never_none m (bytes p) (numeral_of p is) told

-- the exit of a `?`
pub outside_err : {A : Type 0} (whole rest : List Piece) (s : Reader) (x : A) {r : Result A TextFault} {f y : TextFault} → r ≡ Err y → y ≡ f → Outside whole f → Taken whole s x rest r
outside_err {A} whole rest s x is same out = subst (λ (q : Result A TextFault). Taken whole s x rest q) (sym (is ∙ ap Err same)) out

pub action_is : (a : Action) (t k s : ℕ) (v : ℤ) → t ≡ a.thread → k ≡ a.kind → s ≡ a.subject → v ≡ a.value → ◌≡◌ {A = Action} (record { thread = t; kind = k; subject = s; value = v }) a
action_is a t k s v et ek es ev = rw (et, ek, es, ev) refl
