-- The tokens of a text, and how far a reader moves by each.
use Rattle.std.specs.Prelude.{◌≡◌, ℕ, suc, ◌+◌, Bool, true, false, cond, List, [], ◌∷◌, length, take, drop, Some, None, codes, Option, ◌==◌, nat_le}
use Rattle.std.specs.Borrow.{Bor}
use Rattle.std.specs.Str.{bytes_eq}
use Rattle.events.specs.declared.kind.Kind.{Kind}
use Rattle.events.specs.declared.kind.Kind.TheVariants.{Internal, Read, Write, Acquire, Release}
use Rattle.text.specs.declared.place.Place.{Place}
use Rattle.text.specs.declared.token.Token.{Token}
use Rattle.text.specs.declared.token.Token.TheVariants as token
use Rattle.text.specs.declared.token.Sort.{Sort}
use Rattle.text.specs.declared.token.Sort.TheVariants.{Open, Close, Word, Number}
use Rattle.text.specs.Places.{byte_place}

-- c is at least low and at most high
abbrev pub between : ℕ → ℕ → ℕ → Bool
between low high c = cond (nat_le low c) (nat_le c high) false

-- a blank or line end, a letter a to z, a digit
abbrev pub is_blank : ℕ → Bool
is_blank c = cond (c == 32) true (c == 10)

abbrev pub is_letter : ℕ → Bool
is_letter c = between 97 122 c

abbrev pub is_digit : ℕ → Bool
is_digit c = between 48 57 c

-- the first byte is of the kind
abbrev pub begins : (ℕ → Bool) → List ℕ → Bool
begins is [] = false
begins is (c ∷ cs) = is c

-- how many bytes of the kind stand in front, up to the first that is not
abbrev pub run : (ℕ → Bool) → List ℕ → ℕ
run is [] = 0
run is (c ∷ cs) = cond (is c) (suc (run is cs)) 0

-- the calls of a test answer so
abbrev pub Tells : {F : Type 0} → (F → ℕ → Bool → Type 0) → F → (ℕ → Bool) → Type 0
Tells post f is = (c : ℕ) (b : Bool) → post f c b → b ≡ is c

-- which token a byte begins: a minus begins a number where a digit stands behind it
abbrev pub sort_of_byte : ℕ → Bool → Option Sort
sort_of_byte c digit =
    cond (c == 40) (Some Open)
    (cond (c == 41) (Some Close)
    (cond (is_letter c) (Some Word)
    (cond (is_digit c) (Some Number)
    (cond (c == 45) (cond digit (Some Number) None) None))))

-- which token the bytes begin with
abbrev pub sort_of : List ℕ → Option Sort
sort_of [] = None
sort_of (c ∷ cs) = sort_of_byte c (begins is_digit cs)

-- a token apart from its place
pub data Lexeme : Type 0 where
  left_bracket right_bracket : Lexeme
  letters numeral : List ℕ → Lexeme

-- a word is a run of letters, and a number a run of digits behind its first byte
abbrev pub lexeme_as : Option Sort → List ℕ → Option Lexeme
lexeme_as None bs = None
lexeme_as (Some Open) bs = Some left_bracket
lexeme_as (Some Close) bs = Some right_bracket
lexeme_as (Some Word) bs = Some (letters (take (suc (run is_letter (drop 1 bs))) bs))
lexeme_as (Some Number) bs = Some (numeral (take (suc (run is_digit (drop 1 bs))) bs))

-- what the bytes begin with
abbrev pub lexeme : List ℕ → Option Lexeme
lexeme bs = lexeme_as (sort_of bs) bs

-- how many bytes it takes
abbrev pub size : Option Lexeme → ℕ
size None = 0
size (Some left_bracket) = 1
size (Some right_bracket) = 1
size (Some (letters w)) = length w
size (Some (numeral w)) = length w

-- a token with its place, and what a reader handed out
abbrev pub placed : Option Lexeme → Place → Option (Lexeme × Place)
placed None p = None
placed (Some x) p = Some (x, p)

abbrev pub seen : Option Token → Option (Lexeme × Place)
seen None = None
seen (Some (token.Open p)) = Some (left_bracket, p)
seen (Some (token.Close p)) = Some (right_bracket, p)
seen (Some (token.Word w p)) = Some (letters w.now, p)
seen (Some (token.Number w p)) = Some (numeral w.now, p)

-- how many bytes are passed when the blanks and line ends behind the first k are
abbrev pub skip : List ℕ → ℕ → ℕ
skip t k = k + run is_blank (drop k t)

-- the token that comes next behind k bytes of the text, and how many bytes are passed with it
abbrev pub ahead : List ℕ → ℕ → Option (Lexeme × Place)
ahead t k = placed (lexeme (drop (skip t k) t)) (byte_place t (skip t k))

abbrev pub passed : List ℕ → ℕ → ℕ
passed t k = skip t k + size (lexeme (drop (skip t k) t))

-- what `next` hands out from behind k bytes of the text, and that e bytes are passed then
pub record Next (t : List ℕ) (k : ℕ) (r : Option Token) (e : ℕ) : Type 0 where
  pub token : seen r ≡ ahead t k
  pub end : e ≡ passed t k

-- the bytes and the place of a token that is a number
abbrev pub numeral_at : Lexeme → Place → Option (List ℕ × Place)
numeral_at left_bracket p = None
numeral_at right_bracket p = None
numeral_at (letters w) p = None
numeral_at (numeral w) p = Some (w, p)

abbrev pub number_in : Option (Lexeme × Place) → Option (List ℕ × Place)
number_in None = None
number_in (Some x) = numeral_at x.0 x.1

-- a part of the text with its place, as bytes
abbrev pub handed : Option (Bor (List ℕ) × Place) → Option (List ℕ × Place)
handed None = None
handed (Some x) = Some (x.0.now, x.1)

-- the bytes of a token that is a word
abbrev pub letters_of : Lexeme → Option (List ℕ)
letters_of left_bracket = None
letters_of right_bracket = None
letters_of (letters w) = Some w
letters_of (numeral w) = None

abbrev pub word_in : Option (Lexeme × Place) → Option (List ℕ)
word_in None = None
word_in (Some x) = letters_of x.0

abbrev pub handed_word : Option (Bor (List ℕ)) → Option (List ℕ)
handed_word None = None
handed_word (Some w) = Some w.now

-- the kind that a word names
abbrev pub kind_in : List ℕ → Option Kind
kind_in w =
    cond (bytes_eq w (codes "internal")) (Some Internal)
    (cond (bytes_eq w (codes "read")) (Some Read)
    (cond (bytes_eq w (codes "write")) (Some Write)
    (cond (bytes_eq w (codes "acquire")) (Some Acquire)
    (cond (bytes_eq w (codes "release")) (Some Release) None))))
