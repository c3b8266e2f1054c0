-- How the words of a formula are read from its text.
use Rattle.std.specs.Prelude.{◌≡◌, ℕ, suc, ◌+◌, ◌^◌, ◌<◌, Bool, false, cond, ◌&&◌, List, [], ◌∷◌, ◌++◌, length, drop, ℤ, pos, Ok, Err, decimal, Result, ◌==◌, nat_le, slice_index}
use Rattle.std.specs.Fmt.{signed_decimal}
use Rattle.grammar.specs.Recording.{Formula, eq, lt, gt, mark, by, neg, before, once, always, and, or, implies, since}
use Rattle.grammar.specs.Recording.{Piece, opening, closing, blank, newline, word, small, wide, TenDigits, bytes, flat, formula}
use Rattle.text.specs.declared.fault.TextFault.{TextFault}
use Rattle.text.specs.Places.{byte_place}
use Rattle.text.specs.Ranges.{Short, fitting, small_number, wide_number}
use Rattle.formula.specs.declared.word.Word.{Word}
use Rattle.formula.specs.declared.word.Word.TheVariants.{Eq as EqW, Lt as LtW, Gt as GtW, Mark as MarkW, By as ByW, Not as NotW, And as AndW, Or as OrW, Implies as ImpliesW, Before as BeforeW, Once as OnceW, Always as AlwaysW, Since as SinceW}

-- where the opening brackets stand in a text that has k bytes ahead of it
abbrev pub openings : ℕ → List ℕ → List ℕ
openings k [] = []
openings k (b ∷ bs) = cond (b == 40) (k ∷ openings (k + 1) bs) (openings (k + 1) bs)

-- subformula j begins at opening bracket j, both from 0
abbrev pub bracket_at : List ℕ → ℕ → ℕ
bracket_at t j = slice_index (openings 0 t) j

abbrev pub digit : ℕ → Bool
digit b = nat_le 48 b && nat_le b 57

-- a digit comes next
abbrev pub begins_digit : List ℕ → Bool
begins_digit [] = false
begins_digit (b ∷ bs) = digit b

-- how many digits come next
abbrev pub digits : List ℕ → ℕ
digits [] = 0
digits (b ∷ bs) = cond (digit b) (suc (digits bs)) 0

-- a minus comes next
abbrev pub begins_minus : List ℕ → Bool
begins_minus [] = false
begins_minus (b ∷ bs) = b == 45

-- how many bytes the number that comes next takes, behind a minus or not
abbrev pub number_width : List ℕ → ℕ
number_width bs = cond (begins_minus bs) (suc (digits (drop 1 bs))) (digits bs)

-- a piece that is a number
abbrev pub IsNumber : Piece → Type 0
IsNumber opening = ⊥
IsNumber closing = ⊥
IsNumber blank = ⊥
IsNumber newline = ⊥
IsNumber (word w) = ⊥
IsNumber (small n) = Unit {0}
IsNumber (wide z) = Unit {0}

-- the number at k, where bytes that no number goes on with stand behind it, and its piece is as told
abbrev pub ReadsNumber : {A : Type 0} → (A → Piece) → List ℕ → ℕ → Result A TextFault → Type 0
ReadsNumber {A} spelling t k r =
    (n : A) (rest : List ℕ) → IsNumber (spelling n) → Short (spelling n) → begins_digit rest ≡ false → drop k t ≡ bytes (spelling n) ++ rest → r ≡ fitting (spelling n) n (byte_place t k)

-- a formula's word
abbrev pub word_of : Formula → Word
word_of (eq x c) = EqW x c
word_of (lt x c) = LtW x c
word_of (gt x c) = GtW x c
word_of (mark k) = MarkW k
word_of (by t) = ByW t
word_of (neg f) = NotW
word_of (before f) = BeforeW
word_of (once f) = OnceW
word_of (always f) = AlwaysW
word_of (and f g) = AndW
word_of (or f g) = OrW
word_of (implies f g) = ImpliesW
word_of (since f g) = SinceW

-- the word by its first two letters, with 0 for its numbers
abbrev pub operator : ℕ → ℕ → Word
operator a b =
    cond (a == 101) (EqW 0 (pos 0)) (cond (a == 108) (LtW 0 (pos 0)) (cond (a == 103) (GtW 0 (pos 0)) (cond (a == 109) (MarkW 0)
    (cond (a == 110) NotW (cond (a == 105) ImpliesW (cond (a == 115) SinceW
    (cond (a == 98) (cond (b == 121) (ByW 0) BeforeW) (cond (a == 111) (cond (b == 110) OnceW OrW) (cond (b == 108) AlwaysW AndW)))))))))

-- the numbers of the formula's word can be written
abbrev pub Ten : Formula → Type 0
Ten (eq x c) = (x < 10 ^ 10) × TenDigits c
Ten (lt x c) = (x < 10 ^ 10) × TenDigits c
Ten (gt x c) = (x < 10 ^ 10) × TenDigits c
Ten (mark k) = k < 10 ^ 10
Ten (by t) = t < 10 ^ 10
Ten (neg f) = Unit {0}
Ten (before f) = Unit {0}
Ten (once f) = Unit {0}
Ten (always f) = Unit {0}
Ten (and f g) = Unit {0}
Ten (or f g) = Unit {0}
Ten (implies f g) = Unit {0}
Ten (since f g) = Unit {0}

-- a variable and a constant, or the fault of the first that has one
abbrev pub paired : Result ℕ TextFault → Result ℤ TextFault → Result (ℕ × ℤ) TextFault
paired (Ok x) (Ok c) = Ok (x, c)
paired (Ok x) (Err e) = Err e
paired (Err e) s = Err e

-- a comparison with its numbers
abbrev pub compared : Word → ℕ → ℤ → Word
compared (EqW _ _) x c = EqW x c
compared (LtW _ _) x c = LtW x c
compared (GtW _ _) x c = GtW x c
compared (MarkW k) x c = MarkW k
compared (ByW t) x c = ByW t
compared NotW x c = NotW
compared BeforeW x c = BeforeW
compared OnceW x c = OnceW
compared AlwaysW x c = AlwaysW
compared AndW x c = AndW
compared OrW x c = OrW
compared ImpliesW x c = ImpliesW
compared SinceW x c = SinceW

abbrev pub filled_two : Word → Result (ℕ × ℤ) TextFault → Result Word TextFault
filled_two w (Ok p) = Ok (compared w p.0 p.1)
filled_two w (Err e) = Err e

-- a word with its label or thread
abbrev pub named : Word → ℕ → Word
named (EqW x c) n = EqW x c
named (LtW x c) n = LtW x c
named (GtW x c) n = GtW x c
named (MarkW _) n = MarkW n
named (ByW _) n = ByW n
named NotW n = NotW
named BeforeW n = BeforeW
named OnceW n = OnceW
named AlwaysW n = AlwaysW
named AndW n = AndW
named OrW n = OrW
named ImpliesW n = ImpliesW
named SinceW n = SinceW

abbrev pub filled_one : Word → Result ℕ TextFault → Result Word TextFault
filled_one w (Ok n) = Ok (named w n)
filled_one w (Err e) = Err e

-- a variable and a constant at k, with a blank between them
abbrev pub pair_at : List ℕ → ℕ → ℕ → ℤ → Result (ℕ × ℤ) TextFault
pair_at t k x c = paired (small_number x (byte_place t k)) (wide_number c (byte_place t (k + length (decimal x) + 1)))

abbrev pub ReadsPair : List ℕ → ℕ → Result (ℕ × ℤ) TextFault → Type 0
ReadsPair t k r =
    (x : ℕ) (c : ℤ) (rest : List ℕ) → x < 10 ^ 10 → TenDigits c → begins_digit rest ≡ false → drop k t ≡ decimal x ++ (32 ∷ (signed_decimal c ++ rest)) → r ≡ pair_at t k x c

-- what is read of a formula's word at the bracket k
abbrev pub head_at : List ℕ → ℕ → Formula → Result Word TextFault
head_at t k (eq x c) = filled_two (EqW 0 (pos 0)) (pair_at t (k + 4) x c)
head_at t k (lt x c) = filled_two (LtW 0 (pos 0)) (pair_at t (k + 4) x c)
head_at t k (gt x c) = filled_two (GtW 0 (pos 0)) (pair_at t (k + 4) x c)
head_at t k (mark m) = filled_one (MarkW 0) (small_number m (byte_place t (k + 6)))
head_at t k (by m) = filled_one (ByW 0) (small_number m (byte_place t (k + 4)))
head_at t k (neg f) = Ok NotW
head_at t k (before f) = Ok BeforeW
head_at t k (once f) = Ok OnceW
head_at t k (always f) = Ok AlwaysW
head_at t k (and f g) = Ok AndW
head_at t k (or f g) = Ok OrW
head_at t k (implies f g) = Ok ImpliesW
head_at t k (since f g) = Ok SinceW

-- whatever formula stands at k, this is read of its word
abbrev pub ReadsWord : List ℕ → ℕ → Result Word TextFault → Type 0
ReadsWord t k r = (f : Formula) (more : List Piece) → Ten f → drop k t ≡ flat (formula f more) → r ≡ head_at t k f
