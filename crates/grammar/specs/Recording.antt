-- What a recording says, and how it is written: the text of a recording is the bytes of its pieces, one after another.
use Rattle.std.specs.Prelude.{◌≡◌, ℕ, zero, suc, ◌+◌, ◌^◌, ◌<◌, ◌≤◌, List, [], ◌∷◌, ◌++◌, length, take, ℤ, pos, negsuc, codes, decimal, slice_index_or}
use Rattle.std.specs.Fmt.{signed_decimal}
use Rattle.events.specs.declared.event.Action.{Action}

-- a rule, as a formula of past-time temporal logic over the variables' values, labels and threads
pub data Formula : Type 0 where
  eq lt gt : ℕ → ℤ → Formula
  mark by : ℕ → Formula
  neg before once always : Formula → Formula
  and or implies since : Formula → Formula → Formula

-- what a recording says: the thread count, the starting values, the actions in the order seen, and the rule
pub record Recording : Type 0 where
  pub threads : ℕ
  pub starts : List ℤ
  pub actions : List Action
  pub rule : Formula

-- what a text is made of
pub data Piece : Type 0 where
  opening closing blank newline : Piece
  word : List ℕ → Piece
  -- a number that has to be at most 255
  small : ℕ → Piece
  -- a value, or a constant that values are compared with, which has to fit a signed number of 32 bits
  wide : ℤ → Piece

abbrev pub bytes : Piece → List ℕ
bytes opening = 40 ∷ []
bytes closing = 41 ∷ []
bytes blank = 32 ∷ []
bytes newline = 10 ∷ []
bytes (word w) = w
bytes (small n) = decimal n
bytes (wide z) = signed_decimal z

abbrev pub flat : List Piece → List ℕ
flat [] = []
flat (p ∷ ps) = bytes p ++ flat ps

-- `(word a b)`, and then `more`: a comparison, and then a label or a thread
abbrev pub comparing : List ℕ → ℕ → ℤ → List Piece → List Piece
comparing w x c more = opening ∷ word w ∷ blank ∷ small x ∷ blank ∷ wide c ∷ closing ∷ more

abbrev pub naming : List ℕ → ℕ → List Piece → List Piece
naming w k more = opening ∷ word w ∷ blank ∷ small k ∷ closing ∷ more

-- the pieces of a formula, and then `more`
abbrev pub formula : Formula → List Piece → List Piece
formula (eq x c) more = comparing (codes "eq") x c more
formula (lt x c) more = comparing (codes "lt") x c more
formula (gt x c) more = comparing (codes "gt") x c more
formula (mark k) more = naming (codes "mark") k more
formula (by t) more = naming (codes "by") t more
formula (neg f) more = opening ∷ word (codes "not") ∷ blank ∷ formula f (closing ∷ more)
formula (before f) more = opening ∷ word (codes "before") ∷ blank ∷ formula f (closing ∷ more)
formula (once f) more = opening ∷ word (codes "once") ∷ blank ∷ formula f (closing ∷ more)
formula (always f) more = opening ∷ word (codes "always") ∷ blank ∷ formula f (closing ∷ more)
formula (and f g) more = opening ∷ word (codes "and") ∷ blank ∷ formula f (blank ∷ formula g (closing ∷ more))
formula (or f g) more = opening ∷ word (codes "or") ∷ blank ∷ formula f (blank ∷ formula g (closing ∷ more))
formula (implies f g) more = opening ∷ word (codes "implies") ∷ blank ∷ formula f (blank ∷ formula g (closing ∷ more))
formula (since f g) more = opening ∷ word (codes "since") ∷ blank ∷ formula f (blank ∷ formula g (closing ∷ more))

-- the words of the kinds, by number
abbrev pub kind_words : List (List ℕ)
kind_words = codes "internal" ∷ codes "read" ∷ codes "write" ∷ codes "acquire" ∷ codes "release" ∷ []

-- a lock's event has no value written
abbrev pub ending : ℕ → ℤ → List Piece → List Piece
ending zero v more = blank ∷ wide v ∷ more
ending (suc zero) v more = blank ∷ wide v ∷ more
ending (suc (suc zero)) v more = blank ∷ wide v ∷ more
ending (suc (suc (suc k))) v more = more

-- an action's line, and then `more`
abbrev pub line : Action → List Piece → List Piece
line a more =
    opening ∷ word (slice_index_or kind_words a.kind []) ∷ blank ∷ small a.thread ∷ blank ∷ small a.subject
    ∷ ending a.kind a.value (closing ∷ newline ∷ more)

abbrev pub lines : List Action → List Piece → List Piece
lines [] more = more
lines (a ∷ rest) more = line a (lines rest more)

-- each value behind a blank, and then `more`
abbrev pub further : List ℤ → List Piece → List Piece
further [] more = more
further (v ∷ vs) more = blank ∷ wide v ∷ further vs more

-- a blank between any two
abbrev pub values : List ℤ → List Piece → List Piece
values [] more = more
values (v ∷ vs) more = wide v ∷ further vs more

abbrev pub pieces : Recording → List Piece
pieces r =
    opening ∷ word (codes "open") ∷ blank ∷ small r.threads ∷ blank ∷ opening
    ∷ values r.starts (closing ∷ closing ∷ newline
    ∷ lines r.actions (opening ∷ word (codes "rule") ∷ blank ∷ formula r.rule (closing ∷ newline ∷ [])))

-- at most ten digits
abbrev pub TenDigits : ℤ → Type 0
TenDigits (pos n) = n < 10 ^ 10
TenDigits (negsuc n) = n + 1 < 10 ^ 10

-- a formula that can be written with at most d levels of brackets inside its own
abbrev pub Nests : ℕ → Formula → Type 0
Nests d (eq x c) = (x < 10 ^ 10) × TenDigits c
Nests d (lt x c) = (x < 10 ^ 10) × TenDigits c
Nests d (gt x c) = (x < 10 ^ 10) × TenDigits c
Nests d (mark k) = k < 10 ^ 10
Nests d (by t) = t < 10 ^ 10
Nests zero (neg f) = ⊥
Nests (suc d) (neg f) = Nests d f
Nests zero (before f) = ⊥
Nests (suc d) (before f) = Nests d f
Nests zero (once f) = ⊥
Nests (suc d) (once f) = Nests d f
Nests zero (always f) = ⊥
Nests (suc d) (always f) = Nests d f
Nests zero (and f g) = ⊥
Nests (suc d) (and f g) = Nests d f × Nests d g
Nests zero (or f g) = ⊥
Nests (suc d) (or f g) = Nests d f × Nests d g
Nests zero (implies f g) = ⊥
Nests (suc d) (implies f g) = Nests d f × Nests d g
Nests zero (since f g) = ⊥
Nests (suc d) (since f g) = Nests d f × Nests d g

-- an action that can be written: of the five kinds, with numbers of ten digits, and value 0 where no value is written
pub record Writable (a : Action) : Type 0 where
  pub kind : a.kind ≤ 4
  pub thread : a.thread < 10 ^ 10
  pub subject : a.subject < 10 ^ 10
  pub value : TenDigits a.value
  pub lock : 3 ≤ a.kind → a.value ≡ pos 0

-- every member of the list is a P
abbrev pub All : {A : Type 0} → (A → Type 0) → List A → Type 0
All P [] = Unit {0}
All P (x ∷ xs) = P x × All P xs

-- a recording that can be written; the brackets of its rule are nested 16 deep at most, that of `(rule` among them
pub record Proper (r : Recording) : Type 0 where
  pub threads : r.threads < 10 ^ 10
  pub starts : All TenDigits r.starts
  pub actions : All Writable r.actions
  pub rule : Nests 14 r.rule

-- a legal text is what would be written of a recording
abbrev pub Legal : List ℕ → Type 0
Legal t = (r : Recording) × Proper r × (t ≡ flat (pieces r))

-- a legal text of a rule alone, nested 16 deep at most
abbrev pub LegalRule : List ℕ → Type 0
LegalRule t = (f : Formula) × Nests 15 f × (t ≡ flat (formula f []))

-- the front of some text that is a Q
abbrev pub Front : (List ℕ → Type 0) → List ℕ → Type 0
Front Q p = (w : List ℕ) × Q (p ++ w)

-- What the bytes of a text are, apart from the size of its numbers: legal; at fault at the first byte with which no legal text of any length
-- goes on, where k bytes stand ahead of it; or ended early, the front of a legal text and not legal.
pub data Shape : Type 0 where
  whole : Shape
  wrong : ℕ → Shape
  early : Shape

abbrev pub Shaped : (List ℕ → Type 0) → List ℕ → Shape → Type 0
Shaped Q t whole = Q t
Shaped Q t (wrong k) = (k < length t) × Front Q (take k t) × (Front Q (take (suc k) t) → ⊥)
Shaped Q t early = Front Q t × (Q t → ⊥)
