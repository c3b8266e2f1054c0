-- Where a reader stands among the pieces of a text, and what its next steps come to.
use Rattle.std.specs.Prelude.{◌≡◌, ℕ, ◌^◌, ◌<◌, ◌≤◌, Bool, true, false, List, [], ◌∷◌, ◌++◌, length, pos, Some, None, Ok, Err, vec_items, decimal, Option, Result}
use Rattle.std.specs.Global.{Vec}
use Rattle.std.specs.Fmt.{signed_decimal}
use Rattle.events.specs.Kinds.{kind_number}
use Rattle.events.specs.declared.kind.Kind.{Kind}
use Rattle.events.specs.declared.event.Action.{Action}
use Rattle.grammar.specs.Recording.{All, Piece, TenDigits, ending, flat}
use Rattle.grammar.specs.Recording.{opening, closing, blank, newline, word, small, wide}
use Rattle.text.specs.declared.place.Place.{Place}
use Rattle.text.specs.declared.fault.TextFault.{TextFault}
use Rattle.text.specs.declared.fault.TextFault.TheVariants.{OutOfRange}
use Rattle.text.specs.declared.fault.ReadFault.{ReadFault}
use Rattle.text.specs.declared.fault.ReadFault.TheVariants.{Text, Memory}
use Rattle.text.specs.declared.reader.Reader.{Reader}
use Rattle.text.specs.Places.{byte_place}
use Rattle.text.specs.Ranges.{FirstOut, InRange}
use Rattle.text.specs.Tokens.{Lexeme, left_bracket, right_bracket, is_letter, letters, numeral, passed, run}

-- no letter or digit comes next
abbrev pub Stops : List Piece → Type 0
Stops [] = Unit {0}
Stops (opening ∷ ps) = Unit {0}
Stops (closing ∷ ps) = Unit {0}
Stops (blank ∷ ps) = Unit {0}
Stops (newline ∷ ps) = Unit {0}
Stops (word w ∷ ps) = ⊥
Stops (small n ∷ ps) = ⊥
Stops (wide z ∷ ps) = ⊥

-- words are letters, numbers have at most ten digits, and neither runs into the next piece
abbrev pub Neat : List Piece → Type 0
Neat [] = Unit {0}
Neat (opening ∷ ps) = Neat ps
Neat (closing ∷ ps) = Neat ps
Neat (blank ∷ ps) = Neat ps
Neat (newline ∷ ps) = Neat ps
Neat (word w ∷ ps) = (0 < length w) × (run is_letter w ≡ length w) × Stops ps × Neat ps
Neat (small n ∷ ps) = (n < 10 ^ 10) × Stops ps × Neat ps
Neat (wide z ∷ ps) = TenDigits z × Stops ps × Neat ps

-- the pieces from the first that is no blank or line end
abbrev pub trim : List Piece → List Piece
trim [] = []
trim (blank ∷ ps) = trim ps
trim (newline ∷ ps) = trim ps
trim (opening ∷ ps) = opening ∷ ps
trim (closing ∷ ps) = closing ∷ ps
trim (word w ∷ ps) = word w ∷ ps
trim (small n ∷ ps) = small n ∷ ps
trim (wide z ∷ ps) = wide z ∷ ps

-- the token that a piece is read as; blanks and line ends are passed
abbrev pub token_of : Piece → Option Lexeme
token_of opening = Some left_bracket
token_of closing = Some right_bracket
token_of blank = None
token_of newline = None
token_of (word w) = Some (letters w)
token_of (small n) = Some (numeral (decimal n))
token_of (wide z) = Some (numeral (signed_decimal z))

-- the reader's text is that of the pieces `whole`, of which `ps` are still to come, and those passed are in range
pub record Stand (whole : List Piece) (s : Reader) (ps : List Piece) : Type 0 where
  pub done : List Piece
  pub split : whole ≡ done ++ ps
  pub fits : All InRange done
  pub text : s.text.now ≡ flat whole
  pub at : s.at ≡ length (flat done)
  pub neat : Neat ps

-- a reader has passed one token
pub record Moved (s e : Reader) : Type 0 where
  pub text : e.text.now ≡ s.text.now
  pub at : e.at ≡ passed s.text.now s.at

-- a reader has gone on in its text
pub record Onward (s e : Reader) : Type 0 where
  pub text : e.text.now ≡ s.text.now
  pub at : s.at ≤ e.at

-- the fault is that of the first piece out of range, at its place
abbrev pub Outside : List Piece → TextFault → Type 0
Outside whole f = (k : ℕ) × FirstOut whole k × (f ≡ OutOfRange (byte_place (flat whole) k))

-- the same, unless there is no memory
abbrev pub Fails : List Piece → ReadFault → Type 0
Fails whole (Text f) = Outside whole f
Fails whole Memory = Unit {0}

-- x was read, and the reader stands at `rest`; or a number out of range was met
abbrev pub Taken : {A : Type 0} → List Piece → Reader → A → List Piece → Result A TextFault → Type 0
Taken whole s x rest (Ok v) = (v ≡ x) × Stand whole s rest
Taken whole s x rest (Err f) = Outside whole f

-- the pieces of the action's line from behind its kind's word, and then `more`
abbrev pub line_end : Action → List Piece → List Piece
line_end a more = blank ∷ small a.thread ∷ blank ∷ small a.subject ∷ ending a.kind a.value (closing ∷ newline ∷ more)

pub record LineEnd (k : Kind) (a : Action) (ps more : List Piece) : Type 0 where
  pub pieces : ps ≡ line_end a more
  pub kind : kind_number k ≡ a.kind
  pub lock : 3 ≤ a.kind → a.value ≡ pos 0

-- a piece that is a number
abbrev pub is_number : Piece → Bool
is_number opening = false
is_number closing = false
is_number blank = false
is_number newline = false
is_number (word w) = false
is_number (small n) = true
is_number (wide z) = true

-- the pieces of a rule, where it is told whether a number stands directly ahead: a number directly behind another is wide, any other small
abbrev pub Roles : Bool → List Piece → Type 0
Roles b [] = Unit {0}
Roles b (blank ∷ ps) = Roles b ps
Roles b (newline ∷ ps) = Roles b ps
Roles b (opening ∷ ps) = Roles false ps
Roles b (closing ∷ ps) = Roles false ps
Roles b (word w ∷ ps) = Roles false ps
Roles b (small n ∷ ps) = (b ≡ false) × Roles true ps
Roles b (wide z ∷ ps) = (b ≡ true) × Roles true ps

-- a piece in its role, with at most ten digits
abbrev pub Role : Bool → Piece → Type 0
Role b opening = Unit {0}
Role b closing = Unit {0}
Role b blank = Unit {0}
Role b newline = Unit {0}
Role b (word w) = Unit {0}
Role b (small n) = (b ≡ false) × (n < 10 ^ 10)
Role b (wide z) = (b ≡ true) × TenDigits z

-- the piece at the place is in range, and was told to be a number or not; or it is out of range
abbrev pub Checked : Piece → Place → Result Bool TextFault → Type 0
Checked p at (Ok b) = InRange p × (b ≡ is_number p)
Checked p at (Err f) = (InRange p → ⊥) × (f ≡ OutOfRange at)

-- all pieces were passed, and are in range; or one is not
abbrev pub Ended : List Piece → Result (Unit {0}) TextFault → Type 0
Ended whole (Ok u) = All InRange whole
Ended whole (Err f) = Outside whole f

-- the list was read, and the reader stands at `rest`; or that failed
abbrev pub ListTaken : {X : Type 0} → List Piece → Reader → List X → List Piece → Result (Vec X) ReadFault → Type 0
ListTaken whole s xs rest (Ok v) = (vec_items v ≡ xs) × Stand whole s rest
ListTaken whole s xs rest (Err f) = Fails whole f
