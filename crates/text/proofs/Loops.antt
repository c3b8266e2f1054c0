-- What is left to read when a loop goes round.
use Rattle.std.proofs.Common.{◌≡◌, ℕ, ◌<◌, Bool, List, [], ◌∷◌, ◌++◌, get_or, ℤ, Some, None, Ok, Err, codes, Option, Result, sym, refl, ap, ◌∙◌, subst, append_assoc, arith}
use Rattle.std.specs.Global.{Vec}
use Rattle.std.specs.Fmt.{signed_decimal}
use Rattle.std.proofs.lemmas.List.{append-nil}
use Rattle.events.specs.Kinds.{kind_number}
use Rattle.events.specs.declared.kind.Kind.{Kind}
use Rattle.events.specs.declared.event.Action.{Action}
use Rattle.grammar.specs.Recording.{All, Piece, TenDigits, Writable, flat, further, kind_words, lines, values}
use Rattle.grammar.specs.Recording.{opening, closing, blank, newline, word, small, wide}
use Rattle.text.specs.declared.place.Place.{Place}
use Rattle.text.specs.declared.reader.Reader.{Reader}
use Rattle.text.specs.declared.token.Token.{Token}
use Rattle.text.specs.declared.token.Token.TheVariants as token
use Rattle.text.specs.declared.fault.TextFault.{TextFault}
use Rattle.text.specs.Places.{byte_place}
use Rattle.text.specs.Ranges.{InRange, wide_number}
use Rattle.text.specs.Tokens.{Lexeme, Next, ahead, kind_in, number_in, placed, seen}
use Rattle.text.specs.declared.fault.ReadFault.{ReadFault}
use Rattle.text.specs.declared.fault.ReadFault.TheVariants.{Text}
use Rattle.text.specs.Standing.{Checked, Ended, LineEnd, ListTaken, Moved, Neat, Outside, Role, Roles, Stand, Taken, is_number, line_end, token_of, trim}
use Rattle.text.proofs.Meeting.{Met, meet, meet_end, trim_token}
use Rattle.text.proofs.Neatness.{kind_word, trim_further, trim_lines}
use Rattle.text.proofs.Taking.{never_none, next_moved, number_taken, token_moves}

-- of the values zs, ws are read
pub record ValuesLeft (whole : List Piece) (s : Reader) (rest : List Piece) (zs ws : List ℤ) : Type 0 where
  pub left : List ℤ
  pub split : zs ≡ ws ++ left
  pub ps : List Piece
  pub stand : Stand whole s ps
  pub next : trim ps ≡ values left (closing ∷ rest)

-- no number comes next, so all are read
none_left : (whole : List Piece) (s e : Reader) (rest : List Piece) (left : List ℤ) (ps : List Piece) → Stand whole s ps → trim ps ≡ values left (closing ∷ rest) → None ≡ number_in (ahead s.text.now s.at) → Moved s e → (left ≡ []) × Stand whole e rest
none_left whole s e rest [] ps stand next told m = (refl, (meet stand next m).goes tt)
none_left whole s e rest (z ∷ zs) ps stand next told m = elim (never_none (meet stand next m) (signed_decimal z) refl told) [ ]

pub values_read : {whole rest : List Piece} {s e : Reader} {zs ws : List ℤ} → ValuesLeft whole s rest zs ws → None ≡ number_in (ahead s.text.now s.at) → Moved s e → (ws ≡ zs) × Stand whole e rest
values_read {whole} {rest} {s} {e} {zs} {ws} v told m =
    let h = none_left whole s e rest v.left v.ps v.stand v.next told m in
    (sym (v.split ∙ ap (λ (l : List ℤ). ws ++ l) h.0 ∙ append-nil ws), h.1)

-- one more value
pub record ValueNext (whole : List Piece) (e : Reader) (rest : List Piece) (zs ws : List ℤ) (r : Result ℤ TextFault) : Type 0 where
  pub value : ℤ
  pub left : List ℤ
  pub split : zs ≡ ws ++ value ∷ left
  pub taken : Taken whole e value (further left (closing ∷ rest)) r

some_left : (whole : List Piece) (s e : Reader) (rest : List Piece) (zs ws left : List ℤ) (ps : List Piece) → zs ≡ ws ++ left → Stand whole s ps → trim ps ≡ values left (closing ∷ rest) → (w : List ℕ) (at : Place) (r : Result ℤ TextFault) → Some (w, at) ≡ number_in (ahead s.text.now s.at) → ((z : ℤ) → TenDigits z → w ≡ signed_decimal z → r ≡ wide_number z at) → Moved s e → ValueNext whole e rest zs ws r
some_left whole s e rest zs ws [] ps split stand next w at r told reads m =
    let same = told ∙ ap number_in (meet stand next m).token in
    let z : ◌≡◌ {A = ℕ} 0 1 = cc in
    let n : ⊥ = omega arith in
    elim n [ ]
some_left whole s e rest zs ws (z ∷ left) ps split stand next w at r told reads m =
    record { value = z; left = left; split = split; taken = number_taken (meet stand next m) refl z w at r told (reads z) }

pub value_next : {whole rest : List Piece} {s e : Reader} {zs ws : List ℤ} → ValuesLeft whole s rest zs ws → (w : List ℕ) (at : Place) (r : Result ℤ TextFault) → Some (w, at) ≡ number_in (ahead s.text.now s.at) → ((z : ℤ) → TenDigits z → w ≡ signed_decimal z → r ≡ wide_number z at) → Moved s e → ValueNext whole e rest zs ws r
value_next {whole} {rest} {s} {e} {zs} {ws} v = some_left whole s e rest zs ws v.left v.ps v.split v.stand v.next

pub values_more : {whole rest : List Piece} {e : Reader} {zs ws : List ℤ} (us : List ℤ) (v : ℤ) → ValueNext whole e rest zs ws (Ok v) → us ≡ ws ++ v ∷ [] → ValuesLeft whole e rest zs us
values_more {whole} {rest} {e} {zs} {ws} us v n is = record {
  left = n.left;
  split = n.split ∙ sym (append_assoc ws (n.value ∷ []) n.left) ∙ ap (λ (x : ℤ). (ws ++ x ∷ []) ++ n.left) (sym n.taken.0) ∙ ap (λ (l : List ℤ). l ++ n.left) (sym is);
  ps = further n.left (closing ∷ rest);
  stand = n.taken.1;
  next = trim_further n.left rest;
}

-- of the actions, `done` are read
pub record ActionsLeft (whole : List Piece) (s : Reader) (rest : List Piece) (acts done : List Action) : Type 0 where
  pub left : List Action
  pub split : acts ≡ done ++ left
  pub writable : All Writable left
  pub ps : List Piece
  pub stand : Stand whole s ps
  pub next : trim ps ≡ lines left (opening ∷ word (codes "rule") ∷ rest)

-- what a verb is told to be, of the pieces that come next
abbrev pub Named : Reader → Reader → Option Kind → Type 0
Named s e r = (whole ps rest : List Piece) (w : List ℕ) → Stand whole s ps → trim ps ≡ opening ∷ word w ∷ rest → (r ≡ kind_in w) × Stand whole e rest

no_action_lem : (whole : List Piece) (s e : Reader) (rest : List Piece) (left : List Action) (ps : List Piece) → All Writable left → Stand whole s ps → trim ps ≡ lines left (opening ∷ word (codes "rule") ∷ rest) → Named s e None → (left ≡ []) × Stand whole e rest
no_action_lem whole s e rest [] ps w stand next named = (refl, (named whole ps rest (codes "rule") stand next).1)
no_action_lem whole s e rest (a ∷ left) ps w stand next named =
    let told = (named whole ps (line_end a (lines left (opening ∷ word (codes "rule") ∷ rest))) (get_or kind_words a.kind []) stand next).0 in
    let word = kind_word a.kind w.0.kind in
    let same = told ∙ word.1 in
    let z : ◌≡◌ {A = ℕ} 0 1 = cc in
    let n : ⊥ = omega arith in
    elim n [ ]

pub actions_read : {whole rest : List Piece} {s e : Reader} {acts done : List Action} → ActionsLeft whole s rest acts done → Named s e None → (done ≡ acts) × Stand whole e rest
actions_read {whole} {rest} {s} {e} {acts} {done} v named =
    let h = no_action_lem whole s e rest v.left v.ps v.writable v.stand v.next named in
    (sym (v.split ∙ ap (λ (l : List Action). done ++ l) h.0 ∙ append-nil done), h.1)

-- one more action, of which the kind is read
pub record ActionNext (whole : List Piece) (e : Reader) (rest : List Piece) (acts done : List Action) (k : Kind) : Type 0 where
  pub action : Action
  pub left : List Action
  pub split : acts ≡ done ++ action ∷ left
  pub writable : All Writable left
  pub stand : Stand whole e (line_end action (lines left (opening ∷ word (codes "rule") ∷ rest)))
  pub line : LineEnd k action (line_end action (lines left (opening ∷ word (codes "rule") ∷ rest))) (lines left (opening ∷ word (codes "rule") ∷ rest))

an_action : (whole : List Piece) (s e : Reader) (rest : List Piece) (acts done left : List Action) (ps : List Piece) (k : Kind) → acts ≡ done ++ left → All Writable left → Stand whole s ps → trim ps ≡ lines left (opening ∷ word (codes "rule") ∷ rest) → Named s e (Some k) → ActionNext whole e rest acts done k
an_action whole s e rest acts done [] ps k split w stand next named =
    let told : Some k ≡ None = (named whole ps rest (codes "rule") stand next).0 in
    let z : ◌≡◌ {A = ℕ} 0 1 = cc in
    let n : ⊥ = omega arith in
    elim n [ ]
an_action whole s e rest acts done (a ∷ left) ps k split w stand next named =
    let told = named whole ps (line_end a (lines left (opening ∷ word (codes "rule") ∷ rest))) (get_or kind_words a.kind []) stand next in
    let word = kind_word a.kind w.0.kind in
    let same = told.0 ∙ word.1 in
    let is : k ≡ word.0 = cc in
    let kind : kind_number k ≡ a.kind = ap kind_number is ∙ word.2 in
    record { action = a; left = left; split = split; writable = w.1; stand = told.1; line = record { pieces = refl; kind = kind; lock = w.0.lock } }

pub action_next : {whole rest : List Piece} {s e : Reader} {acts done : List Action} (k : Kind) → ActionsLeft whole s rest acts done → Named s e (Some k) → ActionNext whole e rest acts done k
action_next {whole} {rest} {s} {e} {acts} {done} k v = an_action whole s e rest acts done v.left v.ps k v.split v.writable v.stand v.next

pub actions_more : {whole rest : List Piece} {m e : Reader} {acts done : List Action} {k : Kind} (us : List Action) (v : Action) (n : ActionNext whole m rest acts done k) → Taken whole e n.action (newline ∷ lines n.left (opening ∷ word (codes "rule") ∷ rest)) (Ok v) → us ≡ done ++ v ∷ [] → ActionsLeft whole e rest acts us
actions_more {whole} {rest} {m} {e} {acts} {done} {k} us v n taken is = record {
  left = n.left;
  split = n.split ∙ sym (append_assoc done (n.action ∷ []) n.left) ∙ ap (λ (x : Action). (done ++ x ∷ []) ++ n.left) (sym taken.0) ∙ ap (λ (l : List Action). l ++ n.left) (sym is);
  writable = n.writable;
  ps = newline ∷ lines n.left (opening ∷ word (codes "rule") ∷ rest);
  stand = taken.1;
  next = trim_lines n.left (word (codes "rule") ∷ rest);
}

-- the rule's pieces that are left
pub record RuleLeft (whole : List Piece) (s : Reader) (b : Bool) : Type 0 where
  pub ps : List Piece
  pub stand : Stand whole s ps
  pub roles : Roles b ps

trim_roles : (b : Bool) (ps : List Piece) → Roles b ps → Roles b (trim ps)
trim_roles b [] r = r
trim_roles b (blank ∷ ps) r = trim_roles b ps r
trim_roles b (newline ∷ ps) r = trim_roles b ps r
trim_roles b (opening ∷ ps) r = r
trim_roles b (closing ∷ ps) r = r
trim_roles b (word w ∷ ps) r = r
trim_roles b (small n ∷ ps) r = r
trim_roles b (wide z ∷ ps) r = r

first_role : (b : Bool) (p : Piece) (ps : List Piece) (x : Lexeme) → token_of p ≡ Some x → Neat (p ∷ ps) → Roles b (p ∷ ps) → Role b p × Roles (is_number p) ps
first_role b opening ps x is n r = (tt, r)
first_role b closing ps x is n r = (tt, r)
first_role b blank ps x is n r = let z : ◌≡◌ {A = ℕ} 0 1 = cc in let m : ⊥ = omega arith in elim m [ ]
first_role b newline ps x is n r = let z : ◌≡◌ {A = ℕ} 0 1 = cc in let m : ⊥ = omega arith in elim m [ ]
first_role b (word w) ps x is n r = (tt, r)
first_role b (small k) ps x is n r = ((r.0, n.0), r.1)
first_role b (wide z) ps x is n r = ((r.0, n.0), r.1)

seen_some : (t : Token) → (x : Lexeme × Place) × (seen (Some t) ≡ Some x)
seen_some (token.Open p) = (_, refl)
seen_some (token.Close p) = (_, refl)
seen_some (token.Word w p) = (_, refl)
seen_some (token.Number w p) = (_, refl)

pub next_moves : (s e : Reader) (t : Token) → Next s.text.now s.at (Some t) e.at → s.at < e.at
next_moves s e t n = let x = seen_some t in omega (arith, n.end, token_moves s.text.now s.at x.0 (sym n.token ∙ x.1))

-- no token is left, so all pieces were passed
ended_at : (whole : List Piece) (s e : Reader) (ps qs : List Piece) → Stand whole s ps → trim ps ≡ qs → Moved s e → None ≡ ahead s.text.now s.at → All InRange whole
ended_at whole s e ps [] stand is m told = (meet_end stand is).1
ended_at whole s e ps (p ∷ qs) stand is m told =
    let x = trim_token ps p qs is in
    let met = meet stand is m in
    let same = told ∙ met.token ∙ ap (λ (o : Option Lexeme). placed o (byte_place (flat whole) met.from)) x.1 in
    let z : ◌≡◌ {A = ℕ} 0 1 = cc in
    let n : ⊥ = omega arith in
    elim n [ ]

pub rule_ended : {whole : List Piece} {s : Reader} {b : Bool} (e : Reader) → RuleLeft whole s b → e.text.now ≡ s.text.now → Next s.text.now s.at None e.at → All InRange whole
rule_ended {whole} {s} {b} e v text n = ended_at whole s e v.ps (trim v.ps) v.stand refl (next_moved text n) n.token

-- what `in_range` says of a token
abbrev pub Tells : Token → Bool → Result Bool TextFault → Type 0
Tells t b r = (p : Piece) (at : Place) → seen (Some t) ≡ placed (token_of p) at → Role b p → Checked p at r

-- what comes of a token: the rest in its roles, or a number out of range
abbrev pub Passed : List Piece → Reader → Result Bool TextFault → Type 0
Passed whole e (Ok b) = RuleLeft whole e b
Passed whole e (Err f) = Outside whole f

passed_by : (whole : List Piece) (s e : Reader) (p : Piece) (qs : List Piece) (r : Result Bool TextFault) (m : Met whole s p qs e) → Roles (is_number p) qs → Checked p (byte_place (flat whole) m.from) r → Passed whole e r
passed_by whole s e p qs (Ok b) m roles c = record { ps = qs; stand = m.goes c.0; roles = subst (λ (x : Bool). Roles x qs) (sym c.1) roles }
passed_by whole s e p qs (Err f) m roles c = (m.from, m.stops c.0, c.1)

passed_at : (whole : List Piece) (s e : Reader) (b : Bool) (ps qs : List Piece) (t : Token) (r : Result Bool TextFault) → Stand whole s ps → trim ps ≡ qs → Roles b qs → Moved s e → seen (Some t) ≡ ahead s.text.now s.at → Tells t b r → Passed whole e r
passed_at whole s e b ps [] t r stand is roles m told tells =
    let x = seen_some t in
    let same = sym x.1 ∙ told ∙ (meet_end stand is).0 in
    let z : ◌≡◌ {A = ℕ} 0 1 = cc in
    let n : ⊥ = omega arith in
    elim n [ ]
passed_at whole s e b ps (p ∷ qs) t r stand is roles m told tells =
    let x = trim_token ps p qs is in
    let met = meet stand is m in
    let role = first_role b p qs x.0 x.1 met.neat roles in
    passed_by whole s e p qs r met role.1 (tells p (byte_place (flat whole) met.from) (told ∙ met.token) role.0)

pub rule_passed : {whole : List Piece} {s : Reader} {b : Bool} (e : Reader) (t : Token) (r : Result Bool TextFault) → RuleLeft whole s b → e.text.now ≡ s.text.now → Next s.text.now s.at (Some t) e.at → Tells t b r → Passed whole e r
rule_passed {whole} {s} {b} e t r v text n = passed_at whole s e b v.ps (trim v.ps) t r v.stand refl (trim_roles b v.ps v.roles) (next_moved text n) n.token

-- the exits of `?`
pub ended_err : (whole : List Piece) {r : Result (Unit {0}) TextFault} {f y : TextFault} → r ≡ Err y → y ≡ f → Outside whole f → Ended whole r
ended_err whole is same out = subst (λ (q : Result (Unit {0}) TextFault). Ended whole q) (sym (is ∙ ap Err same)) out

pub list_err : {X : Type 0} (whole rest : List Piece) (s : Reader) (xs : List X) {r : Result (Vec X) ReadFault} {f : TextFault} {y : ReadFault} → r ≡ Err y → y ≡ Text f → Outside whole f → ListTaken whole s xs rest r
list_err {X} whole rest s xs is same out = subst (λ (q : Result (Vec X) ReadFault). ListTaken whole s xs rest q) (sym (is ∙ ap Err same)) out
