-- The steps of building a recording from the pieces of one.
use Rattle.std.proofs.Common.{◌≡◌, ℕ, ◌+◌, ◌-◌, false, List, [], ◌∷◌, ◌++◌, length, take, drop, ℤ, Ok, Err, vec_items, codes, Option, Result, sym, refl, ap, ◌∙◌, subst, arith, length-append}
use Rattle.std.proofs.lemmas.List.{drop_at, take_at}
use Rattle.events.specs.declared.kind.Kind.{Kind}
use Rattle.grammar.specs.Recording as grammar
use Rattle.grammar.specs.Recording.{All, Formula, Legal, Piece, Proper, flat, formula, lines, pieces, values}
use Rattle.grammar.specs.Recording.{opening, closing, blank, newline, word, small, wide}
use Rattle.text.specs.declared.recording.Recording.{Recording}
use Rattle.text.specs.declared.reader.Reader.{Reader}
use Rattle.text.specs.declared.fault.TextFault.{TextFault}
use Rattle.text.specs.declared.fault.ReadFault.{ReadFault}
use Rattle.text.specs.declared.fault.ReadFault.TheVariants.{Text, Memory}
use Rattle.text.specs.Building.{Built}
use Rattle.text.specs.Ranges.{InRange}
use Rattle.text.specs.Reading.{Spelt, said}
use Rattle.text.specs.Standing.{Fails, Outside, Roles, Stand, trim}
use Rattle.text.specs.Tokens.{skip}
use Rattle.text.proofs.Loops.{Named}
use Rattle.text.proofs.Meeting.{flat_append, stand_trimmed}
use Rattle.text.proofs.Neatness.{formula_more, neat_pieces, roles_formula, trim_formula, trim_lines}

-- the pieces from the rule on, from the lines on, and from the values on
abbrev pub rule_on : grammar.Recording → List Piece
rule_on r = formula r.rule (closing ∷ newline ∷ [])

abbrev pub lines_on : grammar.Recording → List Piece
lines_on r = lines r.actions (opening ∷ word (codes "rule") ∷ blank ∷ rule_on r)

abbrev pub values_on : grammar.Recording → List Piece
values_on r = values r.starts (closing ∷ closing ∷ newline ∷ lines_on r)

abbrev pub count_on : grammar.Recording → List Piece
count_on r = blank ∷ small r.threads ∷ blank ∷ opening ∷ values_on r

pub opened : (r : grammar.Recording) (s e : Reader) (o : Option Kind) → Proper r → s.text.now ≡ flat (pieces r) → s.at ≡ 0 → Named s e o → Stand (pieces r) e (count_on r)
opened r s e o p text at named =
    (named (pieces r) (pieces r) (count_on r) (codes "open")
    (record { done = []; split = refl; fits = tt; text = text; at = at; neat = neat_pieces r p }) refl).1

pub trim_values : (zs : List ℤ) (more : List Piece) → trim (values zs (closing ∷ more)) ≡ values zs (closing ∷ more)
trim_values [] more = refl
trim_values (z ∷ zs) more = refl

pub at_lines : (r : grammar.Recording) → trim (newline ∷ lines_on r) ≡ lines_on r
at_lines r = trim_lines r.actions (word (codes "rule") ∷ blank ∷ rule_on r)

pub at_rule : (r : grammar.Recording) (s e : Reader) → Stand (pieces r) s (blank ∷ rule_on r) → e.text.now ≡ s.text.now → e.at ≡ skip s.text.now s.at → Stand (pieces r) e (rule_on r)
at_rule r s e stand text at = subst (λ (ps : List Piece). Stand (pieces r) e ps) (trim_formula r.rule (closing ∷ newline ∷ [])) (stand_trimmed stand text at)

pub rule_roles : (r : grammar.Recording) → Roles false (rule_on r)
rule_roles r = roles_formula r.rule false (closing ∷ newline ∷ []) tt

-- the rule's part of the text
module _ (r : grammar.Recording) (t : List ℕ) (s : Reader) (is : t ≡ flat (pieces r)) (stand : Stand (pieces r) s (rule_on r)) where
  behind : flat (rule_on r) ≡ flat (formula r.rule []) ++ 41 ∷ 10 ∷ []
  behind = ap flat (formula_more r.rule (closing ∷ newline ∷ [])) ∙ flat_append (formula r.rule []) (closing ∷ newline ∷ [])

  text_is : t ≡ flat stand.done ++ (flat (formula r.rule []) ++ 41 ∷ 10 ∷ [])
  text_is = is ∙ ap flat stand.split ∙ flat_append stand.done (rule_on r) ∙ ap (λ (x : List ℕ). flat stand.done ++ x) behind

  pub rule_size : length t ≡ s.at + length (flat (formula r.rule [])) + 2
  rule_size =
      let whole = ap length text_is ∙ length-append (flat stand.done) (flat (formula r.rule []) ++ 41 ∷ 10 ∷ []) in
      let part = length-append (flat (formula r.rule [])) (41 ∷ 10 ∷ []) in
      omega (arith, whole, part, stand.at)

  pub rule_part : take (length t - 2 - s.at) (drop s.at t) ≡ flat (formula r.rule [])
  rule_part =
      let rest : drop s.at t ≡ flat (formula r.rule []) ++ 41 ∷ 10 ∷ [] = ap (drop s.at) text_is ∙ drop_at (flat stand.done) (flat (formula r.rule []) ++ 41 ∷ 10 ∷ []) s.at (sym stand.at) in
      let size : length (flat (formula r.rule [])) ≡ length t - 2 - s.at = omega (arith, rule_size) in
      ap (take (length t - 2 - s.at)) rest ∙ take_at (flat (formula r.rule [])) (41 ∷ 10 ∷ []) (length t - 2 - s.at) size

-- what was built
pub same_recording : (r : grammar.Recording) (rec : Recording) → rec.threads ≡ r.threads → vec_items rec.starts ≡ r.starts → vec_items rec.actions ≡ r.actions → r ≡ said rec r.rule
same_recording r rec a b c = sym (rw (a, b, c) refl)

pub built_ok : (t : List ℕ) (r : grammar.Recording) (rec : Recording) → Proper r → t ≡ flat (pieces r) → rec.threads ≡ r.threads → vec_items rec.starts ≡ r.starts → vec_items rec.actions ≡ r.actions → All InRange (pieces r) → Spelt t rec r.rule → Built t (Ok rec)
built_ok t r rec p is a b c fits spelt =
    let same = same_recording r rec a b c in
    let all : Proper (said rec r.rule) × (t ≡ flat (pieces (said rec r.rule))) × All InRange (pieces (said rec r.rule)) = subst (λ (q : grammar.Recording). Proper q × (t ≡ flat (pieces q)) × All InRange (pieces q)) same (p, is, fits) in
    (r.rule, all.0, all.1, all.2, spelt)

pub built_out : (t : List ℕ) (r : grammar.Recording) → Proper r → t ≡ flat (pieces r) → {q : Result Recording ReadFault} {y : ReadFault} {f : TextFault} → q ≡ Err y → y ≡ Text f → Outside (pieces r) f → Built t q
built_out t r p is e same out = subst (λ (x : Result Recording ReadFault). Built t x) (sym (e ∙ ap Err same)) (r, p, is, out)

failed : (t : List ℕ) (r : grammar.Recording) → Proper r → t ≡ flat (pieces r) → (y : ReadFault) → Fails (pieces r) y → Built t (Err y)
failed t r p is (Text f) out = (r, p, is, out)
failed t r p is Memory out = tt

pub built_fails : (t : List ℕ) (r : grammar.Recording) → Proper r → t ≡ flat (pieces r) → {q : Result Recording ReadFault} {y z : ReadFault} → q ≡ Err y → y ≡ z → Fails (pieces r) z → Built t q
built_fails t r p is {q} {y} {z} e same out = subst (λ (x : Result Recording ReadFault). Built t x) (sym (e ∙ ap Err same)) (failed t r p is z out)
