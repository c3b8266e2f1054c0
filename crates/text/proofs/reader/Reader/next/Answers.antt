use Rattle.std.proofs.Common.{Some, sym, ap, refl, ◌∙◌, rules}
use Rattle.text.specs.Tokens.{is_blank, is_digit, is_letter}
use Rattle.text.proofs.Going.{sort_within, next_word, next_number}
use Rattle.text.proofs.reader.Reader.next.Goals as goal

pub step-requires : goal.step-requires
step-requires c = sort_within c.pass.new.self.text.now c.pass.new.self.at c.in_ok-sort.sort (sym c.in_ok-sort.ensures)

pub returns-in-Word-clause-token : goal.returns-in-Word-clause-token
returns-in-Word-clause-token c =
    next_word c.args.self.now.text.now c.pass.new.self.text.now c.args.self.now.at c.pass.new.self.at c.pass-in-Word.new.self.at
    c.pass.new.self.place c.pass.ensures.onward.text (c.pass.ensures.at is_blank (λ x b p. search rules)) c.pass.new.self.placed _ (sym c.in_ok-sort.ensures ∙ ap Some c.in-Word.is) (c.pass-in-Word.ensures.at is_letter (λ x b p. search rules) ∙ cc) refl

pub returns-in-Number-clause-token : goal.returns-in-Number-clause-token
returns-in-Number-clause-token c =
    next_number c.args.self.now.text.now c.pass.new.self.text.now c.args.self.now.at c.pass.new.self.at c.pass-in-Number.new.self.at
    c.pass.new.self.place c.pass.ensures.onward.text (c.pass.ensures.at is_blank (λ x b p. search rules)) c.pass.new.self.placed _ (sym c.in_ok-sort.ensures ∙ ap Some c.in-Number.is) (c.pass-in-Number.ensures.at is_digit (λ x b p. search rules) ∙ cc) refl
