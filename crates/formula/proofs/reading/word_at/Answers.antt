use Rattle.std.proofs.Common.{◌≡◌, ◌+◌, ◌-◌, length, take, drop, get_or, pos, Err, sym, ap, ◌∙◌, rules, arith}
use Rattle.text.specs.declared.fault.TextFault.TheVariants.{TooLong}
use Rattle.formula.specs.declared.word.Word.TheVariants.{Eq, Lt, Gt, Mark, By}
use Rattle.formula.specs.Reading.{operator, filled_one, filled_two}
use Rattle.formula.proofs.Heads.{head_read, letter}
use Rattle.formula.proofs.reading.word_at.Goals as goal

pub returns-in-101 : goal.returns-in-101
returns-in-101 c f more ten e =
    let t = c.args.text.now in
    let k = c.args.at in
    let first : get_or (take (length t - k) (drop k t)) 1 0 ≡ 101 = search rules in
    let filled : c.map.result ≡ filled_two (Eq 0 (pos 0)) c.pair_at.result = search rules in
    filled
    ∙ head_read t k (Eq 0 (pos 0)) (sym (ap (λ a. operator a (get_or t (k + 2) 0)) (letter t k 1 101 c.in-101.len_at_least (omega arith) first))) c.pair_at.result (Err TooLong) (λ _. c.pair_at.ensures) (λ h. absurd h) (λ h. absurd h) f more ten e

pub returns-in-108 : goal.returns-in-108
returns-in-108 c f more ten e =
    let t = c.args.text.now in
    let k = c.args.at in
    let first : get_or (take (length t - k) (drop k t)) 1 0 ≡ 108 = search rules in
    let filled : c.map-in-108.result ≡ filled_two (Lt 0 (pos 0)) c.pair_at-in-108.result = search rules in
    filled
    ∙ head_read t k (Lt 0 (pos 0)) (sym (ap (λ a. operator a (get_or t (k + 2) 0)) (letter t k 1 108 c.in-108.len_at_least (omega arith) first))) c.pair_at-in-108.result (Err TooLong) (λ _. c.pair_at-in-108.ensures) (λ h. absurd h) (λ h. absurd h) f more ten e

pub returns-in-103 : goal.returns-in-103
returns-in-103 c f more ten e =
    let t = c.args.text.now in
    let k = c.args.at in
    let first : get_or (take (length t - k) (drop k t)) 1 0 ≡ 103 = search rules in
    let filled : c.map-in-103.result ≡ filled_two (Gt 0 (pos 0)) c.pair_at-in-103.result = search rules in
    filled
    ∙ head_read t k (Gt 0 (pos 0)) (sym (ap (λ a. operator a (get_or t (k + 2) 0)) (letter t k 1 103 c.in-103.len_at_least (omega arith) first))) c.pair_at-in-103.result (Err TooLong) (λ _. c.pair_at-in-103.ensures) (λ h. absurd h) (λ h. absurd h) f more ten e

pub returns-in-109 : goal.returns-in-109
returns-in-109 c f more ten e =
    let t = c.args.text.now in
    let k = c.args.at in
    let first : get_or (take (length t - k) (drop k t)) 1 0 ≡ 109 = search rules in
    let filled : c.map-in-109.result ≡ filled_one (Mark 0) c.number_at.result = search rules in
    filled
    ∙ head_read t k (Mark 0) (sym (ap (λ a. operator a (get_or t (k + 2) 0)) (letter t k 1 109 c.in-109.len_at_least (omega arith) first))) (Err TooLong) c.number_at.result (λ h. absurd h) (λ _. c.number_at.ensures) (λ h. absurd h) f more ten e

pub returns-in-98 : goal.returns-in-98
returns-in-98 c f more ten e =
    let t = c.args.text.now in
    let k = c.args.at in
    let first : get_or (take (length t - k) (drop k t)) 1 0 ≡ 98 = search rules in
    let second : get_or (take (length t - k) (drop k t)) 2 0 ≡ 121 = search rules in
    let filled : c.map-in-98.result ≡ filled_one (By 0) c.number_at-in-98.result = search rules in
    filled
    ∙ head_read t k (By 0) (sym (ap (λ a. operator a (get_or t (k + 2) 0)) (letter t k 1 98 c.in-98.len_at_least (omega arith) first) ∙ ap (operator 98) (letter t k 2 121 c.in-98.len_at_least (omega arith) second))) (Err TooLong) c.number_at-in-98.result (λ h. absurd h) (λ h. absurd h) (λ _. c.number_at-in-98.ensures) f more ten e
