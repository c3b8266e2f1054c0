use Rattle.std.proofs.Common.{refl, arith, rules}
use Rattle.text.proofs.Meeting.{meet}
use Rattle.text.proofs.Taking.{kind_none, kind_some, next_moved, word_moves}
use Rattle.text.proofs.build.verb.Goals as goal

pub returns-in_err-name-clause-kind : goal.returns-in_err-name-clause-kind
returns-in_err-name-clause-kind c whole ps rest w stand is =
    let m = meet stand is (next_moved c.next.ensures.text c.next.ensures.token) in
    elim (kind_none (meet (m.goes tt) refl c.word.ensures.moved) (search rules)) [ ]

pub returns-clause-further : goal.returns-clause-further
returns-clause-further c e = omega (arith, c.next.ensures.token.end, word_moves c.in_ok-name.name.now (search rules) c.word.ensures.moved)

pub returns-clause-kind : goal.returns-clause-kind
returns-clause-kind c whole ps rest w stand is =
    let m = meet stand is (next_moved c.next.ensures.text c.next.ensures.token) in
    let n = meet (m.goes tt) refl c.word.ensures.moved in
    (kind_some n c.in_ok-name.name.now c.kind.result (search rules) c.kind.ensures, n.goes tt)
