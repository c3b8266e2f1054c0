use Rattle.std.proofs.Common.{rules}
use Rattle.text.proofs.Meeting.{meet}
use Rattle.text.proofs.Taking.{number_taken, number_there}
use Rattle.text.proofs.build.number.Goals as goal

pub returns-in_err-part-clause-taken : goal.returns-in_err-part-clause-taken
returns-in_err-part-clause-taken g c whole ps rest n is stand next = elim (number_there (meet stand next c.digits.ensures.moved) is (search rules)) [ ]

pub returns-clause-taken : goal.returns-clause-taken
returns-clause-taken g c whole ps rest n is stand next =
    number_taken (meet stand next c.digits.ensures.moved) is n c.in_ok-part.part.now c.in_ok-part.place c.read.result (search rules) (c.read.ensures.spelt n)
