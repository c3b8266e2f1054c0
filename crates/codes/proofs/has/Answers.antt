use Rattle.std.proofs.Common.{◌^◌, ◌<◌, eqb, sym, ap, ◌∙◌, arith}
use Rattle.std.proofs.lemmas.Nat.Bits.{shr_and_one}
use Rattle.std.proofs.lemmas.Bool.{le-ltb}
use Rattle.codes.specs.Codes.{bit_of}
use Rattle.codes.proofs.Codes.{bit_over}
use Rattle.codes.proofs.has.Goals as goal

pub returns-then-bit-lt64 : goal.returns-then-bit-lt64
unfolding bit_of
returns-then-bit-lt64 c = ap (λ y. eqb y 1) (shr_and_one c.args.code c.args.bit)

pub returns-else-bit-lt64 : goal.returns-else-bit-lt64
returns-else-bit-lt64 c =
    let fits : c.args.code < 2 ^ 64 = omega arith in
    le-ltb c.args.bit 64 c.if-bit-lt64.false ∙ sym (bit_over 64 c.args.code c.args.bit fits c.if-bit-lt64.false)
