use Rattle.std.proofs.Common.{◌-◌, ap, ◌∙◌, arith}
use lib.Bits.{bit_and, and_mask}
use Rattle.std.proofs.lemmas.Nat.{pow_pos}
use Rattle.codes.proofs.Bitwise.{only_pow}
use Rattle.automaton.proofs.moves.below.Goals as goal

pub overflow_sub-result : goal.overflow_sub-result
overflow_sub-result c = omega (arith, c.only.ensures, only_pow c.args.bits c.requires, pow_pos c.args.bits)

pub returns : goal.returns
returns c =
    ap (λ x. bit_and c.args.code (x - 1)) (c.only.ensures ∙ only_pow c.args.bits c.requires) ∙ and_mask c.args.code c.args.bits
