use Rattle.std.proofs.Common.{◌^◌, refl, ◌∙◌}
use Rattle.std.proofs.lemmas.Nat.{one_shl}
use Rattle.std.proofs.lemmas.Bool.{cond_below, cond_above}
use Rattle.codes.specs.Codes.{only_bit}
use Rattle.codes.proofs.only.Goals as goal

pub returns-then-bit-lt64 : goal.returns-then-bit-lt64
unfolding only_bit
returns-then-bit-lt64 c = one_shl c.args.bit 64 c.if-bit-lt64.true ∙ cond_below c.args.bit 64 (2 ^ c.args.bit) 0 c.if-bit-lt64.true

pub returns-else-bit-lt64 : goal.returns-else-bit-lt64
unfolding only_bit
returns-else-bit-lt64 c = cond_above c.args.bit 64 (2 ^ c.args.bit) 0 0 c.if-bit-lt64.false refl
