use Rattle.std.proofs.Common.{◌≡◌, ◌<◌, ◌⊎◌, refl, ap, ◌∙◌, inl, inr, arith}
use Rattle.events.specs.Kinds.{kind_number}
use Rattle.events.specs.declared.kind.Kind.{Kind}
use Rattle.events.specs.declared.kind.Kind.TheVariants.{Internal, Read, Write}
use Rattle.text.specs.Standing.{trim}
use Rattle.text.proofs.Taking.{ending_value, moved_onward}
use Rattle.text.proofs.build.value.Goals as goal

no_lock : (k : Kind) → (k ≡ Internal) ⊎ (k ≡ Read) ⊎ (k ≡ Write) → kind_number k < 3
no_lock k (inl e) = rw e (omega arith)
no_lock k (inr (inl e)) = rw e (omega arith)
no_lock k (inr (inr e)) = rw e (omega arith)

pub returns-in-Internal : goal.returns-in-Internal
returns-in-Internal c = record {
  onward = moved_onward c.number.ensures.moved;
  taken = λ whole ps rest z stand is lock.
      c.number.ensures.taken whole ps rest z refl stand (ap trim (is ∙ ending_value (kind_number c.args.kind) z rest (no_lock c.args.kind c.in-Internal.is)));
}
