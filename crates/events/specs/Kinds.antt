-- The numbers of kinds.
use Rattle.std.specs.Prelude.{ℕ, cond, Some, None, Option, Result, ok_or, ◌==◌}
use Rattle.events.specs.declared.kind.Kind.{Kind}
use Rattle.events.specs.declared.kind.Kind.TheVariants.{Internal, Read, Write, Acquire, Release}
use Rattle.events.specs.declared.kind.NoKind.{NoKind}

abbrev pub kind_number : Kind → ℕ
kind_number Internal = 0
kind_number Read = 1
kind_number Write = 2
kind_number Acquire = 3
kind_number Release = 4

-- the kind with this number
abbrev pub kind_of : ℕ → Option Kind
kind_of k =
    cond (k == 0) (Some Internal)
    (cond (k == 1) (Some Read) (cond (k == 2) (Some Write) (cond (k == 3) (Some Acquire) (cond (k == 4) (Some Release) None))))

-- the same as an answer: the kind, or that the number is none's
abbrev pub kind_with : ℕ → Result Kind NoKind
kind_with k = ok_or (kind_of k) (record {})
