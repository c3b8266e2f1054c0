-- Values filled up with 0 are a table of them.
use Rattle.std.proofs.Common.{◌≤◌, ◌-◌, List, length, ℤ, pos, sym, ap, arith}
use Rattle.std.proofs.lemmas.List.{length-append, length-replicate}
use Rattle.std.proofs.Math.Seq.{take-append_seam}
use Rattle.events.specs.Starts.{zeros, filled, IsTable, table_of}

pub table_is : (values : List ℤ) → length values ≤ 32 → IsTable (table_of values)
table_is values few =
    record {
      few = few;
      rest = ap filled (sym (take-append_seam values (zeros values)));
      size = omega (arith, length-append values (zeros values), length-replicate (32 - length values) (pos 0));
    }
