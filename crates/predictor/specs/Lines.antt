-- The lines that are printed.
use Rattle.std.specs.Prelude.{ℕ, List, ◌++◌, codes, decimal}
use Rattle.predictor.specs.declared.fault.Fault.{Fault}
use Rattle.predictor.specs.Faults.{fault_number, fault_place, layer_word}

abbrev pub fault_line : Fault → List ℕ
fault_line x =
    codes "(fault "
    ++ (layer_word x ++ (codes " " ++ (decimal (fault_number x) ++ (codes " " ++ (decimal (fault_place x).line ++ (codes " " ++ (decimal (fault_place x).column ++ codes ")")))))))
