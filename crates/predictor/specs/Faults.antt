-- The four parts of a fault: its layer, number, line and column.
use Rattle.std.specs.Prelude.{ℕ, ◌+◌, ◌-◌, ◌^◌, min, List, codes}
use Rattle.events.specs.Numbers.{open_number, note_number}
use Rattle.formula.specs.Faults.{rule_number, rule_place}
use Rattle.judge.specs.Numbers.{judge_number}
use Rattle.text.specs.Numbers.{text_number, text_place}
use Rattle.text.specs.declared.place.Place.{Place}
use Rattle.text.specs.declared.fault.ReadFault.{ReadFault}
use Rattle.text.specs.declared.fault.ReadFault.TheVariants as read
use Rattle.predictor.specs.declared.fault.RecordFault.{RecordFault}
use Rattle.predictor.specs.declared.fault.RecordFault.TheVariants.{Opening, Noting}
use Rattle.predictor.specs.declared.fault.Fault.{Fault}
use Rattle.predictor.specs.declared.fault.Fault.TheVariants.{Text, Record, Rule, Search}
use Rattle.predictor.specs.declared.fault.Stop.{Stop}
use Rattle.predictor.specs.declared.fault.Stop.TheVariants.{Faulty, Memory}

abbrev pub record_number : RecordFault → ℕ
record_number (Opening why) = open_number why
record_number (Noting why) = note_number why

abbrev pub fault_number : Fault → ℕ
fault_number (Text cause) = text_number cause
fault_number (Record cause place) = record_number cause
fault_number (Rule cause start) = rule_number cause
fault_number (Search cause) = judge_number cause

-- the place in a recording of what stands at a place of its rule, which begins at `start` and is a part of one line; a column is a machine word
abbrev pub place_in_line : Place → Place → Place
place_in_line start inner = record { line = start.line; column = min (start.column + (inner.column - 1)) (2 ^ 64 - 1) }

abbrev pub fault_place : Fault → Place
fault_place (Text cause) = text_place cause
fault_place (Record cause place) = place
fault_place (Rule cause start) = place_in_line start (rule_place cause)
fault_place (Search cause) = record { line = 0; column = 0 }

abbrev pub layer_word : Fault → List ℕ
layer_word (Text cause) = codes "text"
layer_word (Record cause place) = codes "record"
layer_word (Rule cause start) = codes "rule"
layer_word (Search cause) = codes "search"

-- what stops the predictor where reading fails
abbrev pub stop_of : ReadFault → Stop
stop_of (read.Text cause) = Faulty (Text cause)
stop_of read.Memory = Memory
