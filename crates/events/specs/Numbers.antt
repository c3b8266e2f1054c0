-- The numbers of refusals.
use Rattle.std.specs.Prelude.{ℕ}
use Rattle.events.specs.declared.refusal.OpenRefusal.{OpenRefusal}
use Rattle.events.specs.declared.refusal.OpenRefusal.TheVariants.{Threads, Variables, Rows}
use Rattle.events.specs.declared.refusal.Refusal.{Refusal}
use Rattle.events.specs.declared.refusal.Refusal.TheVariants as refusal

abbrev pub open_number : OpenRefusal → ℕ
open_number Threads = 1
open_number Variables = 2
open_number Rows = 3

abbrev pub note_number : Refusal → ℕ
note_number refusal.Void = 9
note_number refusal.Thread = 11
note_number refusal.Kind = 12
note_number refusal.Subject = 13
note_number refusal.LockValue = 14
note_number refusal.ReadValue = 15
note_number refusal.Held = 16
note_number refusal.NotHolder = 17
note_number refusal.ThreadFull = 18
note_number refusal.RowsFull = 19
