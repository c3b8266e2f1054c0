-- A trace's invariant as one record.
use Rattle.std.proofs.Common.{◌≡◌, true, length}
use Rattle.events.specs.declared.event.Event.{Event}
use Rattle.events.specs.Accepted.{accepted}
use Rattle.rows.specs.declared.list.Rows.{Rows}
use Rattle.rows.specs.Listed.{listed}
use Rattle.trace.specs.declared.state.State.{State}
use Rattle.trace.specs.Fields.{opening_in, Valued, Locked, Counted}

pub record Kept (s : State) (rows : Rows Event) : Type 0 where
  pub values_size : length s.values ≡ 32
  pub locks_size : length s.locks ≡ 16
  pub counts_size : length s.counts ≡ 8
  pub valued : Valued (opening_in s rows) (listed rows) s.values
  pub locked : Locked (listed rows) s.locks
  pub counted : Counted (listed rows) s.counts
  pub accepted_all : accepted (opening_in s rows) (listed rows) ≡ true
