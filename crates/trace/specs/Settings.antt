-- What a trace is opened with, by its setting.
use Rattle.std.specs.Prelude.{ℕ, [], Some, None, Ok, Err, Result}
use Rattle.events.specs.declared.refusal.OpenRefusal.{OpenRefusal}
use Rattle.events.specs.Noting.{Opening, opened_as}
use Rattle.trace.specs.declared.setting.Setting.{Setting}

-- the opening of a trace that is so set, and is lent so many rows
abbrev pub opening_by : Setting → ℕ → Opening
opening_by g room = opened_as None g.threads g.starts room

-- the same where there may be no setting, for a reason
abbrev pub opening_with : Result Setting OpenRefusal → ℕ → Opening
opening_with (Ok g) room = opening_by g room
opening_with (Err why) room = opened_as (Some why) 0 [] room
