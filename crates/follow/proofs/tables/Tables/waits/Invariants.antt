use Rattle.std.proofs.Common.{◌≡◌, ℕ, ◌+◌, ◌*◌, ◌<◌, ◌≤◌, get_or}
use Rattle.follow.specs.Balance.{over_threads}
use Rattle.follow.specs.Made.{groups_in}
use Rattle.follow.specs.Looking.{led_in, taken_in}
use Rattle.follow.proofs.tables.Tables.waits.Given as goal

abbrev pub invariant-loop-t : goal.invariant-loop-t
invariant-loop-t l =
    (l.led ≡ (groups_in l.self l.object.number).starting + over_threads (led_in l.self l.fn.cut l.object.number) l.t)
    × (l.taken ≡ over_threads (taken_in l.self l.fn.cut l.object.number) l.t)
    × (l.led < 65536 * (l.t + 1))
    × (l.taken ≤ 65536 * l.t)
    × ((u : ℕ) → u < l.t → get_or l.fn.cut u 0 < 256)
