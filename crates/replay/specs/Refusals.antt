-- The numbers of refusals, and where they stand.
use Rattle.std.specs.Prelude.{ℕ}
use Rattle.follow.specs.declared.no_next.NoNext.{NoNext}
use Rattle.follow.specs.declared.no_next.NoNext.TheVariants as because
use Rattle.replay.specs.declared.refusal.ReplayRefusal.{ReplayRefusal}
use Rattle.replay.specs.declared.refusal.ReplayRefusal.TheVariants.{Void, Length, Thread, Done, Missing, Blocked}

abbrev pub replay_number : ReplayRefusal → ℕ
replay_number Void = 9
replay_number Length = 31
replay_number (Thread p) = 32
replay_number (Done p) = 33
replay_number (Missing p) = 34
replay_number (Blocked p) = 35

abbrev pub replay_position : ReplayRefusal → ℕ
replay_position Void = 0
replay_position Length = 0
replay_position (Thread p) = p
replay_position (Done p) = p
replay_position (Missing p) = p
replay_position (Blocked p) = p

-- how position p is refused, whose thread has no event that comes next
abbrev pub refusal_at : ℕ → NoNext → ReplayRefusal
refusal_at p because.Done = Done p
refusal_at p because.Missing = Missing p
refusal_at p because.Blocked = Blocked p
