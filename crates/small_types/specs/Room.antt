-- The room of a new store.
use Rattle.std.specs.Prelude.{ℕ}
use Rattle.small_types.specs.declared.limits.TheConstants.{HALF_DEFAULT}
use Rattle.small_types.specs.declared.room.Room.{Room}

-- that of so many blocks, where no length of a half is asked for
abbrev pub new_room : ℕ → Room
new_room blocks = record { blocks = blocks; half = HALF_DEFAULT }
