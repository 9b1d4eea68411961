-- The memory for what a step writes.
use Rattle.std.specs.Prelude.{◌≤◌, ℕ, vec_capacity}
use Rattle.table_log.specs.declared.rooms.Rooms.{Rooms}

-- each of the two has the capacity for as many bytes as a half has
pub record HaveRooms (half : ℕ) (rooms : Rooms) : Type 0 where
  pub entry : half ≤ vec_capacity rooms.entry
  pub tables : half ≤ vec_capacity rooms.tables
