-- What contracts see of an updater, and what each one keeps.
use Rattle.std.specs.Prelude.{◌≡◌}
use Rattle.small_types.specs.declared.room.Room.{Room}
use Rattle.machine.specs.Weight.{IsLight}
use Rattle.journal.specs.declared.log.Log.{Log}
use Rattle.journal.specs.Layout.{AreLimits}
use Rattle.journal.specs.Log.{half_of}
use Rattle.store_state.specs.Measured.{AreMeasured}
use Rattle.store_state.specs.Tables.{Tables}
use Rattle.table_codec.specs.Values.{IsEncodableState}
use Rattle.table_weight.specs.Weight.{tables_weight}

-- its log, its room and its tables
pub record Updater : Type 0 where
  pub log : Log
  pub room : Room
  pub state : Tables

-- The tables have an encoding, and room in a half of the room's length, which is that of the log's
-- halves. So a checkpoint of them and an entry behind it always fit. Each of their files has as many
-- blocks as its length needs.
pub record IsKept (log : Log) (room : Room) (state : Tables) : Type 0 where
  pub encodable : IsEncodableState state
  pub light : IsLight room (tables_weight state)
  pub limits : AreLimits room.blocks room.half
  pub half : half_of log ≡ room.half
  pub measured : AreMeasured state
