-- Reading views and their files, from the left. The fault of a part is the first of its fields that
-- cannot be read.
use Rattle.std.specs.Prelude.{ℕ, Ok}
use Rattle.std.specs.Int.{w32, w64}
use Rattle.small_types.specs.declared.limits.TheConstants.{NAME_LIMIT}
use Rattle.small_types.specs.Outcome.{◌>>=◌}
use Rattle.store_state.specs.declared.view.Content.{Content}
use Rattle.store_state.specs.declared.view.LocalFile.{LocalFile}
use Rattle.store_state.specs.declared.view.View.{View}
use Rattle.record_codec.specs.declared.numbers.TheConstants.{COUNT_LIMIT}
use Rattle.record_fields.specs.Readers.{number_at, text_at}
use Rattle.record_fields.specs.Parts.{Reader, digests_at, list_at, name_at, target_at}
use Rattle.record_fields.specs.Records.{application_at, deployment_at}

abbrev pub block_at : Reader ℕ
block_at bytes place = number_at w32 bytes place

-- with as many blocks as four bytes can count, whatever its size
unfoldable pub content_at : Reader Content
content_at bytes place = do
  size ← number_at w64 bytes place
  list ← digests_at bytes size.1
  held ← list_at COUNT_LIMIT block_at bytes list.1
  Ok (record { size = size.0; list = list.0; held = held.0 }, held.1)

-- with as many blocks as four bytes can count, whatever its length
unfoldable pub local_at : Reader LocalFile
local_at bytes place = do
  name ← name_at bytes place
  size ← number_at w64 bytes name.1
  held ← list_at COUNT_LIMIT block_at bytes size.1
  Ok (record { name = name.0; length = size.0; held = held.0 }, held.1)

-- with at most so many groups, and so many data files
unfoldable pub view_at : ℕ → Reader View
view_at most bytes place = do
  number ← number_at w64 bytes place
  deployment ← deployment_at bytes number.1
  application ← application_at bytes deployment.1
  base ← target_at bytes application.1
  groups ← list_at most (text_at NAME_LIMIT) bytes base.1
  locals ← list_at most local_at bytes groups.1
  Ok (
    record {
      number = number.0;
      deployment = deployment.0;
      application = application.0;
      base = base.0;
      groups = groups.0;
      locals = locals.0;
    },
    locals.1,
  )
