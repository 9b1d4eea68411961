-- Reading changes from the left.
use Rattle.std.specs.Prelude.{ℕ, Bool, false, List, [], ◌∷◌, length, Result, Ok, Err, ◌==◌, ◌||◌, if◌then◌else◌}
use Rattle.std.specs.Int.{w32, w64}
use Rattle.small_types.specs.declared.limits.TheConstants.{FILE_COUNT_LIMIT, NAME_LIMIT}
use Rattle.small_types.specs.Outcome.{◌>>=◌}
use Rattle.store_state.specs.declared.change.Change.{Change}
use Rattle.store_state.specs.declared.change.Change.TheVariants.{Boot, Require, Install, Heard, Unheard, Skip, Rollback, Launch, Finish, Group, Put, Remove, Clean}
use Rattle.record_codec.specs.declared.numbers.TheConstants.{BOOT_KIND, CLEAN_KIND, FINISH_KIND, GROUP_KIND, HEARD_KIND, INSTALL_KIND, LAUNCH_KIND, PUT_KIND, REMOVE_KIND, REQUIRE_KIND, ROLLBACK_KIND, SKIP_KIND, UNHEARD_KIND}
use Rattle.record_fields.specs.declared.fault.CodecFault.{CodecFault}
use Rattle.record_fields.specs.declared.fault.CodecFault.TheVariants.{Bad}
use Rattle.record_fields.specs.Readers.{number_at, text_at, key_at, version_at}
use Rattle.record_fields.specs.Parts.{Reader, list_at, name_at, option_at, target_at}
use Rattle.record_codec.specs.Records.{content_at, local_at, view_at}

unfoldable pub boot_at : Reader Change
boot_at bytes place = do
  boot ← number_at w64 bytes place
  Ok (Boot boot.0, boot.1)

unfoldable pub require_at : Reader Change
require_at bytes place = do
  key ← key_at bytes place
  version ← version_at bytes key.1
  Ok (Require key.0 version.0, version.1)

unfoldable pub install_at : Reader Change
install_at bytes place = do
  view ← view_at FILE_COUNT_LIMIT bytes place
  contents ← list_at FILE_COUNT_LIMIT content_at bytes view.1
  provider ← target_at bytes contents.1
  now ← number_at w64 bytes provider.1
  Ok (Install view.0 contents.0 provider.0 now.0, now.1)

unfoldable pub heard_at : Reader Change
heard_at bytes place = do
  key ← key_at bytes place
  version ← version_at bytes key.1
  minimum ← option_at version_at bytes version.1
  now ← number_at w64 bytes minimum.1
  Ok (Heard key.0 version.0 minimum.0 now.0, now.1)

unfoldable pub unheard_at : Reader Change
unheard_at bytes place = do
  key ← key_at bytes place
  Ok (Unheard key.0, key.1)

-- the place of an application
unfoldable pub skip_at : Reader Change
skip_at bytes place = do
  app ← number_at w32 bytes place
  Ok (Skip app.0, app.1)

-- the place of an application
unfoldable pub rollback_at : Reader Change
rollback_at bytes place = do
  app ← number_at w32 bytes place
  Ok (Rollback app.0, app.1)

-- the place of an application
unfoldable pub launch_at : Reader Change
launch_at bytes place = do
  app ← number_at w32 bytes place
  Ok (Launch app.0, app.1)

-- the number of a lease
unfoldable pub finish_at : Reader Change
finish_at bytes place = do
  lease ← number_at w64 bytes place
  Ok (Finish lease.0, lease.1)

-- the number of a view, a group and the contents that it brings
unfoldable pub group_at : Reader Change
group_at bytes place = do
  view ← number_at w64 bytes place
  group ← text_at NAME_LIMIT bytes view.1
  contents ← list_at FILE_COUNT_LIMIT content_at bytes group.1
  Ok (Group view.0 group.0 contents.0, contents.1)

-- the number of a view, and a data file that it has then
unfoldable pub put_at : Reader Change
put_at bytes place = do
  view ← number_at w64 bytes place
  file ← local_at bytes view.1
  Ok (Put view.0 file.0, file.1)

-- the number of a view, and the name of a data file
unfoldable pub remove_at : Reader Change
remove_at bytes place = do
  view ← number_at w64 bytes place
  name ← name_at bytes view.1
  Ok (Remove view.0 name.0, name.1)

-- no field
abbrev pub clean_at : Reader Change
clean_at bytes place = Ok (Clean, place)

-- what stands behind the number of a kind; no other number is one
abbrev pub kind_at : ℕ → List ℕ → Result (Change × ℕ) CodecFault
kind_at kind bytes =
    if kind == BOOT_KIND then boot_at bytes 1
    else if kind == REQUIRE_KIND then require_at bytes 1
    else if kind == INSTALL_KIND then install_at bytes 1
    else if kind == HEARD_KIND then heard_at bytes 1
    else if kind == UNHEARD_KIND then unheard_at bytes 1
    else if kind == SKIP_KIND then skip_at bytes 1
    else if kind == ROLLBACK_KIND then rollback_at bytes 1
    else if kind == LAUNCH_KIND then launch_at bytes 1
    else if kind == FINISH_KIND then finish_at bytes 1
    else if kind == GROUP_KIND then group_at bytes 1
    else if kind == PUT_KIND then put_at bytes 1
    else if kind == REMOVE_KIND then remove_at bytes 1
    else if kind == CLEAN_KIND then clean_at bytes 1
    else Err (Bad 0)

-- the number of the kind, and the fields
unfoldable pub change_at : List ℕ → Result (Change × ℕ) CodecFault
change_at [] = Err (Bad 0)
change_at (kind ∷ rest) = kind_at kind (kind ∷ rest)

-- all of the bytes
unfoldable pub change_of : List ℕ → Result Change CodecFault
change_of bytes = do
  change ← change_at bytes
  if change.1 == length bytes then Ok change.0 else Err (Bad change.1)

-- the kinds of changes that own memory: a key, a view, a group, a data file or its name
abbrev pub owns_memory : ℕ → Bool
owns_memory kind =
    kind == REQUIRE_KIND || kind == INSTALL_KIND || kind == HEARD_KIND || kind == UNHEARD_KIND
    || kind == GROUP_KIND || kind == PUT_KIND || kind == REMOVE_KIND

-- reading takes memory where such a kind stands at the front
unfoldable pub takes_memory : List ℕ → Bool
takes_memory [] = false
takes_memory (kind ∷ rest) = owns_memory kind
