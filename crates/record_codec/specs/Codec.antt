-- How changes are spelled as bytes.
use Rattle.std.specs.Prelude.{◌<◌, ◌^◌, List, ℕ, Option, [], ◌∷◌, ◌++◌}
use Rattle.std.specs.Int.{to_be_bytes, w32, w64}
use Rattle.small_types.specs.declared.target.Target.{Target}
use Rattle.small_types.specs.Name.{IsName}
use Rattle.identity.specs.declared.key.Key.{Key}
use Rattle.identity.specs.declared.version.Version.{Version}
use Rattle.identity.specs.Version.{IsVersion}
use Rattle.identity.specs.Key.{IsShortKey}
use Rattle.store_state.specs.declared.change.Change.{Change}
use Rattle.store_state.specs.declared.change.Change.TheVariants.{Boot, Require, Install, Heard, Unheard, Skip, Rollback, Launch, Finish, Group, Put, Remove, Clean}
use Rattle.store_state.specs.declared.view.Content.{Content}
use Rattle.store_state.specs.declared.view.LocalFile.{LocalFile}
use Rattle.store_state.specs.declared.view.View.{View}
use Rattle.record_codec.specs.declared.numbers.TheConstants.{BOOT_KIND, CLEAN_KIND, FINISH_KIND, GROUP_KIND, HEARD_KIND, INSTALL_KIND, LAUNCH_KIND, PUT_KIND, REMOVE_KIND, REQUIRE_KIND, ROLLBACK_KIND, SKIP_KIND, UNHEARD_KIND}
use Rattle.record_fields.specs.Fields.{key_field, text_field, version_field}
use Rattle.record_fields.specs.Spelled.{list_field, option_field, target_field}
use Rattle.record_codec.specs.Spelled.{content_field, local_field, view_field}
use Rattle.record_codec.specs.Values.{IsEncodableGroup, IsEncodableCheck, IsEncodableInstall, IsEncodableLocal}

-- the number of the kind, and the fields
unfoldable pub install_text : View → List Content → Target → ℕ → List ℕ
install_text view contents provider now =
    INSTALL_KIND ∷ (view_field view ++ (list_field content_field contents
    ++ (target_field provider ++ to_be_bytes w64 now)))

unfoldable pub heard_text : Key → Version → Option Version → ℕ → List ℕ
heard_text key version minimum now =
    HEARD_KIND ∷ (key_field key ++ (version_field version
    ++ (option_field version_field minimum ++ to_be_bytes w64 now)))

unfoldable pub group_text : ℕ → List ℕ → List Content → List ℕ
group_text view group contents =
    GROUP_KIND ∷ (to_be_bytes w64 view ++ (text_field group ++ list_field content_field contents))

unfoldable pub put_text : ℕ → LocalFile → List ℕ
put_text view file = PUT_KIND ∷ (to_be_bytes w64 view ++ local_field file)

unfoldable pub remove_text : ℕ → List ℕ → List ℕ
remove_text view name = REMOVE_KIND ∷ (to_be_bytes w64 view ++ text_field name)

-- the bytes of a change: the number of its kind, and its fields
unfoldable pub change_text : Change → List ℕ
change_text (Boot boot) = BOOT_KIND ∷ to_be_bytes w64 boot
change_text (Require key version) = REQUIRE_KIND ∷ (key_field key ++ version_field version)
change_text (Install view contents provider now) = install_text view contents provider now
change_text (Heard key version minimum now) = heard_text key version minimum now
change_text (Unheard key) = UNHEARD_KIND ∷ key_field key
change_text (Skip app) = SKIP_KIND ∷ to_be_bytes w32 app
change_text (Rollback app) = ROLLBACK_KIND ∷ to_be_bytes w32 app
change_text (Launch app) = LAUNCH_KIND ∷ to_be_bytes w32 app
change_text (Finish lease) = FINISH_KIND ∷ to_be_bytes w64 lease
change_text (Group view group contents) = group_text view group contents
change_text (Put view file) = put_text view file
change_text (Remove view name) = remove_text view name
change_text Clean = CLEAN_KIND ∷ []

-- The fields are within their limits: just such a change has an encoding. A part of a key may be
-- empty, as any text. A data file may be below `.pre`, and of any length that eight bytes can say.
abbrev pub IsChange : Change → Type 0
IsChange (Boot boot) = boot < 2 ^ 64
IsChange (Require key version) = IsShortKey key × IsVersion version
IsChange (Install view contents provider now) = IsEncodableInstall view contents provider now
IsChange (Heard key version minimum now) = IsEncodableCheck key version minimum now
IsChange (Unheard key) = IsShortKey key
IsChange (Skip app) = app < 2 ^ 32
IsChange (Rollback app) = app < 2 ^ 32
IsChange (Launch app) = app < 2 ^ 32
IsChange (Finish lease) = lease < 2 ^ 64
IsChange (Group view group contents) = IsEncodableGroup view group contents
IsChange (Put view file) = (view < 2 ^ 64) × IsEncodableLocal file
IsChange (Remove view name) = (view < 2 ^ 64) × IsName name
IsChange Clean = Unit {0}

-- the most bytes of an encoding
abbrev pub length_limit : Change → ℕ
length_limit (Boot boot) = 9
length_limit (Require key version) = 457
length_limit (Install view contents provider now) = 2 ^ 50
length_limit (Heard key version minimum now) = 474
length_limit (Unheard key) = 449
length_limit (Skip app) = 5
length_limit (Rollback app) = 5
length_limit (Launch app) = 5
length_limit (Finish lease) = 9
length_limit (Group view group contents) = 2 ^ 50
length_limit (Put view file) = 2 ^ 35
length_limit (Remove view name) = 253
length_limit Clean = 1
