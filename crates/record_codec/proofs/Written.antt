-- Changes that are written, field behind field.
use Rattle.std.proofs.Common.{◌≡◌, ℕ, ◌+◌, ◌≤◌, List, [], ◌∷◌, ◌++◌, length, Option, refl, sym, ap, ◌∙◌, arith}
use Rattle.std.specs.Int.{w32, w64, to_be_bytes}
use Rattle.std.proofs.lemmas.List.{length-append}
use Rattle.small_types.specs.declared.target.Target.{Target}
use Rattle.identity.specs.declared.version.Version.{Version}
use Rattle.identity.specs.declared.key.Key.{Key}
use Rattle.store_state.specs.declared.change.Change.{Change}
use Rattle.store_state.specs.declared.change.Change.TheVariants.{Boot, Require, Install, Heard, Unheard, Skip, Rollback, Launch, Finish, Group, Put, Remove, Clean}
use Rattle.store_state.specs.declared.view.Content.{Content}
use Rattle.store_state.specs.declared.view.LocalFile.{LocalFile}
use Rattle.store_state.specs.declared.view.View.{View}
use Rattle.record_codec.specs.declared.numbers.TheConstants.{BOOT_KIND, CLEAN_KIND, FINISH_KIND, LAUNCH_KIND, REQUIRE_KIND, ROLLBACK_KIND, SKIP_KIND, UNHEARD_KIND}
use Rattle.record_codec.specs.Codec.{change_text, group_text, heard_text, install_text, put_text, remove_text}
use Rattle.record_fields.specs.Fields.{key_field, text_field, version_field}
use Rattle.record_fields.specs.Spelled.{list_field, option_field, target_field}
use Rattle.record_codec.specs.Spelled.{content_field, local_field, view_field}
use Rattle.record_fields.proofs.Long.{length-version_field}

-- ---- the parts of changes

pub change_text_boot : (boot : ℕ) → change_text (Boot boot) ≡ (BOOT_KIND ∷ []) ++ to_be_bytes w64 boot
unfolding change_text
change_text_boot boot = refl

pub change_text_require : (key : Key) (version : Version) → change_text (Require key version) ≡ (REQUIRE_KIND ∷ []) ++ (key_field key ++ version_field version)
unfolding change_text
change_text_require key version = refl

pub change_text_install : (view : View) (contents : List Content) (provider : Target) (now : ℕ)
    → change_text (Install view contents provider now) ≡ install_text view contents provider now
unfolding change_text
change_text_install view contents provider now = refl

pub change_text_heard : (key : Key) (version : Version) (minimum : Option Version) (now : ℕ)
    → change_text (Heard key version minimum now) ≡ heard_text key version minimum now
unfolding change_text
change_text_heard key version minimum now = refl

pub change_text_unheard : (key : Key) → change_text (Unheard key) ≡ (UNHEARD_KIND ∷ []) ++ key_field key
unfolding change_text
change_text_unheard key = refl

pub change_text_skip : (app : ℕ) → change_text (Skip app) ≡ (SKIP_KIND ∷ []) ++ to_be_bytes w32 app
unfolding change_text
change_text_skip app = refl

pub change_text_rollback : (app : ℕ) → change_text (Rollback app) ≡ (ROLLBACK_KIND ∷ []) ++ to_be_bytes w32 app
unfolding change_text
change_text_rollback app = refl

pub change_text_launch : (app : ℕ) → change_text (Launch app) ≡ (LAUNCH_KIND ∷ []) ++ to_be_bytes w32 app
unfolding change_text
change_text_launch app = refl

pub change_text_finish : (lease : ℕ) → change_text (Finish lease) ≡ (FINISH_KIND ∷ []) ++ to_be_bytes w64 lease
unfolding change_text
change_text_finish lease = refl

pub change_text_group : (view : ℕ) (group : List ℕ) (contents : List Content)
    → change_text (Group view group contents) ≡ group_text view group contents
unfolding change_text
change_text_group view group contents = refl

pub change_text_put : (view : ℕ) (file : LocalFile) → change_text (Put view file) ≡ put_text view file
unfolding change_text
change_text_put view file = refl

pub change_text_remove : (view : ℕ) (name : List ℕ)
    → change_text (Remove view name) ≡ remove_text view name
unfolding change_text
change_text_remove view name = refl

pub change_text_clean : change_text Clean ≡ CLEAN_KIND ∷ []
unfolding change_text
change_text_clean = refl

-- ---- how long changes are

pub length-change_text_boot : (boot : ℕ) → length (change_text (Boot boot)) ≡ 9
unfolding change_text
length-change_text_boot boot = refl

pub length-change_text_require : (key : Key) (version : Version) → length (change_text (Require key version)) ≡ 9 + length (key_field key)
unfolding change_text
length-change_text_require key version = omega (arith, length-append (key_field key) (version_field version), length-version_field version)

pub length-change_text_unheard : (key : Key) → length (change_text (Unheard key)) ≡ 1 + length (key_field key)
unfolding change_text
length-change_text_unheard key = omega arith

pub length-change_text_skip : (app : ℕ) → length (change_text (Skip app)) ≡ 5
unfolding change_text
length-change_text_skip app = refl

pub length-change_text_rollback : (app : ℕ) → length (change_text (Rollback app)) ≡ 5
unfolding change_text
length-change_text_rollback app = refl

pub length-change_text_launch : (app : ℕ) → length (change_text (Launch app)) ≡ 5
unfolding change_text
length-change_text_launch app = refl

pub length-change_text_finish : (lease : ℕ) → length (change_text (Finish lease)) ≡ 9
unfolding change_text
length-change_text_finish lease = refl

pub length-change_text_put : (view : ℕ) (file : LocalFile)
    → length (change_text (Put view file)) ≡ 9 + length (local_field file)
unfolding change_text put_text
length-change_text_put view file =
    omega (arith, length-append (to_be_bytes w64 view) (local_field file))

pub length-change_text_remove : (view : ℕ) (name : List ℕ)
    → length (change_text (Remove view name)) ≡ 9 + length (text_field name)
unfolding change_text remove_text
length-change_text_remove view name =
    omega (arith, length-append (to_be_bytes w64 view) (text_field name))

pub length-change_text_clean : length (change_text Clean) ≡ 1
unfolding change_text
length-change_text_clean = refl

-- the moment takes eight bytes, whatever it is
length-install_text : (view : View) (contents : List Content) (provider : Target) (now other : ℕ)
    → length (install_text view contents provider now)
    ≡ length (install_text view contents provider other)
unfolding install_text
length-install_text view contents provider now other =
    let v = view_field view in
    let c = list_field content_field contents in
    let p = target_field provider in
    let n = to_be_bytes w64 now in
    let m = to_be_bytes w64 other in
    omega (
      arith,
      length-append v (c ++ (p ++ n)),
      length-append c (p ++ n),
      length-append p n,
      length-append v (c ++ (p ++ m)),
      length-append c (p ++ m),
      length-append p m,
    )

pub length-installed : {change : Change} {view : View} {contents list : List Content}
    {provider : Target} {now : ℕ} (other : ℕ) → change ≡ Install view contents provider now
    → list ≡ contents
    → length (install_text view list provider other) ≡ length (change_text change)
length-installed {change} {view} {contents} {list} {provider} {now} other is same =
    ap (λ (l : List Content). length (install_text view l provider other)) same
    ∙ length-install_text view contents provider other now
    ∙ ap (length {A = ℕ}) (sym (change_text_install view contents provider now))
    ∙ sym (ap (λ (c : Change). length (change_text c)) is)

length-heard_text : (key : Key) (version : Version) (minimum : Option Version) (now other : ℕ)
    → length (heard_text key version minimum now) ≡ length (heard_text key version minimum other)
unfolding heard_text
length-heard_text key version minimum now other =
    let k = key_field key in
    let v = version_field version in
    let m = option_field version_field minimum in
    let n = to_be_bytes w64 now in
    let o = to_be_bytes w64 other in
    omega (
      arith,
      length-append k (v ++ (m ++ n)),
      length-append v (m ++ n),
      length-append m n,
      length-append k (v ++ (m ++ o)),
      length-append v (m ++ o),
      length-append m o,
    )

pub length-heard : {change : Change} {key : Key} {version : Version} {minimum : Option Version}
    {now : ℕ} (other : ℕ) → change ≡ Heard key version minimum now
    → length (heard_text key version minimum other) ≡ length (change_text change)
length-heard {change} {key} {version} {minimum} {now} other is =
    length-heard_text key version minimum other now
    ∙ ap (length {A = ℕ}) (sym (change_text_heard key version minimum now))
    ∙ sym (ap (λ (c : Change). length (change_text c)) is)

-- the number of the view takes eight bytes, whatever it is
length-group_text : (view other : ℕ) (group : List ℕ) (contents : List Content)
    → length (group_text view group contents) ≡ length (group_text other group contents)
unfolding group_text
length-group_text view other group contents =
    let v = to_be_bytes w64 view in
    let o = to_be_bytes w64 other in
    let g = text_field group in
    let c = list_field content_field contents in
    omega (arith, length-append v (g ++ c), length-append o (g ++ c))

pub length-grouped : {change : Change} {view : ℕ} {group : List ℕ} {contents list : List Content}
    (other : ℕ) → change ≡ Group view group contents → list ≡ contents
    → length (group_text other group list) ≡ length (change_text change)
length-grouped {change} {view} {group} {contents} {list} other is same =
    ap (λ (l : List Content). length (group_text other group l)) same
    ∙ length-group_text other view group contents
    ∙ ap (length {A = ℕ}) (sym (change_text_group view group contents))
    ∙ sym (ap (λ (c : Change). length (change_text c)) is)

pub length-put : {change : Change} {view : ℕ} {file : LocalFile} → change ≡ Put view file
    → length (put_text view file) ≡ length (change_text change)
length-put {change} {view} {file} is =
    ap (length {A = ℕ}) (sym (change_text_put view file))
    ∙ sym (ap (λ (c : Change). length (change_text c)) is)

pub length-removed : {change : Change} {view : ℕ} {name : List ℕ} → change ≡ Remove view name
    → length (remove_text view name) ≡ length (change_text change)
length-removed {change} {view} {name} is =
    ap (length {A = ℕ}) (sym (change_text_remove view name))
    ∙ sym (ap (λ (c : Change). length (change_text c)) is)

-- ---- room for a change

pub boot_room : (c : Change) (boot room : ℕ) → c ≡ Boot boot → length (change_text c) ≤ room → 9 ≤ room
boot_room c boot room is enough = let same = ap (λ (x : Change). length (change_text x)) is in omega (arith, length-change_text_boot boot)

pub require_room : (c : Change) (key : Key) (version : Version) (room : ℕ) → c ≡ Require key version → length (change_text c) ≤ room → 9 + length (key_field key) ≤ room
require_room c key version room is enough = let same = ap (λ (x : Change). length (change_text x)) is in omega (arith, length-change_text_require key version)

pub unheard_room : (c : Change) (key : Key) (room : ℕ) → c ≡ Unheard key → length (change_text c) ≤ room
    → 1 + length (key_field key) ≤ room
unheard_room c key room is enough =
    let same = ap (λ (x : Change). length (change_text x)) is in
    omega (arith, length-change_text_unheard key)

pub skip_room : (c : Change) (app room : ℕ) → c ≡ Skip app → length (change_text c) ≤ room → 5 ≤ room
skip_room c app room is enough =
    let same = ap (λ (x : Change). length (change_text x)) is in
    omega (arith, length-change_text_skip app)

pub rollback_room : (c : Change) (app room : ℕ) → c ≡ Rollback app → length (change_text c) ≤ room → 5 ≤ room
rollback_room c app room is enough =
    let same = ap (λ (x : Change). length (change_text x)) is in
    omega (arith, length-change_text_rollback app)

pub launch_room : (c : Change) (app room : ℕ) → c ≡ Launch app → length (change_text c) ≤ room → 5 ≤ room
launch_room c app room is enough =
    let same = ap (λ (x : Change). length (change_text x)) is in
    omega (arith, length-change_text_launch app)

pub finish_room : (c : Change) (lease room : ℕ) → c ≡ Finish lease → length (change_text c) ≤ room → 9 ≤ room
finish_room c lease room is enough =
    let same = ap (λ (x : Change). length (change_text x)) is in
    omega (arith, length-change_text_finish lease)

pub clean_room : (c : Change) (room : ℕ) → c ≡ Clean → length (change_text c) ≤ room → 1 ≤ room
clean_room c room is enough =
    let same = ap (λ (x : Change). length (change_text x)) is in
    omega (arith, length-change_text_clean)
