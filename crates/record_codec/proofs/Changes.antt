-- What is read is spelled so, and what is spelled so is read.
use Rattle.std.proofs.Common.{◌≡◌, ◌≢◌, ℕ, ◌+◌, ◌^◌, cond, eqb, List, [], ◌∷◌, ◌++◌, length, drop, Option, Result, Ok, Err, refl, sym, ap, subst, ◌∙◌, arith, inl, inr}
use Rattle.std.specs.Prelude.{IfOk}
use Rattle.std.specs.Int.{w32, w64, to_be_bytes}
use Rattle.std.proofs.lemmas.Bool.{cases_Bool, eqb-true, eq-eqb}
use Rattle.std.proofs.lemmas.List.{append-nil}
use Rattle.small_types.specs.declared.limits.TheConstants.{FILE_COUNT_LIMIT, NAME_LIMIT}
use Rattle.small_types.specs.declared.target.Target.{Target}
use Rattle.small_types.specs.Outcome.{◌>>=◌}
use Rattle.identity.specs.declared.key.Key.{Key}
use Rattle.identity.specs.declared.version.Version.{Version}
use Rattle.store_state.specs.declared.change.Change.{Change}
use Rattle.store_state.specs.declared.change.Change.TheVariants.{Boot, Require, Install, Heard, Unheard, Skip, Rollback, Launch, Finish, Group, Put, Remove, Clean}
use Rattle.store_state.specs.declared.view.Content.{Content}
use Rattle.store_state.specs.declared.view.LocalFile.{LocalFile}
use Rattle.store_state.specs.declared.view.View.{View}
use Rattle.record_codec.specs.declared.numbers.TheConstants.{BOOT_KIND, CLEAN_KIND, FINISH_KIND, GROUP_KIND, HEARD_KIND, INSTALL_KIND, LAUNCH_KIND, PUT_KIND, REMOVE_KIND, REQUIRE_KIND, ROLLBACK_KIND, SKIP_KIND, UNHEARD_KIND}
use Rattle.record_fields.specs.declared.fault.CodecFault.{CodecFault}
use Rattle.record_fields.specs.declared.fault.CodecFault.TheVariants.{Bad}
use Rattle.record_codec.specs.Codec.{change_text, group_text, heard_text, install_text, put_text, remove_text, IsChange}
use Rattle.record_fields.specs.Fields.{key_field, text_field, version_field}
use Rattle.record_fields.specs.Places.{Stands}
use Rattle.record_fields.specs.Readers.{Gives, number_at, text_at, key_at, version_at}
use Rattle.record_fields.specs.Parts.{Reader, list_at, name_at, option_at, target_at}
use Rattle.record_codec.specs.Records.{content_at, local_at, view_at}
use Rattle.record_codec.specs.Changes.{boot_at, require_at, install_at, heard_at, unheard_at, skip_at, rollback_at, launch_at, finish_at, group_at, put_at, remove_at, clean_at, change_at, change_of}
use Rattle.record_fields.specs.Spelled.{list_field, option_field, target_field}
use Rattle.record_codec.specs.Spelled.{content_field, local_field, view_field}
use Rattle.record_codec.specs.Values.{IsEncodableGroup, IsEncodableCheck, IsEncodableInstall}
use Rattle.record_fields.specs.Reads.{IsBytes}
use Rattle.record_fields.proofs.Fields.{bind_ok, ok_is, passed_test, Stands-then, Stands-first, Stands-second, wide32, wide64, number_takes, number_again, text_takes, text_again}
use Rattle.record_fields.proofs.Bytes.{name_reads}
use Rattle.record_fields.proofs.Keys.{Stands-four, four_stand, key_takes, key_again, version_takes, version_again}
use Rattle.record_fields.proofs.Lists.{list_reads, option_reads}
use Rattle.record_codec.proofs.Records.{content_reads, local_reads, view_reads}
use Rattle.record_fields.proofs.Structs.{number64_reads, target_reads, version_reads}

-- ---- changes

-- the change is spelled at the front, and is within its limits
abbrev Takes : List ℕ → Change × ℕ → Type 0
Takes bytes x = Stands bytes 0 (change_text x.0) x.1 × IsChange x.0

kind_stands : (kind : ℕ) (rest : List ℕ) → Stands (kind ∷ rest) 0 (kind ∷ []) 1
kind_stands kind rest = record { behind = refl; within = omega arith; parts = refl }

boot_takes : (rest : List ℕ) (x : Change × ℕ) → IsBytes (BOOT_KIND ∷ rest) → boot_at (BOOT_KIND ∷ rest) 1 ≡ Ok x → Stands (BOOT_KIND ∷ rest) 0 (change_text x.0) x.1 × IsChange x.0
unfolding boot_at change_text
boot_takes rest x fits e =
    let boot = bind_ok (number_at w64 (BOOT_KIND ∷ rest) 1) (λ boot. Ok (Boot boot.0, boot.1)) x e in
    let t = number_takes w64 (2 ^ 64) wide64 (BOOT_KIND ∷ rest) 1 boot.0 fits (omega arith) boot.1 in
    let made : Change × ℕ = (Boot boot.0.0, boot.0.1) in
    subst (λ (y : Change × ℕ). Stands (BOOT_KIND ∷ rest) 0 (change_text y.0) y.1 × IsChange y.0) (ok_is made x boot.2)
    (Stands-then (BOOT_KIND ∷ rest) (BOOT_KIND ∷ []) (to_be_bytes w64 boot.0.0) 0 1 boot.0.1 (kind_stands BOOT_KIND rest) t.0, t.1)

require_takes : (rest : List ℕ) (x : Change × ℕ) → IsBytes (REQUIRE_KIND ∷ rest) → require_at (REQUIRE_KIND ∷ rest) 1 ≡ Ok x → Stands (REQUIRE_KIND ∷ rest) 0 (change_text x.0) x.1 × IsChange x.0
unfolding require_at change_text
require_takes rest x fits e =
    let key = bind_ok (key_at (REQUIRE_KIND ∷ rest) 1) (λ key. version_at (REQUIRE_KIND ∷ rest) key.1 >>= λ version. Ok (Require key.0 version.0, version.1)) x e in
    let version = bind_ok (version_at (REQUIRE_KIND ∷ rest) key.0.1) (λ version. Ok (Require key.0.0 version.0, version.1)) x key.2 in
    let tk = key_takes (REQUIRE_KIND ∷ rest) 1 key.0 fits (omega arith) key.1 in
    let tv = version_takes (REQUIRE_KIND ∷ rest) key.0.1 version.0 fits tk.0.within version.1 in
    let made : Change × ℕ = (Require key.0.0 version.0.0, version.0.1) in
    let fields = Stands-then (REQUIRE_KIND ∷ rest) (key_field key.0.0) (version_field version.0.0) 1 key.0.1 version.0.1 tk.0 tv.0 in
    subst (λ (y : Change × ℕ). Stands (REQUIRE_KIND ∷ rest) 0 (change_text y.0) y.1 × IsChange y.0) (ok_is made x version.2)
    (Stands-then (REQUIRE_KIND ∷ rest) (REQUIRE_KIND ∷ []) (key_field key.0.0 ++ version_field version.0.0) 0 1 version.0.1 (kind_stands REQUIRE_KIND rest) fields, (tk.1, tv.1))

install_takes : (rest : List ℕ) (x : Change × ℕ) → IsBytes (INSTALL_KIND ∷ rest) → install_at (INSTALL_KIND ∷ rest) 1 ≡ Ok x → Stands (INSTALL_KIND ∷ rest) 0 (change_text x.0) x.1 × IsChange x.0
unfolding install_at change_text install_text
install_takes rest x fits e =
    let bytes : List ℕ = INSTALL_KIND ∷ rest in
    let a = bind_ok (view_at FILE_COUNT_LIMIT bytes 1) (λ view. list_at FILE_COUNT_LIMIT content_at bytes view.1 >>= λ contents. target_at bytes contents.1 >>= λ provider. number_at w64 bytes provider.1 >>= λ now. Ok (Install view.0 contents.0 provider.0 now.0, now.1)) x e in
    let b = bind_ok (list_at FILE_COUNT_LIMIT content_at bytes a.0.1) (λ contents. target_at bytes contents.1 >>= λ provider. number_at w64 bytes provider.1 >>= λ now. Ok (Install a.0.0 contents.0 provider.0 now.0, now.1)) x a.2 in
    let c = bind_ok (target_at bytes b.0.1) (λ provider. number_at w64 bytes provider.1 >>= λ now. Ok (Install a.0.0 b.0.0 provider.0 now.0, now.1)) x b.2 in
    let d = bind_ok (number_at w64 bytes c.0.1) (λ now. Ok (Install a.0.0 b.0.0 c.0.0 now.0, now.1)) x c.2 in
    let ta = (view_reads FILE_COUNT_LIMIT (omega arith)).takes bytes 1 a.0 fits (omega arith) a.1 in
    let tb = (list_reads content_reads FILE_COUNT_LIMIT (omega arith)).takes bytes a.0.1 b.0 fits ta.0.within b.1 in
    let tc = target_reads.takes bytes b.0.1 c.0 fits tb.0.within c.1 in
    let td = number64_reads.takes bytes c.0.1 d.0 fits tc.0.within d.1 in
    let made : Change × ℕ = (Install a.0.0 b.0.0 c.0.0 d.0.0, d.0.1) in
    let fields = Stands-four bytes (view_field a.0.0) (list_field content_field b.0.0) (target_field c.0.0) (to_be_bytes w64 d.0.0) 1 a.0.1 b.0.1 c.0.1 d.0.1 ta.0 tb.0 tc.0 td.0 in
    let within : IsEncodableInstall a.0.0 b.0.0 c.0.0 d.0.0 = record { view = ta.1; few = tb.1.0; contents = tb.1.1; provider = tc.1; now = td.1 } in
    subst (λ (y : Change × ℕ). Stands bytes 0 (change_text y.0) y.1 × IsChange y.0) (ok_is made x d.2)
    (Stands-then bytes (INSTALL_KIND ∷ []) (view_field a.0.0 ++ (list_field content_field b.0.0 ++ (target_field c.0.0 ++ to_be_bytes w64 d.0.0))) 0 1 d.0.1 (kind_stands INSTALL_KIND rest) fields, within)

install_again : (rest : List ℕ) (view : View) (contents : List Content) (provider : Target) (now next : ℕ) → IsEncodableInstall view contents provider now → Stands (INSTALL_KIND ∷ rest) 1 (view_field view ++ (list_field content_field contents ++ (target_field provider ++ to_be_bytes w64 now))) next → install_at (INSTALL_KIND ∷ rest) 1 ≡ Ok (Install view contents provider now, next)
unfolding install_at
install_again rest view contents provider now next is stands =
    let bytes : List ℕ = INSTALL_KIND ∷ rest in
    let four = four_stand bytes (view_field view) (list_field content_field contents) (target_field provider) (to_be_bytes w64 now) 1 next stands in
    rw ((view_reads FILE_COUNT_LIMIT (omega arith)).again bytes 1 view _ is.view four.first, (list_reads content_reads FILE_COUNT_LIMIT (omega arith)).again bytes _ contents _ (is.few, is.contents) four.second, target_reads.again bytes _ provider _ is.provider four.third, number64_reads.again bytes _ now next is.now four.fourth) refl

heard_takes : (rest : List ℕ) (x : Change × ℕ) → IsBytes (HEARD_KIND ∷ rest) → heard_at (HEARD_KIND ∷ rest) 1 ≡ Ok x
    → Takes (HEARD_KIND ∷ rest) x
unfolding heard_at change_text heard_text
heard_takes rest x fits e =
    let bytes : List ℕ = HEARD_KIND ∷ rest in
    let a = bind_ok (key_at bytes 1) (λ key. version_at bytes key.1 >>= λ version. option_at version_at bytes version.1 >>= λ minimum. number_at w64 bytes minimum.1 >>= λ now. Ok (Heard key.0 version.0 minimum.0 now.0, now.1)) x e in
    let b = bind_ok (version_at bytes a.0.1) (λ version. option_at version_at bytes version.1 >>= λ minimum. number_at w64 bytes minimum.1 >>= λ now. Ok (Heard a.0.0 version.0 minimum.0 now.0, now.1)) x a.2 in
    let c = bind_ok (option_at version_at bytes b.0.1) (λ minimum. number_at w64 bytes minimum.1 >>= λ now. Ok (Heard a.0.0 b.0.0 minimum.0 now.0, now.1)) x b.2 in
    let d = bind_ok (number_at w64 bytes c.0.1) (λ now. Ok (Heard a.0.0 b.0.0 c.0.0 now.0, now.1)) x c.2 in
    let ta = key_takes bytes 1 a.0 fits (omega arith) a.1 in
    let tb = version_takes bytes a.0.1 b.0 fits ta.0.within b.1 in
    let tc = (option_reads version_reads).takes bytes b.0.1 c.0 fits tb.0.within c.1 in
    let td = number64_reads.takes bytes c.0.1 d.0 fits tc.0.within d.1 in
    let made : Change × ℕ = (Heard a.0.0 b.0.0 c.0.0 d.0.0, d.0.1) in
    let key = key_field a.0.0 in
    let version = version_field b.0.0 in
    let minimum = option_field version_field c.0.0 in
    let now = to_be_bytes w64 d.0.0 in
    let fields = Stands-four bytes key version minimum now 1 a.0.1 b.0.1 c.0.1 d.0.1 ta.0 tb.0 tc.0 td.0 in
    let within : IsEncodableCheck a.0.0 b.0.0 c.0.0 d.0.0 =
    record { key = ta.1; version = tb.1; minimum = tc.1; now = td.1 } in
    let stands = Stands-then bytes (HEARD_KIND ∷ []) (key ++ (version ++ (minimum ++ now))) 0 1 d.0.1 (kind_stands HEARD_KIND rest) fields in
    subst (λ (y : Change × ℕ). Takes bytes y) (ok_is made x d.2) (stands, within)

heard_again : (rest : List ℕ) (key : Key) (version : Version) (minimum : Option Version) (now next : ℕ)
    → IsEncodableCheck key version minimum now
    → Stands (HEARD_KIND ∷ rest) 1 (key_field key ++ (version_field version ++ (option_field version_field minimum ++ to_be_bytes w64 now))) next
    → heard_at (HEARD_KIND ∷ rest) 1 ≡ Ok (Heard key version minimum now, next)
unfolding heard_at
heard_again rest key version minimum now next is stands =
    let bytes : List ℕ = HEARD_KIND ∷ rest in
    let four = four_stand bytes (key_field key) (version_field version) (option_field version_field minimum) (to_be_bytes w64 now) 1 next stands in
    rw (key_again bytes 1 key _ is.key four.first, version_again bytes _ version _ is.version four.second, (option_reads version_reads).again bytes _ minimum _ is.minimum four.third, number64_reads.again bytes _ now next is.now four.fourth) refl

unheard_takes : (rest : List ℕ) (x : Change × ℕ) → IsBytes (UNHEARD_KIND ∷ rest) → unheard_at (UNHEARD_KIND ∷ rest) 1 ≡ Ok x
    → Takes (UNHEARD_KIND ∷ rest) x
unfolding unheard_at change_text
unheard_takes rest x fits e =
    let key = bind_ok (key_at (UNHEARD_KIND ∷ rest) 1) (λ key. Ok (Unheard key.0, key.1)) x e in
    let t = key_takes (UNHEARD_KIND ∷ rest) 1 key.0 fits (omega arith) key.1 in
    let made : Change × ℕ = (Unheard key.0.0, key.0.1) in
    let field = key_field key.0.0 in
    let stands = Stands-then (UNHEARD_KIND ∷ rest) (UNHEARD_KIND ∷ []) field 0 1 key.0.1 (kind_stands UNHEARD_KIND rest) t.0 in
    subst (λ (y : Change × ℕ). Takes (UNHEARD_KIND ∷ rest) y) (ok_is made x key.2) (stands, t.1)

skip_takes : (rest : List ℕ) (x : Change × ℕ) → IsBytes (SKIP_KIND ∷ rest) → skip_at (SKIP_KIND ∷ rest) 1 ≡ Ok x
    → Takes (SKIP_KIND ∷ rest) x
unfolding skip_at change_text
skip_takes rest x fits e =
    let app = bind_ok (number_at w32 (SKIP_KIND ∷ rest) 1) (λ app. Ok (Skip app.0, app.1)) x e in
    let t = number_takes w32 (2 ^ 32) wide32 (SKIP_KIND ∷ rest) 1 app.0 fits (omega arith) app.1 in
    let made : Change × ℕ = (Skip app.0.0, app.0.1) in
    let field = to_be_bytes w32 app.0.0 in
    let stands = Stands-then (SKIP_KIND ∷ rest) (SKIP_KIND ∷ []) field 0 1 app.0.1 (kind_stands SKIP_KIND rest) t.0 in
    subst (λ (y : Change × ℕ). Takes (SKIP_KIND ∷ rest) y) (ok_is made x app.2) (stands, t.1)

rollback_takes : (rest : List ℕ) (x : Change × ℕ) → IsBytes (ROLLBACK_KIND ∷ rest) → rollback_at (ROLLBACK_KIND ∷ rest) 1 ≡ Ok x
    → Takes (ROLLBACK_KIND ∷ rest) x
unfolding rollback_at change_text
rollback_takes rest x fits e =
    let app = bind_ok (number_at w32 (ROLLBACK_KIND ∷ rest) 1) (λ app. Ok (Rollback app.0, app.1)) x e in
    let t = number_takes w32 (2 ^ 32) wide32 (ROLLBACK_KIND ∷ rest) 1 app.0 fits (omega arith) app.1 in
    let made : Change × ℕ = (Rollback app.0.0, app.0.1) in
    let field = to_be_bytes w32 app.0.0 in
    let stands = Stands-then (ROLLBACK_KIND ∷ rest) (ROLLBACK_KIND ∷ []) field 0 1 app.0.1 (kind_stands ROLLBACK_KIND rest) t.0 in
    subst (λ (y : Change × ℕ). Takes (ROLLBACK_KIND ∷ rest) y) (ok_is made x app.2) (stands, t.1)

launch_takes : (rest : List ℕ) (x : Change × ℕ) → IsBytes (LAUNCH_KIND ∷ rest) → launch_at (LAUNCH_KIND ∷ rest) 1 ≡ Ok x
    → Takes (LAUNCH_KIND ∷ rest) x
unfolding launch_at change_text
launch_takes rest x fits e =
    let app = bind_ok (number_at w32 (LAUNCH_KIND ∷ rest) 1) (λ app. Ok (Launch app.0, app.1)) x e in
    let t = number_takes w32 (2 ^ 32) wide32 (LAUNCH_KIND ∷ rest) 1 app.0 fits (omega arith) app.1 in
    let made : Change × ℕ = (Launch app.0.0, app.0.1) in
    let field = to_be_bytes w32 app.0.0 in
    let stands = Stands-then (LAUNCH_KIND ∷ rest) (LAUNCH_KIND ∷ []) field 0 1 app.0.1 (kind_stands LAUNCH_KIND rest) t.0 in
    subst (λ (y : Change × ℕ). Takes (LAUNCH_KIND ∷ rest) y) (ok_is made x app.2) (stands, t.1)

finish_takes : (rest : List ℕ) (x : Change × ℕ) → IsBytes (FINISH_KIND ∷ rest) → finish_at (FINISH_KIND ∷ rest) 1 ≡ Ok x
    → Takes (FINISH_KIND ∷ rest) x
unfolding finish_at change_text
finish_takes rest x fits e =
    let lease = bind_ok (number_at w64 (FINISH_KIND ∷ rest) 1) (λ lease. Ok (Finish lease.0, lease.1)) x e in
    let t = number_takes w64 (2 ^ 64) wide64 (FINISH_KIND ∷ rest) 1 lease.0 fits (omega arith) lease.1 in
    let made : Change × ℕ = (Finish lease.0.0, lease.0.1) in
    let field = to_be_bytes w64 lease.0.0 in
    let stands = Stands-then (FINISH_KIND ∷ rest) (FINISH_KIND ∷ []) field 0 1 lease.0.1 (kind_stands FINISH_KIND rest) t.0 in
    subst (λ (y : Change × ℕ). Takes (FINISH_KIND ∷ rest) y) (ok_is made x lease.2) (stands, t.1)

group_takes : (rest : List ℕ) (x : Change × ℕ) → IsBytes (GROUP_KIND ∷ rest) → group_at (GROUP_KIND ∷ rest) 1 ≡ Ok x
    → Takes (GROUP_KIND ∷ rest) x
unfolding group_at change_text group_text
group_takes rest x fits e =
    let bytes : List ℕ = GROUP_KIND ∷ rest in
    let a = bind_ok (number_at w64 bytes 1) (λ view. text_at NAME_LIMIT bytes view.1 >>= λ group. list_at FILE_COUNT_LIMIT content_at bytes group.1 >>= λ contents. Ok (Group view.0 group.0 contents.0, contents.1)) x e in
    let b = bind_ok (text_at NAME_LIMIT bytes a.0.1) (λ group. list_at FILE_COUNT_LIMIT content_at bytes group.1 >>= λ contents. Ok (Group a.0.0 group.0 contents.0, contents.1)) x a.2 in
    let c = bind_ok (list_at FILE_COUNT_LIMIT content_at bytes b.0.1) (λ contents. Ok (Group a.0.0 b.0.0 contents.0, contents.1)) x b.2 in
    let ta = number64_reads.takes bytes 1 a.0 fits (omega arith) a.1 in
    let tb = text_takes NAME_LIMIT bytes a.0.1 b.0 fits ta.0.within b.1 in
    let tc = (list_reads content_reads FILE_COUNT_LIMIT (omega arith)).takes bytes b.0.1 c.0 fits tb.0.within c.1 in
    let made : Change × ℕ = (Group a.0.0 b.0.0 c.0.0, c.0.1) in
    let view = to_be_bytes w64 a.0.0 in
    let group = text_field b.0.0 in
    let contents = list_field content_field c.0.0 in
    let last = Stands-then bytes group contents a.0.1 b.0.1 c.0.1 tb.0 tc.0 in
    let fields = Stands-then bytes view (group ++ contents) 1 a.0.1 c.0.1 ta.0 last in
    let within : IsEncodableGroup a.0.0 b.0.0 c.0.0 =
    record { view = ta.1; group = tb.1; few = tc.1.0; contents = tc.1.1 } in
    let stands = Stands-then bytes (GROUP_KIND ∷ []) (view ++ (group ++ contents)) 0 1 c.0.1 (kind_stands GROUP_KIND rest) fields in
    subst (λ (y : Change × ℕ). Takes bytes y) (ok_is made x c.2) (stands, within)

group_again : (rest : List ℕ) (view : ℕ) (group : List ℕ) (contents : List Content) (next : ℕ)
    → IsEncodableGroup view group contents
    → Stands (GROUP_KIND ∷ rest) 1 (to_be_bytes w64 view ++ (text_field group ++ list_field content_field contents)) next
    → group_at (GROUP_KIND ∷ rest) 1 ≡ Ok (Group view group contents, next)
unfolding group_at
group_again rest view group contents next is stands =
    let bytes : List ℕ = GROUP_KIND ∷ rest in
    let v = to_be_bytes w64 view in
    let g = text_field group in
    let c = list_field content_field contents in
    let first = Stands-first bytes v (g ++ c) 1 next stands in
    let behind = Stands-second bytes v (g ++ c) 1 next stands in
    let second = Stands-first bytes g c (1 + length v) next behind in
    let third = Stands-second bytes g c (1 + length v) next behind in
    rw (number64_reads.again bytes 1 view _ is.view first, text_again NAME_LIMIT bytes _ group _ (omega arith) is.group second, (list_reads content_reads FILE_COUNT_LIMIT (omega arith)).again bytes _ contents next (is.few, is.contents) third) refl

put_takes : (rest : List ℕ) (x : Change × ℕ) → IsBytes (PUT_KIND ∷ rest) → put_at (PUT_KIND ∷ rest) 1 ≡ Ok x
    → Takes (PUT_KIND ∷ rest) x
unfolding put_at change_text put_text
put_takes rest x fits e =
    let bytes : List ℕ = PUT_KIND ∷ rest in
    let a = bind_ok (number_at w64 bytes 1) (λ view. local_at bytes view.1 >>= λ file. Ok (Put view.0 file.0, file.1)) x e in
    let b = bind_ok (local_at bytes a.0.1) (λ file. Ok (Put a.0.0 file.0, file.1)) x a.2 in
    let ta = number64_reads.takes bytes 1 a.0 fits (omega arith) a.1 in
    let tb = local_reads.takes bytes a.0.1 b.0 fits ta.0.within b.1 in
    let made : Change × ℕ = (Put a.0.0 b.0.0, b.0.1) in
    let view = to_be_bytes w64 a.0.0 in
    let file = local_field b.0.0 in
    let fields = Stands-then bytes view file 1 a.0.1 b.0.1 ta.0 tb.0 in
    let stands = Stands-then bytes (PUT_KIND ∷ []) (view ++ file) 0 1 b.0.1 (kind_stands PUT_KIND rest) fields in
    subst (λ (y : Change × ℕ). Takes bytes y) (ok_is made x b.2) (stands, (ta.1, tb.1))

put_again : (rest : List ℕ) (view : ℕ) (file : LocalFile) (next : ℕ)
    → IsChange (Put view file)
    → Stands (PUT_KIND ∷ rest) 1 (to_be_bytes w64 view ++ local_field file) next
    → put_at (PUT_KIND ∷ rest) 1 ≡ Ok (Put view file, next)
unfolding put_at
put_again rest view file next is stands =
    let bytes : List ℕ = PUT_KIND ∷ rest in
    let v = to_be_bytes w64 view in
    let f = local_field file in
    let first = Stands-first bytes v f 1 next stands in
    let second = Stands-second bytes v f 1 next stands in
    rw (number64_reads.again bytes 1 view _ is.0 first, local_reads.again bytes _ file next is.1 second) refl

remove_takes : (rest : List ℕ) (x : Change × ℕ) → IsBytes (REMOVE_KIND ∷ rest) → remove_at (REMOVE_KIND ∷ rest) 1 ≡ Ok x
    → Takes (REMOVE_KIND ∷ rest) x
unfolding remove_at change_text remove_text
remove_takes rest x fits e =
    let bytes : List ℕ = REMOVE_KIND ∷ rest in
    let a = bind_ok (number_at w64 bytes 1) (λ view. name_at bytes view.1 >>= λ name. Ok (Remove view.0 name.0, name.1)) x e in
    let b = bind_ok (name_at bytes a.0.1) (λ name. Ok (Remove a.0.0 name.0, name.1)) x a.2 in
    let ta = number64_reads.takes bytes 1 a.0 fits (omega arith) a.1 in
    let tb = name_reads.takes bytes a.0.1 b.0 fits ta.0.within b.1 in
    let made : Change × ℕ = (Remove a.0.0 b.0.0, b.0.1) in
    let view = to_be_bytes w64 a.0.0 in
    let name = text_field b.0.0 in
    let fields = Stands-then bytes view name 1 a.0.1 b.0.1 ta.0 tb.0 in
    let stands = Stands-then bytes (REMOVE_KIND ∷ []) (view ++ name) 0 1 b.0.1 (kind_stands REMOVE_KIND rest) fields in
    subst (λ (y : Change × ℕ). Takes bytes y) (ok_is made x b.2) (stands, (ta.1, tb.1))

remove_again : (rest : List ℕ) (view : ℕ) (name : List ℕ) (next : ℕ)
    → IsChange (Remove view name)
    → Stands (REMOVE_KIND ∷ rest) 1 (to_be_bytes w64 view ++ text_field name) next
    → remove_at (REMOVE_KIND ∷ rest) 1 ≡ Ok (Remove view name, next)
unfolding remove_at
remove_again rest view name next is stands =
    let bytes : List ℕ = REMOVE_KIND ∷ rest in
    let v = to_be_bytes w64 view in
    let t = text_field name in
    let first = Stands-first bytes v t 1 next stands in
    let second = Stands-second bytes v t 1 next stands in
    rw (number64_reads.again bytes 1 view _ is.0 first, name_reads.again bytes _ name next is.1 second) refl

clean_takes : (rest : List ℕ) (x : Change × ℕ) → IsBytes (CLEAN_KIND ∷ rest) → clean_at (CLEAN_KIND ∷ rest) 1 ≡ Ok x
    → Takes (CLEAN_KIND ∷ rest) x
unfolding change_text
clean_takes rest x fits e =
    let made : Change × ℕ = (Clean, 1) in
    subst (λ (y : Change × ℕ). Takes (CLEAN_KIND ∷ rest) y) (ok_is made x e) (kind_stands CLEAN_KIND rest, tt)

-- what is read of a kind, and what of any other
by_kind : (n kind : ℕ) (rest : List ℕ) (f : Reader Change) (others : Result (Change × ℕ) CodecFault)
    (x : Change × ℕ) → (IsBytes (n ∷ rest) → f (n ∷ rest) 1 ≡ Ok x → Takes (n ∷ rest) x)
    → (IsBytes (kind ∷ rest) → others ≡ Ok x → Takes (kind ∷ rest) x)
    → IsBytes (kind ∷ rest) → cond (eqb kind n) (f (kind ∷ rest) 1) others ≡ Ok x → Takes (kind ∷ rest) x
by_kind n kind rest f others x this other fits e =
    elim (cases_Bool (eqb kind n)) [
      | inl same ↦
          let is : n ≡ kind = sym (eqb-true kind n same) in
          let read : f (kind ∷ rest) 1 ≡ Ok x = rw same at e in
          subst (λ (k : ℕ). IsBytes (k ∷ rest) → f (k ∷ rest) 1 ≡ Ok x → Takes (k ∷ rest) x) is this fits read
      | inr differs ↦ other fits (rw differs at e)
    ]

change_takes : (bytes : List ℕ) (x : Change × ℕ) → IsBytes bytes → change_at bytes ≡ Ok x
    → Takes bytes x
unfolding change_at
change_takes [] x fits e = absurd cc
change_takes (kind ∷ rest) x fits e =
    by_kind BOOT_KIND kind rest boot_at _ x (boot_takes rest x)
    (by_kind REQUIRE_KIND kind rest require_at _ x (require_takes rest x)
    (by_kind INSTALL_KIND kind rest install_at _ x (install_takes rest x)
    (by_kind HEARD_KIND kind rest heard_at _ x (heard_takes rest x)
    (by_kind UNHEARD_KIND kind rest unheard_at _ x (unheard_takes rest x)
    (by_kind SKIP_KIND kind rest skip_at _ x (skip_takes rest x)
    (by_kind ROLLBACK_KIND kind rest rollback_at _ x (rollback_takes rest x)
    (by_kind LAUNCH_KIND kind rest launch_at _ x (launch_takes rest x)
    (by_kind FINISH_KIND kind rest finish_at _ x (finish_takes rest x)
    (by_kind GROUP_KIND kind rest group_at _ x (group_takes rest x)
    (by_kind PUT_KIND kind rest put_at _ x (put_takes rest x)
    (by_kind REMOVE_KIND kind rest remove_at _ x (remove_takes rest x)
    (by_kind CLEAN_KIND kind rest clean_at _ x (clean_takes rest x) (λ bytes none. absurd cc)))))))))))))
    fits e

change_again : (bytes : List ℕ) (c : Change) (next : ℕ) → IsChange c → Stands bytes 0 (change_text c) next → change_at bytes ≡ Ok (c, next)
unfolding change_at boot_at require_at unheard_at skip_at rollback_at launch_at finish_at change_text install_text heard_text group_text put_text remove_text
change_again [] (Boot boot) next fits stands = absurd (let e = stands.parts in cc)
change_again [] (Require key version) next fits stands = absurd (let e = stands.parts in cc)
change_again [] (Install view contents provider now) next fits stands = absurd (let e = stands.parts in cc)
change_again [] (Heard key version minimum now) next fits stands = absurd (let e = stands.parts in cc)
change_again [] (Unheard key) next fits stands = absurd (let e = stands.parts in cc)
change_again [] (Skip app) next fits stands = absurd (let e = stands.parts in cc)
change_again [] (Rollback app) next fits stands = absurd (let e = stands.parts in cc)
change_again [] (Launch app) next fits stands = absurd (let e = stands.parts in cc)
change_again [] (Finish lease) next fits stands = absurd (let e = stands.parts in cc)
change_again [] (Group view group contents) next fits stands = absurd (let e = stands.parts in cc)
change_again [] (Put view file) next fits stands = absurd (let e = stands.parts in cc)
change_again [] (Remove view name) next fits stands = absurd (let e = stands.parts in cc)
change_again [] Clean next fits stands = absurd (let e = stands.parts in cc)
change_again (kind ∷ rest) (Boot boot) next fits stands =
    let is : kind ≡ BOOT_KIND = (let e = stands.parts in cc) in
    let field = subst (λ (k : ℕ). Stands (k ∷ rest) 1 (to_be_bytes w64 boot) next) is (Stands-second (kind ∷ rest) (BOOT_KIND ∷ []) (to_be_bytes w64 boot) 0 next stands) in
    rw (is, number_again w64 (2 ^ 64) wide64 (BOOT_KIND ∷ rest) 1 boot next fits field) refl
change_again (kind ∷ rest) (Require key version) next fits stands =
    let is : kind ≡ REQUIRE_KIND = (let e = stands.parts in cc) in
    let fields = subst (λ (k : ℕ). Stands (k ∷ rest) 1 (key_field key ++ version_field version) next) is (Stands-second (kind ∷ rest) (REQUIRE_KIND ∷ []) (key_field key ++ version_field version) 0 next stands) in
    let first = Stands-first (REQUIRE_KIND ∷ rest) (key_field key) (version_field version) 1 next fields in
    let second = Stands-second (REQUIRE_KIND ∷ rest) (key_field key) (version_field version) 1 next fields in
    rw (is, key_again (REQUIRE_KIND ∷ rest) 1 key (1 + length (key_field key)) fits.0 first, version_again (REQUIRE_KIND ∷ rest) (1 + length (key_field key)) version next fits.1 second) refl
change_again (kind ∷ rest) (Install view contents provider now) next fits stands =
    let fields = view_field view ++ (list_field content_field contents ++ (target_field provider ++ to_be_bytes w64 now)) in
    let is : kind ≡ INSTALL_KIND = (let e = stands.parts in cc) in
    let behind = subst (λ (k : ℕ). Stands (k ∷ rest) 1 fields next) is (Stands-second (kind ∷ rest) (INSTALL_KIND ∷ []) fields 0 next stands) in
    rw is (install_again rest view contents provider now next fits behind)
change_again (kind ∷ rest) (Heard key version minimum now) next fits stands =
    let fields = key_field key ++ (version_field version ++ (option_field version_field minimum ++ to_be_bytes w64 now)) in
    let is : kind ≡ HEARD_KIND = (let e = stands.parts in cc) in
    let behind = subst (λ (k : ℕ). Stands (k ∷ rest) 1 fields next) is (Stands-second (kind ∷ rest) (HEARD_KIND ∷ []) fields 0 next stands) in
    rw is (heard_again rest key version minimum now next fits behind)
change_again (kind ∷ rest) (Unheard key) next fits stands =
    let is : kind ≡ UNHEARD_KIND = (let e = stands.parts in cc) in
    let second = Stands-second (kind ∷ rest) (UNHEARD_KIND ∷ []) (key_field key) 0 next stands in
    let field = subst (λ (k : ℕ). Stands (k ∷ rest) 1 (key_field key) next) is second in
    rw (is, key_again (UNHEARD_KIND ∷ rest) 1 key next fits field) refl
change_again (kind ∷ rest) (Skip app) next fits stands =
    let is : kind ≡ SKIP_KIND = (let e = stands.parts in cc) in
    let second = Stands-second (kind ∷ rest) (SKIP_KIND ∷ []) (to_be_bytes w32 app) 0 next stands in
    let field = subst (λ (k : ℕ). Stands (k ∷ rest) 1 (to_be_bytes w32 app) next) is second in
    rw (is, number_again w32 (2 ^ 32) wide32 (SKIP_KIND ∷ rest) 1 app next fits field) refl
change_again (kind ∷ rest) (Rollback app) next fits stands =
    let is : kind ≡ ROLLBACK_KIND = (let e = stands.parts in cc) in
    let second = Stands-second (kind ∷ rest) (ROLLBACK_KIND ∷ []) (to_be_bytes w32 app) 0 next stands in
    let field = subst (λ (k : ℕ). Stands (k ∷ rest) 1 (to_be_bytes w32 app) next) is second in
    rw (is, number_again w32 (2 ^ 32) wide32 (ROLLBACK_KIND ∷ rest) 1 app next fits field) refl
change_again (kind ∷ rest) (Launch app) next fits stands =
    let is : kind ≡ LAUNCH_KIND = (let e = stands.parts in cc) in
    let second = Stands-second (kind ∷ rest) (LAUNCH_KIND ∷ []) (to_be_bytes w32 app) 0 next stands in
    let field = subst (λ (k : ℕ). Stands (k ∷ rest) 1 (to_be_bytes w32 app) next) is second in
    rw (is, number_again w32 (2 ^ 32) wide32 (LAUNCH_KIND ∷ rest) 1 app next fits field) refl
change_again (kind ∷ rest) (Finish lease) next fits stands =
    let is : kind ≡ FINISH_KIND = (let e = stands.parts in cc) in
    let second = Stands-second (kind ∷ rest) (FINISH_KIND ∷ []) (to_be_bytes w64 lease) 0 next stands in
    let field = subst (λ (k : ℕ). Stands (k ∷ rest) 1 (to_be_bytes w64 lease) next) is second in
    rw (is, number_again w64 (2 ^ 64) wide64 (FINISH_KIND ∷ rest) 1 lease next fits field) refl
change_again (kind ∷ rest) (Group view group contents) next fits stands =
    let fields = to_be_bytes w64 view ++ (text_field group ++ list_field content_field contents) in
    let is : kind ≡ GROUP_KIND = (let e = stands.parts in cc) in
    let behind = subst (λ (k : ℕ). Stands (k ∷ rest) 1 fields next) is (Stands-second (kind ∷ rest) (GROUP_KIND ∷ []) fields 0 next stands) in
    rw is (group_again rest view group contents next fits behind)
change_again (kind ∷ rest) (Put view file) next fits stands =
    let fields = to_be_bytes w64 view ++ local_field file in
    let is : kind ≡ PUT_KIND = (let e = stands.parts in cc) in
    let behind = subst (λ (k : ℕ). Stands (k ∷ rest) 1 fields next) is (Stands-second (kind ∷ rest) (PUT_KIND ∷ []) fields 0 next stands) in
    rw is (put_again rest view file next fits behind)
change_again (kind ∷ rest) (Remove view name) next fits stands =
    let fields = to_be_bytes w64 view ++ text_field name in
    let is : kind ≡ REMOVE_KIND = (let e = stands.parts in cc) in
    let behind = subst (λ (k : ℕ). Stands (k ∷ rest) 1 fields next) is (Stands-second (kind ∷ rest) (REMOVE_KIND ∷ []) fields 0 next stands) in
    rw is (remove_again rest view name next fits behind)
change_again (kind ∷ rest) Clean next fits stands =
    let is : kind ≡ CLEAN_KIND = (let e = stands.parts in cc) in
    let end = stands.behind in
    rw (is, end) refl

-- ---- all of the bytes

nothing_behind : (bytes : List ℕ) → drop (length bytes) bytes ≡ []
nothing_behind [] = refl
nothing_behind (b ∷ bytes) = nothing_behind bytes

pub all_takes : (bytes : List ℕ) (c : Change) → IsBytes bytes → change_of bytes ≡ Ok c → IsChange c × (bytes ≡ change_text c)
unfolding change_of
all_takes bytes c fits e =
    let change = bind_ok (change_at bytes) (λ change. cond (eqb change.1 (length bytes)) (Ok change.0) (Err (Bad change.1))) c e in
    let g = passed_test (eqb change.0.1 (length bytes)) (Bad change.0.1) change.0.0 c change.2 in
    let t = change_takes bytes change.0 fits change.1 in
    let end : change.0.1 ≡ length bytes = eqb-true change.0.1 (length bytes) g.0 in
    let nothing : drop change.0.1 bytes ≡ [] = rw end (nothing_behind bytes) in
    let whole : bytes ≡ change_text change.0.0 = t.0.parts ∙ ap (λ (r : List ℕ). change_text change.0.0 ++ r) nothing ∙ append-nil (change_text change.0.0) in
    subst (λ (d : Change). IsChange d × (bytes ≡ change_text d)) g.1 (t.1, whole)

whole_stands : (field : List ℕ) → Stands field 0 field (length field)
whole_stands field = record { behind = omega arith; within = omega arith; parts = sym (ap (λ (r : List ℕ). field ++ r) (nothing_behind field) ∙ append-nil field) }

pub all_again : (c : Change) → IsChange c → change_of (change_text c) ≡ Ok c
unfolding change_of
all_again c fits =
    let at = change_again (change_text c) c (length (change_text c)) fits (whole_stands (change_text c)) in
    rw (at, eq-eqb (length (change_text c)) (length (change_text c)) refl) refl

-- different changes have different encodings
pub change_text_injective : (c d : Change) → IsChange c → IsChange d → change_text c ≡ change_text d → c ≡ d
change_text_injective c d first second same = ok_is c d (sym (all_again c first) ∙ ap change_of same ∙ all_again d second)

-- what is not read is the encoding of no change
pub no_encoding : (bytes : List ℕ) (place : ℕ) → change_of bytes ≡ Err (Bad place) → (c : Change) → IsChange c → bytes ≢ change_text c
no_encoding bytes place bad c fits is = absurd (let read : change_of bytes ≡ Ok c = ap change_of is ∙ all_again c fits in cc)

pub found : (bytes : List ℕ) (r : Result Change CodecFault) → IsBytes bytes → Gives r (change_of bytes) → IfOk r (λ c. IsChange c × (bytes ≡ change_text c))
found bytes (Ok c) fits given = all_takes bytes c fits given
found bytes (Err e) fits given = tt
