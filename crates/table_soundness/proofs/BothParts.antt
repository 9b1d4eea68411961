-- That tables and bytes make a store sound, each its part.
use Rattle.std.proofs.Common.{◌≡◌, ◌∙◌, ◌<◌, ℕ, Bool, true, false, inl, inr, refl, sym, ap, subst, List, [], ◌∷◌, map, All, AllPairs, Option, Some, IsSome, get_or, length, arith}
use Rattle.std.specs.Prelude.{Any, find}
use Rattle.std.proofs.lemmas.Bool.{cases_Bool, cond-false, cond-true}
use Rattle.std.proofs.lemmas.List.Elements.{All-map, Contains-get_or}
use Rattle.small_types.specs.declared.room.Room.{Room}
use Rattle.digest_list.specs.Matches.{Matches}
use Rattle.manifests.specs.declared.facts.FileEntry.{FileEntry}
use Rattle.machine.specs.Blocks.{standing_files}
use Rattle.machine.specs.Shape.{BareView}
use Rattle.machine.specs.Sound.{IsSoundView, IsWhole, ShareBytes, Sound, program_files_of}
use Rattle.machine.specs.Valid.{IsView, Valid}
use Rattle.machine.specs.Views.{ContentKey, ListedFile, content_key, same_key, standing_entries}
use Rattle.machine.specs.Views.{View as KeptView}
use Rattle.machine.proofs.ChangedLists.{flat_map_in}
use Rattle.machine.proofs.Members.{In, all_in, in_all, in_contains, in_map, map_in, pairs_head, pairs_tail}
use Rattle.machine.proofs.MovedFiles.{names_differ}
use Rattle.store_state.specs.declared.view.Content.{Content}
use Rattle.store_state.specs.declared.view.View.{View}
use Rattle.store_state.specs.Contents.{content_of, held_key, is_content_of, is_same}
use Rattle.store_state.specs.Kept.{AreTables}
use Rattle.store_state.specs.Shows.{bytes_in, shown_file, shown_store, shown_view}
use Rattle.store_state.specs.Stored.{content_bytes}
use Rattle.store_state.specs.Tables.{Tables, bare_row}
use Rattle.store_state.proofs.Keyed.{any_in, key_same, of_key}
use Rattle.table_soundness.specs.Soundness.{HasBothParts, IsGood, IsOneRelease, PartsAreSound, SoundHasParts}

-- ---- the content of a file

record IsFound (contents : List Content) (entry : FileEntry) : Type 0 where
  content : Content
  there : In content contents
  found : content_of contents entry ≡ Some content
  passes : is_content_of entry content ≡ true

find_is : {X : Type 0} (p : X → Bool) (xs : List X) → IsSome (find p xs) → (x : X) × In x xs × (find p xs ≡ Some x) × (p x ≡ true)
find_is {X} p [] some = absurd cc
find_is {X} p (y ∷ ys) some = elim (cases_Bool (p y)) [
  | inl passes ↦ (y, inl refl, cond-true _ _ _ passes, passes)
  | inr fails ↦
      let past : find p (y ∷ ys) ≡ find p ys = cond-false _ _ _ fails in
      let rest = find_is p ys (subst (λ (o : Option X). IsSome o) past some) in
      (rest.0, inr rest.1, past ∙ rest.2, rest.3)
]

found : (contents : List Content) (entry : FileEntry) → IsSome (content_of contents entry) → IsFound contents entry
found contents entry some =
    let f = find_is (is_content_of entry) contents some in
    record { content = f.0; there = f.1; found = f.2; passes = f.3 }

-- files of equal content keys have the same content
of_one_key : (contents : List Content) (a b : FileEntry) → content_key a ≡ content_key b → content_of contents a ≡ content_of contents b
of_one_key contents a b same = ap (λ (k : ContentKey). find (λ (c : Content). same_key k (held_key c)) contents) same

-- ---- both parts make it sound

whole_file : (room : Room) (image : List ℕ) (contents : List Content) → All (IsGood room image) contents → (entry : FileEntry) → IsSome (content_of contents entry)
    → IsWhole (shown_file room image contents entry)
whole_file room image contents good entry some =
    let f = found contents entry some in
    let listed : Matches f.content.list f.content.size (content_bytes room image f.content) = all_in (IsGood room image) contents f.content good f.there in
    let key = of_key entry f.content f.passes in
    let mine : Matches entry.list entry.size (content_bytes room image f.content) =
    subst (λ (k : ContentKey). Matches k.list k.size (content_bytes room image f.content)) (sym key) listed in
    subst (λ (o : Option Content). Matches entry.list entry.size (bytes_in room image o)) (sym f.found) mine

view_sound : (room : Room) (image : List ℕ) (contents : List Content) → All (IsGood room image) contents → (view : View) → IsOneRelease view
    → All (λ entry. IsSome (content_of contents entry)) (standing_entries view.groups view.application)
    → IsView (shown_view room image contents view) → IsSoundView (shown_view room image contents view)
view_sound room image contents good view release held is =
    let entries = standing_entries view.groups view.application in
    record {
      key = release.key;
      version = release.version;
      whole = All-map IsWhole (shown_file room image contents) entries
          (in_all (λ (e : FileEntry). IsWhole (shown_file room image contents e)) entries
          (λ e there. whole_file room image contents good e (all_in (λ (f : FileEntry). IsSome (content_of contents f)) entries e held there)));
      data_names = names_differ (shown_view room image contents view).data_files is.data_order;
    }

-- a program file has the bytes of its content
record IsShown (room : Room) (image : List ℕ) (contents : List Content) (file : ListedFile) : Type 0 where
  bytes : file.bytes ≡ bytes_in room image (content_of contents file.entry)

file_shown : (room : Room) (image : List ℕ) (contents : List Content) (entries : List FileEntry) (file : ListedFile) → In file (map (shown_file room image contents) entries) → IsShown room image contents file
file_shown room image contents entries file there =
    let of = map_in (shown_file room image contents) entries file there in
    subst (IsShown room image contents) of.2 (record { bytes = refl })

file_there : (room : Room) (image : List ℕ) (tables : Tables) (file : ListedFile) → In file (program_files_of (shown_store room image tables)) → IsShown room image tables.contents file
file_there room image tables file there =
    let show = shown_view room image tables.contents in
    let of = flat_map_in (λ (v : KeptView). v.program_files) (map show tables.views) file there in
    let view = map_in show tables.views of.0 of.1 in
    let mine = subst (λ (v : KeptView). In file v.program_files) (sym view.2) of.2 in
    file_shown room image tables.contents (standing_entries view.0.groups view.0.application) file mine

shared : (room : Room) (image : List ℕ) (tables : Tables) → ShareBytes (program_files_of (shown_store room image tables))
shared room image tables i j d before within same =
    let files = program_files_of (shown_store room image tables) in
    let one = get_or files i d in
    let other = get_or files j d in
    let first : i < length files = omega arith in
    let a = file_there room image tables one (in_contains files one (Contains-get_or files i d first)) in
    let b = file_there room image tables other (in_contains files other (Contains-get_or files j d within)) in
    a.bytes ∙ ap (bytes_in room image) (of_one_key tables.contents one.entry other.entry same) ∙ sym b.bytes

shown_sound : (room : Room) (image : List ℕ) (tables : Tables) → Valid (shown_store room image tables)
    → All (λ view. All (λ entry. IsSome (content_of tables.contents entry)) (standing_entries view.groups view.application)) tables.views
    → HasBothParts room image tables → Sound (shown_store room image tables)
shown_sound room image tables valid held parts =
    let show = shown_view room image tables.contents in
    record {
      valid = valid;
      views = All-map IsSoundView show tables.views
          (in_all (λ (v : View). IsSoundView (show v)) tables.views (λ v there.
          view_sound room image tables.contents parts.good v
          (all_in IsOneRelease tables.views v parts.releases there)
          (all_in (λ (w : View). All (λ entry. IsSome (content_of tables.contents entry)) (standing_entries w.groups w.application)) tables.views v held there)
          (all_in IsView (map show tables.views) (show v) valid.ordered.views (in_map show tables.views v there))));
      shared = shared room image tables;
    }

pub parts_sound : PartsAreSound
parts_sound room image tables store shows valid parts =
    subst Sound (sym shows.is) (shown_sound room image tables (subst Valid shows.is valid) shows.held parts)

-- ---- a sound store has both parts

one_release : (room : Room) (image : List ℕ) (contents : List Content) (view : View) → IsSoundView (shown_view room image contents view) → IsOneRelease view
one_release room image contents view sound = record { key = sound.key; version = sound.version }

-- contents of one key are one
one_content : (contents : List Content) (a b : Content) → AllPairs (λ (c d : Content). is_same c d ≡ false) contents → In a contents → In b contents → held_key a ≡ held_key b → a ≡ b
one_content [] a b apart in_a in_b same = absurd in_a
one_content (c ∷ contents) a b apart (inl is_a) (inl is_b) same = sym is_a ∙ is_b
one_content (c ∷ contents) a b apart (inl is_a) (inr in_b) same =
    let unlike : is_same c b ≡ false = all_in (λ (d : Content). is_same c d ≡ false) contents b (pairs_head (λ (x y : Content). is_same x y ≡ false) c contents apart) in_b in
    let like : is_same c b ≡ true = key_same c b (ap held_key is_a ∙ same) in
    absurd (let no : true ≡ false = sym like ∙ unlike in cc)
one_content (c ∷ contents) a b apart (inr in_a) (inl is_b) same =
    let unlike : is_same c a ≡ false = all_in (λ (d : Content). is_same c d ≡ false) contents a (pairs_head (λ (x y : Content). is_same x y ≡ false) c contents apart) in_a in
    let like : is_same c a ≡ true = key_same c a (ap held_key is_b ∙ sym same) in
    absurd (let no : true ≡ false = sym like ∙ unlike in cc)
one_content (c ∷ contents) a b apart (inr in_a) (inr in_b) same =
    one_content contents a b (pairs_tail (λ (x y : Content). is_same x y ≡ false) c contents apart) in_a in_b same

content_good : (room : Room) (image : List ℕ) (contents : List Content) (content : Content) (entry : FileEntry)
    → AllPairs (λ (c d : Content). is_same c d ≡ false) contents → In content contents → is_content_of entry content ≡ true → IsSome (content_of contents entry)
    → IsWhole (shown_file room image contents entry) → IsGood room image content
content_good room image contents content entry apart there passes some whole =
    let f = found contents entry some in
    let key = of_key entry content passes in
    let one : f.content ≡ content = one_content contents f.content content apart f.there there (sym (of_key entry f.content f.passes) ∙ key) in
    let is : content_of contents entry ≡ Some content = f.found ∙ ap (λ (c : Content). Some c) one in
    let mine : Matches entry.list entry.size (content_bytes room image content) = subst (λ (o : Option Content). Matches entry.list entry.size (bytes_in room image o)) is whole in
    subst (λ (k : ContentKey). Matches k.list k.size (content_bytes room image content)) key mine

shown_parts : (room : Room) (image : List ℕ) (tables : Tables) → AreTables tables → Sound (shown_store room image tables) → HasBothParts room image tables
shown_parts room image tables are sound =
    let show = shown_view room image tables.contents in
    let standing = λ (v : BareView). standing_entries v.groups v.application in
    record {
      releases = in_all IsOneRelease tables.views (λ v there.
          one_release room image tables.contents v (all_in IsSoundView (map show tables.views) (show v) sound.views (in_map show tables.views v there)));
      good = in_all (IsGood room image) tables.contents (λ content there.
          let files = standing_files (map bare_row tables.views) in
          let one = any_in (λ (e : FileEntry). is_content_of e content ≡ true) files (all_in (λ (c : Content). Any (λ (e : FileEntry). is_content_of e c ≡ true) files) tables.contents content are.contents.only there) in
          let some = all_in (λ (e : FileEntry). IsSome (content_of tables.contents e)) files one.0 are.contents.each one.1 in
          let of = flat_map_in standing (map bare_row tables.views) one.0 one.1 in
          let view = map_in bare_row tables.views of.0 of.1 in
          let entries = standing_entries view.0.groups view.0.application in
          let mine : In one.0 entries = subst (λ (v : BareView). In one.0 (standing v)) (sym view.2) of.2 in
          let whole = (all_in IsSoundView (map show tables.views) (show view.0) sound.views (in_map show tables.views view.0 view.1)).whole in
          let file = shown_file room image tables.contents in
          content_good room image tables.contents content one.0 are.contents.once there one.2 some
          (all_in IsWhole (map file entries) (file one.0) whole (in_map file entries one.0 mine)));
    }

pub sound_parts : SoundHasParts
sound_parts room image tables store shows are sound = shown_parts room image tables are (subst Sound shows.is sound)
