-- The files of the views, as tables have them and as the store that they show has them.
use Rattle.std.proofs.Common.{◌≡◌, ◌+◌, ◌<◌, ◌++◌, ◌∙◌, ℕ, false, List, [], ◌∷◌, length, take, get_or, map, Some, None, refl, sym, ap, subst}
use Rattle.std.proofs.lemmas.List.{map-append, take_more}
use Rattle.std.proofs.lemmas.List.Elements.{All-map, filter-append}
use Rattle.std.proofs.lemmas.Simd.{map-map}
use Rattle.small_types.specs.declared.room.Room.{Room}
use Rattle.folders.specs.declared.folder.Held.{Held}
use Rattle.manifests.specs.declared.facts.FileEntry.{FileEntry}
use Rattle.machine.specs.Store.{Store}
use Rattle.machine.specs.Views.{standing_entries}
use Rattle.machine.specs.Views.{View as KeptView}
use Rattle.store_state.specs.declared.view.Content.{Content}
use Rattle.store_state.specs.declared.view.View.{View}
use Rattle.store_state.specs.Contents.{content_of}
use Rattle.store_state.specs.Stored.{content_bytes}
use Rattle.store_state.specs.Shows.{Shows, bytes_in, shown_file, shown_view}
use Rattle.store_state.specs.Tables.{Tables}
use Rattle.generated_release.specs.Files.{file_below, file_bytes, file_name, files_to, generated_files}
use Rattle.generated_release.proofs.Repeats.{files_more}
use Rattle.demo.specs.Kept.{IsGenerated, IsProgramFile, KeepsGenerated, TablesKeep, held_in, held_of, standing_of}

-- ---- one file

pub generated : (room : Room) (image : List ℕ) (contents : List Content) (seed version file : ℕ)
    (entry : FileEntry) (content : Content) → IsProgramFile file entry
    → Some content ≡ content_of contents entry
    → content_bytes room image content ≡ file_bytes seed version file
    → IsGenerated (held_in room image contents) seed version file entry
generated room image contents seed version file entry content named found bytes =
    record {
      program = named.program;
      alone = named.alone;
      is =
          let there : bytes_in room image (content_of contents entry) ≡ file_bytes seed version file =
          ap (bytes_in room image) (sym found) ∙ bytes in
          let first : held_in room image contents entry
          ≡ record { name = file_name file; bytes = bytes_in room image (content_of contents entry) } =
          ap (λ (name : List ℕ). record {
            name = name;
            bytes = bytes_in room image
                (content_of contents entry);
          })
          named.named in
          let second : record {
            name = file_name file;
            bytes = bytes_in room image
                (content_of contents entry);
          }
          ≡ file_below [] seed version file =
          ap (λ (b : List ℕ). record { name = file_name file; bytes = b }) there in
          first ∙ second;
    }

-- ---- the files of a view

stands_alone : (groups : List (List ℕ)) (entry : FileEntry) → entry.local ≡ false
    → entry.group ≡ None → standing_of groups (entry ∷ []) ≡ entry ∷ []
stands_alone groups entry program alone = rw (program, alone) refl

-- one more file is the generated one
pub one_more : (room : Room) (image : List ℕ) (contents : List Content) (seed version file : ℕ)
    (files : List FileEntry)
    (entry : FileEntry) → file < length files → entry ≡ get_or files file entry
    → IsGenerated (held_in room image contents) seed version file entry
    → ((groups : List (List ℕ)) → map (held_in room image contents)
    (standing_of groups (take file files))
    ≡ files_to [] seed version file)
    → (groups : List (List ℕ)) → map (held_in room image contents)
    (standing_of groups (take (file + 1) files))
    ≡ files_to [] seed version (file + 1)
one_more room image contents seed version file files entry within at is before groups =
    let front : take (file + 1) files ≡ take file files ++ entry ∷ [] =
    take_more files file entry within ∙ ap (λ (e : FileEntry). take file files ++ e ∷ []) (sym at) in
    let apart : standing_of groups (take file files ++ entry ∷ [])
    ≡ standing_of groups (take file files) ++ standing_of groups (entry ∷ []) =
    filter-append _ (take file files) (entry ∷ []) in
    let alone = stands_alone groups entry is.program is.alone in
    let standing : standing_of groups (take (file + 1) files)
    ≡ standing_of groups (take file files) ++ entry ∷ [] =
    ap (standing_of groups) front ∙ apart
    ∙ ap (λ (es : List FileEntry). standing_of groups (take file files) ++ es) alone in
    let held : map (held_in room image contents) (standing_of groups (take (file + 1) files))
    ≡ map (held_in room image contents) (standing_of groups (take file files)) ++ held_in room image
    contents entry ∷ [] =
    ap (map (held_in room image contents)) standing
    ∙ map-append (held_in room image contents) (standing_of groups (take file files)) (entry ∷ [])
    in
    held ∙ ap (λ (hs : List Held). hs ++ held_in room image contents entry ∷ []) (before groups)
    ∙ ap (λ (h : Held). files_to [] seed version file ++ h ∷ []) is.is
    ∙ sym (files_more [] seed version file)

-- ---- the store

view_shown : (room : Room) (image : List ℕ) (seed : ℕ) (contents : List Content) (view : View)
    → map (held_in room image contents) (standing_entries view.groups view.application)
    ≡ generated_files seed view.deployment.identity.version.a
    → map held_of (shown_view room image contents view).program_files
    ≡ generated_files seed view.deployment.identity.version.a
view_shown room image seed contents view is =
    map-map held_of (shown_file room image contents) (standing_entries view.groups view.application)
    ∙ is

pub keeps_shown : (seed : ℕ) (room : Room) (tables : Tables) (image : List ℕ) (store : Store)
    → Shows room tables image store → TablesKeep room image seed tables → KeepsGenerated seed store
keeps_shown seed room tables image store shows keeps =
    subst (KeepsGenerated seed) (sym shows.is)
    (All-map (λ (view : KeptView). map held_of view.program_files
    ≡ generated_files seed view.deployment.identity.version.a)
    (shown_view room image tables.contents) tables.views
    (λ k d within. view_shown room image seed tables.contents (get_or tables.views k d)
    (keeps k d within)))
