-- A group that comes to a sound store where no file is wanted: it takes over the bytes of kept views.
use Rattle.std.proofs.Common.{◌≡◌, ◌∙◌, ◌⊎◌, ◌++◌, inl, inr, refl, sym, ap, subst, ℕ, true, List, [], ◌∷◌, map}
use Rattle.digest_list.specs.Matches.{Matches}
use Rattle.manifests.specs.declared.facts.FileEntry.{FileEntry}
use Rattle.machine.specs.Blocks.{standing_files}
use Rattle.machine.specs.Grouped.{AreOfGroup}
use Rattle.machine.specs.Groups.{group_files}
use Rattle.machine.specs.Shape.{BareView, bare_view}
use Rattle.machine.specs.Sound.{IsSoundView, IsWhole, Sound, program_files_of}
use Rattle.machine.specs.Store.{Store}
use Rattle.machine.specs.Valid.{IsView}
use Rattle.machine.specs.Views.{ContentKey, ListedFile, View, content_key, standing_entries}
use Rattle.machine.specs.Wanted.{is_held}
use Rattle.machine.proofs.ChangedLists.{flat_map_in}
use Rattle.machine.proofs.Members.{In, all_in, in_all, in_either, in_flat_map, map_in}
use Rattle.machine.proofs.OwnContents.{passes_in, same_is}
use Rattle.machine.proofs.Shared.{AreAlike, alike_each, each_alike}

-- a file whose content a file of the store has
pub record IsTaken (store : Store) (entry : FileEntry) (bytes : List ℕ) : Type 0 where
  pub from : ListedFile
  pub there : In from (program_files_of store)
  pub same : content_key from.entry ≡ content_key entry
  pub copied : bytes ≡ from.bytes

module _ (store : Store) (sound : Sound store) where
  -- a file that stands has its bytes in the store
  standing_has : (entry : FileEntry) → In entry (standing_files (map bare_view store.views))
      → (file : ListedFile) × In file (program_files_of store) × (file.entry ≡ entry)
  standing_has entry there =
      let of = flat_map_in (λ (v : BareView). standing_entries v.groups v.application)
      (map bare_view store.views) entry there in
      let view = map_in bare_view store.views of.0 of.1 in
      let is = all_in IsView store.views view.0 sound.valid.ordered.views view.1 in
      let own = subst (λ (es : List FileEntry). In entry es) (sym is.files)
      (subst (λ (v : BareView). In entry (standing_entries v.groups v.application)) (sym view.2)
      of.2) in
      let file = map_in (λ (f : ListedFile). f.entry) view.0.program_files entry own in (
        file.0,
        in_flat_map (λ (v : View). v.program_files) store.views view.0 file.0 view.1 file.1,
        file.2,
      )

  held_taken : (entry : FileEntry) → is_held (standing_files (map bare_view store.views)) entry ≡ true
      → (bytes : List ℕ) × IsTaken store entry bytes
  held_taken entry held =
      let found = passes_in _ (standing_files (map bare_view store.views)) held in
      let file = standing_has found.0 found.1 in (
        file.0.bytes,
        record {
          from = file.0;
          there = file.1;
          same = ap content_key file.2 ∙ sym (same_is entry found.0 found.2);
          copied = refl;
        },
      )

  -- all files of a list
  pub record AreTaken (entries : List FileEntry) : Type 0 where
    pub files : List ListedFile
    pub listed : map (λ (file : ListedFile). file.entry) files ≡ entries
    pub each : (file : ListedFile) → In file files → IsTaken store file.entry file.bytes

  taken : (entries : List FileEntry) → ((entry : FileEntry) → In entry entries
      → is_held (standing_files (map bare_view store.views)) entry ≡ true) → AreTaken entries
  taken [] held = record { files = []; listed = refl; each = λ file there. absurd there }
  taken (e ∷ es) held =
      let own = held_taken e (held e (inl refl)) in
      let rest = taken es (λ entry there. held entry (inr there)) in
      let file : ListedFile = record { entry = e; bytes = own.0 } in
      record {
        files = file ∷ rest.files;
        listed = ap (λ (xs : List FileEntry). e ∷ xs) rest.listed;
        each = λ f there. by own.0 own.1 rest f there;
      }
    where
      by : (bytes : List ℕ) → IsTaken store e bytes → (rest : AreTaken es) (f : ListedFile)
          → In f (record { entry = e; bytes = bytes } ∷ rest.files)
          → IsTaken store f.entry f.bytes
      by bytes own rest f (inl is) =
          subst (λ (g : ListedFile). IsTaken store g.entry g.bytes) is own
      by bytes own rest f (inr later) = rest.each f later

  -- ---- whole files

  stored_whole : (file : ListedFile) → In file (program_files_of store) → IsWhole file
  stored_whole file there =
      let of = flat_map_in (λ (v : View). v.program_files) store.views file there in
      all_in IsWhole of.0.program_files file
      (all_in IsSoundView store.views of.0 sound.views of.1).whole of.2

  taken_whole : (file : ListedFile) → IsTaken store file.entry file.bytes → IsWhole file
  taken_whole file is =
      subst (λ (bytes : List ℕ). Matches file.entry.list file.entry.size bytes) (sym is.copied)
      (subst (λ (key : ContentKey). Matches key.list key.size is.from.bytes) is.same
      (stored_whole is.from is.there))

  stored_taken : (file : ListedFile) → In file (program_files_of store)
      → IsTaken store file.entry file.bytes
  stored_taken file there = record { from = file; there = there; same = refl; copied = refl }

  either_taken : (entries : List FileEntry) (are : AreTaken entries) (file : ListedFile)
      → In file (program_files_of store ++ are.files) → IsTaken store file.entry file.bytes
  either_taken entries are file there = by (in_either (program_files_of store) are.files file there)
    where
      by : In file (program_files_of store) ⊎ In file are.files
          → IsTaken store file.entry file.bytes
      by (inl stored) = stored_taken file stored
      by (inr came) = are.each file came

  taken_alike : (f g : ListedFile) → IsTaken store f.entry f.bytes → IsTaken store g.entry g.bytes
      → AreAlike f g
  taken_alike f g a b = λ same.
      a.copied
      ∙ each_alike (program_files_of store) sound.shared a.from b.from a.there b.there
      (a.same ∙ same ∙ sym b.same)
      ∙ sym b.copied

  pub taken_group : (group : List ℕ) (view : View)
      → ((entry : FileEntry) → In entry (group_files group view.application)
      → is_held (standing_files (map bare_view store.views)) entry ≡ true)
      → (files : List ListedFile) × AreOfGroup group store view files
  taken_group group view held =
      let are = taken (group_files group view.application) held in (
        are.files,
        record {
          listed = are.listed;
          whole = in_all IsWhole are.files (λ file there. taken_whole file (are.each file there));
          shared = alike_each (program_files_of store ++ are.files)
              (λ f g a b. taken_alike f g
              (either_taken (group_files group view.application) are f a)
              (either_taken (group_files group view.application) are g b));
        },
      )
