-- What is planned can be said by a manifest.
use Rattle.std.proofs.Common.{◌≡◌, ℕ, Bool, ◌<◌, ◌≤◌, true, List, [], ◌∷◌, length, get_or, map, All, IfSome, Option, None, refl, sym, ap, subst, ◌∙◌, arith}
use Rattle.std.specs.Prelude.{count_by}
use Rattle.std.specs.List.{AllPairs, IsDistinct}
use Rattle.std.specs.Str.{bytes_eq}
use Rattle.std.proofs.lemmas.Grind.{common_steps}
use Rattle.std.proofs.lemmas.List.{get_or-map, length-map}
use Rattle.std.proofs.lemmas.List.Elements.{All-nil, All-cons, All-head, All-tail}
use Rattle.std.proofs.lemmas.Map.Keys.{apart_from_distinct}
use Rattle.std.proofs.lemmas.Slice.Eq.{bytes_eq-Decides}
use Rattle.small_types.specs.Name.{IsBelowPre}
use Rattle.folders.proofs.PutFiles.{clash}
use Rattle.manifests.specs.declared.facts.FileEntry.{FileEntry}
use Rattle.manifests.specs.Applications.{locals, size_limit}
use Rattle.manifests.specs.FileLists.{AreFiles}
use Rattle.manifests.specs.Facts.{IsFile, IsValue}
use Rattle.publish_plan.specs.declared.options.PlannedFile.{PlannedFile}
use Rattle.publish_plan.specs.Facts.{file_of}
use Rattle.publish_plan.specs.Plans.{is_local_file}
use Rattle.publisher.specs.Entries.{AreEntries, IsEntry}
use Rattle.publisher.proofs.EntryReads.{entries_long}

-- a planned file that a manifest can list
pub record IsFitFile (file : PlannedFile) : Type 0 where
  pub above : ¬ IsBelowPre file.file
  pub short : file.local ≡ true → length file.file ≤ 235
  pub group : IfSome file.group (IsValue 1 240)
  pub alone : file.local ≡ true → file.group ≡ None

entry_fits : (file : PlannedFile) (entry : FileEntry) → IsFitFile file → IsEntry file entry → IsFile entry
entry_fits file entry fits is =
    let name : entry.name ≡ file.file = ap (λ (e : FileEntry). e.name) is.is in
    let local : entry.local ≡ file.local = ap (λ (e : FileEntry). e.local) is.is in
    let group : entry.group ≡ file.group = ap (λ (e : FileEntry). e.group) is.is in
    let size : entry.size ≡ length is.bytes = ap (λ (e : FileEntry). e.size) is.is in
    record {
      above = λ below. fits.above (subst IsBelowPre name below);
      short = λ kept. subst (λ (n : List ℕ). length n ≤ 235) (sym name) (fits.short (sym local ∙ kept));
      size = subst (λ (n : ℕ). n ≤ size_limit entry.local) (sym size) (subst (λ (b : Bool). length is.bytes ≤ size_limit b) (sym local) is.within);
      list = is.sized;
      group = subst (λ (g : Option (List ℕ)). IfSome g (IsValue 1 240)) (sym group) fits.group;
      alone = λ kept. group ∙ fits.alone (sym local ∙ kept);
    }

-- each entry can be listed
pub entries_fit : (files : List PlannedFile) (entries : List FileEntry) → All IsFitFile files → AreEntries files entries → All IsFile entries
entries_fit [] [] fit are = All-nil IsFile
entries_fit [] (e ∷ es) fit are = absurd are
entries_fit (f ∷ fs) [] fit are = absurd are
entries_fit (f ∷ fs) (e ∷ es) fit are =
    All-cons IsFile e es (entry_fits f e (All-head IsFitFile f fs fit) are.0) (entries_fit fs es (All-tail IsFitFile f fs fit) are.1)

entries_local : (files : List PlannedFile) (entries : List FileEntry) → AreEntries files entries → locals entries ≡ count_by is_local_file files
entries_local [] [] are = refl
entries_local [] (e ∷ es) are = absurd are
entries_local (f ∷ fs) [] are = absurd are
entries_local (f ∷ fs) (e ∷ es) are =
    let rest : locals es ≡ count_by is_local_file fs = entries_local fs es are.1 in
    let local : e.local ≡ f.local = ap (λ (x : FileEntry). x.local) are.0.is in
    grind (arith, common_steps)

abbrev name_of : FileEntry → List ℕ
name_of e = e.name

entries_named : (files : List PlannedFile) (entries : List FileEntry) → AreEntries files entries → map name_of entries ≡ map file_of files
entries_named [] [] are = refl
entries_named [] (e ∷ es) are = absurd are
entries_named (f ∷ fs) [] are = absurd are
entries_named (f ∷ fs) (e ∷ es) are =
    ap (λ (n : List ℕ). n ∷ map name_of es) (ap name_of are.0.is) ∙ ap (λ (ns : List (List ℕ)). f.file ∷ ns) (entries_named fs es are.1)

names_differ : (entries : List FileEntry) → IsDistinct bytes_eq (map name_of entries) → AllPairs (λ (e : FileEntry) (f : FileEntry). ¬ (e.name ≡ f.name)) entries
names_differ entries distinct i j d first within same =
    let short : i < length entries = omega arith in
    let long : j < length (map name_of entries) = simp (length-map) within in
    let one : get_or (map name_of entries) i [] ≡ (get_or entries i d).name = get_or-map name_of entries i d [] short in
    let other : get_or (map name_of entries) j [] ≡ (get_or entries j d).name = get_or-map name_of entries j d [] within in
    clash (bytes_eq (get_or (map name_of entries) i []) (get_or (map name_of entries) j []))
    ((bytes_eq-Decides (get_or (map name_of entries) i []) (get_or (map name_of entries) j [])).1 (one ∙ same ∙ sym other))
    (apart_from_distinct bytes_eq (map name_of entries) i j [] distinct first long)

-- the entries are those of an application
pub files_fit : (files : List PlannedFile) (entries : List FileEntry) → length files ≤ 16384 → count_by is_local_file files ≤ 256 → IsDistinct bytes_eq (map file_of files) → AreEntries files entries → AreFiles entries
files_fit files entries few few_local distinct are =
    let long = entries_long files entries are in
    let data_files = entries_local files entries are in
    record {
      few = omega arith;
      few_local = omega arith;
      differ = names_differ entries (subst (IsDistinct bytes_eq) (sym (entries_named files entries are)) distinct);
    }
