-- Files that are put into a folder, one after another.
use Rattle.std.specs.Prelude.{◌≡◌, ℕ, ◌<◌, ◌+◌, Bool, true, ◌&&◌, not, List, [], ◌∷◌, All, length, map, take, None}
use Rattle.std.specs.List.{IsDistinct, list_all}
use Rattle.std.specs.Option.{option_or}
use Rattle.std.specs.Str.{bytes_eq}
use Rattle.folders.specs.declared.folder.Held.{Held}
use Rattle.folders.specs.Files.{file_in, Puts}
use Rattle.publish_plan.specs.declared.options.PublishPlan.{PublishPlan}
use Rattle.publish_plan.specs.declared.options.PlannedFile.{PlannedFile}
use Rattle.publish_plan.specs.Facts.{target_of, written_names}
use Rattle.publish_plan.specs.Places.{lies_below}

-- each of the files stands under its name, and every other name has what it had
pub record PutsAll (files old new : List Held) : Type 0 where
  pub each : (name : List ℕ)
      → file_in name new ≡ option_or (file_in name files) (file_in name old)

-- the first so many of the files were put, and not all
pub record PutsFront (files old new : List Held) : Type 0 where
  pub count : ℕ
  pub below : count < length files
  pub puts : PutsAll (take count files) old new

-- of files whose last two are manifests, the first so many were put, and not all that stand before
-- the manifests
pub record PutsInput (files old new : List Held) : Type 0 where
  pub count : ℕ
  pub below : count + 2 < length files
  pub puts : PutsAll (take count files) old new

-- the files were put, one after another, whatever their names
abbrev pub PutsEach : List Held → List Held → List Held → Type 0
PutsEach [] old new = (name : List ℕ) → file_in name new ≡ file_in name old
PutsEach (file ∷ files) old new =
    (mid : List Held) × Puts old mid file.name file.bytes × PutsEach files mid new

-- the first so many of the files were put, and not all
pub record PutsSome (files old new : List Held) : Type 0 where
  pub count : ℕ
  pub below : count < length files
  pub puts : PutsEach (take count files) old new

-- no file stands under the names that the files are written under, and these names differ
pub record AreNew (files : List PlannedFile) (held : List Held) : Type 0 where
  pub free : All (λ (file : PlannedFile). file_in file.target held ≡ None) files
  pub differ : IsDistinct bytes_eq (map target_of files)

-- no file stands under a name of the plan but that of the deployment manifest, and the names differ
pub record IsNewPlan (plan : PublishPlan) (held : List Held) : Type 0 where
  pub free : All (λ (file : PlannedFile). file_in file.target held ≡ None) plan.files
  pub manifest : file_in plan.manifest held ≡ None
  pub differ : IsDistinct bytes_eq (written_names plan)

-- a file is written below the folder, and what is read for it does not stand there
abbrev pub is_apart : List ℕ → PlannedFile → Bool
is_apart folder file = lies_below folder file.target && not (lies_below folder file.source)

-- no file is written over one that is read
pub record AreApart (files : List PlannedFile) : Type 0 where
  pub folder : List ℕ
  pub apart : list_all (is_apart folder) files ≡ true
