use Rattle.std.specs.Prelude.{◌≡◌, ℕ, List}
use Rattle.folders.specs.declared.answer.FolderAnswer.{FolderAnswer}
use Rattle.folders.specs.declared.folder.Held.{Held}
use Rattle.folders.specs.Answers.{AreHonest, files_after}
use Rattle.outside_real.specs.declared.real_folder.RealFolder.{RealFolder}

module _ {R Dir : Type 0} where
  abbrev pub real_faults : RealFolder R Dir → ℕ
  real_faults f = f.faults

  -- what the folder answered to each of its calls, the first first
  abbrev pub real_answers : RealFolder R Dir → List FolderAnswer
  real_answers f = f.told.answers.noted

  -- the answers are those of a folder in which these files stood before the first of them, and whose
  -- files nobody else changed
  abbrev pub FolderIsHonest : List Held → RealFolder R Dir → Type 0
  FolderIsHonest files f = AreHonest files (real_answers f)

  -- what then stands in it
  abbrev pub real_files : List Held → RealFolder R Dir → List Held
  real_files files f = files_after files (real_answers f)

  -- a call that changes no file; the answers were honest before if they are now
  pub record OnlyLooks (old new : RealFolder R Dir) : Type 0 where
    pub same : (files : List Held) → real_files files new ≡ real_files files old
    pub told : (files : List Held) → FolderIsHonest files new → FolderIsHonest files old
