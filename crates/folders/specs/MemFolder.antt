-- What a folder in memory shows, and which of its calls fail.
use Rattle.std.specs.Prelude.{◌≡◌, ◌≢◌, ℕ, ◌+◌, List, [], Bool, false, min, Result, Ok, Err, IsTrue}
use Rattle.outside.specs.FailingCalls.{fails_next}
use Rattle.folders.specs.declared.folder.FolderFault.{FolderFault}
use Rattle.folders.specs.declared.folder.FolderFault.TheVariants.{Failed}
use Rattle.folders.specs.declared.folder.Held.{Held}
use Rattle.folders.specs.declared.folder.Found.{Found}
use Rattle.folders.specs.declared.folder.Found.TheVariants.{Nothing, Whole, TooLong}
use Rattle.folders.specs.declared.mem_folder.MemFolder.{MemFolder}

-- what stands in the folder
abbrev pub folder_held : MemFolder → List Held
folder_held f = f.files

abbrev pub folder_faults : MemFolder → ℕ
folder_faults f = f.failing.faults

-- how many calls there were
abbrev pub folder_calls : MemFolder → ℕ
folder_calls f = f.failing.calls

-- the numbers of the calls that are to fail
abbrev pub folder_failing : MemFolder → List ℕ
folder_failing f = f.failing.numbers

-- whether the next call is one of them
abbrev pub folder_fails : MemFolder → Bool
folder_fails f = fails_next f.failing

-- A call is counted. It answers `Failed` exactly where its number is in the list, and the count of
-- faults rises by one there, and else not.
pub record CountsCall {T : Type 0} (old new : MemFolder) (result : Result T FolderFault)
    : Type 0 where
  pub fails : IsTrue (folder_fails old) → result ≡ Err Failed
  pub works : folder_fails old ≡ false → result ≢ Err Failed
  pub calls : folder_calls new ≡ min (folder_calls old + 1) 0xffff_ffff_ffff_ffff
  pub failing : folder_failing new ≡ folder_failing old
  pub quiet : folder_fails old ≡ false → folder_faults new ≡ folder_faults old
  pub raised : IsTrue (folder_fails old)
      → folder_faults new ≡ min (folder_faults old + 1) 0xffff_ffff_ffff_ffff
  pub never : folder_failing old ≡ [] → folder_faults new ≡ folder_faults old

-- the buffer of a call that read no file is as it was
abbrev pub KeepsBuffer : List ℕ → List ℕ → Result Found FolderFault → Type 0
KeepsBuffer before after (Ok Nothing) = after ≡ before
KeepsBuffer before after (Ok Whole) = Unit {0}
KeepsBuffer before after (Ok (TooLong n)) = after ≡ before
KeepsBuffer before after (Err fault) = after ≡ before
