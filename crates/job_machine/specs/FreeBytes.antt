-- The bytes of a file that is fetched. Those of a program file are those that a program file of a
-- kept view or of a job has under its content key, and where there is none any that match. Those of
-- a data file are any that match.
use Rattle.std.specs.Prelude.{◌≡◌, ◌++◌, false, List, All}
use Rattle.machine.specs.Sound.{IsWhole, program_files_of}
use Rattle.machine.specs.SoundSession.{program_files_in}
use Rattle.machine.specs.Store.{Session}
use Rattle.machine.specs.Views.{ListedFile, content_key}

-- the program files of kept views and of open jobs
abbrev pub program_files_held : Session → List ListedFile
program_files_held session =
    program_files_of session.store ++ program_files_in session.jobs

-- each of these that has the content key of the file has its bytes
abbrev pub Agree : List ListedFile → ListedFile → Type 0
Agree files file =
    All (λ other. content_key other.entry ≡ content_key file.entry → other.bytes ≡ file.bytes) files

pub record IsFetched (session : Session) (file : ListedFile) : Type 0 where
  pub whole : IsWhole file
  pub agrees : file.entry.local ≡ false → Agree (program_files_held session) file
