-- The files of a sound job, by their names and contents.
use Rattle.std.proofs.Common.{◌≡◌, ◌∙◌, ◌⊎◌, ◌||◌, sym, true, false, not, Contains, is_none}
use Rattle.std.proofs.lemmas.Bool.{and_parts}
use Rattle.manifests.specs.declared.facts.Application.{Application}
use Rattle.manifests.specs.declared.facts.FileEntry.{FileEntry}
use Rattle.machine.specs.Fields.{IsApplication}
use Rattle.machine.specs.SoundSession.{IsSoundJob, entries_of, wanted_entries}
use Rattle.machine.specs.Store.{Job}
use Rattle.machine.specs.Views.{is_required}
use Rattle.machine.proofs.ChangedLists.{one_of}
use Rattle.machine.proofs.Members.{In, all_in, filter_in, in_contains, in_filter}
use Rattle.machine.proofs.WantedFiles.{or_one, was_false}

-- ---- kinds of files

pub required_is_program : (entry : FileEntry) → is_required entry ≡ true → entry.local ≡ false
required_is_program entry is = was_false entry.local (and_parts (not entry.local) (is_none entry.group) is).0

pub data_is_not_required : (entry : FileEntry) → entry.local ≡ true → is_required entry ≡ true → ⊥
data_is_not_required entry local is = absurd (clash (sym local ∙ required_is_program entry is))
  where
    clash : true ≡ false → ⊥
    clash e = cc

-- ---- names

-- no two listed files have one name
abbrev pub NamesApart : FileEntry → FileEntry → Type 0
NamesApart e f = ¬ (e.name ≡ f.name)

pub one_entry : (a : Application) → IsApplication a → (e f : FileEntry) → In e a.files
    → In f a.files → e.name ≡ f.name → e ≡ f
one_entry a is e f first second same =
    one_of (λ (x : FileEntry). x.name) a.files is.facts.files.differ e f first second same

-- ---- what a job wants

module _ (a : Application) (entry : FileEntry) where
  pub wanted_is : In entry (wanted_entries a)
      → In entry a.files × ((is_required entry ≡ true) ⊎ (entry.local ≡ true))
  wanted_is there =
      let found = filter_in (λ (e : FileEntry). is_required e || e.local) a.files entry there in
      (found.1, or_one (is_required entry) entry.local found.0)

  pub is_wanted : In entry a.files → (is_required entry || entry.local) ≡ true
      → In entry (wanted_entries a)
  is_wanted listed is =
      in_filter (λ (e : FileEntry). is_required e || e.local) a.files entry is listed

-- a file that a job has or has left is listed
pub entry_listed : (job : Job) → IsSoundJob job → (entry : FileEntry) → In entry (entries_of job)
    → In entry (wanted_entries job.application)
entry_listed job sound entry there =
    in_contains (wanted_entries job.application) entry
    (all_in (Contains (wanted_entries job.application)) (entries_of job) entry sound.only there)
