-- Sound sessions whose jobs or whose store are others.
use Rattle.std.proofs.Common.{◌⊎◌, ◌++◌, ◌≤◌, inl, inr, subst, ℕ, Bool, true, false, cond, eqb, not, List, [], ◌∷◌, length, map, arith}
use Rattle.std.specs.Prelude.{filter}
use Rattle.std.proofs.lemmas.List.Elements.{All-filter}
use Rattle.machine.specs.Blocks.{blocks_with}
use Rattle.machine.specs.Shape.{bare_view}
use Rattle.machine.specs.Sound.{ShareBytes, Sound, program_files_of}
use Rattle.machine.specs.SoundSession.{IsSoundJob, SoundSession, program_files_in}
use Rattle.machine.specs.Store.{Job, Session, Store}
use Rattle.machine.specs.Valid.{AreNumbers}
use Rattle.machine.specs.Views.{ListedFile, is_required}
use Rattle.machine.proofs.ChangedLists.{flat_map_in}
use Rattle.machine.proofs.Members.{In, filter_in, filter_map_is, in_flat_map, in_left, in_right, in_either}
use Rattle.machine.proofs.NumberLists.{numbers_among}
use Rattle.machine.proofs.Shared.{alike_each, each_alike}
use Rattle.job_machine.specs.FreeBytes.{program_files_held}
use Rattle.job_machine.specs.Jobs.{without_job}
use Rattle.job_machine.specs.Settled.{IsSettled, SoundSessionWithJobs}
use Rattle.job_machine.proofs.Rooms.{blocks_fewer}

-- ---- among the files of a sound session

-- files that are all among those of a sound session share their bytes
pub shared_among : (old : Session) (files : List ListedFile) → SoundSession old
    → ((file : ListedFile) → In file files → In file (program_files_held old)) → ShareBytes files
shared_among old files sound among =
    alike_each files
    (λ f g a b. each_alike (program_files_held old) sound.shared f g (among f a) (among g b))

-- ---- another store

pub with_store : (old : Session) (store : Store) → Sound store
    → ShareBytes (program_files_of store ++ program_files_in old.jobs)
    → blocks_with (map bare_view store.views) (map (λ (job : Job). job.application) old.jobs)
    ≤ store.room.blocks
    → SoundSessionWithJobs old → SoundSessionWithJobs (record old { store = store })
with_store old store sound shared room was = record {
  sound = record {
    store = sound;
    job_numbers = was.sound.job_numbers;
    few_jobs = was.sound.few_jobs;
    jobs = was.sound.jobs;
    shared = shared;
    room = room;
  };
  settled = was.settled;
}

-- ---- without a job

few_kept : (keep : Job → Bool) (jobs : List Job) → length (filter keep jobs) ≤ length jobs
few_kept keep [] = omega arith
few_kept keep (job ∷ jobs) = by (keep job) (few_kept keep jobs)
  where
    by : (b : Bool) → length (filter keep jobs) ≤ length jobs
        → length (cond b (job ∷ filter keep jobs) (filter keep jobs)) ≤ length (job ∷ jobs)
    by true rest = omega (arith, rest)
    by false rest = omega (arith, rest)

module _ (number : ℕ) (old : Session) where
  abbrev pub is_kept : Job → Bool
  is_kept job = not (eqb job.number number)

  pub kept_files : (file : ListedFile)
      → In file (program_files_in (without_job number old.jobs))
      → In file (program_files_in old.jobs)
  kept_files file there =
      let of = flat_map_in (λ (j : Job). filter (λ (f : ListedFile). is_required f.entry) j.files)
      (without_job number old.jobs) file there in
      in_flat_map (λ (j : Job). filter (λ (f : ListedFile). is_required f.entry) j.files) old.jobs
      of.0 file (filter_in is_kept old.jobs of.0 of.1).1 of.2

  -- a session without the job, over a store that has room for the others
  pub without : (store : Store) → Sound store
      → ShareBytes (program_files_of store ++ program_files_in (without_job number old.jobs))
      → blocks_with (map bare_view store.views)
      (map (λ (job : Job). job.application) (without_job number old.jobs)) ≤ store.room.blocks
      → SoundSessionWithJobs old
      → SoundSessionWithJobs
      (record old { store = store; jobs = without_job number old.jobs })
  without store sound shared room was = record {
    sound = record {
      store = sound;
      job_numbers = subst (AreNumbers old.next_job)
          (filter_map_is (λ (j : Job). j.number) (λ (n : ℕ). not (eqb n number)) old.jobs)
          (numbers_among (λ (n : ℕ). not (eqb n number)) old.next_job
          (map (λ (j : Job). j.number) old.jobs) was.sound.job_numbers);
      few_jobs = (let few = few_kept is_kept old.jobs in
          let was_few = was.sound.few_jobs in omega (arith, few, was_few));
      jobs = All-filter is_kept IsSoundJob old.jobs was.sound.jobs;
      shared = shared;
      room = room;
    };
    settled = All-filter is_kept IsSettled old.jobs was.settled;
  }

  held_after : (file : ListedFile)
      → In file (program_files_of old.store ++ program_files_in (without_job number old.jobs))
      → In file (program_files_held old)
  held_after file there =
      by (in_either (program_files_of old.store) (program_files_in (without_job number old.jobs))
      file there)
    where
      by : In file (program_files_of old.store)
          ⊎ In file (program_files_in (without_job number old.jobs))
          → In file (program_files_held old)
      by (inl stands) =
          in_left (program_files_of old.store) (program_files_in old.jobs) file stands
      by (inr has) =
          in_right (program_files_of old.store) (program_files_in old.jobs) file
          (kept_files file has)

  -- an abandoned job
  pub abandoned : SoundSessionWithJobs old
      → SoundSessionWithJobs (record old { jobs = without_job number old.jobs })
  abandoned was =
      without old.store was.sound.store
      (shared_among old
      (program_files_of old.store ++ program_files_in (without_job number old.jobs)) was.sound
      held_after)
      (let fewer = blocks_fewer is_kept (map bare_view old.store.views) old.jobs in
      let room = was.sound.room in omega (arith, fewer, room))
      was
