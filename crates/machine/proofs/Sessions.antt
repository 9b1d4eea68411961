-- Steps keep a session sound.
use Rattle.std.proofs.Common.{◌≡◌, ◌≤◌, ◌⊎◌, ◌∙◌, ◌+◌, ◌++◌, inl, inr, ℕ, List, [], length, map, All, Option, refl, sym, ap, subst, arith}
use Rattle.std.specs.Prelude.{flat_map, sum_by}
use Rattle.std.proofs.lemmas.List.{append-nil}
use Rattle.std.proofs.lemmas.List.Elements.{All-nil}
use Rattle.std.proofs.lemmas.List.Sums.{sum_by-append}
use Rattle.small_types.specs.declared.room.Room.{Room}
use Rattle.small_types.specs.declared.limits.TheConstants.{JOB_LIMIT}
use Rattle.manifests.specs.declared.facts.Application.{Application}
use Rattle.manifests.specs.declared.facts.FileEntry.{FileEntry}
use Rattle.machine.specs.declared.command.Command.{Command}
use Rattle.machine.specs.declared.event.Event.{Event}
use Rattle.machine.specs.declared.event.Event.TheVariants.{Boot, Line, Unread}
use Rattle.machine.specs.declared.event.Heard.{Heard}
use Rattle.machine.specs.declared.reply.Reply.{Reply}
use Rattle.machine.specs.Laws.{FetchesWithoutJobs}
use Rattle.machine.specs.Machine.{Step, effect, refusals}
use Rattle.machine.specs.Blocks.{blocks_of, blocks_with, deployed_files, required_files, standing_files}
use Rattle.machine.specs.Rows.{PassesAll}
use Rattle.machine.specs.Shape.{BareData, BareView, bare_view, shape_of}
use Rattle.machine.specs.Sound.{ShareBytes, Sound, program_files_of}
use Rattle.machine.specs.SoundSession.{IsSoundJob, SoundSession, program_files_in, session_blocks}
use Rattle.machine.specs.Store.{Job, Session, Store, session_over}
use Rattle.machine.specs.Valid.{AreNumbers}
use Rattle.machine.specs.Views.{ListedFile, View}
use Rattle.machine.specs.Words.{IsEvent}
use Rattle.machine.proofs.EachRow.{facts}
use Rattle.machine.proofs.GrownViews.{blocks_among}
use Rattle.machine.proofs.Members.{In, in_either, in_left, in_right}
use Rattle.machine.proofs.Refusals.{kept_or_effect}
use Rattle.machine.proofs.RowFacts.{Kept, TakesFree}
use Rattle.machine.proofs.Shared.{alike_each, each_alike}
use Rattle.machine.proofs.KeptSteps.{step_room, step_leaves, step_sound}

-- the applications of jobs
abbrev wanted_by : List Job → List Application
wanted_by jobs = map (λ (job : Job). job.application) jobs

-- a session of the same views, jobs and numbers, over a sound store
same_sound : (old new : Session) → new.store.views ≡ old.store.views
    → new.store.room ≡ old.store.room → new.jobs ≡ old.jobs → new.next_job ≡ old.next_job
    → Sound new.store → SoundSession old → SoundSession new
same_sound old new views same_room jobs next store sound = record {
  store = store;
  job_numbers = subst (λ (js : List Job). AreNumbers new.next_job (map (λ job. job.number) js)) (sym jobs)
      (subst (λ n. AreNumbers n (map (λ (job : Job). job.number) old.jobs)) (sym next) sound.job_numbers);
  few_jobs = subst (λ (js : List Job). length js ≤ JOB_LIMIT) (sym jobs) sound.few_jobs;
  jobs = subst (All IsSoundJob) (sym jobs) sound.jobs;
  shared = subst (λ (js : List Job). ShareBytes (program_files_of new.store ++ program_files_in js)) (sym jobs)
      (subst (λ (vs : List View). ShareBytes (program_files_of (record old.store { views = vs })
      ++ program_files_in old.jobs)) (sym views) sound.shared);
  room = subst (λ (js : List Job). blocks_with (map bare_view new.store.views) (wanted_by js) ≤ new.store.room.blocks) (sym jobs)
      (subst (λ (vs : List View). blocks_with (map bare_view vs) (wanted_by old.jobs) ≤ new.store.room.blocks) (sym views)
      (subst (λ (r : Room). session_blocks old ≤ r.blocks) (sym same_room) sound.room));
}

-- a session whose views have no other program files, and data files that take free blocks alone
module _ (old new : Session) (takes : TakesFree old new.store)
    (same_room : new.store.room ≡ old.store.room) (jobs : new.jobs ≡ old.jobs) where
  abbrev of_jobs : List FileEntry
  of_jobs = required_files (map (λ (job : Job). job.application) old.jobs)

  -- the blocks of data files, with those that the jobs deploy
  data_joined : (views : List View)
      → sum_by (λ (file : BareData). blocks_of file.length)
      (deployed_files (map (λ (job : Job). job.application) old.jobs)
      ++ flat_map (λ (view : BareView). view.data_files) (map bare_view views))
      ≡ sum_by (λ (file : BareData). blocks_of file.length)
      (deployed_files (map (λ (job : Job). job.application) old.jobs))
      + sum_by (λ (file : BareData). blocks_of file.length)
      (flat_map (λ (view : BareView). view.data_files) (map bare_view views))
  data_joined views =
      sum_by-append (λ (file : BareData). blocks_of file.length)
      (deployed_files (map (λ (job : Job). job.application) old.jobs))
      (flat_map (λ (view : BareView). view.data_files) (map bare_view views))

  among_files : (file : ListedFile)
      → In file (program_files_of new.store ++ program_files_in old.jobs)
      → In file (program_files_of old.store ++ program_files_in old.jobs)
  among_files file there =
      by (in_either (program_files_of new.store) (program_files_in old.jobs) file there)
    where
      by : In file (program_files_of new.store) ⊎ In file (program_files_in old.jobs)
          → In file (program_files_of old.store ++ program_files_in old.jobs)
      by (inl stands) =
          in_left (program_files_of old.store) (program_files_in old.jobs) file
          (takes.2.programs file stands)
      by (inr has) = in_right (program_files_of old.store) (program_files_in old.jobs) file has

  among_entries : (entry : FileEntry)
      → In entry (of_jobs ++ standing_files (map bare_view new.store.views))
      → In entry (of_jobs ++ standing_files (map bare_view old.store.views))
  among_entries entry there =
      by (in_either of_jobs (standing_files (map bare_view new.store.views)) entry there)
    where
      by : In entry of_jobs ⊎ In entry (standing_files (map bare_view new.store.views))
          → In entry (of_jobs ++ standing_files (map bare_view old.store.views))
      by (inl asked) =
          in_left of_jobs (standing_files (map bare_view old.store.views)) entry asked
      by (inr stands) =
          in_right of_jobs (standing_files (map bare_view old.store.views)) entry
          (takes.2.standing entry stands)

  taken_sound : new.next_job ≡ old.next_job → Sound new.store → SoundSession old
      → SoundSession new
  taken_sound next store sound = record {
    store = store;
    job_numbers = subst (λ (js : List Job). AreNumbers new.next_job (map (λ job. job.number) js)) (sym jobs)
        (subst (λ n. AreNumbers n (map (λ (job : Job). job.number) old.jobs)) (sym next) sound.job_numbers);
    few_jobs = subst (λ (js : List Job). length js ≤ JOB_LIMIT) (sym jobs) sound.few_jobs;
    jobs = subst (All IsSoundJob) (sym jobs) sound.jobs;
    shared = subst (λ (js : List Job). ShareBytes (program_files_of new.store ++ program_files_in js)) (sym jobs)
        (alike_each (program_files_of new.store ++ program_files_in old.jobs)
        (λ f g a b. each_alike (program_files_of old.store ++ program_files_in old.jobs) sound.shared
        f g (among_files f a) (among_files g b)));
    room = subst (λ (js : List Job). blocks_with (map bare_view new.store.views) (wanted_by js) ≤ new.store.room.blocks) (sym jobs)
        (let room = sound.room in
        let kept = ap (λ (r : Room). r.blocks) same_room in
        let files = blocks_among (of_jobs ++ standing_files (map bare_view new.store.views))
        (of_jobs ++ standing_files (map bare_view old.store.views)) among_entries in
        let data_old = data_joined old.store.views in
        let data_new = data_joined new.store.views in
        omega (arith, room, files, data_old, data_new, takes.1, takes.2.data_blocks, kept));
  }

pub step_jobs : (now : ℕ) (old : Session) (event : Event) (reply : Option Reply) (new : Session)
    → Step now old event reply new → new.jobs ≡ old.jobs
step_jobs = step_leaves (λ (s : Session). s.jobs) (λ boot old. refl) (λ command old reply new kept. kept.jobs)
    (λ command old reply new acts. acts.jobs)

step_next : (now : ℕ) (old : Session) (event : Event) (reply : Option Reply) (new : Session)
    → Step now old event reply new → new.next_job ≡ old.next_job
step_next = step_leaves (λ (s : Session). s.next_job) (λ boot old. refl) (λ command old reply new kept. kept.next_job)
    (λ command old reply new acts. acts.next_job)

pub begins_sound : (store : Store) → Sound store → SoundSession (session_over store)
begins_sound store sound = record {
  store = sound;
  job_numbers = record { rising = λ i j d lt within. absurd (omega arith); below = All-nil _; limit = omega arith };
  few_jobs = omega arith;
  jobs = All-nil IsSoundJob;
  shared = subst ShareBytes (sym (append-nil (program_files_of store))) sound.shared;
  room = sound.valid.room;
}

-- ---- steps

-- a session without jobs is as sound as its store
without_jobs : (old new : Session) → old.jobs ≡ [] → new.jobs ≡ old.jobs
    → new.next_job ≡ old.next_job → Sound new.store → SoundSession old → SoundSession new
without_jobs old new none jobs next store sound =
    let begun = begins_sound new.store store in
    let no_jobs : new.jobs ≡ [] = jobs ∙ none in
    record {
      store = store;
      job_numbers = subst (λ (js : List Job). AreNumbers new.next_job (map (λ job. job.number) js)) (sym jobs)
          (subst (λ n. AreNumbers n (map (λ (job : Job). job.number) old.jobs)) (sym next) sound.job_numbers);
      few_jobs = subst (λ (js : List Job). length js ≤ JOB_LIMIT) (sym jobs) sound.few_jobs;
      jobs = subst (All IsSoundJob) (sym jobs) sound.jobs;
      shared = subst (λ (js : List Job). ShareBytes (program_files_of new.store
          ++ program_files_in js)) (sym no_jobs) begun.shared;
      room = subst (λ (js : List Job). blocks_with (map bare_view new.store.views) (wanted_by js)
          ≤ new.store.room.blocks) (sym no_jobs) begun.room;
    }

module _ (now : ℕ) (old : Session) (reply : Option Reply) (new : Session) (sound : SoundSession old) where
  -- an event that leaves the views
  same_views : (event : Event) → IsEvent event → Step now old event reply new
      → new.store.views ≡ old.store.views → SoundSession new
  same_views event is step views =
      same_sound old new views (step_room now old event reply new step) (step_jobs now old event reply new step)
      (step_next now old event reply new step) (step_sound now old event reply new is step sound.store) sound

  -- a line leaves the views, or takes free blocks alone, or there is no open job
  line_views : (command : Command) (at : ℕ) (heard : Heard) → Step now old (Line command at heard) reply new
      → FetchesWithoutJobs (Line command at heard) old
      → (new.store.views ≡ old.store.views) ⊎ TakesFree old new.store ⊎ (old.jobs ≡ [])
  line_views command at heard step none =
      by (kept_or_effect now heard.texts old command step.answer new step.answers)
    where
      by : Kept command old step.answer new
          ⊎ (PassesAll (refusals now heard.texts (shape_of old) command)
          × effect now heard.texts command old step.answer new)
          → (new.store.views ≡ old.store.views) ⊎ TakesFree old new.store ⊎ (old.jobs ≡ [])
      by (inl kept) = inl kept.views
      by (inr done) =
          (facts now heard.texts command).views old step.answer new at heard none sound.store.valid
          done.0 done.1

  line_session : (command : Command) (at : ℕ) (heard : Heard) → IsEvent (Line command at heard)
      → Step now old (Line command at heard) reply new
      → FetchesWithoutJobs (Line command at heard) old → SoundSession new
  line_session command at heard is step none = by (line_views command at heard step none)
    where
      by : (new.store.views ≡ old.store.views) ⊎ TakesFree old new.store ⊎ (old.jobs ≡ [])
          → SoundSession new
      by (inl views) = same_views (Line command at heard) is step views
      by (inr (inl takes)) =
          taken_sound old new takes
          (step_room now old (Line command at heard) reply new step)
          (step_jobs now old (Line command at heard) reply new step)
          (step_next now old (Line command at heard) reply new step)
          (step_sound now old (Line command at heard) reply new is step sound.store) sound
      by (inr (inr no_jobs)) =
          without_jobs old new no_jobs (step_jobs now old (Line command at heard) reply new step)
          (step_next now old (Line command at heard) reply new step)
          (step_sound now old (Line command at heard) reply new is step sound.store) sound

pub step_session : (now : ℕ) (old : Session) (event : Event) (reply : Option Reply) (new : Session)
    → IsEvent event → Step now old event reply new → FetchesWithoutJobs event old
    → SoundSession old → SoundSession new
step_session now old (Boot boot) reply new is step none sound =
    same_views now old reply new sound (Boot boot) is step
    (ap (λ (s : Session). s.store.views) step.1)
step_session now old (Line command at heard) reply new is step none sound =
    line_session now old reply new sound command at heard is step none
step_session now old (Unread fault) reply new is step none sound =
    same_views now old reply new sound (Unread fault) is step
    (ap (λ (s : Session). s.store.views) step.1)
