-- Jobs over a step: which they were, and that their files keep their addresses.
use Rattle.std.proofs.Common.{◌≡◌, ◌∙◌, ◌⊎◌, inl, inr, refl, sym, ap, subst, ℕ, Bool, true, false, cond, eqb, List, [], ◌∷◌, All, Contains, Option, Result, Ok, Err}
use Rattle.std.specs.Prelude.{Any}
use Rattle.std.proofs.lemmas.List.Elements.{All-filter, All-push, All-tail}
use Rattle.small_types.specs.declared.target.Target.{Target}
use Rattle.addresses.specs.declared.fault.UrlFault.{UrlFault}
use Rattle.addresses.specs.declared.fault.UrlFault.TheVariants.{BadUrl}
use Rattle.addresses.specs.Address.{target_of_text}
use Rattle.addresses.specs.Join.{app_target_of, file_target_of}
use Rattle.small_types.specs.Outcome.{◌>>=◌}
use Rattle.manifests.specs.declared.facts.Application.{Application}
use Rattle.manifests.specs.declared.facts.Deployment.{Deployment}
use Rattle.manifests.specs.declared.facts.FileEntry.{FileEntry}
use Rattle.machine.specs.declared.command.Command.TheVariants.{Install, Group}
use Rattle.machine.specs.declared.event.Event.{Event}
use Rattle.machine.specs.declared.event.Event.TheVariants.{Boot, Line, Unread}
use Rattle.machine.specs.declared.event.Heard.{Heard}
use Rattle.machine.specs.declared.reply.Reply.{Reply}
use Rattle.machine.specs.InstallRow.{OfWanted}
use Rattle.machine.specs.Rows.{PassesAll}
use Rattle.machine.specs.Shape.{shape_of}
use Rattle.machine.specs.Store.{Job, Session}
use Rattle.machine.specs.Wanted.{wanted}
use Rattle.machine.proofs.FirstRefusal.{unchanged}
use Rattle.machine.proofs.FileAddresses.{IsReached, file_reached}
use Rattle.machine.proofs.Members.{In, filter_in, in_all, in_contains, in_either, map_in}
use Rattle.machine.proofs.Sessions.{step_jobs}
use Rattle.machine.proofs.ViewUse.{any_in}
use Rattle.job_machine.specs.declared.command.JobCommand.{JobCommand}
use Rattle.job_machine.specs.declared.command.JobCommand.TheVariants as calls
use Rattle.job_machine.specs.BeginRow.{BeginEffect, begin_refusals, new_job}
use Rattle.job_machine.specs.JobLaws.{IsBegunBy, IsOfJob}
use Rattle.job_machine.specs.Jobs.{job_shape_of, with_job_at}
use Rattle.job_machine.specs.Replies.{SessionReply}
use Rattle.job_machine.specs.Sessions.{JobLine, MachineEvent, SessionEvent, SessionStep, StepBeside, refusals_beside}
use Rattle.job_machine.specs.Settled.{IsReachable, SoundSessionWithJobs}
use Rattle.job_machine.specs.StepRow.{stepped}
use Rattle.job_machine.proofs.OpenJobs.{job_in}
use Rattle.job_machine.proofs.RefusedLines as lines
use Rattle.job_machine.proofs.SoundParts.{is_kept}
use Rattle.job_machine.proofs.StepSound.{changed_all}
use Rattle.job_machine.proofs.Unchanged.{IsDone, IsMemory, IsRefused, Kind, kind_of}

-- ---- no event of the machine changes a job

abbrev jobs_of : (old new : Session) → new ≡ old → new.jobs ≡ old.jobs
jobs_of old new is = ap (λ (s : Session). s.jobs) is

install_jobs : (now : ℕ) (heard : List (List ℕ)) (old : Session) (url : List ℕ) (reply : Reply)
    (new : Session) → lines.Kind now heard old (Install url) reply new → new.jobs ≡ old.jobs
install_jobs now heard old url reply new (lines.IsMemory e same) = jobs_of old new same
install_jobs now heard old url reply new (lines.IsRefused refused) =
    jobs_of old new
    (unchanged (refusals_beside now heard (shape_of old) (Install url)) old reply new
    (lines.install_same now heard (shape_of old) url) refused)
install_jobs now heard old url reply new (lines.IsDone passes done) =
    ap (λ (s : Session). s.jobs) done.effect.is

group_jobs : (now : ℕ) (heard : List (List ℕ)) (old : Session) (lease : ℕ) (group : List ℕ)
    (reply : Reply) (new : Session) → lines.Kind now heard old (Group lease group) reply new
    → new.jobs ≡ old.jobs
group_jobs now heard old lease group reply new (lines.IsMemory e same) = jobs_of old new same
group_jobs now heard old lease group reply new (lines.IsRefused refused) =
    jobs_of old new
    (unchanged (refusals_beside now heard (shape_of old) (Group lease group)) old reply new
    (lines.group_same now heard (shape_of old) lease group) refused)
group_jobs now heard old lease group reply new (lines.IsDone passes done) =
    ap (λ (s : Session). s.jobs) done.is

pub beside_jobs : (now : ℕ) (old : Session) (event : Event) (said : Option Reply) (new : Session)
    → StepBeside now old event said new → new.jobs ≡ old.jobs
beside_jobs now old (Boot boot) said new step = step_jobs now old (Boot boot) said new step
beside_jobs now old (Unread fault) said new step = step_jobs now old (Unread fault) said new step
beside_jobs now old (Line (Install url) at heard) said new step =
    install_jobs now heard.texts old url step.answer new
    (lines.kind_of now heard.texts old (Install url) step.answer new step.answers)
beside_jobs now old (Line (Group lease group) at heard) said new step =
    group_jobs now heard.texts old lease group step.answer new
    (lines.kind_of now heard.texts old (Group lease group) step.answer new step.answers)
beside_jobs now old (Line command at heard) said new step =
    step_jobs now old (Line command at heard) said new (record {
      moment = step.moment;
      hears = step.hears;
      answer = step.answer;
      replied = step.replied;
      answers = step.answers;
    })

-- ---- which job it was

module _ (old : Session) (event : SessionEvent) (job : Job) where
  abbrev Known : Type 0
  Known = Any (IsOfJob job) old.jobs ⊎ IsBegunBy event old job

  itself : IsOfJob job job
  itself = record { number = refl; url = refl; base = refl; deployment = refl; application = refl }

  was_there : In job old.jobs → Known
  was_there there = inl (any_in (IsOfJob job) old.jobs job there itself)

  same_jobs : (new : Session) → new.jobs ≡ old.jobs → In job new.jobs → Known
  same_jobs new same there = was_there (subst (λ (js : List Job). In job js) same there)

  step_known : (number : ℕ) (entry : FileEntry) (bytes : List ℕ) (rest : List FileEntry)
      → In job (with_job_at number (stepped entry bytes rest) old.jobs) → Known
  step_known number entry bytes rest there =
      let from = map_in (λ (j : Job). cond (eqb j.number number) (stepped entry bytes rest j) j)
      old.jobs job there in
      inl (any_in (IsOfJob job) old.jobs from.0 from.1
      (subst (λ (j : Job). IsOfJob j from.0) from.2 (by from.0 (eqb from.0.number number))))
    where
      by : (j : Job) (b : Bool) → IsOfJob (cond b (stepped entry bytes rest j) j) j
      by j true =
          record { number = refl; url = refl; base = refl; deployment = refl; application = refl }
      by j false =
          record { number = refl; url = refl; base = refl; deployment = refl; application = refl }

begin_known : (url : List ℕ) (at : ℕ) (heard : Heard) (old : Session) (reply : SessionReply)
    (new : Session) (job : Job) → BeginEffect url heard.texts old reply new → In job new.jobs
    → Known old (JobLine (calls.Begin url) at heard) job
begin_known url at heard old reply new job done there =
    by (in_either old.jobs (opened ∷ []) job
    (subst (λ (s : Session). In job s.jobs) done.begun.is there))
  where
    opened : Job
    opened = new_job done.target done.base done.deployment done.application done.files old

    by : In job old.jobs ⊎ In job (opened ∷ []) → Known old (JobLine (calls.Begin url) at heard) job
    by (inl before) = was_there old (JobLine (calls.Begin url) at heard) job before
    by (inr (inl is)) = inr (subst (IsBegunBy (JobLine (calls.Begin url) at heard) old) is (record {
      url = url;
      at = at;
      heard = heard;
      is = refl;
      read = done.read;
      told = done.told;
      joined = done.joined;
      number = refl;
    }))
    by (inr (inr none)) = absurd none

job_known : (now : ℕ) (at : ℕ) (heard : Heard) (old : Session) (command : JobCommand)
    (reply : SessionReply) (new : Session) (job : Job)
    → Kind now heard.texts old command reply new → In job new.jobs
    → Known old (JobLine command at heard) job
job_known now at heard old command reply new job (IsMemory e same) there =
    same_jobs old (JobLine command at heard) job new (jobs_of old new same) there
job_known now at heard old command reply new job (IsRefused refused same) there =
    same_jobs old (JobLine command at heard) job new (jobs_of old new same) there
job_known now at heard old (calls.Begin url) reply new job (IsDone passes done) there =
    begin_known url at heard old reply new job done there
job_known now at heard old (calls.Step number) reply new job (IsDone passes done) there =
    step_known old (JobLine (calls.Step number) at heard) job number done.entry done.bytes done.rest
    (subst (λ (s : Session). In job s.jobs) done.is there)
job_known now at heard old (calls.Commit number) reply new job (IsDone passes done) there =
    was_there old (JobLine (calls.Commit number) at heard) job
    (filter_in (is_kept number old) old.jobs job
    (subst (λ (s : Session). In job s.jobs) done.is there)).1
job_known now at heard old (calls.Abandon number) reply new job (IsDone passes done) there =
    was_there old (JobLine (calls.Abandon number) at heard) job
    (filter_in (is_kept number old) old.jobs job
    (subst (λ (s : Session). In job s.jobs) done.1 there)).1

step_in : (now : ℕ) (old : Session) (event : SessionEvent) (reply : Option SessionReply)
    (new : Session) → SessionStep now old event reply new → (job : Job) → In job new.jobs
    → Known old event job
step_in now old (MachineEvent event) reply new step job there =
    same_jobs old (MachineEvent event) job new (beside_jobs now old event step.0 new step.2) there
step_in now old (JobLine command at heard) reply new step job there =
    job_known now at heard old command step.answer new job
    (kind_of now heard.texts old command step.answer new step.answers) there

pub keep_release : (now : ℕ) (old : Session) (event : SessionEvent) (reply : Option SessionReply)
    (new : Session) → SessionStep now old event reply new → (job : Job) → Contains new.jobs job
    → Any (IsOfJob job) old.jobs ⊎ IsBegunBy event old job
keep_release now old event reply new step job there =
    step_in now old event reply new step job (in_contains new.jobs job there)

-- ---- addresses

-- a file is wanted of a begin only where it has an address
module _ (url : List ℕ) (heard : List (List ℕ)) (old : Session) (reply : SessionReply)
    (new : Session) (passes : PassesAll (begin_refusals url heard (job_shape_of old)))
    (done : BeginEffect url heard old reply new) where
  base_is : (target_of_text url >>= (λ (t : Target). app_target_of t done.deployment.codebase))
      ≡ Ok done.base
  base_is =
      ap
      (λ (r : Result Target UrlFault).
      r >>= (λ (t : Target). app_target_of t done.deployment.codebase)) done.read
      ∙ done.joined

  reached : (entry : FileEntry) → In entry (wanted (shape_of old).views done.application)
      → (target : Target)
      × (file_target_of done.base done.deployment.mapped entry.name ≡ Ok target)
  reached entry there = by (file_reached done.base done.deployment.mapped entry.name)
    where
      by : IsReached (file_target_of done.base done.deployment.mapped entry.name)
          → (target : Target)
          × (file_target_of done.base done.deployment.mapped entry.name ≡ Ok target)
      by (inl is) = is
      by (inr bad) =
          let told = done.told in
          let second = told.4 in
          absurd (passes.1.1.1.1.1.1.1.1.1.1.1.1.1.1.1.1.1.0 (
            told.0,
            told.1,
            told.2,
            told.3,
            (
              second.0,
              second.1,
              second.2,
              second.3,
              subst
                  (λ (x : Deployment). OfWanted url (shape_of old) x second.1 (λ t. t ≡ Err BadUrl))
                  (sym second.4.0)
                  (subst
                  (λ (x : Application).
                  OfWanted url (shape_of old) done.deployment x (λ t. t ≡ Err BadUrl)) (sym second.4.1) (
                    done.base,
                    base_is,
                    any_in
                        (λ (e : FileEntry). file_target_of done.base done.deployment.mapped e.name ≡ Err BadUrl)
                        (wanted (shape_of old).views done.application) entry there bad,
                  )),
            ),
          ))

  begun_reached : All IsReachable old.jobs → All IsReachable new.jobs
  begun_reached each =
      subst (λ (s : Session). All IsReachable s.jobs) (sym done.begun.is)
      (All-push IsReachable old.jobs
      (new_job done.target done.base done.deployment done.application done.files old) each
      (in_all
      (λ (e : FileEntry). (target : Target)
      × (file_target_of done.base done.deployment.mapped e.name ≡ Ok target))
      (wanted (shape_of old).views done.application) reached))

job_reached : (now : ℕ) (heard : List (List ℕ)) (old : Session) (command : JobCommand)
    (reply : SessionReply) (new : Session) → SoundSessionWithJobs old
    → All IsReachable old.jobs → Kind now heard old command reply new → All IsReachable new.jobs
job_reached now heard old command reply new was each (IsMemory e same) =
    subst (All IsReachable) (sym (jobs_of old new same)) each
job_reached now heard old command reply new was each (IsRefused refused same) =
    subst (All IsReachable) (sym (jobs_of old new same)) each
job_reached now heard old (calls.Begin url) reply new was each (IsDone passes done) =
    begun_reached url heard old reply new passes done each
job_reached now heard old (calls.Step number) reply new was each (IsDone passes done) =
    let known = job_in number old.jobs done.job done.found in
    subst (λ (s : Session). All IsReachable s.jobs) (sym done.is)
    (changed_all number old was done.job known.0 known.1 done.entry done.rest done.first done.bytes
    done.fetched IsReachable
    (λ reach. All-tail
    (λ (e : FileEntry). (target : Target)
    × (file_target_of done.job.base done.job.deployment.mapped e.name ≡ Ok target)) done.entry
    done.rest
    (subst
    (λ (es : List FileEntry). All
    (λ (e : FileEntry). (target : Target)
    × (file_target_of done.job.base done.job.deployment.mapped e.name ≡ Ok target)) es) done.first
    reach)) each)
job_reached now heard old (calls.Commit number) reply new was each (IsDone passes done) =
    subst (λ (s : Session). All IsReachable s.jobs) (sym done.is)
    (All-filter (is_kept number old) IsReachable old.jobs each)
job_reached now heard old (calls.Abandon number) reply new was each (IsDone passes done) =
    subst (λ (s : Session). All IsReachable s.jobs) (sym done.1)
    (All-filter (is_kept number old) IsReachable old.jobs each)

pub keep_addresses : (now : ℕ) (old : Session) (event : SessionEvent)
    (reply : Option SessionReply) (new : Session) → SessionStep now old event reply new
    → SoundSessionWithJobs old → All IsReachable old.jobs → All IsReachable new.jobs
keep_addresses now old (MachineEvent event) reply new step was each =
    subst (All IsReachable) (sym (beside_jobs now old event step.0 new step.2)) each
keep_addresses now old (JobLine command at heard) reply new step was each =
    job_reached now heard.texts old command step.answer new was each
    (kind_of now heard.texts old command step.answer new step.answers)
