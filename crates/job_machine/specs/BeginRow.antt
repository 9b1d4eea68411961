-- begin URL: a job for the release at the address, of which both manifests are heard.
use Rattle.std.specs.Prelude.{◌≡◌, ◌<◌, ◌≤◌, ◌+◌, ◌&&◌, ℕ, List, [], ◌∷◌, ◌++◌, All, Any, filter, length, map, take, Ok, Err}
use Rattle.small_types.specs.declared.limits.TheConstants.{JOB_LIMIT, NUMBER_LIMIT}
use Rattle.small_types.specs.declared.target.Target.{Target}
use Rattle.addresses.specs.declared.fault.UrlFault.TheVariants.{BadUrl}
use Rattle.addresses.specs.Address.{target_of_text}
use Rattle.addresses.specs.Join.{app_target_of}
use Rattle.manifests.specs.declared.facts.Application.{Application}
use Rattle.manifests.specs.declared.facts.Deployment.{Deployment}
use Rattle.machine.specs.declared.reply.Reply.{Reply}
use Rattle.machine.specs.declared.reply.Reply.TheVariants as says
use Rattle.machine.specs.Blocks.{free_blocks, standing_files}
use Rattle.machine.specs.InstallRow.{HearsRelease, OfRelease, OfWanted, address_refusals, deployment_refusals, place_refusals}
use Rattle.machine.specs.Rows.{PassesAll, Refusal, exactly, exactly_with}
use Rattle.machine.specs.Shape.{Shape, bare_view, shape_of}
use Rattle.machine.specs.Sound.{program_files_of}
use Rattle.machine.specs.Store.{Job, Session, Store}
use Rattle.machine.specs.Views.{ListedFile, content_key, is_required}
use Rattle.machine.specs.Wanted.{is_held, wanted}
use Rattle.job_machine.specs.declared.reply.JobReply.TheVariants as tells
use Rattle.job_machine.specs.Jobs.{JobShape}
use Rattle.job_machine.specs.Needs.{begin_need}
use Rattle.job_machine.specs.Replies.{OfJob, OfMachine, SessionReply, as_answers}

-- ---- refusals

-- as many jobs are open as may be, or no number is left for another one
abbrev pub number_refusals : JobShape → List (Refusal SessionReply Session)
number_refusals session =
    exactly (JOB_LIMIT ≤ length session.jobs) (OfJob tells.JobsFull)
    ∷ exactly (session.next_job ≡ NUMBER_LIMIT) (OfMachine (says.Spent session.next_job))
    ∷ []

-- Those of an install up to the release, and too many listed files. These are the first four of
-- what an install has behind the deployment. Files are counted of kept views alone, and how many
-- data files the view is going to have is not asked yet.
abbrev pub heard_refusals : List ℕ → List (List ℕ) → Shape → List (Refusal Reply Session)
heard_refusals url heard shape =
    address_refusals url ++ deployment_refusals url heard shape
    ++ take 4 (place_refusals url heard shape)

-- a wanted file has no address, or there are not as many blocks
abbrev pub room_refusals : List ℕ → List (List ℕ) → Shape → List (Refusal Reply Session)
room_refusals url heard shape =
    exactly (OfRelease heard (λ d a. OfWanted url shape d a (λ target. target ≡ Err BadUrl)))
    says.BadUrl
    ∷ exactly_with
    (λ need. OfRelease heard (λ d a. (need ≡ begin_need shape a) × (free_blocks shape < need)))
    (λ need. says.Full need (free_blocks shape))
    ∷ []

abbrev pub begin_refusals :
    List ℕ → List (List ℕ) → JobShape → List (Refusal SessionReply Session)
begin_refusals url heard session =
    number_refusals session ++ as_answers (heard_refusals url heard session.shape)
    ++ as_answers (room_refusals url heard session.shape)

-- ---- the effect

-- The required files whose contents kept views hold, with the bytes that are there.
pub record AreHeld (store : Store) (a : Application) (files : List ListedFile) : Type 0 where
  pub listed : map (λ file. file.entry) files
      ≡ filter
      (λ entry. is_required entry && is_held (standing_files (map bare_view store.views)) entry)
      a.files
  pub bytes : All (λ file.
      Any (λ held. (content_key held.entry ≡ content_key file.entry) × (held.bytes ≡ file.bytes))
      (program_files_of store)) files

-- a job of the release with the next number, which has these files, and has the wanted ones left
abbrev pub new_job :
    Target → Target → Deployment → Application → List ListedFile → Session → Job
new_job url base d a files old = record {
  number = old.next_job;
  url = url;
  base = base;
  deployment = d;
  application = a;
  left = wanted (shape_of old).views a;
  files = files;
}

-- the session with one more job
abbrev pub with_new_job : Job → Session → Session
with_new_job job old = record old { jobs = old.jobs ++ job ∷ []; next_job = old.next_job + 1 }

-- new is old once a job of the release is open, which has the files whose contents kept views hold
pub record Begun (url base : Target) (d : Deployment) (a : Application) (files : List ListedFile)
    (old new : Session) : Type 0 where
  pub held : AreHeld old.store a files
  pub is : new ≡ with_new_job (new_job url base d a files old) old

-- the release that was heard has a job; the reply shows its number, and how many files it has left
pub record BeginEffect (url : List ℕ) (heard : List (List ℕ)) (old : Session)
    (reply : SessionReply) (new : Session) : Type 0 where
  pub target : Target
  pub read : target_of_text url ≡ Ok target
  pub deployment : Deployment
  pub application : Application
  pub told : OfRelease heard (λ d a. (d ≡ deployment) × (a ≡ application))
  pub base : Target
  pub joined : app_target_of target deployment.codebase ≡ Ok base
  pub files : List ListedFile
  pub begun : Begun target base deployment application files old new
  pub replied : reply
      ≡ OfJob (tells.Job old.next_job (length (wanted (shape_of old).views application)))

-- ---- what it hears

-- nothing; or what an install does, where a job may be opened
abbrev pub HearsBegin : List ℕ → JobShape → List (List ℕ) → Type 0
HearsBegin url session [] = Unit {0}
HearsBegin url session (text ∷ texts) =
    PassesAll (number_refusals session) × HearsRelease url session.shape (text ∷ texts)
