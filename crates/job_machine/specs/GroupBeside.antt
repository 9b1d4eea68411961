-- group L GROUP where jobs are open: of what they count it needs no block, and a file that it
-- fetches has the bytes that a job has for its content.
use Rattle.std.specs.Prelude.{◌≡◌, ◌⊎◌, ◌<◌, ℕ, true, false, List, [], ◌∷◌, ◌++◌, All, length, take, Some}
use Rattle.machine.specs.declared.reply.Reply.{Reply}
use Rattle.machine.specs.declared.reply.Reply.TheVariants as says
use Rattle.machine.specs.Blocks.{free_blocks}
use Rattle.machine.specs.Grouped.{Grouped}
use Rattle.machine.specs.GroupRow.{OfComing, missing_refusals, place_refusals, weight_refusals}
use Rattle.machine.specs.Groups.{group_files, group_stands}
use Rattle.machine.specs.Leases.{leased_view}
use Rattle.machine.specs.Rows.{Refusal, exactly_with}
use Rattle.machine.specs.Shape.{Shape}
use Rattle.machine.specs.SoundSession.{program_files_in}
use Rattle.machine.specs.Store.{Job, Session, Store}
use Rattle.machine.specs.Views.{View}
use Rattle.job_machine.specs.FreeBytes.{Agree}
use Rattle.job_machine.specs.Needs.{group_need}

-- there are not as many blocks as a group needs that does not stand yet
abbrev pub full_refusals : ℕ → List ℕ → Shape → List (Refusal Reply Session)
full_refusals lease group shape =
    exactly_with
    (λ need. OfComing lease group shape (λ view.
    (need ≡ group_need shape group view.application) × (free_blocks shape < need)))
    (λ need. says.Full need (free_blocks shape))
    ∷ []

-- those of the machine, with what is needed here in place of the last one of its place
abbrev pub room_refusals_beside : ℕ → List ℕ → Shape → List (Refusal Reply Session)
room_refusals_beside lease group shape =
    take 3 (place_refusals lease group shape) ++ full_refusals lease group shape
    ++ weight_refusals lease group shape

abbrev pub group_refusals_beside : ℕ → List ℕ → Shape → List (Refusal Reply Session)
group_refusals_beside lease group shape =
    room_refusals_beside lease group shape ++ missing_refusals lease group shape

-- a group that stands leaves the store as it was; any other one comes to stand, with files that
-- agree with those of jobs
abbrev pub ComesBeside : List Job → List ℕ → View → Store → Store → Type 0
ComesBeside jobs group view old new =
    ((group_stands group view.groups ≡ true) × (new ≡ old))
    ⊎ ((group_stands group view.groups ≡ false) × (grown : Grouped group view old new)
    × All (Agree (program_files_in jobs)) grown.files)

-- the reply shows the number of its files
pub record GroupsBeside (lease : ℕ) (group : List ℕ) (old : Session) (reply : Reply)
    (new : Session) : Type 0 where
  pub view : View
  pub leased : leased_view lease old.store ≡ Some view
  pub replied : reply ≡ says.Group (length (group_files group view.application))
  pub store : Store
  pub comes : ComesBeside old.jobs group view old.store store
  pub is : new ≡ record old { store = store }
