-- Where no job is open a line of the machine is answered as ever.
use Rattle.std.proofs.Common.{◌≡◌, ◌↔◌, inl, inr, sym, subst, ℕ, List, [], All, arith}
use Rattle.machine.specs.declared.command.Command.{Command}
use Rattle.machine.specs.declared.command.Command.TheVariants.{At, Require, Install, Check, Skip, Rollback, Launch, Read, Local, Put, Remove, Group, Finish, Clean, Show}
use Rattle.machine.specs.declared.command.Command.TheVariants as asks
use Rattle.machine.specs.declared.reply.Reply.{Reply}
use Rattle.machine.specs.GroupRow.{Comes}
use Rattle.machine.specs.Machine.{Answers}
use Rattle.machine.specs.SoundSession.{program_files_in}
use Rattle.machine.specs.Store.{Job, Session, Store}
use Rattle.machine.specs.Views.{ListedFile, View}
use Rattle.job_machine.specs.FreeBytes.{Agree}
use Rattle.job_machine.specs.GroupBeside.{ComesBeside}
use Rattle.job_machine.specs.Sessions.{AnswersBeside}
use Rattle.job_machine.proofs.Alone.{comes_alone}

-- ---- what agrees with no job

agree_none : (files : List ListedFile) → All (Agree (program_files_in [])) files
agree_none files = λ k d within j e none. absurd (omega arith)

coming_none : (group : List ℕ) (view : View) (old new : Store) → Comes group view old new
    → ComesBeside [] group view old new
coming_none group view old new (inl stands) = inl stands
coming_none group view old new (inr comes) = inr (comes.0, comes.1, agree_none comes.1.files)

-- ---- a session without jobs

module _ (now : ℕ) (heard : List (List ℕ)) (old : Session) where
  abbrev with_jobs : List Job → Session
  with_jobs jobs = record old { jobs = jobs }

  abbrev AsEver : List Job → Command → Reply → Session → Type 0
  AsEver jobs command reply new =
      AnswersBeside now heard (with_jobs jobs) command reply new
      ↔ Answers now heard (with_jobs jobs) command reply new

  module _ (reply : Reply) (new : Session) where
    install_to : (url : List ℕ) → AnswersBeside now heard (with_jobs []) (Install url) reply new
        → Answers now heard (with_jobs []) (Install url) reply new
    install_to url (inl refused) = inl refused
    install_to url (inr done) = inr (done.0, done.1.effect)

    install_from : (url : List ℕ) → Answers now heard (with_jobs []) (Install url) reply new
        → AnswersBeside now heard (with_jobs []) (Install url) reply new
    install_from url (inl refused) = inl refused
    install_from url (inr done) =
        inr (done.0, record { effect = done.1; agree = agree_none done.1.files })

    group_to : (lease : ℕ) (group : List ℕ)
        → AnswersBeside now heard (with_jobs []) (Group lease group) reply new
        → Answers now heard (with_jobs []) (Group lease group) reply new
    group_to lease group (inl refused) = inl refused
    group_to lease group (inr done) =
        inr (
          done.0,
          record {
            view = done.1.view;
            leased = done.1.leased;
            replied = done.1.replied;
            store = done.1.store;
            comes = comes_alone [] group done.1.view old.store done.1.store done.1.comes;
            is = done.1.is;
          },
        )

    group_from : (lease : ℕ) (group : List ℕ)
        → Answers now heard (with_jobs []) (Group lease group) reply new
        → AnswersBeside now heard (with_jobs []) (Group lease group) reply new
    group_from lease group (inl refused) = inl refused
    group_from lease group (inr done) =
        inr (
          done.0,
          record {
            view = done.1.view;
            leased = done.1.leased;
            replied = done.1.replied;
            store = done.1.store;
            comes = coming_none group done.1.view old.store done.1.store done.1.comes;
            is = done.1.is;
          },
        )

    as_ever : (command : Command) → AsEver [] command reply new
    as_ever (At next) = (λ a. a, λ a. a)
    as_ever (Require key version) = (λ a. a, λ a. a)
    as_ever (Install url) = (install_to url, install_from url)
    as_ever (Check key) = (λ a. a, λ a. a)
    as_ever (Skip key) = (λ a. a, λ a. a)
    as_ever (Rollback key) = (λ a. a, λ a. a)
    as_ever (Launch key) = (λ a. a, λ a. a)
    as_ever (Read lease name from count) = (λ a. a, λ a. a)
    as_ever (Local lease name from count) = (λ a. a, λ a. a)
    as_ever (Put lease name bytes) = (λ a. a, λ a. a)
    as_ever (Remove lease name) = (λ a. a, λ a. a)
    as_ever (Group lease group) = (group_to lease group, group_from lease group)
    as_ever (Finish lease) = (λ a. a, λ a. a)
    as_ever Clean = (λ a. a, λ a. a)
    as_ever asks.List = (λ a. a, λ a. a)
    as_ever (Show key) = (λ a. a, λ a. a)

pub lines_as_ever : (now : ℕ) (heard : List (List ℕ)) (old : Session) (command : Command)
    (reply : Reply) (new : Session) → old.jobs ≡ []
    → AnswersBeside now heard old command reply new ↔ Answers now heard old command reply new
lines_as_ever now heard old command reply new none =
    subst (λ (jobs : List Job). AsEver now heard old jobs command reply new) (sym none)
    (as_ever now heard old reply new command)
