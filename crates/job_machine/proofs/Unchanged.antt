-- Lines of jobs that are refused change nothing, and no line but a commit changes the store.
use Rattle.std.proofs.Common.{◌≡◌, ◌++◌, inl, inr, refl, ap, ℕ, List, [], ◌∷◌}
use Rattle.machine.specs.declared.reply.Reply.{Reply}
use Rattle.machine.specs.declared.reply.Reply.TheVariants as says
use Rattle.machine.specs.Rows.{ChangeNothing, PassesAll, Refusal, Refuses}
use Rattle.machine.specs.Store.{Session}
use Rattle.machine.proofs.FirstRefusal.{unchanged}
use Rattle.machine.proofs.InstallFacts.{unchanged_both}
use Rattle.job_machine.specs.declared.command.JobCommand.{JobCommand}
use Rattle.job_machine.specs.declared.command.JobCommand.TheVariants as calls
use Rattle.job_machine.specs.declared.reply.JobReply.{JobReply}
use Rattle.job_machine.specs.BeginRow.{heard_refusals, number_refusals, room_refusals}
use Rattle.job_machine.specs.JobLaws.{JobsLeaveTheStore}
use Rattle.job_machine.specs.Jobs.{JobShape, job_shape_of}
use Rattle.job_machine.specs.Replies.{OfJob, OfMachine, SessionReply, as_answers}
use Rattle.job_machine.specs.Sessions.{JobAnswers, job_effect, job_refusals}

-- ---- refusals

answers_unchanged : (refusals : List (Refusal Reply Session)) → ChangeNothing refusals
    → ChangeNothing (as_answers refusals)
answers_unchanged [] same = tt
answers_unchanged (refusal ∷ refusals) same = (same.0, answers_unchanged refusals same.1)

same : (session : Session) → session ≡ session
same session = refl

module _ (heard : List (List ℕ)) (session : JobShape) where
  heard_unchanged : (url : List ℕ) → ChangeNothing (heard_refusals url heard session.shape)
  heard_unchanged url = (
    same,
    (
      same,
      (
        same,
        (
          same,
          (
            same,
            (
              same,
              (
                same,
                (
                  same,
                  (
                    same,
                    (
                      same,
                      (
                        same,
                        (
                          same,
                          (
                            same,
                            (same, (same, tt)),
                          ),
                        ),
                      ),
                    ),
                  ),
                ),
              ),
            ),
          ),
        ),
      ),
    ),
  )

  begin_unchanged : (url : List ℕ) → ChangeNothing (job_refusals heard session (calls.Begin url))
  begin_unchanged url =
      unchanged_both
      (number_refusals session ++ as_answers (heard_refusals url heard session.shape))
      (as_answers (room_refusals url heard session.shape))
      (unchanged_both (number_refusals session)
      (as_answers (heard_refusals url heard session.shape)) (same, (same, tt))
      (answers_unchanged (heard_refusals url heard session.shape) (heard_unchanged url)))
      (same, (same, tt))

  pub job_unchanged : (command : JobCommand) → ChangeNothing (job_refusals heard session command)
  job_unchanged (calls.Begin url) = begin_unchanged url
  job_unchanged (calls.Step number) = (same, (same, (same, tt)))
  job_unchanged (calls.Commit number) =
      (same, (same, (same, (same, (same, (same, (same, (same, (same, (same, (same, tt)))))))))))
  job_unchanged (calls.Abandon number) = (same, tt)

pub refused_same : (heard : List (List ℕ)) (session : JobShape) (command : JobCommand)
    (old : Session) (reply : SessionReply) (new : Session)
    → Refuses (job_refusals heard session command) old reply new → new ≡ old
refused_same heard session command old reply new refused =
    unchanged (job_refusals heard session command) old reply new
    (job_unchanged heard session command) refused

-- ---- answers

-- An answer is want of memory, or a refusal, and changes nothing; or it is the effect of the row.
pub data Kind (now : ℕ) (heard : List (List ℕ)) (old : Session) (command : JobCommand)
    (reply : SessionReply) (new : Session) : Type 0 where
  IsMemory : reply ≡ OfMachine says.Memory → new ≡ old → Kind now heard old command reply new
  IsRefused : Refuses (job_refusals heard (job_shape_of old) command) old reply new → new ≡ old
      → Kind now heard old command reply new
  IsDone : PassesAll (job_refusals heard (job_shape_of old) command)
      → job_effect now heard command old reply new → Kind now heard old command reply new

pub kind_of : (now : ℕ) (heard : List (List ℕ)) (old : Session) (command : JobCommand)
    (reply : SessionReply) (new : Session) → JobAnswers now heard old command reply new
    → Kind now heard old command reply new
kind_of now heard old command reply new (inl (inl memory)) = IsMemory memory.0 memory.1
kind_of now heard old command reply new (inl (inr refused)) =
    IsRefused refused.1
    (refused_same heard (job_shape_of old) command old reply new refused.1)
kind_of now heard old command reply new (inr done) = IsDone done.0.1 done.1

of_job_is_other : {P : Type 0} (reply : JobReply) → OfMachine says.Memory ≡ OfJob reply → P
of_job_is_other reply e = absurd cc

installed_is_other : {P : Type 0} (reply : Reply) → OfMachine says.Memory ≡ OfMachine reply
    → (says.Memory ≡ reply → ⊥) → P
installed_is_other reply e differ = absurd (differ (inside reply e))
  where
    inside : (r : Reply) → OfMachine says.Memory ≡ OfMachine r → says.Memory ≡ r
    inside r e = cc

memory_no_effect : (now : ℕ) (heard : List (List ℕ)) (old : Session) (command : JobCommand)
    (new : Session) → job_effect now heard command old (OfMachine says.Memory) new → new ≡ old
memory_no_effect now heard old (calls.Begin url) new done = of_job_is_other _ done.replied
memory_no_effect now heard old (calls.Step number) new done = of_job_is_other _ done.replied
memory_no_effect now heard old (calls.Commit number) new done =
    installed_is_other _ done.replied (λ e. cc)
memory_no_effect now heard old (calls.Abandon number) new done = of_job_is_other _ done.0

pub memory_same : (now : ℕ) (heard : List (List ℕ)) (old : Session) (command : JobCommand)
    (new : Session) → JobAnswers now heard old command (OfMachine says.Memory) new → new ≡ old
memory_same now heard old command new answers =
    by (kind_of now heard old command (OfMachine says.Memory) new answers)
  where
    by : Kind now heard old command (OfMachine says.Memory) new → new ≡ old
    by (IsMemory e is) = is
    by (IsRefused refused is) = is
    by (IsDone passes done) = memory_no_effect now heard old command new done

-- ---- the store

abbrev store_of : (new old : Session) → new ≡ old → new.store ≡ old.store
store_of new old is = ap (λ (s : Session). s.store) is

pub store_left : JobsLeaveTheStore
store_left = record {
  begin = λ now heard old url reply new answers.
      begun now heard old url reply new (kind_of now heard old (calls.Begin url) reply new answers);
  step = λ now heard old number reply new answers.
      stepped now heard old number reply new
      (kind_of now heard old (calls.Step number) reply new answers);
  abandon = λ now heard old number reply new answers.
      abandoned now heard old number reply new
      (kind_of now heard old (calls.Abandon number) reply new answers);
}
  where
    begun : (now : ℕ) (heard : List (List ℕ)) (old : Session) (url : List ℕ)
        (reply : SessionReply) (new : Session)
        → Kind now heard old (calls.Begin url) reply new → new.store ≡ old.store
    begun now heard old url reply new (IsMemory e is) = store_of new old is
    begun now heard old url reply new (IsRefused refused is) = store_of new old is
    begun now heard old url reply new (IsDone passes done) =
        ap (λ (s : Session). s.store) done.begun.is

    stepped : (now : ℕ) (heard : List (List ℕ)) (old : Session) (number : ℕ)
        (reply : SessionReply) (new : Session)
        → Kind now heard old (calls.Step number) reply new → new.store ≡ old.store
    stepped now heard old number reply new (IsMemory e is) = store_of new old is
    stepped now heard old number reply new (IsRefused refused is) = store_of new old is
    stepped now heard old number reply new (IsDone passes done) =
        ap (λ (s : Session). s.store) done.is

    abandoned : (now : ℕ) (heard : List (List ℕ)) (old : Session) (number : ℕ)
        (reply : SessionReply) (new : Session)
        → Kind now heard old (calls.Abandon number) reply new → new.store ≡ old.store
    abandoned now heard old number reply new (IsMemory e is) = store_of new old is
    abandoned now heard old number reply new (IsRefused refused is) = store_of new old is
    abandoned now heard old number reply new (IsDone passes done) =
        ap (λ (s : Session). s.store) done.1
