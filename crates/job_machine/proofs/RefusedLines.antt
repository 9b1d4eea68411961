-- What a line of the machine leaves that is refused beside open jobs: everything, but for a check
-- that no link answers.
use Rattle.std.proofs.Common.{◌≡◌, ◌∙◌, ◌⊎◌, inl, inr, refl, sym, ap, subst, true, false, ℕ, List, Some}
use Rattle.machine.specs.declared.command.Command.{Command}
use Rattle.machine.specs.declared.command.Command.TheVariants.{At, Require, Install, Check, Skip, Rollback, Launch, Read, Local, Put, Remove, Group, Finish, Clean, Show}
use Rattle.machine.specs.declared.command.Command.TheVariants as asks
use Rattle.machine.specs.declared.reply.Reply.{Reply}
use Rattle.machine.specs.declared.reply.Reply.TheVariants as says
use Rattle.machine.specs.CheckRow.{unheard_store}
use Rattle.machine.specs.Laws.{IsAllLinks}
use Rattle.machine.specs.Machine.{moment_after}
use Rattle.machine.specs.Rows.{ChangeNothing, PassesAll, Refuses}
use Rattle.machine.specs.Shape.{Shape, shape_of}
use Rattle.machine.specs.Store.{Session}
use Rattle.machine.proofs.CheckFacts.{check_refused}
use Rattle.machine.proofs.FirstRefusal.{given_reply, unchanged}
use Rattle.job_machine.specs.PlainRuns.{CountsCheck, counts_check, is_ok}
use Rattle.job_machine.specs.Sessions.{AnswersBeside, effect_beside, refusals_beside}
use Rattle.job_machine.proofs.Refused.{IsRefusal, refused_beside}

-- ---- what changes nothing

same : (session : Session) → session ≡ session
same session = refl

module _ (now : ℕ) (heard : List (List ℕ)) (shape : Shape) where
  pub install_same : (url : List ℕ) → ChangeNothing (refusals_beside now heard shape (Install url))
  install_same url = (
    same,
    (
      same,
      (
        same,
        (
          same,
          (
            same,
            (
              same,
              (
                same,
                (
                  same,
                  (
                    same,
                    (
                      same,
                      (
                        same,
                        (
                          same,
                          (
                            same,
                            (same, (same, (same, (same, (same, (same, (same, tt))))))),
                          ),
                        ),
                      ),
                    ),
                  ),
                ),
              ),
            ),
          ),
        ),
      ),
    ),
  )

  pub group_same : (lease : ℕ) (group : List ℕ)
      → ChangeNothing (refusals_beside now heard shape (Group lease group))
  group_same lease group = (same, (same, (same, (same, (same, (same, tt))))))

-- ---- a refused line

-- nothing changes, or a check counts as made
abbrev pub Leaves : Command → Session → Reply → Session → Type 0
Leaves command old reply new =
    ((counts_check command reply ≡ false) × (new ≡ old))
    ⊎ ((counts_check command reply ≡ true) × CountsCheck command reply old.store new.store
    × (new ≡ record old { store = new.store }))

not_counted : (key : _) (reply : Reply) → (IsAllLinks reply → ⊥)
    → counts_check (Check key) reply ≡ false
not_counted key (says.AllLinks target causes) none = absurd (none (target, causes, refl))
not_counted key _ none = refl

module _ (now : ℕ) (heard : List (List ℕ)) (old : Session) (reply : Reply) (new : Session) where
  unchanged_by : (command : Command) → counts_check command reply ≡ false
      → ChangeNothing (refusals_beside now heard (shape_of old) command)
      → Refuses (refusals_beside now heard (shape_of old) command) old reply new
      → Leaves command old reply new
  unchanged_by command counts same refused =
      inl (
        counts,
        unchanged (refusals_beside now heard (shape_of old) command) old reply new same refused,
      )

  check_left : (key : _)
      → Refuses (refusals_beside now heard (shape_of old) (Check key)) old reply new
      → Leaves (Check key) old reply new
  check_left key refused = by (check_refused key heard old reply new refused)
    where
      by : ((IsAllLinks reply → ⊥) × (new ≡ old))
          ⊎ (IsAllLinks reply × (new ≡ record old { store = unheard_store key old.store }))
          → Leaves (Check key) old reply new
      by (inl other) = inl (not_counted key reply other.0, other.1)
      by (inr unheard) =
          let store : new.store ≡ unheard_store key old.store =
          ap (λ (s : Session). s.store) unheard.1 in
          subst (λ (r : Reply). Leaves (Check key) old r new) (sym unheard.0.2)
          (inr (
            refl,
            store,
            unheard.1 ∙ ap (λ s. record old { store = s }) (sym store),
          ))

  pub line_left : (command : Command)
      → Refuses (refusals_beside now heard (shape_of old) command) old reply new
      → Leaves command old reply new
  line_left (At next) refused = absurd refused
  line_left (Require key version) refused =
      unchanged_by (Require key version) refl (same, (same, tt)) refused
  line_left (Install url) refused =
      unchanged_by (Install url) refl (install_same now heard (shape_of old) url) refused
  line_left (Check key) refused = check_left key refused
  line_left (Skip key) refused = unchanged_by (Skip key) refl (same, (same, (same, tt))) refused
  line_left (Rollback key) refused =
      unchanged_by (Rollback key) refl (same, (same, (same, tt))) refused
  line_left (Launch key) refused =
      unchanged_by (Launch key) refl (same, (same, (same, (same, (same, (same, tt)))))) refused
  line_left (Read lease name from count) refused =
      unchanged_by (Read lease name from count) refl (same, (same, tt)) refused
  line_left (Local lease name from count) refused =
      unchanged_by (Local lease name from count) refl (same, (same, tt)) refused
  line_left (Put lease name bytes) refused =
      unchanged_by (Put lease name bytes) refl (same, (same, (same, (same, (same, tt))))) refused
  line_left (Remove lease name) refused =
      unchanged_by (Remove lease name) refl (same, (same, tt)) refused
  line_left (Group lease group) refused =
      unchanged_by (Group lease group) refl (group_same now heard (shape_of old) lease group) refused
  line_left (Finish lease) refused = unchanged_by (Finish lease) refl (same, tt) refused
  line_left Clean refused = absurd refused
  line_left asks.List refused = absurd refused
  line_left (Show key) refused = unchanged_by (Show key) refl (same, tt) refused

  -- its reply is that of a refusal
  pub refused_reply : (command : Command)
      → Refuses (refusals_beside now heard (shape_of old) command) old reply new
      → is_ok reply ≡ false
  refused_reply command refused =
      given_reply IsRefusal (refusals_beside now heard (shape_of old) command) old reply new
      (refused_beside now heard (shape_of old) command) refused

-- ---- an answer

-- want of memory, a refusal, or the effect of the row
pub data Kind (now : ℕ) (heard : List (List ℕ)) (old : Session) (command : Command) (reply : Reply)
    (new : Session) : Type 0 where
  IsMemory : reply ≡ says.Memory → new ≡ old → Kind now heard old command reply new
  IsRefused : Refuses (refusals_beside now heard (shape_of old) command) old reply new
      → Kind now heard old command reply new
  IsDone : PassesAll (refusals_beside now heard (shape_of old) command)
      → effect_beside now heard command old reply new → Kind now heard old command reply new

pub kind_of : (now : ℕ) (heard : List (List ℕ)) (old : Session) (command : Command) (reply : Reply)
    (new : Session) → AnswersBeside now heard old command reply new
    → Kind now heard old command reply new
kind_of now heard old command reply new (inl (inl memory)) = IsMemory memory.0 memory.1
kind_of now heard old command reply new (inl (inr refused)) = IsRefused refused.1
kind_of now heard old command reply new (inr done) = IsDone done.0.1 done.1

-- ---- the moment

-- what is refused sets none
pub refusal_moment : (now : ℕ) (reply : Reply) → is_ok reply ≡ false
    → moment_after now (Some reply) ≡ now
refusal_moment now (says.At next) is = absurd cc
refusal_moment now _ is = refl
