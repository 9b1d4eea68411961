-- What refusals answer: never what a line answers that is not refused.
use Rattle.std.proofs.Common.{◌≡◌, ◌++◌, ap, sym, subst, refl, false, ℕ, List, [], ◌∷◌}
use Rattle.machine.specs.declared.command.Command.{Command}
use Rattle.machine.specs.declared.command.Command.TheVariants.{At, Require, Install, Check, Skip, Rollback, Launch, Read, Local, Put, Remove, Group, Finish, Clean, Show}
use Rattle.machine.specs.declared.command.Command.TheVariants as asks
use Rattle.machine.specs.declared.reply.Reply.{Reply}
use Rattle.machine.specs.Rows.{Refusal, exactly, exactly_with}
use Rattle.machine.specs.Shape.{Shape}
use Rattle.machine.specs.Store.{Session}
use Rattle.job_machine.specs.declared.command.JobCommand.{JobCommand}
use Rattle.job_machine.specs.declared.command.JobCommand.TheVariants as calls
use Rattle.job_machine.specs.BeginRow.{heard_refusals, number_refusals, room_refusals}
use Rattle.job_machine.specs.PlainRuns.{is_ok}
use Rattle.job_machine.specs.InstallBeside.{install_refusals_beside}
use Rattle.job_machine.specs.Jobs.{JobShape}
use Rattle.job_machine.specs.Replies.{OfJob, OfMachine, SessionReply, as_answer, as_answers}
use Rattle.job_machine.specs.Sessions.{job_refusals, refusals_beside}
use Rattle.machine.proofs.FirstRefusal.{AllGive, give_both}

-- ---- replies

abbrev pub IsRefusal : Reply → Type 0
IsRefusal reply = is_ok reply ≡ false

-- the same of an answer: what lines of jobs alone answer sets nothing and installs nothing
abbrev pub IsNoEffect : SessionReply → Type 0
IsNoEffect (OfMachine reply) = is_ok reply ≡ false
IsNoEffect (OfJob reply) = Unit {0}

-- ---- lines of the machine

module _ (now : ℕ) (heard : List (List ℕ)) (shape : Shape) where
  install_refused : (url : List ℕ) → AllGive IsRefusal (install_refusals_beside url heard shape)
  install_refused url = (
    (λ r given. ap is_ok given.1),
    (
      (λ r given. ap is_ok given.2),
      (
        (λ r given. ap is_ok given.3),
        (
          (λ r given. ap is_ok given.2),
          (
            (λ r given. ap is_ok given.2),
            (
              (λ r given. ap is_ok given.2),
              (
                (λ r given. ap is_ok given.1),
                (
                  (λ r given. ap is_ok given.1),
                  (
                    (λ r given. ap is_ok given.1),
                    (
                      (λ r given. ap is_ok given.1),
                      (
                        (λ r given. ap is_ok given.2),
                        (
                          (λ r given. ap is_ok given.3),
                          (
                            (λ r given. ap is_ok given.2),
                            (
                              (λ r given. ap is_ok given.2),
                              (
                                (λ r given. ap is_ok given.1),
                                (
                                  (λ r given. ap is_ok given.1),
                                  (
                                    (λ r given. ap is_ok given.1),
                                    (
                                      (λ r given. ap is_ok given.2),
                                      (
                                        (λ r given. ap is_ok given.2),
                                        ((λ r given. ap is_ok given.3), tt),
                                      ),
                                    ),
                                  ),
                                ),
                              ),
                            ),
                          ),
                        ),
                      ),
                    ),
                  ),
                ),
              ),
            ),
          ),
        ),
      ),
    ),
  )

  pub refused_beside : (command : Command) → AllGive IsRefusal (refusals_beside now heard shape command)
  refused_beside (At next) = tt
  refused_beside (Require key version) =
      ((λ r given. ap is_ok given.1), ((λ r given. ap is_ok given.2), tt))
  refused_beside (Install url) = install_refused url
  refused_beside (Check key) = (
    (λ r given. ap is_ok given.1),
    (
      (λ r given. ap is_ok given.3),
      ((λ r given. ap is_ok given.2), ((λ r given. ap is_ok given.2), tt)),
    ),
  )
  refused_beside (Skip key) = (
    (λ r given. ap is_ok given.1),
    ((λ r given. ap is_ok given.2), ((λ r given. ap is_ok given.1), tt)),
  )
  refused_beside (Rollback key) = (
    (λ r given. ap is_ok given.1),
    ((λ r given. ap is_ok given.1), ((λ r given. ap is_ok given.2), tt)),
  )
  refused_beside (Launch key) = (
    (λ r given. ap is_ok given.1),
    (
      (λ r given. ap is_ok given.2),
      (
        (λ r given. ap is_ok given.1),
        (
          (λ r given. ap is_ok given.2),
          ((λ r given. ap is_ok given.1), ((λ r given. ap is_ok given.1), tt)),
        ),
      ),
    ),
  )
  refused_beside (Read lease name from count) =
      ((λ r given. ap is_ok given.1), ((λ r given. ap is_ok given.1), tt))
  refused_beside (Local lease name from count) =
      ((λ r given. ap is_ok given.1), ((λ r given. ap is_ok given.1), tt))
  refused_beside (Put lease name bytes) = (
    (λ r given. ap is_ok given.1),
    (
      (λ r given. ap is_ok given.1),
      (
        (λ r given. ap is_ok given.1),
        ((λ r given. ap is_ok given.2), ((λ r given. ap is_ok given.2), tt)),
      ),
    ),
  )
  refused_beside (Remove lease name) =
      ((λ r given. ap is_ok given.1), ((λ r given. ap is_ok given.1), tt))
  refused_beside (Group lease group) = (
    (λ r given. ap is_ok given.1),
    (
      (λ r given. ap is_ok given.1),
      (
        (λ r given. ap is_ok given.1),
        (
          (λ r given. ap is_ok given.2),
          ((λ r given. ap is_ok given.2), ((λ r given. ap is_ok given.3), tt)),
        ),
      ),
    ),
  )
  refused_beside (Finish lease) = ((λ r given. ap is_ok given.1), tt)
  refused_beside Clean = tt
  refused_beside asks.List = tt
  refused_beside (Show key) = ((λ r given. ap is_ok given.1), tt)

-- ---- lines of jobs

-- a refusal of the machine, as an answer
answered : (refusal : Refusal Reply Session) → ((r : Reply) → refusal.gives r → IsRefusal r)
    → (answer : SessionReply) → (as_answer refusal).gives answer → IsNoEffect answer
answered refusal each answer given = subst IsNoEffect (sym given.2) (each given.0 given.1)

answers : (refusals : List (Refusal Reply Session)) → AllGive IsRefusal refusals
    → AllGive IsNoEffect (as_answers refusals)
answers [] each = tt
answers (refusal ∷ refusals) each = (answered refusal each.0, answers refusals each.1)

-- one reply
one : (when : Type 0) (reply : SessionReply) → IsNoEffect reply → (answer : SessionReply)
    → (exactly {S = Session} when reply).gives answer → IsNoEffect answer
one when reply is answer given = subst IsNoEffect (sym given.1) is

-- a reply that shows something
shown : {A : Type 0} (when : A → Type 0) (reply : A → SessionReply)
    → ((x : A) → IsNoEffect (reply x)) → (answer : SessionReply)
    → (exactly_with {S = Session} when reply).gives answer → IsNoEffect answer
shown when reply is answer given = subst IsNoEffect (sym given.2) (is given.0)

module _ (heard : List (List ℕ)) (session : JobShape) where
  abbrev shape : Shape
  shape = session.shape

  heard_refused : (url : List ℕ) → AllGive IsRefusal (heard_refusals url heard shape)
  heard_refused url = (
    (λ r given. ap is_ok given.1),
    (
      (λ r given. ap is_ok given.2),
      (
        (λ r given. ap is_ok given.3),
        (
          (λ r given. ap is_ok given.2),
          (
            (λ r given. ap is_ok given.2),
            (
              (λ r given. ap is_ok given.2),
              (
                (λ r given. ap is_ok given.1),
                (
                  (λ r given. ap is_ok given.1),
                  (
                    (λ r given. ap is_ok given.1),
                    (
                      (λ r given. ap is_ok given.1),
                      (
                        (λ r given. ap is_ok given.2),
                        (
                          (λ r given. ap is_ok given.3),
                          (
                            (λ r given. ap is_ok given.2),
                            ((λ r given. ap is_ok given.2), ((λ r given. ap is_ok given.1), tt)),
                          ),
                        ),
                      ),
                    ),
                  ),
                ),
              ),
            ),
          ),
        ),
      ),
    ),
  )

  begin_refused : (url : List ℕ) → AllGive IsNoEffect (job_refusals heard session (calls.Begin url))
  begin_refused url =
      give_both IsNoEffect
      (number_refusals session ++ as_answers (heard_refusals url heard shape))
      (as_answers (room_refusals url heard shape))
      (give_both IsNoEffect (number_refusals session) (as_answers (heard_refusals url heard shape))
      (one _ _ tt, (one _ _ refl, tt)) (answers (heard_refusals url heard shape) (heard_refused url)))
      (answers (room_refusals url heard shape)
      ((λ r given. ap is_ok given.1), ((λ r given. ap is_ok given.2), tt)))

  step_refused : (number : ℕ) → AllGive IsNoEffect (job_refusals heard session (calls.Step number))
  step_refused number = (
    one _ _ tt,
    (
      one _ _ tt,
      ((λ r given. subst IsNoEffect (sym given.2) (ap is_ok given.1.3)), tt),
    ),
  )

  commit_refused : (number : ℕ)
      → AllGive IsNoEffect (job_refusals heard session (calls.Commit number))
  commit_refused number = (
    one _ _ tt,
    (
      shown _ _ (λ left. tt),
      (
        shown _ _ (λ have. refl),
        (
          shown _ _ (λ minimum. refl),
          (
            one _ _ refl,
            (
              one _ _ refl,
              (
                one _ _ refl,
                (
                  one _ _ refl,
                  (
                    one _ _ refl,
                    (shown _ _ (λ need. refl), (shown _ _ (λ weight. refl), tt)),
                  ),
                ),
              ),
            ),
          ),
        ),
      ),
    ),
  )

  pub refused_job : (command : JobCommand) → AllGive IsNoEffect (job_refusals heard session command)
  refused_job (calls.Begin url) = begin_refused url
  refused_job (calls.Step number) = step_refused number
  refused_job (calls.Commit number) = commit_refused number
  refused_job (calls.Abandon number) = (one _ _ tt, tt)
