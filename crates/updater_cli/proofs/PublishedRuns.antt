-- What a run keeps of leases, and of the numbers of views.
use Rattle.std.proofs.Common.{◌≡◌, ◌≢◌, ◌∙◌, ◌⊎◌, ◌≤◌, inl, inr, refl, sym, ap, subst, ℕ, Bool, true, false, cond, eqb, List, [], ◌∷◌, Option, Some, arith}
use Rattle.std.proofs.lemmas.Bool.{cases_eq}
use Rattle.std.proofs.lemmas.Option.{none-some}
use Rattle.identity.specs.declared.key.Key.{Key}
use Rattle.machine.specs.declared.command.Command.{Command}
use Rattle.machine.specs.declared.command.Command.TheVariants.{At, Require, Install, Check, Skip, Rollback, Launch, Read, Local, Put, Remove, Group, Finish, Clean, Show}
use Rattle.machine.specs.declared.command.Command.TheVariants as asks
use Rattle.machine.specs.declared.event.Event.{Event}
use Rattle.machine.specs.declared.event.Event.TheVariants.{Boot, Line, Unread}
use Rattle.machine.specs.declared.lease.Lease.{Lease}
use Rattle.machine.specs.declared.reply.Reply.{Reply}
use Rattle.machine.specs.FinishRow.{finished}
use Rattle.machine.specs.GroupRow.{Comes}
use Rattle.machine.specs.LaunchRow.{launched}
use Rattle.machine.specs.Leases.{lease_of, without_lease}
use Rattle.machine.specs.Machine.{Answers, Run, Step, effect, moment_after, refusals}
use Rattle.machine.specs.Rows.{Refusal, Refuses}
use Rattle.machine.specs.Shape.{Shape, shape_of}
use Rattle.machine.specs.Store.{Session, Store, booted}
use Rattle.machine.proofs.LeaseLists.{lease_gone, lease_other, lease_stays}
use Rattle.machine.proofs.ViewSteps.{step_numbers}
use Rattle.updater_cli.proofs.PublishedUses.{KeepsUses, RunsKeepUses}

-- ---- one after another

uses_itself : (store : Store) → KeepsUses store store
uses_itself store = record { next = omega arith; leases = λ number lease less is. is }

uses_chain : (a b c : Store) → KeepsUses a b → KeepsUses b c → KeepsUses a c
uses_chain a b c first second = record {
  next = omega (arith, first.next, second.next);
  leases = λ number lease less is.
      first.leases number lease less
      (second.leases number lease (omega (arith, less, first.next)) is);
}

-- the same leases
same_uses : (old new : Store) → new.next_lease ≡ old.next_lease → new.leases ≡ old.leases
    → KeepsUses old new
same_uses old new next leases = record {
  next = omega (arith, next);
  leases = λ number lease less is. sym (ap (lease_of number) leases) ∙ is;
}

-- ---- boots, launches and ends

boot_uses : (kept : Bool) (boot : ℕ) (old : Store)
    → KeepsUses old (record old { boot = boot; leases = cond kept old.leases [] })
boot_uses true boot old = same_uses old (record old { boot = boot }) refl refl
boot_uses false boot old = record {
  next = omega arith;
  leases = λ number lease less is. absurd (none-some lease is);
}

launched_uses : (key : Key) (view : ℕ) (old : Store) → KeepsUses old (launched key view old)
launched_uses key view old = record {
  next = omega arith;
  leases = λ number lease less is.
      sym (lease_other number old.next_lease view old.leases (λ e. omega (arith, less, e))) ∙ is;
}

finished_uses : (gone : ℕ) (old : Store) → KeepsUses old (finished gone old)
finished_uses gone old = record {
  next = omega arith;
  leases = λ number lease less is. by number lease is (cases_eq number gone);
}
  where
    by : (number : ℕ) (lease : Lease) → lease_of number (without_lease gone old.leases) ≡ Some lease
        → (number ≡ gone) ⊎ (number ≢ gone) → lease_of number old.leases ≡ Some lease
    by number lease is (inl same) =
        absurd (none-some lease (sym (ap (λ (n : ℕ). lease_of n (without_lease gone old.leases)) same
        ∙ lease_gone gone old.leases) ∙ is))
    by number lease is (inr other) = sym (lease_stays number gone old.leases other) ∙ is

-- ---- refusals

abbrev LeavesUses : List (Refusal Reply Session) → Type 0
LeavesUses [] = Unit {0}
LeavesUses (refusal ∷ rest) = ((s : Session) → KeepsUses s.store (refusal.leaves s).store) × LeavesUses rest

left_uses : (list : List (Refusal Reply Session)) (old : Session) (reply : Reply) (new : Session) → LeavesUses list → Refuses list old reply new → KeepsUses old.store new.store
left_uses [] old reply new leave refused = absurd refused
left_uses (refusal ∷ rest) old reply new leave (inl given) = subst (λ (s : Session). KeepsUses old.store s.store) (sym given.1) (leave.0 old)
left_uses (refusal ∷ rest) old reply new leave (inr later) = left_uses rest old reply new leave.1 later.1

abbrev Same : (s : Session) → KeepsUses s.store s.store
Same s = uses_itself s.store

refusals_leave : (now : ℕ) (heard : List (List ℕ)) (shape : Shape) (command : Command) → LeavesUses (refusals now heard shape command)
refusals_leave now heard shape (At next) = tt
refusals_leave now heard shape (Require key version) = (Same, (Same, tt))
refusals_leave now heard shape (Install url) =
    (Same, (Same, (Same, (Same, (Same, (Same, (Same, (Same, (Same, (Same, (Same, (Same, (Same, (Same, (Same, (Same, (Same, (Same, (Same, (Same, tt))))))))))))))))))))
refusals_leave now heard shape (Check key) =
    (Same, ((λ s. same_uses s.store _ refl refl), (Same, (Same, tt))))
refusals_leave now heard shape (Skip key) = (Same, (Same, (Same, tt)))
refusals_leave now heard shape (Rollback key) = (Same, (Same, (Same, tt)))
refusals_leave now heard shape (Launch key) = (Same, (Same, (Same, (Same, (Same, (Same, tt))))))
refusals_leave now heard shape (Read lease name from count) = (Same, (Same, tt))
refusals_leave now heard shape (Local lease name from count) = (Same, (Same, tt))
refusals_leave now heard shape (Put lease name bytes) = (Same, (Same, (Same, (Same, (Same, tt)))))
refusals_leave now heard shape (Remove lease name) = (Same, (Same, tt))
refusals_leave now heard shape (Group lease group) = (Same, (Same, (Same, (Same, (Same, (Same, tt))))))
refusals_leave now heard shape (Finish lease) = (Same, tt)
refusals_leave now heard shape Clean = tt
refusals_leave now heard shape asks.List = tt
refusals_leave now heard shape (Show key) = (Same, tt)

-- ---- effects

on_store : (old new : Session) (store : Store) → new ≡ record old { store = store } → KeepsUses old.store store → KeepsUses old.store new.store
on_store old new store is keeps = subst (λ (s : Session). KeepsUses old.store s.store) (sym is) keeps

unmoved : (old new : Session) → new ≡ old → KeepsUses old.store new.store
unmoved old new is = subst (λ (s : Session). KeepsUses old.store s.store) (sym is) (uses_itself old.store)

effect_uses : (now : ℕ) (heard : List (List ℕ)) (command : Command) (old : Session)
    (reply : Reply) (new : Session) → effect now heard command old reply new
    → KeepsUses old.store new.store
effect_uses now heard (At next) old reply new done = unmoved old new done.1
effect_uses now heard (Require key version) old reply new done =
    on_store old new _ done.1 (same_uses old.store _ refl refl)
effect_uses now heard (Install url) old reply new done =
    on_store old new done.store done.is
    (subst (λ (s : Store). KeepsUses old.store s) (sym done.installed.is)
    (same_uses old.store _ refl refl))
effect_uses now heard (Check key) old reply new done =
    on_store old new _ done.is (same_uses old.store _ refl refl)
effect_uses now heard (Skip key) old reply new done =
    on_store old new _ done.is (same_uses old.store _ refl refl)
effect_uses now heard (Rollback key) old reply new done =
    on_store old new _ done.is (same_uses old.store _ refl refl)
effect_uses now heard (Launch key) old reply new done =
    on_store old new _ done.is (launched_uses key done.view.number old.store)
effect_uses now heard (Read lease name from count) old reply new done = unmoved old new done.is
effect_uses now heard (Local lease name from count) old reply new done = unmoved old new done.is
effect_uses now heard (Put lease name bytes) old reply new done =
    on_store old new _ done.is (same_uses old.store _ refl refl)
effect_uses now heard (Remove lease name) old reply new done =
    on_store old new _ done.is (same_uses old.store _ refl refl)
effect_uses now heard (Group lease group) old reply new done =
    on_store old new done.store done.is (by done.comes)
  where
    by : Comes group done.view old.store done.store → KeepsUses old.store done.store
    by (inl stands) =
        subst (λ (s : Store). KeepsUses old.store s) (sym stands.1) (uses_itself old.store)
    by (inr comes) =
        subst (λ (s : Store). KeepsUses old.store s) (sym comes.1.is)
        (same_uses old.store _ refl refl)
effect_uses now heard (Finish lease) old reply new done =
    on_store old new _ done.1 (finished_uses lease old.store)
effect_uses now heard Clean old reply new done =
    on_store old new _ done.1 (same_uses old.store _ refl refl)
effect_uses now heard asks.List old reply new done = unmoved old new done.1
effect_uses now heard (Show key) old reply new done = unmoved old new done.is

-- ---- steps and runs

answer_uses : (now : ℕ) (heard : List (List ℕ)) (old : Session) (command : Command) (reply : Reply) (new : Session) → Answers now heard old command reply new → KeepsUses old.store new.store
answer_uses now heard old command reply new (inl (inl memory)) = unmoved old new memory.1
answer_uses now heard old command reply new (inl (inr refused)) =
    left_uses (refusals now heard (shape_of old) command) old reply new (refusals_leave now heard (shape_of old) command) refused.1
answer_uses now heard old command reply new (inr done) = effect_uses now heard command old reply new done.1

step_uses : (now : ℕ) (old : Session) (event : Event) (reply : Option Reply) (new : Session) → Step now old event reply new → KeepsUses old.store new.store
step_uses now old (Boot boot) reply new step = on_store old new (booted boot old.store) step.1 (boot_uses (eqb old.store.boot boot) boot old.store)
step_uses now old (Line command at heard) reply new step = answer_uses now heard.texts old command step.answer new step.answers
step_uses now old (Unread fault) reply new step = unmoved old new step.1

pub run_uses : RunsKeepUses
run_uses now old [] [] new run = unmoved old new run
run_uses now old [] (reply ∷ replies) new run = absurd run
run_uses now old (event ∷ events) [] new run = absurd run
run_uses now old (event ∷ events) (reply ∷ replies) new run =
    uses_chain old.store run.0.store new.store (step_uses now old event reply run.0 run.1)
    (run_uses (moment_after now reply) run.0 events replies new run.2)

-- no number of a view is given back
pub run_next : (now : ℕ) (old : Session) (events : List Event) (replies : List (Option Reply))
    (new : Session) → Run now old events replies new → old.store.next_view ≤ new.store.next_view
run_next now old [] [] new run =
    omega (arith, ap (λ (s : Session). s.store.next_view) run)
run_next now old [] (reply ∷ replies) new run = absurd run
run_next now old (event ∷ events) [] new run = absurd run
run_next now old (event ∷ events) (reply ∷ replies) new run =
    let first = step_numbers now old event reply run.0 run.1 in
    let rest = run_next (moment_after now reply) run.0 events replies new run.2 in
    omega (arith, first.next, rest)
