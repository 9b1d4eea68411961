-- What lines and runs leave of the numbers of views: none is given twice.
use Rattle.std.proofs.Common.{◌≡◌, ◌∙◌, ◌⊎◌, ◌<◌, ◌≤◌, inl, inr, sym, ap, subst, ℕ, true, false, eqb, ne_eqb, List, [], ◌∷◌, map, Option, IsSome, refl, Some, arith}
use Rattle.machine.specs.declared.command.Command.{Command}
use Rattle.machine.specs.declared.command.Command.TheVariants.{At, Require, Install, Check, Skip, Rollback, Launch, Read, Local, Put, Remove, Group, Finish, Clean, Show}
use Rattle.machine.specs.declared.command.Command.TheVariants as asks
use Rattle.machine.specs.declared.event.Event.{Event}
use Rattle.machine.specs.declared.event.Event.TheVariants.{Boot, Line, Unread}
use Rattle.machine.specs.declared.reply.Reply.{Reply}
use Rattle.machine.specs.CleanRow.{cleaned}
use Rattle.machine.specs.Current.{view_at}
use Rattle.machine.specs.DataFiles.{data_name, with_named, without_named}
use Rattle.machine.specs.Grouped.{Grouped, with_group, with_view_at}
use Rattle.machine.specs.GroupRow.{GroupEffect}
use Rattle.machine.specs.Groups.{group_stands}
use Rattle.machine.specs.InstallRow.{InstallEffect}
use Rattle.machine.specs.Installed.{new_view}
use Rattle.machine.specs.LifeLaws.{IsSameRelease}
use Rattle.machine.specs.Machine.{Run, Step, effect, moment_after, refusals}
use Rattle.machine.specs.Rows.{PassesAll}
use Rattle.machine.specs.Shape.{shape_of}
use Rattle.machine.specs.Store.{Session, Store}
use Rattle.machine.specs.Valid.{Ordered}
use Rattle.machine.specs.Views.{View}
use Rattle.machine.proofs.CleanedStores.{kept_used, used_at}
use Rattle.machine.proofs.DataViews.{redone, redone_leaves}
use Rattle.machine.proofs.FirstFound.{find-other, some_there, value_of}
use Rattle.machine.proofs.GrownViews.{grows_leaves}
use Rattle.machine.proofs.Leased.{view_in}
use Rattle.machine.proofs.Members.{all_in, in_map}
use Rattle.machine.proofs.OneView.{Leaves, kept_before}
use Rattle.machine.proofs.Refusals.{kept_or_effect}
use Rattle.machine.proofs.RowFacts.{Kept}

-- a view that is kept has a number that was given
pub view_below : (number : ℕ) (store : Store) → Ordered store
    → IsSome (view_at number store.views) → number < store.next_view
view_below number store was is =
    let view = value_of (view_at number store.views) is in
    let known = view_in number store.views view.0 view.1 in
    subst (λ (n : ℕ). n < store.next_view) known.1
    (all_in (λ (n : ℕ). n < store.next_view) (map (λ (v : View). v.number) store.views)
    view.0.number was.view_numbers.below
    (in_map (λ (v : View). v.number) store.views view.0 known.0))

-- the view of that number is kept, as the same release
abbrev WasKept : ℕ → View → Store → Type 0
WasKept number later old =
    (view : View) × (view_at number old.views ≡ Some view) × IsSameRelease view later

one_release : (view : View) → IsSameRelease view view
one_release view = record { deployment = refl; application = refl; base = refl }

-- a view that is kept in new, and whose number was given in old, is kept in old
pub record KeepsNumbers (old new : Store) : Type 0 where
  pub next : old.next_view ≤ new.next_view
  pub kept : (number : ℕ) (later : View) → number < old.next_view
      → view_at number new.views ≡ Some later → WasKept number later old

-- the same views
same : (old new : Store) → new.next_view ≡ old.next_view → new.views ≡ old.views
    → KeepsNumbers old new
same old new next views = record {
  next = omega (arith, next);
  kept = λ number later given is. (
    later,
    sym (ap (λ (vs : List View). view_at number vs) views) ∙ is,
    one_release later,
  );
}

-- a store of which one view is changed
changed : (at : ℕ) (f : View → View) → Leaves f → (old : Store)
    → KeepsNumbers old (record old { views = with_view_at at f old.views })
changed at f leaves old = record {
  next = omega arith;
  kept = λ number later given is. kept_before at f old leaves number later is;
}

-- nothing changes
left : (old new : Session) → new ≡ old → KeepsNumbers old.store new.store
left old new is =
    same old.store new.store (ap (λ (s : Session). s.store.next_view) is)
    (ap (λ (s : Session). s.store.views) is)

install_numbers : (url : List ℕ) (heard : List (List ℕ)) (now : ℕ) (old : Session) (reply : Reply)
    (new : Session) → InstallEffect url heard now old reply new
    → KeepsNumbers old.store new.store
install_numbers url heard now old reply new done =
    subst (λ (s : Session). KeepsNumbers old.store s.store) (sym done.is)
    (subst (λ (s : Store). KeepsNumbers old.store s) (sym done.installed.is) (record {
      next = omega arith;
      kept = λ number later given is. (
        later,
        sym (find-other (λ (v : View). eqb v.number number) old.store.views
            (new_view old.store.next_view done.base done.deployment done.application done.files
            done.installed.data_files) (other number given))
            ∙ is,
        one_release later,
      );
    }))
  where
    other : (number : ℕ) → number < old.store.next_view → eqb old.store.next_view number ≡ false
    other number given = ne_eqb old.store.next_view number (λ e. omega (arith, given, e))

group_numbers : (lease : ℕ) (group : List ℕ) (old : Session) (reply : Reply) (new : Session)
    → GroupEffect lease group old reply new → KeepsNumbers old.store new.store
group_numbers lease group old reply new done =
    subst (λ (s : Session). KeepsNumbers old.store s.store) (sym done.is) (by done.comes)
  where
    by : ((group_stands group done.view.groups ≡ true) × (done.store ≡ old.store))
        ⊎ ((group_stands group done.view.groups ≡ false)
        × Grouped group done.view old.store done.store)
        → KeepsNumbers old.store done.store
    by (inl stood) =
        same old.store done.store (ap (λ (s : Store). s.next_view) stood.1)
        (ap (λ (s : Store). s.views) stood.1)
    by (inr comes) =
        subst (λ (s : Store). KeepsNumbers old.store s) (sym comes.1.is)
        (changed done.view.number (with_group group comes.1.program_files)
        (grows_leaves group comes.1.program_files) old.store)

clean_numbers : (old : Store) → KeepsNumbers old (cleaned old)
clean_numbers old = record {
  next = omega arith;
  kept = λ number later given is. (
    later,
    sym (used_at old number
        (kept_used old number (some_there (view_at number (cleaned old).views) later is)))
        ∙ is,
    one_release later,
  );
}

effect_numbers : (now : ℕ) (heard : List (List ℕ)) (command : Command) (old : Session)
    (reply : Reply) (new : Session) → effect now heard command old reply new
    → KeepsNumbers old.store new.store
effect_numbers now heard (At next) old reply new done = left old new done.1
effect_numbers now heard (Require key version) old reply new done =
    same old.store new.store (ap (λ (s : Session). s.store.next_view) done.1)
    (ap (λ (s : Session). s.store.views) done.1)
effect_numbers now heard (Install url) old reply new done =
    install_numbers url heard now old reply new done
effect_numbers now heard (Check key) old reply new done =
    same old.store new.store (ap (λ (s : Session). s.store.next_view) done.is)
    (ap (λ (s : Session). s.store.views) done.is)
effect_numbers now heard (Skip key) old reply new done =
    same old.store new.store (ap (λ (s : Session). s.store.next_view) done.is)
    (ap (λ (s : Session). s.store.views) done.is)
effect_numbers now heard (Rollback key) old reply new done =
    same old.store new.store (ap (λ (s : Session). s.store.next_view) done.is)
    (ap (λ (s : Session). s.store.views) done.is)
effect_numbers now heard (Launch key) old reply new done =
    same old.store new.store (ap (λ (s : Session). s.store.next_view) done.is)
    (ap (λ (s : Session). s.store.views) done.is)
effect_numbers now heard (Read lease file from count) old reply new done = left old new done.is
effect_numbers now heard (Local lease file from count) old reply new done = left old new done.is
effect_numbers now heard (Put lease file bytes) old reply new done =
    subst (λ (s : Session). KeepsNumbers old.store s.store) (sym done.is)
    (changed done.view.number
    (redone (λ files. with_named data_name (record { name = file; bytes = bytes }) files))
    (redone_leaves (λ files. with_named data_name (record { name = file; bytes = bytes }) files))
    old.store)
effect_numbers now heard (Remove lease file) old reply new done =
    subst (λ (s : Session). KeepsNumbers old.store s.store) (sym done.is)
    (changed done.view.number (redone (λ files. without_named data_name file files))
    (redone_leaves (λ files. without_named data_name file files)) old.store)
effect_numbers now heard (Group lease group) old reply new done =
    group_numbers lease group old reply new done
effect_numbers now heard (Finish lease) old reply new done =
    same old.store new.store (ap (λ (s : Session). s.store.next_view) done.1)
    (ap (λ (s : Session). s.store.views) done.1)
effect_numbers now heard Clean old reply new done =
    subst (λ (s : Session). KeepsNumbers old.store s.store) (sym done.1) (clean_numbers old.store)
effect_numbers now heard asks.List old reply new done = left old new done.1
effect_numbers now heard (Show key) old reply new done = left old new done.is

pub step_numbers : (now : ℕ) (old : Session) (event : Event) (reply : Option Reply) (new : Session)
    → Step now old event reply new → KeepsNumbers old.store new.store
step_numbers now old (Boot boot) reply new step =
    same old.store new.store (ap (λ (s : Session). s.store.next_view) step.1)
    (ap (λ (s : Session). s.store.views) step.1)
step_numbers now old (Line command at heard) reply new step =
    by (kept_or_effect now heard.texts old command step.answer new step.answers)
  where
    by : Kept command old step.answer new
        ⊎ (PassesAll (refusals now heard.texts (shape_of old) command)
        × effect now heard.texts command old step.answer new) → KeepsNumbers old.store new.store
    by (inl kept) = same old.store new.store kept.next_view kept.views
    by (inr done) = effect_numbers now heard.texts command old step.answer new done.1
step_numbers now old (Unread fault) reply new step = left old new step.1

then_release : (a b c : View) → IsSameRelease a b → IsSameRelease b c → IsSameRelease a c
then_release a b c first second = record {
  deployment = second.deployment ∙ first.deployment;
  application = second.application ∙ first.application;
  base = second.base ∙ first.base;
}

pub run_numbers : (now : ℕ) (old : Session) (events : List Event) (replies : List (Option Reply))
    (new : Session) (number : ℕ) (later : View) → Run now old events replies new
    → number < old.store.next_view → view_at number new.store.views ≡ Some later
    → (view : View) × (view_at number old.store.views ≡ Some view) × IsSameRelease view later
run_numbers now old [] [] new number later run given is = (
  later,
  sym (ap (λ (s : Session). view_at number s.store.views) run) ∙ is,
  one_release later,
)
run_numbers now old [] (reply ∷ replies) new number later run given is = absurd run
run_numbers now old (event ∷ events) [] new number later run given is = absurd run
run_numbers now old (event ∷ events) (reply ∷ replies) new number later run given is =
    let step = step_numbers now old event reply run.0 run.1 in
    let mid = run_numbers (moment_after now reply) run.0 events replies new number later run.2
    (omega (arith, given, step.next)) is in
    let first = step.kept number mid.0 given mid.1 in
    (first.0, first.1, then_release first.0 mid.0 later first.2 mid.2)
