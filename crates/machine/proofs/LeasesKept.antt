-- What leases keep from one store to a later one: no number is given again, and a view in use keeps
-- its program files.
use Rattle.std.proofs.Common.{◌≡◌, ◌≢◌, ◌∙◌, ◌⊎◌, ◌++◌, ◌<◌, ◌≤◌, inl, inr, refl, sym, ap, subst, ℕ, Bool, true, false, cond, eqb, List, [], Option, Some, arith}
use Rattle.std.specs.Prelude.{IsSome, option_and_then}
use Rattle.std.proofs.lemmas.Bool.{cases_eq, false≢true}
use Rattle.identity.specs.declared.key.Key.{Key}
use Rattle.manifests.specs.declared.facts.Application.{Application}
use Rattle.manifests.specs.FileLists.{NamesDiffer}
use Rattle.machine.specs.declared.lease.Lease.{Lease}
use Rattle.machine.specs.Current.{view_at}
use Rattle.machine.specs.FinishRow.{finished}
use Rattle.machine.specs.LaunchRow.{launched}
use Rattle.machine.specs.LeaseLaws.{KeepsLeased}
use Rattle.machine.specs.Leases.{lease_of, leased_view, without_lease}
use Rattle.machine.specs.ReadRow.{file_named}
use Rattle.machine.specs.Store.{Store, booted}
use Rattle.machine.specs.Valid.{Ordered}
use Rattle.machine.specs.Views.{ListedFile, View}
use Rattle.machine.proofs.FirstFound.{find-front}
use Rattle.machine.proofs.Leased.{leased_by, leased_kept, leased_valid}
use Rattle.machine.proofs.LeaseLists.{lease_below, lease_gone, lease_other, lease_stays}

-- each program file that stands in the view stands in the later one, with the same bytes
abbrev pub KeepsFiles : View → View → Type 0
KeepsFiles view later =
    (name : List ℕ) (file : ListedFile) → file_named name view.program_files ≡ Some file
    → file_named name later.program_files ≡ Some file

-- A lease that lives in new, and whose number was given in old, lived in old. Its view is kept, with
-- its release and, where the names of that differ, with its program files.
pub record KeepsLeases (old new : Store) : Type 0 where
  pub next : old.next_lease ≤ new.next_lease
  pub alone : (number : ℕ) → number < old.next_lease → IsSome (lease_of number new.leases)
      → IsSome (lease_of number old.leases)
  pub views : (number : ℕ) (view : View) → number < old.next_lease
      → IsSome (lease_of number new.leases) → leased_view number old ≡ Some view
      → (later : View) × (leased_view number new ≡ Some later)
      × (later.application ≡ view.application)
      × (NamesDiffer view.application.files → KeepsFiles view later)

-- ---- one after another

pub keeps_itself : (store : Store) → KeepsLeases store store
keeps_itself store = record {
  next = omega arith;
  alone = λ number less lives. lives;
  views = λ number view less lives is. (view, is, refl, λ differ name file found. found);
}

pub keeps_chain : (a b c : Store) → KeepsLeases a b → KeepsLeases b c → KeepsLeases a c
keeps_chain a b c first second = record {
  next = omega (arith, first.next, second.next);
  alone = λ number less lives.
      first.alone number less (second.alone number (omega (arith, less, first.next)) lives);
  views = λ number view less lives is.
      let given : number < b.next_lease = omega (arith, less, first.next) in
      let mid = first.views number view less (second.alone number given lives) is in
      let last = second.views number mid.0 given lives mid.1 in (
        last.0,
        last.1,
        last.2 ∙ mid.2,
        λ differ name file found.
            last.3 (subst (λ (a : Application). NamesDiffer a.files) (sym mid.2) differ) name file
            (mid.3 differ name file found),
      );
}

-- ---- one step

-- leases that are left are as they were, and so is each view that one of them names
pub keeps_by : (old new : Store) → old.next_lease ≤ new.next_lease
    → ((number : ℕ) → number < old.next_lease → IsSome (lease_of number new.leases)
    → lease_of number new.leases ≡ lease_of number old.leases)
    → ((number : ℕ) (lease : Lease) (view : View) → lease_of number new.leases ≡ Some lease
    → view_at lease.view old.views ≡ Some view
    → (later : View) × (view_at lease.view new.views ≡ Some later)
    × (later.application ≡ view.application)
    × (NamesDiffer view.application.files → KeepsFiles view later))
    → KeepsLeases old new
keeps_by old new next stays kept = record {
  next = next;
  alone = λ number less lives.
      subst (λ (o : Option Lease). IsSome o) (stays number less lives) lives;
  views = λ number view less lives is.
      let by = leased_by number old view is in
      let lease = stays number less lives ∙ by.1 in
      let later = kept number by.0 view lease by.2 in (
        later.0,
        ap (λ (o : Option Lease). option_and_then (λ (l : Lease). view_at l.view new.views) o) lease
            ∙ later.1,
        later.2,
        later.3,
      );
}

-- the same leases, and the same views in front
pub keeps_more : (old new : Store) (more : List View) → new.next_lease ≡ old.next_lease
    → new.leases ≡ old.leases → new.views ≡ old.views ++ more → KeepsLeases old new
keeps_more old new more next leases views =
    keeps_by old new (omega (arith, next)) (λ number less lives. ap (lease_of number) leases)
    (λ number lease view is found. (
      view,
      ap (view_at lease.view) views
          ∙ find-front (λ (v : View). eqb v.number lease.view) old.views more view found,
      refl,
      λ differ name file there. there,
    ))

-- ---- boots, launches and ends

boot_keeps : (kept : Bool) (boot : ℕ) (old : Store)
    → KeepsLeases old (record old { boot = boot; leases = cond kept old.leases [] })
boot_keeps true boot old = keeps_by old (record old { boot = boot }) (omega arith)
    (λ number less lives. refl)
    (λ number lease view is found. (view, found, refl, λ differ name file there. there))
boot_keeps false boot old =
    keeps_by old (record old { boot = boot; leases = [] }) (omega arith)
    (λ number less lives. absurd (false≢true lives))
    (λ number lease view is found. (view, found, refl, λ differ name file there. there))

pub booted_keeps : (boot : ℕ) (old : Store) → KeepsLeases old (booted boot old)
booted_keeps boot old = boot_keeps (eqb old.boot boot) boot old

pub launched_keeps : (key : Key) (view : ℕ) (old : Store) → KeepsLeases old (launched key view old)
launched_keeps key view old =
    keeps_by old (launched key view old) (omega arith)
    (λ number less lives. lease_other number old.next_lease view old.leases
    (λ e. omega (arith, less, e)))
    (λ number lease v is found. (v, found, refl, λ differ name file there. there))

pub finished_keeps : (lease : ℕ) (old : Store) → KeepsLeases old (finished lease old)
finished_keeps lease old =
    keeps_by old (finished lease old) (omega arith)
    (λ number less lives. by number lives (cases_eq number lease))
    (λ number l v is found. (v, found, refl, λ differ name file there. there))
  where
    by : (number : ℕ) → IsSome (lease_of number (without_lease lease old.leases))
        → (number ≡ lease) ⊎ (number ≢ lease)
        → lease_of number (without_lease lease old.leases) ≡ lease_of number old.leases
    by number lives (inl same) = absurd (false≢true (subst (λ (o : Option Lease). IsSome o)
        (ap (λ (n : ℕ). lease_of n (without_lease lease old.leases)) same
        ∙ lease_gone lease old.leases)
        lives))
    by number lives (inr other) = lease_stays number lease old.leases other

-- ---- from a valid store

-- a lease that lives in both keeps its view
pub keeps_leased : (number : ℕ) (old new : Store) → Ordered old → KeepsLeases old new
    → IsSome (lease_of number old.leases) → IsSome (lease_of number new.leases)
    → KeepsLeased number old new
keeps_leased number old new was keeps lived lives =
    let view = leased_kept number old was lived in
    let later = keeps.views number view.0
    (lease_below old.next_lease number old.leases was.lease_numbers.below lived) lives view.1 in
    let is = leased_valid number old view.0 was view.1 in
    record {
      view = view.0;
      later = later.0;
      before = view.1;
      after = later.1;
      files = later.3 is.application.facts.files.differ;
    }
