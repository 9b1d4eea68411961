-- What a publish promises, once it is known how far it came.
use Rattle.std.proofs.Common.{◌≡◌, ℕ, List, Option, Some, None, Result, Ok, Err, IfOk, IfErr, IsErr, refl, sym, ap, subst, ◌∙◌, ◌⊎◌, inl, inr}
use Rattle.std.specs.Prelude.{IsErrAnd, true}
use Rattle.folders.specs.declared.folder.Folder.{Ghosts as FolderGhosts}
use Rattle.folders.specs.declared.folder.Held.{Held}
use Rattle.folders.specs.Files.{IsNames, distinct, file_in}
use Rattle.folders.proofs.SortedNames.{has_one_list}
use Rattle.publish_plan.specs.declared.fault.PlanFault.{PlanFault}
use Rattle.publish_plan.specs.declared.fault.PlanFault.TheVariants as plan
use Rattle.publish_plan.specs.declared.options.Options.{Options}
use Rattle.publish_plan.specs.Early.{early_of}
use Rattle.publish_plan.specs.Outcome as plans
use Rattle.publish_plan.specs.Places.{deployment_name}
use Rattle.publisher.specs.declared.fault.PublishFault.{PublishFault}
use Rattle.publisher.specs.declared.fault.PublishFault.TheVariants.{BadName, MinimumAbove, ReadFault, Changed, Memory}
use Rattle.publisher.specs.declared.published.Published.{Published}
use Rattle.publisher.specs.Changes.{IsLate, ShowsChange}
use Rattle.publisher.specs.Faults.{FaultsCounted, IsEarly, IsReading, IsRefused, fault_of}
use Rattle.publisher.specs.Outcome.{KeepsStanding, Leaves, LeavesInput, Refuses}
use Rattle.publisher.specs.Publication.{publish_of}
use Rattle.publisher.specs.Published.{IsAnswer, IsPublish, PublishesFiles}
use Rattle.publisher.specs.Readings.{ReadsChange}
use Rattle.publisher.proofs.FaultCounts.{counted_still, plan_quiet}
use Rattle.publisher.proofs.Outcomes.{err_then}
use Rattle.publisher.proofs.PublishSteps.{nothing_left, no_input_left, options_refused, refuses_from}
use Rattle.publisher.proofs.StoodFiles.{standing_same}
use Rattle.publisher.proofs.TwoReadings.{plan_reads}

abbrev fails_with : PublishFault → Result Published PublishFault
fails_with e = Err e

-- ---- over a folder that tells

-- an error came, and some first part may be written
pub stopped : (o : Options) (names : List (List ℕ)) (old new : List Held) (r : Result Published PublishFault) (e : PublishFault) → IsErr r × IsErrAnd r (λ f. f ≡ e)
    → Refuses e (publish_of o names old) → Leaves (publish_of o names old) old new → (e ≡ ReadFault → LeavesInput (publish_of o names old) old new)
    → file_in (deployment_name o) new ≡ file_in (deployment_name o) old → KeepsStanding (deployment_name o) old new → PublishesFiles o names old new r
stopped o names old new (Ok p) e is refuses left reading unpublished standing = absurd is.1
stopped o names old new (Err f) e is refuses left reading unpublished standing = record {
  published = tt;
  files = tt;
  refused = subst (λ (g : PublishFault). Refuses g (publish_of o names old)) (sym is.1) refuses;
  left = left;
  reading = λ read. reading (sym is.1 ∙ read);
  unpublished = unpublished;
  standing = standing;
}

-- an error came before anything was written
pub untouched : (o : Options) (names : List (List ℕ)) (old new : List Held) (r : Result Published PublishFault) (e : PublishFault) → IsErr r × IsErrAnd r (λ f. f ≡ e)
    → Refuses e (publish_of o names old) → new ≡ old → PublishesFiles o names old new r
untouched o names old new r e is refuses same =
    stopped o names old new r e is refuses (nothing_left o names old new same) (λ _. no_input_left o names old new same)
    (ap (file_in (deployment_name o)) same) (standing_same (deployment_name o) old new same)

reading_refuses : (e : PublishFault) (o : Options) (names : List (List ℕ)) (held : List Held) → IsReading e → Refuses e (publish_of o names held)
reading_refuses ReadFault o names held fault = tt
reading_refuses Memory o names held fault = tt
reading_refuses e o names held fault = absurd fault

-- the listing failed
pub unlisted : (o : Options) (names : List (List ℕ)) (old new : List Held) (r : Result Published PublishFault) (e : PublishFault) → IsErr r × IsErrAnd r (λ f. f ≡ e) → IsReading e → new ≡ old → PublishesFiles o names old new r
unlisted o names old new r e is fault same = untouched o names old new r e is (reading_refuses e o names old fault) same

-- the same names, and the same files
pub listed_so : (o : Options) (names others : List (List ℕ)) (old mid new : List Held) (r : Result Published PublishFault) → names ≡ others → mid ≡ old → PublishesFiles o names mid new r → PublishesFiles o others old new r
listed_so o names others old mid new r same kept files =
    subst (λ (ns : List (List ℕ)). PublishesFiles o ns old new r) same (subst (λ (h : List Held). PublishesFiles o names h new r) kept files)

-- ---- over any folder

-- the options are no reason where none is found
pub unless_none : (early : Option PlanFault) → plans.unless early ≡ Ok tt → early ≡ None
unless_none None is = refl
unless_none (Some f) is = cc

unless_some : (early : Option PlanFault) (f : PlanFault) → plans.unless early ≡ Err f → early ≡ Some f
unless_some None f is = absurd cc
unless_some (Some g) f is = cc

the_refusal : (f : PlanFault) (early : Option PlanFault) → plans.Fails f (plans.unless early) → (f ≡ plan.Memory) ⊎ (early ≡ Some f)
the_refusal plan.Memory early failed = inl refl
the_refusal f early failed = inr (unless_some early f failed)

refused_as : (f fault : PlanFault) (early : Option PlanFault) → (f ≡ plan.Memory) ⊎ (early ≡ Some f) → early ≡ Some fault → IsRefused (fails_with (fault_of f)) (fault_of fault)
refused_as f fault early (inl memory) is = λ other. absurd (other (ap fault_of memory))
refused_as f fault early (inr refused) is = λ _. ap fault_of cc

early_as : (f : PlanFault) (early : Option PlanFault) → plans.Fails f (plans.unless early) → IsEarly early (fault_of f)
early_as (plan.BadName word) early failed = unless_some early (plan.BadName word) failed
early_as (plan.MinimumAbove minimum) early failed = unless_some early (plan.MinimumAbove minimum) failed
early_as f early failed = tt

plan_shows : (f : PlanFault) → ShowsChange (fault_of f)
plan_shows plan.Memory = tt
plan_shows f = tt

err_as : (r : Result Published PublishFault) (P : Result Published PublishFault → Type 0) (e : PublishFault) → IsErr r × IsErrAnd r (λ f. f ≡ e) → P (fails_with e) → P r
err_as (Ok p) P e is h = absurd is.1
err_as (Err f) P e is h = subst (λ (g : PublishFault). P (fails_with g)) (sym is.1) h

-- the options are refused
pub options_told : {F : Type 0} → (folder : FolderGhosts F) (o : Options) (old : F) (r : Result Published PublishFault) (f : PlanFault)
    → IsErr r × IsErrAnd r (λ e. e ≡ fault_of f) → plans.Fails f (plans.unless (early_of o)) → (folder.tells → distinct (folder.held old) ≡ true) → IsPublish folder o old old r
options_told folder o old r f is failed differ = record {
  early = λ fault early. (err_as r (λ s. IsRefused s (fault_of fault)) (fault_of f) is (refused_as f fault (early_of o) (the_refusal f (early_of o) failed) early), refl);
  only_early = err_as r (λ s. IfErr s (IsEarly (early_of o))) (fault_of f) is (early_as f (early_of o) failed);
  answer = err_as r (λ s. IfOk s (IsAnswer o)) (fault_of f) is tt;
  listed = λ told. has_one_list (folder.held old) (differ told);
  told = λ told names are.
      untouched o names (folder.held old) (folder.held old) r (fault_of f) is
      (refuses_from (fault_of f) (publish_of o names (folder.held old)) (options_refused o names (folder.held old) f failed)) refl;
  change = err_as r (λ s. IfErr s ShowsChange) (fault_of f) is (plan_shows f);
  readings = λ records. err_as r (λ s. IfErr s (ReadsChange o.from (folder.answers old) (folder.answers old))) (fault_of f) is (plan_reads o.from (folder.answers old) (folder.answers old) f);
  counted = counted_still r (folder.count old) (folder.count old) (fault_of f) is (plan_quiet f) refl;
}

late_early : (early : Option PlanFault) (e : PublishFault) → IsLate e → IsEarly early e
late_early early (BadName word) late = absurd late
late_early early (MinimumAbove minimum) late = absurd late
late_early early e late = tt

late_shows : (e : PublishFault) → IsLate e → ShowsChange e
late_shows (Changed file difference) late = late
late_shows e late = tt

-- the options are none of the reasons
pub fit_told : {F : Type 0} → (folder : FolderGhosts F) (o : Options) (old new : F) (r : Result Published PublishFault)
    → early_of o ≡ None → (folder.tells → distinct (folder.held old) ≡ true) → (folder.tells → (names : List (List ℕ)) → IsNames (folder.held old) names → PublishesFiles o names (folder.held old) (folder.held new) r)
    → IfOk r (IsAnswer o) → IfErr r IsLate → (folder.records → IfErr r (ReadsChange o.from (folder.answers old) (folder.answers new))) → FaultsCounted (folder.count old) (folder.count new) r → IsPublish folder o old new r
fit_told folder o old new r fit differ told answer late readings counted = record {
  early = λ fault early. absurd (let both : None ≡ Some fault = sym fit ∙ early in cc);
  only_early = err_then r IsLate (IsEarly (early_of o)) (late_early (early_of o)) late;
  answer = answer;
  listed = λ tells_so. has_one_list (folder.held old) (differ tells_so);
  told = told;
  change = err_then r IsLate ShowsChange late_shows late;
  readings = readings;
  counted = counted;
}
