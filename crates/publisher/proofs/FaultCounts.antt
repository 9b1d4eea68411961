-- How the folder's count of faults goes on from call to call.
use Rattle.std.proofs.Common.{◌≡◌, ℕ, List, Result, Ok, Err, IsErr, refl, sym, subst, arith}
use Rattle.std.specs.Prelude.{IsErrAnd}
use Rattle.folders.specs.declared.folder.FolderFault.{FolderFault}
use Rattle.folders.specs.declared.folder.FolderFault.TheVariants as folder
use Rattle.folders.specs.Folder.{FailsCounted}
use Rattle.manifests.specs.declared.facts.FileEntry.{FileEntry}
use Rattle.publish_plan.specs.declared.fault.PlanFault.{PlanFault}
use Rattle.publish_plan.specs.declared.fault.PlanFault.TheVariants as plan
use Rattle.publisher.specs.declared.fault.PublishFault.{PublishFault}
use Rattle.publisher.specs.declared.fault.PublishFault.TheVariants.{ReadFault, ManifestTooLong, WriteFault, Changed, Memory}
use Rattle.publisher.specs.Changes.{IsChangeOf}
use Rattle.publisher.specs.Faults.{FaultsCounted, IsManifestFault, IsReading, IsWriting, fault_of, fault_of_putting, fault_of_reading}

-- what came before left it
pub counted_after : {T : Type 0} (a b c : ℕ) (r : Result T PublishFault) → b ≡ a → FaultsCounted b c r → FaultsCounted a c r
counted_after a b c r same counted = subst (λ (n : ℕ). FaultsCounted n c r) same counted

-- ---- errors that no device caused

abbrev pub IsQuiet : PublishFault → Type 0
IsQuiet ReadFault = ⊥
IsQuiet WriteFault = ⊥
IsQuiet e = Unit {0}

pub manifest_quiet : (e : PublishFault) → IsManifestFault e → IsQuiet e
manifest_quiet (ManifestTooLong length) fault = tt
manifest_quiet Memory fault = tt
manifest_quiet e fault = absurd fault

pub change_quiet : (entry : FileEntry) (bytes : List ℕ) (e : PublishFault) → IsChangeOf entry bytes e → IsQuiet e
change_quiet entry bytes (Changed file difference) change = tt
change_quiet entry bytes Memory change = tt
change_quiet entry bytes e change = absurd change

pub plan_quiet : (f : PlanFault) → IsQuiet (fault_of f)
plan_quiet plan.Memory = tt
plan_quiet f = tt

abbrev failure : {T : Type 0} → PublishFault → Result T PublishFault
failure e = Err e

quiet_counted : {A : Type 0} (a b : ℕ) (e : PublishFault) → IsQuiet e → b ≡ a → FaultsCounted a b (failure {T = A} e)
quiet_counted a b e quiet same = record {
  later = omega arith;
  read = λ is. absurd (subst IsQuiet is quiet);
  write = λ is. absurd (subst IsQuiet is quiet);
  others = λ _ _. same;
  quiet = tt;
}

-- such an error is handed on
pub counted_still : {A : Type 0} (r : Result A PublishFault) (a b : ℕ) (e : PublishFault) → IsErr r × IsErrAnd r (λ f. f ≡ e) → IsQuiet e → b ≡ a → FaultsCounted a b r
counted_still (Ok x) a b e is quiet same = absurd is.1
counted_still (Err f) a b e is quiet same = quiet_counted a b f (subst IsQuiet (sym is.1) quiet) same

-- ---- faults of the folder

abbrev folder_failure : {T : Type 0} → FolderFault → Result T FolderFault
folder_failure f = Err f

pub reading_is : (f : FolderFault) (e : PublishFault) → e ≡ fault_of_reading f → IsReading e
reading_is folder.Failed e is = subst IsReading (sym is) tt
reading_is folder.Memory e is = subst IsReading (sym is) tt

pub writing_is : (f : FolderFault) (e : PublishFault) → e ≡ fault_of_putting f → IsWriting e
writing_is folder.Failed e is = subst IsWriting (sym is) tt
writing_is folder.Memory e is = subst IsWriting (sym is) tt

pub reading_counted : {A B : Type 0} (a b : ℕ) (f : FolderFault) (e : PublishFault) → e ≡ fault_of_reading f → FailsCounted a b (folder_failure {T = A} f) → FaultsCounted a b (failure {T = B} e)
reading_counted a b folder.Failed e is counted = record {
  later = counted.later;
  read = λ _. counted.rose refl;
  write = λ write. absurd cc;
  others = λ other _. absurd (other is);
  quiet = tt;
}
reading_counted a b folder.Memory e is counted = record {
  later = counted.later;
  read = λ read. absurd cc;
  write = λ write. absurd cc;
  others = λ _ _. counted.memory refl;
  quiet = tt;
}

pub putting_counted : {A B : Type 0} (a b : ℕ) (f : FolderFault) (e : PublishFault) → e ≡ fault_of_putting f → FailsCounted a b (folder_failure {T = A} f) → FaultsCounted a b (failure {T = B} e)
putting_counted a b folder.Failed e is counted = record {
  later = counted.later;
  read = λ read. absurd cc;
  write = λ _. counted.rose refl;
  others = λ _ other. absurd (other is);
  quiet = tt;
}
putting_counted a b folder.Memory e is counted = record {
  later = counted.later;
  read = λ read. absurd cc;
  write = λ write. absurd cc;
  others = λ _ _. counted.memory refl;
  quiet = tt;
}
