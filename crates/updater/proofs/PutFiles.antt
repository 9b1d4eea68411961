-- What writing the bytes of a put does to the disk.
use Rattle.std.proofs.Common.{◌≡◌, ◌≢◌, ◌∙◌, ◌+◌, ◌<◌, ◌≤◌, refl, sym, ap, subst, ℕ, List, length, Result, Ok, Err, IsErr, arith}
use Rattle.small_types.specs.Blocks.{KeepsOutside}
use Rattle.disks.specs.declared.disk.Disk.{Ghosts}
use Rattle.disks.specs.Moments.{LeavesOnly}
use Rattle.disks.specs.Spends.{Spends}
use Rattle.disks.proofs.Books.{spends_as, spends_none, spends_then, spends_within}
use Rattle.disks.proofs.MomentLemmas.{weaker}
use Rattle.file_store.specs.Writes.{IsOldOutsideBlocks, WritesOnly}
use Rattle.file_store.specs.declared.fault.FileFault.{FileFault}
use Rattle.file_store.specs.declared.fault.FileFault.TheVariants as file
use Rattle.line_drafts.specs.Works.{SpendsWithin}
use Rattle.table_log.specs.declared.fault.StepFault.{StepFault}
use Rattle.table_log.specs.declared.fault.StepFault.TheVariants as step

keeps_all : (base : ℕ) (blocks image : List ℕ) → KeepsOutside base blocks image image
unfolding KeepsOutside
keeps_all base blocks image place low outside = (low, refl)

module _ {D : Type 0} (on : Ghosts D) where
  -- a sync writes nothing
  pub synced_only : (base : ℕ) (blocks : List ℕ) (old new : D) → on.seen new ≡ on.seen old
      → LeavesOnly on old new (on.left_at old (on.moment old)) → WritesOnly on base blocks old new
  synced_only base blocks old new same stops = record {
    stops = weaker on old new (on.left_at old (on.moment old))
        (IsOldOutsideBlocks base blocks (on.left_at old (on.moment old)))
        (λ image left. (image, left, keeps_all base blocks image)) stops;
    reads = subst (KeepsOutside base blocks (on.seen old)) (sym same) (keeps_all base blocks (on.seen old));
  }

  -- ---- books

  module _ (n : ℕ) (old : D) (other : Type 0) where
    pub wrote_none : (other → ⊥) → SpendsWithin on n old old other
    wrote_none none = (
      0,
      spends_within on 0 0 0 n old old other (omega arith) (omega arith)
          (spends_as on 0 0 old old ⊥ other (λ no. absurd no) none (spends_none on old)),
    )

    pub wrote_alone : (calls : ℕ) (mid : D) (first : Type 0) → (first → other) → (other → first)
        → Spends on calls n old mid first → SpendsWithin on n old mid other
    wrote_alone calls mid first to from spends = (calls, spends_as on calls n old mid first other to from spends)

    pub wrote_synced : (calls more : ℕ) (mid new : D) (first second : Type 0) → (first → ⊥)
        → (second → other) → (other → second) → Spends on calls n old mid first
        → Spends on more 0 mid new second → SpendsWithin on n old new other
    wrote_synced calls more mid new first second none to from one two = (
      calls + more,
      spends_within on (calls + more) (n + 0) (calls + more) n old new other (omega arith) (omega arith)
          (spends_then on calls n more 0 old mid new other
          (spends_as on calls n old mid first ⊥ none (λ no. absurd no) one)
          (spends_as on more 0 mid new second other to from two)),
    )

-- ---- how the writing ends

abbrev Done : (T : Type 0) → T → Type 0
Done T x = ◌≡◌ {A = Result T StepFault} (Ok x) (Err step.DiskFault)

abbrev Missed : Type 0 → Type 0
Missed T = ◌≡◌ {A = Result T StepFault} (Err step.Memory) (Err step.DiskFault)

abbrev Failing : Type 0 → Type 0
Failing T = ◌≡◌ {A = Result T StepFault} (Err step.DiskFault) (Err step.DiskFault)

not_done : (T : Type 0) (x : T) → Done T x → ⊥
not_done T x e = cc

not_missed : (T : Type 0) → Missed T → ⊥
not_missed T e = cc

-- there are as many blocks as it needs
pub no_full : (fault : FileFault) (need left told room : ℕ) → fault ≡ file.Full told room
    → (fault ≢ file.Memory → fault ≢ file.DiskFault → (fault ≡ file.Full need left) × (left < need))
    → need ≤ left → ⊥
no_full fault need left told room is full enough =
    let less = (full (λ e. no_memory told room (sym is ∙ e)) (λ e. no_disk told room (sym is ∙ e))).1 in
    omega (arith, less, enough)
  where
    no_memory : (told room : ℕ) → file.Full told room ≡ file.Memory → ⊥
    no_memory told room e = cc

    no_disk : (told room : ℕ) → file.Full told room ≡ file.DiskFault → ⊥
    no_disk told room e = cc

module _ {D : Type 0} (on : Ghosts D) (T : Type 0) (bytes : List ℕ) (old : D) where
  abbrev n : ℕ
  n = length bytes

  pub named_none : SpendsWithin on n old old (Missed T)
  named_none = wrote_none on n old (Missed T) (not_missed T)

  module _ {W : Type 0} (calls : ℕ) (held : List ℕ) (same : held ≡ bytes) (mid : D) (wrote : Result W FileFault)
      (books : Spends on calls (length held) old mid (wrote ≡ Err file.DiskFault)) where
    spends : Spends on calls n old mid (wrote ≡ Err file.DiskFault)
    spends = subst (λ (b : List ℕ). Spends on calls (length b) old mid (wrote ≡ Err file.DiskFault)) same books

    pub wrote_memory : (fault : FileFault) → wrote ≡ Err fault → fault ≡ file.Memory
        → SpendsWithin on n old mid (Missed T)
    wrote_memory fault is memory =
        wrote_alone on n old (Missed T) calls mid (wrote ≡ Err file.DiskFault)
        (λ failed. absurd (other (sym (is ∙ ap Err memory) ∙ failed))) (λ no. absurd (not_missed T no)) spends
      where
        other : ◌≡◌ {A = Result W FileFault} (Err file.Memory) (Err file.DiskFault) → ⊥
        other e = cc

    pub wrote_failed : (fault : FileFault) → wrote ≡ Err fault → fault ≡ file.DiskFault
        → SpendsWithin on n old mid (Failing T)
    wrote_failed fault is failed =
        wrote_alone on n old (Failing T) calls mid (wrote ≡ Err file.DiskFault)
        (λ e. refl) (λ e. is ∙ ap Err failed) spends

    module _ (draft : W) (is : wrote ≡ Ok draft) {S : Type 0} (new : D) (sealed : Result S FileFault)
        (sync : Spends on 1 0 mid new (IsErr sealed)) where
      not_failed : wrote ≡ Err file.DiskFault → ⊥
      not_failed e = other (sym is ∙ e)
        where
          other : ◌≡◌ {A = Result W FileFault} (Ok draft) (Err file.DiskFault) → ⊥
          other f = cc

      abbrev ends : (other : Type 0) → (IsErr sealed → other) → (other → IsErr sealed)
          → SpendsWithin on n old new other
      ends other to from =
          wrote_synced on n old other calls 1 mid new (wrote ≡ Err file.DiskFault) (IsErr sealed)
          not_failed to from spends sync

      pub synced_failed : (fault : FileFault) → sealed ≡ Err fault → SpendsWithin on n old new (Failing T)
      synced_failed fault failed =
          ends (Failing T) (λ e. refl)
          (λ e. subst (λ (r : Result S FileFault). IsErr r) (sym failed) refl)

      no_error : (held : S) → sealed ≡ Ok held → IsErr sealed → ⊥
      no_error held done err = none (subst (λ (r : Result S FileFault). IsErr r) done err)
        where
          none : IsErr {T = S} {E = FileFault} (Ok held) → ⊥
          none e = cc

      pub synced_memory : (held : S) → sealed ≡ Ok held → SpendsWithin on n old new (Missed T)
      synced_memory held done =
          ends (Missed T) (λ err. absurd (no_error held done err)) (λ e. absurd (not_missed T e))

      pub synced_done : (held : S) → sealed ≡ Ok held → (x : T) → SpendsWithin on n old new (Done T x)
      synced_done held done x =
          ends (Done T x) (λ err. absurd (no_error held done err)) (λ e. absurd (not_done T x e))
