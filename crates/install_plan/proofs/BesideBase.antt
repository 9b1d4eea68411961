-- Addresses of files beside a base that was read.
use Rattle.std.proofs.Common.{◌≡◌, ◌≢◌, ◌∙◌, ◌⊎◌, ◌<◌, ◌==◌, ℕ, Bool, false, inl, inr, refl, ap, List, [], ◌∷◌, length, get_or, map, Option, Some, None, Result, Ok, Err, arith}
use Rattle.std.specs.Prelude.{Any, slice_get}
use Rattle.small_types.specs.declared.target.Target.{Target}
use Rattle.small_types.specs.Outcome.{FailsBut}
use Rattle.addresses.specs.declared.fault.UrlFault.{UrlFault}
use Rattle.addresses.specs.declared.fault.UrlFault.TheVariants.{BadUrl, Memory, NotHttp}
use Rattle.addresses.specs.declared.file_base.FileBase.{FileBase}
use Rattle.addresses.specs.Address.{is_memory}
use Rattle.addresses.specs.FileBase.{document_of}
use Rattle.addresses.specs.Join.{base_of}
use Rattle.addresses.proofs.NameLemmas.{none_beside, target_beside}
use Rattle.manifests.specs.declared.facts.FileEntry.{FileEntry}
use Rattle.machine.specs.declared.reply.Reply.{Reply}
use Rattle.machine.specs.declared.reply.Reply.TheVariants as says
use Rattle.install_plan.specs.Replies.{url_reply}
use Rattle.install_plan.specs.WantedFiles.{joined_at, target_at}
use Rattle.install_plan.proofs.Judged.{refused_at}

-- ---- the base was read

module _ (base : Target) (found : FileBase) (mapped : Bool) (read : base_of base ≡ Ok (document_of found)) where
  at_beside : (file : Option FileEntry) → target_at base mapped file ≡ joined_at found mapped file
  at_beside None = refl
  at_beside (Some entry) = target_beside base (document_of found) mapped entry.name read

  pub joined_places : (files : List FileEntry) (places : List ℕ)
      → map (λ place. target_at base mapped (slice_get files place)) places
      ≡ map (λ place. joined_at found mapped (slice_get files place)) places
  joined_places files [] = refl
  joined_places files (place ∷ places) =
      let rest : List (Result Target UrlFault) = map (λ p. target_at base mapped (slice_get files p)) places in
      ap (λ one. one ∷ rest) (at_beside (slice_get files place))
      ∙ ap (λ all. joined_at found mapped (slice_get files place) ∷ all) (joined_places files places)

  pub joined_refused : (files : List FileEntry) (places : List ℕ) (reply : Reply)
      → (reply ≡ says.Memory) ⊎ ((reply ≡ says.BadUrl)
      × Any (λ place. joined_at found mapped (slice_get files place) ≡ Err BadUrl) places)
      → (reply ≡ says.Memory) ⊎ ((reply ≡ says.BadUrl)
      × Any (λ place. target_at base mapped (slice_get files place) ≡ Err BadUrl) places)
  joined_refused files places reply (inl memory) = inl memory
  joined_refused files places reply (inr bad) =
      let at = bad.1 in
      inr (bad.0, (at.0, at.1, at.2, at.3, at_beside (slice_get files at.1) ∙ at.4))

-- ---- it was not

-- a list that is not empty has an item
pub has_some : {X : Type 0} (xs : List X) (empty : Bool) → empty ≡ (length xs == 0) → empty ≡ false → 0 < length xs
has_some [] empty is some = absurd (let one = is in let other = some in cc)
has_some (x ∷ xs) empty is some = omega arith

none_at : (base : Target) (mapped : Bool) (file : Option FileEntry) → base_of base ≡ Err BadUrl
    → target_at base mapped file ≡ Err BadUrl
none_at base mapped None none = refl
none_at base mapped (Some entry) none = none_beside base mapped entry.name BadUrl none

-- no wanted file has an address then, and there is one
pub base_refused : {X : Type 0} (fault : UrlFault) (reply : Reply) (base : Target) (mapped : Bool)
    (files : List FileEntry) (places : List ℕ) → reply ≡ url_reply fault
    → FailsBut is_memory fault (base_of base)
    → ((scheme : List ℕ) → ◌≢◌ {A = Result X UrlFault} (Err fault) (Err (NotHttp scheme)))
    → 0 < length places
    → (reply ≡ says.Memory) ⊎ ((reply ≡ says.BadUrl)
    × Any (λ place. target_at base mapped (slice_get files place) ≡ Err BadUrl) places)
base_refused BadUrl reply base mapped files places is none http some =
    refused_at reply (λ (place : ℕ). target_at base mapped (slice_get files place) ≡ Err BadUrl) places 0
    some (inr (is, none_at base mapped (slice_get files (get_or places 0 0)) none))
base_refused (NotHttp scheme) reply base mapped files places is none http some = absurd (http scheme refl)
base_refused Memory reply base mapped files places is none http some = inl is
