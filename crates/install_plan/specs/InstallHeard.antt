-- What an install asked of its links and heard of them, from the beginning of its line to the end.
use Rattle.std.specs.Prelude.{◌≡◌, ◌⊎◌, ℕ, Bool, List, [], ◌∷◌, ◌++◌, map, Any, IfSome, Ok, slice_get}
use Rattle.small_types.specs.declared.limits.TheConstants.{MANIFEST_LIMIT}
use Rattle.small_types.specs.declared.target.Target.{Target}
use Rattle.addresses.specs.Address.{target_of_text}
use Rattle.addresses.specs.Join.{app_target_of, file_target_of}
use Rattle.causes.specs.declared.cause.Cause.{Cause}
use Rattle.digest_list.specs.declared.digest.Digest.{Digest}
use Rattle.digest_list.specs.Matches.{Matches}
use Rattle.manifests.specs.declared.facts.Application.{Application}
use Rattle.manifests.specs.declared.facts.Deployment.{Deployment}
use Rattle.manifests.specs.declared.facts.FileEntry.{FileEntry}
use Rattle.machine.specs.declared.reply.Reply.{Reply}
use Rattle.machine.specs.declared.reply.Reply.TheVariants.{AllLinks, Memory}
use Rattle.machine.specs.Asked.{AsksInstall}
use Rattle.machine.specs.InstallRow.{OfDeployment, OfRelease, base_of}
use Rattle.machine.specs.Shape.{Shape}
use Rattle.machine.specs.Wanted.{wanted}
use Rattle.links.specs.Links.{LinksState}
use Rattle.fetcher.specs.Causes.{IsFileCause, IsTextCause}
use Rattle.fetcher.specs.Fetched.{KeptBut}
use Rattle.fetcher.specs.Given.{FitsText}
use Rattle.install_plan.specs.Given.{IsFrom, IsFromLeft, IsUngiven}

-- ---- the texts

-- the deployment manifest was got at the given address
abbrev pub IsDeploymentText : List ℕ → LinksState → LinksState → List ℕ → Type 0
IsDeploymentText url before after text =
    (target : Target) × (target_of_text url ≡ Ok target)
    × IsFrom (FitsText MANIFEST_LIMIT) target before after text

-- the application manifest was got where the deployment lists it, and is the listed one
abbrev pub IsApplicationText :
    List ℕ → List (List ℕ) → LinksState → LinksState → List ℕ → Type 0
IsApplicationText url texts before after text =
    OfDeployment texts (λ d. (base : Target) × (base_of url d ≡ Ok base)
    × IsFrom (Matches d.app_list d.app_size) base before after text)

-- ---- what is listed

-- at an address beside the application manifest, for the file
abbrev pub IsListedFor : Target → Bool → Target → List Digest → ℕ → FileEntry → Type 0
IsListedFor base mapped target list size entry =
    (file_target_of base mapped entry.name ≡ Ok target) × (list ≡ entry.list) × (size ≡ entry.size)

-- for the application manifest, by the deployment that was heard
abbrev pub IsListedManifest : List ℕ → List (List ℕ) → Target → List Digest → ℕ → Type 0
IsListedManifest url texts target list size =
    OfDeployment texts
    (λ d. (base_of url d ≡ Ok target) × (list ≡ d.app_list) × (size ≡ d.app_size))

-- for a wanted file, by the release that was heard
abbrev pub IsListedFile : Shape → List ℕ → List (List ℕ) → Target → List Digest → ℕ → Type 0
IsListedFile shape url texts target list size =
    OfRelease texts (λ d a. (base : Target) × (base_of url d ≡ Ok base)
    × Any (IsListedFor base d.mapped target list size) (wanted shape.views a))

abbrev pub IsListedBy : Shape → List ℕ → List (List ℕ) → Target → List Digest → ℕ → Type 0
IsListedBy shape url texts target list size =
    IsListedManifest url texts target list size ⊎ IsListedFile shape url texts target list size

-- ---- the line so far

-- the first of a list
abbrev pub IsFront : List Target → List Target → Type 0
IsFront front all = (rest : List Target) × (all ≡ front ++ rest)

-- The links went on from before to after. Of those that tell only those went that gave other bytes
-- than the texts list. Each text came from its target, and no target was asked for but the first of
-- those that the install asks for.
pub record InstallHeard (shape : Shape) (url : List ℕ) (texts : List (List ℕ))
    (before after : LinksState) : Type 0 where
  pub kept : KeptBut (IsListedBy shape url texts) before after
  pub deployment : IfSome (slice_get texts 0) (IsDeploymentText url before after)
  pub application : IfSome (slice_get texts 1) (IsApplicationText url texts before after)
  pub asked : List Target
  pub grown : after.asked ≡ before.asked ++ asked
  pub front : (all : List Target)
      → AsksInstall url texts shape all → IsFront asked all

-- ---- the line's end

-- each file was got at its address
abbrev pub WereGiven : LinksState → LinksState → List FileEntry → List Target → Type 0
WereGiven before after [] [] = Unit {0}
WereGiven before after (entry ∷ entries) (target ∷ targets) =
    ((bytes : List ℕ) × IsFromLeft (Matches entry.list entry.size) target before after bytes)
    × WereGiven before after entries targets
WereGiven before after entries targets = ⊥

-- No link gave one of the wanted files. Those before it were given, and nothing behind it was asked
-- for.
pub record LacksFile (shape : Shape) (url : List ℕ) (before after : LinksState)
    (asked : List Target) (named : Target) (reasons : List Cause) (d : Deployment)
    (a : Application) : Type 0 where
  pub target : Target
  pub read : target_of_text url ≡ Ok target
  pub base : Target
  pub joined : app_target_of target d.codebase ≡ Ok base
  pub earlier : List FileEntry
  pub entry : FileEntry
  pub later : List FileEntry
  pub wants : wanted shape.views a ≡ earlier ++ entry ∷ later
  pub targets : List Target
  pub each : map (λ file. file_target_of base d.mapped file.name) earlier ≡ map Ok targets
  pub at : file_target_of base d.mapped entry.name ≡ Ok named
  pub order : asked ≡ target ∷ base ∷ (targets ++ named ∷ [])
  pub gave : WereGiven before after earlier targets
  pub ungiven : IsUngiven (IsFileCause entry.list entry.size named)
      (Matches entry.list entry.size) named before after after reasons

-- No link gave the target: the first manifest that was not heard, or where both were heard a wanted
-- file.
abbrev pub LacksTarget : Shape → List ℕ → List (List ℕ) → LinksState → LinksState
    → List Target → Target → List Cause → Type 0
LacksTarget shape url [] before after asked named reasons =
    AsksInstall url [] shape asked
    × IsUngiven (IsTextCause MANIFEST_LIMIT named) (FitsText MANIFEST_LIMIT) named
    before after before reasons
LacksTarget shape url (text ∷ []) before after asked named reasons =
    AsksInstall url (text ∷ []) shape asked
    × OfDeployment (text ∷ []) (λ d.
    IsUngiven (IsFileCause d.app_list d.app_size named) (Matches d.app_list d.app_size) named
    before after before reasons)
LacksTarget shape url (text ∷ other ∷ others) before after asked named reasons =
    OfRelease (text ∷ other ∷ others) (LacksFile shape url before after asked named reasons)

-- What was asked is what the install asks for, unless a file was not given or there was no memory.
abbrev pub Accounts : Shape → List ℕ → List (List ℕ) → LinksState → LinksState
    → List Target → Reply → Type 0
Accounts shape url texts before after asked (AllLinks target reasons) =
    LacksTarget shape url texts before after asked target reasons
Accounts shape url texts before after asked Memory = Unit {0}
Accounts shape url texts before after asked _ =
    AsksInstall url texts shape asked

-- the whole line: what was asked, and where the reply names a target, why no link gave it
pub record InstallServed (shape : Shape) (url : List ℕ) (texts : List (List ℕ))
    (before after : LinksState) (reply : Reply) : Type 0 where
  pub hearing : InstallHeard shape url texts before after
  pub accounts : Accounts shape url texts before after hearing.asked reply
