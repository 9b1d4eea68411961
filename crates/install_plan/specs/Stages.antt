-- How one manifest is heard.
use Rattle.std.specs.Prelude.{◌≡◌, ◌≢◌, ◌⊎◌, ℕ, List, [], ◌∷◌, ◌++◌, Ok}
use Rattle.small_types.specs.declared.target.Target.{Target}
use Rattle.causes.specs.declared.cause.Cause.{Cause}
use Rattle.manifest_tree.specs.Tree.{Tree}
use Rattle.manifest_parts.specs.declared.fault.ManifestFault.{ManifestFault}
use Rattle.manifest_parts.specs.declared.fault.ManifestFault.TheVariants as fault
use Rattle.manifest_parts.specs.Elements.{Read}
use Rattle.manifest_parts.specs.Parts.{RefusesBytes, Tells}
use Rattle.machine.specs.declared.reply.Reply.{Reply}
use Rattle.machine.specs.declared.reply.Reply.TheVariants.{AllLinks, Manifest, Memory}
use Rattle.links.specs.Link.{LinkState}
use Rattle.links.specs.Links.{LinksState}
use Rattle.fetcher.specs.Fetched.{WasAsked, MayAsk, NoneGave}
use Rattle.install_plan.specs.Given.{IsFrom}

-- a text was asked for at the target, and got
pub record IsGot (Fits : List ℕ → Type 0) (target : Target) (before after : LinksState)
    (text : List ℕ) : Type 0 where
  pub asked : WasAsked target before after
  pub from : IsFrom Fits target before after text

-- the manifest's text was got and noted, and tells this
pub record HearsOne {A : Type 0} (facts : Tree → Read A) (Fits : List ℕ → Type 0)
    (target : Target) (before after : LinksState) (old new : List (List ℕ)) (a : A) : Type 0 where
  pub text : List ℕ
  pub noted : new ≡ old ++ text ∷ []
  pub got : IsGot Fits target before after text
  pub tells : Tells facts text (Ok a)

-- no link gave it
pub record IsNotGiven (IsCause : LinkState → LinkState → Cause → Type 0) (Fits : List ℕ → Type 0)
    (target : Target) (before after : LinksState) (old new : List (List ℕ)) (reply : Reply)
    : Type 0 where
  pub noted : new ≡ old
  pub named : Target
  pub reasons : List Cause
  pub gave : NoneGave IsCause Fits target before after named reasons
  pub replied : reply ≡ AllLinks named reasons

-- its text was got and noted, and is refused
pub record IsNotRead {A : Type 0} (facts : Tree → Read A) (Fits : List ℕ → Type 0)
    (target : Target) (before after : LinksState) (old new : List (List ℕ)) (reply : Reply)
    : Type 0 where
  pub text : List ℕ
  pub noted : new ≡ old ++ text ∷ []
  pub got : IsGot Fits target before after text
  pub reason : ManifestFault
  pub refuses : RefusesBytes facts text reason
  pub other : reason ≢ fault.Memory
  pub replied : reply ≡ Manifest reason

-- there was no memory, before its text was noted or behind that
pub record IsNotKept (Fits : List ℕ → Type 0) (target : Target) (before after : LinksState)
    (old new : List (List ℕ)) (reply : Reply) : Type 0 where
  pub replied : reply ≡ Memory
  pub noted : ((new ≡ old) × MayAsk target before after)
      ⊎ ((text : List ℕ) × (new ≡ old ++ text ∷ []) × IsGot Fits target before after text)

-- why no manifest was heard
abbrev pub StopsOne : {A : Type 0} → (Tree → Read A) → (LinkState → LinkState → Cause → Type 0)
    → (List ℕ → Type 0) → Target → LinksState → LinksState → List (List ℕ) → List (List ℕ)
    → Reply → Type 0
StopsOne facts IsCause Fits target before after old new reply =
    IsNotGiven IsCause Fits target before after old new reply
    ⊎ IsNotRead facts Fits target before after old new reply
    ⊎ IsNotKept Fits target before after old new reply
