-- What a check asked of its links and heard of them, from the beginning of its line to the end.
use Rattle.std.specs.Prelude.{◌≡◌, ◌≢◌, ◌⊎◌, ℕ, List, ◌++◌, IfSome, Some, slice_get}
use Rattle.small_types.specs.declared.limits.TheConstants.{MANIFEST_LIMIT}
use Rattle.small_types.specs.declared.target.Target.{Target}
use Rattle.identity.specs.declared.key.Key.{Key}
use Rattle.manifests.specs.declared.facts.Deployment.{Deployment}
use Rattle.manifests.specs.Deployments.{deployment_of}
use Rattle.machine.specs.declared.reply.Reply.{Reply}
use Rattle.machine.specs.declared.reply.Reply.TheVariants.{AllLinks, IdentityDiffers, Memory}
use Rattle.machine.specs.Asked.{AsksCheck}
use Rattle.machine.specs.CheckRow.{provider_of}
use Rattle.machine.specs.Shape.{Shape}
use Rattle.links.specs.Links.{LinksState}
use Rattle.fetcher.specs.Causes.{IsTextCause}
use Rattle.fetcher.specs.Fetched.{KeptAll}
use Rattle.fetcher.specs.Given.{FitsText}
use Rattle.install_plan.specs.Given.{IsFrom, IsUngiven}
use Rattle.install_plan.specs.InstallHeard.{IsFront}
use Rattle.install_plan.specs.Stages.{HearsOne, StopsOne}

-- ---- the whole line

-- the deployment manifest was got at the application's provider
abbrev pub IsOfferText : Key → Shape → LinksState → LinksState → List ℕ → Type 0
IsOfferText key shape before after text =
    (target : Target) × (provider_of key shape.apps ≡ Some target)
    × IsFrom (FitsText MANIFEST_LIMIT) target before after text

-- The links went on from before to after, and none is gone. The text came from the provider, and
-- nothing was asked for but what the check asks for.
pub record OfferHearing (key : Key) (shape : Shape) (texts : List (List ℕ))
    (before after : LinksState) : Type 0 where
  pub kept : KeptAll before after
  pub text : IfSome (slice_get texts 0) (IsOfferText key shape before after)
  pub asked : List Target
  pub grown : after.asked ≡ before.asked ++ asked
  pub front : (all : List Target) → AsksCheck key shape all → IsFront asked all

-- What was asked is what the check asks for, unless there was no memory. Where the reply names a
-- target, no link gave it, each for its cause.
abbrev pub AccountsOffer :
    Key → Shape → LinksState → LinksState → List Target → Reply → Type 0
AccountsOffer key shape before after asked (AllLinks target reasons) =
    AsksCheck key shape asked
    × IsUngiven (IsTextCause MANIFEST_LIMIT target) (FitsText MANIFEST_LIMIT) target
    before after before reasons
AccountsOffer key shape before after asked Memory = Unit {0}
AccountsOffer key shape before after asked _ = AsksCheck key shape asked

pub record OfferServed (key : Key) (shape : Shape) (texts : List (List ℕ))
    (before after : LinksState) (reply : Reply) : Type 0 where
  pub hearing : OfferHearing key shape texts before after
  pub accounts : AccountsOffer key shape before after hearing.asked reply

-- ---- what is heard at the provider

-- the manifest of the key was got and noted
pub record IsOffer (key : Key) (provider : Target) (old new : List (List ℕ))
    (before after : LinksState) (d : Deployment) : Type 0 where
  pub kept : KeptAll before after
  pub heard : HearsOne deployment_of (FitsText MANIFEST_LIMIT) provider before after old new d
  pub same : d.identity.key ≡ key

-- it is of another key
pub record IsOfOther (key : Key) (provider : Target) (old new : List (List ℕ))
    (before after : LinksState) (reply : Reply) : Type 0 where
  pub deployment : Deployment
  pub heard : HearsOne deployment_of (FitsText MANIFEST_LIMIT) provider before after old new
      deployment
  pub other : deployment.identity.key ≢ key
  pub replied : (reply ≡ Memory) ⊎ (reply ≡ IdentityDiffers deployment.identity.key)

-- why none was heard
pub record IsNoOffer (key : Key) (provider : Target) (old new : List (List ℕ))
    (before after : LinksState) (reply : Reply) : Type 0 where
  pub kept : KeptAll before after
  pub why :
      StopsOne deployment_of (IsTextCause MANIFEST_LIMIT provider) (FitsText MANIFEST_LIMIT)
      provider before after old new reply
      ⊎ IsOfOther key provider old new before after reply
