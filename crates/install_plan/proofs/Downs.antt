-- A reply that says of a link that it failed comes with a count that rose.
use Rattle.std.proofs.Common.{◌≡◌, ap, sym, subst, ℕ, zero, suc, ◌<◌, false, List, [], ◌∷◌, length, Contains, Option, Some, arith}
use Rattle.std.specs.Prelude.{IfSome, slice_get, slice_index_or}
use Rattle.std.proofs.lemmas.Bool.{false≢true}
use Rattle.small_types.specs.declared.limits.TheConstants.{MANIFEST_LIMIT}
use Rattle.small_types.specs.declared.target.Target.{Target}
use Rattle.outside.specs.Streams.{Rose}
use Rattle.causes.specs.declared.cause.Cause.{Cause}
use Rattle.causes.specs.declared.cause.Cause.TheVariants.{Down}
use Rattle.identity.specs.declared.key.Key.{Key}
use Rattle.manifests.specs.declared.facts.Application.{Application}
use Rattle.manifests.specs.declared.facts.Deployment.{Deployment}
use Rattle.machine.specs.declared.reply.Reply.{Reply}
use Rattle.machine.specs.declared.reply.Reply.TheVariants as says
use Rattle.machine.specs.Shape.{BareView, Shape}
use Rattle.links.specs.Link.{LinkState}
use Rattle.links.specs.Links.{LinksState, failures_of, number_at, sources_of}
use Rattle.links.proofs.Numbers.{known_at}
use Rattle.fetcher.specs.Causes.{AreCauses, IsFileCause, IsTextCause}
use Rattle.fetcher.specs.Fetched.{Kept}
use Rattle.fetcher.proofs.Sequence.{failures_rose}
use Rattle.install_plan.specs.Checks.{is_missing}
use Rattle.install_plan.specs.Downs.{CountsDowns, SaysDown}
use Rattle.install_plan.specs.GroupAsked.{LacksOfGroup}
use Rattle.install_plan.specs.InstallHeard.{Accounts, LacksFile, LacksTarget, InstallServed}
use Rattle.install_plan.specs.Offers.{AccountsOffer, OfferServed}

-- ---- a reply that names no target

unnamed : (reply : Reply) → is_missing reply ≡ false → SaysDown reply → ⊥
unnamed (says.AllLinks target reasons) named down = false≢true (sym named)
unnamed _ named down = down

pub counts_none : {before after : LinksState} {reply : Reply} → is_missing reply ≡ false
    → CountsDowns before after reply
counts_none {reply = reply} named = record { rose = λ down. absurd (unnamed reply named down) }

-- ---- one that does

at_place : {X : Type 0} (xs : List X) (k : ℕ) (x : X) → k < length xs → slice_index_or xs k x ≡ x
    → slice_get xs k ≡ Some x
at_place [] k x less is = absurd (omega (arith, less))
at_place (y ∷ ys) zero x less is = ap Some is
at_place (y ∷ ys) (suc k) x less is = at_place ys k x (omega (arith, less)) is

module _ (before after : LinksState) (kept : Kept before after) where
  abbrev Risen : Type 0
  Risen = Rose (failures_of before) (failures_of after)

  -- one of the causes is that a link failed
  rose_by : (IsCause : LinkState → LinkState → Cause → Type 0)
      → ((old new : LinkState) → IsCause old new Down → Rose old.count new.count)
      → (reasons : List Cause) → AreCauses IsCause before after reasons → Contains reasons Down
      → Risen
  rose_by IsCause rises reasons are there =
      let k = there.0 in
      let less : k < sources_of after = omega (arith, there.1, are.count) in
      let n : ℕ = number_at after.there k in
      let known : n < length before.there = omega (arith, known_at after.there k less, kept.all) in
      failures_rose before after n kept known (rises (before.link n) (after.link n)
      (subst (λ (found : Option Cause). IfSome found (IsCause (before.link n) (after.link n)))
      (at_place reasons k Down there.1 there.2) (are.each k less)))

  lacks_down : (shape : Shape) (url : List ℕ) (texts : List (List ℕ)) (asked : List Target)
      (named : Target) (reasons : List Cause)
      → LacksTarget shape url texts before after asked named reasons → Contains reasons Down → Risen
  lacks_down shape url [] asked named reasons lacks there =
      rose_by (IsTextCause MANIFEST_LIMIT named) (λ old new is. is) reasons lacks.1.causes there
  lacks_down shape url (text ∷ []) asked named reasons lacks there =
      let d = lacks.1.1 in
      rose_by (IsFileCause d.app_list d.app_size named) (λ old new is. is) reasons lacks.1.4.causes
      there
  lacks_down shape url (text ∷ other ∷ others) asked named reasons lacks there =
      let file = lacks.4.4 in
      rose_by (IsFileCause file.entry.list file.entry.size named) (λ old new is. is) reasons
      file.ungiven.causes there

  install_down : (shape : Shape) (url : List ℕ) (texts : List (List ℕ)) (asked : List Target)
      (reply : Reply) → Accounts shape url texts before after asked reply → SaysDown reply → Risen
  install_down shape url texts asked (says.AllLinks named reasons) accounts there =
      lacks_down shape url texts asked named reasons accounts there
  install_down shape url texts asked _ accounts there = absurd there

  check_down : (key : Key) (shape : Shape) (asked : List Target) (reply : Reply)
      → AccountsOffer key shape before after asked reply → SaysDown reply → Risen
  check_down key shape asked (says.AllLinks named reasons) accounts there =
      rose_by (IsTextCause MANIFEST_LIMIT named) (λ old new is. is) reasons accounts.1.causes there
  check_down key shape asked _ accounts there = absurd there

  -- no link gave a file of a release
  pub file_counts : (shape : Shape) (url : List ℕ) (asked : List Target) (named : Target)
      (reasons : List Cause) (d : Deployment) (a : Application)
      → LacksFile shape url before after asked named reasons d a
      → CountsDowns before after (says.AllLinks named reasons)
  file_counts shape url asked named reasons d a lacks = record {
    rose = λ there. rose_by (IsFileCause lacks.entry.list lacks.entry.size named)
        (λ old new is. is) reasons lacks.ungiven.causes there;
  }

  -- no link gave a file of a group
  pub group_counts : (shape : Shape) (group : List ℕ) (asked : List Target) (named : Target)
      (reasons : List Cause) (view : BareView)
      → LacksOfGroup shape group before after asked named reasons view
      → CountsDowns before after (says.AllLinks named reasons)
  group_counts shape group asked named reasons view lacks = record {
    rose = λ there. rose_by (IsFileCause lacks.entry.list lacks.entry.size named)
        (λ old new is. is) reasons lacks.ungiven.causes there;
  }

-- an install
pub install_counts : (shape : Shape) (url : List ℕ) (texts : List (List ℕ))
    (before after : LinksState) (reply : Reply) → InstallServed shape url texts before after reply
    → CountsDowns before after reply
install_counts shape url texts before after reply served = record {
  rose = install_down before after served.hearing.kept.kept shape url texts served.hearing.asked reply
      served.accounts;
}

-- a check
pub check_counts : (key : Key) (shape : Shape) (texts : List (List ℕ))
    (before after : LinksState) (reply : Reply) → OfferServed key shape texts before after reply
    → CountsDowns before after reply
check_counts key shape texts before after reply served = record {
  rose = check_down before after served.hearing.kept.kept key shape served.hearing.asked reply
      served.accounts;
}
