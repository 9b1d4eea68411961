-- What links that tell gave is of their sites as they were at first.
use Rattle.std.proofs.Common.{inl, inr, ℕ, List, All, Option, Some, None, subst}
use Rattle.std.proofs.lemmas.List.Elements.{All-weaker}
use Rattle.std.specs.Prelude.{IfSome, slice_get}
use Rattle.small_types.specs.declared.target.Target.{Target}
use Rattle.links.specs.declared.links.Links.{Ghosts as LinksGhosts}
use Rattle.links.specs.Links.{LinksState}
use Rattle.fetcher.specs.Fetched.{AllTell, Kept}
use Rattle.fetcher.specs.Given.{IsOfSite}
use Rattle.fetcher.proofs.Sequence.{kept_then, site_before, tell_after}
use Rattle.identity.specs.declared.key.Key.{Key}
use Rattle.install_plan.specs.Brought.{IsBrought, IsCarriedOrFetched, IsFileFrom, IsHeldOrCame}
use Rattle.install_plan.specs.Given.{IsFromLeft, narrowed}
use Rattle.install_plan.specs.GroupAsked.{AreBrought}
use Rattle.install_plan.specs.InstallHeard.{InstallHeard, IsApplicationText, IsDeploymentText}
use Rattle.install_plan.specs.Offers.{IsOfferText, OfferHearing}
use Rattle.manifests.specs.declared.facts.FileEntry.{FileEntry}
use Rattle.machine.specs.declared.command.Command.{Command}
use Rattle.machine.specs.declared.command.Command.TheVariants.{Check, Group, Install}
use Rattle.machine.specs.declared.event.Event.{Event}
use Rattle.machine.specs.declared.event.Event.TheVariants.{Boot, Line, Unread}
use Rattle.machine.specs.declared.reply.Reply.{Reply}
use Rattle.machine.specs.Groups.{group_wanted}
use Rattle.machine.specs.Machine.{Step}
use Rattle.machine.specs.Shape.{Shape, shape_of}
use Rattle.machine.specs.Store.{Session, Store}
use Rattle.machine.specs.Views.{DataFile, ListedFile, View}
use Rattle.machine.specs.Wanted.{wanted}
use Rattle.updater.specs.Commanded.{LinksServe}
use Rattle.updater_cli.specs.Report.{IsLineServed}
use Rattle.updater_cli.specs.Sites.{HeardOfSites, GroupOfSites, IsCarriedOrOfSite, IsFileOfSite, IsLineOfSites, OfferOfSites}

some_as : {A : Type 0} (o : Option A) (P Q : A → Type 0) → ((x : A) → P x → Q x) → IfSome o P → IfSome o Q
some_as None P Q on is = tt
some_as (Some x) P Q on is = on x is

module _ (first before after : LinksState) (kept : Kept first before) (tell : AllTell first) where
  -- bytes that were got of links that were left
  left_site : {Fits : List ℕ → Type 0} (target : Target) (bytes : List ℕ) → IsFromLeft Fits target before after bytes → IsOfSite first target bytes
  left_site target bytes is =
      let here : Kept first (narrowed before is.left) = kept_then first before (narrowed before is.left) kept is.earlier in
      site_before first (narrowed before is.left) target bytes here tell (is.from.site (tell_after first (narrowed before is.left) here tell))

  -- what was heard
  heard_of : (shape : Shape) (url : List ℕ) (texts : List (List ℕ)) → InstallHeard shape url texts before after → HeardOfSites first url texts
  heard_of shape url texts hearing = record {
    deployment = some_as (slice_get texts 0) (IsDeploymentText url before after) _
        (λ text is. (is.0, is.1, site_before first before is.0 text kept tell (is.2.site (tell_after first before kept tell)))) hearing.deployment;
    application = some_as (slice_get texts 1) (IsApplicationText url texts before after) _
        (λ text is. (is.0, is.1, is.2, is.3, (is.4.0, is.4.1, site_before first before is.4.0 text kept tell (is.4.2.site (tell_after first before kept tell))))) hearing.application;
  }

  offer_of : (key : Key) (old : Session) (texts : List (List ℕ)) → OfferHearing key (shape_of old) texts before after → OfferOfSites first key texts old.store
  offer_of key old texts hearing =
      some_as (slice_get texts 0) (IsOfferText key (shape_of old) before after) _
      (λ text is. (is.0, is.1, site_before first before is.0 text kept tell (is.2.site (tell_after first before kept tell)))) hearing.text

  -- what an install or a group brought
  file_of : (shape : Shape) (wants : List FileEntry) (view : View) (file : ListedFile) → IsHeldOrCame (IsFileFrom before after) shape wants view file
      → IsHeldOrCame (IsFileOfSite first) shape wants view file
  file_of shape wants view file (inl held) = inl held
  file_of shape wants view file (inr fetched) =
      let from = fetched.4 in
      inr (fetched.0, fetched.1, fetched.2, fetched.3, (from.0, from.1, from.2, left_site from.0 file.bytes from.3))

  carried_of : (old : Store) (view : View) (file : DataFile) → IsCarriedOrFetched old before after view file → IsCarriedOrOfSite first old view file
  carried_of old view file (inl kept) = inl kept
  carried_of old view file (inr (inl aside)) = inr (inl aside)
  carried_of old view file (inr (inr fetched)) =
      let from = fetched.4 in
      inr (inr (fetched.0, fetched.1, fetched.2, fetched.3, (from.0, from.1, from.2, from.3, from.4.from.fits, left_site from.0 file.bytes from.4)))

  files_of : (shape : Shape) (wants : List FileEntry) (view : View) → All (IsHeldOrCame (IsFileFrom before after) shape wants view) view.program_files
      → All (IsHeldOrCame (IsFileOfSite first) shape wants view) view.program_files
  files_of shape wants view = All-weaker (IsHeldOrCame (IsFileFrom before after) shape wants view) (IsHeldOrCame (IsFileOfSite first) shape wants view) (file_of shape wants view) view.program_files

  group_of : (lease : ℕ) (group : List ℕ) (old new : Session) → AreBrought lease group (shape_of old) before after new.store → GroupOfSites first lease group old new
  group_of lease group old new brought = λ view leased.
      files_of (shape_of old) (group_wanted (shape_of old).views group view.application) view (brought.files view leased)

  served_of : (command : Command) (texts : List (List ℕ)) (old new : Session) (reply : Reply) (now : ℕ) → LinksServe command texts before after old reply new
      → IsLineOfSites first (Line command now (record { texts = texts })) old new
  served_of (Install url) texts old new reply now serves = record {
    heard = heard_of (shape_of old) url texts serves.0.hearing;
    brought = λ view is.
        let brought : IsBrought old before after view = serves.1 view is in
        files_of (shape_of old) (wanted (shape_of old).views view.application) view brought.files;
    data_files = λ view is.
        let brought : IsBrought old before after view = serves.1 view is in
        All-weaker (IsCarriedOrFetched old.store before after view) (IsCarriedOrOfSite first old.store view) (carried_of old.store view) view.data_files brought.data_files;
  }
  served_of (Check key) texts old new reply now serves = offer_of key old texts serves.hearing
  served_of (Group lease group) texts old new reply now serves = group_of lease group old new serves.1
  served_of _ texts old new reply now serves = tt

pub line_of : {L : Type 0} (net : LinksGhosts L) (first : LinksState) (before after : L) → Kept first (net.links before) → AllTell first
    → (now : ℕ) (old new : Session) (event : Event) (reply : Option Reply) → Step now old event reply new → IsLineServed net event reply before after old new
    → IsLineOfSites first event old new
line_of net first before after kept tell now old new (Boot boot) reply step served = tt
line_of net first before after kept tell now old new (Unread fault) reply step served = tt
line_of net first before after kept tell now old new (Line command at heard) reply step served =
    let told : IfSome (Some step.answer) (λ answer. LinksServe command heard.texts (net.links before) (net.links after) old answer new) =
    subst (λ (r : Option Reply). IfSome r (λ answer. LinksServe command heard.texts (net.links before) (net.links after) old answer new)) step.replied served.serves in
    served_of first (net.links before) (net.links after) kept tell command heard.texts old new step.answer at told
