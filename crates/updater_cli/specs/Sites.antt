-- What a session's lines heard and brought, over links that tell: bytes of their sites.
use Rattle.std.specs.Prelude.{◌≡◌, ◌⊎◌, ℕ, List, [], ◌∷◌, ◌++◌, true, All, Any, IfSome, Some, Ok, slice_get}
use Rattle.small_types.specs.declared.target.Target.{Target}
use Rattle.addresses.specs.Address.{target_of_text}
use Rattle.addresses.specs.Join.{file_target_of}
use Rattle.identity.specs.declared.key.Key.{Key}
use Rattle.digest_list.specs.Matches.{Matches}
use Rattle.manifests.specs.declared.facts.FileEntry.{FileEntry}
use Rattle.links.specs.Links.{LinksState}
use Rattle.fetcher.specs.Given.{IsOfSite}
use Rattle.machine.specs.declared.command.Command.TheVariants.{Install, Check, Group}
use Rattle.machine.specs.declared.event.Event.{Event}
use Rattle.machine.specs.declared.event.Event.TheVariants.{Line}
use Rattle.machine.specs.declared.report.ReportLine.{ReportLine}
use Rattle.machine.specs.CheckRow.{provider_of}
use Rattle.machine.specs.Current.{current_view, data_of, listed_by}
use Rattle.machine.specs.Groups.{group_wanted}
use Rattle.machine.specs.InstallRow.{OfDeployment, base_of}
use Rattle.machine.specs.Leases.{leased_view}
use Rattle.machine.specs.Machine.{Step}
use Rattle.machine.specs.Migrated.{IsAside, IsKept}
use Rattle.machine.specs.Shape.{shape_of}
use Rattle.machine.specs.Store.{Session, Store}
use Rattle.machine.specs.Views.{DataFile, View, key_of}
use Rattle.machine.specs.Wanted.{wanted}
use Rattle.install_plan.specs.Brought.{IsHeldOrCame}
use Rattle.updater_cli.specs.Report.{Origin, origin_after}

-- ---- what is heard

-- the deployment manifest is of a site at the given address, the application manifest at the one
-- that the deployment lists
pub record HeardOfSites (links : LinksState) (url : List ℕ) (texts : List (List ℕ)) : Type 0 where
  pub deployment : IfSome (slice_get texts 0) (λ text.
      (target : Target) × (target_of_text url ≡ Ok target) × IsOfSite links target text)
  pub application : IfSome (slice_get texts 1) (λ text.
      OfDeployment texts (λ d. (base : Target) × (base_of url d ≡ Ok base)
      × IsOfSite links base text))

-- the deployment manifest is of a site at the address that the application's provider has in the
-- store
abbrev pub OfferOfSites : LinksState → Key → List (List ℕ) → Store → Type 0
OfferOfSites links key texts store =
    IfSome (slice_get texts 0) (λ text.
    (target : Target) × (provider_of key store.apps ≡ Some target) × IsOfSite links target text)

-- ---- what is brought

-- the bytes are those of a site at the target, whatever file they are for
abbrev pub IsFileOfSite : LinksState → FileEntry → Target → List ℕ → Type 0
IsFileOfSite links entry target bytes = IsOfSite links target bytes

-- It is a data file of the view that was current, which stays or is kept aside; or its bytes match and
-- are of a site at the address of a data file that the release deploys under the name.
abbrev pub IsCarriedOrOfSite : LinksState → Store → View → DataFile → Type 0
IsCarriedOrOfSite links old view file =
    IsKept (data_of (current_view (key_of view) old)) (listed_by (current_view (key_of view) old))
    view.application.files file
    ⊎ IsAside (data_of (current_view (key_of view) old))
    (listed_by (current_view (key_of view) old)) view.application.files file
    ⊎ Any (λ (entry : FileEntry). (target : Target) × (entry.local ≡ true)
    × (entry.name ≡ file.name)
    × (file_target_of view.base view.deployment.mapped entry.name ≡ Ok target)
    × Matches entry.list entry.size file.bytes × IsOfSite links target file.bytes)
    view.application.files

-- what an install heard, and the files of the view that it brought, if it brought one
pub record IsOfSites (links : LinksState) (url : List ℕ) (texts : List (List ℕ))
    (old new : Session) : Type 0 where
  pub heard : HeardOfSites links url texts
  pub brought : (view : View) → new.store.views ≡ old.store.views ++ view ∷ []
      → All (IsHeldOrCame (IsFileOfSite links) (shape_of old)
      (wanted (shape_of old).views view.application) view) view.program_files
  pub data_files : (view : View) → new.store.views ≡ old.store.views ++ view ∷ []
      → All (IsCarriedOrOfSite links old.store view) view.data_files

-- all program files that stand in the leased view behind a group's line, those of the group among
-- them
abbrev pub GroupOfSites : LinksState → ℕ → List ℕ → Session → Session → Type 0
GroupOfSites links lease group old new =
    (view : View) → leased_view lease new.store ≡ Some view
    → All (IsHeldOrCame (IsFileOfSite links) (shape_of old)
    (group_wanted (shape_of old).views group view.application) view) view.program_files

-- ---- lines

-- An install hears and brings, a check hears, and a group brings. Any other line does neither.
abbrev pub IsLineOfSites : LinksState → Event → Session → Session → Type 0
IsLineOfSites links (Line (Install url) now heard) old new = IsOfSites links url heard.texts old new
IsLineOfSites links (Line (Check key) now heard) old new =
    OfferOfSites links key heard.texts old.store
IsLineOfSites links (Line (Group lease group) now heard) old new =
    GroupOfSites links lease group old new
IsLineOfSites links _ old new = Unit {0}

-- The lines lead to this session, and what each heard and brought is of the sites of these links.
abbrev pub AreOfSites : LinksState → Origin → List ReportLine → Session → Type 0
AreOfSites links from [] new = new ≡ from.session
AreOfSites links from (l ∷ lines) new =
    (mid : Session) × Step from.now from.session l.event l.reply mid
    × IsLineOfSites links l.event from.session mid
    × AreOfSites links (origin_after from l.reply mid) lines new
