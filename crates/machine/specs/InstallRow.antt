-- install URL: the release at the address becomes the current view of its application.
use Rattle.std.specs.Prelude.{◌≡◌, ◌≢◌, ◌<◌, ◌≤◌, ◌+◌, ℕ, not, List, [], ◌∷◌, ◌++◌, Any, length, map, count_by, sum_by, slice_get, Some, None, Result, Ok, Err}
use Rattle.small_types.specs.declared.limit.Limit.TheVariants.{Applications, Views, Files, Locals}
use Rattle.small_types.specs.declared.limits.TheConstants.{APPLICATION_LIMIT, FILE_COUNT_LIMIT, LOCAL_COUNT_LIMIT, NUMBER_LIMIT, VIEW_LIMIT}
use Rattle.small_types.specs.declared.target.Target.{Target}
use Rattle.small_types.specs.Outcome.{◌>>=◌}
use Rattle.addresses.specs.declared.fault.UrlFault.{UrlFault}
use Rattle.addresses.specs.declared.fault.UrlFault.TheVariants.{BadUrl, NotHttp}
use Rattle.addresses.specs.Address.{target_of_text}
use Rattle.addresses.specs.Join.{app_target_of, file_target_of}
use Rattle.identity.specs.declared.version.Version.{Version}
use Rattle.identity.specs.Version.{IsBelow}
use Rattle.digest_list.specs.Matches.{Matches}
use Rattle.manifest_tree.specs.Tree.{Tree}
use Rattle.manifest_parts.specs.declared.fault.ManifestFault.{ManifestFault}
use Rattle.manifest_parts.specs.declared.fault.ManifestFault.TheVariants as fault
use Rattle.manifest_parts.specs.Elements.{Read}
use Rattle.manifest_parts.specs.Parts.{RefusesBytes, Tells}
use Rattle.manifests.specs.declared.facts.Application.{Application}
use Rattle.manifests.specs.declared.facts.Deployment.{Deployment}
use Rattle.manifests.specs.declared.releases.ReleaseFault.TheVariants as unlike
use Rattle.manifests.specs.Applications.{application_of, is_below_pre}
use Rattle.manifests.specs.Deployments.{deployment_of}
use Rattle.manifests.specs.Releases.{RefusesIdentity}
use Rattle.machine.specs.declared.app.AppState.{AppState}
use Rattle.machine.specs.declared.reply.Reply.{Reply}
use Rattle.machine.specs.declared.reply.Reply.TheVariants as says
use Rattle.machine.specs.BareViews.{new_bare}
use Rattle.machine.specs.Blocks.{free_blocks}
use Rattle.machine.specs.Current.{bare_data_of, bare_listed_by, current_bare, current_version}
use Rattle.machine.specs.Entries.{entry_of, with_entry}
use Rattle.machine.specs.Installed.{AreFetched, Installed, IsProvidedBy}
use Rattle.machine.specs.Migrated.{migrated_names}
use Rattle.machine.specs.Minimums.{minimum_of}
use Rattle.machine.specs.Rows.{Refusal, PassesAll, exactly, exactly_with}
use Rattle.machine.specs.Shape.{Shape}
use Rattle.machine.specs.Store.{Session, Store}
use Rattle.machine.specs.Unheard.{may_be_unheard, unheard}
use Rattle.machine.specs.Views.{ListedFile}
use Rattle.machine.specs.Wanted.{install_need, wanted}
use Rattle.machine.specs.Weight.{IsTooHeavy, table_room, told_weight, weight_of}

-- ---- what was heard

-- it holds of what the text at the place tells
abbrev pub OfText : {A : Type 0} → (Tree → Read A) → ℕ → List (List ℕ) → (A → Type 0) → Type 0
OfText {A} facts place heard holds =
    (text : List ℕ) × (a : A) × (slice_get heard place ≡ Some text) × Tells facts text (Ok a)
    × holds a

-- the first text is that of the deployment, the second that of the application
abbrev pub OfDeployment : List (List ℕ) → (Deployment → Type 0) → Type 0
OfDeployment heard holds = OfText deployment_of 0 heard holds

abbrev pub OfRelease : List (List ℕ) → (Deployment → Application → Type 0) → Type 0
OfRelease heard holds = OfDeployment heard (λ d. OfText application_of 1 heard (λ a. holds d a))

-- the text at the place is refused
abbrev pub IsRefused : {A : Type 0} → (Tree → Read A) → ℕ → List (List ℕ) → ManifestFault → Type 0
IsRefused facts place heard reason =
    (text : List ℕ) × (slice_get heard place ≡ Some text) × RefusesBytes facts text reason
    × (reason ≢ fault.Memory)

-- the address of the application manifest
abbrev pub base_of : List ℕ → Deployment → Result Target UrlFault
base_of url d = target_of_text url >>= (λ target. app_target_of target d.codebase)

-- ---- conditions

-- a version is current, and the heard one is not above it
abbrev pub IsNotNewer : Shape → Deployment → Version → Type 0
IsNotNewer shape d have =
    (current_version d.identity.key shape ≡ Some have) × ¬ IsBelow have d.identity.version

-- there is a minimum, and the heard version is below it
abbrev pub IsBelowMinimum : Shape → Deployment → Version → Type 0
IsBelowMinimum shape d minimum =
    (minimum_of d.identity.key shape.apps ≡ Some minimum) × IsBelow d.identity.version minimum

-- the key is new, and there are as many applications as may be
abbrev pub LacksEntry : Shape → Deployment → Type 0
LacksEntry shape d =
    (entry_of d.identity.key shape.apps ≡ None) × (APPLICATION_LIMIT ≤ length shape.apps)

-- the files that kept views list, and those of the application
abbrev pub files_after : Shape → Application → ℕ
files_after shape a = sum_by (λ view. length view.application.files) shape.views + length a.files

-- the data files outside `.pre` that the new view has
abbrev pub locals_after : Shape → Deployment → Application → ℕ
locals_after shape d a =
    let old = current_bare d.identity.key shape in
    count_by (λ name. not (is_below_pre name))
    (migrated_names (map (λ file. file.name) (bare_data_of old)) (bare_listed_by old) a.files)

-- the address of a wanted file is so
abbrev pub OfWanted :
    List ℕ → Shape → Deployment → Application → (Result Target UrlFault → Type 0) → Type 0
OfWanted url shape d a holds =
    (base : Target) × (base_of url d ≡ Ok base)
    × Any (λ entry. holds (file_target_of base d.mapped entry.name)) (wanted shape.views a)

-- an application with the provider; of what an install changes in it, that alone weighs
abbrev pub with_provider : Target → AppState → AppState
with_provider provider app = record app { provider = Some provider }

-- what the tables weigh once the release is installed, with its application manifest at the base
abbrev pub weight_installed : Target → Target → Deployment → Application → Shape → ℕ
weight_installed provider base d a shape =
    weight_of (shape.views ++ new_bare base d a shape ∷ [])
    (with_entry d.identity.key (with_provider provider) shape.apps)

-- the weight is that of the release at the address
pub record IsWeightOf (url : List ℕ) (shape : Shape) (d : Deployment) (a : Application) (weight : ℕ)
    : Type 0 where
  pub target : Target
  pub read : target_of_text url ≡ Ok target
  pub base : Target
  pub joined : app_target_of target d.codebase ≡ Ok base
  pub provider : Target
  pub provided : IsProvidedBy target d.provider provider
  pub is : weight ≡ weight_installed provider base d a shape

-- ---- refusals

-- the address is none
abbrev pub address_refusals : List ℕ → List (Refusal Reply Session)
address_refusals url =
    exactly (target_of_text url ≡ Err BadUrl) says.BadUrl
    ∷ exactly_with (λ scheme. target_of_text url ≡ Err (NotHttp scheme)) (λ scheme. says.NotHttp)
    ∷ []

-- the deployment manifest is not heard, cannot be read, or its version may not come
abbrev pub deployment_refusals : List ℕ → List (List ℕ) → Shape → List (Refusal Reply Session)
deployment_refusals url heard shape =
    unheard (λ target. (target_of_text url ≡ Ok target) × (slice_get heard 0 ≡ None))
    ∷ exactly_with (IsRefused deployment_of 0 heard) (λ reason. says.Manifest reason)
    ∷ exactly_with (λ have. OfDeployment heard (λ d. IsNotNewer shape d have))
    (λ have. says.NotNewer have)
    ∷ exactly_with (λ minimum. OfDeployment heard (λ d. IsBelowMinimum shape d minimum))
    (λ minimum. says.BelowMinimum minimum)
    ∷ exactly (OfDeployment heard (LacksEntry shape)) (says.TooMany Applications APPLICATION_LIMIT)
    ∷ exactly (VIEW_LIMIT ≤ length shape.views) (says.TooMany Views VIEW_LIMIT)
    ∷ exactly (shape.next_view ≡ NUMBER_LIMIT) (says.Spent shape.next_view)
    ∷ exactly (OfDeployment heard (λ d. base_of url d ≡ Err BadUrl)) says.BadUrl
    ∷ exactly_with (λ scheme. OfDeployment heard (λ d. base_of url d ≡ Err (NotHttp scheme)))
    (λ scheme. says.NotHttp)
    ∷ []

-- The application manifest is not heard, cannot be read or is not the listed one, or its files have
-- no place. A view has at most so many data files outside `.pre`.
abbrev pub place_refusals : List ℕ → List (List ℕ) → Shape → List (Refusal Reply Session)
place_refusals url heard shape =
    unheard
    (λ target. OfDeployment heard (λ d. base_of url d ≡ Ok target) × (slice_get heard 1 ≡ None))
    ∷ exactly_with (IsRefused application_of 1 heard) (λ reason. says.Manifest reason)
    ∷ exactly_with
    (λ reason. OfRelease heard (λ d a. RefusesIdentity d a reason) × (reason ≢ unlike.Memory))
    (λ reason. says.Release reason)
    ∷ exactly (OfRelease heard (λ d a. FILE_COUNT_LIMIT < files_after shape a))
    (says.TooMany Files FILE_COUNT_LIMIT)
    ∷ exactly (OfRelease heard (λ d a. LOCAL_COUNT_LIMIT < locals_after shape d a))
    (says.TooMany Locals LOCAL_COUNT_LIMIT)
    ∷ exactly (OfRelease heard (λ d a. OfWanted url shape d a (λ target. target ≡ Err BadUrl)))
    says.BadUrl
    ∷ exactly_with
    (λ need. OfRelease heard (λ d a. (need ≡ install_need shape d a) × (free_blocks shape < need)))
    (λ need. says.Full need (free_blocks shape))
    ∷ []

-- the tables would have no room
abbrev pub weight_refusals : List ℕ → List (List ℕ) → Shape → List (Refusal Reply Session)
weight_refusals url heard shape =
    exactly_with
    (λ weight. OfRelease heard (λ d a.
    IsWeightOf url shape d a weight × IsTooHeavy shape.room weight))
    (λ weight. says.TableFull (told_weight weight) (table_room shape.room))
    ∷ []

-- the release may not come
abbrev pub release_refusals : List ℕ → List (List ℕ) → Shape → List (Refusal Reply Session)
release_refusals url heard shape = place_refusals url heard shape ++ weight_refusals url heard shape

-- no link gives a wanted file, which is a free choice
abbrev pub file_refusals : List ℕ → List (List ℕ) → Shape → List (Refusal Reply Session)
file_refusals url heard shape =
    may_be_unheard
    (λ target. OfRelease heard (λ d a. OfWanted url shape d a (λ read. read ≡ Ok target)))
    ∷ []

abbrev pub install_refusals : List ℕ → List (List ℕ) → Shape → List (Refusal Reply Session)
install_refusals url heard shape =
    address_refusals url ++ deployment_refusals url heard shape
    ++ release_refusals url heard shape ++ file_refusals url heard shape

-- ---- the effect

-- the release that was heard is installed, with whole files; the reply shows its key, its version
-- and the view's number
pub record InstallEffect (url : List ℕ) (heard : List (List ℕ)) (now : ℕ) (old : Session)
    (reply : Reply) (new : Session) : Type 0 where
  pub target : Target
  pub read : target_of_text url ≡ Ok target
  pub deployment : Deployment
  pub application : Application
  pub told : OfRelease heard (λ d a. (d ≡ deployment) × (a ≡ application))
  pub base : Target
  pub joined : app_target_of target deployment.codebase ≡ Ok base
  pub files : List ListedFile
  pub originals : List ListedFile
  pub fetched : AreFetched old.store application files originals
  pub store : Store
  pub installed : Installed target base deployment application files originals now old.store store
  pub is : new ≡ record old { store = store }
  pub replied : reply
      ≡ says.Installed deployment.identity.key deployment.identity.version old.store.next_view

-- ---- what it hears and asks

-- Nothing; the deployment manifest, at an address; or behind it the application manifest that it
-- lists, where the deployment is not refused.
abbrev pub HearsRelease : List ℕ → Shape → List (List ℕ) → Type 0
HearsRelease url shape [] = Unit {0}
HearsRelease url shape (deployment ∷ []) = PassesAll (address_refusals url)
HearsRelease url shape (deployment ∷ application ∷ []) =
    PassesAll (address_refusals url)
    × PassesAll (deployment_refusals url (deployment ∷ application ∷ []) shape)
    × OfDeployment (deployment ∷ application ∷ []) (λ d. Matches d.app_list d.app_size application)
HearsRelease url shape (deployment ∷ application ∷ other ∷ others) = ⊥
