-- The facts of a deployment manifest, found in its whole tree; or the first refusal in this order.
use Rattle.std.specs.Prelude.{ℕ, ◌*◌, Bool, true, false, List, [], ◌∷◌, codes, Option, Some, None, is_some, Result, Ok, Err, if◌then◌else◌}
use Rattle.std.specs.List.{flat_map}
use Rattle.std.specs.Str.{bytes_eq}
use Rattle.std.specs.Ordering.{is_lt}
use Rattle.small_types.specs.declared.limits.TheConstants.{MANIFEST_LIMIT, URL_LIMIT}
use Rattle.small_types.specs.declared.target.Target.{Target}
use Rattle.addresses.specs.declared.fault.UrlFault.{UrlFault}
use Rattle.addresses.specs.Address.{target_of_text}
use Rattle.identity.specs.declared.version.Version.{Version}
use Rattle.identity.specs.Version.{version_cmp}
use Rattle.manifest_tree.specs.Tree.{Tree}
use Rattle.manifest_parts.specs.declared.fault.ManifestFault.TheVariants.{Missing, Twice, BadValue, OnlineOnly, MinimumAboveVersion}
use Rattle.manifest_parts.specs.Elements.{Read, attribute, children_called, first_called, once}
use Rattle.small_types.specs.Outcome.{◌>>=◌}
use Rattle.manifest_parts.specs.Values.{needed, filled, truth, number_of, size_of, version_value}
use Rattle.manifest_parts.specs.Parts.{identity_in, digests_of, manifest_of}
use Rattle.manifests.specs.Types.{installed_type}
use Rattle.manifests.specs.declared.ages.TheConstants.{AGE_DIGIT_LIMIT, AGE_LIMIT, DAY, HOUR, WEEK}
use Rattle.manifests.specs.declared.facts.Rule.{Rule}
use Rattle.manifests.specs.declared.facts.Rule.TheVariants.{Never, Before, Age}
use Rattle.manifests.specs.declared.facts.Deployment.{Deployment}
use Rattle.manifests.specs.declared.deployment_terms.Terms.{Terms}
use Rattle.manifests.specs.declared.deployment_entry.Entry.{Entry}

-- ---- the minimum

-- a minimum may not be above the version
abbrev pub not_above : Version → Version → Read (Option Version)
not_above version minimum =
    if is_lt (version_cmp version minimum) then Err (MinimumAboveVersion minimum version) else Ok
    (Some minimum)

abbrev pub minimum_of : Version → Option (List ℕ) → Read (Option Version)
minimum_of version None = Ok None
minimum_of version (Some text) =
    version_value (codes "minimumRequiredVersion") text >>= not_above version

-- ---- the rule

-- the seconds of a unit
abbrev pub unit_of : List ℕ → Read ℕ
unit_of text =
    if bytes_eq text (codes "hours") then Ok HOUR else
    if bytes_eq text (codes "days") then Ok DAY else
    if bytes_eq text (codes "weeks") then Ok WEEK else Err (BadValue (codes "unit"))

-- what an `expiration` says: its age of one to nine digits, in units
unfoldable pub age_of : Tree → Read Rule
age_of expiration = do
  digits ← needed (codes "maximumAge") (attribute (codes "maximumAge") expiration)
  age ← number_of AGE_DIGIT_LIMIT AGE_LIMIT (codes "maximumAge") digits
  text ← needed (codes "unit") (attribute (codes "unit") expiration)
  unit ← unit_of text
  Ok (Age (age * unit))

abbrev pub expiring : Option Tree → Read Rule
expiring None = Ok (Age 0)
expiring (Some expiration) = age_of expiration

-- what an `update` says
abbrev pub update_rule : Option Tree → Read Rule
update_rule None = Ok Never
update_rule (Some update) =
    if is_some (first_called (codes "beforeApplicationStartup") update) then Ok Before else expiring
    (first_called (codes "expiration") update)

abbrev pub subscription_rule : Option Tree → Read Rule
subscription_rule None = Ok Never
subscription_rule (Some subscription) = update_rule (first_called (codes "update") subscription)

-- of `subscription`, `update` and `expiration` the first counts
abbrev pub rule_of : Tree → Read Rule
rule_of deployment = subscription_rule (first_called (codes "subscription") deployment)

-- ---- the provider

-- it is kept where it is an address
abbrev pub kept_address : List ℕ → Result Target UrlFault → Option (List ℕ)
kept_address text (Ok target) = Some text
kept_address text (Err e) = None

abbrev pub address_of : Option (List ℕ) → Option (List ℕ)
address_of None = None
address_of (Some text) = kept_address text (target_of_text text)

abbrev pub named_provider : Option Tree → Option (List ℕ)
named_provider None = None
named_provider (Some provider) = address_of (attribute (codes "codebase") provider)

-- of `deploymentProvider` the first counts
abbrev pub provider_of : Tree → Option (List ℕ)
provider_of deployment = named_provider (first_called (codes "deploymentProvider") deployment)

-- ---- the dependency

-- those to be installed; all are judged first
abbrev pub installed : List Tree → Read (List Tree)
installed [] = Ok []
installed (assembly ∷ others) =
    installed_type assembly >>= λ wanted. installed others >>= λ found. Ok
    (if wanted then assembly ∷ found else found)

-- one of all `dependentAssembly` elements is
abbrev pub just_one : List Tree → Read Tree
just_one [] = Err (Missing (codes "dependentAssembly"))
just_one (assembly ∷ []) = Ok assembly
just_one (assembly ∷ other ∷ others) = Err (Twice (codes "dependentAssembly"))

abbrev pub assemblies_of : Tree → List Tree
assemblies_of t =
    flat_map (children_called (codes "dependentAssembly")) (children_called (codes "dependency") t)

unfoldable pub assembly_of : Tree → Read Tree
assembly_of t = installed (assemblies_of t) >>= just_one

-- ---- the whole

-- an application that is only run online is refused
abbrev pub installed_only : Bool → Read Bool
installed_only true = Ok true
installed_only false = Err OnlineOnly

-- what the element `deployment` says
unfoldable pub terms_of : Version → Tree → Read Terms
terms_of version t = do
  deployment ← once (codes "deployment") t
  install ← truth (codes "install") true (attribute (codes "install") deployment)
  offline ← installed_only install
  mapped ← truth (codes "mapFileExtensions") false
      (attribute (codes "mapFileExtensions") deployment)
  minimum ← minimum_of version (attribute (codes "minimumRequiredVersion") deployment)
  rule ← rule_of deployment
  Ok (record { minimum = minimum; mapped = mapped; rule = rule; provider = provider_of deployment })

-- what is said of the application manifest
unfoldable pub entry_of : Tree → Read Entry
entry_of t = do
  assembly ← assembly_of t
  given ← needed (codes "codebase") (attribute (codes "codebase") assembly)
  codebase ← filled URL_LIMIT (codes "codebase") given
  size ← size_of MANIFEST_LIMIT (attribute (codes "size") assembly)
  app ← identity_in assembly
  digests ← digests_of codebase assembly
  Ok (record { codebase = codebase; size = size; app = app; digests = digests })

-- the facts of an `assembly`
unfoldable pub deployment_facts : Tree → Read Deployment
deployment_facts t = do
  identity ← identity_in t
  terms ← terms_of identity.version t
  entry ← entry_of t
  Ok (record {
    identity = identity;
    install = true;
    minimum = terms.minimum;
    mapped = terms.mapped;
    rule = terms.rule;
    provider = terms.provider;
    codebase = entry.codebase;
    app = entry.app;
    app_size = entry.size;
    app_list = entry.digests;
  })

-- the facts of a tree
unfoldable pub deployment_of : Tree → Read Deployment
deployment_of t = manifest_of deployment_facts t
