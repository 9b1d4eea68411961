-- Which addresses reach the names that a publish writes.
use Rattle.std.specs.Prelude.{◌≡◌, ℕ, Bool, not, ◌&&◌, ◌==◌, List, ◌++◌, ◌<◌, ◌||◌, codes, length, nat_lt, All, Some, None, Ok}
use Rattle.std.specs.Bool.{IsTrue}
use Rattle.std.specs.List.{list_all}
use Rattle.percent_encoding.specs.Percent.{percent_decode}
use Rattle.url.specs.Input.{rsplit_once}
use Rattle.small_types.specs.declared.target.Target.{Target}
use Rattle.small_types.specs.Name.{IsName}
use Rattle.identity.specs.Key.{word_text}
use Rattle.identity.specs.Version.{IsVersion}
use Rattle.addresses.specs.Address.{target_of_text}
use Rattle.addresses.specs.Join.{app_target_of, file_target_of}
use Rattle.http_plain.specs.Path.{name_in_path, without_query}
use Rattle.publish_plan.specs.declared.options.Options.{Options}
use Rattle.publish_plan.specs.declared.options.PublishPlan.{PublishPlan}
use Rattle.publish_plan.specs.declared.options.PlannedFile.{PlannedFile}
use Rattle.publish_plan.specs.Early.{early_of}
use Rattle.publish_plan.specs.Plans.{plan_of}
use Rattle.publish_plan.specs.Places.{codebase, deployment_name, is_plain_name, manifest_name, target_name}

-- what stands in the path behind its last slash, without a query
abbrev pub last_part : List ℕ → List ℕ
last_part path = (rsplit_once 47 (without_query path)).1

-- no escape behind the last slash stands for a slash or a backslash
abbrev pub ends_whole : List ℕ → Bool
ends_whole path = list_all (λ b. not (b == 47) && not (b == 92)) (percent_decode (last_part path))

-- the target asks for this name, whose last slash stands in the path as one
pub record Reaches (target : Target) (name : List ℕ) : Type 0 where
  pub named : name_in_path target.path ≡ Some name
  pub whole : IsTrue (ends_whole target.path)

-- a release whose names a publish can write
pub record IsPublishable (o : Options) : Type 0 where
  pub name : IsTrue (is_plain_name o.name)
  pub entry : IsTrue (is_plain_name o.entry)
  pub version : IsVersion o.version
  pub manifest : IsName (manifest_name o)

-- beside the application manifest, each file's name leads to what was written for it
abbrev pub FilesAreReached : Options → Target → Type 0
FilesAreReached o base =
    (file : List ℕ) (target : Target) → IsName (target_name o file)
    → file_target_of base o.mapped file ≡ Ok target
    → name_in_path target.path ≡ Some (target_name o file)

-- from an address of the deployment manifest the way leads to the application manifest and to each
-- file
abbrev pub PublishedIsReached : Type 0
PublishedIsReached =
    (o : Options) (text : List ℕ) (given base : Target)
    → IsPublishable o → target_of_text text ≡ Ok given → Reaches given (deployment_name o)
    → app_target_of given (codebase o) ≡ Ok base
    → (name_in_path base.path ≡ Some (manifest_name o)) × FilesAreReached o base

-- beside that manifest the name of the planned file leads to the name that it is written under
abbrev pub IsReached : Bool → Target → PlannedFile → Type 0
IsReached mapped base file =
    (target : Target) → file_target_of base mapped file.file ≡ Ok target
    → name_in_path target.path ≡ Some file.target

-- so the way leads to all that a plan over a folder writes
abbrev pub PlansAreReached : Type 0
PlansAreReached =
    (o : Options) (names : List (List ℕ)) (plan : PublishPlan) (text : List ℕ) (given base : Target)
    → IsName o.from → IsName o.to → IsVersion o.version → All IsName names
    → early_of o ≡ None → plan_of o names ≡ Ok plan
    → target_of_text text ≡ Ok given → Reaches given plan.deployment
    → app_target_of given (codebase o) ≡ Ok base
    → (name_in_path base.path ≡ Some plan.manifest) × All (IsReached o.mapped base) plan.files

-- and it does so from no other address of the deployment manifest
abbrev pub OthersMiss : Type 0
OthersMiss =
    (o : Options) (text : List ℕ) (given base : Target)
    → IsPublishable o → target_of_text text ≡ Ok given
    → name_in_path given.path ≡ Some (deployment_name o)
    → app_target_of given (codebase o) ≡ Ok base → name_in_path base.path ≡ Some (manifest_name o)
    → IsTrue (ends_whole given.path)

-- above a space, and none of `#`, `/`, `?`, `@` and `\`
abbrev pub is_host_byte : ℕ → Bool
is_host_byte b = nat_lt 32 b && not (b == 35 || b == 47 || b == 63 || b == 64 || b == 92)

-- the address of the name on the host, which may have a port
abbrev pub written_address : List ℕ → List ℕ → List ℕ
written_address host name = codes "http://" ++ host ++ codes "/" ++ word_text name

-- where it is an address, it reaches the name
abbrev pub WrittenReach : Type 0
WrittenReach =
    (host name : List ℕ) (given : Target)
    → 0 < length host → IsTrue (list_all is_host_byte host) → IsName name
    → target_of_text (written_address host name) ≡ Ok given → Reaches given name
