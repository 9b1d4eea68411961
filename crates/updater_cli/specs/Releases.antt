-- Sites that have a release at what an install of it asks for, as pages in memory may.
use Rattle.std.specs.Prelude.{◌≡◌, ◌<◌, ℕ, true, List, Contains, Some, Ok}
use Rattle.small_types.specs.declared.target.Target.{Target}
use Rattle.folders.specs.declared.folder.Held.{Held}
use Rattle.folders.specs.Files.{file_in}
use Rattle.addresses.specs.Address.{target_of_text}
use Rattle.addresses.specs.Join.{app_target_of, file_target_of}
use Rattle.links.specs.declared.mem_link.Page.{Page}
use Rattle.links.specs.Pages.{distinct, page_in}
use Rattle.manifests.specs.declared.facts.FileEntry.{FileEntry}
use Rattle.publish_plan.specs.Places.{codebase, deployment_name, manifest_name, target_name}
use Rattle.published_paths.specs.Reached.{Reaches}
use Rattle.updater_cli.specs.Offered.{HasFiles, IsFirstSite, PublishInput, Sites, WritesRelease, listed}

-- The first link's site has the deployment manifest at the given address, the application manifest
-- at the one that its codebase leads to, and beside it each listed file.
pub record HasRelease (p : PublishInput) (files : List Held) (given : Target) (sites : Sites)
    : Type 0 where
  pub some : 0 < sites.sources
  pub deployment : sites.site 0 given ≡ file_in (deployment_name p.options) files
  pub application : (base : Target) → app_target_of given (codebase p.options) ≡ Ok base
      → sites.site 0 base ≡ file_in (manifest_name p.options) files
  pub each : (base target : Target) (entry : FileEntry)
      → app_target_of given (codebase p.options) ≡ Ok base → Contains (listed p) entry
      → file_target_of base p.options.mapped entry.name ≡ Ok target
      → sites.site 0 target ≡ file_in (target_name p.options entry.name) files

-- Where it has what a publish writes, it is that of a folder which holds this, at all that an install
-- from the url asks for.
abbrev pub ReleasesAreOffered : Type 0
ReleasesAreOffered = (p : PublishInput) (files : List Held) (url : List ℕ) (given : Target)
    (sites : Sites) → WritesRelease p files → target_of_text url ≡ Ok given
    → Reaches given (deployment_name p.options) → HasRelease p files given sites
    → IsFirstSite p url files sites × HasFiles files files

-- ---- pages in memory

-- one of the pages stands at the target, and has these bytes
abbrev pub HasPage : List Page → Target → List ℕ → Type 0
HasPage pages target bytes = Contains pages (record { target = target; bytes = bytes })

-- Pages of a link in memory, whose targets differ. One of them has the deployment manifest, one the
-- application manifest, and for each listed file there is one, each where the install asks for it.
pub record AreReleasePages (p : PublishInput) (files : List Held) (given : Target)
    (pages : List Page) : Type 0 where
  pub differ : distinct pages ≡ true
  pub deployment : (bytes : List ℕ) → file_in (deployment_name p.options) files ≡ Some bytes
      → HasPage pages given bytes
  pub application : (base : Target) (bytes : List ℕ)
      → app_target_of given (codebase p.options) ≡ Ok base
      → file_in (manifest_name p.options) files ≡ Some bytes → HasPage pages base bytes
  pub each : (base target : Target) (entry : FileEntry) (bytes : List ℕ)
      → app_target_of given (codebase p.options) ≡ Ok base → Contains (listed p) entry
      → file_target_of base p.options.mapped entry.name ≡ Ok target
      → file_in (target_name p.options entry.name) files ≡ Some bytes → HasPage pages target bytes

-- a first link in memory with such pages has the release
abbrev pub PagesHaveReleases : Type 0
PagesHaveReleases = (p : PublishInput) (files : List Held) (given : Target) (sites : Sites)
    (pages : List Page) → WritesRelease p files → 0 < sites.sources
    → ((target : Target) → sites.site 0 target ≡ page_in target pages)
    → AreReleasePages p files given pages → HasRelease p files given sites
