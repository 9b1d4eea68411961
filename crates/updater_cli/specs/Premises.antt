-- How the calls of the program give the premises of the law that what was published is what is
-- read.
use Rattle.std.specs.Prelude.{◌≡◌, ℕ, List, All, IfSome, IsSome, Ok, slice_get}
use Rattle.std.specs.Cmp.Lexicographic.{slice_cmp}
use Rattle.std.specs.List.Sorted.{IsStrictlySortedBy}
use Rattle.std.specs.Ordering.{nat_cmp}
use Rattle.small_types.specs.declared.target.Target.{Target}
use Rattle.small_types.specs.Name.{IsName}
use Rattle.folders.specs.declared.folder.Held.{Held}
use Rattle.folders.specs.Files.{IsNames}
use Rattle.addresses.specs.Address.{target_of_text}
use Rattle.identity.specs.Version.{IsVersion}
use Rattle.links.specs.Links.{LinksState, link_at, sources_of}
use Rattle.fetcher.specs.Fetched.{AreQuietTo}
use Rattle.publish_plan.specs.Places.{deployment_name}
use Rattle.publisher.specs.declared.published.Published.{Published}
use Rattle.publisher.specs.Options.{IsPublishable}
use Rattle.publisher.specs.Published.{PublishesFiles}
use Rattle.published_paths.specs.Reached.{Reaches}
use Rattle.machine.specs.declared.reply.Reply.{Reply}
use Rattle.machine.specs.Shape.{Shape}
use Rattle.install_plan.specs.InstallHeard.{InstallServed}
use Rattle.updater_cli.specs.Offered.{HasFiles, IsFirstSite, PublishInput, Sites, WritesRelease}
use Rattle.updater_cli.specs.Published.{HeardGiven}
use Rattle.updater_cli.specs.Sites.{HeardOfSites}

-- ---- a publish

-- Where a publish answers, the folder holds what the definitions write of its options and files.
abbrev pub PublishesWrite : Type 0
PublishesWrite = (p : PublishInput) (new : List Held) (published : Published)
    → IsName p.options.from → IsName p.options.to → IsVersion p.options.version
    → IfSome p.options.minimum IsVersion → IsPublishable p.options → IsNames p.input p.names
    → IsStrictlySortedBy (slice_cmp nat_cmp) p.names → All IsName p.names
    → PublishesFiles p.options p.names p.input new (Ok published)
    → (files : List Held) × WritesRelease p files × HasFiles new files

-- ---- an install

-- links by the sites that they tell
abbrev pub sites_of : LinksState → Sites
sites_of links = record { sources = sources_of links; site = λ k. (link_at links k).site }

-- Of what a command says of an install: where both texts were heard, the first link tells that its
-- site is a folder that holds what was published, at what the install asks for, and its count did not
-- rise, they are what the links give from an address of the deployment manifest. Of the links behind
-- it nothing is asked.
abbrev pub ServedIsGiven : LinksState → LinksState → Type 0
ServedIsGiven before after = (p : PublishInput) (files folder : List Held) (shape : Shape)
    (url : List ℕ) (texts : List (List ℕ)) (reply : Reply) → WritesRelease p files
    → HasFiles folder files
    → IsFirstSite p url folder (sites_of before)
    → ((given : Target) → target_of_text url ≡ Ok given → Reaches given (deployment_name p.options))
    → InstallServed shape url texts before after reply → AreQuietTo 0 before after
    → IsSome (slice_get texts 0) → IsSome (slice_get texts 1)
    → HeardGiven (sites_of before) url texts

-- Of what a session says of an install: where both texts were heard of the only link, and its site
-- is a folder that holds what was published, at what the install asks for, they are what it gives
-- from an address of the deployment manifest.
abbrev pub OneSiteIsGiven : LinksState → Type 0
OneSiteIsGiven links = (p : PublishInput) (files folder : List Held) (url : List ℕ)
    (texts : List (List ℕ)) → WritesRelease p files → HasFiles folder files
    → IsFirstSite p url folder (sites_of links) → sources_of links ≡ 1
    → ((given : Target) → target_of_text url ≡ Ok given → Reaches given (deployment_name p.options))
    → HeardOfSites links url texts → IsSome (slice_get texts 0) → IsSome (slice_get texts 1)
    → HeardGiven (sites_of links) url texts
