-- What a publish writes, and where it is offered.
use Rattle.std.specs.Prelude.{◌≡◌, ◌⊎◌, ◌<◌, ℕ, List, [], All, Contains, IfSome, map, Option, Some, Ok, zero, suc, Bool, true, ◌∷◌}
use Rattle.std.specs.Cmp.Lexicographic.{slice_cmp}
use Rattle.std.specs.List.Sorted.{IsStrictlySortedBy}
use Rattle.std.specs.Ordering.{nat_cmp}
use Rattle.small_types.specs.declared.target.Target.{Target}
use Rattle.small_types.specs.Name.{IsName}
use Rattle.folders.specs.declared.folder.Held.{Held}
use Rattle.folders.specs.Files.{IsNames, file_in}
use Rattle.addresses.specs.Address.{target_of_text}
use Rattle.addresses.specs.Join.{app_target_of, file_target_of}
use Rattle.identity.specs.Version.{IsVersion}
use Rattle.manifests.specs.declared.facts.FileEntry.{FileEntry}
use Rattle.links.specs.Links.{LinksState}
use Rattle.http_plain.specs.Sites.{served}
use Rattle.publish_plan.specs.declared.options.Options.{Options}
use Rattle.publish_plan.specs.Places.{codebase, input_names, within}
use Rattle.publish_plan.specs.Plans.{planned_files}
use Rattle.publisher.specs.Options.{IsPublishable}
use Rattle.publisher.specs.Publication.{entry_in, publish_of}

-- ---- what is published

-- what a publish is given: its options, the files that stand in the folder, and their names
pub record PublishInput : Type 0 where
  pub options : Options
  pub input : List Held
  pub names : List (List ℕ)

-- Values as their types hold them, options whose manifests can be written, and the names of the
-- files in byte order, each once. These files are what the publish writes.
pub record WritesRelease (p : PublishInput) (files : List Held) : Type 0 where
  pub from : IsName p.options.from
  pub to : IsName p.options.to
  pub version : IsVersion p.options.version
  pub minimum : IfSome p.options.minimum IsVersion
  pub publishable : IsPublishable p.options
  pub exact : IsNames p.input p.names
  pub ascending : IsStrictlySortedBy (slice_cmp nat_cmp) p.names
  pub named : All IsName p.names
  pub written : publish_of p.options p.names p.input ≡ Ok files

-- what the application manifest says of the input files
abbrev pub listed : PublishInput → List FileEntry
listed p = map (entry_in p.input) (planned_files p.options (input_names p.options.from p.names))

-- the input file of that name below the folder that is published
abbrev pub input_file : PublishInput → List ℕ → Option (List ℕ)
input_file p name = file_in (within p.options.from name) p.input

-- ---- where it is offered

-- each of these files stands in the folder
abbrev pub HasFiles : List Held → List Held → Type 0
HasFiles folder files = (name bytes : List ℕ) → file_in name files ≡ Some bytes
    → file_in name folder ≡ Some bytes

-- links by their sites, of which alone what they give depends
pub record Sites : Type 0 where
  pub sources : ℕ
  pub site : ℕ → Target → Option (List ℕ)

-- so many links, none of which is gone
abbrev pub all_there : ℕ → List Bool
all_there zero = []
all_there (suc n) = true ∷ all_there n

-- links that tell these sites
abbrev pub links_of : Sites → LinksState
links_of sites = record {
  there = all_there sites.sources;
  link = λ k. record { tells = Unit {0}; site = sites.site k; rest = []; count = 0; history = [] };
  asked = [];
}

-- what an install of what was published asks for, by the address of its deployment manifest: this
-- one, that of the application manifest, and beside it that of each listed file
abbrev pub IsAskedFor : PublishInput → Target → Target → Type 0
IsAskedFor p given target =
    (target ≡ given)
    ⊎ (app_target_of given (codebase p.options) ≡ Ok target)
    ⊎ ((base : Target) × (entry : FileEntry)
    × (app_target_of given (codebase p.options) ≡ Ok base) × Contains (listed p) entry
    × (file_target_of base p.options.mapped entry.name ≡ Ok target))

-- There is a first link. At what an install from the url asks for its site is that of a link to the
-- folder; what it has elsewhere is free.
pub record IsFirstSite (p : PublishInput) (url : List ℕ) (folder : List Held) (sites : Sites)
    : Type 0 where
  pub some : 0 < sites.sources
  pub shows : (given target : Target) → target_of_text url ≡ Ok given → IsAskedFor p given target
      → sites.site 0 target ≡ served folder target
