-- The facts of an application manifest, found in its whole tree; or the first refusal in this
-- order.
use Rattle.std.specs.Prelude.{ℕ, Bool, true, false, ◌&&◌, ◌||◌, not, nat_le, List, [], ◌∷◌, ◌++◌, length, filter, slice_get, codes, Option, Some, None, Result, Ok, Err, if◌then◌else◌}
use Rattle.std.specs.List.{list_any}
use Rattle.std.specs.Option.{option_or}
use Rattle.std.specs.Str.{bytes_eq}
use Rattle.small_types.specs.declared.limit.Limit.TheVariants.{Files, Locals}
use Rattle.small_types.specs.declared.limits.TheConstants.{FILE_COUNT_LIMIT, FILE_SIZE_LIMIT, LOCAL_COUNT_LIMIT, LOCAL_NAME_LIMIT, LOCAL_SIZE_LIMIT, NAME_LIMIT, URL_LIMIT}
use Rattle.small_types.specs.declared.name.NameFault.{NameFault}
use Rattle.small_types.specs.Name.{name_of, name_parts}
use Rattle.manifest_tree.specs.Tree.{Tree}
use Rattle.manifest_parts.specs.declared.fault.ManifestFault.TheVariants.{BadName, TwiceNamed, TooMany}
use Rattle.manifest_parts.specs.Elements.{Read, attribute, called, children_of, first_called, once}
use Rattle.small_types.specs.Outcome.{◌>>=◌}
use Rattle.manifest_parts.specs.Values.{needed, filled, within, truth, size_of}
use Rattle.manifest_parts.specs.Parts.{identity_in, digests_of, manifest_of}
use Rattle.manifests.specs.declared.facts.FileEntry.{FileEntry}
use Rattle.manifests.specs.declared.facts.Application.{Application}
use Rattle.manifests.specs.Types.{installed_type}

-- ---- what lists a file

-- An element that lists a file: the name of the attribute that names the file, that attribute and
-- the others, the element that has the hashes, and whether it is a data file.
pub record Listing : Type 0 where
  pub what : List ℕ
  pub name : Option (List ℕ)
  pub size : Option (List ℕ)
  pub hashed : Tree
  pub optional : Option (List ℕ)
  pub group : Option (List ℕ)
  pub is_local : Bool

-- the value that marks a data file
abbrev pub is_data : Option (List ℕ) → Bool
is_data None = false
is_data (Some value) = bytes_eq value (codes "applicationData")

abbrev pub file_listing : Tree → Listing
file_listing file = record {
  what = codes "name";
  name = attribute (codes "name") file;
  size = attribute (codes "size") file;
  hashed = file;
  optional = attribute (codes "optional") file;
  group = attribute (codes "group") file;
  is_local = is_data (attribute (codes "writeableType") file);
}

-- on a dependency, or else on its assembly
abbrev pub either : List ℕ → Tree → Tree → Option (List ℕ)
either wanted dependency assembly =
    option_or (attribute wanted dependency) (attribute wanted assembly)

abbrev pub assembly_listing : Tree → Tree → Listing
assembly_listing dependency assembly = record {
  what = codes "codebase";
  name = attribute (codes "codebase") assembly;
  size = attribute (codes "size") assembly;
  hashed = assembly;
  optional = either (codes "optional") dependency assembly;
  group = either (codes "group") dependency assembly;
  is_local = false;
}

-- a prerequisite, and a dependency without an assembly, lists no file
abbrev pub dependency_listing : Tree → Option Tree → Read (Option Listing)
dependency_listing dependency None = Ok None
dependency_listing dependency (Some assembly) =
    installed_type assembly >>= λ wanted. Ok
    (if wanted then Some (assembly_listing dependency assembly) else None)

-- of a dependency the first assembly counts
abbrev pub first_assembly : Tree → Option Tree
first_assembly dependency = first_called (codes "dependentAssembly") dependency

-- what a child of the root lists
unfoldable pub listing_of : Tree → Read (Option Listing)
listing_of t =
    if called (codes "file") t then Ok (Some (file_listing t)) else
    if called (codes "dependency") t then dependency_listing t (first_assembly t) else Ok None

-- ---- a file

-- an earlier file has the name
abbrev pub is_taken : List FileEntry → List ℕ → Bool
is_taken before name = list_any (λ (e : FileEntry). bytes_eq e.name name) before

-- the first part of a name is `.pre`
abbrev pub is_pre : Option (List ℕ) → Bool
is_pre None = false
is_pre (Some part) = bytes_eq part (codes ".pre")

unfoldable pub is_below_pre : List ℕ → Bool
is_below_pre name = is_pre (slice_get (name_parts name) 0)

-- a name that may be installed: not below `.pre`, and of a data file at most 235 bytes
abbrev pub is_listed_name : Bool → List ℕ → Bool
is_listed_name is_local name =
    not (is_below_pre name) && (not is_local || nat_le (length name) LOCAL_NAME_LIMIT)

-- what a value names, where a file of that name may be installed
abbrev pub fit_name : Bool → List ℕ → Result (List ℕ) NameFault → Read (List ℕ)
fit_name is_local value (Err e) = Err (BadName value)
fit_name is_local value (Ok name) =
    if is_listed_name is_local name then Ok name else Err (BadName value)

abbrev pub listed_name : Bool → List ℕ → Read (List ℕ)
listed_name is_local value = fit_name is_local value (name_of value)

-- a name that no earlier file has
abbrev pub new_name : List FileEntry → List ℕ → Read (List ℕ)
new_name before name = if is_taken before name then Err (TwiceNamed name) else Ok name

unfoldable pub file_name : List FileEntry → Listing → Read (List ℕ)
file_name before l =
    needed l.what l.name >>= λ value. listed_name l.is_local value >>= new_name before

-- an optional program file with a group of one byte or more is in it
abbrev pub in_group : Bool → List ℕ → Option (List ℕ)
in_group wanted [] = None
in_group wanted (c ∷ cs) = if wanted then Some (c ∷ cs) else None

unfoldable pub group_of : Listing → Read (Option (List ℕ))
group_of l = do
  optional ← truth (codes "optional") false l.optional
  group ← within NAME_LIMIT (codes "group") l.group
  Ok (in_group (optional && not l.is_local) group)

-- how many data files there are
abbrev pub locals : List FileEntry → ℕ
locals entries = length (filter (λ (e : FileEntry). e.local) entries)

-- at most 16,384 files, and at most 256 data files
unfoldable pub counted : List FileEntry → FileEntry → Read FileEntry
counted before entry =
    if nat_le FILE_COUNT_LIMIT (length before) then Err (TooMany Files) else
    if entry.local && nat_le LOCAL_COUNT_LIMIT (locals before) then Err (TooMany Locals) else Ok
    entry

-- the most bytes of a file, which are fewer of a data file
abbrev pub size_limit : Bool → ℕ
size_limit true = LOCAL_SIZE_LIMIT
size_limit false = FILE_SIZE_LIMIT

-- the file that is listed behind these
unfoldable pub file_of : List FileEntry → Listing → Read FileEntry
file_of before l = do
  name ← file_name before l
  size ← size_of (size_limit l.is_local) l.size
  digests ← digests_of name l.hashed
  group ← group_of l
  counted before
      (record { name = name; size = size; list = digests; group = group; local = l.is_local })

-- ---- all files, in document order

abbrev pub with_file : List FileEntry → Option Listing → Read (List FileEntry)
with_file before None = Ok before
with_file before (Some l) = file_of before l >>= λ entry. Ok (before ++ entry ∷ [])

-- with what a child of the root lists
unfoldable pub child_file : List FileEntry → Tree → Read (List FileEntry)
child_file before t = listing_of t >>= with_file before

abbrev pub files_from : List FileEntry → List Tree → Read (List FileEntry)
files_from before [] = Ok before
files_from before (t ∷ ts) = child_file before t >>= λ after. files_from after ts

-- ---- the whole

pub record EntryPoint : Type 0 where
  pub entry : List ℕ
  pub parameters : List ℕ

-- what is started: the one command line of the one entry point
unfoldable pub start_of : Tree → Read EntryPoint
start_of t = do
  point ← once (codes "entryPoint") t
  command ← once (codes "commandLine") point
  given ← needed (codes "file") (attribute (codes "file") command)
  entry ← filled NAME_LIMIT (codes "file") given
  parameters ← within URL_LIMIT (codes "parameters") (attribute (codes "parameters") command)
  Ok (record { entry = entry; parameters = parameters })

-- the facts of an `assembly`
unfoldable pub application_facts : Tree → Read Application
application_facts t = do
  identity ← identity_in t
  start ← start_of t
  files ← files_from [] (children_of t)
  Ok (record {
    identity = identity;
    entry = start.entry;
    parameters = start.parameters;
    files =
        files;
  })

-- the facts of a tree
unfoldable pub application_of : Tree → Read Application
application_of t = manifest_of application_facts t
