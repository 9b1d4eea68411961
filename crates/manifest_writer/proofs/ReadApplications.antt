-- What is written of an application is read again.
use Rattle.std.proofs.Common.{◌≡◌, ℕ, suc, ◌+◌, ◌<◌, ◌≤◌, Bool, true, false, List, [], ◌∷◌, ◌++◌, length, map, Option, Some, None, Ok, refl, sym, ap, ap₂, subst, inl, inr, ◌∙◌, arith, decimal, append_assoc, length-append}
use Rattle.std.specs.Prelude.{◌&&◌, not, codes, ◌==◌, All, IfSome, filter, slice_get, slice_index_or, bytes_eq, if◌then◌else◌}
use Rattle.std.specs.List.{list_all}
use Rattle.std.proofs.lemmas.Bool.{le-leb, lt-leb, and_parts, cases_Bool}
use Rattle.std.proofs.lemmas.Bool.Decides.{nat_tests}
use Rattle.std.proofs.lemmas.List.{append-nil, get_or_append_left}
use Rattle.std.proofs.Math.Seq.{get_or-append_seam}
use Rattle.std.proofs.lemmas.List.Elements.{All-head, All-tail, filter-append}
use Rattle.std.proofs.lemmas.Slice.Eq.{bytes_eq-Decides}
use Rattle.identity.specs.Version.{IsVersion}
use Rattle.small_types.specs.declared.limits.TheConstants.{DIGIT_LIMIT, FILE_COUNT_LIMIT, LOCAL_COUNT_LIMIT, LOCAL_NAME_LIMIT, NAME_LIMIT, URL_LIMIT}
use Rattle.small_types.specs.Name.{name_text, name_of, name_parts, is_name_byte, IsName, IsBelowPre}
use Rattle.manifest_tree.specs.Tree.{Tree, trees}
use Rattle.manifest_parts.specs.Elements.{Read, local, declares, value_of, called, children_called, once, children_of, attribute, has_called, any_called}
use Rattle.small_types.specs.Outcome.{◌>>=◌}
use Rattle.manifest_parts.specs.Values.{needed, within, truth_of, truth, size_of}
use Rattle.manifest_parts.specs.Parts.{identity_in, digests_of, root_of, manifest_of}
use Rattle.manifest_parts.proofs.Lookups.{listed_trees}
use Rattle.manifests.specs.declared.facts.FileEntry.{FileEntry}
use Rattle.manifests.specs.declared.facts.Application.{Application}
use Rattle.manifests.specs.Applications.{Listing, is_data, file_listing, listing_of, is_taken, is_below_pre, is_pre, is_listed_name, file_name, in_group, group_of, locals, counted, size_limit, file_of, child_file, files_from, start_of, application_facts, application_of}
use Rattle.manifests.specs.FileLists.{AreFiles}
use Rattle.manifest_writer.specs.Applications.{entry_tree, backslashed, use_attributes, file_tree, application_tree}
use Rattle.manifest_writer.specs.Elements.{named, leaf, root_tree, own_identity_tree, identity_tree, hash_trees}
use Rattle.manifests.specs.Facts.{IsValue, IsFile, AreApplicationFacts}
use Rattle.manifest_writer.specs.Held.{IsHeldFile}
use Rattle.manifest_writer.proofs.Content.{backslash, name_bytes, size_limit_most}
use Rattle.manifest_writer.proofs.ReadParts.{number_read, filled_read, within_read, identity_read, hashes_called, hashes_unsigned, digests_read}

-- ---- names

turned : (b : ℕ) → is_name_byte b ≡ true → (if backslash b == 92 then 47 else backslash b) ≡ b
turned b h = grind (arith, nat_tests)

turned_back : (name : List ℕ) → list_all is_name_byte name ≡ true → name_text (backslashed name) ≡ name
unfolding backslashed
turned_back [] h = refl
turned_back (b ∷ bs) h = let e = and_parts (is_name_byte b) (list_all is_name_byte bs) h in ap₂ (λ (x : ℕ) (xs : List ℕ). x ∷ xs) (turned b e.0) (turned_back bs e.1)

name_read : (name : List ℕ) → IsName name → name_of (backslashed name) ≡ Ok name
unfolding name_of
name_read name is = rw (turned_back name (name_bytes name is), is) refl

no_pre : (first : Option (List ℕ)) → ¬ (first ≡ Some (codes ".pre")) → is_pre first ≡ false
no_pre None other = refl
no_pre (Some part) other =
    elim (cases_Bool (bytes_eq part (codes ".pre"))) [
      | inl same ↦ absurd (other (ap (λ (p : List ℕ). Some p) ((bytes_eq-Decides part (codes ".pre")).0 same)))
      | inr differs ↦ differs
    ]

above_pre : (name : List ℕ) → ¬ IsBelowPre name → is_below_pre name ≡ false
unfolding is_below_pre
above_pre name above = no_pre (slice_get (name_parts name) 0) above

fits_name : (is_local : Bool) (name : List ℕ) → is_below_pre name ≡ false → (is_local ≡ true → length name ≤ LOCAL_NAME_LIMIT) → is_listed_name is_local name ≡ true
fits_name true name above short = rw (above, le-leb (length name) LOCAL_NAME_LIMIT (short refl)) refl
fits_name false name above short = rw above refl

-- ---- a file

-- what the element of a file lists
abbrev listing : FileEntry → Listing
listing e = file_listing (file_tree e)

listed_file : (e : FileEntry) → listing_of (file_tree e) ≡ Ok (Some (listing e))
unfolding listing_of file_tree called local
listed_file e = refl

local_read : (name size : List ℕ) (is_local : Bool) (group : Option (List ℕ)) → (is_local ≡ true → group ≡ None)
    → is_data (value_of (codes "writeableType") (named (codes "name") name ∷ named (codes "size") size ∷ use_attributes is_local group)) ≡ is_local
unfolding value_of declares local
local_read name size true group alone = refl
local_read name size false None alone = refl
local_read name size false (Some group) alone = refl

group_in : (name size : List ℕ) (is_local : Bool) (group : Option (List ℕ)) → (is_local ≡ true → group ≡ None) → IfSome group (IsValue 1 NAME_LIMIT) → (
    let attributes = named (codes "name") name ∷ named (codes "size") size ∷ use_attributes is_local group in
    (truth (codes "optional") false (value_of (codes "optional") attributes) >>= λ optional. within NAME_LIMIT (codes "group") (value_of (codes "group") attributes) >>= λ found. Ok (in_group (optional && not is_local) found))
    ≡ Ok group)
unfolding value_of declares local truth_of within
group_in name size true group alone is = ap (λ (g : Option (List ℕ)). Ok g) (sym (alone refl))
group_in name size false None alone is = refl
group_in name size false (Some []) alone is = absurd (let some = is.some in omega arith)
group_in name size false (Some (c ∷ cs)) alone is = rw (le-leb (length (c ∷ cs)) NAME_LIMIT is.few) refl

-- whether it is a data file is read too
local_group : (name size : List ℕ) (is_local : Bool) (group : Option (List ℕ)) → (is_local ≡ true → group ≡ None) → IfSome group (IsValue 1 NAME_LIMIT) → (
    let attributes = named (codes "name") name ∷ named (codes "size") size ∷ use_attributes is_local group in
    let found_local = is_data (value_of (codes "writeableType") attributes) in
    (truth (codes "optional") false (value_of (codes "optional") attributes) >>= λ optional. within NAME_LIMIT (codes "group") (value_of (codes "group") attributes) >>= λ found. Ok (in_group (optional && not found_local) found))
    ≡ Ok group)
local_group name size is_local group alone is = rw (local_read name size is_local group alone) (group_in name size is_local group alone is)

counted_fits : (before : List FileEntry) (e : FileEntry) (is_local : Bool) → e.local ≡ is_local → length before < FILE_COUNT_LIMIT → (is_local ≡ true → locals before < LOCAL_COUNT_LIMIT) → counted before e ≡ Ok e
unfolding counted
counted_fits before e true is room room_local = rw (is, lt-leb FILE_COUNT_LIMIT (length before) room, lt-leb LOCAL_COUNT_LIMIT (locals before) (room_local refl)) refl
counted_fits before e false is room room_local = rw (is, lt-leb FILE_COUNT_LIMIT (length before) room) refl

module _ (e : FileEntry) (is : IsFile e) (held : IsHeldFile e) where
  is_local : (listing e).is_local ≡ e.local
  unfolding file_tree
  is_local = local_read (backslashed e.name) (decimal e.size) e.local e.group is.alone

  name_of_it : (listing e).name ≡ Some (backslashed e.name)
  unfolding file_tree value_of declares local
  name_of_it = refl

  size_given : (listing e).size ≡ Some (decimal e.size)
  unfolding file_tree value_of declares local
  size_given = refl

  own_size : (data_file : Bool) → data_file ≡ e.local → size_of (size_limit data_file) (Some (decimal e.size)) ≡ Ok e.size
  own_size data_file same =
      let small = is.size in
      let most = size_limit_most e.local in
      rw same (number_read DIGIT_LIMIT (size_limit e.local) (codes "size") e.size (omega arith) is.size (omega arith) (omega arith))

  size_read : size_of (size_limit (listing e).is_local) (listing e).size ≡ Ok e.size
  size_read = rw size_given (own_size (listing e).is_local is_local)

  group_read : group_of (listing e) ≡ Ok e.group
  unfolding group_of file_tree
  group_read = local_group (backslashed e.name) (decimal e.size) e.local e.group is.alone is.group

  list_read : digests_of e.name (file_tree e) ≡ Ok e.list
  unfolding digests_of children_called file_tree
  list_read = rw (listed_trees (hash_trees e.list), hashes_called e.list, digests_read e.name e.list held.list is.list) refl

  module _ (before : List FileEntry) (fresh : is_taken before e.name ≡ false) where
    own_name_read : file_name before (listing e) ≡ Ok e.name
    unfolding file_name
    own_name_read = rw (name_of_it, is_local, name_read e.name held.name, fits_name e.local e.name (above_pre e.name is.above) is.short, fresh) refl

    file_read : length before < FILE_COUNT_LIMIT → (e.local ≡ true → locals before < LOCAL_COUNT_LIMIT) → file_of before (listing e) ≡ Ok e
    unfolding file_of
    file_read room room_local = rw (own_name_read, size_read, list_read, group_read, is_local) (counted_fits before e e.local refl room room_local)

    child_read : length before < FILE_COUNT_LIMIT → (e.local ≡ true → locals before < LOCAL_COUNT_LIMIT) → child_file before (file_tree e) ≡ Ok (before ++ e ∷ [])
    unfolding child_file
    child_read room room_local = rw (listed_file e, file_read room room_local) refl

-- ---- all files

untaken : (before : List FileEntry) (name : List ℕ) → ((i : ℕ) (d : FileEntry) → i < length before → ¬ ((slice_index_or before i d).name ≡ name)) → is_taken before name ≡ false
untaken [] name other = refl
untaken (f ∷ before) name other =
    elim (cases_Bool (bytes_eq f.name name)) [
      | inl same ↦ absurd (other 0 f (omega arith) ((bytes_eq-Decides f.name name).0 same))
      | inr differs ↦ rw differs (untaken before name (λ i d lt. other (suc i) d (omega arith)))
    ]

local_first : (e : FileEntry) (rest : List FileEntry) → e.local ≡ true → locals (e ∷ rest) ≡ 1 + locals rest
local_first e rest is = rw is (omega arith)

local_more : (before : List FileEntry) (e : FileEntry) (rest : List FileEntry) → e.local ≡ true → locals (before ++ e ∷ rest) ≡ locals before + (1 + locals rest)
local_more before e rest is =
    ap length (filter-append (λ (f : FileEntry). f.local) before (e ∷ rest)) ∙ length-append (filter (λ (f : FileEntry). f.local) before) (filter (λ (f : FileEntry). f.local) (e ∷ rest))
    ∙ ap (λ (n : ℕ). locals before + n) (local_first e rest is)

module _ (before : List FileEntry) (e : FileEntry) (rest : List FileEntry) (are : AreFiles (before ++ e ∷ rest)) where
  size_is : length (before ++ e ∷ rest) ≡ length before + suc (length rest)
  size_is = length-append before (e ∷ rest)

  fresh_name : is_taken before e.name ≡ false
  fresh_name = untaken before e.name (λ i d lt same.
      are.differ i (length before) d lt (omega (arith, size_is))
      (ap (λ (f : FileEntry). f.name) (get_or_append_left before (e ∷ rest) d i lt) ∙ same ∙ ap (λ (f : FileEntry). f.name) (sym (get_or-append_seam before e rest d))))

  has_room : length before < FILE_COUNT_LIMIT
  has_room = let few = are.few in omega (arith, size_is)

  has_local_room : e.local ≡ true → locals before < LOCAL_COUNT_LIMIT
  has_local_room is = let few = are.few_local in omega (arith, local_more before e rest is)

  moved : AreFiles ((before ++ e ∷ []) ++ rest)
  moved = subst (λ (fs : List FileEntry). AreFiles fs) (sym (append_assoc before (e ∷ []) rest)) are

files_read : (before rest : List FileEntry) → All IsFile rest → All IsHeldFile rest → AreFiles (before ++ rest) → files_from before (map file_tree rest) ≡ Ok (before ++ rest)
files_read before [] are held files = ap (λ (fs : List FileEntry). Ok fs) (sym (append-nil before))
files_read before (e ∷ rest) are held files =
    ap (λ (read : Read (List FileEntry)). read >>= λ after. files_from after (map file_tree rest))
    (child_read e (All-head IsFile e rest are) (All-head IsHeldFile e rest held) before (fresh_name before e rest files) (has_room before e rest files) (has_local_room before e rest files))
    ∙ files_read (before ++ e ∷ []) rest (All-tail IsFile e rest are) (All-tail IsHeldFile e rest held) (moved before e rest files)
    ∙ ap (λ (fs : List FileEntry). Ok fs) (append_assoc before (e ∷ []) rest)

-- ---- the whole

files_uncalled : (wanted : List ℕ) (files : List FileEntry) → bytes_eq (codes "file") wanted ≡ false → filter (called wanted) (map file_tree files) ≡ []
unfolding called file_tree local
files_uncalled wanted [] other = refl
files_uncalled wanted (e ∷ files) other = rw other (files_uncalled wanted files other)

files_unsigned : (files : List FileEntry) → any_called (codes "Signature") (trees (map file_tree files)) ≡ false
unfolding file_tree local
files_unsigned [] = refl
files_unsigned (e ∷ files) = rw (hashes_unsigned e.list) (files_unsigned files)

command_tree : Application → Tree
command_tree a = leaf (codes "commandLine") (named (codes "file") a.entry ∷ named (codes "parameters") a.parameters ∷ [])

once_command : (a : Application) → once (codes "commandLine") (entry_tree a) ≡ Ok (command_tree a)
unfolding once children_called called entry_tree command_tree local
once_command a = refl

file_given : (a : Application) → needed (codes "file") (attribute (codes "file") (command_tree a)) ≡ Ok a.entry
unfolding command_tree value_of declares local
file_given a = refl

parameters_read : (a : Application) → AreApplicationFacts a → within URL_LIMIT (codes "parameters") (attribute (codes "parameters") (command_tree a)) ≡ Ok a.parameters
unfolding command_tree value_of declares local
parameters_read a facts = within_read URL_LIMIT (codes "parameters") a.parameters facts.parameters

module _ (a : Application) (facts : AreApplicationFacts a) (fits : IsVersion a.identity.version) (held : All IsHeldFile a.files) where
  abbrev whole : Tree
  whole = application_tree a

  abbrev elements : List Tree
  elements = own_identity_tree a.identity ∷ entry_tree a ∷ map file_tree a.files

  children_are : children_of whole ≡ elements
  unfolding application_tree root_tree
  children_are = listed_trees elements

  once_identity : once (codes "assemblyIdentity") whole ≡ Ok (own_identity_tree a.identity)
  unfolding once children_called called identity_tree entry_tree local
  once_identity = rw (children_are, files_uncalled (codes "assemblyIdentity") a.files refl) refl

  own_read : identity_in whole ≡ Ok a.identity
  unfolding identity_in
  own_read = rw (once_identity, identity_read (codes "asmv1:assemblyIdentity") a.identity facts.identity fits) refl

  once_entry : once (codes "entryPoint") whole ≡ Ok (entry_tree a)
  unfolding once children_called called identity_tree entry_tree local
  once_entry = rw (children_are, files_uncalled (codes "entryPoint") a.files refl) refl

  start_read : start_of whole ≡ Ok (record { entry = a.entry; parameters = a.parameters })
  unfolding start_of
  start_read = rw (once_entry, once_command a, file_given a, filled_read NAME_LIMIT (codes "file") a.entry facts.entry, parameters_read a facts) refl

  all_read : files_from [] (children_of whole) ≡ Ok a.files
  unfolding child_file listing_of called local identity_tree entry_tree
  all_read = rw children_are (files_read [] a.files facts.each held facts.files)

  facts_read : application_facts whole ≡ Ok a
  unfolding application_facts
  facts_read = rw (own_read, start_read, all_read) refl

  unsigned : has_called (codes "Signature") whole ≡ false
  unfolding application_tree root_tree identity_tree entry_tree local
  unsigned = files_unsigned a.files

  root_called : called (codes "assembly") whole ≡ true
  unfolding application_tree root_tree called local
  root_called = refl

  root_read : root_of whole ≡ Ok whole
  unfolding root_of
  root_read = rw (unsigned, root_called) refl

  pub application_read : application_of whole ≡ Ok a
  unfolding application_of manifest_of
  application_read = rw (root_read, facts_read) refl
