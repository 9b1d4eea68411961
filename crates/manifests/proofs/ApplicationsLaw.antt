-- What an application manifest says is what one can say.
use Rattle.std.proofs.Common.{◌≡◌, ℕ, suc, ◌≤◌, Bool, true, false, List, [], ◌∷◌, length, Option, Some, None, Result, Ok, Err, refl, sym, ap, ◌∙◌, arith}
use Rattle.std.specs.Prelude.{◌&&◌, ◌||◌, not, nat_le, All, IfSome, IfOk, codes, if◌then◌else◌}
use Rattle.std.specs.Option.{option_or}
use Rattle.std.proofs.lemmas.Bool.{and_parts, leb-true}
use Rattle.std.proofs.lemmas.List.Elements.{All-nil, All-push}
use Rattle.small_types.specs.declared.limits.TheConstants.{FILE_COUNT_LIMIT, LOCAL_COUNT_LIMIT, LOCAL_NAME_LIMIT, NAME_LIMIT, URL_LIMIT}
use Rattle.small_types.specs.declared.name.NameFault.{NameFault}
use Rattle.small_types.specs.Name.{name_of, IsBelowPre}
use Rattle.digest_list.specs.Digest.{IsSized}
use Rattle.manifest_tree.specs.Tree.{Tree}
use Rattle.manifest_parts.specs.Elements.{Read, attribute, called, children_of, once}
use Rattle.manifest_parts.specs.Values.{needed, filled, within, truth, size_of}
use Rattle.manifest_parts.specs.Parts.{identity_in, digests_of}
use Rattle.manifests.specs.declared.facts.FileEntry.{FileEntry}
use Rattle.manifests.specs.declared.facts.Application.{Application}
use Rattle.manifests.specs.Types.{installed_type}
use Rattle.manifests.specs.Applications.{Listing, EntryPoint, file_listing, assembly_listing, dependency_listing, first_assembly, listing_of, is_pre, is_below_pre, is_listed_name, fit_name, listed_name, is_taken, new_name, file_name, in_group, group_of, locals, counted, size_limit, file_of, with_file, child_file, files_from, start_of, application_facts, application_of}
use Rattle.manifests.specs.Facts.{IsValue, IsIdentity, IsFile, ReadApplicationsAreFacts}
use Rattle.manifests.proofs.FilesLaw.{have_files}
use Rattle.manifests.proofs.FoundValues.{IsContent, IsHeld, then_ok, test_ok, other_ok, attribute_held, children_held, first_held, once_held, needed_held, filled_is, within_is}
use Rattle.manifests.proofs.SaidParts.{IsAny, anything, read_is, identity_in_is, digests_sized, size_is}

-- ---- what lists a file

-- its group is of bytes that a manifest may hold
abbrev IsListing : Listing → Type 0
IsListing l = IfSome l.group IsContent

abbrev MaybeListing : Option Listing → Type 0
MaybeListing o = IfSome o IsListing

either_held : (a b : Option (List ℕ)) → IfSome a IsContent → IfSome b IsContent → IfSome (option_or a b) IsContent
either_held None b p q = q
either_held (Some value) b p q = p

wanted_listing : (wanted : Bool) (l : Listing) → IsListing l → MaybeListing (if wanted then Some l else None)
wanted_listing true l h = h
wanted_listing false l h = tt

dependency_is : (t : Tree) (o : Option Tree) → IsHeld t → IfSome o IsHeld → IfOk (dependency_listing t o) MaybeListing
dependency_is t None h first = tt
dependency_is t (Some assembly) h first =
    then_ok IsAny MaybeListing (installed_type assembly) _ (anything (installed_type assembly)) (λ wanted any.
    wanted_listing wanted (assembly_listing t assembly)
    (either_held (attribute (codes "group") t) (attribute (codes "group") assembly) (attribute_held (codes "group") t h) (attribute_held (codes "group") assembly first)))

one_of_three : (b d : Bool) (l : Listing) (r : Read (Option Listing)) → IsListing l → IfOk r MaybeListing → IfOk (if b then Ok (Some l) else if d then r else Ok None) MaybeListing
one_of_three true d l r h k = h
one_of_three false true l r h k = k
one_of_three false false l r h k = tt

listing_is : (t : Tree) → IsHeld t → IfOk (listing_of t) MaybeListing
unfolding listing_of
listing_is t h =
    one_of_three (called (codes "file") t) (called (codes "dependency") t) (file_listing t) (dependency_listing t (first_assembly t))
    (attribute_held (codes "group") t h) (dependency_is t (first_assembly t) h (first_held (codes "dependentAssembly") t h))

-- ---- a file's name

-- not below `.pre`, and short where it is that of a data file
record IsFit (is_local : Bool) (name : List ℕ) : Type 0 where
  above : ¬ IsBelowPre name
  short : is_local ≡ true → length name ≤ LOCAL_NAME_LIMIT

not_below : (b : Bool) → not b ≡ true → b ≡ false
not_below true h = absurd cc
not_below false h = refl

above_pre : (name : List ℕ) → is_below_pre name ≡ false → ¬ IsBelowPre name
unfolding is_below_pre
above_pre name isnt = λ below. let clash : true ≡ false = sym (ap is_pre below) ∙ isnt in absurd cc

short_name : (is_local : Bool) (name : List ℕ) → (not is_local || nat_le (length name) LOCAL_NAME_LIMIT) ≡ true → is_local ≡ true → length name ≤ LOCAL_NAME_LIMIT
short_name true name h is = leb-true (length name) LOCAL_NAME_LIMIT h
short_name false name h is = absurd cc

listed_is : (is_local : Bool) (name : List ℕ) → is_listed_name is_local name ≡ true → IsFit is_local name
listed_is is_local name h =
    let p = and_parts (not (is_below_pre name)) (not is_local || nat_le (length name) LOCAL_NAME_LIMIT) h in
    record { above = above_pre name (not_below (is_below_pre name) p.0); short = short_name is_local name p.1 }

fit_is : (is_local : Bool) (value : List ℕ) (r : Result (List ℕ) NameFault) → IfOk (fit_name is_local value r) (IsFit is_local)
fit_is is_local value (Ok name) = test_ok (IsFit is_local) (is_listed_name is_local name) name _ (listed_is is_local name)
fit_is is_local value (Err e) = tt

name_is : (before : List FileEntry) (l : Listing) → IfOk (file_name before l) (IsFit l.is_local)
unfolding file_name
name_is before l =
    let P = IsFit l.is_local in
    then_ok IsAny P (needed l.what l.name) _ (anything (needed l.what l.name)) (λ value any.
    then_ok P P (listed_name l.is_local value) (new_name before) (fit_is l.is_local value (name_of value)) (λ name fit.
    other_ok P (is_taken before name) _ _ (λ fresh. fit)))

-- ---- a file's group

record IsUse (is_local : Bool) (group : Option (List ℕ)) : Type 0 where
  value : IfSome group (IsValue 1 NAME_LIMIT)
  alone : is_local ≡ true → group ≡ None

no_group : (is_local : Bool) → IsUse is_local None
no_group is_local = record { value = tt; alone = λ is. refl }

in_group_is : (optional is_local : Bool) (group : List ℕ) → IsValue 0 NAME_LIMIT group → IsUse is_local (in_group (optional && not is_local) group)
in_group_is optional is_local [] g = no_group is_local
in_group_is false is_local (c ∷ cs) g = no_group is_local
in_group_is true true (c ∷ cs) g = no_group true
in_group_is true false (c ∷ cs) g = record { value = record { some = omega arith; few = g.few; allowed = g.allowed }; alone = λ is. absurd cc }

group_is : (l : Listing) → IsListing l → IfOk (group_of l) (IsUse l.is_local)
unfolding group_of
group_is l h =
    let P = IsUse l.is_local in
    then_ok IsAny P (truth (codes "optional") false l.optional) _ (anything (truth (codes "optional") false l.optional)) (λ optional any.
    then_ok (IsValue 0 NAME_LIMIT) P (within NAME_LIMIT (codes "group") l.group) _ (within_is NAME_LIMIT (codes "group") l.group h) (λ group g.
    in_group_is optional l.is_local group g))

-- ---- a file

counted_is : (before : List FileEntry) (e : FileEntry) → IsFile e → IfOk (counted before e) IsFile
unfolding counted
counted_is before e is =
    other_ok IsFile (nat_le FILE_COUNT_LIMIT (length before)) _ _ (λ room. other_ok IsFile (e.local && nat_le LOCAL_COUNT_LIMIT (locals before)) _ _ (λ room_local. is))

file_is : (before : List FileEntry) (l : Listing) → IsListing l → IfOk (file_of before l) IsFile
unfolding file_of
file_is before l h =
    let limit = size_limit l.is_local in
    then_ok (IsFit l.is_local) IsFile (file_name before l) _ (name_is before l) (λ name n.
    then_ok (λ (size : ℕ). size ≤ limit) IsFile (size_of limit l.size) _ (size_is limit l.size) (λ size s.
    then_ok (All IsSized) IsFile (digests_of name l.hashed) _ (digests_sized name l.hashed) (λ digests d.
    then_ok (IsUse l.is_local) IsFile (group_of l) _ (group_is l h) (λ group g.
    counted_is before (record { name = name; size = size; list = digests; group = group; local = l.is_local })
    (record { above = n.above; short = n.short; size = s; list = d; group = g.value; alone = g.alone })))))

-- ---- all files

with_file_is : (before : List FileEntry) (o : Option Listing) → All IsFile before → MaybeListing o → IfOk (with_file before o) (All IsFile)
with_file_is before None are h = are
with_file_is before (Some l) are h =
    then_ok IsFile (All IsFile) (file_of before l) _ (file_is before l h) (λ entry is. All-push IsFile before entry are is)

child_is : (before : List FileEntry) (t : Tree) → All IsFile before → IsHeld t → IfOk (child_file before t) (All IsFile)
unfolding child_file
child_is before t are h = then_ok MaybeListing (All IsFile) (listing_of t) (with_file before) (listing_is t h) (λ o l. with_file_is before o are l)

files_are : (ts : List Tree) (before : List FileEntry) → All IsFile before → All IsHeld ts → IfOk (files_from before ts) (All IsFile)
files_are [] before are h = are
files_are (t ∷ ts) before are h =
    then_ok (All IsFile) (All IsFile) (child_file before t) _ (child_is before t are (h 0 t (omega arith))) (λ after here.
    files_are ts after here (λ k d lt. h (suc k) d (omega arith)))

-- ---- the whole

record IsStart (start : EntryPoint) : Type 0 where
  entry : IsValue 1 NAME_LIMIT start.entry
  parameters : IsValue 0 URL_LIMIT start.parameters

start_is : (t : Tree) → IsHeld t → IfOk (start_of t) IsStart
unfolding start_of
start_is t h =
    then_ok IsHeld IsStart (once (codes "entryPoint") t) _ (once_held (codes "entryPoint") t h) (λ point p.
    then_ok IsHeld IsStart (once (codes "commandLine") point) _ (once_held (codes "commandLine") point p) (λ command c.
    then_ok IsContent IsStart (needed (codes "file") (attribute (codes "file") command)) _
    (needed_held (codes "file") (attribute (codes "file") command) (attribute_held (codes "file") command c)) (λ given g.
    then_ok (IsValue 1 NAME_LIMIT) IsStart (filled NAME_LIMIT (codes "file") given) _ (filled_is NAME_LIMIT (codes "file") given g) (λ entry e.
    then_ok (IsValue 0 URL_LIMIT) IsStart (within URL_LIMIT (codes "parameters") (attribute (codes "parameters") command)) _
    (within_is URL_LIMIT (codes "parameters") (attribute (codes "parameters") command) (attribute_held (codes "parameters") command c)) (λ parameters q.
    record { entry = e; parameters = q })))))

-- all but that the files are few and their names differ
record AreParts (a : Application) : Type 0 where
  identity : IsIdentity a.identity
  start : IsStart (record { entry = a.entry; parameters = a.parameters })
  each : All IsFile a.files

parts_are : (t : Tree) → IsHeld t → IfOk (application_facts t) AreParts
unfolding application_facts
parts_are t h =
    then_ok IsIdentity AreParts (identity_in t) _ (identity_in_is t h) (λ identity i.
    then_ok IsStart AreParts (start_of t) _ (start_is t h) (λ start s.
    then_ok (All IsFile) AreParts (files_from [] (children_of t)) _ (files_are (children_of t) [] (All-nil IsFile) (children_held t h)) (λ files f.
    record { identity = i; start = record { entry = s.entry; parameters = s.parameters }; each = f })))

pub read_are_facts : ReadApplicationsAreFacts
unfolding application_of
read_are_facts bytes a h =
    let parts = read_is application_facts AreParts parts_are bytes h.tree a h.spelled h.facts_are in
    record { identity = parts.identity; entry = parts.start.entry; parameters = parts.start.parameters; files = have_files h.tree a h.facts_are; each = parts.each }
