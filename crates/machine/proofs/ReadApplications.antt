-- What an application manifest says is a value that a store may hold.
use Rattle.std.proofs.Common.{◌≡◌, ℕ, suc, Bool, true, false, List, [], ◌∷◌, All, Option, Some, None, Result, Ok, Err, IfSome, IfOk, IsUtf8, codes, refl, arith}
use Rattle.std.specs.Prelude.{◌&&◌, nat_le, not, length, if◌then◌else◌}
use Rattle.std.specs.Option.{option_or}
use Rattle.std.proofs.lemmas.List.Elements.{All-nil, All-push}
use Rattle.small_types.specs.declared.limits.TheConstants.{FILE_COUNT_LIMIT, LOCAL_COUNT_LIMIT, NAME_LIMIT, URL_LIMIT}
use Rattle.small_types.specs.declared.name.NameFault.{NameFault}
use Rattle.small_types.specs.declared.name.NameFault.TheVariants.{Bad}
use Rattle.small_types.specs.Name.{IsName, is_name, name_of, name_text}
use Rattle.digest_list.specs.Count.{IsCount}
use Rattle.manifest_tree.specs.Tree.{Tree}
use Rattle.manifest_parts.specs.Elements.{Read, attribute, called, children_of, once}
use Rattle.manifest_parts.specs.Parts.{Tells, digests_of, identity_in}
use Rattle.manifest_parts.specs.Values.{filled, needed, size_of, truth, within}
use Rattle.manifests.specs.declared.facts.Application.{Application}
use Rattle.manifests.specs.declared.facts.FileEntry.{FileEntry}
use Rattle.manifests.specs.Applications.{Listing, EntryPoint, application_facts, application_of, assembly_listing, child_file, counted, dependency_listing, file_listing, file_name, file_of, files_from, first_assembly, fit_name, group_of, in_group, is_listed_name, is_taken, listed_name, listing_of, locals, new_name, size_limit, start_of, with_file}
use Rattle.manifests.specs.Types.{installed_type}
use Rattle.manifests.proofs.ApplicationsLaw.{read_are_facts}
use Rattle.manifests.proofs.FoundValues.{then_ok, test_ok, other_ok}
use Rattle.manifests.proofs.SaidParts.{IsAny, anything}
use Rattle.machine.specs.Fields.{HasEntry, IsApplication}
use Rattle.machine.proofs.FoundTexts.{attribute_text, children_texts, filled_text, first_texts, needed_text, once_texts, within_text}
use Rattle.machine.proofs.ReadParts.{IdentityTexts, digests_count, has_identity, identity_in_texts, said}
use Rattle.machine.proofs.TreeTexts.{HasTexts}

-- ---- what lists a file

-- its group is UTF-8
abbrev ListingText : Listing → Type 0
ListingText l = IfSome l.group IsUtf8

abbrev MaybeText : Option Listing → Type 0
MaybeText o = IfSome o ListingText

either_text : (a b : Option (List ℕ)) → IfSome a IsUtf8 → IfSome b IsUtf8 → IfSome (option_or a b) IsUtf8
either_text None b p q = q
either_text (Some value) b p q = p

wanted_listing : (wanted : Bool) (l : Listing) → ListingText l → MaybeText (if wanted then Some l else None)
wanted_listing true l h = h
wanted_listing false l h = tt

dependency_is : (t : Tree) (o : Option Tree) → HasTexts t → IfSome o HasTexts → IfOk (dependency_listing t o) MaybeText
dependency_is t None h first = tt
dependency_is t (Some assembly) h first =
    then_ok IsAny MaybeText (installed_type assembly) _ (anything (installed_type assembly)) (λ wanted any.
    wanted_listing wanted (assembly_listing t assembly)
    (either_text (attribute (codes "group") t) (attribute (codes "group") assembly) (attribute_text (codes "group") t h) (attribute_text (codes "group") assembly first)))

one_of_three : (b d : Bool) (l : Listing) (r : Read (Option Listing)) → ListingText l → IfOk r MaybeText → IfOk (if b then Ok (Some l) else if d then r else Ok None) MaybeText
one_of_three true d l r h k = h
one_of_three false true l r h k = k
one_of_three false false l r h k = tt

listing_is : (t : Tree) → HasTexts t → IfOk (listing_of t) MaybeText
unfolding listing_of
listing_is t h =
    one_of_three (called (codes "file") t) (called (codes "dependency") t) (file_listing t) (dependency_listing t (first_assembly t))
    (attribute_text (codes "group") t h) (dependency_is t (first_assembly t) h (first_texts (codes "dependentAssembly") t h))

-- ---- a file

read_name : (b : Bool) (text : List ℕ) → is_name text ≡ b → IfOk (if b then Ok text else Err Bad) IsName
read_name true text is = is
read_name false text is = tt

name_read : (value : List ℕ) → IfOk (name_of value) IsName
unfolding name_of
name_read value = read_name (is_name (name_text value)) (name_text value) refl

fit_is : (is_local : Bool) (value : List ℕ) (r : Result (List ℕ) NameFault) → IfOk r IsName → IfOk (fit_name is_local value r) IsName
fit_is is_local value (Ok name) is = test_ok IsName (is_listed_name is_local name) name _ (λ fits. is)
fit_is is_local value (Err e) is = tt

name_is : (before : List FileEntry) (l : Listing) → IfOk (file_name before l) IsName
unfolding file_name
name_is before l =
    then_ok IsAny IsName (needed l.what l.name) _ (anything (needed l.what l.name)) (λ value any.
    then_ok IsName IsName (listed_name l.is_local value) (new_name before) (fit_is l.is_local value (name_of value) (name_read value)) (λ name is.
    other_ok IsName (is_taken before name) _ _ (λ fresh. is)))

abbrev GroupText : Option (List ℕ) → Type 0
GroupText group = IfSome group IsUtf8

in_group_text : (wanted : Bool) (group : List ℕ) → IsUtf8 group → GroupText (in_group wanted group)
in_group_text wanted [] u = tt
in_group_text true (c ∷ cs) u = u
in_group_text false (c ∷ cs) u = tt

group_text : (l : Listing) → ListingText l → IfOk (group_of l) GroupText
unfolding group_of
group_text l h =
    then_ok IsAny GroupText (truth (codes "optional") false l.optional) _ (anything (truth (codes "optional") false l.optional)) (λ optional any.
    then_ok IsUtf8 GroupText (within NAME_LIMIT (codes "group") l.group) _ (within_text NAME_LIMIT (codes "group") l.group h) (λ group u.
    in_group_text (optional && not l.is_local) group u))

counted_is : (before : List FileEntry) (e : FileEntry) → HasEntry e → IfOk (counted before e) HasEntry
unfolding counted
counted_is before e is =
    other_ok HasEntry (nat_le FILE_COUNT_LIMIT (length before)) _ _ (λ room. other_ok HasEntry (e.local && nat_le LOCAL_COUNT_LIMIT (locals before)) _ _ (λ room_local. is))

file_is : (before : List FileEntry) (l : Listing) → ListingText l → IfOk (file_of before l) HasEntry
unfolding file_of
file_is before l h =
    let limit = size_limit l.is_local in
    then_ok IsName HasEntry (file_name before l) _ (name_is before l) (λ name n.
    then_ok IsAny HasEntry (size_of limit l.size) _ (anything (size_of limit l.size)) (λ size any.
    then_ok IsCount HasEntry (digests_of name l.hashed) _ (digests_count name l.hashed) (λ digests d.
    then_ok GroupText HasEntry (group_of l) _ (group_text l h) (λ group g.
    counted_is before (record { name = name; size = size; list = digests; group = group; local = l.is_local })
    (record { name = n; list = d; group = g })))))

-- ---- all files

with_file_is : (before : List FileEntry) (o : Option Listing) → All HasEntry before → MaybeText o → IfOk (with_file before o) (All HasEntry)
with_file_is before None are h = are
with_file_is before (Some l) are h =
    then_ok HasEntry (All HasEntry) (file_of before l) _ (file_is before l h) (λ entry is. All-push HasEntry before entry are is)

child_is : (before : List FileEntry) (t : Tree) → All HasEntry before → HasTexts t → IfOk (child_file before t) (All HasEntry)
unfolding child_file
child_is before t are h = then_ok MaybeText (All HasEntry) (listing_of t) (with_file before) (listing_is t h) (λ o l. with_file_is before o are l)

files_are : (ts : List Tree) (before : List FileEntry) → All HasEntry before → All HasTexts ts → IfOk (files_from before ts) (All HasEntry)
files_are [] before are h = are
files_are (t ∷ ts) before are h =
    then_ok (All HasEntry) (All HasEntry) (child_file before t) _ (child_is before t are (h 0 t (omega arith))) (λ after here.
    files_are ts after here (λ k d lt. h (suc k) d (omega arith)))

-- ---- the whole

record StartTexts (start : EntryPoint) : Type 0 where
  entry : IsUtf8 start.entry
  parameters : IsUtf8 start.parameters

start_is : (t : Tree) → HasTexts t → IfOk (start_of t) StartTexts
unfolding start_of
start_is t h =
    then_ok HasTexts StartTexts (once (codes "entryPoint") t) _ (once_texts (codes "entryPoint") t h) (λ point p.
    then_ok HasTexts StartTexts (once (codes "commandLine") point) _ (once_texts (codes "commandLine") point p) (λ command c.
    then_ok IsUtf8 StartTexts (needed (codes "file") (attribute (codes "file") command)) _
    (needed_text (codes "file") (attribute (codes "file") command) (attribute_text (codes "file") command c)) (λ given g.
    then_ok IsUtf8 StartTexts (filled NAME_LIMIT (codes "file") given) _ (filled_text NAME_LIMIT (codes "file") given g) (λ entry e.
    then_ok IsUtf8 StartTexts (within URL_LIMIT (codes "parameters") (attribute (codes "parameters") command)) _
    (within_text URL_LIMIT (codes "parameters") (attribute (codes "parameters") command) (attribute_text (codes "parameters") command c)) (λ parameters q.
    record { entry = e; parameters = q })))))

record ApplicationTexts (a : Application) : Type 0 where
  identity : IdentityTexts a.identity
  start : StartTexts (record { entry = a.entry; parameters = a.parameters })
  files : All HasEntry a.files

facts_texts : (t : Tree) → HasTexts t → IfOk (application_facts t) ApplicationTexts
unfolding application_facts
facts_texts t h =
    then_ok IdentityTexts ApplicationTexts (identity_in t) _ (identity_in_texts t h) (λ identity i.
    then_ok StartTexts ApplicationTexts (start_of t) _ (start_is t h) (λ start s.
    then_ok (All HasEntry) ApplicationTexts (files_from [] (children_of t)) _ (files_are (children_of t) [] (All-nil HasEntry) (children_texts t h)) (λ files f.
    record { identity = i; start = record { entry = s.entry; parameters = s.parameters }; files = f })))

pub application_read : (bytes : List ℕ) (a : Application) → Tells application_of bytes (Ok a) → IsApplication a
unfolding application_of
application_read bytes a told =
    let facts = read_are_facts bytes a told in
    let texts = said application_facts ApplicationTexts facts_texts bytes told.tree a told.spelled told.facts_are in
    record {
      facts = facts;
      identity = has_identity a.identity facts.identity texts.identity;
      entry = texts.start.entry;
      parameters = texts.start.parameters;
      files = texts.files;
    }
