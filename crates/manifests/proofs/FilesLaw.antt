-- The files of every application are few, and their names differ.
use Rattle.std.proofs.Common.{◌≡◌, ℕ, ◌+◌, ◌<◌, ◌≤◌, Bool, true, false, List, [], ◌∷◌, ◌++◌, length, Option, Some, None, Ok, Err, refl, sym, ap, subst, ◌∙◌, arith, length-append}
use Rattle.std.specs.Prelude.{◌&&◌, nat_le, if◌then◌else◌}
use Rattle.std.proofs.lemmas.Bool.Decides.{nat_tests}
use Rattle.small_types.specs.declared.limit.Limit.TheVariants.{Files, Locals}
use Rattle.small_types.specs.declared.limits.TheConstants.{FILE_COUNT_LIMIT, LOCAL_COUNT_LIMIT}
use Rattle.digest_list.specs.declared.digest.Digest.{Digest}
use Rattle.manifest_tree.specs.Tree.{Tree}
use Rattle.manifest_parts.specs.declared.fault.ManifestFault.TheVariants.{TooMany, TwiceNamed}
use Rattle.manifest_parts.specs.Elements.{Read, children_of}
use Rattle.small_types.specs.Outcome.{◌>>=◌}
use Rattle.manifest_parts.specs.Values.{needed, size_of}
use Rattle.manifest_parts.specs.Parts.{identity_in, digests_of, root_of, manifest_of}
use Rattle.manifest_parts.proofs.Readings.{ok_at}
use Rattle.identity.specs.declared.identity.Identity.{Identity}
use Rattle.manifests.specs.declared.facts.FileEntry.{FileEntry}
use Rattle.manifests.specs.declared.facts.Application.{Application}
use Rattle.manifests.specs.Applications.{Listing, EntryPoint, listing_of, is_taken, listed_name, new_name, file_name, group_of, locals, counted, size_limit, file_of, with_file, child_file, files_from, start_of, application_facts, application_of}
use Rattle.manifests.specs.FileLists.{AreFiles, ApplicationsHaveFiles}
use Rattle.manifests.proofs.TakenNames.{differ_more}
use Rattle.manifests.proofs.KnownFiles.{locals_more, locals_of_local, locals_of_other}

-- ---- what is read was read in steps

bind_ok : {A B : Type 0} (r : Read A) (f : A → Read B) (y : B) → (r >>= f) ≡ Ok y → (x : A) × (r ≡ Ok x) × (f x ≡ Ok y)
bind_ok (Ok x) f y h = (x, refl, h)
bind_ok (Err e) f y h = absurd cc

ok_is : {A : Type 0} (x y : A) → ok_at x ≡ ok_at y → x ≡ y
ok_is x y h = cc

-- ---- a file that is new

record IsNew (before : List FileEntry) (e : FileEntry) : Type 0 where
  name_new : is_taken before e.name ≡ false
  room : length before < FILE_COUNT_LIMIT
  room_local : e.local ≡ true → locals before < LOCAL_COUNT_LIMIT

choice_ok : (files data_files : Bool) (x e : FileEntry) → (if files then Err (TooMany Files) else if data_files then Err (TooMany Locals) else ok_at x) ≡ ok_at e
    → (files ≡ false) × (data_files ≡ false) × (x ≡ e)
choice_ok true data_files x e h = absurd cc
choice_ok false true x e h = absurd cc
choice_ok false false x e h = (refl, refl, ok_is x e h)

under : (limit n : ℕ) → nat_le limit n ≡ false → n < limit
under limit n h = grind (arith, nat_tests)

counted_new : (before : List FileEntry) (x e : FileEntry) → is_taken before x.name ≡ false → counted before x ≡ Ok e → IsNew before e
unfolding counted
counted_new before x e fresh h =
    let over = x.local && nat_le LOCAL_COUNT_LIMIT (locals before) in
    let c = choice_ok (nat_le FILE_COUNT_LIMIT (length before)) over x e h in
    subst (λ (f : FileEntry). IsNew before f) c.2 (record {
      name_new = fresh;
      room = under FILE_COUNT_LIMIT (length before) c.0;
      room_local = λ is. under LOCAL_COUNT_LIMIT (locals before) (sym (ap (λ (b : Bool). b && nat_le LOCAL_COUNT_LIMIT (locals before)) is) ∙ c.1);
    })

free_ok : (taken : Bool) (n name : List ℕ) → (if taken then Err (TwiceNamed n) else ok_at n) ≡ ok_at name → (taken ≡ false) × (n ≡ name)
free_ok true n name h = absurd cc
free_ok false n name h = (refl, ok_is n name h)

name_fresh : (before : List FileEntry) (l : Listing) (name : List ℕ) → file_name before l ≡ Ok name → is_taken before name ≡ false
unfolding file_name
name_fresh before l name h =
    let a = bind_ok (needed l.what l.name) (λ value. listed_name l.is_local value >>= new_name before) name h in
    let b = bind_ok (listed_name l.is_local a.0) (new_name before) name a.2 in
    let c = free_ok (is_taken before b.0) b.0 name b.2 in
    sym (ap (is_taken before) c.1) ∙ c.0

module _ (before : List FileEntry) (l : Listing) where
  abbrev behind_group : List ℕ → ℕ → List Digest → Option (List ℕ) → Read FileEntry
  behind_group name size digests group = counted before (record { name = name; size = size; list = digests; group = group; local = l.is_local })

  abbrev behind_digests : List ℕ → ℕ → List Digest → Read FileEntry
  behind_digests name size digests = group_of l >>= behind_group name size digests

  abbrev behind_size : List ℕ → ℕ → Read FileEntry
  behind_size name size = digests_of name l.hashed >>= behind_digests name size

  abbrev behind_name : List ℕ → Read FileEntry
  behind_name name = size_of (size_limit l.is_local) l.size >>= behind_size name

  file_new : (e : FileEntry) → file_of before l ≡ Ok e → IsNew before e
  unfolding file_of
  file_new e h =
      let a = bind_ok (file_name before l) behind_name e h in
      let b = bind_ok (size_of (size_limit l.is_local) l.size) (behind_size a.0) e a.2 in
      let d = bind_ok (digests_of a.0 l.hashed) (behind_digests a.0 b.0) e b.2 in
      let g = bind_ok (group_of l) (behind_group a.0 b.0 d.0) e d.2 in
      counted_new before (record { name = a.0; size = b.0; list = d.0; group = g.0; local = l.is_local }) e (name_fresh before l a.0 a.1) g.2

-- ---- with one more

local_case : (b : Bool) (e : FileEntry) (n : ℕ) → e.local ≡ b → (e.local ≡ true → n < LOCAL_COUNT_LIMIT) → n ≤ LOCAL_COUNT_LIMIT → n + locals (e ∷ []) ≤ LOCAL_COUNT_LIMIT
local_case true e n is room most = let one = locals_of_local e is in let below = room is in omega arith
local_case false e n is room most = let none = locals_of_other e is in omega arith

module _ (before : List FileEntry) (e : FileEntry) (are : AreFiles before) (new : IsNew before e) where
  one_more : AreFiles (before ++ e ∷ [])
  one_more =
      let size : length (before ++ e ∷ []) ≡ length before + 1 = length-append before (e ∷ []) in
      let room = new.room in
      record {
        few = omega arith;
        few_local = subst (λ (n : ℕ). n ≤ LOCAL_COUNT_LIMIT) (sym (locals_more before e (locals before) refl)) (local_case e.local e (locals before) refl new.room_local are.few_local);
        differ = differ_more before e are.differ new.name_new;
      }

-- ---- all

listed_are : (before after : List FileEntry) (found : Option Listing) → AreFiles before → with_file before found ≡ Ok after → AreFiles after
listed_are before after None are h = subst (λ (es : List FileEntry). AreFiles es) (ok_is before after h) are
listed_are before after (Some l) are h =
    let b = bind_ok (file_of before l) (λ entry. ok_at (before ++ entry ∷ [])) after h in
    subst (λ (es : List FileEntry). AreFiles es) (ok_is (before ++ b.0 ∷ []) after b.2) (one_more before b.0 are (file_new before l b.0 b.1))

child_are : (before after : List FileEntry) (t : Tree) → AreFiles before → child_file before t ≡ Ok after → AreFiles after
unfolding child_file
child_are before after t are h = let b = bind_ok (listing_of t) (with_file before) after h in listed_are before after b.0 are b.2

all_are : (ts : List Tree) (before after : List FileEntry) → AreFiles before → files_from before ts ≡ Ok after → AreFiles after
all_are [] before after are h = subst (λ (es : List FileEntry). AreFiles es) (ok_is before after h) are
all_are (t ∷ ts) before after are h =
    let b = bind_ok (child_file before t) (λ es. files_from es ts) after h in
    all_are ts b.0 after (child_are before b.0 t are b.1) b.2

none_are : AreFiles []
none_are = record { few = omega arith; few_local = omega arith; differ = λ i j d lt within. absurd (omega arith) }

module _ (t : Tree) where
  abbrev with_files : Identity → EntryPoint → List FileEntry → Read Application
  with_files identity start files = Ok (record { identity = identity; entry = start.entry; parameters = start.parameters; files = files })

  abbrev with_start : Identity → EntryPoint → Read Application
  with_start identity start = files_from [] (children_of t) >>= with_files identity start

  facts_are : (a : Application) → application_facts t ≡ Ok a → AreFiles a.files
  unfolding application_facts
  facts_are a h =
      let i = bind_ok (identity_in t) (λ identity. start_of t >>= with_start identity) a h in
      let s = bind_ok (start_of t) (with_start i.0) a i.2 in
      let f = bind_ok (files_from [] (children_of t)) (with_files i.0 s.0) a s.2 in
      subst (λ (es : List FileEntry). AreFiles es) (ap (λ (x : Application). x.files) (ok_is _ _ f.2)) (all_are (children_of t) [] f.0 none_are f.1)

pub have_files : ApplicationsHaveFiles
unfolding application_of manifest_of
have_files t a h = let r = bind_ok (root_of t) application_facts a h in facts_are r.0 a r.2
