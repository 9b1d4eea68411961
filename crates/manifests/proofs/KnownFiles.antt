-- What is kept beside the files that were read so far, and one more.
use Rattle.std.proofs.Common.{◌≡◌, ℕ, ◌+◌, ◌≤◌, Bool, true, false, List, [], ◌∷◌, ◌++◌, length, refl, sym, ap, ◌∙◌, arith, length-append}
use Rattle.std.specs.Prelude.{◌||◌, filter, cond, String, string_bytes}
use Rattle.std.specs.Str.{bytes_eq}
use Rattle.std.specs.String.{string_cmp}
use Rattle.std.specs.BTreeSet.{BTreeSet, Updates, contains_text}
use Rattle.std.proofs.lemmas.Map.Text.{btree_set_updates_text}
use Rattle.std.proofs.lemmas.List.Folds.{list_any-append}
use Rattle.std.proofs.lemmas.List.Elements.{filter-append}
use Rattle.std.proofs.lemmas.List.Sums.{length-filter, count_by-le-length}
use Rattle.manifests.specs.declared.facts.FileEntry.{FileEntry}
use Rattle.manifests.specs.Applications.{is_taken, locals}
use Rattle.manifests.specs.Files.{AreKnown}

abbrev is_data : FileEntry → Bool
is_data e = e.local

pub locals_within : (entries : List FileEntry) → locals entries ≤ length entries
locals_within entries = let exact = length-filter is_data entries in let most = count_by-le-length is_data entries in omega arith

-- one more file
either_way : (same before : Bool) → cond same true before ≡ (before || (same || false))
either_way true true = refl
either_way true false = refl
either_way false true = refl
either_way false false = refl

pub taken_more : (entries : List FileEntry) (e : FileEntry) (name : List ℕ) → is_taken (entries ++ e ∷ []) name ≡ (is_taken entries name || (bytes_eq e.name name || false))
taken_more entries e name = list_any-append (λ (f : FileEntry). bytes_eq f.name name) entries (e ∷ [])

pub locals_more : (entries : List FileEntry) (e : FileEntry) (n : ℕ) → n ≡ locals entries → locals (entries ++ e ∷ []) ≡ n + locals (e ∷ [])
locals_more entries e n is =
    ap length (filter-append is_data entries (e ∷ [])) ∙ length-append (filter is_data entries) (filter is_data (e ∷ [])) ∙ ap (λ (m : ℕ). m + locals (e ∷ [])) (sym is)

pub locals_of_local : (e : FileEntry) → e.local ≡ true → locals (e ∷ []) ≡ 1
locals_of_local e is = rw is refl

pub locals_of_other : (e : FileEntry) → e.local ≡ false → locals (e ∷ []) ≡ 0
locals_of_other e is = rw is refl

-- a set with the names of the files, and one name more
pub names_more : {A : Type 0} (entries : List FileEntry) (e : FileEntry) (before after : BTreeSet (String A)) (name : String A)
    → ((cs : List ℕ) → contains_text before cs ≡ is_taken entries cs) → string_bytes name ≡ e.name → Updates string_cmp before after name true
    → (cs : List ℕ) → contains_text after cs ≡ is_taken (entries ++ e ∷ []) cs
names_more entries e before after name known same updates cs =
    btree_set_updates_text (string_bytes name) before after true updates cs
    ∙ ap (λ (bs : List ℕ). cond (bytes_eq bs cs) true (contains_text before cs)) same
    ∙ ap (λ (b : Bool). cond (bytes_eq e.name cs) true b) (known cs)
    ∙ either_way (bytes_eq e.name cs) (is_taken entries cs)
    ∙ sym (taken_more entries e cs)

pub known_more : {A : Type 0} (entries : List FileEntry) (e : FileEntry) (before after : BTreeSet (String A)) (n m : ℕ) (name : String A)
    → AreKnown entries before n → string_bytes name ≡ e.name → Updates string_cmp before after name true → m ≡ n + locals (e ∷ []) → AreKnown (entries ++ e ∷ []) after m
known_more entries e before after n m name known same updates is = record {
  names_are = names_more entries e before after name known.names_are same updates;
  data_is = is ∙ sym (locals_more entries e n known.data_is);
}
