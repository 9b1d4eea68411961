-- Files in a folder by their names, and the input files.
use Rattle.std.proofs.Common.{◌≡◌, ◌∙◌, ◌⊎◌, inl, inr, ◌<◌, ℕ, zero, suc, Bool, true, false, ◌||◌, cond, List, [], ◌∷◌, ◌++◌, length, map, All, Contains, Some, refl, sym, ap, subst, arith}
use Rattle.std.specs.Prelude.{find, option_map, slice_index_or}
use Rattle.std.specs.Cmp.Lexicographic.{nat_list_eq_equiv}
use Rattle.std.specs.List.{list_any}
use Rattle.std.specs.Str.{bytes_eq}
use Rattle.std.proofs.lemmas.Bool.{cases_Bool}
use Rattle.std.proofs.lemmas.List.Elements.{All-nil, All-cons, All-head, All-tail}
use Rattle.std.proofs.lemmas.List.Sorted.{list_any-IsPermutation}
use Rattle.std.proofs.lemmas.Slice.Eq.{bytes_eq-Decides}
use Rattle.small_types.specs.Name.{IsName}
use Rattle.folders.specs.declared.folder.Held.{Held}
use Rattle.folders.specs.Files.{IsNames, distinct, file_in, is_named, names_of}
use Rattle.folders.proofs.PutFiles.{clash, distinct_first, distinct_rest, self_named}
use Rattle.publish_plan.specs.Places.{behind, front_of, has_front, input_names, within}
use Rattle.publish_plan.proofs.InputLemmas.{kept, left}
use Rattle.publish_plan.proofs.PathLemmas.{behind_rest, name_behind, name_is_path}

-- ---- elements, case by case

abbrev pub Among : {X : Type 0} → X → List X → Type 0
Among x [] = ⊥
Among x (y ∷ ys) = (y ≡ x) ⊎ Among x ys

pub among_of : {X : Type 0} (xs : List X) (x : X) → Contains xs x → Among x xs
among_of [] x there = absurd (let lt = there.1 in omega arith)
among_of {X} (y ∷ ys) x there = at there.0 there.1 there.2 (among_of ys x)
  where
    at : (k : ℕ) → k < length (y ∷ ys) → slice_index_or (y ∷ ys) k x ≡ x → (Contains ys x → Among x ys) → Among x (y ∷ ys)
    at zero lt is rest = inl is
    at (suc k) lt is rest = inr (rest (k, omega arith, is))

pub among_map : {X Y : Type 0} (f : X → Y) (xs : List X) (y : Y) → Among y (map f xs) → (x : X) × Among x xs × (f x ≡ y)
among_map f [] y there = absurd there
among_map f (x ∷ xs) y (inl is) = (x, inl refl, is)
among_map f (x ∷ xs) y (inr there) = let rest = among_map f xs y there in (rest.0, inr rest.1, rest.2)

pub map_among : {X Y : Type 0} (f : X → Y) (xs : List X) (x : X) → Among x xs → Among (f x) (map f xs)
map_among f [] x there = absurd there
map_among f (y ∷ ys) x (inl is) = inl (ap f is)
map_among f (y ∷ ys) x (inr there) = inr (map_among f ys x there)

pub among_left : {X : Type 0} (xs ys : List X) (x : X) → Among x xs → Among x (xs ++ ys)
among_left [] ys x there = absurd there
among_left (z ∷ xs) ys x (inl is) = inl is
among_left (z ∷ xs) ys x (inr there) = inr (among_left xs ys x there)

pub among_right : {X : Type 0} (xs ys : List X) (x : X) → Among x ys → Among x (xs ++ ys)
among_right [] ys x there = there
among_right (z ∷ xs) ys x there = inr (among_right xs ys x there)

pub among_all : {X : Type 0} (P : X → Type 0) (xs : List X) (x : X) → All P xs → Among x xs → P x
among_all P [] x all there = absurd there
among_all P (y ∷ ys) x all (inl is) = subst P is (All-head P y ys all)
among_all P (y ∷ ys) x all (inr there) = among_all P ys x (All-tail P y ys all) there

any_true : {X : Type 0} (p : X → Bool) (xs : List X) (x : X) → Among x xs → p x ≡ true → list_any p xs ≡ true
any_true p [] x there is = absurd there
any_true p (y ∷ ys) x (inl same) is = ap (λ (b : Bool). b || list_any p ys) (ap p same ∙ is)
any_true p (y ∷ ys) x (inr there) is = or_right (p y) (list_any p ys) (any_true p ys x there is)
  where
    or_right : (a b : Bool) → b ≡ true → (a || b) ≡ true
    or_right true b is = refl
    or_right false b is = is

-- ---- files by their names

first_at : (name : List ℕ) (f : Held) (fs : List Held) → is_named name f ≡ true → file_in name (f ∷ fs) ≡ Some f.bytes
first_at name f fs is = ap (λ (b : Bool). option_map (λ (h : Held). h.bytes) (cond b (Some f) (find (is_named name) fs))) is

behind_at : (name : List ℕ) (f : Held) (fs : List Held) → is_named name f ≡ false → file_in name (f ∷ fs) ≡ file_in name fs
behind_at name f fs is = ap (λ (b : Bool). option_map (λ (h : Held). h.bytes) (cond b (Some f) (find (is_named name) fs))) is

turned : (f g : Held) (b : Bool) → is_named f.name g ≡ b → is_named g.name f ≡ b
turned f g b is = nat_list_eq_equiv.symm f.name g.name ∙ is

-- a file of names that differ is found by its name
pub found_by_name : (files : List Held) (f : Held) → distinct files ≡ true → Among f files → file_in f.name files ≡ Some f.bytes
found_by_name [] f differ there = absurd there
found_by_name (g ∷ gs) f differ (inl is) =
    subst (λ (h : Held). file_in h.name (g ∷ gs) ≡ Some h.bytes) is (first_at g.name g gs (self_named g))
found_by_name (g ∷ gs) f differ (inr there) = by (is_named f.name g) refl (found_by_name gs f (distinct_rest g gs differ) there)
  where
    by : (b : Bool) → is_named f.name g ≡ b → file_in f.name gs ≡ Some f.bytes → file_in f.name (g ∷ gs) ≡ Some f.bytes
    by true is rest = absurd (clash (list_any (is_named g.name) gs) (any_true (is_named g.name) gs f there (turned f g true is)) (distinct_first g gs differ))
    by false is rest = behind_at f.name g gs is ∙ rest

-- a name of theirs has a file
named_file : (name : List ℕ) (files : List Held) → list_any (bytes_eq name) (names_of files) ≡ true → (bytes : List ℕ) × (file_in name files ≡ Some bytes)
named_file name [] any = absurd cc
named_file name (f ∷ fs) any = by (is_named name f) refl (named_file name fs)
  where
    by : (b : Bool) → is_named name f ≡ b
        → (list_any (bytes_eq name) (names_of fs) ≡ true → (bytes : List ℕ) × (file_in name fs ≡ Some bytes))
        → (bytes : List ℕ) × (file_in name (f ∷ fs) ≡ Some bytes)
    by true is rest = (f.bytes, first_at name f fs is)
    by false is rest =
        let other : bytes_eq name f.name ≡ false = nat_list_eq_equiv.symm name f.name ∙ is in
        let found = rest (sym (ap (λ (b : Bool). b || list_any (bytes_eq name) (names_of fs)) other) ∙ any) in
        (found.0, behind_at name f fs is ∙ found.1)

-- ---- input files

-- each is a name of the folder without that of the folder that is published
split : (from name n : List ℕ) (ns : List (List ℕ)) → has_front (front_of from) n ≡ true → (Among name (input_names from ns) → Among (within from name) ns)
    → Among name (behind (front_of from) n ∷ input_names from ns) → Among (within from name) (n ∷ ns)
split from name n ns is rest (inl same) = inl (sym (behind_rest from n is) ∙ ap (within from) same)
split from name n ns is rest (inr later) = inr (rest later)

whole_name : (from name : List ℕ) (names : List (List ℕ)) → Among name (input_names from names) → Among (within from name) names
whole_name from name [] there = absurd there
whole_name from name (n ∷ ns) there = by (has_front (front_of from) n) refl (whole_name from name ns)
  where
    by : (b : Bool) → has_front (front_of from) n ≡ b → (Among name (input_names from ns) → Among (within from name) ns) → Among (within from name) (n ∷ ns)
    by true is rest = split from name n ns is rest (subst (λ (xs : List (List ℕ)). Among name xs) (kept (front_of from) n ns is) there)
    by false is rest = inr (rest (subst (λ (xs : List (List ℕ)). Among name xs) (left (front_of from) n ns is) there))

-- each is a name
pub inputs_named : (from : List ℕ) (names : List (List ℕ)) → IsName from → All IsName names → All IsName (input_names from names)
inputs_named from [] folder all = All-nil IsName
inputs_named from (name ∷ names) folder all = by (inputs_named from names folder (All-tail IsName name names all))
  where
    by : All IsName (input_names from names) → All IsName (input_names from (name ∷ names))
    by rest = elim (cases_Bool (has_front (front_of from) name)) [
      | inl has ↦ rw has (All-cons IsName (behind (front_of from) name) (input_names from names) (name_behind from name (name_is_path from folder) (All-head IsName name names all) has) rest)
      | inr other ↦ rw other rest
    ]

pub input_there : (from name : List ℕ) (input : List Held) (names : List (List ℕ)) → IsNames input names → Among name (input_names from names)
    → (bytes : List ℕ) × (file_in (within from name) input ≡ Some bytes)
input_there from name input names are there =
    let whole = whole_name from name names there in
    named_file (within from name) input
    (list_any-IsPermutation (bytes_eq (within from name)) (names_of input) names are.exact
    ∙ any_true (bytes_eq (within from name)) names (within from name) whole ((bytes_eq-Decides (within from name) (within from name)).1 refl))
