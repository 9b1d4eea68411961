-- What a file put in place of one of its name changes.
use Rattle.std.proofs.Common.{◌≡◌, ◌≢◌, ℕ, List, [], ◌∷◌, ◌++◌, Bool, true, false, not, refl, sym, ◌∙◌, ap, arith}
use Rattle.std.specs.Prelude.{Some, find, filter, option_map}
use Rattle.std.specs.List.{list_any}
use Rattle.std.proofs.lemmas.Grind.{common_steps}
use Rattle.std.proofs.lemmas.Slice.Eq.{bytes_eq-Decides}
use Rattle.folders.specs.declared.folder.Held.{Held}
use Rattle.folders.specs.Files.{is_named, distinct, Puts}

pub not_true : (r : Bool) → (r ≡ true → ⊥) → r ≡ false
not_true true never = absurd (never refl)
not_true false _ = refl

pub clash : (r : Bool) → r ≡ true → r ≡ false → ⊥
clash r is isnt = grind arith

-- a file of another name
pub other_named : (name : List ℕ) (file : Held) → file.name ≢ name → is_named name file ≡ false
other_named name file differs = not_true (is_named name file) (λ same. differs ((bytes_eq-Decides file.name name).0 same))

pub self_named : (file : Held) → is_named file.name file ≡ true
self_named file = (bytes_eq-Decides file.name file.name).1 refl

-- the names of the others are other ones
pub distinct_first : (f : Held) (files : List Held) → distinct (f ∷ files) ≡ true → list_any (is_named f.name) files ≡ false
distinct_first f files differ = grind (arith, common_steps)

pub distinct_rest : (f : Held) (files : List Held) → distinct (f ∷ files) ≡ true → distinct files ≡ true
distinct_rest f files differ = grind (arith, common_steps)

-- a file has one name
one_name : (name other : List ℕ) (file : Held) → other ≢ name → is_named name file ≡ true → is_named other file ≡ false
one_name name other file differs same =
    other_named other file (λ is. differs (sym is ∙ (bytes_eq-Decides file.name name).0 same))

-- the new file is found
find_new : (name : List ℕ) (files : List Held) (file : Held) → is_named name file ≡ true
    → find (is_named name) (filter (λ (f : Held). not (is_named name f)) files ++ file ∷ []) ≡ Some file
find_new name [] file same = grind (arith, common_steps)
find_new name (f ∷ files) file same =
    let rest = find_new name files file same in
    grind (arith, common_steps)

-- other files are found as before
find_other : (name other : List ℕ) (files : List Held) (file : Held) → other ≢ name → is_named name file ≡ true
    → find (is_named other) (filter (λ (f : Held). not (is_named name f)) files ++ file ∷ []) ≡ find (is_named other) files
find_other name other [] file differs same =
    let apart = one_name name other file differs same in
    grind (arith, common_steps)
find_other name other (f ∷ files) file differs same =
    let one = one_name name other f differs in
    let rest = find_other name other files file differs same in
    grind (arith, common_steps)

-- no file of a name is there afterwards, if none was and the new one has another
none_new : (name other : List ℕ) (files : List Held) (file : Held) → is_named other file ≡ false → list_any (is_named other) files ≡ false
    → list_any (is_named other) (filter (λ (f : Held). not (is_named name f)) files ++ file ∷ []) ≡ false
none_new name other [] file apart none = grind (arith, common_steps)
none_new name other (f ∷ files) file apart none =
    let rest = none_new name other files file apart in
    grind (arith, common_steps)

pub distinct_new : (files : List Held) (file : Held) → distinct files ≡ true
    → distinct (filter (λ (f : Held). not (is_named file.name f)) files ++ file ∷ []) ≡ true
distinct_new [] file differ = refl
distinct_new (f ∷ files) file differ =
    let apart : is_named file.name f ≡ false → is_named f.name file ≡ false = λ isnt. other_named f.name file (λ is. clash (is_named file.name f) ((bytes_eq-Decides f.name file.name).1 (sym is)) isnt) in
    let rest : distinct files ≡ true → distinct (filter (λ (g : Held). not (is_named file.name g)) files ++ file ∷ []) ≡ true = distinct_new files file in
    let none : is_named f.name file ≡ false → list_any (is_named f.name) files ≡ false → list_any (is_named f.name) (filter (λ (g : Held). not (is_named file.name g)) files ++ file ∷ []) ≡ false = none_new file.name f.name files file in
    grind (arith, common_steps)

pub puts_new : (old new : List Held) (file : Held) → new ≡ filter (λ (f : Held). not (is_named file.name f)) old ++ file ∷ []
    → Puts old new file.name file.bytes
puts_new old new file is = record {
  changed = ap (λ (fs : List Held). option_map (λ (f : Held). f.bytes) (find (is_named file.name) fs)) is ∙ ap (option_map (λ (f : Held). f.bytes)) (find_new file.name old file (self_named file));
  others = λ other differs. ap (λ (fs : List Held). option_map (λ (f : Held). f.bytes) (find (is_named other) fs)) is ∙ ap (option_map (λ (f : Held). f.bytes)) (find_other file.name other old file differs (self_named file));
}
