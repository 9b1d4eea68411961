-- What files that are put one after another change.
use Rattle.std.proofs.Common.{◌≡◌, ◌≢◌, ℕ, List, [], ◌∷◌, ◌++◌, Bool, true, false, refl, sym, ◌∙◌, ap, arith, take, subst, suc, zero, Option, Some}
use Rattle.std.specs.List.{list_any}
use Rattle.std.specs.Option.{option_or}
use Rattle.std.proofs.lemmas.Grind.{common_steps}
use Rattle.std.proofs.lemmas.Slice.Eq.{bytes_eq-Decides}
use Rattle.folders.specs.declared.folder.Held.{Held}
use Rattle.folders.specs.Files.{is_named, file_in, distinct, Puts}
use Rattle.folders.proofs.PutFiles.{clash, distinct_first, distinct_rest}
use Rattle.publisher.specs.Puts.{PutsAll, PutsEach}

-- one more file is put
pub put_more : (files : List Held) (old mid new : List Held) (file : Held) → PutsEach files old mid → Puts mid new file.name file.bytes → PutsEach (files ++ file ∷ []) old new
put_more [] old mid new file puts put =
    let first : Puts old new file.name file.bytes = record {
      changed = put.changed;
      others = λ other differs. put.others other differs ∙ puts other;
    } in
    (new, first, λ name. refl)
put_more (f ∷ files) old mid new file puts put = (puts.0, puts.1, put_more files puts.0 mid new file puts.2 put)

pub named_is : (name : List ℕ) (file : Held) → is_named name file ≡ true → file.name ≡ name
named_is name file is = (bytes_eq-Decides file.name name).0 is

-- a file under the name of none of those that are put stays
pub kept_each : (files : List Held) (old new : List Held) (name : List ℕ) → list_any (is_named name) files ≡ false → PutsEach files old new → file_in name new ≡ file_in name old
kept_each [] old new name none puts = puts name
kept_each (f ∷ files) old new name none puts =
    let apart : is_named name f ≡ false = grind (arith, common_steps) in
    let rest : list_any (is_named name) files ≡ false = grind (arith, common_steps) in
    let differs : name ≢ f.name = λ same. clash (is_named name f) ((bytes_eq-Decides f.name name).1 (sym same)) apart in
    kept_each files puts.0 new name rest puts.2 ∙ puts.1.others name differs

-- what stands under a name, once it is known whether the first file has it
put_first : (f : Held) (files old mid new : List Held) (name : List ℕ) (b : Bool) → is_named name f ≡ b → distinct (f ∷ files) ≡ true → Puts old mid f.name f.bytes → PutsEach files mid new
    → file_in name new ≡ option_or (file_in name files) (file_in name mid) → file_in name new ≡ option_or (file_in name (f ∷ files)) (file_in name old)
put_first f files old mid new name true is differ put puts rest =
    let same : f.name ≡ name = named_is name f is in
    let stays : file_in f.name new ≡ file_in f.name mid = kept_each files mid new f.name (distinct_first f files differ) puts in
    let found : file_in name (f ∷ files) ≡ Some f.bytes = grind (arith, common_steps) in
    let stands : file_in name new ≡ Some f.bytes = subst (λ (n : List ℕ). file_in n new ≡ Some f.bytes) same (stays ∙ put.changed) in
    stands ∙ ap (λ (o : Option (List ℕ)). option_or o (file_in name old)) (sym found)
put_first f files old mid new name false isnt differ put puts rest =
    let other : name ≢ f.name = λ same. clash (is_named name f) ((bytes_eq-Decides f.name name).1 (sym same)) isnt in
    let passed : file_in name (f ∷ files) ≡ file_in name files = grind (arith, common_steps) in
    rest ∙ ap (option_or (file_in name files)) (put.others name other) ∙ ap (λ (o : Option (List ℕ)). option_or o (file_in name old)) (sym passed)

each_put : (files : List Held) (old new : List Held) → distinct files ≡ true → PutsEach files old new → (name : List ℕ) → file_in name new ≡ option_or (file_in name files) (file_in name old)
each_put [] old new differ puts name = puts name
each_put (f ∷ files) old new differ puts name =
    put_first f files old puts.0 new name (is_named name f) refl differ puts.1 puts.2 (each_put files puts.0 new (distinct_rest f files differ) puts.2 name)

-- of files whose names differ each one stands afterwards
pub all_put : (files : List Held) (old new : List Held) → distinct files ≡ true → PutsEach files old new → PutsAll files old new
all_put files old new differ puts = record { each = each_put files old new differ puts }

pub none_before : (name : List ℕ) (n : ℕ) (files : List Held) → list_any (is_named name) files ≡ false → list_any (is_named name) (take n files) ≡ false
none_before name zero files none = refl
none_before name (suc n) [] none = refl
none_before name (suc n) (f ∷ files) none =
    let rest = none_before name n files in
    grind (arith, common_steps)

pub distinct_front : (n : ℕ) (files : List Held) → distinct files ≡ true → distinct (take n files) ≡ true
distinct_front zero files differ = refl
distinct_front (suc n) [] differ = refl
distinct_front (suc n) (f ∷ files) differ =
    let rest = distinct_front n files in
    let none = none_before f.name n files in
    grind (arith, common_steps)
