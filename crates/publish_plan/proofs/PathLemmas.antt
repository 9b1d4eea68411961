-- Texts that are names where they are not too long.
use Rattle.std.proofs.Common.{◌≡◌, ◌≢◌, ℕ, ◌+◌, ◌-◌, ◌<◌, ◌≤◌, Bool, true, false, cond, not, ◌==◌, ◌&&◌, ◌||◌, nat_lt, nat_le, List, [], ◌∷◌, ◌++◌, length, take, drop, get_or, IsUtf8, codes, Ok, Err, refl, sym, ap, subst, ◌∙◌, inl, inr, arith, lit<, append_assoc, length-append}
use Rattle.std.specs.List.{All, list_all, slice_split, onto_first}
use Rattle.std.specs.Str.{bytes_eq, is_utf8, IsAscii}
use Rattle.std.proofs.lemmas.Bool.{and_parts, and_from, cases_Bool, false_from_ne_true, ne_eqb, eqb-true, ltb-true, ltb-false, lt-ltb, leb-true, le-leb, not-true}
use Rattle.std.proofs.lemmas.List.{take_at, take_all, drop_at, take-append-drop, length-drop}
use Rattle.std.proofs.lemmas.List.Elements.{All-nil, All-cons, All-append}
use Rattle.std.proofs.lemmas.List.Folds.{list_all-append}
use Rattle.std.proofs.lemmas.List.Splits.{slice_split-cons_yes, slice_split-cons_no, slice_split_none, slice_split_at, length-slice_split}
use Rattle.std.proofs.lemmas.Slice.Eq.{bytes_eq-Decides}
use Rattle.std.proofs.lemmas.Str.{IsUtf8-append, IsUtf8-drop, IsUtf8-from_ascii, IsUtf8-from_is_utf8, is_utf8-from_IsUtf8, IsCharBoundary-from_take}
use Rattle.std.proofs.lemmas.Str.Ascii.{IsAscii-nil, IsAscii-cons}
use Rattle.small_types.specs.declared.name.NameFault.{NameFault}
use Rattle.small_types.specs.declared.name.NameFault.TheVariants.{Bad}
use Rattle.small_types.specs.Name.{name_parts, is_memory, is_name_byte, is_name_part, is_name, IsName, name_of}
use Rattle.small_types.specs.Outcome.{FailsBut}
use Rattle.small_types.proofs.Spelled.{read_again}
use Rattle.publish_plan.specs.Paths.{is_path, IsPath, CanFollow}
use Rattle.publish_plan.specs.Places.{within, front_of, has_front, behind}

abbrev is_slash : ℕ → Bool
is_slash b = b == 47

-- ---- the parts of joined texts

parts_some : (xs : List ℕ) → 0 < length (name_parts xs)
parts_some xs = let exact = length-slice_split is_slash xs in omega arith

onto_joined : (x : ℕ) (ps qs : List (List ℕ)) → 0 < length ps → onto_first x (ps ++ qs) ≡ onto_first x ps ++ qs
onto_joined x [] qs some = absurd (omega arith)
onto_joined x (p ∷ ps) qs some = refl

parts_joined : (xs ys : List ℕ) → name_parts (xs ++ 47 ∷ ys) ≡ name_parts xs ++ name_parts ys
parts_joined [] ys = refl
parts_joined (x ∷ xs) ys = elim (cases_Bool (is_slash x)) [
  | inl is ↦ rw (slice_split-cons_yes is_slash x (xs ++ 47 ∷ ys) is, slice_split-cons_yes is_slash x xs is, parts_joined xs ys) refl
  | inr other ↦
      rw (slice_split-cons_no is_slash x (xs ++ 47 ∷ ys) other, slice_split-cons_no is_slash x xs other, parts_joined xs ys)
      (onto_joined x (name_parts xs) (name_parts ys) (parts_some xs))
]

-- ---- what a path has

pub record HasPath (text : List ℕ) : Type 0 where
  pub bytes : list_all is_name_byte text ≡ true
  pub parts : list_all is_name_part (name_parts text) ≡ true
  pub utf8 : is_utf8 text ≡ true

pub path_has : (text : List ℕ) → IsPath text → HasPath text
unfolding is_path
path_has text is =
    let outer = and_parts (list_all is_name_byte text && list_all is_name_part (name_parts text)) (is_utf8 text) is in
    let inner = and_parts (list_all is_name_byte text) (list_all is_name_part (name_parts text)) outer.0 in
    record { bytes = inner.0; parts = inner.1; utf8 = outer.1 }

pub path_from : (text : List ℕ) → HasPath text → IsPath text
unfolding is_path
path_from text has = rw (has.bytes, has.parts, has.utf8) refl

-- a name is a path
pub name_is_path : (name : List ℕ) → IsName name → IsPath name
unfolding is_name
name_is_path name is =
    let outer = and_parts (nat_lt 0 (length name) && nat_le (length name) 240 && list_all is_name_byte name && list_all is_name_part (name_parts name)) (is_utf8 name) is in
    let parts = and_parts (nat_lt 0 (length name) && nat_le (length name) 240 && list_all is_name_byte name) (list_all is_name_part (name_parts name)) outer.0 in
    let bytes = and_parts (nat_lt 0 (length name) && nat_le (length name) 240) (list_all is_name_byte name) parts.0 in
    path_from name (record { bytes = bytes.1; parts = parts.1; utf8 = outer.1 })

pub name_is_short : (name : List ℕ) → IsName name → (0 < length name) × (length name ≤ 240)
unfolding is_name
name_is_short name is =
    let outer = and_parts (nat_lt 0 (length name) && nat_le (length name) 240 && list_all is_name_byte name && list_all is_name_part (name_parts name)) (is_utf8 name) is in
    let parts = and_parts (nat_lt 0 (length name) && nat_le (length name) 240 && list_all is_name_byte name) (list_all is_name_part (name_parts name)) outer.0 in
    let bytes = and_parts (nat_lt 0 (length name) && nat_le (length name) 240) (list_all is_name_byte name) parts.0 in
    let lengths = and_parts (nat_lt 0 (length name)) (nat_le (length name) 240) bytes.0 in
    (ltb-true 0 (length name) lengths.0, leb-true (length name) 240 lengths.1)

-- a path that is not too long is a name
pub path_is_name : (text : List ℕ) → IsPath text → 0 < length text → length text ≤ 240 → IsName text
unfolding is_name
path_is_name text is some short =
    let has = path_has text is in
    rw (lt-ltb 0 (length text) some, le-leb (length text) 240 short, has.bytes, has.parts, has.utf8) refl

-- a name is read, and is no bad one
pub never_bad : (name : List ℕ) (e : NameFault) → IsName name → FailsBut is_memory e (name_of name) → e ≡ Bad → ⊥
never_bad name e is fails bad =
    let refused : name_of name ≡ Err Bad = subst (λ (f : NameFault). FailsBut is_memory f (name_of name)) bad fails in
    let again : name_of name ≡ Ok name = read_again name is in
    cc

-- ---- a path in a path

slash_utf8 : IsUtf8 (47 ∷ [])
slash_utf8 = IsUtf8-from_ascii (47 ∷ []) (IsAscii-cons 47 [] (lit< tt) IsAscii-nil)

front_utf8 : (folder : List ℕ) → IsPath folder → IsUtf8 (front_of folder)
front_utf8 folder is = IsUtf8-append folder (47 ∷ []) (IsUtf8-from_is_utf8 folder (path_has folder is).utf8) slash_utf8

pub path_within : (folder name : List ℕ) → IsPath folder → IsPath name → IsPath (within folder name)
path_within folder name outer inner =
    let o = path_has folder outer in
    let i = path_has name inner in
    let whole : IsUtf8 (front_of folder ++ name) = IsUtf8-append (front_of folder) name (front_utf8 folder outer) (IsUtf8-from_is_utf8 name i.utf8) in
    path_from (within folder name) (record {
      bytes = list_all-append is_name_byte folder (47 ∷ name) ∙ and_from _ _ o.bytes i.bytes;
      parts = ap (list_all is_name_part) (parts_joined folder name) ∙ list_all-append is_name_part (name_parts folder) (name_parts name) ∙ and_from _ _ o.parts i.parts;
      utf8 = is_utf8-from_IsUtf8 (within folder name) (rw append_assoc at whole);
    })

-- what stands behind a folder
pub behind_is : (folder name : List ℕ) → behind (front_of folder) (within folder name) ≡ name
behind_is folder name =
    let same : within folder name ≡ front_of folder ++ name = sym (append_assoc folder (47 ∷ []) name) in
    ap (drop (length (front_of folder))) same ∙ drop_at (front_of folder) name (length (front_of folder)) refl

behind_utf8 : (folder name : List ℕ) → IsPath folder → IsUtf8 (within folder name) → IsUtf8 name
behind_utf8 folder name outer whole =
    let front = front_of folder in
    let same : within folder name ≡ front ++ name = sym (append_assoc folder (47 ∷ []) name) in
    let start : take (length front) (within folder name) ≡ front = ap (take (length front)) same ∙ take_at front name (length front) refl in
    let within_it : length front ≤ length (within folder name) = omega (arith, ap length same, length-append front name) in
    let seam = IsCharBoundary-from_take (within folder name) (length front) whole within_it (subst IsUtf8 (sym start) (front_utf8 folder outer)) in
    subst IsUtf8 (behind_is folder name) (IsUtf8-drop (within folder name) (length front) whole seam)

pub path_behind : (folder name : List ℕ) → IsPath folder → IsPath (within folder name) → IsPath name
path_behind folder name outer is =
    let w = path_has (within folder name) is in
    let bytes = and_parts (list_all is_name_byte folder) (list_all is_name_byte (47 ∷ name)) (sym (list_all-append is_name_byte folder (47 ∷ name)) ∙ w.bytes) in
    let joined : list_all is_name_part (name_parts folder ++ name_parts name) ≡ true = ap (list_all is_name_part) (sym (parts_joined folder name)) ∙ w.parts in
    let parts = and_parts (list_all is_name_part (name_parts folder)) (list_all is_name_part (name_parts name)) (sym (list_all-append is_name_part (name_parts folder) (name_parts name)) ∙ joined) in
    path_from name (record {
      bytes = bytes.1;
      parts = parts.1;
      utf8 = is_utf8-from_IsUtf8 name (behind_utf8 folder name outer (IsUtf8-from_is_utf8 (within folder name) w.utf8));
    })

path_some : (text : List ℕ) → IsPath text → 0 < length text
path_some [] is = let parts : false ≡ true = (path_has [] is).parts in absurd cc
path_some (x ∷ xs) is = omega arith

-- ---- plain bytes, of which one part is made

-- an ASCII byte that a name may have, and no slash
abbrev pub is_plain : ℕ → Bool
is_plain b = is_name_byte b && not (b == 47) && nat_lt b 128

pub record IsPlain (text : List ℕ) : Type 0 where
  pub each : list_all is_plain text ≡ true

differs : (t w : List ℕ) → length t ≢ length w → bytes_eq t w ≡ false
differs t w other = false_from_ne_true (bytes_eq t w) (λ same. other (ap length ((bytes_eq-Decides t w).0 same)))

long_part : (t : List ℕ) → 2 < length t → is_name_part t ≡ true
long_part t long =
    rw (ne_eqb (length t) 0 (λ e. omega arith), differs t (codes ".") (λ e. omega arith), differs t (codes "..") (λ e. omega arith)) refl

plain_has : (b : ℕ) → is_plain b ≡ true → (is_name_byte b ≡ true) × (is_slash b ≡ false) × (b < 128)
plain_has b is =
    let outer = and_parts (is_name_byte b && not (b == 47)) (nat_lt b 128) is in
    let inner = and_parts (is_name_byte b) (not (b == 47)) outer.0 in
    (inner.0, not-true (b == 47) inner.1, ltb-true b 128 outer.1)

plain_bytes : (t : List ℕ) → list_all is_plain t ≡ true → list_all is_name_byte t ≡ true
plain_bytes [] is = refl
plain_bytes (x ∷ xs) is = let both = and_parts (is_plain x) (list_all is_plain xs) is in and_from _ _ (plain_has x both.0).0 (plain_bytes xs both.1)

plain_ascii : (t : List ℕ) → list_all is_plain t ≡ true → IsAscii t
plain_ascii [] is = IsAscii-nil
plain_ascii (x ∷ xs) is = let both = and_parts (is_plain x) (list_all is_plain xs) is in IsAscii-cons x xs (plain_has x both.0).2 (plain_ascii xs both.1)

abbrev NoSlash : List ℕ → Type 0
NoSlash t = All (λ b. is_slash b ≡ false) t

plain_no_slash : (t : List ℕ) → list_all is_plain t ≡ true → NoSlash t
plain_no_slash [] is = All-nil (λ b. is_slash b ≡ false)
plain_no_slash (x ∷ xs) is = let both = and_parts (is_plain x) (list_all is_plain xs) is in All-cons (λ b. is_slash b ≡ false) x xs (plain_has x both.0).1 (plain_no_slash xs both.1)

one_part : (t : List ℕ) → NoSlash t → 2 < length t → list_all is_name_part (name_parts t) ≡ true
one_part t none long = rw (slice_split_none is_slash t none, long_part t long) refl

-- three plain bytes or more are a path
pub plain_path : (t : List ℕ) → IsPlain t → 2 < length t → IsPath t
plain_path t plain long = path_from t (record {
  bytes = plain_bytes t plain.each;
  parts = one_part t (plain_no_slash t plain.each) long;
  utf8 = is_utf8-from_IsUtf8 t (IsUtf8-from_ascii t (plain_ascii t plain.each));
})

-- ---- a path with three plain bytes or more at its end

parts_ended : (q xs s : List ℕ) → NoSlash q → NoSlash s → 2 < length s → list_all is_name_part (name_parts (q ++ xs)) ≡ true → list_all is_name_part (name_parts (q ++ (xs ++ s))) ≡ true
parts_ended q [] s front end long parts =
    one_part (q ++ s) (All-append (λ b. is_slash b ≡ false) q s front end) (omega (arith, length-append q s))
parts_ended q (x ∷ xs) s front end long parts = elim (cases_Bool (is_slash x)) [
  | inl is ↦
      let cut = slice_split_at is_slash q x xs front is in
      let halves : (is_name_part q && list_all is_name_part (name_parts xs)) ≡ true = sym (ap (list_all is_name_part) cut) ∙ parts in
      let both = and_parts (is_name_part q) (list_all is_name_part (name_parts xs)) halves in
      let rest = parts_ended [] xs s (All-nil (λ b. is_slash b ≡ false)) end long both.1 in
      ap (list_all is_name_part) (slice_split_at is_slash q x (xs ++ s) front is) ∙ and_from _ _ both.0 rest
  | inr other ↦
      let moved : (ys : List ℕ) → (q ++ x ∷ []) ++ ys ≡ q ++ x ∷ ys = λ ys. append_assoc q (x ∷ []) ys in
      let longer : NoSlash (q ++ x ∷ []) = All-append (λ b. is_slash b ≡ false) q (x ∷ []) front (All-cons (λ b. is_slash b ≡ false) x [] other (All-nil (λ b. is_slash b ≡ false))) in
      let before : list_all is_name_part (name_parts ((q ++ x ∷ []) ++ xs)) ≡ true = ap (λ (t : List ℕ). list_all is_name_part (name_parts t)) (moved xs) ∙ parts in
      sym (ap (λ (t : List ℕ). list_all is_name_part (name_parts t)) (moved (xs ++ s))) ∙ parts_ended (q ++ x ∷ []) xs s longer end long before
]

pub path_ended : (t s : List ℕ) → IsPath t → IsPlain s → 2 < length s → IsPath (t ++ s)
path_ended t s is plain long =
    let has = path_has t is in
    path_from (t ++ s) (record {
      bytes = list_all-append is_name_byte t s ∙ and_from _ _ has.bytes (plain_bytes s plain.each);
      parts = parts_ended [] t s (All-nil (λ b. is_slash b ≡ false)) (plain_no_slash s plain.each) long has.parts;
      utf8 = is_utf8-from_IsUtf8 (t ++ s) (IsUtf8-append t s (IsUtf8-from_is_utf8 t has.utf8) (IsUtf8-from_ascii s (plain_ascii s plain.each)));
    })

pub plain_joined : (s t : List ℕ) → IsPlain s → IsPlain t → IsPlain (s ++ t)
plain_joined s t first second = record { each = list_all-append is_plain s t ∙ and_from _ _ first.each second.each }

pub path_has_bytes : (text : List ℕ) → IsPath text → 0 < length text
path_has_bytes = path_some

-- ---- a name that begins with the front of a folder

pub front_then_rest : (front name : List ℕ) → has_front front name ≡ true → front ++ behind front name ≡ name
front_then_rest front name has =
    let start : front ≡ take (length front) name = (bytes_eq-Decides front (take (length front) name)).0 has in
    ap (λ (t : List ℕ). t ++ drop (length front) name) start ∙ take-append-drop (length front) name

pub behind_rest : (folder name : List ℕ) → has_front (front_of folder) name ≡ true → within folder (behind (front_of folder) name) ≡ name
behind_rest folder name has = sym (append_assoc folder (47 ∷ []) (behind (front_of folder) name)) ∙ front_then_rest (front_of folder) name has

pub name_behind : (folder name : List ℕ) → IsPath folder → IsName name → has_front (front_of folder) name ≡ true → IsName (behind (front_of folder) name)
name_behind folder name outer is has =
    let rest = behind (front_of folder) name in
    let path : IsPath rest = path_behind folder rest outer (subst IsPath (sym (behind_rest folder name has)) (name_is_path name is)) in
    path_is_name rest path (path_some rest path) (omega (arith, (name_is_short name is).1, length-drop (length (front_of folder)) name))

pub name_behind_front : (front name : List ℕ) → CanFollow front → IsName name → has_front front name ≡ true → IsName (behind front name)
name_behind_front front name follows is has =
    let at_folder : has_front (front_of follows.folder) name ≡ true = ap (λ (f : List ℕ). has_front f name) (sym follows.is) ∙ has in
    subst (λ (f : List ℕ). IsName (behind f name)) (sym follows.is) (name_behind follows.folder name follows.is_folder is at_folder)

-- a slice to its end
pub to_end : (k : ℕ) (bs : List ℕ) → take (length bs - k) (drop k bs) ≡ drop k bs
to_end k bs = take_all (length bs - k) (drop k bs) (omega (arith, length-drop k bs))
