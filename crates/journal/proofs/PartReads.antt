-- One read more of a part of what a disk holds.
use Rattle.std.proofs.Common.{◌≡◌, ◌⊎◌, ℕ, ◌+◌, ◌-◌, ◌<◌, ◌≤◌, min, List, [], ◌++◌, length, take, drop, refl, sym, ◌∙◌, ap, subst, arith, append_assoc, length-append, length-take, length-drop, take-append-drop}
use Rattle.std.proofs.lemmas.List.{take_at, drop-drop, take-take, append-nil, nil_from_length}
use Rattle.std.proofs.Math.Seq.{take-append-add}
use Rattle.journal.specs.Layout.{part_at}
use Rattle.journal.specs.Steps.{AreFirstOf}
use Rattle.journal.proofs.Parts.{length-part_at}

take_add : (m n : ℕ) (l : List ℕ) → m ≤ length l → take (m + n) l ≡ take m l ++ take n (drop m l)
take_add m n l within =
    let size : length (take m l) ≡ m = omega (arith, length-take m l, within) in
    ap (take (m + n)) (sym (take-append-drop m l)) ∙ ap (λ (k : ℕ). take (k + n) (take m l ++ drop m l)) (sym size) ∙ take-append-add (take m l) (drop m l) n

on : (seen bytes grown buf new : List ℕ) (place limit room n : ℕ) → AreFirstOf bytes (part_at place limit seen) → room ≤ limit - length bytes → length bytes ≤ limit
    → n ≡ min (length seen - (place + length bytes)) (length (take room buf)) → new ≡ take n (drop (place + length bytes) seen) ++ drop n (take room buf) → grown ≡ bytes ++ take n (new ++ drop room buf)
    → AreFirstOf grown (part_at place limit seen)
unfolding part_at
on seen bytes grown buf new place limit room n first some below is_n is_new is_grown =
    let m = length bytes in
    let d = drop place seen in
    let part = take limit d in
    let rest : drop (place + m) seen ≡ drop m d = sym (drop-drop m place seen) in
    let left : length (drop m d) ≡ length seen - (place + m) = sym (ap length rest) ∙ length-drop (place + m) seen in
    let long : length (take n (drop (place + m) seen)) ≡ n = omega (arith, length-take n (drop (place + m) seen), length-drop (place + m) seen, is_n) in
    let short : n ≤ limit - m = omega (arith, is_n, length-take room buf, some) in
    let read : take n (new ++ drop room buf) ≡ take n (drop m d) =
    ap (λ (l : List ℕ). take n (l ++ drop room buf)) is_new ∙ ap (take n) (append_assoc (take n (drop (place + m) seen)) (drop n (take room buf)) (drop room buf))
    ∙ take_at (take n (drop (place + m) seen)) (drop n (take room buf) ++ drop room buf) n long ∙ ap (take n) rest in
    let front : bytes ≡ take m d = sym (take_at bytes first.rest m refl) ∙ ap (take m) (sym first.split) ∙ take-take m limit d below in
    let within : m ≤ length d = omega (arith, ap length front, length-take m d) in
    let whole : grown ≡ take (m + n) d = is_grown ∙ ap (λ (l : List ℕ). bytes ++ l) read ∙ ap (λ (l : List ℕ). l ++ take n (drop m d)) front ∙ sym (take_add m n d within) in
    record {
      rest = drop (m + n) part;
      split = sym (take-append-drop (m + n) part) ∙ ap (λ (l : List ℕ). l ++ drop (m + n) part) (take-take (m + n) limit d (omega (arith, short, below)) ∙ sym whole);
    }

pub read_more : (first seen bytes grown buf new : List ℕ) (place limit room place' n : ℕ) → seen ≡ first → place' ≡ place + length bytes → AreFirstOf bytes (part_at place limit first) → room ≤ limit - length bytes → length bytes ≤ limit
    → n ≡ min (length seen - place') (length (take room buf)) → new ≡ take n (drop place' seen) ++ drop n (take room buf) → grown ≡ bytes ++ take n (new ++ drop room buf)
    → AreFirstOf grown (part_at place limit first)
read_more first seen bytes grown buf new place limit room place' n same is_place is_first some below is_n is_new is_grown =
    subst (λ (l : List ℕ). AreFirstOf grown (part_at place limit l)) same
    (on seen bytes grown buf new place limit room n (subst (λ (l : List ℕ). AreFirstOf bytes (part_at place limit l)) (sym same) is_first) some below
    (is_n ∙ ap (λ (k : ℕ). min (length seen - k) (length (take room buf))) is_place)
    (is_new ∙ ap (λ (k : ℕ). take n (drop k seen) ++ drop n (take room buf)) is_place) is_grown)

-- nothing more stands there
pub read_none : (first seen buf : List ℕ) (place limit room place' n m : ℕ) → seen ≡ first → place' ≡ place + m → n ≡ 0 → 0 < room → room ≤ length buf → n ≡ min (length seen - place') (length (take room buf))
    → length (part_at place limit first) ≤ m
read_none first seen buf place limit room place' n m same is_place none some fits is_n =
    omega (arith, ap length same, is_place, none, some, fits, is_n, length-take room buf, length-part_at place limit first)

-- the whole part was read
pub read_whole : (bytes part : List ℕ) (n : ℕ) → AreFirstOf bytes part → length part ≤ n → (n ≤ length bytes) ⊎ (length part ≤ length bytes) → bytes ≡ part
read_whole bytes part n first short enough =
    let size = ap length first.split ∙ length-append bytes first.rest in
    let full : length part ≤ length bytes = grind (arith, enough, short) in
    let none : first.rest ≡ [] = nil_from_length first.rest (omega (arith, size, full)) in
    sym (first.split ∙ ap (λ (l : List ℕ). bytes ++ l) none ∙ append-nil bytes)

pub short_part : (place n : ℕ) (image : List ℕ) → length (part_at place n image) ≤ n
short_part place n image = omega (arith, length-part_at place n image)

pub grown_long : (bytes grown read : List ℕ) (n : ℕ) → grown ≡ bytes ++ take n read → (length bytes ≤ length grown) × (length grown ≤ length bytes + n)
grown_long bytes grown read n is =
    let size = ap length is ∙ length-append bytes (take n read) in
    (omega (arith, size), omega (arith, size, length-take n read))

pub first_none : (bytes part : List ℕ) → bytes ≡ [] → AreFirstOf bytes part
first_none bytes part none = record { rest = part; split = ap (λ (l : List ℕ). l ++ part) (sym none) }
