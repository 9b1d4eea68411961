-- The wanted files suffice, and take the blocks that are counted.
use Rattle.std.proofs.Common.{◌≡◌, ◌≢◌, ◌∙◌, ◌⊎◌, ◌&&◌, ◌||◌, ◌+◌, inl, inr, refl, sym, ap, subst, ℕ, Bool, true, false, not, cond, List, [], ◌∷◌, map, AllPairs, is_none, arith}
use Rattle.std.specs.Prelude.{filter, sum_by}
use Rattle.std.proofs.lemmas.Bool.{and_from, and_parts, or_left, or_parts, or_right}
use Rattle.std.proofs.lemmas.List.Kept.{AllPairs-cons, AllPairs-filter}
use Rattle.std.proofs.lemmas.List.Sums.{sum_by-cons}
use Rattle.manifests.specs.declared.facts.Application.{Application}
use Rattle.manifests.specs.declared.facts.FileEntry.{FileEntry}
use Rattle.machine.specs.Blocks.{blocks_of, distinct, standing_files}
use Rattle.machine.specs.InstallLaws.{AreWanted}
use Rattle.machine.specs.Shape.{BareView}
use Rattle.machine.specs.Views.{ContentKey, content_key, is_required, same_content}
use Rattle.machine.specs.Wanted.{is_held, new_contents, wanted_beside}
use Rattle.machine.proofs.Members.{In, filter_in, in_all, in_contains, in_filter, in_map, map_in, pairs_map, sum_map, sum_within}
use Rattle.machine.proofs.OwnContents.{Apart, distinct_apart, distinct_in, each_stands, in_passes, is_same, passes_in, same_is}

-- ---- tests

pub true_is_not_false : {P : Type 0} → true ≡ false → P
true_is_not_false e = absurd cc

pub was_false : (b : Bool) → not b ≡ true → b ≡ false
was_false true e = absurd (let e = e in cc)
was_false false e = refl

-- what is true of either is true of one
pub or_one : (a b : Bool) → (a || b) ≡ true → (a ≡ true) ⊎ (b ≡ true)
or_one true b e = inl refl
or_one false b e = inr e

required_is_no_data : (local rest : Bool) → (not local && rest) ≡ true → local ≡ false
required_is_no_data local rest e = was_false local (and_parts (not local) rest e).0

data_is_not_required : (local rest : Bool) → local ≡ true → (not local && rest) ≡ false
data_is_not_required true rest e = refl
data_is_not_required false rest e = true_is_not_false (sym e)

-- ---- how the first file is taken

-- it is a data file, a required one whose content is not held, or neither
abbrev Case : List FileEntry → FileEntry → Type 0
Case held e = (e.local ≡ true) ⊎ ((e.local ≡ false) × (is_required e ≡ true) × (is_held held e ≡ false)) ⊎ ((e.local ≡ false) × ((is_required e && not (is_held held e)) ≡ false))

case_of : (held : List FileEntry) (e : FileEntry) → Case held e
case_of held e = by e.local (is_required e && not (is_held held e)) refl refl
  where
    by : (b t : Bool) → e.local ≡ b → (is_required e && not (is_held held e)) ≡ t → Case held e
    by true t local takes = inl local
    by false true other takes = let parts = and_parts (is_required e) (not (is_held held e)) takes in inr (inl (other, parts.0, was_false (is_held held e) parts.1))
    by false false other passes = inr (inr (other, passes))

module _ (held : List FileEntry) (e : FileEntry) (es : List FileEntry) where
  takes_data : e.local ≡ true → wanted_beside held (e ∷ es) ≡ e ∷ wanted_beside held es
  takes_data local = ap (λ (b : Bool). cond b (e ∷ wanted_beside held es) (cond (is_required e && not (is_held held e)) (e ∷ wanted_beside (e ∷ held) es) (wanted_beside held es))) local

  pub takes_program : e.local ≡ false → is_required e ≡ true → is_held held e ≡ false → wanted_beside held (e ∷ es) ≡ e ∷ wanted_beside (e ∷ held) es
  takes_program other required new =
      ap (λ (b : Bool). cond b (e ∷ wanted_beside held es) (cond (is_required e && not (is_held held e)) (e ∷ wanted_beside (e ∷ held) es) (wanted_beside held es))) other
      ∙ ap (λ (b : Bool). cond b (e ∷ wanted_beside (e ∷ held) es) (wanted_beside held es)) (and_from (is_required e) (not (is_held held e)) required (ap not new))

  pub passes_over : e.local ≡ false → (is_required e && not (is_held held e)) ≡ false → wanted_beside held (e ∷ es) ≡ wanted_beside held es
  passes_over other passes =
      ap (λ (b : Bool). cond b (e ∷ wanted_beside held es) (cond (is_required e && not (is_held held e)) (e ∷ wanted_beside (e ∷ held) es) (wanted_beside held es))) other
      ∙ ap (λ (b : Bool). cond b (e ∷ wanted_beside (e ∷ held) es) (wanted_beside held es)) passes

  -- the program files that are wanted
  first_data : e.local ≡ true → filter is_required (wanted_beside held (e ∷ es)) ≡ filter is_required (wanted_beside held es)
  first_data local =
      ap (λ (xs : List FileEntry). filter is_required xs) (takes_data local)
      ∙ ap (λ (b : Bool). cond b (e ∷ filter is_required (wanted_beside held es)) (filter is_required (wanted_beside held es))) (data_is_not_required e.local (is_none e.group) local)

  first_program : e.local ≡ false → is_required e ≡ true → is_held held e ≡ false → filter is_required (wanted_beside held (e ∷ es)) ≡ e ∷ filter is_required (wanted_beside (e ∷ held) es)
  first_program other required new =
      ap (λ (xs : List FileEntry). filter is_required xs) (takes_program other required new)
      ∙ ap (λ (b : Bool). cond b (e ∷ filter is_required (wanted_beside (e ∷ held) es)) (filter is_required (wanted_beside (e ∷ held) es))) required

  first_passed : e.local ≡ false → (is_required e && not (is_held held e)) ≡ false → filter is_required (wanted_beside held (e ∷ es)) ≡ filter is_required (wanted_beside held es)
  first_passed other passes = ap (λ (xs : List FileEntry). filter is_required xs) (passes_over other passes)

-- ---- a wanted program file has a new content

programs : List FileEntry → List FileEntry → List FileEntry
programs held es = filter is_required (wanted_beside held es)

not_held : (es held : List FileEntry) (x : FileEntry) → In x (programs held es) → is_held held x ≡ false
unfolding programs
not_held [] held x there = absurd there
not_held (e ∷ es) held x there = by (case_of held e) (not_held es held x) (not_held es (e ∷ held) x)
  where
    by : Case held e → (In x (programs held es) → is_held held x ≡ false) → (In x (programs (e ∷ held) es) → is_held (e ∷ held) x ≡ false) → is_held held x ≡ false
    by (inl local) same more = same (subst (λ (xs : List FileEntry). In x xs) (first_data held e es local) there)
    by (inr (inl taken)) same more = split (subst (λ (xs : List FileEntry). In x xs) (first_program held e es taken.0 taken.1 taken.2) there)
      where
        split : (e ≡ x) ⊎ In x (programs (e ∷ held) es) → is_held held x ≡ false
        split (inl is) = subst (λ (y : FileEntry). is_held held y ≡ false) is taken.2
        split (inr later) = (or_parts (same_content x e) (is_held held x) (more later)).1
    by (inr (inr passed)) same more = same (subst (λ (xs : List FileEntry). In x xs) (first_passed held e es passed.0 passed.1) there)

-- and no two have one
apart_all : (es held : List FileEntry) → AllPairs Apart (programs held es)
unfolding programs Apart
apart_all [] held = λ i j d lt within. absurd (omega arith)
apart_all (e ∷ es) held = by (case_of held e) (apart_all es held) (apart_all es (e ∷ held))
  where
    by : Case held e → AllPairs Apart (programs held es) → AllPairs Apart (programs (e ∷ held) es) → AllPairs Apart (filter is_required (wanted_beside held (e ∷ es)))
    by (inl local) same more = subst (AllPairs Apart) (sym (first_data held e es local)) same
    by (inr (inl taken)) same more =
        subst (AllPairs Apart) (sym (first_program held e es taken.0 taken.1 taken.2))
        (AllPairs-cons Apart e (programs (e ∷ held) es) (in_all (Apart e) (programs (e ∷ held) es) (λ x there one. true_is_not_false (sym (is_same x e (sym one)) ∙ (or_parts (same_content x e) (is_held held x) (not_held es (e ∷ held) x there)).0))) more)
    by (inr (inr passed)) same more = subst (AllPairs Apart) (sym (first_passed held e es passed.0 passed.1)) same

-- ---- each content is held or wanted

each_is : (es held : List FileEntry) (x : FileEntry) → is_required x ≡ true → In x es → (is_held held x ≡ true) ⊎ (is_held (programs held es) x ≡ true)
unfolding programs
each_is [] held x required there = absurd there
each_is (e ∷ es) held x required there = by (case_of held e) there (each_is es held x required) (each_is es (e ∷ held) x required)
  where
    as_before : filter is_required (wanted_beside held (e ∷ es)) ≡ programs held es → (is_held held x ≡ true) ⊎ (is_held (programs held es) x ≡ true) → (is_held held x ≡ true) ⊎ (is_held (filter is_required (wanted_beside held (e ∷ es))) x ≡ true)
    as_before is (inl old) = inl old
    as_before is (inr new) = inr (subst (λ (xs : List FileEntry). is_held xs x ≡ true) (sym is) new)

    own : filter is_required (wanted_beside held (e ∷ es)) ≡ e ∷ programs (e ∷ held) es → (same_content x e ≡ true) → is_held (filter is_required (wanted_beside held (e ∷ es))) x ≡ true
    own is same = subst (λ (xs : List FileEntry). is_held xs x ≡ true) (sym is) (or_left (same_content x e) (is_held (programs (e ∷ held) es) x) same)

    other : filter is_required (wanted_beside held (e ∷ es)) ≡ e ∷ programs (e ∷ held) es → is_held (programs (e ∷ held) es) x ≡ true → is_held (filter is_required (wanted_beside held (e ∷ es))) x ≡ true
    other is new = subst (λ (xs : List FileEntry). is_held xs x ≡ true) (sym is) (or_right (same_content x e) (is_held (programs (e ∷ held) es) x) new)

    first_held : e ≡ x → (is_required e && not (is_held held e)) ≡ false → is_held held x ≡ true
    first_held is passes = subst (λ (y : FileEntry). is_held held y ≡ true) is (settled (is_held held e) refl)
      where
        settled : (b : Bool) → is_held held e ≡ b → is_held held e ≡ true
        settled true h = h
        settled false h = true_is_not_false (sym (and_from (is_required e) (not (is_held held e)) (ap is_required is ∙ required) (ap not h)) ∙ passes)

    by : Case held e → (e ≡ x) ⊎ In x es → (In x es → (is_held held x ≡ true) ⊎ (is_held (programs held es) x ≡ true)) → (In x es → (is_held (e ∷ held) x ≡ true) ⊎ (is_held (programs (e ∷ held) es) x ≡ true)) → (is_held held x ≡ true) ⊎ (is_held (filter is_required (wanted_beside held (e ∷ es))) x ≡ true)
    by (inl local) (inl is) same more = true_is_not_false (sym local ∙ required_is_no_data e.local (is_none e.group) (ap is_required is ∙ required))
    by (inl local) (inr later) same more = as_before (first_data held e es local) (same later)
    by (inr (inl taken)) (inl is) same more = inr (own (first_program held e es taken.0 taken.1 taken.2) (is_same x e (ap content_key (sym is))))
    by (inr (inl taken)) (inr later) same more = onto (more later)
      where
        onto : (is_held (e ∷ held) x ≡ true) ⊎ (is_held (programs (e ∷ held) es) x ≡ true) → (is_held held x ≡ true) ⊎ (is_held (filter is_required (wanted_beside held (e ∷ es))) x ≡ true)
        onto (inl old) = which (or_one (same_content x e) (is_held held x) old)
          where
            which : (same_content x e ≡ true) ⊎ (is_held held x ≡ true) → (is_held held x ≡ true) ⊎ (is_held (filter is_required (wanted_beside held (e ∷ es))) x ≡ true)
            which (inl one) = inr (own (first_program held e es taken.0 taken.1 taken.2) one)
            which (inr before) = inl before
        onto (inr new) = inr (other (first_program held e es taken.0 taken.1 taken.2) new)
    by (inr (inr passed)) (inl is) same more = inl (first_held is passed.1)
    by (inr (inr passed)) (inr later) same more = as_before (first_passed held e es passed.0 passed.1) (same later)

-- ---- they are of the files

program_in : (es held : List FileEntry) (x : FileEntry) → In x (programs held es) → In x (filter is_required es)
unfolding programs
program_in [] held x there = absurd there
program_in (e ∷ es) held x there = in_filter is_required (e ∷ es) x (filter_in is_required (wanted_beside held (e ∷ es)) x there).0 (by (case_of held e) (λ behind. (filter_in is_required es x (program_in es held x behind)).1) (λ behind. (filter_in is_required es x (program_in es (e ∷ held) x behind)).1))
  where
    by : Case held e → (In x (programs held es) → In x es) → (In x (programs (e ∷ held) es) → In x es) → In x (e ∷ es)
    by (inl local) same more = inr (same (subst (λ (xs : List FileEntry). In x xs) (first_data held e es local) there))
    by (inr (inl taken)) same more = split (subst (λ (xs : List FileEntry). In x xs) (first_program held e es taken.0 taken.1 taken.2) there)
      where
        split : (e ≡ x) ⊎ In x (programs (e ∷ held) es) → In x (e ∷ es)
        split (inl is) = inl is
        split (inr later) = inr (more later)
    by (inr (inr passed)) same more = inr (same (subst (λ (xs : List FileEntry). In x xs) (first_passed held e es passed.0 passed.1) there))

-- ---- the data files, and the blocks

keeps : (b : Bool) (e : FileEntry) (xs : List FileEntry) → e.local ≡ b → filter (λ (entry : FileEntry). entry.local) (e ∷ xs) ≡ cond b (e ∷ filter (λ (entry : FileEntry). entry.local) xs) (filter (λ (entry : FileEntry). entry.local) xs)
keeps b e xs is = ap (λ (c : Bool). cond c (e ∷ filter (λ (entry : FileEntry). entry.local) xs) (filter (λ (entry : FileEntry). entry.local) xs)) is

locals_are : (es held : List FileEntry) → filter (λ (entry : FileEntry). entry.local) (wanted_beside held es) ≡ filter (λ (entry : FileEntry). entry.local) es
locals_are [] held = refl
locals_are (e ∷ es) held = by (case_of held e) (locals_are es held) (locals_are es (e ∷ held))
  where
    by : Case held e → filter (λ (entry : FileEntry). entry.local) (wanted_beside held es) ≡ filter (λ (entry : FileEntry). entry.local) es → filter (λ (entry : FileEntry). entry.local) (wanted_beside (e ∷ held) es) ≡ filter (λ (entry : FileEntry). entry.local) es → filter (λ (entry : FileEntry). entry.local) (wanted_beside held (e ∷ es)) ≡ filter (λ (entry : FileEntry). entry.local) (e ∷ es)
    by (inl local) same more = ap (λ (xs : List FileEntry). filter (λ (entry : FileEntry). entry.local) xs) (takes_data held e es local) ∙ keeps true e (wanted_beside held es) local ∙ ap (λ (xs : List FileEntry). e ∷ xs) same ∙ sym (keeps true e es local)
    by (inr (inl taken)) same more = ap (λ (xs : List FileEntry). filter (λ (entry : FileEntry). entry.local) xs) (takes_program held e es taken.0 taken.1 taken.2) ∙ keeps false e (wanted_beside (e ∷ held) es) taken.0 ∙ more ∙ sym (keeps false e es taken.0)
    by (inr (inr passed)) same more = ap (λ (xs : List FileEntry). filter (λ (entry : FileEntry). entry.local) xs) (passes_over held e es passed.0 passed.1) ∙ same ∙ sym (keeps false e es passed.0)

weigh : FileEntry → ℕ
weigh entry = blocks_of entry.size

blocks_are : (es held : List FileEntry) → sum_by weigh (wanted_beside held es) ≡ sum_by weigh (filter (λ (entry : FileEntry). entry.local) es) + sum_by weigh (programs held es)
unfolding programs
blocks_are [] held = refl
blocks_are (e ∷ es) held = by (case_of held e) (blocks_are es held) (blocks_are es (e ∷ held))
  where
    by : Case held e → sum_by weigh (wanted_beside held es) ≡ sum_by weigh (filter (λ (entry : FileEntry). entry.local) es) + sum_by weigh (programs held es) → sum_by weigh (wanted_beside (e ∷ held) es) ≡ sum_by weigh (filter (λ (entry : FileEntry). entry.local) es) + sum_by weigh (programs (e ∷ held) es) → sum_by weigh (wanted_beside held (e ∷ es)) ≡ sum_by weigh (filter (λ (entry : FileEntry). entry.local) (e ∷ es)) + sum_by weigh (filter is_required (wanted_beside held (e ∷ es)))
    by (inl local) same more =
        let a = ap (λ (xs : List FileEntry). sum_by weigh xs) (takes_data held e es local) in
        let b = ap (λ (xs : List FileEntry). sum_by weigh xs) (keeps true e es local) in
        let c = ap (λ (xs : List FileEntry). sum_by weigh xs) (first_data held e es local) in
        omega (arith, a, b, c, same, sum_by-cons weigh e (wanted_beside held es), sum_by-cons weigh e (filter (λ (entry : FileEntry). entry.local) es))
    by (inr (inl taken)) same more =
        let a = ap (λ (xs : List FileEntry). sum_by weigh xs) (takes_program held e es taken.0 taken.1 taken.2) in
        let b = ap (λ (xs : List FileEntry). sum_by weigh xs) (keeps false e es taken.0) in
        let c = ap (λ (xs : List FileEntry). sum_by weigh xs) (first_program held e es taken.0 taken.1 taken.2) in
        omega (arith, a, b, c, more, sum_by-cons weigh e (wanted_beside (e ∷ held) es), sum_by-cons weigh e (programs (e ∷ held) es))
    by (inr (inr passed)) same more =
        let a = ap (λ (xs : List FileEntry). sum_by weigh xs) (passes_over held e es passed.0 passed.1) in
        let b = ap (λ (xs : List FileEntry). sum_by weigh xs) (keeps false e es passed.0) in
        let c = ap (λ (xs : List FileEntry). sum_by weigh xs) (first_passed held e es passed.0 passed.1) in
        omega (arith, a, b, c, same)

-- ---- the program files take what new contents take

module _ (used es : List FileEntry) where
  abbrev fresh : List FileEntry
  fresh = new_contents used (filter is_required es)

  -- a wanted content is a new one
  to_new : (x : FileEntry) → In x (programs used es) → In (content_key x) (map content_key fresh)
  to_new x there =
      let one = each_stands (filter is_required es) x (program_in es used x there) in
      let new = in_filter (λ (entry : FileEntry). not (is_held used entry)) (distinct (filter is_required es)) one.entry (ap not (still one.entry (is_held used one.entry) refl one.is)) one.there in
      subst (λ (k : ContentKey). In k (map content_key fresh)) one.is (in_map content_key fresh one.entry new)
    where
      still : (r : FileEntry) (b : Bool) → is_held used r ≡ b → content_key r ≡ content_key x → is_held used r ≡ false
      still r true held same =
          let found = passes_in (same_content r) used held in
          true_is_not_false (sym (in_passes (same_content x) used found.0 found.1 (is_same x found.0 (sym same ∙ same_is r found.0 found.2))) ∙ not_held es used x there)
      still r false held same = held

  -- and a new content is wanted
  to_wanted : (r : FileEntry) → In r fresh → In (content_key r) (map content_key (programs used es))
  to_wanted r there =
      let kept = filter_in (λ (entry : FileEntry). not (is_held used entry)) (distinct (filter is_required es)) r there in
      let required = filter_in is_required es r (distinct_in (filter is_required es) r kept.1) in
      by (was_false (is_held used r) kept.0) (each_is es used r required.0 required.1)
    where
      by : is_held used r ≡ false → (is_held used r ≡ true) ⊎ (is_held (programs used es) r ≡ true) → In (content_key r) (map content_key (programs used es))
      by other (inl held) = true_is_not_false (sym held ∙ other)
      by other (inr new) =
          let found = passes_in (same_content r) (programs used es) new in
          subst (λ (k : ContentKey). In k (map content_key (programs used es))) (sym (same_is r found.0 found.2)) (in_map content_key (programs used es) found.0 found.1)

  fresh_apart : AllPairs Apart fresh
  fresh_apart = AllPairs-filter Apart (λ (entry : FileEntry). not (is_held used entry)) (distinct (filter is_required es)) (distinct_apart (filter is_required es))

  as_needed : sum_by weigh (programs used es) ≡ sum_by weigh fresh
  unfolding Apart weigh
  as_needed =
      let heavy = λ (key : ContentKey). blocks_of key.size in
      let first = sum_within heavy (map content_key (programs used es)) (map content_key fresh)
      (pairs_map content_key Apart (λ (a b : ContentKey). a ≢ b) (programs used es) (λ a b apart. apart) (apart_all es used))
      (λ key there. (let from = map_in content_key (programs used es) key there in subst (λ (k : ContentKey). In k (map content_key fresh)) from.2 (to_new from.0 from.1))) in
      let second = sum_within heavy (map content_key fresh) (map content_key (programs used es))
      (pairs_map content_key Apart (λ (a b : ContentKey). a ≢ b) fresh (λ a b apart. apart) fresh_apart)
      (λ key there. (let from = map_in content_key fresh key there in subst (λ (k : ContentKey). In k (map content_key (programs used es))) from.2 (to_wanted from.0 from.1))) in
      omega (arith, first, second, sum_map content_key heavy (programs used es), sum_map content_key heavy fresh)

pub are_wanted : (views : List BareView) (a : Application) → AreWanted views a
unfolding programs weigh Apart
are_wanted views a = record {
  each = λ entry required there. each_is a.files (standing_files views) entry required (in_contains a.files entry there);
  new = in_all (λ (entry : FileEntry). is_held (standing_files views) entry ≡ false) (programs (standing_files views) a.files) (not_held a.files (standing_files views));
  once = apart_all a.files (standing_files views);
  deployed = locals_are a.files (standing_files views);
  blocks = omega (arith, blocks_are a.files (standing_files views), as_needed (standing_files views) a.files);
}
