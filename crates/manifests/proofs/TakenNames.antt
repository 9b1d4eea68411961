-- Files whose names differ, gone through from the front.
use Rattle.std.proofs.Common.{◌≡◌, ℕ, zero, suc, ◌+◌, ◌<◌, ◌≤◌, Bool, true, false, List, [], ◌∷◌, ◌++◌, length, take, get_or, refl, sym, ap, subst, ◌∙◌, inl, inr, arith, length-append}
use Rattle.std.specs.Prelude.{◌||◌, nat_lt, slice_index_or}
use Rattle.std.specs.Str.{bytes_eq}
use Rattle.std.proofs.lemmas.Bool.{cases_Bool}
use Rattle.std.proofs.lemmas.Bool.Decides.{nat_tests}
use Rattle.std.proofs.lemmas.List.{get_or_append_left, get_or-take, length-take-le, take_all, take_more}
use Rattle.std.proofs.lemmas.Slice.Eq.{bytes_eq-Decides}
use Rattle.std.proofs.Math.Seq.{get_or-append_seam}
use Rattle.manifests.specs.declared.facts.FileEntry.{FileEntry}
use Rattle.manifests.specs.Applications.{is_taken}
use Rattle.manifests.specs.FileLists.{NamesDiffer}

pub or_parts : (a b : Bool) → (a || b) ≡ false → (a ≡ false) × (b ≡ false)
or_parts true b h = absurd cc
or_parts false b h = (refl, h)

or_second : (a b : Bool) → a ≡ false → (a || b) ≡ true → b ≡ true
or_second true b isnt h = absurd cc
or_second false b isnt h = h

-- ---- a name that none of the files has, or one

not_taken : (before : List FileEntry) (name : List ℕ) → is_taken before name ≡ false → (i : ℕ) (d : FileEntry) → i < length before → ¬ ((slice_index_or before i d).name ≡ name)
not_taken [] name h i d lt = absurd (omega arith)
not_taken (e ∷ es) name h zero d lt = λ same.
    let p = or_parts (bytes_eq e.name name) (is_taken es name) h in
    let clash : true ≡ false = sym ((bytes_eq-Decides e.name name).1 same) ∙ p.0 in
    absurd cc
not_taken (e ∷ es) name h (suc i) d lt = not_taken es name (or_parts (bytes_eq e.name name) (is_taken es name) h).1 i d (omega arith)

-- the place of a file that has the name
record IsTakenAt (before : List FileEntry) (name : List ℕ) : Type 0 where
  place : ℕ
  within : place < length before
  has : (d : FileEntry) → (slice_index_or before place d).name ≡ name

taken_at : (before : List FileEntry) (name : List ℕ) → is_taken before name ≡ true → IsTakenAt before name
taken_at [] name h = absurd cc
taken_at (e ∷ es) name h =
    elim (cases_Bool (bytes_eq e.name name)) [
      | inl same ↦ record { place = 0; within = omega arith; has = λ d. (bytes_eq-Decides e.name name).0 same }
      | inr other ↦
          let p = taken_at es name (or_second (bytes_eq e.name name) (is_taken es name) other h) in
          record { place = suc p.place; within = let lt = p.within in omega arith; has = λ d. p.has d }
    ]

-- ---- one file more

module _ (before : List FileEntry) (e : FileEntry) (differ : NamesDiffer before) (fresh : is_taken before e.name ≡ false) where
  at_left : (i : ℕ) (d : FileEntry) → i < length before → slice_index_or (before ++ e ∷ []) i d ≡ slice_index_or before i d
  at_left i d lt = get_or_append_left before (e ∷ []) d i lt

  at_last : (j : ℕ) (d : FileEntry) → j ≡ length before → slice_index_or (before ++ e ∷ []) j d ≡ e
  at_last j d is = ap (λ (k : ℕ). slice_index_or (before ++ e ∷ []) k d) is ∙ get_or-append_seam before e [] d

  pair : (b : Bool) (i j : ℕ) (d : FileEntry) → nat_lt j (length before) ≡ b → i < j → j < length before + 1
      → ¬ ((slice_index_or (before ++ e ∷ []) i d).name ≡ (slice_index_or (before ++ e ∷ []) j d).name)
  pair true i j d test lt within = λ same.
      let left : j < length before = grind (arith, nat_tests) in
      differ i j d lt left (ap (λ (f : FileEntry). f.name) (sym (at_left i d (omega arith))) ∙ same ∙ ap (λ (f : FileEntry). f.name) (at_left j d left))
  pair false i j d test lt within = λ same.
      let last : j ≡ length before = grind (arith, nat_tests) in
      not_taken before e.name fresh i d (omega arith)
      (ap (λ (f : FileEntry). f.name) (sym (at_left i d (omega arith))) ∙ same ∙ ap (λ (f : FileEntry). f.name) (at_last j d last))

  pub differ_more : NamesDiffer (before ++ e ∷ [])
  differ_more =
      let size : length (before ++ e ∷ []) ≡ length before + 1 = length-append before (e ∷ []) in
      λ i j d lt within. pair (nat_lt j (length before)) i j d refl lt (omega arith)

-- ---- files that are gone through

module _ (files : List FileEntry) (i : ℕ) (e : FileEntry) (lt : i < length files) (is : e ≡ get_or files i e) where
  pub next_is : take (i + 1) files ≡ take i files ++ e ∷ []
  next_is = take_more files i e lt ∙ ap (λ (f : FileEntry). take i files ++ f ∷ []) (sym is)

  pub differ_next : NamesDiffer (take i files) → is_taken (take i files) e.name ≡ false → NamesDiffer (take (i + 1) files)
  differ_next differ fresh = subst NamesDiffer (sym next_is) (differ_more (take i files) e differ fresh)

  -- the file has the name of one before it
  pub same_name : is_taken (take i files) e.name ≡ true → ¬ NamesDiffer files
  same_name taken = λ differ.
      let p = taken_at (take i files) e.name taken in
      let below = p.within in
      let first : p.place < i = omega (arith, length-take-le i files (omega arith)) in
      differ p.place i e first lt (ap (λ (f : FileEntry). f.name) (sym (get_or-take i files p.place e first)) ∙ p.has e ∙ ap (λ (f : FileEntry). f.name) is)

pub differ_all : (files : List FileEntry) (i : ℕ) → length files ≤ i → NamesDiffer (take i files) → NamesDiffer files
differ_all files i le differ = subst NamesDiffer (take_all i files le) differ
