-- What is held for the data files of a view, once one is put and once one is taken out.
use Rattle.std.proofs.Common.{◌≡◌, ◌∙◌, ◌+◌, refl, sym, ap, ℕ, Bool, true, false, bytes_eq, List, [], ◌∷◌, All, AllPairs, Option, None, arith}
use Rattle.std.specs.Prelude.{sum_by}
use Rattle.std.specs.Ordering.{ordering_reverse}
use Rattle.std.specs.declared.cmp.Ordering.{Ordering}
use Rattle.std.specs.declared.cmp.Ordering.TheVariants.{Less, Equal, Greater}
use Rattle.std.proofs.lemmas.Bool.{false_from_ne_true}
use Rattle.std.proofs.lemmas.Cmp.{tied_itself}
use Rattle.std.proofs.lemmas.List.Elements.{All-head, All-tail, All-weaker}
use Rattle.std.proofs.lemmas.List.Sums.{sum_by-append}
use Rattle.std.proofs.lemmas.Slice.Eq.{bytes_eq-Decides}
use Rattle.identity.specs.Printed.{text_cmp}
use Rattle.machine.specs.DataFiles.{with_named, with_named_at, without_named}
use Rattle.machine.proofs.EntryOrder.{order}
use Rattle.machine.proofs.Keys.{equal_texts}
use Rattle.machine.proofs.Members.{pairs_head, pairs_tail}
use Rattle.store_state.specs.declared.view.LocalFile.{LocalFile}
use Rattle.store_state.specs.Locals.{local_name, local_named}
use Rattle.table_files.specs.Freed.{held_for_one}
use Rattle.table_files.specs.Held.{held_for_locals}

-- each name is before the next ones
abbrev pub Before : LocalFile → LocalFile → Type 0
Before f g = text_cmp f.name g.name ≡ Less

-- names that compare otherwise differ
unequal : (a b : List ℕ) (o : Ordering) → text_cmp a b ≡ o → (o ≡ Equal → ⊥)
    → bytes_eq a b ≡ false
unequal a b o compared other =
    false_from_ne_true (bytes_eq a b) (λ same. other (sym compared
    ∙ ap (λ (n : List ℕ). text_cmp n b) ((bytes_eq-Decides a b).0 same) ∙ tied_itself order b))

equal : (a b : List ℕ) → text_cmp a b ≡ Equal → bytes_eq a b ≡ true
equal a b compared = (bytes_eq-Decides a b).1 (equal_texts a b compared)

-- what is found among a file and the others, by whether it has the name
found_first : (name : List ℕ) (file : LocalFile) (files : List LocalFile)
    → bytes_eq file.name name ≡ true
    → held_for_one (local_named name (file ∷ files)) ≡ file.held
found_first name file files is = rw is

found_later : (name : List ℕ) (file : LocalFile) (files : List LocalFile)
    → bytes_eq file.name name ≡ false
    → held_for_one (local_named name (file ∷ files)) ≡ held_for_one (local_named name files)
found_later name file files is = rw is

-- a name that is before all others is that of none
none_after : (name : List ℕ) (files : List LocalFile)
    → All (λ (f : LocalFile). text_cmp name f.name ≡ Less) files
    → local_named name files ≡ None
none_after name [] after = refl
none_after name (file ∷ files) after =
    let less = All-head (λ (f : LocalFile). text_cmp name f.name ≡ Less) file files after in
    let greater : text_cmp file.name name ≡ Greater =
    order.antisymm file.name name ∙ ap ordering_reverse less in
    rw (unequal file.name name Greater greater (λ e. cc))
    (none_after name files
    (All-tail (λ (f : LocalFile). text_cmp name f.name ≡ Less) file files after))

module _ (w : ℕ → ℕ) where
  abbrev pub total : List ℕ → ℕ
  total items = sum_by w items

  -- one file more in front
  pub total-locals : (file : LocalFile) (files : List LocalFile)
      → total (held_for_locals (file ∷ files)) ≡ total file.held + total (held_for_locals files)
  total-locals file files = sum_by-append w file.held (held_for_locals files)

  -- what is put takes the place of what stood under its name
  pub put_total : (file : LocalFile) (files : List LocalFile) → AllPairs Before files
      → total (held_for_locals (with_named local_name file files))
      + total (held_for_one (local_named file.name files))
      ≡ total (held_for_locals files) + total file.held
  put_total file [] pairs = omega (arith, total-locals file [])
  put_total file (other ∷ others) pairs =
      by (text_cmp other.name file.name) refl
      (put_total file others (pairs_tail Before other others pairs))
    where
      behind : All (Before other) others
      behind = pairs_head Before other others pairs

      by : (o : Ordering) → text_cmp other.name file.name ≡ o
          → total (held_for_locals (with_named local_name file others))
          + total (held_for_one (local_named file.name others))
          ≡ total (held_for_locals others) + total file.held
          → total (held_for_locals
          (with_named_at o file other others (with_named local_name file others)))
          + total (held_for_one (local_named file.name (other ∷ others)))
          ≡ total (held_for_locals (other ∷ others)) + total file.held
      by Less e more = omega (
        arith,
        more,
        total-locals other (with_named local_name file others),
        total-locals other others,
        ap total (found_later file.name other others
            (unequal other.name file.name Less e (λ no. cc))),
      )
      by Equal e more = omega (
        arith,
        total-locals file others,
        total-locals other others,
        ap total (found_first file.name other others (equal other.name file.name e)),
      )
      by Greater e more =
          let less : text_cmp file.name other.name ≡ Less =
          order.antisymm file.name other.name ∙ ap ordering_reverse e in
          let none = none_after file.name others (All-weaker (Before other)
          (λ (f : LocalFile). text_cmp file.name f.name ≡ Less)
          (λ f after. order.trans file.name other.name f.name less after) others behind) in
          omega (
            arith,
            total-locals file (other ∷ others),
            total-locals other others,
            ap total (found_later file.name other others
                (unequal other.name file.name Greater e (λ no. cc))),
            ap (λ (o : Option LocalFile). total (held_for_one o)) none,
          )

  -- what is taken out is what stood under the name
  pub left_total : (name : List ℕ) (files : List LocalFile) → AllPairs Before files
      → total (held_for_locals (without_named local_name name files))
      + total (held_for_one (local_named name files))
      ≡ total (held_for_locals files)
  left_total name [] pairs = omega arith
  left_total name (file ∷ files) pairs =
      by (bytes_eq file.name name) refl (left_total name files (pairs_tail Before file files pairs))
    where
      behind : All (Before file) files
      behind = pairs_head Before file files pairs

      by : (b : Bool) → bytes_eq file.name name ≡ b
          → total (held_for_locals (without_named local_name name files))
          + total (held_for_one (local_named name files))
          ≡ total (held_for_locals files)
          → total (held_for_locals (without_named local_name name (file ∷ files)))
          + total (held_for_one (local_named name (file ∷ files)))
          ≡ total (held_for_locals (file ∷ files))
      by true e more =
          let same : file.name ≡ name = (bytes_eq-Decides file.name name).0 e in
          let none = none_after name files (All-weaker (Before file)
          (λ (f : LocalFile). text_cmp name f.name ≡ Less)
          (λ f less. ap (λ (n : List ℕ). text_cmp n f.name) (sym same) ∙ less) files behind) in
          let left : without_named local_name name (file ∷ files)
          ≡ without_named local_name name files = rw e in
          omega (
            arith,
            more,
            total-locals file files,
            ap (λ (fs : List LocalFile). total (held_for_locals fs)) left,
            ap total (found_first name file files e),
            ap (λ (o : Option LocalFile). total (held_for_one o)) none,
          )
      by false e more =
          let left : without_named local_name name (file ∷ files)
          ≡ file ∷ without_named local_name name files = rw e in
          omega (
            arith,
            more,
            total-locals file files,
            total-locals file (without_named local_name name files),
            ap (λ (fs : List LocalFile). total (held_for_locals fs)) left,
            ap total (found_later name file files e),
          )
