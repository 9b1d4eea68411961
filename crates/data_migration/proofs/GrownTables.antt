-- Tables and sets of names with one more.
use Rattle.std.proofs.Common.{◌≡◌, ◌∙◌, ◌&&◌, ◌||◌, refl, sym, ap, subst, ℕ, Bool, true, false, cond, List, Option, Some, None, bytes_eq, nat_cmp}
use Rattle.std.specs.Prelude.{is_some}
use Rattle.std.specs.Borrow.{Bor}
use Rattle.std.specs.BTreeMap as tree
use Rattle.std.specs.BTreeMap.{BTreeMap}
use Rattle.std.specs.BTreeSet as set
use Rattle.std.specs.BTreeSet.{BTreeSet}
use Rattle.std.specs.Cmp.Lexicographic.{slice_cmp}
use Rattle.std.specs.Option.{option_copied, option_or}
use Rattle.std.proofs.lemmas.Map.Text.{btree_map_updates_str, is_eq-slice_cmp}
use Rattle.std.proofs.lemmas.Slice.Eq.{bytes_eq-Decides}
use Rattle.identity.specs.Printed.{text_cmp}
use Rattle.manifests.specs.declared.facts.FileEntry.{FileEntry}
use Rattle.data_migration.specs.Tables.{entry_at, has_name}

-- ---- one more file in a table

module _ (old new : BTreeMap (Bor (List ℕ)) (Bor FileEntry)) (key : Bor (List ℕ))
    (entry : Bor FileEntry) where
  none_from : (o : Option (Bor FileEntry)) → is_some o ≡ false → o ≡ None
  none_from None e = refl
  none_from (Some x) e = absurd (let e = e in cc)

  by : (b : Bool) (was : Option (Bor FileEntry)) → (b ≡ true → was ≡ None)
      → option_copied (cond b (Some entry) was)
      ≡ option_or (option_copied was) (cond b (Some entry.now) None)
  by true None none = refl
  by true (Some x) none = absurd (let e = none refl in cc)
  by false None none = refl
  by false (Some x) none = refl

  pub added : tree.UpdatesBy (λ (x y : Bor (List ℕ)). slice_cmp nat_cmp x.now y.now)
      (λ (k : Bor (List ℕ)). slice_cmp nat_cmp key.now k.now) old new (Some entry)
      → key.now ≡ entry.now.name → entry.now.local ≡ true
      → is_some (tree.get_by (λ (k : Bor (List ℕ)). slice_cmp nat_cmp key.now k.now) old) ≡ false
      → (name : List ℕ) → entry_at new name ≡ option_or (entry_at old name)
      (cond (entry.now.local && bytes_eq entry.now.name name) (Some entry.now) None)
  added updates named local absent name =
      let was = tree.get_by (λ (k : Bor (List ℕ)). text_cmp name k.now) old in
      let here = none_from
      (tree.get_by (λ (k : Bor (List ℕ)). slice_cmp nat_cmp key.now k.now) old) absent in
      ap option_copied (btree_map_updates_str key.now old new (Some entry) updates name)
      ∙ by (bytes_eq key.now name) was
      (λ e. subst (λ (n : List ℕ). tree.get_by (λ (k : Bor (List ℕ)). text_cmp n k.now) old ≡ None)
      ((bytes_eq-Decides key.now name).0 e) here)
      ∙ ap (λ (n : List ℕ). option_or (entry_at old name)
      (cond (true && bytes_eq n name) (Some entry.now) None)) named
      ∙ ap (λ (b : Bool). option_or (entry_at old name)
      (cond (b && bytes_eq entry.now.name name) (Some entry.now) None))
      (sym local)

-- ---- one more name in a set

module _ (was a : Bool) where
  pub unkept_below : (o s : Bool) → o ≡ false → was ≡ (was || (a && o && s))
  unkept_below o s e =
      by was a ∙ ap (λ (b : Bool). was || (a && b && s)) (sym e)
    where
      by : (w x : Bool) → w ≡ (w || (x && false && s))
      by true x = refl
      by false true = refl
      by false false = refl

  pub unkept_moved : (o s : Bool) → s ≡ false → was ≡ (was || (a && o && s))
  unkept_moved o s e = by was (a && o) ∙ ap (λ (b : Bool). was || (a && o && b)) (sym e)
    where
      by : (w x : Bool) → w ≡ (w || (x && false))
      by true x = refl
      by false true = refl
      by false false = refl

  pub kept_one : (o s : Bool) → o ≡ true → s ≡ true → cond a true was ≡ (was || (a && o && s))
  kept_one o s outside same =
      by was a
      ∙ ap (λ (b : Bool). was || (a && b && true)) (sym outside)
      ∙ ap (λ (b : Bool). was || (a && o && b)) (sym same)
    where
      by : (w x : Bool) → cond x true w ≡ (w || (x && true && true))
      by true true = refl
      by true false = refl
      by false true = refl
      by false false = refl

pub named : (old new : BTreeSet (Bor (List ℕ))) (key : Bor (List ℕ))
    → set.Updates (λ (x y : Bor (List ℕ)). slice_cmp nat_cmp x.now y.now) old new key true
    → (name : List ℕ) → has_name new name ≡ cond (bytes_eq key.now name) true (has_name old name)
named old new key updates name =
    updates.0 (record { ref_ptr = key.ref_ptr; now = name })
    ∙ ap (λ (b : Bool). cond b true (has_name old name)) (is_eq-slice_cmp key.now name)
