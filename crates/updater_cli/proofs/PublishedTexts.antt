-- What a written text tells is what it was written from.
use Rattle.std.proofs.Common.{◌≡◌, ◌∙◌, ◌≤◌, ℕ, true, List, [], ◌∷◌, ◌++◌, take, drop, length, length-append, IsUtf8, Ok, refl, sym, ap, subst, arith}
use Rattle.std.proofs.lemmas.List.{take-append-le, drop-append-le, take_all, drop_all}
use Rattle.std.proofs.lemmas.Str.{IsCharBoundary-at_seam, IsCharBoundary-from_take, IsUtf8-drop, IsUtf8-take}
use Rattle.manifest_tree.specs.Grammar.{SpellsTree}
use Rattle.manifest_tree.specs.Tree.{Tree}
use Rattle.manifest_tree.specs.WrittenText.{declaration, element_text, is_writable, written}
use Rattle.manifest_tree.proofs.Flat.{one_tree_read, spelled_read}
use Rattle.manifest_tree.proofs.Written.{ascii_utf8, spells}
use Rattle.manifest_parts.specs.Elements.{Read}
use Rattle.manifest_parts.specs.Parts.{Tells}

-- ---- the element of a text of UTF-8

front_is : (xs ys : List ℕ) → take (length xs) (xs ++ ys) ≡ xs
front_is xs ys = take-append-le (length xs) xs ys (omega arith) ∙ take_all (length xs) xs (omega arith)

rest_is : (xs ys : List ℕ) → drop (length xs) (xs ++ ys) ≡ ys
rest_is xs ys = drop-append-le (length xs) xs ys (omega arith) ∙ ap (λ (zs : List ℕ). zs ++ ys) (drop_all (length xs) xs (omega arith))

behind_utf8 : (xs ys : List ℕ) → IsUtf8 xs → IsUtf8 (xs ++ ys) → IsUtf8 ys
behind_utf8 xs ys front whole =
    let within : length xs ≤ length (xs ++ ys) = omega (arith, length-append xs ys) in
    subst (λ (zs : List ℕ). IsUtf8 zs) (rest_is xs ys)
    (IsUtf8-drop (xs ++ ys) (length xs) whole
    (IsCharBoundary-from_take (xs ++ ys) (length xs) whole within
    (subst (λ (zs : List ℕ). IsUtf8 zs) (sym (front_is xs ys)) front)))

before_utf8 : (xs ys : List ℕ) → IsUtf8 ys → IsUtf8 (xs ++ ys) → IsUtf8 xs
before_utf8 xs ys last whole =
    subst (λ (zs : List ℕ). IsUtf8 zs) (front_is xs ys)
    (IsUtf8-take (xs ++ ys) (length xs) whole (IsCharBoundary-at_seam (xs ++ ys) xs ys refl last))

element_utf8 : (t : Tree) → IsUtf8 (written t) → IsUtf8 (element_text t)
unfolding written
element_utf8 t is =
    before_utf8 (element_text t) (10 ∷ []) (ascii_utf8 (10 ∷ []) refl)
    (behind_utf8 declaration (element_text t ++ 10 ∷ []) (ascii_utf8 declaration refl) is)

-- ---- what is told

module _ {A : Type 0} (facts : Tree → Read A) where
  same_value : (a x : A) → ◌≡◌ {A = Read A} (Ok a) (Ok x) → x ≡ a
  same_value a x e = cc

  -- a text that tells something spells a tree, which is the one that it was written from
  pub told_written : (t : Tree) (a x : A) → is_writable t ≡ true → facts t ≡ Ok a
      → Tells facts (written t) (Ok x) → x ≡ a
  told_written t a x writable are told =
      let own : SpellsTree (written t) t =
      spells t writable (element_utf8 t told.spelled.utf8) told.spelled.short in
      let same = one_tree_read (written t) told.tree t
      (spelled_read (written t) told.tree told.spelled) (spelled_read (written t) t own) in
      same_value a x (sym are ∙ sym (ap facts same) ∙ told.facts_are)
