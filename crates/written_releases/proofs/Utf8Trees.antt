-- The text of a tree is UTF-8, where what stands in it is.
use Rattle.std.proofs.Common.{ℕ, List, [], ◌∷◌, ◌++◌, refl}
use Rattle.std.specs.Prelude.{codes}
use Rattle.std.specs.Str.{IsUtf8}
use Rattle.std.proofs.lemmas.Bool.{cond_both}
use Rattle.std.proofs.lemmas.Str.{IsUtf8-append, IsUtf8-nil}
use Rattle.manifest_tree.specs.declared.node.Attribute.{Attribute}
use Rattle.manifest_tree.specs.Tree.{Tree, Trees, tree, none, more, trees}
use Rattle.manifest_tree.specs.WrittenText.{attribute_text, attributes_text, element_text, elements_text, end_text, escaped, is_bare, start_text}
use Rattle.manifest_tree.proofs.Written.{ascii_utf8, attribute_utf8, end_utf8, start_utf8, text_utf8}

-- ---- what stands in a tree

abbrev pub AreUtf8 : List Attribute → Type 0
AreUtf8 [] = Unit {0}
AreUtf8 (a ∷ others) = IsUtf8 a.name × IsUtf8 a.value × AreUtf8 others

abbrev mutual
  pub HasUtf8 : Tree → Type 0
  HasUtf8 (tree name attributes children text) =
      IsUtf8 name × AreUtf8 attributes × HaveUtf8 children × IsUtf8 text

  pub HaveUtf8 : Trees → Type 0
  HaveUtf8 none = Unit {0}
  HaveUtf8 (more t ts) = HasUtf8 t × HaveUtf8 ts

pub utf8_joined : (xs ys : List Tree) → HaveUtf8 (trees xs) → HaveUtf8 (trees ys) → HaveUtf8 (trees (xs ++ ys))
utf8_joined [] ys first second = second
utf8_joined (x ∷ xs) ys first second = (first.0, utf8_joined xs ys first.1 second)

-- ---- its text

attributes_utf8 : (attributes : List Attribute) → AreUtf8 attributes → IsUtf8 (attributes_text attributes)
attributes_utf8 [] are = IsUtf8-nil
attributes_utf8 (a ∷ others) are = IsUtf8-append (attribute_text a) (attributes_text others) (attribute_utf8 a are.0 are.1) (attributes_utf8 others are.2)

whole_utf8 : (name : List ℕ) (attributes : List Attribute) (children : Trees) (text : List ℕ) → IsUtf8 name → AreUtf8 attributes → IsUtf8 (elements_text children) → IsUtf8 text
    → IsUtf8 (element_text (tree name attributes children text))
whole_utf8 name attributes children text named are inner said =
    IsUtf8-append (start_text name attributes) _ (start_utf8 name (attributes_text attributes) named (attributes_utf8 attributes are))
    (cond_both (is_bare children text) (codes "/>") ((62 ∷ escaped text) ++ (elements_text children ++ end_text name)) IsUtf8 (λ bare. ascii_utf8 (codes "/>") refl)
    (λ full. IsUtf8-append (62 ∷ escaped text) (elements_text children ++ end_text name) (text_utf8 text said) (IsUtf8-append (elements_text children) (end_text name) inner (end_utf8 name named))))

mutual
  pub element_utf8 : (t : Tree) → HasUtf8 t → IsUtf8 (element_text t)
  element_utf8 (tree name attributes children text) has = whole_utf8 name attributes children text has.0 has.1 (elements_utf8 children has.2) has.3

  elements_utf8 : (ts : Trees) → HaveUtf8 ts → IsUtf8 (elements_text ts)
  elements_utf8 none have = IsUtf8-nil
  elements_utf8 (more t ts) have = IsUtf8-append (element_text t) (elements_text ts) (element_utf8 t have.0) (elements_utf8 ts have.1)
