-- The text of a tree is no longer than a sum over what stands in it.
use Rattle.std.proofs.Common.{◌+◌, ◌*◌, ◌≤◌, ℕ, cond, List, [], ◌∷◌, ◌++◌, length, Option, arith, length-append}
use Rattle.std.specs.Prelude.{codes, unwrap_or, ◌==◌}
use Rattle.std.proofs.lemmas.Bool.{cond_both}
use Rattle.manifest_tree.specs.declared.node.Attribute.{Attribute}
use Rattle.manifest_tree.specs.Tree.{Tree, Trees, tree, none, more}
use Rattle.manifest_tree.specs.WrittenText.{attribute_text, attributes_text, element_text, elements_text, end_text, escape, escaped, is_bare, reference_for, start_text}

-- ---- the sum

abbrev pub attributes_size : List Attribute → ℕ
attributes_size [] = 0
attributes_size (a ∷ others) = 4 + length a.name + 6 * length a.value + attributes_size others

abbrev mutual
  pub size : Tree → ℕ
  size (tree name attributes children text) =
      5 + 2 * length name + attributes_size attributes + 6 * length text + sizes children

  pub sizes : Trees → ℕ
  sizes none = 0
  sizes (more t ts) = size t + sizes ts

-- ---- values and texts

abbrev IsFew : ℕ → Option (List ℕ) → Type 0
IsFew c found = length (unwrap_or found (c ∷ [])) ≤ 6

escape_long : (c : ℕ) → length (escape c) ≤ 6
unfolding reference_for
escape_long c =
    cond_both (c == 38) _ _ (IsFew c) (λ is. omega arith)
    (λ is. cond_both (c == 60) _ _ (IsFew c) (λ is. omega arith)
    (λ is. cond_both (c == 62) _ _ (IsFew c) (λ is. omega arith)
    (λ is. cond_both (c == 34) _ _ (IsFew c) (λ is. omega arith)
    (λ is. cond_both (c == 9) _ _ (IsFew c) (λ is. omega arith)
    (λ is. cond_both (c == 10) _ _ (IsFew c) (λ is. omega arith)
    (λ is. cond_both (c == 13) _ _ (IsFew c) (λ is. omega arith) (λ is. omega arith)))))))

escaped_long : (text : List ℕ) → length (escaped text) ≤ 6 * length text
escaped_long [] = omega arith
escaped_long (c ∷ cs) =
    let first = escape_long c in
    let others = escaped_long cs in
    omega (arith, first, others, length-append (escape c) (escaped cs))

-- ---- elements

attribute_long : (a : Attribute) → length (attribute_text a) ≤ 4 + length a.name + 6 * length a.value
attribute_long a =
    let value = escaped_long a.value in
    omega (
      arith,
      value,
      length-append a.name (codes "=\"" ++ (escaped a.value ++ codes "\"")),
      length-append (codes "=\"") (escaped a.value ++ codes "\""),
      length-append (escaped a.value) (codes "\""),
    )

attributes_long : (attributes : List Attribute) → length (attributes_text attributes) ≤ attributes_size attributes
attributes_long [] = omega arith
attributes_long (a ∷ others) =
    let first = attribute_long a in
    let more_of = attributes_long others in
    omega (arith, first, more_of, length-append (attribute_text a) (attributes_text others))

body_long : (name : List ℕ) (children : Trees) (text : List ℕ) (inner : ℕ) → length (elements_text children) ≤ inner
    → length (cond (is_bare children text) (codes "/>") ((62 ∷ escaped text) ++ (elements_text children ++ end_text name))) ≤ 4 + length name + 6 * length text + inner
body_long name children text inner few =
    cond_both (is_bare children text) (codes "/>") ((62 ∷ escaped text) ++ (elements_text children ++ end_text name)) (λ (out : List ℕ). length out ≤ 4 + length name + 6 * length text + inner)
    (λ bare. omega arith)
    (λ full. (let said = escaped_long text in
    omega (
      arith,
      few,
      said,
      length-append (62 ∷ escaped text) (elements_text children ++ end_text name),
      length-append (elements_text children) (end_text name),
      length-append (codes "</") (name ++ codes ">"),
      length-append name (codes ">"),
    )))

whole_long : (name : List ℕ) (attributes : List Attribute) (children : Trees) (text : List ℕ) (inner : ℕ) → length (elements_text children) ≤ inner
    → length (element_text (tree name attributes children text)) ≤ 5 + 2 * length name + attributes_size attributes + 6 * length text + inner
whole_long name attributes children text inner few =
    let body = body_long name children text inner few in
    let front = attributes_long attributes in
    omega (
      arith,
      body,
      front,
      length-append (start_text name attributes) (cond (is_bare children text) (codes "/>") ((62 ∷ escaped text) ++ (elements_text children ++ end_text name))),
      length-append name (attributes_text attributes),
    )

mutual
  pub element_long : (t : Tree) → length (element_text t) ≤ size t
  element_long (tree name attributes children text) = whole_long name attributes children text (sizes children) (elements_long children)

  elements_long : (ts : Trees) → length (elements_text ts) ≤ sizes ts
  elements_long none = omega arith
  elements_long (more t ts) =
      let first = element_long t in
      let others = elements_long ts in
      omega (arith, first, others, length-append (element_text t) (elements_text ts))
