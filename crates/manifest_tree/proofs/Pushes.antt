-- What is written, or counted, item by item.
use Rattle.std.proofs.Common.{◌≡◌, ℕ, suc, ◌+◌, ◌-◌, ◌<◌, ◌≤◌, Bool, true, false, cond, Result, Ok, Err, List, [], ◌∷◌, ◌++◌, length, get_or, drop, refl, sym, ap, subst, ◌∙◌, append_assoc, arith, inl, inr, length-append}
use Rattle.std.specs.Prelude.{◌^◌, map, ◌==◌, nat_lt, OnOk, codes}
use Rattle.std.specs.List.{flat_map}
use Rattle.std.specs.Str.{IsUtf8}
use Rattle.std.proofs.Math.Nat.{min-eq_left, min-eq_right, min-le_left, min-le_right}
use Rattle.std.proofs.lemmas.Bool.{cases_Bool, ltb-false, ltb-true, ne_eqb, true≢false}
use Rattle.std.proofs.lemmas.Str.{IsUtf8-append, IsUtf8-nil}
use Rattle.std.proofs.lemmas.List.{append-nil, at_drop_more, at_drop_all}
use Rattle.manifest_tree.specs.declared.node.Node.{Node}
use Rattle.manifest_tree.specs.declared.node.Node.TheViews.{out-Node}
use Rattle.manifest_tree.specs.declared.node.Node.TheFolds.{fold_out-Node}
use Rattle.manifest_tree.specs.Tree.{Tree, tree, trees, tree_of, tree_step}
use Rattle.manifest_tree.specs.WrittenText.{element_text, elements_text, is_bare, escaped, start_text, end_text, counted}

-- ---- counts

abbrev pub greatest : ℕ
greatest = 2 ^ 64 - 1

pub counted_fits : (n : ℕ) → counted n ≤ greatest
counted_fits n = min-le_right n greatest

pub counted_small : (n : ℕ) → n ≤ greatest → counted n ≡ n
counted_small n small = min-eq_left small

pub counted_large : (n : ℕ) → greatest ≤ n → counted n ≡ greatest
counted_large n large = min-eq_right large

-- a count goes on from where it has come
counted_sum : (a b : ℕ) → counted (counted a + b) ≡ counted (a + b)
counted_sum a b =
    elim (cases_Bool (nat_lt greatest a)) [
      | inl p ↦
          let large : greatest < a = ltb-true greatest a p in
          ap (λ (n : ℕ). counted (n + b)) (counted_large a (omega arith))
          ∙ counted_large (greatest + b) (omega arith) ∙ sym (counted_large (a + b) (omega arith))
      | inr p ↦ ap (λ (n : ℕ). counted (n + b)) (counted_small a (ltb-false greatest a p))
    ]

pub counted_then : (a b x y : ℕ) → x ≡ counted a → y ≡ counted (x + b) → y ≡ counted (a + b)
counted_then a b x y so_far next = next ∙ ap (λ (n : ℕ). counted (n + b)) so_far ∙ counted_sum a b

-- what is counted is within a limit where the number is
pub counted_within : (n limit : ℕ) → limit < greatest → counted n ≤ limit → n ≤ limit
counted_within n limit low within =
    elim (cases_Bool (nat_lt greatest n)) [
      | inl p ↦
          let large : greatest < n = ltb-true greatest n p in
          let all : counted n ≡ greatest = counted_large n (omega arith) in
          absurd (omega arith)
      | inr p ↦ let all : counted n ≡ n = counted_small n (ltb-false greatest n p) in omega arith
    ]

pub counted_least : (n : ℕ) → counted n ≤ n
counted_least n = min-le_left n greatest

-- ---- item by item

module _ {X : Type 0} (f : X → List ℕ) (xs : List X) where
  -- the items that are left, the first of them apart
  pub items_left : (i : ℕ) (d : X) → i < length xs → flat_map f (drop i xs) ≡ f (get_or xs i d) ++ flat_map f (drop (i + 1) xs)
  items_left i d inside = at_drop_more (flat_map f) xs i d inside

  pub push_item : (i : ℕ) (d : X) (out new whole : List ℕ) → i < length xs → new ≡ out ++ f (get_or xs i d) → out ++ flat_map f (drop i xs) ≡ whole → new ++ flat_map f (drop (i + 1) xs) ≡ whole
  push_item i d out new whole inside is so_far =
      ap (λ (l : List ℕ). l ++ flat_map f (drop (i + 1) xs)) is ∙ append_assoc out (f (get_or xs i d)) (flat_map f (drop (i + 1) xs))
      ∙ ap (λ (l : List ℕ). out ++ l) (sym (items_left i d inside)) ∙ so_far

  pub push_end : (i : ℕ) (out whole : List ℕ) → length xs ≤ i → out ++ flat_map f (drop i xs) ≡ whole → out ≡ whole
  push_end i out whole outside so_far =
      sym (append-nil out) ∙ ap (λ (l : List ℕ). out ++ l) (sym (at_drop_all (flat_map f) xs i outside)) ∙ so_far

  left_length : (i : ℕ) (d : X) → i < length xs → length (flat_map f (drop i xs)) ≡ length (f (get_or xs i d)) + length (flat_map f (drop (i + 1) xs))
  left_length i d inside = ap length (items_left i d inside) ∙ length-append (f (get_or xs i d)) (flat_map f (drop (i + 1) xs))

  pub count_item : (i : ℕ) (d : X) (count new whole : ℕ) → i < length xs → new ≡ counted (count + length (f (get_or xs i d)))
      → counted (count + length (flat_map f (drop i xs))) ≡ whole → counted (new + length (flat_map f (drop (i + 1) xs))) ≡ whole
  count_item i d count new whole inside is so_far =
      let here = length (f (get_or xs i d)) in
      let rest = length (flat_map f (drop (i + 1) xs)) in
      let sum : count + here + rest ≡ count + length (flat_map f (drop i xs)) = omega (arith, left_length i d inside) in
      counted_then (count + here) rest new (counted (new + rest)) is refl ∙ ap counted sum ∙ so_far

  pub count_end : (i count whole : ℕ) → length xs ≤ i → count ≤ greatest → counted (count + length (flat_map f (drop i xs))) ≡ whole → count ≡ whole
  count_end i count whole outside small so_far =
      let all : count ≡ count + length (flat_map f (drop i xs)) = omega (arith, ap length (at_drop_all (flat_map f) xs i outside)) in
      sym (counted_small count small) ∙ ap counted all ∙ so_far

  -- the items that are left being UTF-8, so is the whole
  pub utf8_item : (i : ℕ) (d : X) (whole : List ℕ) → i < length xs → IsUtf8 (f (get_or xs i d)) → (IsUtf8 (flat_map f (drop i xs)) → IsUtf8 whole) → IsUtf8 (flat_map f (drop (i + 1) xs)) → IsUtf8 whole
  utf8_item i d whole inside u so_far v = so_far (subst IsUtf8 (sym (items_left i d inside)) (IsUtf8-append (f (get_or xs i d)) (flat_map f (drop (i + 1) xs)) u v))

  pub utf8_end : (i : ℕ) (whole : List ℕ) → length xs ≤ i → (IsUtf8 (flat_map f (drop i xs)) → IsUtf8 whole) → IsUtf8 whole
  utf8_end i whole outside so_far = so_far (subst IsUtf8 (sym (at_drop_all (flat_map f) xs i outside)) IsUtf8-nil)

pub with_children : (nodes : List Node) (text : List ℕ) → (length nodes == 0) ≡ false → is_bare (trees (map tree_of nodes)) text ≡ false
with_children [] text is = absurd cc
with_children (node ∷ nodes) text is = refl

pub without_children : (nodes : List Node) (text : List ℕ) → (length nodes == 0) ≡ true → is_bare (trees (map tree_of nodes)) text ≡ (length text == 0)
without_children [] [] is = refl
without_children [] (c ∷ text) is = sym (ne_eqb (suc (length text)) 0 (omega arith))
without_children (node ∷ nodes) text is = absurd (true≢false (sym is ∙ ne_eqb (suc (length nodes)) 0 (omega arith)))

pub on_ok : {T E : Type 0} (r : Result T E) (P : Type 0) → P → OnOk r P
on_ok (Ok x) P p = p
on_ok (Err e) P p = tt

-- the children's texts, node by node
abbrev pub node_text : Node → List ℕ
node_text node = element_text (tree_of node)

pub children_text : (nodes : List Node) → elements_text (trees (map tree_of nodes)) ≡ flat_map node_text nodes
children_text [] = refl
children_text (node ∷ nodes) = ap (λ (l : List ℕ). element_text (tree_of node) ++ l) (children_text nodes)

-- ---- one node

-- what a node is, by its fields
pub tree_opened : (node : Node) → let n = out-Node node in tree_of node ≡ tree n.name n.attributes (trees (map tree_of n.children.items)) n.text
tree_opened node = fold_out-Node Tree tree_step node

module _ (node : Node) (kids : List Node) (kids_are : kids ≡ (out-Node node).children.items) where
  text_opened : let n = out-Node node in
      node_text node ≡ start_text n.name n.attributes ++ cond (is_bare (trees (map tree_of kids)) n.text) (codes "/>") ((62 ∷ escaped n.text) ++ (flat_map node_text kids ++ end_text n.name))
  text_opened =
      let n = out-Node node in
      ap element_text (tree_opened node)
      ∙ ap (λ (ks : List Node). start_text n.name n.attributes ++ cond (is_bare (trees (map tree_of ks)) n.text) (codes "/>") ((62 ∷ escaped n.text) ++ (elements_text (trees (map tree_of ks)) ++ end_text n.name))) (sym kids_are)
      ∙ ap (λ (l : List ℕ). start_text n.name n.attributes ++ cond (is_bare (trees (map tree_of kids)) n.text) (codes "/>") ((62 ∷ escaped n.text) ++ (l ++ end_text n.name))) (children_text kids)

  pub node_bare : let n = out-Node node in is_bare (trees (map tree_of kids)) n.text ≡ true → node_text node ≡ start_text n.name n.attributes ++ codes "/>"
  node_bare is =
      let n = out-Node node in
      text_opened ∙ ap (λ (b : Bool). start_text n.name n.attributes ++ cond b (codes "/>") ((62 ∷ escaped n.text) ++ (flat_map node_text kids ++ end_text n.name))) is

  pub node_full : let n = out-Node node in is_bare (trees (map tree_of kids)) n.text ≡ false
      → node_text node ≡ start_text n.name n.attributes ++ ((62 ∷ escaped n.text) ++ (flat_map node_text kids ++ end_text n.name))
  node_full is =
      let n = out-Node node in
      text_opened ∙ ap (λ (b : Bool). start_text n.name n.attributes ++ cond b (codes "/>") ((62 ∷ escaped n.text) ++ (flat_map node_text kids ++ end_text n.name))) is

-- ---- what was pushed piece by piece

pub pushed_two : (o a p b q : List ℕ) → p ≡ o ++ a → q ≡ p ++ b → q ≡ o ++ (a ++ b)
pushed_two o a p b q is_p is_q = is_q ∙ ap (λ (l : List ℕ). l ++ b) is_p ∙ append_assoc o a b

pub pushed_four : (o a p b q c r d s : List ℕ) → p ≡ o ++ a → q ≡ p ++ b → r ≡ q ++ c → s ≡ r ++ d → s ≡ o ++ (a ++ (b ++ (c ++ d)))
pushed_four o a p b q c r d s is_p is_q is_r is_s =
    pushed_two o a p (b ++ (c ++ d)) s is_p (pushed_two p b q (c ++ d) s is_q (pushed_two q c r d s is_r is_s))

pub length_two : (a b : List ℕ) → length (a ++ b) ≡ length a + length b
length_two a b = length-append a b

pub length_four : (a b c d : List ℕ) → length (a ++ (b ++ (c ++ d))) ≡ length a + (length b + (length c + length d))
length_four a b c d = simp length-append refl

pub utf8_four : (a b c d : List ℕ) → IsUtf8 a → IsUtf8 b → IsUtf8 c → IsUtf8 d → IsUtf8 (a ++ (b ++ (c ++ d)))
utf8_four a b c d p q r s = IsUtf8-append a (b ++ (c ++ d)) p (IsUtf8-append b (c ++ d) q (IsUtf8-append c d r s))
