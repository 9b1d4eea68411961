-- Lists that are gone through from the front, and the tree that a node is.
use Rattle.std.proofs.Common.{◌≡◌, ℕ, zero, suc, ◌+◌, ◌<◌, ◌≤◌, Bool, true, false, List, [], ◌∷◌, length, drop, get_or, map, Option, Some, None, Result, Ok, Err, refl, sym, ap, subst, ◌∙◌, arith}
use Rattle.std.specs.Prelude.{◌||◌, filter, if◌then◌else◌, option_map, is_some}
use Rattle.std.specs.Borrow.{Bor}
use Rattle.std.specs.List.{find}
use Rattle.std.specs.Str.{bytes_eq}
use Rattle.std.proofs.lemmas.List.{at_drop_more}
use Rattle.std.proofs.Math.ListN.{drop_of_length-le}
use Rattle.manifest_tree.specs.declared.node.Node.{Node, out-Node}
use Rattle.manifest_tree.specs.declared.node.Node.TheFolds.{fold-Node, fold_out-Node}
use Rattle.manifest_tree.specs.Tree.{Tree, Trees, tree, none, more, trees, tree_step, tree_of}
use Rattle.manifest_parts.specs.Elements.{Read, listed, name_of, local, attributes_of, children_of, text_of, called, has_called, any_called, children_called, one_of, once}
use Rattle.manifest_parts.specs.Outcome.{maybe_tree, tree_at}
use Rattle.manifest_parts.specs.declared.fault.ManifestFault.TheVariants.{Twice}

-- ---- the tree that a node is

pub tree_is : (n : Node) → tree_of n ≡ tree (out-Node n).name (out-Node n).attributes (trees (map tree_of (out-Node n).children.items)) (out-Node n).text
tree_is = fold_out-Node Tree tree_step

pub listed_trees : (ts : List Tree) → listed (trees ts) ≡ ts
listed_trees [] = refl
listed_trees (t ∷ ts) = ap (λ (us : List Tree). t ∷ us) (listed_trees ts)

pub name_is : (n : Node) → name_of (tree_of n) ≡ (out-Node n).name
name_is n = ap name_of (tree_is n)

pub attributes_are : (n : Node) → attributes_of (tree_of n) ≡ (out-Node n).attributes
attributes_are n = ap attributes_of (tree_is n)

pub text_is : (n : Node) → text_of (tree_of n) ≡ (out-Node n).text
text_is n = ap text_of (tree_is n)

pub children_are : (n : Node) → children_of (tree_of n) ≡ map tree_of (out-Node n).children.items
children_are n = ap children_of (tree_is n) ∙ listed_trees (map tree_of (out-Node n).children.items)

-- ---- from the front

module _ {X Y : Type 0} (p : Y → Bool) (view : X → Y) (xs : List X) (i : ℕ) (x : X) (lt : i < length xs) (is : x ≡ get_or xs i x) where
  front : {Z : Type 0} (f : List X → Z) → f (drop i xs) ≡ f (x ∷ drop (i + 1) xs)
  front f = at_drop_more f xs i x lt ∙ ap (λ (y : X). f (y ∷ drop (i + 1) xs)) (sym is)

  pub find_skips : p (view x) ≡ false → find p (map view (drop i xs)) ≡ find p (map view (drop (i + 1) xs))
  find_skips not_so = front (λ (ys : List X). find p (map view ys)) ∙ rw not_so refl

  pub find_hits : p (view x) ≡ true → find p (map view (drop i xs)) ≡ Some (view x)
  find_hits so = front (λ (ys : List X). find p (map view ys)) ∙ rw so refl

  pub filter_skips : p (view x) ≡ false → filter p (map view (drop i xs)) ≡ filter p (map view (drop (i + 1) xs))
  filter_skips not_so = front (λ (ys : List X). filter p (map view ys)) ∙ rw not_so refl

  pub filter_hits : p (view x) ≡ true → filter p (map view (drop i xs)) ≡ view x ∷ filter p (map view (drop (i + 1) xs))
  filter_hits so = front (λ (ys : List X). filter p (map view ys)) ∙ rw so refl

module _ {X : Type 0} (p : X → Bool) (xs : List X) (i : ℕ) (x : X) (lt : i < length xs) (is : x ≡ get_or xs i x) where
  pub plain_skips : p x ≡ false → find p (drop i xs) ≡ find p (drop (i + 1) xs)
  plain_skips not_so = at_drop_more (λ (ys : List X). find p ys) xs i x lt ∙ ap (λ (y : X). find p (y ∷ drop (i + 1) xs)) (sym is) ∙ rw not_so refl

  pub plain_hits : p x ≡ true → find p (drop i xs) ≡ Some x
  plain_hits so = at_drop_more (λ (ys : List X). find p ys) xs i x lt ∙ ap (λ (y : X). find p (y ∷ drop (i + 1) xs)) (sym is) ∙ rw so refl

pub any_more : (wanted : List ℕ) (ns : List Node) (i : ℕ) (n : Node) → i < length ns → n ≡ get_or ns i n
    → any_called wanted (trees (map tree_of (drop i ns))) ≡ (has_called wanted (tree_of n) || any_called wanted (trees (map tree_of (drop (i + 1) ns))))
any_more wanted ns i n lt is =
    at_drop_more (λ (ms : List Node). any_called wanted (trees (map tree_of ms))) ns i n lt
    ∙ ap (λ (m : Node). has_called wanted (tree_of m) || any_called wanted (trees (map tree_of (drop (i + 1) ns)))) (sym is)

pub any_hits : (wanted : List ℕ) (ns : List Node) (i : ℕ) (n : Node) → i < length ns → n ≡ get_or ns i n → has_called wanted (tree_of n) ≡ true
    → any_called wanted (trees (map tree_of (drop i ns))) ≡ true
any_hits wanted ns i n lt is so = any_more wanted ns i n lt is ∙ ap (λ (b : Bool). b || any_called wanted (trees (map tree_of (drop (i + 1) ns)))) so

-- the one of these elements and one before them
abbrev pub one_behind : List ℕ → Option Tree → List Tree → Read Tree
one_behind what None ts = one_of what ts
one_behind what (Some t) [] = Ok t
one_behind what (Some t) (u ∷ us) = Err (Twice what)

pub one_behind_first : (what : List ℕ) (t : Tree) (ts : List Tree) → one_behind what None (t ∷ ts) ≡ one_behind what (Some t) ts
one_behind_first what t [] = refl
one_behind_first what t (u ∷ us) = refl

-- ---- the end of a list

pub find_ends : {X Y : Type 0} (p : Y → Bool) (view : X → Y) (xs : List X) (i : ℕ) → length xs ≤ i → find p (map view (drop i xs)) ≡ None
find_ends p view xs i le = rw (drop_of_length-le xs le) refl

pub plain_ends : {X : Type 0} (p : X → Bool) (xs : List X) (i : ℕ) → length xs ≤ i → find p (drop i xs) ≡ None
plain_ends p xs i le = rw (drop_of_length-le xs le) refl

pub filter_ends : {X Y : Type 0} (p : Y → Bool) (view : X → Y) (xs : List X) (i : ℕ) → length xs ≤ i → filter p (map view (drop i xs)) ≡ []
filter_ends p view xs i le = rw (drop_of_length-le xs le) refl

pub any_ends : (wanted : List ℕ) (ns : List Node) (i : ℕ) → length ns ≤ i → any_called wanted (trees (map tree_of (drop i ns))) ≡ false
any_ends wanted ns i le = rw (drop_of_length-le ns le) refl

pub same_texts : (a b c d : List ℕ) → a ≡ c → b ≡ d → bytes_eq a b ≡ bytes_eq c d
same_texts a b c d first second = rw (first, second) refl

-- ---- whether an element stands in the tree

has_is : (wanted : List ℕ) (n : Node) → has_called wanted (tree_of n) ≡ (called wanted (tree_of n) || any_called wanted (trees (map tree_of (out-Node n).children.items)))
unfolding called
has_is wanted n = ap (has_called wanted) (tree_is n) ∙ ap (λ (name : List ℕ). bytes_eq (local name) wanted || any_called wanted (trees (map tree_of (out-Node n).children.items))) (sym (name_is n))

pub has_root : (wanted : List ℕ) (n : Node) → called wanted (tree_of n) ≡ true → true ≡ has_called wanted (tree_of n)
has_root wanted n so = sym (has_is wanted n ∙ rw so refl)

pub has_below : (wanted : List ℕ) (n : Node) (ns : List Node) (b : Bool) → called wanted (tree_of n) ≡ false → ns ≡ (out-Node n).children.items
    → any_called wanted (trees (map tree_of ns)) ≡ b → b ≡ has_called wanted (tree_of n)
has_below wanted n ns b not_so is below =
    sym below ∙ ap (λ (ms : List Node). any_called wanted (trees (map tree_of ms))) is ∙ sym (has_is wanted n ∙ rw not_so refl)

-- ---- the one element

pub once_is : (wanted : List ℕ) (ns : List Node) (n : Node) → map tree_of ns ≡ children_of (tree_of n) → once wanted (tree_of n) ≡ one_of wanted (filter (called wanted) (map tree_of ns))
unfolding once children_called
once_is wanted ns n is = ap (λ (ts : List Tree). one_of wanted (filter (called wanted) ts)) (sym is)

pub second_found : (wanted : List ℕ) (found : Option (Bor Node)) (t : Tree) (ts : List Tree) → is_some found ≡ true → one_behind wanted (maybe_tree found) (t ∷ ts) ≡ Err (Twice wanted)
second_found wanted None t ts so = absurd cc
second_found wanted (Some n) t ts so = refl
