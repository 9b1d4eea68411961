-- The files of a manifest, read child by child.
use Rattle.std.proofs.Common.{◌≡◌, ℕ, ◌+◌, ◌<◌, ◌≤◌, List, [], ◌∷◌, ◌++◌, length, drop, get_or, map, Option, Some, None, Ok, Err, sym, ap, subst, ◌∙◌}
use Rattle.std.specs.Result.{IfOk, IfErr}
use Rattle.std.proofs.lemmas.List.{at_drop_more}
use Rattle.std.proofs.Math.ListN.{drop_of_length-le}
use Rattle.manifest_tree.specs.declared.node.Node.{Node}
use Rattle.manifest_tree.specs.Tree.{Tree, tree_of}
use Rattle.manifest_parts.specs.declared.fault.ManifestFault.{ManifestFault}
use Rattle.manifest_parts.specs.declared.fault.ManifestFault.TheVariants.{Memory}
use Rattle.manifest_parts.specs.Elements.{Read}
use Rattle.small_types.specs.Outcome.{◌>>=◌}
use Rattle.manifest_parts.specs.Outcome.{Fails, Gives}
use Rattle.manifest_parts.proofs.Readings.{ok_at, fails_then, fails_same}
use Rattle.manifests.specs.declared.facts.FileEntry.{FileEntry}
use Rattle.manifests.specs.Applications.{Listing, listing_of, file_of, with_file, child_file, files_from}

-- ---- one child

pub lists_none : (before : List FileEntry) (t : Tree) → listing_of t ≡ Ok None → child_file before t ≡ Ok before
unfolding child_file
lists_none before t is = ap (λ (r : Read (Option Listing)). r >>= with_file before) is

pub lists_badly : (before : List FileEntry) (t : Tree) (e : ManifestFault) → Fails e (listing_of t) → Fails e (child_file before t)
unfolding child_file
lists_badly before t e h = fails_then e (listing_of t) (with_file before) h

module _ (before : List FileEntry) (t : Tree) (l : Listing) (is : listing_of t ≡ Ok (Some l)) where
  pub lists : child_file before t ≡ with_file before (Some l)
  unfolding child_file
  lists = ap (λ (r : Read (Option Listing)). r >>= with_file before) is

-- one more file, unless memory ran out
pub added_gives : (r : Read (List FileEntry)) (before : List FileEntry) (l : Listing) (e : FileEntry) → file_of before l ≡ Ok e
    → IfOk r (λ files. files ≡ before ++ e ∷ []) → IfErr r (λ fault. fault ≡ Memory) → Gives (λ (files : List FileEntry). files) r (with_file before (Some l))
added_gives (Ok files) before l e is added memory =
    ap (λ (read : Read FileEntry). read >>= λ entry. ok_at (before ++ entry ∷ [])) is ∙ ap (λ (fs : List FileEntry). ok_at fs) (sym added)
added_gives (Err fault) before l e is added memory = subst (λ (f : ManifestFault). Fails f (with_file before (Some l))) (sym memory) tt

-- ---- all children

module _ (files : List FileEntry) (ns : List Node) (i : ℕ) (n : Node) (lt : i < length ns) (is : n ≡ get_or ns i n) where
  abbrev others : List FileEntry → Read (List FileEntry)
  others after = files_from after (map tree_of (drop (i + 1) ns))

  here : files_from files (map tree_of (drop i ns)) ≡ (child_file files (tree_of n) >>= others)
  here =
      at_drop_more (λ (ms : List Node). files_from files (map tree_of ms)) ns i n lt
      ∙ ap (λ (m : Node). files_from files (map tree_of (m ∷ drop (i + 1) ns))) (sym is)

  pub read_more : (after : List FileEntry) → child_file files (tree_of n) ≡ Ok after
      → files_from files (map tree_of (drop i ns)) ≡ files_from after (map tree_of (drop (i + 1) ns))
  read_more after h = here ∙ ap (λ (r : Read (List FileEntry)). r >>= others) h

  pub refused_here : (e : ManifestFault) → Fails e (child_file files (tree_of n)) → Fails e (files_from files (map tree_of (drop i ns)))
  refused_here e h = fails_same e (child_file files (tree_of n) >>= others) _ here (fails_then e (child_file files (tree_of n)) others h)

pub read_all : (files : List FileEntry) (ns : List Node) (i : ℕ) → length ns ≤ i → files_from files (map tree_of (drop i ns)) ≡ Ok files
read_all files ns i le = ap (λ (ms : List Node). files_from files (map tree_of ms)) (drop_of_length-le ns le)
