use Rattle.std.proofs.Common.{Ok, sym, ap, ◌∙◌}
use Rattle.manifest_tree.specs.Tree.{tree_of}
use Rattle.manifests.proofs.Chains.{handed_on}
use Rattle.manifests.proofs.ListingLemmas.{some_read, type_refused, installed_lists, other_lists_none}
use Rattle.manifests.proofs.listing.of_dependency.Goals as goal

pub returns-in_err-wanted : goal.returns-in_err-wanted
returns-in_err-wanted c =
    handed_on _ _ _ _ c.from_residual.ensures
    (type_refused (tree_of c.args.dependency.now) (tree_of c.in-Some.assembly.now) c.in-Some.ensures _ c.in_err-wanted.ensures)

pub returns-then-wanted : goal.returns-then-wanted
returns-then-wanted c =
    installed_lists (tree_of c.args.dependency.now) (tree_of c.in-Some.assembly.now) c.in-Some.ensures (c.in_ok-wanted.ensures ∙ ap Ok c.if-wanted.true)
    ∙ ap some_read (sym c.of_assembly.ensures)

pub returns : goal.returns
returns c = other_lists_none (tree_of c.args.dependency.now) (tree_of c.in-Some.assembly.now) c.in-Some.ensures (c.in_ok-wanted.ensures ∙ ap Ok c.if-wanted.false)
