use Rattle.std.proofs.Common.{Option, ap, ◌∙◌}
use Rattle.manifest_tree.specs.Tree.{tree_of}
use Rattle.manifest_parts.proofs.Readings.{ok_at, gives_same}
use Rattle.manifests.specs.declared.listing.Listing as reader
use Rattle.manifests.specs.Listings.{listed, maybe_listing}
use Rattle.manifests.proofs.Chains.{handed_on}
use Rattle.manifests.proofs.FileSteps.{lists, lists_none, lists_badly}
use Rattle.manifests.proofs.application.with_child.Goals as goal

pub returns-in_err-found : goal.returns-in_err-found
returns-in_err-found c =
    handed_on _ _ _ _ c.from_residual.ensures (lists_badly c.args.files (tree_of c.args.child.now) _ c.in_err-found.ensures)

pub returns-in-Some : goal.returns-in-Some
returns-in-Some c =
    gives_same _ _ _ _
    (lists c.args.files (tree_of c.args.child.now) (listed c.in-Some.listing)
    (c.in_ok-found.ensures ∙ ap (λ (found : Option reader.Listing). ok_at (maybe_listing found)) c.in-Some.is))
    c.with_listed.ensures

pub returns-in-None : goal.returns-in-None
returns-in-None c =
    lists_none c.args.files (tree_of c.args.child.now)
    (c.in_ok-found.ensures ∙ ap (λ (found : Option reader.Listing). ok_at (maybe_listing found)) c.in-None.is)
