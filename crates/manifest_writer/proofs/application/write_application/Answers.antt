use Rattle.std.proofs.Common.{ap, ◌∙◌, List, subst}
use Rattle.std.specs.Prelude.{All}
use Rattle.manifest_tree.specs.WrittenText.{is_element}
use Rattle.manifests.specs.declared.facts.FileEntry.{FileEntry}
use Rattle.manifest_writer.specs.Held.{IsHeldFile}
use Rattle.manifests.specs.Applications.{application_of}
use Rattle.manifest_tree.specs.Tree.{tree_of}
use Rattle.manifest_writer.proofs.ReadApplications.{application_read}
use Rattle.manifest_writer.proofs.Told.{told}
use Rattle.manifest_writer.proofs.Writable.{application_writable}
use Rattle.manifest_writer.proofs.application.write_application.Goals as goal

pub write_tree-requires : goal.write_tree-requires
write_tree-requires c =
    ap (is_element 1) c.in_ok-node.ensures
    ∙ application_writable c.args.a.now c.requires c.version_held.ensures (subst (λ (files : List FileEntry). All IsHeldFile files) c.as_slice.ensures c.files_held.ensures)

pub returns-clause-facts : goal.returns-clause-facts
returns-clause-facts c =
    told application_of c.write_tree.result (tree_of c.in_ok-node.node) c.args.a.now c.write_tree.ensures.read_back
    (ap application_of c.in_ok-node.ensures
    ∙ application_read c.args.a.now c.requires c.version_held.ensures (subst (λ (files : List FileEntry). All IsHeldFile files) c.as_slice.ensures c.files_held.ensures))
