use Rattle.std.proofs.Common.{List, subst, arith}
use Rattle.std.specs.Prelude.{All}
use Rattle.std.proofs.lemmas.List.{take_all}
use Rattle.std.proofs.lemmas.List.Elements.{All-more}
use Rattle.manifests.specs.declared.facts.FileEntry.{FileEntry}
use Rattle.manifest_writer.specs.Held.{IsHeldFile}
use Rattle.manifest_writer.proofs.held.files_held.Goals as goal

pub loop-entry-preserved : goal.loop-entry-preserved
loop-entry-preserved c =
    All-more IsHeldFile c.args.files.now c.loop-entry.entry-index c.entry-item.result (omega arith) c.loop-entry.invariant
    (subst IsHeldFile c.entry-item.is c.file_held.ensures)

pub returns : goal.returns
returns c =
    subst (λ (files : List FileEntry). All IsHeldFile files) (take_all c.loop-entry.entry-index c.args.files.now (omega arith)) c.loop-entry.invariant
