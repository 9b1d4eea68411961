use Rattle.std.proofs.Common.{Bor}
use Rattle.manifests.specs.declared.facts.FileEntry.{FileEntry}
use Rattle.table_files.proofs.ContentSearch.{needed_moved}
use Rattle.table_files.proofs.needed_contents.needing_files.Goals as goal

pub returns-clause-needed : goal.returns-clause-needed
returns-clause-needed c = λ content.
    needed_moved (λ (file : Bor FileEntry). file.now) content c.in_ok-files.files.items
    c.sort_files.new.files.items _ c.sort_files.ensures.same c.in_ok-files.ensures
