use Rattle.std.proofs.Common.{sym, subst}
use Rattle.std.specs.Prelude.{IfOk, Result}
use Rattle.folders.specs.Answers.{files_after}
use Rattle.folders.specs.Files.{IsNames}
use Rattle.outside_real.proofs.FolderTells.{list_looks, list_true}
use Rattle.outside_real.proofs.real_folder.RealFolderFolder.list.Goals as goal

pub returns-clause-names : goal.returns-clause-names
returns-clause-names g c = λ files honest.
    subst (λ (r : Result _ _). IfOk r (IsNames (files_after files c.args.self.now.told.answers.noted))) (sym c.counted.ensures.result)
    (list_true c.args.self.now.told.answers.noted c.list.new.self.answers.noted c.kept-done.result c.list.ensures files honest)

pub returns-clause-looks : goal.returns-clause-looks
returns-clause-looks g c =
    let looks = list_looks c.args.self.now.told.answers.noted c.list.new.self.answers.noted c.kept-done.result c.list.ensures in
    record { same = looks.same; told = looks.told }
