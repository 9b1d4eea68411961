use Rattle.std.proofs.Common.{sym, subst}
use Rattle.std.specs.Prelude.{IfOk, Result}
use Rattle.folders.specs.Answers.{files_after}
use Rattle.folders.specs.Files.{file_in}
use Rattle.folders.specs.Found.{Finds}
use Rattle.folders.specs.Told.{told_within}
use Rattle.outside_real.proofs.FolderTells.{noted_on, within_looks, within_true}
use Rattle.outside_real.proofs.real_folder.RealFolderFolder.get_within.Goals as goal

pub returns-clause-found : goal.returns-clause-found
returns-clause-found g c = λ files honest.
    let noted = noted_on c.args.self.now.told.answers.noted c.read-done.new.self.told.answers.noted c.within.new.self.answers.noted (told_within c.args.name.now c.read-done.new.into c.read-done.result) c.read-done.ensures.answers c.within.ensures in
    subst (λ (r : Result _ _). IfOk r (Finds (file_in c.args.name.now (files_after files c.args.self.now.told.answers.noted)) c.read-done.new.into)) (sym c.counted.ensures.result)
    (within_true c.args.self.now.told.answers.noted c.within.new.self.answers.noted c.args.name.now c.read-done.new.into c.read-done.result noted files honest)

pub returns-clause-looks : goal.returns-clause-looks
returns-clause-looks g c =
    let noted = noted_on c.args.self.now.told.answers.noted c.read-done.new.self.told.answers.noted c.within.new.self.answers.noted (told_within c.args.name.now c.read-done.new.into c.read-done.result) c.read-done.ensures.answers c.within.ensures in
    let looks = within_looks c.args.self.now.told.answers.noted c.within.new.self.answers.noted c.args.name.now c.read-done.new.into c.read-done.result noted in
    record { same = looks.same; told = looks.told }
