use Rattle.std.proofs.Common.{◌≡◌, sym, subst}
use Rattle.std.specs.Prelude.{IfOk, Result}
use Rattle.folders.specs.Answers.{files_after}
use Rattle.folders.specs.Files.{file_in}
use Rattle.folders.specs.Told.{told_file}
use Rattle.outside_real.proofs.FolderTells.{file_looks, file_true, noted_on}
use Rattle.outside_real.proofs.real_folder.RealFolderFolder.get.Goals as goal

pub returns-clause-found : goal.returns-clause-found
returns-clause-found g c = λ files honest.
    let noted = noted_on c.args.self.now.told.answers.noted c.read_new-done.new.self.told.answers.noted c.file.new.self.answers.noted (told_file c.args.name.now c.read_new-done.result) c.read_new-done.ensures.answers c.file.ensures in
    subst (λ (r : Result _ _). IfOk r (λ bytes. bytes ≡ file_in c.args.name.now (files_after files c.args.self.now.told.answers.noted))) (sym c.counted.ensures.result)
    (file_true c.args.self.now.told.answers.noted c.file.new.self.answers.noted c.args.name.now c.read_new-done.result noted files honest)

pub returns-clause-looks : goal.returns-clause-looks
returns-clause-looks g c =
    let noted = noted_on c.args.self.now.told.answers.noted c.read_new-done.new.self.told.answers.noted c.file.new.self.answers.noted (told_file c.args.name.now c.read_new-done.result) c.read_new-done.ensures.answers c.file.ensures in
    let looks = file_looks c.args.self.now.told.answers.noted c.file.new.self.answers.noted c.args.name.now c.read_new-done.result noted in
    record { same = looks.same; told = looks.told }
