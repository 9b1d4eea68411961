use Rattle.std.proofs.Common.{◌≡◌, sym, subst}
use Rattle.std.specs.Prelude.{IfOk, None, Result, Some, if◌then◌else◌}
use Rattle.folders.specs.Answers.{files_after}
use Rattle.folders.specs.Files.{file_in}
use Rattle.folders.specs.Told.{told_into}
use Rattle.outside_real.proofs.FolderTells.{into_looks, into_true, noted_on}
use Rattle.outside_real.proofs.real_folder.RealFolderFolder.get_into.Goals as goal

pub returns-clause-found : goal.returns-clause-found
returns-clause-found g c = λ files honest.
    let noted = noted_on c.args.self.now.told.answers.noted c.read_at_once-done.new.self.told.answers.noted c.buffer.new.self.answers.noted (told_into c.args.name.now c.read_at_once-done.new.into c.read_at_once-done.result) c.read_at_once-done.ensures.answers c.buffer.ensures in
    subst (λ (r : Result _ _). IfOk r (λ found. file_in c.args.name.now (files_after files c.args.self.now.told.answers.noted) ≡ (if found then Some c.read_at_once-done.new.into else None))) (sym c.counted.ensures.result)
    (into_true c.args.self.now.told.answers.noted c.buffer.new.self.answers.noted c.args.name.now c.read_at_once-done.new.into c.read_at_once-done.result noted files honest)

pub returns-clause-looks : goal.returns-clause-looks
returns-clause-looks g c =
    let noted = noted_on c.args.self.now.told.answers.noted c.read_at_once-done.new.self.told.answers.noted c.buffer.new.self.answers.noted (told_into c.args.name.now c.read_at_once-done.new.into c.read_at_once-done.result) c.read_at_once-done.ensures.answers c.buffer.ensures in
    let looks = into_looks c.args.self.now.told.answers.noted c.buffer.new.self.answers.noted c.args.name.now c.read_at_once-done.new.into c.read_at_once-done.result noted in
    record { same = looks.same; told = looks.told }
