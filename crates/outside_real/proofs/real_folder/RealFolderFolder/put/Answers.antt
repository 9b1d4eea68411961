use Rattle.std.proofs.Common.{◌≡◌, sym, subst}
use Rattle.std.specs.Prelude.{OnErr, OnOk, Result}
use Rattle.folders.specs.Answers.{files_after}
use Rattle.folders.specs.Files.{Puts}
use Rattle.outside_real.proofs.FolderTells.{put_done, put_failed, put_told}
use Rattle.outside_real.proofs.real_folder.RealFolderFolder.put.Goals as goal

pub returns-clause-put : goal.returns-clause-put
returns-clause-put g c = λ files.
    subst (λ (r : Result _ _). OnOk r (Puts (files_after files c.args.self.now.told.answers.noted) (files_after files c.put.new.self.answers.noted) c.args.name.now c.args.bytes.now)) (sym c.counted.ensures.result)
    (put_done c.args.self.now.told.answers.noted c.put.new.self.answers.noted c.args.name.now c.args.bytes.now c.kept-done.result c.put.ensures files)

pub returns-clause-kept : goal.returns-clause-kept
returns-clause-kept g c = λ files.
    subst (λ (r : Result _ _). OnErr r (files_after files c.put.new.self.answers.noted ≡ files_after files c.args.self.now.told.answers.noted)) (sym c.counted.ensures.result)
    (put_failed c.args.self.now.told.answers.noted c.put.new.self.answers.noted c.args.name.now c.args.bytes.now c.kept-done.result c.put.ensures files)

pub returns-clause-told : goal.returns-clause-told
returns-clause-told g c = put_told c.args.self.now.told.answers.noted c.put.new.self.answers.noted c.args.name.now c.args.bytes.now c.kept-done.result c.put.ensures
