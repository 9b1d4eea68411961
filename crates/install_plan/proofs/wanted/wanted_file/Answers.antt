use Rattle.std.proofs.Common.{ap, length, refl}
use Rattle.std.proofs.lemmas.Option.{slice_get_read}
use Rattle.addresses.specs.FileBase.{document_of}
use Rattle.addresses.specs.Join.{file_target_beside}
use Rattle.install_plan.specs.WantedFiles.{joined_at}
use Rattle.install_plan.proofs.Judged.{file_refused}
use Rattle.install_plan.proofs.wanted.wanted_file.Goals as goal

pub returns-in-Err-clause-refused : goal.returns-in-Err-clause-refused
returns-in-Err-clause-refused c =
    let entry = c.index-files-place.result in
    let there = slice_get_read c.args.files.now (length c.args.files.now) c.args.place entry refl c.requires c.index-files-place.is in
    file_refused c.in-Err.fault c.url_reply.result (file_target_beside (document_of c.args.base.now) c.args.mapped entry.name) _ c.url_reply.ensures.value c.in-Err.ensures.exact c.in-Err.ensures.http
    (ap (joined_at c.args.base.now c.args.mapped) there)
