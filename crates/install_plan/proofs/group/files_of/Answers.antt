use Rattle.install_plan.proofs.UngroupedFiles.{no_files}
use Rattle.install_plan.proofs.group.files_of.Goals as goal

pub returns-in-Err-clause-refused : goal.returns-in-Err-clause-refused
returns-in-Err-clause-refused c =
    no_files c.args.group.now c.args.view.now.application c.in-Err.fault c.group_reply.result
    c.group_reply.ensures c.in-Err.ensures.refused
