use Rattle.std.proofs.Common.{◌∙◌}
use Rattle.install_plan.proofs.BesideBase.{base_refused, has_some, joined_places, joined_refused}
use Rattle.install_plan.proofs.wanted.wanted_files.Goals as goal

pub returns-in-Err-clause-refused : goal.returns-in-Err-clause-refused
returns-in-Err-clause-refused c =
    base_refused c.in-Err.fault c.url_reply.result c.args.base.now c.args.mapped c.args.files.now c.args.places.now
    c.url_reply.ensures.value c.in-Err.ensures.exact c.in-Err.ensures.http
    (has_some c.args.places.now c.is_empty.result c.is_empty.ensures c.if-is_empty.false)

pub returns-in-Ok-joined_files-clause-targets : goal.returns-in-Ok-joined_files-clause-targets
returns-in-Ok-joined_files-clause-targets c =
    joined_places c.args.base.now c.in-Ok.read c.args.mapped c.in-Ok.ensures.exact c.args.files.now c.args.places.now
    ∙ c.in-Ok-joined_files.ensures.targets

pub returns-clause-refused : goal.returns-clause-refused
returns-clause-refused c =
    joined_refused c.args.base.now c.in-Ok.read c.args.mapped c.in-Ok.ensures.exact c.args.files.now c.args.places.now
    c.in-Err-joined_files.reply c.in-Err-joined_files.ensures.refused
