use Rattle.publish_plan.specs.Early.{early_of}
use Rattle.publisher.proofs.Promises.{fit_told, options_told, unless_none}
use Rattle.publisher.proofs.published.publish.Goals as goal

pub returns-in_err-check_options : goal.returns-in_err-check_options
returns-in_err-check_options g c =
    options_told g.F.Folder c.args.options.now c.args.folder.now c.from_residual.result c.in_err-check_options.field-0.0 c.from_residual.ensures c.in_err-check_options.ensures
    (g.met.F.Folder.names_differ c.args.folder.now)

pub returns : goal.returns
returns g c =
    fit_told g.F.Folder c.args.options.now c.args.folder.now c.publish_fit.new.folder c.publish_fit.result
    (unless_none (early_of c.args.options.now) c.in_ok-check_options.ensures) (g.met.F.Folder.names_differ c.args.folder.now) c.publish_fit.ensures.told c.publish_fit.ensures.answer c.publish_fit.ensures.late c.publish_fit.ensures.readings c.publish_fit.ensures.counted
