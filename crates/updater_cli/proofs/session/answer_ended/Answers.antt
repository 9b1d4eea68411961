use Rattle.std.proofs.Common.{◌∙◌, ap}
use Rattle.std.specs.Str.Lines.{strip_carriage_return}
use Rattle.updater_cli.proofs.Pieces.{line_answered, line_refused, line_stopped}
use Rattle.updater_cli.proofs.session.answer_ended.Goals as goal

pub keep-requires : goal.keep-requires
keep-requires g c = c.requires.pending.within

pub returns-in-Err : goal.returns-in-Err
returns-in-Err g c =
    line_refused g.K.Sink g.D.Disk g.L.Links c.args.pending.now.items c.args.part.now c.requires.pending c.requires.part _ c.keep.new.pending.items c.requires.ready (g.met.D.Disk.seen_left c.args.disk.now)

pub returns-in-Err-answer_line : goal.returns-in-Err-answer_line
returns-in-Err-answer_line g c =
    line_stopped g.K.Sink g.D.Disk g.L.Links c.args.pending.now.items c.args.part.now c.requires.pending c.requires.part _ _ c.in-Err-answer_line.status c.keep.new.pending.items c.strip_carriage_return-line.result.now c.keep.new.pending.items
    c.in-Ok.ensures.kept (c.strip_carriage_return-line.ensures ∙ ap strip_carriage_return c.as_slice.ensures.value) c.in-Err-answer_line.ensures

pub returns : goal.returns
returns g c =
    line_answered g.K.Sink g.D.Disk g.L.Links c.args.pending.now.items c.args.part.now c.requires.pending c.requires.part _ _ c.keep.new.pending.items c.strip_carriage_return-line.result.now c.clear.new.self.items
    c.in-Ok.ensures.kept (c.strip_carriage_return-line.ensures ∙ ap strip_carriage_return c.as_slice.ensures.value) c.clear.ensures.items c.in_default.ensures
