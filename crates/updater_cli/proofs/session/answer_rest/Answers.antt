use Rattle.std.proofs.Common.{arith, ◌≡◌, []}
use Rattle.std.proofs.lemmas.List.{nil_from_length}
use Rattle.updater_cli.specs.Lines.{place_of}
use Rattle.updater_cli.proofs.Pieces.{rest_none}
use Rattle.updater_cli.proofs.session.answer_rest.Goals as goal

pub returns-then-is_empty : goal.returns-then-is_empty
returns-then-is_empty g c =
    let none : c.args.pending.now ≡ [] = nil_from_length c.args.pending.now (grind (arith, c.if-is_empty.true, c.is_empty.ensures)) in
    rest_none g.K.Sink g.D.Disk g.L.Links (place_of c.args.sink.now c.args.disk.now c.args.links.now c.args.course.now) c.args.pending.now none c.requires
