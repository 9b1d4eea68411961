use Rattle.std.proofs.Common.{arith, ◌<◌, ◌≤◌, ◌∙◌, ◌-◌, length, take, Ok, refl, sym, ap, subst, length-take}
use Rattle.updater_cli.specs.Lines.{IsPending, place_of}
use Rattle.updater_cli.proofs.DeviceCalls.{keeps_none, keeps_then}
use Rattle.updater_cli.proofs.Inputs.{source_failed, too_much_given, rest_answered, piece_stopped, piece_read}
use Rattle.updater_cli.proofs.InputReads.{read_none}
use Rattle.updater_cli.proofs.Traces.{pending_none}
use Rattle.updater_cli.proofs.session.answer_all.Goals as goal

pub loop-room-init : goal.loop-room-init
loop-room-init g c = record {
  keeps = keeps_none g.K.Sink g.D.Disk g.L.Links (place_of c.args.sink.now c.args.disk.now c.args.links.now c.args.course.now) c.requires;
  pending = subst IsPending (sym c.new-pending.ensures.items) pending_none;
  read = read_none g.S.Source.tells (g.S.Source.left c.args.source.now) c.new-pending.result.items g.K.Sink.tells _ c.new-pending.ensures.items;
  reads = refl;
}

pub returns-in-Err : goal.returns-in-Err
returns-in-Err g c =
    source_failed g.S.Source g.K.Sink g.D.Disk g.L.Links _ _ _ _ _ c.loop-room.invariant.keeps c.loop-room.room c.loop-room.pending.items c.loop-room.invariant.read c.loop-room.invariant.reads
    (g.met.D.Disk.seen_left c.loop-room.disk) (λ told. c.in-Err.ensures.kept told) c.in-Err.ensures.cause.later c.in-Err.ensures.cause.rose

pub returns-then-n-eq0 : goal.returns-then-n-eq0
returns-then-n-eq0 g c =
    rest_answered g.S.Source g.K.Sink g.D.Disk g.L.Links _ _ _ _ _ c.loop-room.invariant.keeps c.loop-room.room c.loop-room.pending.items c.loop-room.invariant.read c.loop-room.invariant.reads
    (take c.in-Ok.n c.read_piece.new.buf) c.deref.result.now c.deref.ensures.value (λ told. c.in-Ok.ensures.end told (ap Ok c.if-n-eq0.true)) (λ told. c.in-Ok.ensures.bytes told) c.in-Ok.ensures.cause.quiet
    c.answer_rest.result _ c.answer_rest.ensures

pub returns-in-Err-answer_piece : goal.returns-in-Err-answer_piece
returns-in-Err-answer_piece g c =
    piece_stopped g.S.Source g.K.Sink g.D.Disk g.L.Links _ _ _ _ _ c.loop-room.invariant.keeps c.loop-room.room c.loop-room.pending.items c.loop-room.invariant.read c.loop-room.invariant.reads
    (take c.in-Ok.n c.read_piece.new.buf) c.answer_piece.new.pending.items (omega (arith, length-take c.in-Ok.n c.read_piece.new.buf, c.in-Ok.ensures.within)) (λ told. c.in-Ok.ensures.bytes told) c.in-Ok.ensures.cause.quiet
    c.in-Err-answer_piece.status _ c.in-Err-answer_piece.ensures

pub loop-room-preserved : goal.loop-room-preserved
loop-room-preserved g c = record {
  keeps = keeps_then g.K.Sink g.D.Disk g.L.Links _ _ _ _ c.loop-room.invariant.keeps c.in_default.ensures.keeps;
  pending = c.in_default.ensures.pending;
  read = piece_read g.S.Source g.K.Sink g.D.Disk g.L.Links c.args.source.now c.loop-room.source c.read_piece.new.source _ _ c.loop-room.invariant.keeps c.loop-room.room c.loop-room.pending.items c.loop-room.invariant.read c.loop-room.invariant.reads
      (take c.in-Ok.n c.read_piece.new.buf) c.answer_piece.new.pending.items (c.loop-room.room - c.in-Ok.n) (omega (arith, length-take c.in-Ok.n c.read_piece.new.buf, c.in-Ok.ensures.within, c.read_piece.auto.buf))
      (λ told. c.in-Ok.ensures.bytes told) (place_of c.answer_piece.new.sink c.answer_piece.new.disk c.answer_piece.new.links c.answer_piece.new.course) c.in_default.ensures;
  reads = c.in-Ok.ensures.cause.quiet ∙ c.loop-room.invariant.reads;
}

pub returns-in-Ok-eq0 : goal.returns-in-Ok-eq0
returns-in-Ok-eq0 g c =
    rest_answered g.S.Source g.K.Sink g.D.Disk g.L.Links _ _ _ _ _ c.loop-room.invariant.keeps c.loop-room.room c.loop-room.pending.items c.loop-room.invariant.read c.loop-room.invariant.reads
    (take c.in-Ok-eq0.field-0 c.read_piece-2.new.buf) c.deref-in-Ok-eq0.result.now c.deref-in-Ok-eq0.ensures.value (λ told. c.in-Ok-eq0.ensures.end told (ap Ok c.in-Ok-eq0.field-0-test)) (λ told. c.in-Ok-eq0.ensures.bytes told)
    c.in-Ok-eq0.ensures.cause.quiet c.answer_rest-in-Ok-eq0.result _ c.answer_rest-in-Ok-eq0.ensures

pub returns-in-Ok-read_piece : goal.returns-in-Ok-read_piece
returns-in-Ok-read_piece g c =
    let n = c.in-Ok-read_piece.field-0 in
    let some : 0 < n = grind (arith, c.in-Ok-read_piece.field-0-test.1) in
    let within : n ≤ length c.loop-room.buf = omega (arith, c.in-Ok-read_piece.ensures.within) in
    too_much_given g.S.Source g.K.Sink g.D.Disk g.L.Links _ _ _ _ _ c.loop-room.invariant.keeps c.loop-room.room c.loop-room.pending.items c.loop-room.invariant.read c.loop-room.invariant.reads
    (g.met.D.Disk.seen_left c.loop-room.disk) (take n c.read_piece-2.new.buf) (omega (arith, c.loop-room-test.false)) (λ told. c.in-Ok-read_piece.ensures.bytes told)
    (omega (arith, some, within, length-take n c.read_piece-2.new.buf, c.read_piece-2.auto.buf)) c.in-Ok-read_piece.ensures.cause.quiet

pub returns : goal.returns
returns g c =
    source_failed g.S.Source g.K.Sink g.D.Disk g.L.Links _ _ _ _ _ c.loop-room.invariant.keeps c.loop-room.room c.loop-room.pending.items c.loop-room.invariant.read c.loop-room.invariant.reads
    (g.met.D.Disk.seen_left c.loop-room.disk) (λ told. c.in-Err-read_piece.ensures.kept told) c.in-Err-read_piece.ensures.cause.later c.in-Err-read_piece.ensures.cause.rose
