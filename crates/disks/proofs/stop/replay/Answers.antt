use Rattle.disks.proofs.NextCall.{fits_at, replay_more, replay_over}
use Rattle.disks.proofs.stop.replay.Goals as goal

pub loop-call-preserved-then-call-moment : goal.loop-call-preserved-then-call-moment
loop-call-preserved-then-call-moment c =
    let both = replay_over c.args.pick c.args.first.now c.loop-call.reads c.loop-call.image c.args.calls.now c.loop-call.call-index c.args.moment c.call-item.result
    c.loop-call-test.true c.call-item.is c.if-call-moment.true c.loop-call.invariant.reads c.loop-call.invariant.image in
    record { reads = both.0; image = both.1 }

pub change_image-requires : goal.change_image-requires
change_image-requires c = fits_at c.args.calls.now c.loop-call.call-index c.call-item.result c.requires c.loop-call-test.true c.call-item.is

pub change_reads-requires : goal.change_reads-requires
change_reads-requires c = fits_at c.args.calls.now c.loop-call.call-index c.call-item.result c.requires c.loop-call-test.true c.call-item.is

pub loop-call-preserved : goal.loop-call-preserved
loop-call-preserved c =
    let both = replay_more c.args.pick c.args.first.now c.loop-call.reads c.loop-call.image c.as_slice.result.now c.change_reads.new.reads c.change_image.new.image c.args.calls.now c.loop-call.call-index c.args.moment c.call-item.result
    c.loop-call-test.true c.call-item.is c.if-call-moment.false c.loop-call.invariant.reads c.loop-call.invariant.image c.as_slice.ensures c.in_ok-change_image.ensures c.in_ok-change_reads.ensures in
    record { reads = both.0; image = both.1 }
