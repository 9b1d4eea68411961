use Rattle.std.proofs.Common.{◌≡◌, ◌≤◌, ◌<◌, ◌+◌, ◌-◌, ◌++◌, inr, ℕ, length, drop, ap, ◌∙◌, arith, length-take}
use Rattle.std.proofs.lemmas.Grind.{common_steps}
use Rattle.disks.proofs.MomentLemmas.{untouched_more}
use Rattle.journal.proofs.PartReads.{read_more, read_none, grown_long}
use Rattle.journal.proofs.read.read_on.Goals as goal

pub loop-bytes-preserved : goal.loop-bytes-preserved
loop-bytes-preserved g c =
    let len : c.len-in-loop-bytes.result ≡ length c.loop-bytes.bytes.items = grind (arith, common_steps) in
    let len2 : c.len-in-loop-bytes-2.result ≡ length c.loop-bytes.bytes.items = grind (arith, common_steps) in
    let still = c.loop-bytes.invariant.still in
    let room : c.min-room.result ≤ c.args.limit - length c.loop-bytes.bytes.items = omega (arith, len, c.min-room.ensures) in
    let size = grown_long c.loop-bytes.bytes.items c.extend_from_slice.new.self.items (c.read.new.buf ++ drop c.min-room.result c.loop-bytes.buf) c.in_ok-n.n c.in_ok-extend_from_slice.ensures.items in
    let few : c.in_ok-n.n ≤ c.min-room.result = omega (arith, c.in_ok-n.ensures.within, length-take c.min-room.result c.loop-bytes.buf) in
    record {
      bytes = λ told was.
          read_more (g.D.Disk.seen c.args.disk.now) (g.D.Disk.seen c.loop-bytes.disk) c.loop-bytes.bytes.items c.extend_from_slice.new.self.items c.loop-bytes.buf c.read.new.buf
          c.args.place c.args.limit c.min-room.result (c.args.place + c.len-in-loop-bytes-2.result) c.in_ok-n.n
          still.same_reads (ap (λ (n : ℕ). c.args.place + n) len2) (c.loop-bytes.invariant.bytes (c.read.ensures.told told) was) room c.loop-bytes.invariant.limited
          (c.in_ok-n.ensures.bytes told).0 (c.in_ok-n.ensures.bytes told).1 c.in_ok-extend_from_slice.ensures.items;
      longer = omega (arith, size.0, c.loop-bytes.invariant.longer);
      limited = omega (arith, size.1, few, room, c.loop-bytes.invariant.limited);
      still = untouched_more g.D.Disk c.args.disk.now c.loop-bytes.disk c.read.new.self c.loop-bytes.invariant.still
          (record { no_tick = c.read.ensures.still.moment; same_reads = c.read.ensures.seen; time = c.read.ensures.time });
      told = λ told. c.loop-bytes.invariant.told (c.read.ensures.told told);
      moment = c.read.ensures.still.moment ∙ c.loop-bytes.invariant.moment;
      total = c.read.ensures.still.total ∙ c.loop-bytes.invariant.total;
      count = c.in_ok-n.ensures.cause.quiet ∙ c.loop-bytes.invariant.count;
    }

pub returns-then-n-eq0-clause-enough : goal.returns-then-n-eq0-clause-enough
returns-then-n-eq0-clause-enough g c = λ told.
    let len : c.len-in-loop-bytes.result ≡ length c.loop-bytes.bytes.items = grind (arith, common_steps) in
    let len2 : c.len-in-loop-bytes-2.result ≡ length c.loop-bytes.bytes.items = grind (arith, common_steps) in
    let test : length c.loop-bytes.bytes.items < c.args.want = grind (arith, common_steps, c.loop-bytes-test.true) in
    let some : 0 < c.min-room.result = omega (arith, len, c.min-room.ensures, test, c.requires.wanted, c.requires.room, c.loop-bytes.auto.buf) in
    inr (read_none (g.D.Disk.seen c.args.disk.now) (g.D.Disk.seen c.loop-bytes.disk) c.loop-bytes.buf c.args.place c.args.limit c.min-room.result (c.args.place + c.len-in-loop-bytes-2.result) c.in_ok-n.n (length c.loop-bytes.bytes.items)
    c.loop-bytes.invariant.still.same_reads (ap (λ (n : ℕ). c.args.place + n) len2) c.if-n-eq0.true some (omega (arith, c.min-room.ensures)) (c.in_ok-n.ensures.bytes told).0)
