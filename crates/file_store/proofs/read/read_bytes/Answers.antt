use Rattle.std.proofs.Common.{◌≡◌, ◌+◌, ◌≤◌, Result, Ok, length, arith, ap, sym, subst}
use Rattle.std.specs.Result.{IsOk, is_ok}
use Rattle.small_types.specs.Blocks.{IsContent}
use Rattle.disks.proofs.Books.{none_failed, read_spends, spends_then}
use Rattle.file_store.proofs.ReadBack.{all_read, mid_long, reads_all, reads_more, reads_on}
use Rattle.file_store.proofs.BlockWrites.{slice_long}
use Rattle.file_store.proofs.read.read_bytes.Goals as goal

pub returns-then-n-eq0-clause-whole : goal.returns-then-n-eq0-clause-whole
returns-then-n-eq0-clause-whole g c = λ tells content fits is.
    let seen : g.D.Disk.seen c.args.disk.now ≡ g.D.Disk.seen c.loop-done.disk = sym c.loop-done.invariant.still.same_reads in
    let all : c.in_ok-n.n ≡ c.stretch-room.result =
    reads_all c.args.base c.args.blocks.now content (g.D.Disk.seen c.loop-done.disk) c.loop-done.buf c.read.new.buf c.args.from c.loop-done.done c.stretch-room.result c.place-at.result c.in_ok-n.n
    (omega (arith, c.stretch-room.ensures.wanted)) (omega (arith, fits, c.loop-done.auto.buf)) c.stretch-room.ensures.some c.place-at.ensures c.stretch-room.ensures.stretch (subst (IsContent c.args.base c.args.blocks.now content) seen is) (c.in_ok-n.ensures.bytes tells) in
    absurd (omega (arith, all, c.if-n-eq0.true, c.stretch-room.ensures.some))

pub returns-then-n-eq0-clause-bytes : goal.returns-then-n-eq0-clause-bytes
returns-then-n-eq0-clause-bytes g c = λ tells content fits is.
    let seen : g.D.Disk.seen c.args.disk.now ≡ g.D.Disk.seen c.loop-done.disk = sym c.loop-done.invariant.still.same_reads in
    let all : c.in_ok-n.n ≡ c.stretch-room.result =
    reads_all c.args.base c.args.blocks.now content (g.D.Disk.seen c.loop-done.disk) c.loop-done.buf c.read.new.buf c.args.from c.loop-done.done c.stretch-room.result c.place-at.result c.in_ok-n.n
    (omega (arith, c.stretch-room.ensures.wanted)) (omega (arith, fits, c.loop-done.auto.buf)) c.stretch-room.ensures.some c.place-at.ensures c.stretch-room.ensures.stretch (subst (IsContent c.args.base c.args.blocks.now content) seen is) (c.in_ok-n.ensures.bytes tells) in
    absurd (omega (arith, all, c.if-n-eq0.true, c.stretch-room.ensures.some))

answered : {T E : Type 0} (result : Result T E) (value : T) → result ≡ Ok value → IsOk result
answered result value is = ap is_ok is

pub loop-done-preserved : goal.loop-done-preserved
loop-done-preserved g c =
    let within : c.loop-done.done + c.stretch-room.result ≤ length c.loop-done.buf = omega (arith, c.stretch-room.ensures.wanted, c.loop-done-test.true) in
    let size = mid_long c.loop-done.buf c.read.new.buf c.loop-done.done c.stretch-room.result within c.read.auto.buf in
    record {
      within = omega (arith, size, within, c.in_ok-n.ensures.within, slice_long c.loop-done.buf c.loop-done.done c.stretch-room.result within);
      still = reads_more g.D.Disk c.args.disk.now c.loop-done.disk c.read.new.self c.loop-done.invariant.still c.read.ensures.still c.read.ensures.seen c.read.ensures.time;
      spends = spends_then g.D.Disk 0 0 0 0 c.args.disk.now c.loop-done.disk c.read.new.self ⊥ c.loop-done.invariant.spends
          (none_failed g.D.Disk 0 0 c.loop-done.disk c.read.new.self c.read.result (answered c.read.result _ c.in_ok-n.was) (read_spends g.D.Disk c.loop-done.disk c.read.new.self c.read.result c.read.ensures.still c.read.ensures.told c.read.ensures.cause));
      bytes = λ tells content fits is.
          let seen : g.D.Disk.seen c.args.disk.now ≡ g.D.Disk.seen c.loop-done.disk = sym c.loop-done.invariant.still.same_reads in
          let long : c.args.from + length c.loop-done.buf ≤ length content = omega (arith, fits, size) in
          reads_on c.args.base c.args.blocks.now content (g.D.Disk.seen c.loop-done.disk) c.loop-done.buf c.read.new.buf c.args.from c.loop-done.done c.stretch-room.result c.place-at.result c.in_ok-n.n
          within long c.stretch-room.ensures.some c.place-at.ensures c.stretch-room.ensures.stretch (subst (IsContent c.args.base c.args.blocks.now content) seen is) (c.in_ok-n.ensures.bytes tells)
          (c.loop-done.invariant.bytes (c.read.ensures.told tells) content long is);
    }

pub returns-clause-bytes : goal.returns-clause-bytes
returns-clause-bytes g c = λ tells content fits is.
    let long : c.args.from + length c.loop-done.buf ≤ length content = omega (arith, fits, c.loop-done.auto.buf) in
    let end : c.loop-done.done ≡ length c.loop-done.buf = omega (arith, c.loop-done-test.false, c.loop-done.invariant.within) in
    all_read c.loop-done.buf content c.args.from (length c.args.buf.now) (sym c.loop-done.auto.buf) fits
    (λ k low. c.loop-done.invariant.bytes tells content long is k (omega (arith, end, c.loop-done.auto.buf)))
