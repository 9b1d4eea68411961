use Rattle.std.proofs.Common.{◌+◌, length, arith}
use Rattle.disks.proofs.Books.{counted_or_full}
use Rattle.disks.proofs.OutsideLemmas.{agrees_then, agrees_is, torn_agrees, outside_start, outside_write, outside_sync}
use Rattle.journal.proofs.Gates.{run1, run2, staged2, run3, run4, open4}
use Rattle.journal.proofs.gate.open_gate.Goals as goal

pub returns-in_err-write_at-clause-any_moment : goal.returns-in_err-write_at-clause-any_moment
returns-in_err-write_at-clause-any_moment g c = λ each.
    let first = run1 c.args.end c.args.tail.now g.D.Disk g.met.D.Disk.seen_left c.args.disk.now each c.write_at.new.self c.write_at.ensures.stop (c.write_at.ensures.tick.later, c.write_at.ensures.tick.once, c.write_at.ensures.time) in
    first

pub returns-in_err-sync-clause-any_moment : goal.returns-in_err-sync-clause-any_moment
returns-in_err-sync-clause-any_moment g c = λ each.
    let first = run1 c.args.end c.args.tail.now g.D.Disk g.met.D.Disk.seen_left c.args.disk.now each c.write_at.new.self c.write_at.ensures.stop (c.write_at.ensures.tick.later, c.write_at.ensures.tick.once, c.write_at.ensures.time) in
    let second = run2 c.args.end c.args.tail.now g.D.Disk g.met.D.Disk.seen_left c.args.disk.now each c.write_at.new.self c.sync.new.self c.write_at.ensures.stop first c.sync.ensures.stop (c.sync.ensures.tick.later, c.sync.ensures.tick.once, c.sync.ensures.time) in
    second

pub returns-in_err-write_at-2-clause-any_moment : goal.returns-in_err-write_at-2-clause-any_moment
returns-in_err-write_at-2-clause-any_moment g c = λ each.
    let first = run1 c.args.end c.args.tail.now g.D.Disk g.met.D.Disk.seen_left c.args.disk.now each c.write_at.new.self c.write_at.ensures.stop (c.write_at.ensures.tick.later, c.write_at.ensures.tick.once, c.write_at.ensures.time) in
    let second = run2 c.args.end c.args.tail.now g.D.Disk g.met.D.Disk.seen_left c.args.disk.now each c.write_at.new.self c.sync.new.self c.write_at.ensures.stop first c.sync.ensures.stop (c.sync.ensures.tick.later, c.sync.ensures.tick.once, c.sync.ensures.time) in
    let staged = staged2 c.args.end c.args.tail.now g.D.Disk g.met.D.Disk.seen_left c.args.disk.now each c.write_at.new.self c.sync.new.self c.in_ok-write_at.ensures.written c.in_ok-sync.ensures.durable in
    let third = run3 c.args.end c.args.tail.now g.D.Disk g.met.D.Disk.seen_left c.args.disk.now each c.sync.new.self c.write_at-2.new.self staged second c.write_at-2.ensures.stop (c.write_at-2.ensures.tick.later, c.write_at-2.ensures.tick.once, c.write_at-2.ensures.time) in
    third

pub returns-in_err-sync-2-clause-any_moment : goal.returns-in_err-sync-2-clause-any_moment
returns-in_err-sync-2-clause-any_moment g c = λ each.
    let first = run1 c.args.end c.args.tail.now g.D.Disk g.met.D.Disk.seen_left c.args.disk.now each c.write_at.new.self c.write_at.ensures.stop (c.write_at.ensures.tick.later, c.write_at.ensures.tick.once, c.write_at.ensures.time) in
    let second = run2 c.args.end c.args.tail.now g.D.Disk g.met.D.Disk.seen_left c.args.disk.now each c.write_at.new.self c.sync.new.self c.write_at.ensures.stop first c.sync.ensures.stop (c.sync.ensures.tick.later, c.sync.ensures.tick.once, c.sync.ensures.time) in
    let staged = staged2 c.args.end c.args.tail.now g.D.Disk g.met.D.Disk.seen_left c.args.disk.now each c.write_at.new.self c.sync.new.self c.in_ok-write_at.ensures.written c.in_ok-sync.ensures.durable in
    let third = run3 c.args.end c.args.tail.now g.D.Disk g.met.D.Disk.seen_left c.args.disk.now each c.sync.new.self c.write_at-2.new.self staged second c.write_at-2.ensures.stop (c.write_at-2.ensures.tick.later, c.write_at-2.ensures.tick.once, c.write_at-2.ensures.time) in
    let fourth = run4 c.args.end c.args.tail.now g.D.Disk g.met.D.Disk.seen_left c.args.disk.now each c.sync.new.self c.write_at-2.new.self c.sync-2.new.self staged c.write_at-2.ensures.stop third c.sync-2.ensures.stop (c.sync-2.ensures.tick.later, c.sync-2.ensures.tick.once, c.sync-2.ensures.time) in
    fourth

pub returns-clause-any_moment : goal.returns-clause-any_moment
returns-clause-any_moment g c = λ each.
    let first = run1 c.args.end c.args.tail.now g.D.Disk g.met.D.Disk.seen_left c.args.disk.now each c.write_at.new.self c.write_at.ensures.stop (c.write_at.ensures.tick.later, c.write_at.ensures.tick.once, c.write_at.ensures.time) in
    let second = run2 c.args.end c.args.tail.now g.D.Disk g.met.D.Disk.seen_left c.args.disk.now each c.write_at.new.self c.sync.new.self c.write_at.ensures.stop first c.sync.ensures.stop (c.sync.ensures.tick.later, c.sync.ensures.tick.once, c.sync.ensures.time) in
    let staged = staged2 c.args.end c.args.tail.now g.D.Disk g.met.D.Disk.seen_left c.args.disk.now each c.write_at.new.self c.sync.new.self c.in_ok-write_at.ensures.written c.in_ok-sync.ensures.durable in
    let third = run3 c.args.end c.args.tail.now g.D.Disk g.met.D.Disk.seen_left c.args.disk.now each c.sync.new.self c.write_at-2.new.self staged second c.write_at-2.ensures.stop (c.write_at-2.ensures.tick.later, c.write_at-2.ensures.tick.once, c.write_at-2.ensures.time) in
    let fourth = run4 c.args.end c.args.tail.now g.D.Disk g.met.D.Disk.seen_left c.args.disk.now each c.sync.new.self c.write_at-2.new.self c.sync-2.new.self staged c.write_at-2.ensures.stop third c.sync-2.ensures.stop (c.sync-2.ensures.tick.later, c.sync-2.ensures.tick.once, c.sync-2.ensures.time) in
    fourth

pub returns-clause-ok : goal.returns-clause-ok
returns-clause-ok g c = λ each.
    let staged = staged2 c.args.end c.args.tail.now g.D.Disk g.met.D.Disk.seen_left c.args.disk.now each c.write_at.new.self c.sync.new.self c.in_ok-write_at.ensures.written c.in_ok-sync.ensures.durable in
    open4 c.args.end c.args.tail.now g.D.Disk g.met.D.Disk.seen_left c.args.disk.now each c.sync.new.self c.write_at-2.new.self c.sync-2.new.self staged c.in_ok-write_at-2.ensures.written c.in_ok-sync-2.ensures.durable

pub returns-in_err-write_at-clause-outside : goal.returns-in_err-write_at-clause-outside
returns-in_err-write_at-clause-outside g c =
    let place = c.args.end in
    let n = length c.args.tail.now + 1 in
    let first = outside_write g.D.Disk place n c.args.disk.now c.args.disk.now c.write_at.new.self (place + 1) (length c.args.tail.now) (omega arith) (omega arith) (outside_start g.D.Disk place n c.args.disk.now) c.write_at.ensures.stop (c.write_at.ensures.tick.later, c.write_at.ensures.tick.once, c.write_at.ensures.time) in
    first

pub returns-in_err-write_at-clause-reads_outside : goal.returns-in_err-write_at-clause-reads_outside
returns-in_err-write_at-clause-reads_outside g c =
    let place = c.args.end in
    let n = length c.args.tail.now + 1 in
    let first = torn_agrees place n (place + 1) (length c.args.tail.now) (g.D.Disk.seen c.args.disk.now) (g.D.Disk.seen c.write_at.new.self) (omega arith) (omega arith) c.write_at.ensures.seen in
    first

pub returns-in_err-sync-clause-outside : goal.returns-in_err-sync-clause-outside
returns-in_err-sync-clause-outside g c =
    let place = c.args.end in
    let n = length c.args.tail.now + 1 in
    let first = outside_write g.D.Disk place n c.args.disk.now c.args.disk.now c.write_at.new.self (place + 1) (length c.args.tail.now) (omega arith) (omega arith) (outside_start g.D.Disk place n c.args.disk.now) c.write_at.ensures.stop (c.write_at.ensures.tick.later, c.write_at.ensures.tick.once, c.write_at.ensures.time) in
    let second = outside_sync g.D.Disk place n c.args.disk.now c.write_at.new.self c.sync.new.self first c.sync.ensures.stop (c.sync.ensures.tick.later, c.sync.ensures.tick.once, c.sync.ensures.time) in
    second

pub returns-in_err-sync-clause-reads_outside : goal.returns-in_err-sync-clause-reads_outside
returns-in_err-sync-clause-reads_outside g c =
    let place = c.args.end in
    let n = length c.args.tail.now + 1 in
    let first = torn_agrees place n (place + 1) (length c.args.tail.now) (g.D.Disk.seen c.args.disk.now) (g.D.Disk.seen c.write_at.new.self) (omega arith) (omega arith) c.write_at.ensures.seen in
    let second = agrees_is place n (g.D.Disk.seen c.args.disk.now) (g.D.Disk.seen c.write_at.new.self) (g.D.Disk.seen c.sync.new.self) first c.sync.ensures.seen in
    second

pub returns-in_err-write_at-2-clause-outside : goal.returns-in_err-write_at-2-clause-outside
returns-in_err-write_at-2-clause-outside g c =
    let place = c.args.end in
    let n = length c.args.tail.now + 1 in
    let first = outside_write g.D.Disk place n c.args.disk.now c.args.disk.now c.write_at.new.self (place + 1) (length c.args.tail.now) (omega arith) (omega arith) (outside_start g.D.Disk place n c.args.disk.now) c.write_at.ensures.stop (c.write_at.ensures.tick.later, c.write_at.ensures.tick.once, c.write_at.ensures.time) in
    let second = outside_sync g.D.Disk place n c.args.disk.now c.write_at.new.self c.sync.new.self first c.sync.ensures.stop (c.sync.ensures.tick.later, c.sync.ensures.tick.once, c.sync.ensures.time) in
    let third = outside_write g.D.Disk place n c.args.disk.now c.sync.new.self c.write_at-2.new.self place 1 (omega arith) (omega arith) second c.write_at-2.ensures.stop (c.write_at-2.ensures.tick.later, c.write_at-2.ensures.tick.once, c.write_at-2.ensures.time) in
    third

pub returns-in_err-write_at-2-clause-reads_outside : goal.returns-in_err-write_at-2-clause-reads_outside
returns-in_err-write_at-2-clause-reads_outside g c =
    let place = c.args.end in
    let n = length c.args.tail.now + 1 in
    let first = torn_agrees place n (place + 1) (length c.args.tail.now) (g.D.Disk.seen c.args.disk.now) (g.D.Disk.seen c.write_at.new.self) (omega arith) (omega arith) c.write_at.ensures.seen in
    let second = agrees_is place n (g.D.Disk.seen c.args.disk.now) (g.D.Disk.seen c.write_at.new.self) (g.D.Disk.seen c.sync.new.self) first c.sync.ensures.seen in
    let third = agrees_then place n (g.D.Disk.seen c.args.disk.now) (g.D.Disk.seen c.sync.new.self) (g.D.Disk.seen c.write_at-2.new.self) second (torn_agrees place n place 1 (g.D.Disk.seen c.sync.new.self) (g.D.Disk.seen c.write_at-2.new.self) (omega arith) (omega arith) c.write_at-2.ensures.seen) in
    third

pub returns-in_err-sync-2-clause-outside : goal.returns-in_err-sync-2-clause-outside
returns-in_err-sync-2-clause-outside g c =
    let place = c.args.end in
    let n = length c.args.tail.now + 1 in
    let first = outside_write g.D.Disk place n c.args.disk.now c.args.disk.now c.write_at.new.self (place + 1) (length c.args.tail.now) (omega arith) (omega arith) (outside_start g.D.Disk place n c.args.disk.now) c.write_at.ensures.stop (c.write_at.ensures.tick.later, c.write_at.ensures.tick.once, c.write_at.ensures.time) in
    let second = outside_sync g.D.Disk place n c.args.disk.now c.write_at.new.self c.sync.new.self first c.sync.ensures.stop (c.sync.ensures.tick.later, c.sync.ensures.tick.once, c.sync.ensures.time) in
    let third = outside_write g.D.Disk place n c.args.disk.now c.sync.new.self c.write_at-2.new.self place 1 (omega arith) (omega arith) second c.write_at-2.ensures.stop (c.write_at-2.ensures.tick.later, c.write_at-2.ensures.tick.once, c.write_at-2.ensures.time) in
    let fourth = outside_sync g.D.Disk place n c.args.disk.now c.write_at-2.new.self c.sync-2.new.self third c.sync-2.ensures.stop (c.sync-2.ensures.tick.later, c.sync-2.ensures.tick.once, c.sync-2.ensures.time) in
    fourth

pub returns-in_err-sync-2-clause-reads_outside : goal.returns-in_err-sync-2-clause-reads_outside
returns-in_err-sync-2-clause-reads_outside g c =
    let place = c.args.end in
    let n = length c.args.tail.now + 1 in
    let first = torn_agrees place n (place + 1) (length c.args.tail.now) (g.D.Disk.seen c.args.disk.now) (g.D.Disk.seen c.write_at.new.self) (omega arith) (omega arith) c.write_at.ensures.seen in
    let second = agrees_is place n (g.D.Disk.seen c.args.disk.now) (g.D.Disk.seen c.write_at.new.self) (g.D.Disk.seen c.sync.new.self) first c.sync.ensures.seen in
    let third = agrees_then place n (g.D.Disk.seen c.args.disk.now) (g.D.Disk.seen c.sync.new.self) (g.D.Disk.seen c.write_at-2.new.self) second (torn_agrees place n place 1 (g.D.Disk.seen c.sync.new.self) (g.D.Disk.seen c.write_at-2.new.self) (omega arith) (omega arith) c.write_at-2.ensures.seen) in
    agrees_is place n (g.D.Disk.seen c.args.disk.now) (g.D.Disk.seen c.write_at-2.new.self) (g.D.Disk.seen c.sync-2.new.self) third c.sync-2.ensures.seen

pub returns-clause-outside : goal.returns-clause-outside
returns-clause-outside g c =
    let place = c.args.end in
    let n = length c.args.tail.now + 1 in
    let first = outside_write g.D.Disk place n c.args.disk.now c.args.disk.now c.write_at.new.self (place + 1) (length c.args.tail.now) (omega arith) (omega arith) (outside_start g.D.Disk place n c.args.disk.now) c.write_at.ensures.stop (c.write_at.ensures.tick.later, c.write_at.ensures.tick.once, c.write_at.ensures.time) in
    let second = outside_sync g.D.Disk place n c.args.disk.now c.write_at.new.self c.sync.new.self first c.sync.ensures.stop (c.sync.ensures.tick.later, c.sync.ensures.tick.once, c.sync.ensures.time) in
    let third = outside_write g.D.Disk place n c.args.disk.now c.sync.new.self c.write_at-2.new.self place 1 (omega arith) (omega arith) second c.write_at-2.ensures.stop (c.write_at-2.ensures.tick.later, c.write_at-2.ensures.tick.once, c.write_at-2.ensures.time) in
    let fourth = outside_sync g.D.Disk place n c.args.disk.now c.write_at-2.new.self c.sync-2.new.self third c.sync-2.ensures.stop (c.sync-2.ensures.tick.later, c.sync-2.ensures.tick.once, c.sync-2.ensures.time) in
    fourth

pub returns-clause-reads_outside : goal.returns-clause-reads_outside
returns-clause-reads_outside g c =
    let place = c.args.end in
    let n = length c.args.tail.now + 1 in
    let first = torn_agrees place n (place + 1) (length c.args.tail.now) (g.D.Disk.seen c.args.disk.now) (g.D.Disk.seen c.write_at.new.self) (omega arith) (omega arith) c.write_at.ensures.seen in
    let second = agrees_is place n (g.D.Disk.seen c.args.disk.now) (g.D.Disk.seen c.write_at.new.self) (g.D.Disk.seen c.sync.new.self) first c.sync.ensures.seen in
    let third = agrees_then place n (g.D.Disk.seen c.args.disk.now) (g.D.Disk.seen c.sync.new.self) (g.D.Disk.seen c.write_at-2.new.self) second (torn_agrees place n place 1 (g.D.Disk.seen c.sync.new.self) (g.D.Disk.seen c.write_at-2.new.self) (omega arith) (omega arith) c.write_at-2.ensures.seen) in
    agrees_is place n (g.D.Disk.seen c.args.disk.now) (g.D.Disk.seen c.write_at-2.new.self) (g.D.Disk.seen c.sync-2.new.self) third c.sync-2.ensures.seen

pub returns-in_err-write_at-clause-counted : goal.returns-in_err-write_at-clause-counted
returns-in_err-write_at-clause-counted g c =
    counted_or_full (g.D.Disk.moment c.args.disk.now) (g.D.Disk.moment c.write_at.new.self) (g.D.Disk.total c.args.disk.now) (g.D.Disk.total c.write_at.new.self)
    (length c.args.tail.now) (length c.args.tail.now + 1) c.write_at.result (omega arith) c.write_at.ensures.tick
