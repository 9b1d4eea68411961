use Rattle.std.proofs.Common.{arith}
use Rattle.disks.proofs.OutsideLemmas.{outside_start, outside_write, outside_sync}
use Rattle.journal.proofs.gate.shut_gate.Goals as goal

pub returns-in_err-write_at-clause-any_moment : goal.returns-in_err-write_at-clause-any_moment
returns-in_err-write_at-clause-any_moment g c =
    let place = c.args.place in
    let first = outside_write g.D.Disk place 1 c.args.disk.now c.args.disk.now c.write_at.new.self place 1 (omega arith) (omega arith) (outside_start g.D.Disk place 1 c.args.disk.now) c.write_at.ensures.stop (c.write_at.ensures.tick.later, c.write_at.ensures.tick.once, c.write_at.ensures.time) in
    first

pub returns-in_err-sync-clause-any_moment : goal.returns-in_err-sync-clause-any_moment
returns-in_err-sync-clause-any_moment g c =
    let place = c.args.place in
    let first = outside_write g.D.Disk place 1 c.args.disk.now c.args.disk.now c.write_at.new.self place 1 (omega arith) (omega arith) (outside_start g.D.Disk place 1 c.args.disk.now) c.write_at.ensures.stop (c.write_at.ensures.tick.later, c.write_at.ensures.tick.once, c.write_at.ensures.time) in
    outside_sync g.D.Disk place 1 c.args.disk.now c.write_at.new.self c.sync.new.self first c.sync.ensures.stop (c.sync.ensures.tick.later, c.sync.ensures.tick.once, c.sync.ensures.time)

pub returns-clause-any_moment : goal.returns-clause-any_moment
returns-clause-any_moment g c =
    let place = c.args.place in
    let first = outside_write g.D.Disk place 1 c.args.disk.now c.args.disk.now c.write_at.new.self place 1 (omega arith) (omega arith) (outside_start g.D.Disk place 1 c.args.disk.now) c.write_at.ensures.stop (c.write_at.ensures.tick.later, c.write_at.ensures.tick.once, c.write_at.ensures.time) in
    outside_sync g.D.Disk place 1 c.args.disk.now c.write_at.new.self c.sync.new.self first c.sync.ensures.stop (c.sync.ensures.tick.later, c.sync.ensures.tick.once, c.sync.ensures.time)
