use Rattle.std.proofs.Common.{◌∙◌, ap, length, [], ◌∷◌}
use Rattle.small_types.specs.Bytes.{put}
use Rattle.journal.specs.Format.{IsFilled}
use Rattle.journal.proofs.NewJournal.{put_empty}
use Rattle.journal.proofs.SyncedCalls.{one_call, more_calls, fewer_left, fill_old, fill_first, fill_second}
use Rattle.journal.proofs.format.fill.Goals as goal

pub returns-in_err-write_at-2-clause-any_moment : goal.returns-in_err-write_at-2-clause-any_moment
returns-in_err-write_at-2-clause-any_moment g c = λ empty.
    let n = length c.args.bytes.now in
    let first = one_call g.D.Disk c.args.disk.now c.write_at.new.self (IsFilled n c.args.place) (fill_old g.D.Disk c.args.disk.now n c.args.place empty) (fill_first g.D.Disk c.args.disk.now c.write_at.new.self n c.args.place empty c.write_at.ensures.stop) (c.write_at.ensures.tick.later, c.write_at.ensures.tick.once, c.write_at.ensures.time) in
    let here = fill_second g.D.Disk c.args.disk.now c.write_at.new.self c.write_at-2.new.self n c.args.place empty c.write_at.ensures.stop c.write_at-2.ensures.stop in
    let second = more_calls g.D.Disk c.args.disk.now c.write_at.new.self c.write_at-2.new.self (IsFilled n c.args.place) first here (c.write_at-2.ensures.tick.later, c.write_at-2.ensures.tick.once, c.write_at-2.ensures.time) in
    second

pub returns-in_err-sync-clause-any_moment : goal.returns-in_err-sync-clause-any_moment
returns-in_err-sync-clause-any_moment g c = λ empty.
    let n = length c.args.bytes.now in
    let first = one_call g.D.Disk c.args.disk.now c.write_at.new.self (IsFilled n c.args.place) (fill_old g.D.Disk c.args.disk.now n c.args.place empty) (fill_first g.D.Disk c.args.disk.now c.write_at.new.self n c.args.place empty c.write_at.ensures.stop) (c.write_at.ensures.tick.later, c.write_at.ensures.tick.once, c.write_at.ensures.time) in
    let here = fill_second g.D.Disk c.args.disk.now c.write_at.new.self c.write_at-2.new.self n c.args.place empty c.write_at.ensures.stop c.write_at-2.ensures.stop in
    let second = more_calls g.D.Disk c.args.disk.now c.write_at.new.self c.write_at-2.new.self (IsFilled n c.args.place) first here (c.write_at-2.ensures.tick.later, c.write_at-2.ensures.tick.once, c.write_at-2.ensures.time) in
    more_calls g.D.Disk c.args.disk.now c.write_at-2.new.self c.sync.new.self (IsFilled n c.args.place) second (fewer_left g.D.Disk c.write_at-2.new.self c.sync.new.self (IsFilled n c.args.place) c.sync.ensures.stop here) (c.sync.ensures.tick.later, c.sync.ensures.tick.once, c.sync.ensures.time)

pub returns-clause-any_moment : goal.returns-clause-any_moment
returns-clause-any_moment g c = λ empty.
    let n = length c.args.bytes.now in
    let first = one_call g.D.Disk c.args.disk.now c.write_at.new.self (IsFilled n c.args.place) (fill_old g.D.Disk c.args.disk.now n c.args.place empty) (fill_first g.D.Disk c.args.disk.now c.write_at.new.self n c.args.place empty c.write_at.ensures.stop) (c.write_at.ensures.tick.later, c.write_at.ensures.tick.once, c.write_at.ensures.time) in
    let here = fill_second g.D.Disk c.args.disk.now c.write_at.new.self c.write_at-2.new.self n c.args.place empty c.write_at.ensures.stop c.write_at-2.ensures.stop in
    let second = more_calls g.D.Disk c.args.disk.now c.write_at.new.self c.write_at-2.new.self (IsFilled n c.args.place) first here (c.write_at-2.ensures.tick.later, c.write_at-2.ensures.tick.once, c.write_at-2.ensures.time) in
    more_calls g.D.Disk c.args.disk.now c.write_at-2.new.self c.sync.new.self (IsFilled n c.args.place) second (fewer_left g.D.Disk c.write_at-2.new.self c.sync.new.self (IsFilled n c.args.place) c.sync.ensures.stop here) (c.sync.ensures.tick.later, c.sync.ensures.tick.once, c.sync.ensures.time)

pub returns-clause-ok : goal.returns-clause-ok
returns-clause-ok g c = λ empty bytes left.
    let was = empty (g.D.Disk.seen c.args.disk.now) (g.met.D.Disk.seen_left c.args.disk.now) in
    c.in_ok-sync.ensures.durable bytes left ∙ c.in_ok-write_at-2.ensures.written
    ∙ ap (put c.args.place (0 ∷ [])) (c.in_ok-write_at.ensures.written ∙ ap (put 0 c.args.bytes.now) was ∙ put_empty c.args.bytes.now)
