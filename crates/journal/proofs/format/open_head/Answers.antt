use Rattle.std.proofs.Common.{◌∙◌}
use Rattle.journal.specs.Format.{IsNewOrNone}
use Rattle.journal.proofs.NewJournal.{opened_head}
use Rattle.journal.proofs.SyncedCalls.{one_call, more_calls, fewer_left, head_old, head_new}
use Rattle.journal.proofs.format.open_head.Goals as goal

pub returns-in_err-write_at-clause-any_moment : goal.returns-in_err-write_at-clause-any_moment
returns-in_err-write_at-clause-any_moment g c = λ blocks half tables limits fits closed.
    let here = head_new g.D.Disk c.args.disk.now c.write_at.new.self blocks half tables limits fits closed c.write_at.ensures.stop in
    let first = one_call g.D.Disk c.args.disk.now c.write_at.new.self (IsNewOrNone blocks half tables) (head_old g.D.Disk c.args.disk.now blocks half tables fits closed) here (c.write_at.ensures.tick.later, c.write_at.ensures.tick.once, c.write_at.ensures.time) in
    first

pub returns-in_err-sync-clause-any_moment : goal.returns-in_err-sync-clause-any_moment
returns-in_err-sync-clause-any_moment g c = λ blocks half tables limits fits closed.
    let here = head_new g.D.Disk c.args.disk.now c.write_at.new.self blocks half tables limits fits closed c.write_at.ensures.stop in
    let first = one_call g.D.Disk c.args.disk.now c.write_at.new.self (IsNewOrNone blocks half tables) (head_old g.D.Disk c.args.disk.now blocks half tables fits closed) here (c.write_at.ensures.tick.later, c.write_at.ensures.tick.once, c.write_at.ensures.time) in
    more_calls g.D.Disk c.args.disk.now c.write_at.new.self c.sync.new.self (IsNewOrNone blocks half tables) first (fewer_left g.D.Disk c.write_at.new.self c.sync.new.self (IsNewOrNone blocks half tables) c.sync.ensures.stop here) (c.sync.ensures.tick.later, c.sync.ensures.tick.once, c.sync.ensures.time)

pub returns-clause-any_moment : goal.returns-clause-any_moment
returns-clause-any_moment g c = λ blocks half tables limits fits closed.
    let here = head_new g.D.Disk c.args.disk.now c.write_at.new.self blocks half tables limits fits closed c.write_at.ensures.stop in
    let first = one_call g.D.Disk c.args.disk.now c.write_at.new.self (IsNewOrNone blocks half tables) (head_old g.D.Disk c.args.disk.now blocks half tables fits closed) here (c.write_at.ensures.tick.later, c.write_at.ensures.tick.once, c.write_at.ensures.time) in
    more_calls g.D.Disk c.args.disk.now c.write_at.new.self c.sync.new.self (IsNewOrNone blocks half tables) first (fewer_left g.D.Disk c.write_at.new.self c.sync.new.self (IsNewOrNone blocks half tables) c.sync.ensures.stop here) (c.sync.ensures.tick.later, c.sync.ensures.tick.once, c.sync.ensures.time)

pub returns-clause-ok : goal.returns-clause-ok
returns-clause-ok g c = λ blocks half tables limits fits closed bytes left.
    opened_head blocks half tables fits (g.D.Disk.seen c.args.disk.now) bytes limits (closed (g.D.Disk.seen c.args.disk.now) (g.met.D.Disk.seen_left c.args.disk.now))
    (c.in_ok-sync.ensures.durable bytes left ∙ c.in_ok-write_at.ensures.written)
