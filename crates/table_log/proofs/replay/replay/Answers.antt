use Rattle.table_log.proofs.LoadedTables.{leads_first, leads_more, leads_nowhere, leads_through, made_if, none_if}
use Rattle.table_log.proofs.replay.replay.Goals as goal

pub loop-change-init : goal.loop-change-init
loop-change-init c = leads_first c.args.changes.now c.args.state.now

pub loop-change-preserved : goal.loop-change-preserved
loop-change-preserved c =
    leads_more c.args.changes.now c.loop-change.change-index c.change-item.result c.args.state.now c.loop-change.state c.replay_one.new.state c.loop-change.invariant c.loop-change-test.true c.change-item.is
    (rw c.as_slice.ensures at (made_if _ _ _ _ c.in_ok-replay_one.ensures c.if-not-branch.false))

pub returns-then-not-branch : goal.returns-then-not-branch
returns-then-not-branch c =
    leads_nowhere c.args.changes.now c.loop-change.change-index c.change-item.result c.args.state.now c.loop-change.state c.loop-change.invariant c.loop-change-test.true c.change-item.is
    (rw c.as_slice.ensures at (none_if _ _ _ _ c.in_ok-replay_one.ensures c.if-not-branch.true))

pub returns : goal.returns
returns c = leads_through c.args.changes.now c.loop-change.change-index c.args.state.now c.loop-change.state c.loop-change.invariant c.loop-change-test.false
