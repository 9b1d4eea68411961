use Rattle.std.proofs.Common.{◌∙◌}
use Rattle.file_store.proofs.GivenUp.{free_then, last_used, others_used, range_then}
use Rattle.file_store.proofs.store.FileStore.abandon_all.Goals as goal

pub abandon-requires : goal.abandon-requires
abandon-requires c = last_used c.loop-draft.self c.loop-draft.left.items c.pop.new.self.items c.in-Some.draft c.in-Some.ensures.items c.loop-draft.invariant.used

pub loop-draft-preserved : goal.loop-draft-preserved
loop-draft-preserved c = record {
  used = others_used c.loop-draft.self c.loop-draft.left.items c.pop.new.self.items c.in-Some.draft c.in-Some.ensures.items c.loop-draft.invariant.used c.abandon.new.self c.abandon.ensures.freed c.abandon.ensures.range;
  range = range_then c.args.self.now c.loop-draft.self c.abandon.new.self c.loop-draft.invariant.range c.abandon.ensures.range;
  free = free_then c.loop-draft.self c.loop-draft.left.items c.pop.new.self.items c.in-Some.draft c.in-Some.ensures.items c.loop-draft.invariant.used c.abandon.new.self c.abandon.ensures.freed ∙ c.loop-draft.invariant.free;
}
