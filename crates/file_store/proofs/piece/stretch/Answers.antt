use Rattle.std.proofs.Common.{◌≡◌, ◌+◌, ◌-◌, ◌/◌, get_or, arith}
use Rattle.file_store.proofs.Runs.{run_start, run_more, run_stretch, stops_at}
use Rattle.file_store.proofs.piece.stretch.Goals as goal

pub loop-last-init : goal.loop-last-init
loop-last-init c = record {
  first = omega arith;
  within = omega arith;
  run = run_start c.args.blocks.now (c.args.from / 4096);
}

pub returns-then-from-clause-stretch : goal.returns-then-from-clause-stretch
returns-then-from-clause-stretch c = run_stretch c.args.blocks.now c.args.from c.loop-last.last _ c.loop-last.invariant.run (omega arith)

pub returns-then-from-clause-whole : goal.returns-then-from-clause-whole
returns-then-from-clause-whole c = λ all.
    let next : get_or c.args.blocks.now (c.loop-last.last + 1) 0 ≡ get_or c.args.blocks.now c.loop-last.last 0 + 1 = stops_at c.args.blocks.now (c.args.from / 4096) ((c.args.from + c.args.want - 1) / 4096) c.loop-last.last c.loop-last.invariant.first c.loop-last-test.true all in
    absurd (c.if-from.true (omega (arith, c.from.ensures, c.from-in-loop-last.ensures, next)))

pub loop-last-preserved : goal.loop-last-preserved
loop-last-preserved c = record {
  first = omega arith;
  within = omega arith;
  run = run_more c.args.blocks.now (c.args.from / 4096) c.loop-last.last c.loop-last.invariant.first c.loop-last.invariant.run (let next : get_or c.args.blocks.now (c.loop-last.last + 1) 0 ≡ get_or c.args.blocks.now c.loop-last.last 0 + 1 = omega (arith, c.from.ensures, c.from-in-loop-last.ensures, c.if-from.false) in next);
}

pub returns-clause-stretch : goal.returns-clause-stretch
returns-clause-stretch c = run_stretch c.args.blocks.now c.args.from c.loop-last.last c.args.want c.loop-last.invariant.run (omega arith)
