use Rattle.std.proofs.Common.{arith}
use Rattle.manifests.proofs.CountLemmas.{too_many, too_many_data, program_fits, data_fits}
use Rattle.manifests.proofs.entry.counted.Goals as goal
use Rattle.manifests.proofs.entry.counted.Goals.{else-entry-via-then-entry+else-count_data-ge-LOCAL_COUNT_LIMIT, else-entry-via-else-entry}

pub returns-then-count-ge-FILE_COUNT_LIMIT : goal.returns-then-count-ge-FILE_COUNT_LIMIT
returns-then-count-ge-FILE_COUNT_LIMIT c = too_many c.args.before.now c.args.entry (omega (arith, c.count.ensures, c.if-count-ge-FILE_COUNT_LIMIT.true))

pub returns-then-count_data-ge-LOCAL_COUNT_LIMIT : goal.returns-then-count_data-ge-LOCAL_COUNT_LIMIT
returns-then-count_data-ge-LOCAL_COUNT_LIMIT c =
    too_many_data c.args.before.now c.args.entry (omega (arith, c.count.ensures, c.if-count-ge-FILE_COUNT_LIMIT.false)) c.if-entry.true
    (omega (arith, c.count_data.ensures, c.if-count_data-ge-LOCAL_COUNT_LIMIT.true))

pub returns : goal.returns
returns c = elim c.else-entry.branch [
  | else-entry-via-then-entry+else-count_data-ge-LOCAL_COUNT_LIMIT w ↦
      data_fits c.args.before.now c.args.entry (omega (arith, c.count.ensures, c.if-count-ge-FILE_COUNT_LIMIT.false)) w.if-entry.true
      (omega (arith, w.count_data.ensures, w.if-count_data-ge-LOCAL_COUNT_LIMIT.false))
  | else-entry-via-else-entry w ↦
      program_fits c.args.before.now c.args.entry (omega (arith, c.count.ensures, c.if-count-ge-FILE_COUNT_LIMIT.false)) w.if-entry.false
]
