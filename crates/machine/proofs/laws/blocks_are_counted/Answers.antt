use Rattle.machine.proofs.DistinctFiles.{distinct_are_kept, distinct_differ, distinct_have_all, rounded_up}
use Rattle.machine.proofs.laws.blocks_are_counted.Goals as goal

pub returns-clause-contents : goal.returns-clause-contents
returns-clause-contents c = λ entries. record {
  among = distinct_are_kept entries;
  differ = distinct_differ entries;
  each = distinct_have_all entries;
}

pub returns-clause-bytes : goal.returns-clause-bytes
returns-clause-bytes c = rounded_up
