use Rattle.std.proofs.Common.{arith, length-append}
use Rattle.digest_list.proofs.checker.Checker.update.Goals as goal

pub returns-clause-fed : goal.returns-clause-fed
returns-clause-fed c list size m fed = record {
  listed = fed.listed;
  sized = fed.sized;
  count = omega (arith, fed.count, length-append m c.args.bytes.now);
  hashers = c.update.ensures list m fed.hashers;
}
