use Rattle.std.proofs.Common.{◌≢◌, [], length, sym}
use Rattle.digest_list.proofs.DifferenceLemmas.{difference_of-size}
use Rattle.digest_list.proofs.comparison.difference_of.Goals as goal

pub returns-then-found-size-clause-exact : goal.returns-then-found-size-clause-exact
returns-then-found-size-clause-exact c =
    let other : length c.args.bytes.now ≢ c.args.size = λ same. c.if-found-size.true same in
    sym (difference_of-size c.args.list.now c.args.size c.args.bytes.now other)

pub returns-clause-exact : goal.returns-clause-exact
returns-clause-exact c =
    c.finish.ensures.exact c.args.list.now c.args.size c.args.bytes.now
    (c.update.ensures.fed c.args.list.now c.args.size [] c.in_ok-checker.ensures.fresh)

pub returns-clause-matches : goal.returns-clause-matches
returns-clause-matches c =
    c.finish.ensures.matches c.args.list.now c.args.size c.args.bytes.now
    (c.update.ensures.fed c.args.list.now c.args.size [] c.in_ok-checker.ensures.fresh)
