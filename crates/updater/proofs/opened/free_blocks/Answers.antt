use Rattle.std.proofs.Common.{arith}
use Rattle.updater.proofs.opened.free_blocks.Goals as goal

pub new-requires-clause-some : goal.new-requires-clause-some
new-requires-clause-some c = c.requires.limits.some

pub new-requires-clause-limit : goal.new-requires-clause-limit
new-requires-clause-limit c = c.requires.limits.most

pub new-requires-clause-base : goal.new-requires-clause-base
new-requires-clause-base c = (let most = c.requires.limits.greatest in omega (arith, most))

pub new-requires-clause-within : goal.new-requires-clause-within
new-requires-clause-within c = c.requires.placed.within

pub new-requires-clause-apart : goal.new-requires-clause-apart
new-requires-clause-apart c = c.requires.placed.apart

pub overflow_mul-base : goal.overflow_mul-base
overflow_mul-base c = (let most = c.requires.limits.greatest in omega (arith, most))

pub overflow_add-base : goal.overflow_add-base
overflow_add-base c = (let most = c.requires.limits.greatest in omega (arith, most))

pub returns-in-Ok-clause-uses : goal.returns-in-Ok-clause-uses
returns-in-Ok-clause-uses c = record {
  used = c.in-Ok.ensures.used;
  all = c.in-Ok.ensures.count;
  number = c.in-Ok.ensures.number;
  base = c.in-Ok.ensures.base;
}
