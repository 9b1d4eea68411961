use Rattle.identity.specs.Key.{key_text}
use Rattle.identity.proofs.PrintedLemmas.{equal_at_end, less_before, as_decided}
use Rattle.identity.proofs.key.Key.cmp_printed.Goals as goal

pub returns-in-Ok : goal.returns-in-Ok
returns-in-Ok c = equal_at_end (key_text c.args.self.now) c.args.text.now c.in-Ok.rest.now c.in-Ok.ensures c.if-is_empty.ensures

pub returns-in-Ok-2 : goal.returns-in-Ok-2
returns-in-Ok-2 c = less_before (key_text c.args.self.now) c.args.text.now c.in-Ok.rest.now c.in-Ok.ensures c.if-is_empty.ensures

pub returns-in-Err : goal.returns-in-Err
returns-in-Err c = as_decided (key_text c.args.self.now) c.args.text.now c.in-Err.order c.in-Err.ensures
