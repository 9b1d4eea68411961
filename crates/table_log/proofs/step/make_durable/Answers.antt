use Rattle.table_log.proofs.Durable.{nothing_made}
use Rattle.table_log.proofs.step.make_durable.Goals as goal

-- there was no memory for the change in the tables
pub returns-in-Err-Memory-clause-makes : goal.returns-in-Err-Memory-clause-makes
returns-in-Err-Memory-clause-makes g c = nothing_made g.D.Disk c.args.change c.args.state.now c.args.log.now c.args.disk.now c.make.new.state c.in-Err-Memory.ensures.err c.in-Err-Memory.ensures.memory
