use Rattle.std.proofs.Common.{refl}
use Rattle.manifest_tree.proofs.Spans.{run_ok}
use Rattle.manifest_tree.proofs.units.take_run.Goals as goal

pub returns-clause-run : goal.returns-clause-run
returns-clause-run c = run_ok c.args.until c.args.out.now.items c.extend_from_slice.new.self.items c.args.bytes.now c.past_run-rest.result.now _ c.in_ok-extend_from_slice.ensures.items refl c.past_run-rest.ensures.rest
