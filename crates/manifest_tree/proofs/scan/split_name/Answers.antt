use Rattle.manifest_tree.specs.Lexis.{name_byte}
use Rattle.manifest_tree.proofs.Runs.{take_front}
use Rattle.manifest_tree.proofs.scan.split_name.Goals as goal

pub returns-clause-name : goal.returns-clause-name
returns-clause-name c = take_front name_byte c.args.bytes.now c.past_name-rest.result.now c.past_name-rest.ensures.rest
