use Rattle.audit_list.proofs.RefusedLines.{reads_again}
use Rattle.audit_list.proofs.reader.read_audit.Goals as goal

pub returns-clause-again : goal.returns-clause-again
returns-clause-again c = reads_again c.args.bytes.now c.read_text.result c.read_text.ensures
