use Rattle.command_text.proofs.LongLines.{kept_tell}
use Rattle.command_text.proofs.kept_line.kept_bytes_tell.Goals as goal

pub returns : goal.returns
returns c = kept_tell
