use Rattle.std.specs.Prelude.{codes}
use Rattle.manifest_text.specs.Lines as spec
use Rattle.manifest_text.proofs.LongerTexts.{known}
use Rattle.manifest_text.proofs.refusal.write_refusal.Goals as goal

pub returns : goal.returns
returns c = known (spec.line (codes "no manifest")) c.args.out.now c.in_ok-line.ensures (cc (c.as_slice.ensures, c.in_ok-said.ensures))
