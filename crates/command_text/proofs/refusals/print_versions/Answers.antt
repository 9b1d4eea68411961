use Rattle.std.proofs.Common.{List, ℕ, subst}
use Rattle.identity.specs.Version.{version_text}
use Rattle.command_text.specs.Pieces.{WritesText}
use Rattle.command_text.proofs.JoinedTexts.{two_then}
use Rattle.command_text.proofs.refusals.print_versions.Goals as goal

pub returns : goal.returns
returns g c = subst (λ (text : List ℕ). WritesText g.K.Sink c.args.sink.now c.print_pieces.new.sink text c.print_pieces.result) (two_then c.args.front.now (version_text c.args.first) (version_text c.args.second)) c.print_pieces.ensures
