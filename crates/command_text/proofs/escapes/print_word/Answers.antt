use Rattle.std.proofs.Common.{ℕ, List, subst}
use Rattle.identity.proofs.KeyLemmas.{word_encoded}
use Rattle.command_text.specs.Pieces.{WritesText}
use Rattle.command_text.proofs.escapes.print_word.Goals as goal

pub returns : goal.returns
returns g c = subst (λ (text : List ℕ). WritesText g.K.Sink c.args.sink.now c.print_escaped.new.sink text c.print_escaped.result) (word_encoded c.args.word.now) c.print_escaped.ensures
