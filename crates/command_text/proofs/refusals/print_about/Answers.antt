use Rattle.std.proofs.Common.{◌∷◌, ◌++◌, [], ap, List, ℕ, subst}
use Rattle.identity.specs.Key.{word_text}
use Rattle.command_text.specs.Pieces.{WritesText}
use Rattle.command_text.proofs.refusals.print_about.Goals as goal

pub returns : goal.returns
returns g c = subst (λ (text : List ℕ). WritesText g.K.Sink c.args.sink.now c.print_pieces.new.sink text c.print_pieces.result) (ap (λ (word : List ℕ). c.args.front.now ++ (word_text word ++ 10 ∷ [])) c.as_bytes.ensures.value) c.print_pieces.ensures
