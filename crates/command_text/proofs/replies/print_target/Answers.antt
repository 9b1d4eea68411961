use Rattle.std.proofs.Common.{◌∷◌, ◌++◌, [], ap, codes, List, ℕ, subst}
use Rattle.command_text.specs.Pieces.{WritesText}
use Rattle.command_text.proofs.JoinedTexts.{address_then}
use Rattle.command_text.proofs.replies.print_target.Goals as goal

pub returns : goal.returns
returns g c =
    let address = address_then c.args.target.now (32 ∷ []) c.as_bytes.result.now c.as_bytes-2.result.now c.as_bytes.ensures.value c.as_bytes-2.ensures.value in
    subst (λ (text : List ℕ). WritesText g.K.Sink c.args.sink.now c.print_pieces.new.sink text c.print_pieces.result) (ap (λ (text : List ℕ). codes "no links " ++ text) address) c.print_pieces.ensures
