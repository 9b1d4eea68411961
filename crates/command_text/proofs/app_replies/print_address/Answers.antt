use Rattle.std.proofs.Common.{◌∷◌, [], List, ℕ, subst}
use Rattle.command_text.specs.Pieces.{WritesText}
use Rattle.command_text.proofs.JoinedTexts.{address_then}
use Rattle.command_text.proofs.app_replies.print_address.Goals as goal

pub returns : goal.returns
returns g c =
    let address = address_then c.args.target.now (10 ∷ []) c.as_bytes.result.now c.as_bytes-2.result.now c.as_bytes.ensures.value c.as_bytes-2.ensures.value in
    subst (λ (text : List ℕ). WritesText g.K.Sink c.args.sink.now c.print_pieces.new.sink text c.print_pieces.result) address c.print_pieces.ensures
