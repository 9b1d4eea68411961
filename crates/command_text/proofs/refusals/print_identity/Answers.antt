use Rattle.std.proofs.Common.{◌∷◌, ◌++◌, [], ap, codes, List, ℕ, subst}
use Rattle.command_text.specs.Pieces.{WritesText}
use Rattle.command_text.proofs.JoinedTexts.{parts_then}
use Rattle.command_text.proofs.refusals.print_identity.Goals as goal

pub returns : goal.returns
returns g c =
    let key = parts_then c.args.found.now (10 ∷ []) c.as_bytes.result.now c.as_bytes-2.result.now c.as_bytes-3.result.now c.as_bytes-4.result.now c.as_bytes.ensures.value c.as_bytes-2.ensures.value c.as_bytes-3.ensures.value c.as_bytes-4.ensures.value in
    subst (λ (text : List ℕ). WritesText g.K.Sink c.args.sink.now c.print_pieces.new.sink text c.print_pieces.result) (ap (λ (text : List ℕ). codes "no identity " ++ text) key) c.print_pieces.ensures
