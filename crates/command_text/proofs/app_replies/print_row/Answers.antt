use Rattle.std.proofs.Common.{◌∷◌, ◌++◌, ◌∙◌, [], ap, List, ℕ, subst}
use Rattle.identity.specs.Key.{key_text}
use Rattle.command_text.specs.Pieces.{WritesText, piece_text}
use Rattle.command_text.proofs.JoinedTexts.{parts_then}
use Rattle.command_text.proofs.app_replies.print_row.Goals as goal

pub returns : goal.returns
returns g c =
    let key = parts_then c.args.row.now.key (32 ∷ (piece_text c.shown_version.result ++ 10 ∷ [])) c.as_bytes.result.now c.as_bytes-2.result.now c.as_bytes-3.result.now c.as_bytes-4.result.now c.as_bytes.ensures.value c.as_bytes-2.ensures.value c.as_bytes-3.ensures.value c.as_bytes-4.ensures.value in
    let version = ap (λ (text : List ℕ). key_text c.args.row.now.key ++ (32 ∷ (text ++ 10 ∷ []))) c.shown_version.ensures in
    subst (λ (text : List ℕ). WritesText g.K.Sink c.args.sink.now c.print_pieces.new.sink text c.print_pieces.result) (key ∙ version) c.print_pieces.ensures
