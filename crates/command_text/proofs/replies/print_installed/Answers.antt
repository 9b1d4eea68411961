use Rattle.std.proofs.Common.{◌∷◌, ◌++◌, [], ap, codes, decimal, List, ℕ, subst}
use Rattle.identity.specs.Version.{version_text}
use Rattle.command_text.specs.Pieces.{WritesText}
use Rattle.command_text.proofs.JoinedTexts.{parts_then}
use Rattle.command_text.proofs.replies.print_installed.Goals as goal

pub returns : goal.returns
returns g c =
    let key = parts_then c.args.key.now (32 ∷ (version_text c.args.version ++ (32 ∷ (decimal c.args.view ++ 10 ∷ [])))) c.as_bytes.result.now c.as_bytes-2.result.now c.as_bytes-3.result.now c.as_bytes-4.result.now c.as_bytes.ensures.value c.as_bytes-2.ensures.value c.as_bytes-3.ensures.value c.as_bytes-4.ensures.value in
    subst (λ (text : List ℕ). WritesText g.K.Sink c.args.sink.now c.print_pieces.new.sink text c.print_pieces.result) (ap (λ (text : List ℕ). codes "ok installed " ++ text) key) c.print_pieces.ensures
