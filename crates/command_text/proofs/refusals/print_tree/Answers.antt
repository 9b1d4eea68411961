use Rattle.std.proofs.Common.{◌∷◌, ◌++◌, ◌∙◌, [], ap, codes, decimal, List, ℕ, subst}
use Rattle.manifest_text.specs.Lines.{kind_text}
use Rattle.command_text.specs.Pieces.{WritesText}
use Rattle.command_text.proofs.JoinedTexts.{two_then}
use Rattle.command_text.proofs.refusals.print_tree.Goals as goal

pub returns : goal.returns
returns g c =
    let kind = ap (λ (word : List ℕ). codes "no manifest tree " ++ (word ++ (32 ∷ (decimal c.args.fault.place ++ 10 ∷ [])))) c.kind_word.ensures in
    subst (λ (text : List ℕ). WritesText g.K.Sink c.args.sink.now c.print_pieces.new.sink text c.print_pieces.result) (kind ∙ two_then (codes "no manifest tree ") (kind_text c.args.fault.kind) (decimal c.args.fault.place)) c.print_pieces.ensures
