use Rattle.std.proofs.Common.{length, ◌++◌, [], ◌∷◌, ◌∙◌, ap, ℕ, List}
use Rattle.journal.specs.Layout.{long_bytes}
use Rattle.journal.specs.Log.{tables_in}
use Rattle.journal.proofs.Tables.{framed_tables}
use Rattle.journal.proofs.gate.frame_tables.Goals as goal

pub returns-clause-tail : goal.returns-clause-tail
unfolding long_bytes
returns-clause-tail c =
    framed_tables c.args.piece.now c.copy_from_slice.new.self c.args.serial c.requires (ap length (c.copy_from_slice.ensures.after ∙ c.to_be_bytes.ensures))
    ∙ ap (λ (l : List ℕ). c.args.serial ∷ (l ++ (tables_in c.args.piece.now ++ 0 ∷ []))) (c.copy_from_slice.ensures.after ∙ c.to_be_bytes.ensures)
