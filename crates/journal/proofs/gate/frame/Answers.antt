use Rattle.std.proofs.Common.{length, ◌++◌, [], ◌∷◌, ◌∙◌, ap, ℕ, List}
use Rattle.journal.specs.Layout.{size_bytes}
use Rattle.journal.specs.Log.{entry_in}
use Rattle.journal.proofs.Entries.{framed}
use Rattle.journal.proofs.gate.frame.Goals as goal

pub returns-clause-tail : goal.returns-clause-tail
unfolding size_bytes
returns-clause-tail c =
    framed c.args.piece.now c.copy_from_slice.new.self c.requires.some (ap length (c.copy_from_slice.ensures.after ∙ c.to_be_bytes.ensures))
    ∙ ap (λ (l : List ℕ). l ++ (entry_in c.args.piece.now ++ 0 ∷ [])) (c.copy_from_slice.ensures.after ∙ c.to_be_bytes.ensures)
