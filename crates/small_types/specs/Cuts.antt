-- Texts that are cut at separators.
use Rattle.std.specs.Prelude.{ℕ, List, ◌==◌}
use Rattle.std.specs.List.{slice_split}

-- the parts between the separators
abbrev pub parts_between : ℕ → List ℕ → List (List ℕ)
parts_between separator bytes = slice_split (λ b. b == separator) bytes
