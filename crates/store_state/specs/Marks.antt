-- Marks of the items of a list.
use Rattle.std.specs.Prelude.{Bool, List, [], ◌∷◌, if◌then◌else◌}

-- those of the items that are marked
abbrev pub kept_by : {X : Type 0} → List Bool → List X → List X
kept_by [] xs = []
kept_by (mark ∷ marks) [] = []
kept_by (mark ∷ marks) (x ∷ xs) = if mark then x ∷ kept_by marks xs else kept_by marks xs
