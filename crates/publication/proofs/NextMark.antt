-- One mark more.
use Rattle.std.proofs.Common.{◌≡◌, List, [], ◌∷◌, ◌++◌, Option, Some, None, refl, ap}
use Rattle.std.specs.Prelude.{option_map}
use Rattle.std.proofs.lemmas.List.{append_assoc}
use Rattle.publish_plan.specs.declared.options.Mark.{Mark}
use Rattle.publication.specs.Words.{◌>>=◌}

-- it stands behind the others, and before those to come
pub one_more : (marks : List Mark) (mark : Mark) (rest : Option (List Mark))
    → option_map (λ (ms : List Mark). (marks ++ mark ∷ []) ++ ms) rest ≡ option_map (λ (ms : List Mark). marks ++ ms) (rest >>= λ (ms : List Mark). Some (mark ∷ ms))
one_more marks mark None = refl
one_more marks mark (Some ms) = ap (λ (l : List Mark). Some l) (append_assoc marks (mark ∷ []) ms)
