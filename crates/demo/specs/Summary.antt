-- The line of a summary.
use Rattle.std.specs.Prelude.{ℕ, List, [], ◌∷◌, ◌++◌, codes, decimal}
use Rattle.demo.specs.declared.summary.Summary.{Summary}

-- The seed, the files of each version, how many targets each install asked for, and the blocks that
-- were used behind each install and at the end.
unfoldable pub summary_line : Summary → List ℕ
summary_line s =
    codes "demo " ++ (decimal s.seed ++ (codes " files 200 asked "
    ++ (decimal s.one.asked ++ (codes " " ++ (decimal s.two.asked ++ (codes " "
    ++ (decimal s.three.asked ++ (codes " blocks " ++ (decimal s.one.blocks ++ (codes " "
    ++ (decimal s.two.blocks ++ (codes " " ++ (decimal s.three.blocks ++ (codes " "
    ++ (decimal s.blocks ++ 10 ∷ [])))))))))))))))
