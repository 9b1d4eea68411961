-- Lines whose replies say of a link that it failed come with numbers that rose.
use Rattle.std.proofs.Common.{ℕ, ◌≤◌, List, [], ◌∷◌, ◌++◌, arith}
use Rattle.outside.specs.Streams.{Rose}
use Rattle.outside.proofs.Counts.{rose_within}
use Rattle.machine.specs.declared.report.ReportLine.{ReportLine}
use Rattle.updater_cli.specs.Downs.{DownsAreCounted}
use Rattle.updater_cli.specs.Report.{FailuresRise}

-- from a number that is not above
rose_from : (a b c : ℕ) → a ≤ b → b ≤ c → Rose b c → Rose a c
rose_from a b c low high rose = rose_within a b c c low high rose (omega arith)

-- one part of the lines after another
pub downs_on : (a b c : ℕ) (xs ys : List ReportLine) → FailuresRise a xs b → DownsAreCounted a xs → FailuresRise b ys c → DownsAreCounted b ys → DownsAreCounted a (xs ++ ys)
downs_on a b c [] [] first one second two = tt
downs_on a b c [] (y ∷ ys) first one second two = ((λ down. rose_from a b y.failures first second.0 (two.0 down)), two.1)
downs_on a b c (x ∷ xs) ys first one second two = (one.0, downs_on x.failures b c xs ys first.1 one.1 second two)
