-- That a link failed is said only where its failure was counted.
use Rattle.std.specs.Prelude.{ℕ, List, [], ◌∷◌, IsSomeAnd}
use Rattle.outside.specs.Streams.{Rose}
use Rattle.machine.specs.declared.report.ReportLine.{ReportLine}
use Rattle.install_plan.specs.Downs.{SaysDown}

-- Where a line's reply says so, the number of failures rose from that of the line before it to its
-- own. At its type's end the number stands still and counts as risen.
abbrev pub DownsAreCounted : ℕ → List ReportLine → Type 0
DownsAreCounted from [] = Unit {0}
DownsAreCounted from (l ∷ lines) =
    (IsSomeAnd l.reply SaysDown → Rose from l.failures) × DownsAreCounted l.failures lines
