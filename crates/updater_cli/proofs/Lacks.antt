-- Lines that are answered by want of memory are of commands that may find none.
use Rattle.std.proofs.Common.{◌≡◌, List, [], ◌∷◌, ◌++◌, Some, subst, sym}
use Rattle.machine.specs.declared.reply.Reply.TheVariants as says
use Rattle.machine.specs.declared.report.ReportLine.{ReportLine}
use Rattle.updater_cli.specs.Lacks.{AreLacksFew, MayLineLack}

-- one part of the lines after another
pub lacks_on : (xs ys : List ReportLine) → AreLacksFew xs → AreLacksFew ys → AreLacksFew (xs ++ ys)
lacks_on [] ys one two = two
lacks_on (x ∷ xs) ys one two = (one.0, lacks_on xs ys one.1 two)

-- one line among them
pub lacks_at : (before after lines : List ReportLine) (l : ReportLine) → lines ≡ before ++ l ∷ after
    → AreLacksFew lines → l.reply ≡ Some says.Memory → MayLineLack l.event
lacks_at before after lines l split few = at before (subst AreLacksFew split few)
  where
    at : (front : List ReportLine) → AreLacksFew (front ++ l ∷ after)
        → l.reply ≡ Some says.Memory → MayLineLack l.event
    at [] all = all.0
    at (x ∷ xs) all = at xs all.1
