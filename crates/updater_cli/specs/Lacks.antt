-- Which lines may be answered by want of memory.
use Rattle.std.specs.Prelude.{◌≡◌, List, [], ◌∷◌, Some}
use Rattle.machine.specs.declared.event.Event.{Event}
use Rattle.machine.specs.declared.event.Event.TheVariants.{Boot, Line, Unread}
use Rattle.machine.specs.declared.reply.Reply.TheVariants as says
use Rattle.machine.specs.declared.report.ReportLine.{ReportLine}
use Rattle.updater.specs.Commanded.{MayLack}

-- a line whose command may find no memory
abbrev pub MayLineLack : Event → Type 0
MayLineLack (Line command at heard) = MayLack command
MayLineLack (Boot boot) = Unit {0}
MayLineLack (Unread fault) = Unit {0}

-- Each line that is answered by want of memory is one that may find none. So a launch, a skip, a
-- rollback, a finish and `at` are answered otherwise.
abbrev pub AreLacksFew : List ReportLine → Type 0
AreLacksFew [] = Unit {0}
AreLacksFew (l ∷ lines) =
    (l.reply ≡ Some says.Memory → MayLineLack l.event) × AreLacksFew lines
