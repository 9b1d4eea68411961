use Rattle.std.proofs.Common.{drop}
use Rattle.fetcher.proofs.Liars.{Dropping}
use Rattle.fetcher.proofs.file.retire_liars.Given as goal

abbrev pub invariant-loop-cause : goal.invariant-loop-cause
invariant-loop-cause g l =
    Dropping l.causes (drop l.cause-index l.causes) l.place (g.L.Links.links l.initial.links)
    (g.L.Links.links l.links)
