use Rattle.std.proofs.Common.{take}
use Rattle.install_plan.proofs.WantedDrafts.{FetchedSo}
use Rattle.install_plan.proofs.fetch.fetch_wanted.Given as goal

abbrev pub invariant-loop-file : goal.invariant-loop-file
invariant-loop-file g l =
    FetchedSo g.D.Disk l.listed (take l.file-index l.wanted) (g.L.Links.links l.initial.links)
    (g.L.Links.links l.links) l.initial.drafts l.drafts l.initial.files l.files l.initial.disk
    l.disk
