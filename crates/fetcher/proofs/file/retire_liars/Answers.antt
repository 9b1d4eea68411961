use Rattle.std.proofs.Common.{subst, List}
use Rattle.causes.specs.declared.cause.Cause.{Cause}
use Rattle.fetcher.proofs.Liars.{Dropping, drop_all, dropping_end, dropping_next}
use Rattle.fetcher.proofs.file.retire_liars.Goals as goal

pub loop-cause-preserved : goal.loop-cause-preserved
loop-cause-preserved g c =
    dropping_next c.args.causes.now c.loop-cause.cause-index c.loop-cause.place c.cause-item.result
    (g.L.Links.links c.args.links.now) (g.L.Links.links c.loop-cause.links) c.loop-cause-test.true c.cause-item.is
    c.loop-cause.invariant (g.L.Links.links c.retire_liar-place.new.links) c.retire_liar-place.result
    c.retire_liar-place.ensures.drops c.retire_liar-place.ensures.next

pub returns : goal.returns
returns g c =
    dropping_end c.args.causes.now c.loop-cause.place (g.L.Links.links c.args.links.now)
    (g.L.Links.links c.loop-cause.links)
    (subst (λ (cs : List Cause). Dropping c.args.causes.now cs c.loop-cause.place (g.L.Links.links c.args.links.now)
    (g.L.Links.links c.loop-cause.links)) (drop_all c.loop-cause.cause-index c.args.causes.now c.loop-cause-test.false)
    c.loop-cause.invariant)
