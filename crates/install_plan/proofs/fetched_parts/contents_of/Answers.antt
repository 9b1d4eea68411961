use Rattle.std.proofs.Common.{◌∙◌, ap, get_or, sym}
use Rattle.install_plan.specs.declared.plan.WantedFile.{WantedFile}
use Rattle.install_plan.proofs.FetchedSplit.{content_more}
use Rattle.install_plan.proofs.fetched_parts.contents_of.Goals as goal

pub loop-place-preserved : goal.loop-place-preserved
loop-place-preserved c =
    content_more c.args.files.now c.args.wanted.now c.args.drafts.now c.loop-place.place
    c.index-wanted-place.result c.index-files-wanted.result c.index-drafts-place.result
    c.requires.within c.loop-place-test.true c.index-wanted-place.is
    (c.index-files-wanted.is ∙ ap (λ (w : WantedFile). get_or c.args.files.now w.place c.index-files-wanted.result) (sym c.index-wanted-place.is))
    c.requires.each c.index-drafts-place.is c.loop-place.contents.items c.push.new.self.items _
    c.in-Ok.content c.loop-place.invariant c.in-Ok.ensures.made c.in_default.ensures.items
