use Rattle.std.proofs.Common.{◌≡◌, ◌+◌, ◌∙◌, get_or, sym, ap, arith}
use Rattle.std.proofs.lemmas.List.{get_or_default}
use Rattle.jobs.specs.NewJobs.{need_of, no_file}
use Rattle.manifests.specs.declared.facts.FileEntry.{FileEntry}
use Rattle.jobs.proofs.Needs.{need_all, need_more}
use Rattle.jobs.proofs.slots.need.Goals as goal

pub loop-place-preserved : goal.loop-place-preserved
loop-place-preserved c =
    let left = c.args.left.now in
    let k = c.loop-place.place-index in
    let more = need_more c.args.slots.now c.args.entries.now c.args.left.now c.loop-place.place-index 0 c.loop-place-test.true in
    let is : get_or c.args.entries.now (get_or c.args.left.now c.loop-place.place-index 0) no_file ≡ c.index-entries-place.result =
    get_or_default c.args.entries.now (get_or c.args.left.now c.loop-place.place-index 0) no_file c.index-entries-place.result (c.requires.within c.loop-place.place-index 0 c.loop-place-test.true) ∙ sym c.index-entries-place.is in
    let one = ap (need_of c.args.slots.now) is in
    record {
      sum = omega (arith, more, one, c.need_of-need.ensures.value, c.loop-place.invariant.sum);
      few = omega (arith, c.need_of-need.ensures.few, c.loop-place.invariant.few);
    }

pub returns : goal.returns
returns c = c.loop-place.invariant.sum ∙ need_all c.args.slots.now c.args.entries.now c.args.left.now c.loop-place.place-index (omega (arith, c.loop-place-test.false, c.loop-place.auto.place-index-end))
