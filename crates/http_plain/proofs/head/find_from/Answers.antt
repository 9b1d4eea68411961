use Rattle.std.proofs.Common.{sym, ◌∙◌}
use Rattle.http_plain.proofs.Ends.{skipped_three, ended, onward, unended}
use Rattle.http_plain.proofs.head.find_from.Goals as goal

pub loop-place-init : goal.loop-place-init
loop-place-init c = skipped_three c.args.from c.args.text.now c.requires.none

pub returns-then-is_mark_at : goal.returns-then-is_mark_at
returns-then-is_mark_at c =
    sym (ended c.args.text.now c.loop-place.place c.loop-place-test.true (sym c.is_mark_at.ensures.value ∙ c.if-is_mark_at.true) c.loop-place.invariant)

pub loop-place-preserved : goal.loop-place-preserved
loop-place-preserved c =
    onward c.args.text.now c.loop-place.place c.loop-place-test.true (sym c.is_mark_at.ensures.value ∙ c.if-is_mark_at.false) c.loop-place.invariant

pub returns : goal.returns
returns c = sym (unended c.args.text.now c.loop-place.place c.loop-place-test.false c.loop-place.invariant)
