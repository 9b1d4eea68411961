use Rattle.std.proofs.Common.{◌∙◌, refl, sym}
use Rattle.store_state.proofs.PutItems.{below_limit, count_more, count_there, within_limit, within_more}
use Rattle.store_state.proofs.local_files.has_room_for.Goals as goal

-- one of its name stands there
pub returns-then-stands_at : goal.returns-then-stands_at
returns-then-stands_at c =
    within_limit (count_there c.args.file.now c.args.files.now refl refl
    c.place_of_local-place.ensures.place c.stands_at.ensures c.if-stands_at.true
    ∙ sym c.count_outside-count.ensures)

-- it is one more, outside `.pre` or below it
pub returns-then-is_outside : goal.returns-then-is_outside
returns-then-is_outside c =
    below_limit (count_more c.args.file.now c.args.files.now refl refl
    c.place_of_local-place.ensures.place c.stands_at.ensures c.if-stands_at.false)
    c.count_outside-count.ensures (sym c.is_outside.ensures ∙ c.if-is_outside.true)

pub returns : goal.returns
returns c =
    within_more (count_more c.args.file.now c.args.files.now refl refl
    c.place_of_local-place.ensures.place c.stands_at.ensures c.if-stands_at.false)
    c.count_outside-count.ensures (sym c.is_outside.ensures ∙ c.if-is_outside.false)
