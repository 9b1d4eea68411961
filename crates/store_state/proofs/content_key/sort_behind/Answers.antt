use Rattle.std.proofs.Common.{◌-◌, length}
use Rattle.std.proofs.lemmas.List.Sorted.{IsPermutation-put_mid, IsPermutation-trans}
use borrow.Rule.Slice.PartMut.{put_mid}
use Rattle.store_state.proofs.content_key.sort_behind.Goals as goal

-- they are sorted alone, and then merged
pub returns-clause-same : goal.returns-clause-same
returns-clause-same c =
    let places = c.args.places.now in
    let held = c.args.held in
    let count = length places - held in
    let sorted = c.sort_contents.new.places in
    IsPermutation-trans places (put_mid held count places sorted) c.merge_places.new.places
    (IsPermutation-put_mid held count places sorted c.sort_contents.ensures.same)
    c.merge_places.ensures.same
