use Rattle.store_state.proofs.PutItems.{insert_there, set_there}
use Rattle.store_state.proofs.local_files.put_among.Goals as goal

pub returns-then-stands_at-clause-ok : goal.returns-then-stands_at-clause-ok
returns-then-stands_at-clause-ok c =
    set_there c.args.file c.args.files.now c.as_slice.ensures c.as_slice-2.ensures
    c.place_of_local-place.ensures.place c.stands_at.ensures c.set_at.new.files c.if-stands_at.true
    c.set_at.ensures

pub returns-clause-ok : goal.returns-clause-ok
returns-clause-ok c =
    insert_there c.args.file c.args.files.now c.as_slice.ensures c.as_slice-2.ensures
    c.place_of_local-place.ensures.place c.stands_at.ensures c.insert_at.result
    c.insert_at.new.list c.if-stands_at.false c.insert_at.ensures.ok
