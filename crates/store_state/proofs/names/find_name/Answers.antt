use Rattle.store_state.proofs.NamedFiles.{is_named, not_named, nowhere_named}
use Rattle.store_state.proofs.names.find_name.Goals as goal

pub returns-in-None : goal.returns-in-None
returns-in-None c =
    nowhere_named c.args.name.now c.args.view.now c.as_slice-files.result.now
    c.as_slice-files.ensures c.in-None.ensures.found

pub returns-then-stands : goal.returns-then-stands
returns-then-stands c =
    is_named c.args.name.now c.args.view.now c.as_slice-files.result.now c.as_slice.result.now
    c.in-Some.place c.index-files-place.result c.stands.result c.requires.differ
    c.as_slice-files.ensures c.as_slice.ensures c.in-Some.ensures.found c.in-Some.ensures.within
    c.index-files-place.is c.stands.ensures c.if-stands.true

pub returns-else-stands : goal.returns-else-stands
returns-else-stands c =
    not_named c.args.name.now c.args.view.now c.as_slice-files.result.now c.as_slice.result.now
    c.in-Some.place c.index-files-place.result c.stands.result c.requires.differ
    c.as_slice-files.ensures c.as_slice.ensures c.in-Some.ensures.found c.in-Some.ensures.within
    c.index-files-place.is c.stands.ensures c.if-stands.false
