use Rattle.std.proofs.Common.{◌∙◌, ap, subst}
use Rattle.store_state.specs.Kept.{AreTables}
use Rattle.store_state.specs.Tables.{Tables}
use Rattle.store_state.proofs.Indexed.{content_read, none_read}
use Rattle.store_state.proofs.state.StoreState.content.Goals as goal

pub returns-in-Some : goal.returns-in-Some
returns-in-Some c =
    let are : AreTables c.args.self.now = subst AreTables c.self.view_is c.self.invariant.1 in
    content_read c.args.self.now.contents c.as_slice-in-Some.result.now c.as_slice.result.now
    c.args.entry.now c.in-Some.place c.index-as_slice-place.result
    (c.as_slice-in-Some.ensures ∙ ap (λ (t : Tables). t.contents) c.self.view_is)
    c.as_slice.ensures.value are.contents.once c.in-Some.ensures.found c.in-Some.ensures.within
    c.index-as_slice-place.is

pub returns-in-None : goal.returns-in-None
returns-in-None c =
    none_read c.args.self.now.contents c.as_slice.result.now c.args.entry.now
    c.as_slice.ensures.value c.in-None.ensures.found
