use Rattle.std.proofs.Common.{◌≡◌, ◌∙◌, ◌<◌, ℕ, AllPairs, List, None, Some, ap, get_or, length, map, subst, sym}
use Rattle.store_state.specs.declared.view.View.{View}
use Rattle.store_state.specs.Tables.{Tables}
use Rattle.store_state.proofs.NamedFiles.{index_read, row_of}
use Rattle.store_state.proofs.Numbered.{no_number, number_at_place}
use Rattle.store_state.proofs.state.StoreState.named.Goals as goal

-- the views as they are read rise
rise : (views read : List View) → read ≡ views
    → AllPairs (λ (m n : ℕ). m < n) (map (λ (view : View). view.number) views)
    → AllPairs (λ (m n : ℕ). m < n) (map (λ (view : View). view.number) read)
rise views read same rising =
    subst (λ (vs : List View). AllPairs (λ (m n : ℕ). m < n)
    (map (λ (view : View). view.number) vs)) (sym same) rising

pub returns-in-Err : goal.returns-in-Err
returns-in-Err c =
    let read = c.as_slice.result.now in
    let none = no_number (λ (view : View). view.number) read c.args.number
    (rise c.self.inside.views read c.as_slice.ensures c.self.invariant.1.rising)
    c.in-Err.field-0 c.in-Err.ensures.found in
    row_of c.args.number c.args.name.now c.args.self.now read None
    (c.as_slice.ensures ∙ ap (λ (t : Tables). t.views) c.self.view_is) none

pub find_name-requires : goal.find_name-requires
find_name-requires c =
    let within = subst (λ (vs : List View). c.in-Ok.place < length vs)
    (c.as_slice.ensures ∙ sym c.as_slice-in-Ok-2.ensures) c.in-Ok.ensures.range in
    index_read c.self.inside.views c.as_slice-in-Ok-2.result.now c.self.inside.names
    c.as_slice-in-Ok.result.now c.in-Ok.place c.index-as_slice-place-in-Ok.result
    c.as_slice-in-Ok-3.result.now
    c.self.invariant.3 c.as_slice-in-Ok-2.ensures c.as_slice-in-Ok.ensures within
    c.index-as_slice-place-in-Ok.is
    (rw c.as_slice-in-Ok-3.ensures c.index-as_slice-place.is)

pub returns-in-Ok : goal.returns-in-Ok
returns-in-Ok c =
    let read = c.as_slice.result.now in
    let view = c.index-as_slice-place-in-Ok.result in
    let is = c.index-as_slice-place-in-Ok.is
    ∙ ap (λ (vs : List View). get_or vs c.in-Ok.place view) (c.as_slice-in-Ok-2.ensures
    ∙ sym c.as_slice.ensures) in
    let row = number_at_place (λ (v : View). v.number) read c.args.number
    (rise c.self.inside.views read c.as_slice.ensures c.self.invariant.1.rising) c.in-Ok.place
    view c.in-Ok.ensures.range c.in-Ok.ensures.found is in
    c.find_name.ensures ∙ row_of c.args.number c.args.name.now c.args.self.now read (Some view)
    (c.as_slice.ensures ∙ ap (λ (t : Tables). t.views) c.self.view_is) row
