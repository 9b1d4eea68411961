use Rattle.std.proofs.Common.{◌≡◌, get_or, List, Some, Ok, refl, sym, ap, ◌∙◌}
use Rattle.machine.specs.declared.app.AppState.{AppState}
use Rattle.machine.specs.Entries.{entry_of}
use Rattle.store_state.specs.Tables.{Tables}
use Rattle.identity.specs.Key.{key_text}
use Rattle.machine.proofs.Places.{searched_keys, found}
use Rattle.store_state.proofs.KeySearch.{absent_at}
use Rattle.store_state.proofs.state.StoreState.entry.Goals as goal

-- the key's entry stands at the place
pub returns-in-Ok : goal.returns-in-Ok
returns-in-Ok c =
    let key = c.args.key.now in
    let apps = c.self.inside.apps in
    let at = searched_keys key apps c.as_slice.result.now (key_text key) (Ok c.in-Ok.place) (c.as_slice.ensures ∙ c.self.invariant.0, c.self.invariant.1.order) refl c.in-Ok.ensures.range c.in-Ok.ensures.found in
    let entry = found key apps c.in-Ok.place c.index-as_slice-place.result c.self.invariant.1.order at.found.0 (at.found.1 c.index-as_slice-place.result) in
    let read : c.index-as_slice-place.result ≡ get_or apps c.in-Ok.place c.index-as_slice-place.result = c.index-as_slice-place.is ∙ ap (λ (xs : List AppState). get_or xs c.in-Ok.place c.index-as_slice-place.result) c.as_slice-in-Ok.ensures in
    ap Some read ∙ sym entry ∙ ap (λ (t : Tables). entry_of key t.apps) c.self.view_is

-- the key has no entry
pub returns-in-Err : goal.returns-in-Err
returns-in-Err c =
    let key = c.args.key.now in
    let apps = c.self.inside.apps in
    let none = absent_at key apps c.as_slice.result.now c.in-Err.field-0 (c.as_slice.ensures ∙ c.self.invariant.0, c.self.invariant.1.order) (record { range = c.in-Err.ensures.range; found = c.in-Err.ensures.found }) in
    sym none ∙ ap (λ (t : Tables). entry_of key t.apps) c.self.view_is
