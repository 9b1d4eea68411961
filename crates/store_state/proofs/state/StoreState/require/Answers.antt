use Rattle.std.proofs.Common.{◌≡◌, ◌<◌, ℕ, List, None, Result, Ok, Err, OnErr, length, subst, sym, ap, ◌∙◌}
use Rattle.std.specs.List.{insert}
use Rattle.small_types.specs.declared.limits.TheConstants.{APPLICATION_LIMIT}
use Rattle.identity.specs.declared.key.Key.{Key}
use Rattle.machine.specs.declared.app.AppState.{AppState}
use Rattle.machine.specs.Entries.{entry_of}
use Rattle.machine.specs.RequireRow.{required}
use Rattle.store_state.specs.Tables.{Tables}
use Rattle.store_state.proofs.ChangedTables.{few_raised, with_apps}
use Rattle.store_state.proofs.KeySearch.{absent_at}
use Rattle.store_state.proofs.Required.{raised_place, inserted_place}
use Rattle.store_state.proofs.state.StoreState.require.Goals as goal

-- what holds holds after an error
after : {T E P : Type 0} (r : Result T E) → P → OnErr r P
after (Ok x) p = tt
after (Err e) p = p

-- the room that is asked for, in the fields
room_of : (key : Key) (tables : Tables) (apps : List AppState) → tables.apps ≡ apps
    → (entry_of key tables.apps ≡ None → length tables.apps < APPLICATION_LIMIT)
    → entry_of key apps ≡ None → length apps < APPLICATION_LIMIT
room_of key tables apps same room =
    subst (λ (xs : List AppState). entry_of key xs ≡ None → length xs < APPLICATION_LIMIT) same room

-- the key's entry stands at the place, and its minimum is raised
pub invariant_of-self : goal.invariant_of-self
invariant_of-self c =
    let h = raised_place c.args.key c.args.version c.self.inside.apps c.raise_at.new.apps
    c.self.inside.keys c.in-Ok.place (c.self.invariant.0, c.self.invariant.1.order)
    (record {
      range = rw (← c.as_slice.ensures) c.in-Ok.ensures.range;
      found = rw (← c.as_slice.ensures) c.in-Ok.ensures.found;
    }) c.raise_at.ensures in (
      h.kept.0,
      with_apps (record {
        boot = c.self.inside.boot;
        next_view = c.self.inside.next_view;
        next_lease = c.self.inside.next_lease;
        leases = c.self.inside.leases;
        views = c.self.inside.views;
        apps = c.self.inside.apps;
        contents = c.self.inside.contents;
      })
          _ c.self.invariant.1 h.kept.1 (few_raised c.args.key c.args.version c.self.inside.apps _
          c.self.invariant.1.few_apps (room_of c.args.key c.args.self.now c.self.inside.apps
          (ap (λ (t : Tables). t.apps) (sym c.self.view_is)) c.requires) h.is),
      c.self.invariant.2,
      c.self.invariant.3,
    )

pub returns-in-Ok-clause-ok : goal.returns-in-Ok-clause-ok
returns-in-Ok-clause-ok c =
    let h = raised_place c.args.key c.args.version c.self.inside.apps c.raise_at.new.apps
    c.self.inside.keys c.in-Ok.place (c.self.invariant.0, c.self.invariant.1.order)
    (record {
      range = rw (← c.as_slice.ensures) c.in-Ok.ensures.range;
      found = rw (← c.as_slice.ensures) c.in-Ok.ensures.found;
    }) c.raise_at.ensures in
    ap (λ (xs : List AppState). record {
      boot = c.self.inside.boot;
      next_view = c.self.inside.next_view;
      next_lease = c.self.inside.next_lease;
      leases = c.self.inside.leases;
      views = c.self.inside.views;
      apps = xs;
      contents = c.self.inside.contents;
    }) h.is
    ∙ ap (λ (t : Tables). record t { apps = required c.args.key c.args.version t.apps })
    c.self.view_is

-- the key has no entry
pub returns-in_err-text-in-Err-clause-memory : goal.returns-in_err-text-in-Err-clause-memory
returns-in_err-text-in-Err-clause-memory c =
    let none = absent_at c.args.key c.self.inside.apps c.as_slice.result.now c.in-Err.place
    (c.as_slice.ensures ∙ c.self.invariant.0, c.self.invariant.1.order)
    (record { range = c.in-Err.ensures.range; found = c.in-Err.ensures.found }) in
    after c.from_residual.result
    (ap (λ (t : Tables). entry_of c.args.key t.apps) (sym c.self.view_is) ∙ none)

pub returns-in_err-insert_both-in-Err-clause-memory : goal.returns-in_err-insert_both-in-Err-clause-memory
returns-in_err-insert_both-in-Err-clause-memory c =
    let none = absent_at c.args.key c.self.inside.apps c.as_slice.result.now c.in-Err.place
    (c.as_slice.ensures ∙ c.self.invariant.0, c.self.invariant.1.order)
    (record { range = c.in-Err.ensures.range; found = c.in-Err.ensures.found }) in
    after c.from_residual-in_err-insert_both-in-Err.result
    (ap (λ (t : Tables). entry_of c.args.key t.apps) (sym c.self.view_is) ∙ none)

-- it gets one
pub invariant_of-self-in-Err : goal.invariant_of-self-in-Err
invariant_of-self-in-Err c =
    let h = inserted_place c.args.key c.args.version c.self.inside.apps c.insert_both.new.apps
    c.self.inside.keys c.insert_both.new.keys c.in-Err.place
    (c.self.invariant.0, c.self.invariant.1.order)
    (record {
      range = rw (← c.as_slice.ensures) c.in-Err.ensures.range;
      found = rw (← c.as_slice.ensures) c.in-Err.ensures.found;
    })
    (c.in_ok-insert_both-in-Err.ensures.apps
    ∙ ap (λ (app : AppState). insert c.self.inside.apps c.in-Err.place app)
    c.new_entry-app.ensures)
    (c.in_ok-insert_both-in-Err.ensures.keys
    ∙ ap (λ (text : List ℕ). insert c.self.inside.keys c.in-Err.place text)
    c.in_ok-text-in-Err.ensures.text) in (
      h.kept.0,
      with_apps (record {
        boot = c.self.inside.boot;
        next_view = c.self.inside.next_view;
        next_lease = c.self.inside.next_lease;
        leases = c.self.inside.leases;
        views = c.self.inside.views;
        apps = c.self.inside.apps;
        contents = c.self.inside.contents;
      })
          _ c.self.invariant.1 h.kept.1 (few_raised c.args.key c.args.version c.self.inside.apps _
          c.self.invariant.1.few_apps (room_of c.args.key c.args.self.now c.self.inside.apps
          (ap (λ (t : Tables). t.apps) (sym c.self.view_is)) c.requires) h.is),
      c.self.invariant.2,
      c.self.invariant.3,
    )

pub returns-in_ok-insert_both-in-Err-clause-ok : goal.returns-in_ok-insert_both-in-Err-clause-ok
returns-in_ok-insert_both-in-Err-clause-ok c =
    let h = inserted_place c.args.key c.args.version c.self.inside.apps c.insert_both.new.apps
    c.self.inside.keys c.insert_both.new.keys c.in-Err.place
    (c.self.invariant.0, c.self.invariant.1.order)
    (record {
      range = rw (← c.as_slice.ensures) c.in-Err.ensures.range;
      found = rw (← c.as_slice.ensures) c.in-Err.ensures.found;
    })
    (c.in_ok-insert_both-in-Err.ensures.apps
    ∙ ap (λ (app : AppState). insert c.self.inside.apps c.in-Err.place app)
    c.new_entry-app.ensures)
    (c.in_ok-insert_both-in-Err.ensures.keys
    ∙ ap (λ (text : List ℕ). insert c.self.inside.keys c.in-Err.place text)
    c.in_ok-text-in-Err.ensures.text) in
    ap (λ (xs : List AppState). record {
      boot = c.self.inside.boot;
      next_view = c.self.inside.next_view;
      next_lease = c.self.inside.next_lease;
      leases = c.self.inside.leases;
      views = c.self.inside.views;
      apps = xs;
      contents = c.self.inside.contents;
    }) h.is
    ∙ ap (λ (t : Tables). record t { apps = required c.args.key c.args.version t.apps })
    c.self.view_is
