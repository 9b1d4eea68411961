use Rattle.std.proofs.Common.{◌∙◌, ◌<◌, ◌≤◌, List, ap, arith, length, subst, sym}
use Rattle.small_types.specs.declared.limits.TheConstants.{APPLICATION_LIMIT}
use Rattle.machine.specs.declared.app.AppState.{AppState}
use Rattle.store_state.specs.Notes.{noted}
use Rattle.store_state.specs.Rows.{with_app}
use Rattle.store_state.specs.Tables.{Tables}
use Rattle.store_state.proofs.CheckedApps.{noted_keys}
use Rattle.store_state.proofs.ChangedTables.{with_apps}
use Rattle.store_state.proofs.Placed.{changed_is, changed_long, changed_order, changed_texts}
use Rattle.store_state.proofs.state.StoreState.note.Goals as goal

-- the entry keeps its key
pub invariant_of-self : goal.invariant_of-self
invariant_of-self c =
    let apps = c.self.inside.apps in
    let order = c.self.invariant.1.order in
    let within : c.args.place < length apps = subst (λ (t : Tables). c.args.place < length t.apps)
    (sym c.self.view_is) c.requires in
    let long = changed_long (noted c.args.note) (noted_keys c.args.note) c.args.place apps c.note_at.new.apps order
    within c.note_at.ensures in
    let few : length c.note_at.new.apps ≤ APPLICATION_LIMIT =
    omega (arith, long, c.self.invariant.1.few_apps) in (
      c.self.invariant.0
          ∙ sym (changed_texts (noted c.args.note) (noted_keys c.args.note) c.args.place apps c.note_at.new.apps order
          within c.note_at.ensures),
      with_apps (record {
        boot = c.self.inside.boot;
        next_view = c.self.inside.next_view;
        next_lease = c.self.inside.next_lease;
        leases = c.self.inside.leases;
        views = c.self.inside.views;
        apps = c.self.inside.apps;
        contents = c.self.inside.contents;
      }) c.note_at.new.apps c.self.invariant.1
          (changed_order (noted c.args.note) (noted_keys c.args.note) c.args.place apps c.note_at.new.apps order
          within c.note_at.ensures) few,
      c.self.invariant.2,
      c.self.invariant.3,
    )

pub returns : goal.returns
returns c =
    let within : c.args.place < length c.self.inside.apps =
    subst (λ (t : Tables). c.args.place < length t.apps) (sym c.self.view_is) c.requires in
    let is = changed_is (noted c.args.note) (noted_keys c.args.note) c.args.place c.self.inside.apps
    c.note_at.new.apps c.self.invariant.1.order within c.note_at.ensures in
    ap (λ (xs : List AppState). record {
      boot = c.self.inside.boot;
      next_view = c.self.inside.next_view;
      next_lease = c.self.inside.next_lease;
      leases = c.self.inside.leases;
      views = c.self.inside.views;
      apps = xs;
      contents = c.self.inside.contents;
    }) is
    ∙ ap (λ (t : Tables). record t { apps = with_app c.args.place (noted c.args.note) t.apps })
    c.self.view_is
