use Rattle.std.proofs.Common.{◌++◌, ◌∷◌, [], List, refl, subst, sym}
use Rattle.manifests.specs.declared.facts.FileEntry.{FileEntry}
use Rattle.store_state.specs.Change.{FitsInstall}
use Rattle.store_state.specs.Named.{IsNameIndex}
use Rattle.store_state.specs.Tables.{Tables}
use Rattle.store_state.proofs.ChangedTables.{made_tables}
use Rattle.store_state.proofs.Indexed.{placed_more, placed_still, same_places}
use Rattle.store_state.proofs.NamedFiles.{one_index_more, same_indexes}
use Rattle.store_state.proofs.state.StoreState.install.Goals as goal

-- the index is still in order
pub add_places-requires-clause-sorted : goal.add_places-requires-clause-sorted
add_places-requires-clause-sorted c =
    placed_still c.self.inside.contents c.args.contents c.add_installed.new.contents
    c.as_slice.result.now c.self.inside.index.items c.room_and_names.new.places.items c.self.invariant.2
    c.in_ok-add_installed.ensures.contents c.as_slice.ensures c.room_and_names.ensures.same

-- nothing was added, and the index has its places still
pub invariant_of-self : goal.invariant_of-self
invariant_of-self c = (
  c.self.invariant.0,
  c.self.invariant.1,
  same_places c.self.inside.contents c.self.inside.contents c.self.inside.index.items
      c.room_and_names.new.places.items c.self.invariant.2 refl c.room_and_names.ensures.same,
  c.self.invariant.3,
)

-- the view and its contents stand
pub invariant_of-self-2 : goal.invariant_of-self-2
invariant_of-self-2 c =
    let inside = c.self.inside in
    let fits : FitsInstall (record {
      boot = c.self.inside.boot;
      next_view = c.self.inside.next_view;
      next_lease = c.self.inside.next_lease;
      leases = c.self.inside.leases;
      views = c.self.inside.views;
      apps = c.self.inside.apps;
      contents = c.self.inside.contents;
    })
    c.args.view c.args.contents c.args.provider c.args.now =
    subst (λ (t : Tables). FitsInstall t c.args.view c.args.contents c.args.provider c.args.now)
    (sym c.self.view_is) c.requires in
    let index = subst (λ (files : List FileEntry). IsNameIndex files c.in-Ok.names)
    c.as_slice-files.ensures c.in-Ok.ensures.names in (
      c.add_installed.ensures.kept.0,
      made_tables (record {
        boot = c.self.inside.boot;
        next_view = c.self.inside.next_view;
        next_lease = c.self.inside.next_lease;
        leases = c.self.inside.leases;
        views = c.self.inside.views;
        apps = c.self.inside.apps;
        contents = c.self.inside.contents;
      }) c.args.view c.args.view c.add_installed.new.views
          c.add_installed.new.apps c.args.contents c.add_installed.new.contents c.args.provider
          c.args.now c.self.invariant.1 fits refl c.in_ok-add_installed.ensures.views
          c.in_ok-add_installed.ensures.apps c.in_ok-add_installed.ensures.contents,
      placed_more inside.contents c.args.contents c.add_installed.new.contents c.as_slice.result.now
          c.as_slice-held.result.now inside.index.items c.room_and_names.new.places.items
          c.add_places.new.index.items c.self.invariant.2 c.in_ok-add_installed.ensures.contents
          c.as_slice.ensures c.as_slice-held.ensures c.room_and_names.ensures.same
          c.add_places.ensures.sorted c.add_places.ensures.same,
      same_indexes (inside.views ++ c.args.view ∷ []) c.add_installed.new.views
          (inside.names ++ c.in-Ok.names ∷ []) c.add_installed.new.names
          (one_index_more inside.views inside.names c.args.view c.in-Ok.names
          c.self.invariant.3 index) c.in_ok-add_installed.ensures.views
          c.in_ok-add_installed.ensures.names,
    )
