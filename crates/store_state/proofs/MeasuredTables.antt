-- Tables of which each file has as many blocks as its length needs, once they are changed.
use Rattle.std.proofs.Common.{ℕ, All, Option, Some, None, bytes_eq, map, not}
use Rattle.std.specs.Option.{option_map_or}
use Rattle.std.proofs.lemmas.List.Elements.{All-append, All-filter, All-nil, All-push}
use Rattle.identity.specs.declared.version.Version.{Version}
use Rattle.machine.specs.Blocks.{standing_files}
use Rattle.machine.specs.CheckRow.{heard_app}
use Rattle.machine.specs.DataFiles.{with_named, without_named}
use Rattle.machine.specs.Entries.{with_entry}
use Rattle.machine.specs.LaunchRow.{started_app}
use Rattle.machine.specs.RollbackRow.{rolled_back_app}
use Rattle.machine.proofs.ChangedLists.{all_mapped}
use Rattle.store_state.specs.declared.change.Change.{Change}
use Rattle.store_state.specs.declared.change.Change.TheVariants.{Boot, Clean, Finish, Group, Heard, Install, Launch, Put, Remove, Require, Rollback, Skip, Unheard}
use Rattle.store_state.specs.declared.view.LocalFile.{LocalFile}
use Rattle.store_state.specs.declared.view.View.{View}
use Rattle.store_state.specs.Change.{effect, grown, leased}
use Rattle.store_state.specs.Contents.{IsMeasured}
use Rattle.store_state.specs.Dropped.{is_among, is_needed, removable_in, without_rows}
use Rattle.store_state.specs.Locals.{local_name}
use Rattle.store_state.specs.Measured.{AreMeasured, BringsMeasured, IsMeasuredLocal}
use Rattle.store_state.specs.Rows.{current_at, current_version, version_at, with_app}
use Rattle.store_state.specs.Tables.{Tables, bare_row, empty}
use Rattle.store_state.proofs.ByNumber.{became, change}
use Rattle.store_state.proofs.Edited.{all_edited}
use Rattle.store_state.proofs.GrownTables.{of_view}
use Rattle.store_state.proofs.PutItems.{all_left, all_with}

-- each data file of the view has as many
abbrev OfView : View → Type 0
OfView view = All IsMeasuredLocal view.locals

-- a change of what stands, where there is something
by_option : {X : Type 0} (f : X → Tables) (o : Option X) (tables : Tables) → AreMeasured tables
    → ((x : X) → AreMeasured (f x)) → AreMeasured (option_map_or f o tables)
by_option f None tables are each = are
by_option f (Some x) tables are each = each x

pub measured_stay : (tables : Tables) (change : Change) → AreMeasured tables
    → BringsMeasured change → AreMeasured (effect change tables)
measured_stay tables (Boot boot) are brings =
    record { contents = are.contents; locals = are.locals }
measured_stay tables (Require key version) are brings =
    record { contents = are.contents; locals = are.locals }
measured_stay tables (Install view contents provider now) are brings = record {
  contents = All-append IsMeasured tables.contents contents are.contents brings.0;
  locals = All-push OfView tables.views view are.locals brings.1;
}
measured_stay tables (Heard key version minimum now) are brings =
    by_option (λ (have : Version). record tables {
      apps = with_entry key (heard_app have version minimum now) tables.apps;
    }) (current_version key tables) tables are
    (λ have. record { contents = are.contents; locals = are.locals })
measured_stay tables (Unheard key) are brings =
    record { contents = are.contents; locals = are.locals }
measured_stay tables (Skip app) are brings =
    record { contents = are.contents; locals = are.locals }
measured_stay tables (Rollback app) are brings =
    by_option (λ (have : Version). record tables {
      apps = with_app app (rolled_back_app have) tables.apps;
    }) (version_at app tables) tables are
    (λ have. record { contents = are.contents; locals = are.locals })
measured_stay tables (Launch app) are brings =
    by_option (λ (view : ℕ). record (leased view tables) {
      apps = with_app app started_app tables.apps;
    }) (current_at app tables.apps) tables are
    (λ view. record { contents = are.contents; locals = are.locals })
measured_stay tables (Finish lease) are brings =
    record { contents = are.contents; locals = are.locals }
measured_stay tables (Group number group contents) are brings = record {
  contents = All-append IsMeasured tables.contents contents are.contents brings;
  locals = all_mapped (change of_view number (grown group)) OfView OfView tables.views
      (λ view there is. became of_view number (grown group) OfView view (λ same. is) (λ other. is))
      are.locals;
}
measured_stay tables (Put number file) are brings = record {
  contents = are.contents;
  locals = all_edited number (with_named local_name file) OfView
      (λ view is. all_with local_name IsMeasuredLocal file view.locals brings is) tables.views
      are.locals;
}
measured_stay tables (Remove number name) are brings = record {
  contents = are.contents;
  locals = all_edited number (without_named local_name name) OfView
      (λ view is. all_left (λ (f : LocalFile). not (bytes_eq f.name name)) IsMeasuredLocal
      view.locals is) tables.views are.locals;
}
measured_stay tables Clean are brings =
    let numbers = removable_in tables in
    let left = without_rows numbers tables.views in
    record {
      contents = All-filter (is_needed (standing_files (map bare_row left))) IsMeasured
          tables.contents are.contents;
      locals = All-filter (λ (view : View). not (is_among numbers view)) OfView tables.views
          are.locals;
    }

pub empty_measured : AreMeasured empty
empty_measured = record { contents = All-nil IsMeasured; locals = All-nil OfView }
