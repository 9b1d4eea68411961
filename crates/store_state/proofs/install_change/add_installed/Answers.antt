use Rattle.std.proofs.Common.{◌∙◌, List, ap, length, sym}
use Rattle.store_state.specs.declared.view.Content.{Content}
use Rattle.store_state.specs.declared.view.View.{View}
use Rattle.store_state.proofs.ChangedTables.{cut_back, made_apps, read_last}
use Rattle.store_state.proofs.install_change.add_installed.Goals as goal

-- the view that is read is the one that was added
pub returns-in-Ok-clause-apps : goal.returns-in-Ok-clause-apps
returns-in-Ok-clause-apps c =
    let read = read_last c.args.views.now c.as_slice.result.now c.args.view c.index-as_slice-count.result
    (length c.as_slice-count.result.now) (ap (λ (vs : List View). length vs) c.as_slice-count.ensures)
    (c.as_slice.ensures ∙ c.in_ok-add_rows.ensures.views) c.index-as_slice-count.is in
    made_apps c.args.view c.index-as_slice-count.result c.args.provider c.args.now c.args.apps.now _ read c.in-Ok.ensures.ok

-- what was added is taken out again
pub returns-in-Err-Memory-clause-same_views : goal.returns-in-Err-Memory-clause-same_views
returns-in-Err-Memory-clause-same_views c =
    cut_back c.args.views.now _ c.add_rows.new.views c.shorten.new.self (length c.as_slice-count.result.now)
    (ap (λ (vs : List View). length vs) c.as_slice-count.ensures) c.in_ok-add_rows.ensures.views c.shorten.ensures

pub returns-in-Err-Memory-clause-same_names : goal.returns-in-Err-Memory-clause-same_names
returns-in-Err-Memory-clause-same_names c =
    cut_back c.args.names.now _ c.add_rows.new.names c.shorten-in-Err-Memory.new.self (length c.as_slice-count.result.now)
    (ap (λ (vs : List View). length vs) c.as_slice-count.ensures ∙ sym c.requires.long) c.in_ok-add_rows.ensures.names
    c.shorten-in-Err-Memory.ensures

pub returns-in-Err-Memory-clause-same_contents : goal.returns-in-Err-Memory-clause-same_contents
returns-in-Err-Memory-clause-same_contents c =
    cut_back c.args.contents.now _ c.add_rows.new.contents c.shorten-in-Err-Memory-2.new.self
    (length c.as_slice-held.result.now) (ap (λ (cs : List Content). length cs) c.as_slice-held.ensures)
    c.in_ok-add_rows.ensures.contents c.shorten-in-Err-Memory-2.ensures
