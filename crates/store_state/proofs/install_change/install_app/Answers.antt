use Rattle.std.proofs.Common.{ℕ, List, refl, ap, ◌∙◌}
use Rattle.std.specs.List.{insert}
use Rattle.machine.specs.declared.app.AppState.{AppState}
use Rattle.machine.specs.Entries.{fresh}
use Rattle.machine.specs.Installed.{installed_app}
use Rattle.store_state.proofs.Required.{added_place, changed_place}
use Rattle.store_state.proofs.install_change.install_app.Goals as goal

-- the key's entry stands at the place
pub returns-in-Ok-clause-ok : goal.returns-in-Ok-clause-ok
returns-in-Ok-clause-ok c =
    let h = changed_place c.args.view.now.deployment.identity.key (installed_app c.args.view.now.number c.args.view.now.deployment c.args.provider c.args.now) (λ app. refl) c.args.apps.now c.install_at.new.apps c.args.keys.now c.in-Ok.place c.requires (record { range = rw (← c.as_slice.ensures) c.in-Ok.ensures.range; found = rw (← c.as_slice.ensures) c.in-Ok.ensures.found }) c.install_at.ensures in
    h.is

pub returns-in-Ok-clause-kept : goal.returns-in-Ok-clause-kept
returns-in-Ok-clause-kept c =
    let h = changed_place c.args.view.now.deployment.identity.key (installed_app c.args.view.now.number c.args.view.now.deployment c.args.provider c.args.now) (λ app. refl) c.args.apps.now c.install_at.new.apps c.args.keys.now c.in-Ok.place c.requires (record { range = rw (← c.as_slice.ensures) c.in-Ok.ensures.range; found = rw (← c.as_slice.ensures) c.in-Ok.ensures.found }) c.install_at.ensures in
    h.kept

-- it gets one
pub returns-in_ok-insert_both-in-Err-clause-ok : goal.returns-in_ok-insert_both-in-Err-clause-ok
returns-in_ok-insert_both-in-Err-clause-ok c =
    let change = installed_app c.args.view.now.number c.args.view.now.deployment c.args.provider c.args.now in
    let key = c.args.view.now.deployment.identity.key in
    let h = added_place key change (λ app. refl) c.args.apps.now c.insert_both.new.apps c.args.keys.now c.insert_both.new.keys c.in-Err.place c.requires (record { range = rw (← c.as_slice.ensures) c.in-Err.ensures.range; found = rw (← c.as_slice.ensures) c.in-Err.ensures.found })
    (c.in_ok-insert_both-in-Err.ensures.apps ∙ ap (λ (app : AppState). insert c.args.apps.now c.in-Err.place app) (c.installed_entry-app.ensures ∙ ap (λ k. change (fresh k)) c.in_ok-copy-in-Err.ensures))
    (c.in_ok-insert_both-in-Err.ensures.keys ∙ ap (λ (text : List ℕ). insert c.args.keys.now c.in-Err.place text) c.in_ok-text-in-Err.ensures.text) in
    h.is

pub returns-in_ok-insert_both-in-Err-clause-kept : goal.returns-in_ok-insert_both-in-Err-clause-kept
returns-in_ok-insert_both-in-Err-clause-kept c =
    let change = installed_app c.args.view.now.number c.args.view.now.deployment c.args.provider c.args.now in
    let key = c.args.view.now.deployment.identity.key in
    let h = added_place key change (λ app. refl) c.args.apps.now c.insert_both.new.apps c.args.keys.now c.insert_both.new.keys c.in-Err.place c.requires (record { range = rw (← c.as_slice.ensures) c.in-Err.ensures.range; found = rw (← c.as_slice.ensures) c.in-Err.ensures.found })
    (c.in_ok-insert_both-in-Err.ensures.apps ∙ ap (λ (app : AppState). insert c.args.apps.now c.in-Err.place app) (c.installed_entry-app.ensures ∙ ap (λ k. change (fresh k)) c.in_ok-copy-in-Err.ensures))
    (c.in_ok-insert_both-in-Err.ensures.keys ∙ ap (λ (text : List ℕ). insert c.args.keys.now c.in-Err.place text) c.in_ok-text-in-Err.ensures.text) in
    h.kept
