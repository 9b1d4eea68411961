use Rattle.std.proofs.Common.{◌≡◌, sym, None, Some}
use Rattle.machine.specs.Entries.{entry_of}
use Rattle.store_state.specs.Rows.{current_row}
use Rattle.install_plan.proofs.Absent.{no_entry, no_provider, no_view}
use Rattle.install_plan.proofs.CheckEnds.{heard_to, missed_to}
use Rattle.install_plan.proofs.check.prepare_check.Goals as goal

pub returns-in_default : goal.returns-in_default
returns-in_default g c = λ room.
    let is : None ≡ current_row c.args.key.now c.args.state.now =
    rw c.in_default.is at c.current.ensures.row in
    no_view room c.args.state.now c.args.key.now c.args.now (g.L.Links.links c.args.links.now)
    c.args.heard.now.texts c.requires.empty (sym is)

pub returns-in_default-entry : goal.returns-in_default-entry
returns-in_default-entry g c = λ room.
    let is : None ≡ entry_of c.args.key.now c.args.state.now.apps =
    rw c.in_default-entry.is at c.entry.ensures in
    no_entry room c.args.state.now c.args.key.now c.args.now (g.L.Links.links c.args.links.now)
    c.args.heard.now.texts c.requires.empty (sym is)

pub returns-in_default-provider : goal.returns-in_default-provider
returns-in_default-provider g c = λ room.
    let is : Some c.in-Some-entry.app.now ≡ entry_of c.args.key.now c.args.state.now.apps =
    rw c.in-Some-entry.is at c.entry.ensures in
    no_provider room c.args.state.now c.args.key.now c.args.now
    (g.L.Links.links c.args.links.now) c.args.heard.now.texts c.requires.empty
    c.in-Some-entry.app.now (sym is) c.in_default-provider.is

pub returns-in-Err : goal.returns-in-Err
returns-in-Err g c = λ room.
    let row : Some c.in-Some.view.now ≡ current_row c.args.key.now c.args.state.now =
    rw c.in-Some.is at c.current.ensures.row in
    let is : Some c.in-Some-entry.app.now ≡ entry_of c.args.key.now c.args.state.now.apps =
    rw c.in-Some-entry.is at c.entry.ensures in
    missed_to room c.args.state.now c.args.key.now c.args.now c.in-Some.view.now (sym row)
    c.in-Some-entry.app.now (sym is) c.in-Some-provider.provider c.in-Some-provider.is
    (g.L.Links.links c.args.links.now) (g.L.Links.links c.hear_offer.new.links)
    c.in-Err.ensures.refused.kept c.args.heard.now.texts c.hear_offer.new.heard.texts
    c.requires.empty c.in-Err.reply c.in-Err.ensures.refused c.unheard_change.result
    c.unheard_change.ensures

pub returns : goal.returns
returns g c = λ room.
    let row : Some c.in-Some.view.now ≡ current_row c.args.key.now c.args.state.now =
    rw c.in-Some.is at c.current.ensures.row in
    let is : Some c.in-Some-entry.app.now ≡ entry_of c.args.key.now c.args.state.now.apps =
    rw c.in-Some-entry.is at c.entry.ensures in
    heard_to room c.args.state.now c.args.key.now c.args.now c.in-Some.view.now (sym row)
    c.in-Some-entry.app.now (sym is) c.in-Some-provider.provider c.in-Some-provider.is
    (g.L.Links.links c.args.links.now) (g.L.Links.links c.hear_offer.new.links)
    c.in-Ok.ensures.told.kept c.args.heard.now.texts c.hear_offer.new.heard.texts
    c.requires.empty c.in-Ok.d c.in-Ok.ensures.told c.requires.moment c.heard_change.result
    c.heard_change.ensures
