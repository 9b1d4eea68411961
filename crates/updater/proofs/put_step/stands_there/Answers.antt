use Rattle.std.proofs.Common.{◌≡◌, ◌↔◌, ℕ, Bool, List, None, IfOk, sym, subst}
use Rattle.std.specs.Prelude.{IsTrue}
use Rattle.store_state.specs.Locals.{local_named}
use Rattle.store_state.specs.Stored.{data_bytes}
use Rattle.updater.proofs.FileBytes.{local_held, named_in_locals}
use Rattle.updater.proofs.FileStands.{local_in_blocks, no_file, no_view, stands_found, view_in}
use Rattle.file_store.specs.Stores.{store_base}
use Rattle.updater.proofs.put_step.stands_there.Goals as goal

pub returns-in_default-clause-stands : goal.returns-in_default-clause-stands
returns-in_default-clause-stands g c = λ told room front locals.
    no_view room c.args.state.now c.args.number c.args.name.now c.args.bytes.now
    (g.D.Disk.seen c.args.disk.now) c.in_default.ensures

pub has_bytes-requires : goal.has_bytes-requires
has_bytes-requires g c =
    local_held c.args.state.now c.in-Some.view.now c.in-Some-local.file.now c.requires
    (view_in c.args.number c.args.state.now.views c.in-Some.view.now c.in-Some.ensures)
    (named_in_locals c.args.name.now c.in-Some.view.now.locals c.in-Some-local.file.now (sym c.in-Some-local.ensures))

pub returns-in-Some-local-clause-stands : goal.returns-in-Some-local-clause-stands
returns-in-Some-local-clause-stands g c = λ told room front locals.
    let seen = g.D.Disk.seen c.args.disk.now in
    let view = c.in-Some.view.now in
    let file = c.in-Some-local.file.now in
    let stands = local_in_blocks room (store_base c.args.files.now) seen view file c.args.state.now.views front locals
    (view_in c.args.number c.args.state.now.views view c.in-Some.ensures)
    (named_in_locals c.args.name.now view.locals file (sym c.in-Some-local.ensures)) in
    stands_found room c.args.state.now c.args.number c.args.name.now c.args.bytes.now seen view file
    c.in-Some.ensures c.in-Some-local.ensures c.has_bytes.result
    (subst (λ (bytes : List ℕ). IfOk c.has_bytes.result (λ (same : Bool). IsTrue same ↔ (data_bytes room seen file ≡ bytes)))
    c.as_slice.ensures (c.has_bytes.ensures.same told (data_bytes room seen file) stands.0 stands.1))

pub returns-in-None-clause-stands : goal.returns-in-None-clause-stands
returns-in-None-clause-stands g c = λ told room front locals.
    let none : None ≡ local_named c.args.name.now c.in-Some.view.now.locals =
    rw c.in-None.is at c.local.ensures in
    no_file room c.args.state.now c.args.number c.args.name.now c.args.bytes.now
    (g.D.Disk.seen c.args.disk.now) c.in-Some.view.now c.in-Some.ensures none
