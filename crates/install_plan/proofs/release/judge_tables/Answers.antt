use Rattle.machine.specs.InstallRow.{weight_installed}
use Rattle.store_state.specs.Tables.{table_shape}
use Rattle.install_plan.proofs.TableRoom.{heavy_refused, light_passes, plain_passes}
use Rattle.install_plan.proofs.release.judge_tables.Goals as goal

pub returns-then-room-eq0 : goal.returns-then-room-eq0
returns-then-room-eq0 c = λ places.
    plain_passes c.args.room
    (weight_installed c.args.provider.now c.args.base.now c.args.d.now c.args.a.now
    (table_shape c.args.room c.args.state.now))
    c.if-room-eq0.true

pub returns-in-Some : goal.returns-in-Some
returns-in-Some c = λ places.
    let weight = weight_installed c.args.provider.now c.args.base.now c.args.d.now c.args.a.now
    (table_shape c.args.room c.args.state.now) in
    let full = c.in-Some.ensures weight (c.in-Ok.ensures c.args.room places) in
    heavy_refused c.args.room weight c.in-Some.reply full.0 full.1

pub returns-in-None : goal.returns-in-None
returns-in-None c = λ places.
    let weight = weight_installed c.args.provider.now c.args.base.now c.args.d.now c.args.a.now
    (table_shape c.args.room c.args.state.now) in
    light_passes c.args.room weight (c.in-None.ensures weight (c.in-Ok.ensures c.args.room places))
