use Rattle.std.proofs.Common.{◌+◌, ◌<◌, length, arith}
use Rattle.store_state.specs.Rows.{listed_files}
use Rattle.store_state.specs.Tables.{table_shape}
use Rattle.install_plan.proofs.Judged.{listed_rows, not_so}
use Rattle.install_plan.proofs.Released.{behind_count}
use Rattle.install_plan.proofs.release.judge_files.Goals as goal

pub returns-in-Ok : goal.returns-in-Ok
returns-in-Ok c = λ room.
    let few = not_so c.lists_too_many.result (16384 < listed_files c.args.state.now.views + length c.args.a.now.files) c.lists_too_many.ensures c.if-lists_too_many.false in
    ((λ many. few (omega (arith, many, listed_rows c.args.state.now.views))), c.in-Ok.ensures room)

pub returns-in-Err : goal.returns-in-Err
returns-in-Err c = λ room.
    let few = not_so c.lists_too_many.result (16384 < listed_files c.args.state.now.views + length c.args.a.now.files) c.lists_too_many.ensures c.if-lists_too_many.false in
    behind_count (table_shape room c.args.state.now) c.args.d.now c.args.a.now (λ many. few (omega (arith, many, listed_rows c.args.state.now.views))) c.in-Err.reply (c.in-Err.ensures room)
