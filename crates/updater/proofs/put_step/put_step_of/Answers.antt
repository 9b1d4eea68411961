use Rattle.std.proofs.Common.{◌≤◌, ℕ, Some, refl, sym, subst, arith}
use Rattle.machine.specs.Blocks.{free_blocks}
use Rattle.store_state.specs.Tables.{table_shape}
use Rattle.updater.proofs.PutRefused.{bad_name, no_from, no_room, put_passes, told_with, too_heavy, too_many, weight_with}
use Rattle.updater.proofs.TableRoom.{still_full, target_full}
use Rattle.updater.proofs.put_step.put_step_of.Goals as goal

pub returns-then-is_bad_name-clause-refused : goal.returns-then-is_bad_name-clause-refused
returns-then-is_bad_name-clause-refused c = λ keeps old.
    bad_name c.args.lease c.args.room c.args.name.now c.args.bytes.now c.args.state.now
    c.in-Some.view.now (sym c.in-Some.ensures.row) old
    (c.is_bad_name.ensures.0 c.if-is_bad_name.true)

pub returns-then-is_one_too_many-clause-refused : goal.returns-then-is_one_too_many-clause-refused
returns-then-is_one_too_many-clause-refused c = λ keeps old.
    too_many c.args.lease c.args.room c.args.name.now c.args.bytes.now c.args.state.now
    c.in-Some.view.now (sym c.in-Some.ensures.row)
    (no_from c.is_bad_name.result c.is_bad_name.ensures c.if-is_bad_name.false) old
    (c.is_one_too_many.ensures.0 c.if-is_one_too_many.true)

pub returns-then-free-need-clause-refused : goal.returns-then-free-need-clause-refused
returns-then-free-need-clause-refused c = λ keeps old.
    no_room c.args.lease c.args.room c.args.name.now c.args.bytes.now c.args.state.now
    c.in-Some.view.now (sym c.in-Some.ensures.row)
    (no_from c.is_bad_name.result c.is_bad_name.ensures c.if-is_bad_name.false)
    (no_from c.is_one_too_many.result c.is_one_too_many.ensures c.if-is_one_too_many.false)
    old c.blocks_of-need.result c.free_blocks-free.result c.blocks_of-need.ensures
    c.free_blocks-free.ensures (let less = c.if-free-need.true in omega (arith, less))

pub returns-in-Some-table_full-clause-refused : goal.returns-in-Some-table_full-clause-refused
returns-in-Some-table_full-clause-refused c = λ keeps old.
    let view = c.in-Some.view.now in
    let told = told_with c.args.room c.args.state.now view.number c.args.name.now c.as_slice.result.now c.args.bytes.now c.weight_with_data.result c.as_slice.ensures
    (c.weight_with_data.ensures c.args.room) in
    let full = c.in-Some-table_full.ensures (weight_with c.args.room c.args.state.now view.number c.args.name.now c.args.bytes.now) told in
    too_heavy c.args.lease c.args.room c.args.name.now c.args.bytes.now c.args.state.now
    view (sym c.in-Some.ensures.row)
    (no_from c.is_bad_name.result c.is_bad_name.ensures c.if-is_bad_name.false)
    (no_from c.is_one_too_many.result c.is_one_too_many.ensures c.if-is_one_too_many.false)
    c.blocks_of-need.result c.free_blocks-free.result c.blocks_of-need.ensures
    c.free_blocks-free.ensures (λ less. let enough = c.if-free-need.false in omega (arith, enough, less))
    old c.in-Some-table_full.reply full.0 full.1

pub returns-in-Some-table_full-clause-still : goal.returns-in-Some-table_full-clause-still
returns-in-Some-table_full-clause-still c = λ now.
    still_full c.args.room _ (Some c.in-Some-table_full.reply)
    (c.in-Some-table_full.ensures _ (c.weight_with_data.ensures c.args.room)) now

pub returns-in-Some-table_full-clause-no_target : goal.returns-in-Some-table_full-clause-no_target
returns-in-Some-table_full-clause-no_target c =
    target_full c.args.room _ (Some c.in-Some-table_full.reply)
    (c.in-Some-table_full.ensures _ (c.weight_with_data.ensures c.args.room))

pub returns-clause-putting : goal.returns-clause-putting
returns-clause-putting c =
    let view = c.in-Some.view.now in
    let told = told_with c.args.room c.args.state.now view.number c.args.name.now c.as_slice.result.now c.args.bytes.now c.weight_with_data.result c.as_slice.ensures
    (c.weight_with_data.ensures c.args.room) in
    record {
      passes = put_passes c.args.lease c.args.room c.args.name.now c.args.bytes.now
          c.args.state.now view (sym c.in-Some.ensures.row)
          (no_from c.is_bad_name.result c.is_bad_name.ensures c.if-is_bad_name.false)
          (no_from c.is_one_too_many.result c.is_one_too_many.ensures c.if-is_one_too_many.false)
          c.blocks_of-need.result c.free_blocks-free.result c.blocks_of-need.ensures
          c.free_blocks-free.ensures (λ less. let enough = c.if-free-need.false in omega (arith, enough, less))
          (c.in_default-table_full.ensures (weight_with c.args.room c.args.state.now view.number c.args.name.now c.args.bytes.now) told);
      row = view;
      leased = sym c.in-Some.ensures.row;
      view = refl;
    }

pub returns-clause-enough : goal.returns-clause-enough
returns-clause-enough c =
    subst (λ (n : ℕ). n ≤ free_blocks (table_shape c.args.room c.args.state.now)) c.blocks_of-need.ensures
    (subst (λ (n : ℕ). c.blocks_of-need.result ≤ n) c.free_blocks-free.ensures
    (let enough = c.if-free-need.false in omega (arith, enough)))
