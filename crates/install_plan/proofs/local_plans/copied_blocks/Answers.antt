use Rattle.std.proofs.Common.{◌∙◌, ◌≤◌, List, ap, None, Some, subst, sym}
use Rattle.store_state.specs.declared.view.LocalFile.{LocalFile}
use Rattle.store_state.specs.Locals.{outside_locals}
use Rattle.install_plan.specs.Carried.{copied_in}
use Rattle.install_plan.proofs.Planned.{copied_at, row_few}
use Rattle.install_plan.proofs.local_plans.copied_blocks.Goals as goal

pub copied_in-requires : goal.copied_in-requires
copied_in-requires c = record {
  few = subst (λ (files : List LocalFile). outside_locals files ≤ 256) (sym c.as_slice.ensures)
      (row_few c.args.key.now c.args.state.now c.are_tables.ensures (Some c.in-Some.view.now)
      (sym c.in-Some.ensures.row));
}

pub returns-in-Some-clause-sum : goal.returns-in-Some-clause-sum
returns-in-Some-clause-sum c = λ room.
    c.copied_in.ensures.sum ∙ ap copied_in c.as_slice.ensures
    ∙ copied_at c.args.key.now c.args.state.now room (Some c.in-Some.view.now) c.in-Some.ensures.row

pub returns-in-None-clause-sum : goal.returns-in-None-clause-sum
returns-in-None-clause-sum c = λ room. copied_at c.args.key.now c.args.state.now room None c.in-None.ensures.row
