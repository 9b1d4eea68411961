use Rattle.std.proofs.Common.{ap, ℕ, List, arith}
use Rattle.std.specs.Prelude.{sum_by}
use Rattle.machine.specs.Weight.{group_weight}
use Rattle.store_state.specs.declared.view.LocalFile.{LocalFile}
use Rattle.table_weight.proofs.Changed.{beside_weight, put_weighs}
use Rattle.table_weight.proofs.data_files.weigh_put.Goals as goal

pub returns : goal.returns
returns c =
    omega (
      arith,
      put_weighs c.args.view.now (record { name = c.args.name.now; length = c.args.length })
          c.requires.order,
      ap (λ (xs : List (List ℕ)). sum_by group_weight xs) c.as_slice.ensures,
      ap (λ (xs : List LocalFile). sum_by (beside_weight c.args.name.now) xs) c.as_slice-2.ensures,
      c.weigh_release.ensures,
      c.sum_weights.ensures,
      c.saturating_add.ensures,
      c.sum_others.ensures,
      c.saturating_add-2.ensures,
      c.weigh_data.ensures,
      c.saturating_add-3.ensures,
    )
