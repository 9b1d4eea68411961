use Rattle.std.proofs.Common.{◌-◌, ◌^◌, ap, ◌∙◌}
use Rattle.std.specs.Prelude.{map, min}
use Rattle.machine.specs.Blocks.{used_blocks}
use Rattle.store_state.specs.Tables.{Tables, bare_row}
use Rattle.store_state.proofs.Used.{used_is}
use Rattle.store_state.proofs.state.StoreState.used_blocks.Goals as goal

pub returns : goal.returns
returns c =
    used_is c.self.inside.views c.self.inside.contents c.as_slice-2.result.now c.as_slice.result.now c.self.invariant.1.contents c.as_slice-2.ensures c.as_slice.ensures c.sum_blocks.result c.add_views.result c.sum_blocks.ensures c.add_views.ensures
    ∙ ap (λ (t : Tables). min (used_blocks (map bare_row t.views)) (2 ^ 64 - 1)) c.self.view_is
