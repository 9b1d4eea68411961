use Rattle.std.proofs.Common.{◌≡◌, ◌^◌, ◌-◌, min, map, subst}
use Rattle.machine.specs.Blocks.{used_blocks}
use Rattle.store_state.specs.Tables.{bare_row}
use Rattle.updater.specs.Shown.{Updater}
use Rattle.updater.proofs.ChangedStores.{used_shown}
use Rattle.updater.proofs.updater.Updater.used_blocks.Goals as goal

pub returns : goal.returns
returns c = λ room image store shows valid.
    used_shown room c.args.self.now.state image store c.used_blocks.result shows valid
    (subst (λ (u : Updater). c.used_blocks.result ≡ min (used_blocks (map bare_row u.state.views)) (2 ^ 64 - 1)) c.self.view_is c.used_blocks.ensures)
