use Rattle.std.proofs.Common.{◌<◌, length, sym, arith}
use Rattle.small_types.specs.declared.limits.TheConstants.{APPLICATION_LIMIT}
use Rattle.identity.specs.declared.version.Version.{Version}
use Rattle.updater.proofs.TableRoom.{still_full, target_full}
use Rattle.updater.proofs.KeyRoom.{key_passes, key_refused}
use Rattle.updater.proofs.refusal.require_refusal.Goals as goal

-- any version: the weight is the same with each
no_version : Version
no_version = record { a = 0; b = 0; c = 0; d = 0 }

pub returns-clause-none : goal.returns-clause-none
returns-clause-none c = λ none now version.
    let few : length c.args.state.now.apps < APPLICATION_LIMIT = omega (arith, c.count.ensures, c.if-count-ge-APPLICATION_LIMIT.false) in
    key_passes c.args.key.now c.args.room c.args.state.now version few c.table_full.result none (c.table_full.ensures _ (c.weight_with_key.ensures version)) now

pub returns-clause-some : goal.returns-clause-some
returns-clause-some c = λ now version old.
    let few : length c.args.state.now.apps < APPLICATION_LIMIT = omega (arith, c.count.ensures, c.if-count-ge-APPLICATION_LIMIT.false) in
    key_refused c.args.key.now c.args.room c.args.state.now version few c.table_full.result (sym c.in_default.ensures) (c.table_full.ensures _ (c.weight_with_key.ensures version)) now old

pub returns-clause-still : goal.returns-clause-still
returns-clause-still c = λ now. still_full c.args.room _ c.table_full.result (c.table_full.ensures _ (c.weight_with_key.ensures no_version)) now

pub returns-clause-no_target : goal.returns-clause-no_target
returns-clause-no_target c = target_full c.args.room _ c.table_full.result (c.table_full.ensures _ (c.weight_with_key.ensures no_version))
