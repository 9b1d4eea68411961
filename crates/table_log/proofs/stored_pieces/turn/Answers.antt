use Rattle.std.proofs.Common.{length}
use Rattle.table_log.proofs.StepCosts.{spends_begun, spends_both}
use Rattle.table_log.proofs.Storage.{turn_failed, turn_stored}
use Rattle.table_log.proofs.stored_pieces.turn.Goals as goal

pub returns-in-Err-clause-stores : goal.returns-in-Err-clause-stores
returns-in-Err-clause-stores g c = λ change old spells encodes fits.
    turn_failed g.D.Disk change old c.args.log.now c.begin_other.new.log c.args.disk.now c.begin_other.new.disk
    (record {
      same = c.begin_other.ensures.same old spells;
      behind = c.begin_other.ensures.behind;
      reads_behind = c.begin_other.ensures.reads_behind;
      half = c.begin_other.ensures.half;
    })
    _

pub returns-in-Err-clause-spends : goal.returns-in-Err-clause-spends
returns-in-Err-clause-spends g c =
    spends_begun g.D.Disk (length c.args.tables.now) (length c.args.entry.now) c.args.disk.now c.begin_other.new.disk _ _ (λ e. cc) (λ e. cc) c.begin_other.ensures.spends

pub returns-in-Ok-clause-stores : goal.returns-in-Ok-clause-stores
returns-in-Ok-clause-stores g c = λ change old spells encodes fits.
    turn_stored g.D.Disk change old c.args.log.now c.begin_other.new.log c.args.disk.now c.begin_other.new.disk
    (record {
      same = c.begin_other.ensures.same old spells;
      behind = c.begin_other.ensures.behind;
      reads_behind = c.begin_other.ensures.reads_behind;
      half = c.begin_other.ensures.half;
    })
    c.append.result c.append.new.log c.append.new.disk (c.in-Ok.ensures.opened old spells) (c.append.ensures.stores change old encodes fits)

pub returns-in-Ok-clause-spends : goal.returns-in-Ok-clause-spends
returns-in-Ok-clause-spends g c =
    spends_both g.D.Disk (length c.args.tables.now) (length c.args.entry.now) c.args.disk.now c.begin_other.new.disk c.append.new.disk _ _ (λ e. absurd cc) c.in-Ok.ensures.spends c.append.ensures.spends
