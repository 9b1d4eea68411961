use Rattle.std.proofs.Common.{◌∙◌, Err, length, ap, arith}
use Rattle.journal.specs.Log.{other_half_start, both_of, tables_in}
use Rattle.journal.proofs.Blocks.{checkpoint_within}
use Rattle.table_log.proofs.StepCosts.{spends_begin}
use Rattle.table_log.proofs.Storage.{turn_behind, turn_opened, turn_reads, turn_stop}
use Rattle.table_log.proofs.stored_pieces.begin_other.Goals as goal

pub returns-in-Ok-clause-same : goal.returns-in-Ok-clause-same
returns-in-Ok-clause-same g c = λ old spells.
    turn_stop g.D.Disk old (tables_in c.args.tables.now) spells c.args.log.now c.checkpoint.new.self c.args.disk.now c.checkpoint.new.disk
    (record {
      place = other_half_start c.args.log.now;
      n = length c.args.tables.now;
      within = checkpoint_within c.args.log.now c.args.tables.now (omega (arith, c.requires.fits));
      any = c.checkpoint.ensures.any_moment;
      outside = c.checkpoint.ensures.outside;
      reads = c.checkpoint.ensures.reads_outside;
      half = c.checkpoint.ensures.half;
    })

pub returns-in-Ok-clause-opened : goal.returns-in-Ok-clause-opened
returns-in-Ok-clause-opened g c = λ old spells.
    turn_opened g.D.Disk old (tables_in c.args.tables.now) spells c.args.log.now c.checkpoint.new.self c.args.disk.now c.checkpoint.new.disk
    (record {
      place = other_half_start c.args.log.now;
      n = length c.args.tables.now;
      within = checkpoint_within c.args.log.now c.args.tables.now (omega (arith, c.requires.fits));
      any = c.checkpoint.ensures.any_moment;
      outside = c.checkpoint.ensures.outside;
      reads = c.checkpoint.ensures.reads_outside;
      half = c.checkpoint.ensures.half;
    })
    c.in-Ok.ensures.ok

pub returns-in-Ok-clause-behind : goal.returns-in-Ok-clause-behind
returns-in-Ok-clause-behind g c =
    turn_behind g.D.Disk (tables_in c.args.tables.now) c.args.log.now c.checkpoint.new.self c.args.disk.now c.checkpoint.new.disk
    (record {
      place = other_half_start c.args.log.now;
      n = length c.args.tables.now;
      within = checkpoint_within c.args.log.now c.args.tables.now (omega (arith, c.requires.fits));
      any = c.checkpoint.ensures.any_moment;
      outside = c.checkpoint.ensures.outside;
      reads = c.checkpoint.ensures.reads_outside;
      half = c.checkpoint.ensures.half;
    })

pub returns-in-Ok-clause-reads_behind : goal.returns-in-Ok-clause-reads_behind
returns-in-Ok-clause-reads_behind g c =
    turn_reads g.D.Disk (tables_in c.args.tables.now) c.args.log.now c.checkpoint.new.self c.args.disk.now c.checkpoint.new.disk
    (record {
      place = other_half_start c.args.log.now;
      n = length c.args.tables.now;
      within = checkpoint_within c.args.log.now c.args.tables.now (omega (arith, c.requires.fits));
      any = c.checkpoint.ensures.any_moment;
      outside = c.checkpoint.ensures.outside;
      reads = c.checkpoint.ensures.reads_outside;
      half = c.checkpoint.ensures.half;
    })

pub returns-in-Ok-clause-spends : goal.returns-in-Ok-clause-spends
returns-in-Ok-clause-spends g c =
    spends_begin g.D.Disk (both_of c.args.log.now) (length c.args.tables.now) c.args.disk.now c.checkpoint.new.disk _ _ (λ e. cc) (λ e. cc) c.in-Ok.ensures.spends

pub returns-in-Err-DiskFault-clause-same : goal.returns-in-Err-DiskFault-clause-same
returns-in-Err-DiskFault-clause-same g c = λ old spells.
    turn_stop g.D.Disk old (tables_in c.args.tables.now) spells c.args.log.now c.checkpoint.new.self c.args.disk.now c.checkpoint.new.disk
    (record {
      place = other_half_start c.args.log.now;
      n = length c.args.tables.now;
      within = checkpoint_within c.args.log.now c.args.tables.now (omega (arith, c.requires.fits));
      any = c.checkpoint.ensures.any_moment;
      outside = c.checkpoint.ensures.outside;
      reads = c.checkpoint.ensures.reads_outside;
      half = c.checkpoint.ensures.half;
    })

pub returns-in-Err-DiskFault-clause-behind : goal.returns-in-Err-DiskFault-clause-behind
returns-in-Err-DiskFault-clause-behind g c =
    turn_behind g.D.Disk (tables_in c.args.tables.now) c.args.log.now c.checkpoint.new.self c.args.disk.now c.checkpoint.new.disk
    (record {
      place = other_half_start c.args.log.now;
      n = length c.args.tables.now;
      within = checkpoint_within c.args.log.now c.args.tables.now (omega (arith, c.requires.fits));
      any = c.checkpoint.ensures.any_moment;
      outside = c.checkpoint.ensures.outside;
      reads = c.checkpoint.ensures.reads_outside;
      half = c.checkpoint.ensures.half;
    })

pub returns-in-Err-DiskFault-clause-reads_behind : goal.returns-in-Err-DiskFault-clause-reads_behind
returns-in-Err-DiskFault-clause-reads_behind g c =
    turn_reads g.D.Disk (tables_in c.args.tables.now) c.args.log.now c.checkpoint.new.self c.args.disk.now c.checkpoint.new.disk
    (record {
      place = other_half_start c.args.log.now;
      n = length c.args.tables.now;
      within = checkpoint_within c.args.log.now c.args.tables.now (omega (arith, c.requires.fits));
      any = c.checkpoint.ensures.any_moment;
      outside = c.checkpoint.ensures.outside;
      reads = c.checkpoint.ensures.reads_outside;
      half = c.checkpoint.ensures.half;
    })

pub returns-in-Err-DiskFault-clause-spends : goal.returns-in-Err-DiskFault-clause-spends
returns-in-Err-DiskFault-clause-spends g c =
    spends_begin g.D.Disk (both_of c.args.log.now) (length c.args.tables.now) c.args.disk.now c.checkpoint.new.disk _ _ (λ e. cc) (λ e. c.in-Err-DiskFault.is ∙ ap Err c.in-Err-DiskFault.field-0-is) c.checkpoint.ensures.spends
