use Rattle.std.proofs.Common.{length, arith}
use Rattle.journal.specs.Log.{end_of, entry_in}
use Rattle.journal.proofs.Blocks.{append_within}
use Rattle.table_log.specs.declared.fault.StepFault.TheVariants.{DiskFault}
use Rattle.table_log.proofs.Storage.{append_done, append_failed}
use Rattle.table_log.proofs.stored_pieces.append.Goals as goal

pub returns-in-Ok-clause-stores : goal.returns-in-Ok-clause-stores
returns-in-Ok-clause-stores g c = λ change tables encodes fits.
    append_done g.D.Disk change tables (entry_in c.args.entry.now) encodes fits c.args.log.now c.append.new.self c.args.disk.now c.append.new.disk
    (record {
      place = end_of c.args.log.now;
      n = length c.args.entry.now;
      within = append_within c.args.log.now c.args.entry.now (omega (arith, c.requires.some)) c.requires.fits;
      any = c.append.ensures.any_moment;
      outside = c.append.ensures.outside;
      reads = c.append.ensures.reads_outside;
      half = c.append.ensures.half;
      calls = c.append.ensures.spends.within;
    })
    _ c.in-Ok.ensures.ok c.in-Ok.ensures.durable c.in-Ok.ensures.tick

pub returns-in-Err-DiskFault-clause-stores : goal.returns-in-Err-DiskFault-clause-stores
returns-in-Err-DiskFault-clause-stores g c = λ change tables encodes fits.
    append_failed g.D.Disk change tables (entry_in c.args.entry.now) encodes fits c.args.log.now c.append.new.self c.args.disk.now c.append.new.disk
    (record {
      place = end_of c.args.log.now;
      n = length c.args.entry.now;
      within = append_within c.args.log.now c.args.entry.now (omega (arith, c.requires.some)) c.requires.fits;
      any = c.append.ensures.any_moment;
      outside = c.append.ensures.outside;
      reads = c.append.ensures.reads_outside;
      half = c.append.ensures.half;
      calls = c.append.ensures.spends.within;
    })
    DiskFault
