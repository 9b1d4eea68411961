use Rattle.std.proofs.Common.{◌≡◌, ◌∙◌, List, ℕ, Err, ap, sym, subst, arith}
use Rattle.small_types.specs.declared.room.Room.{Room}
use Rattle.disks.proofs.Books.{spends_as}
use Rattle.journal.specs.declared.fault.LogFault.TheVariants as log
use Rattle.journal.specs.declared.log.Recovered.{Recovered}
use Rattle.table_log.specs.declared.fault.OpenFault.TheVariants.{NotTables}
use Rattle.table_log.specs.Replay.{Settled}
use Rattle.table_log.proofs.Images.{none_reads}
use Rattle.table_log.proofs.FoundTables.{unfound, unsettled}
use Rattle.table_log.proofs.recovery.recover.Goals as goal

-- the room that a journal was found to have
abbrev room_in : Recovered → Room
room_in found = record { blocks = found.blocks; half = found.half }

pub returns-in-Err-NotALog : goal.returns-in-Err-NotALog
returns-in-Err-NotALog g c =
    let is = c.in-Err-NotALog.field-0-is in
    unfound g.D.Disk c.args.disk.now c.recover.new.disk NotTables (λ e. cc)
    (λ told same. none_reads _ (c.recover.ensures.not_a_log told (c.in-Err-NotALog.is ∙ ap Err is)))
    (record {
      seen = c.recover.ensures.seen;
      stop = c.recover.ensures.any_moment;
      durable = c.in-Err-NotALog.ensures.durable_err (λ e. absurd (let clash : log.NotALog ≡ log.DiskFault = sym is ∙ e in cc));
      synced = omega (arith, c.in-Err-NotALog.ensures.tick_err (λ e. absurd (let clash : log.NotALog ≡ log.DiskFault = sym is ∙ e in cc)));
      spends = spends_as g.D.Disk 1 0 _ _ _ ⊥ (λ e. absurd (cc)) (λ no. absurd no) c.in-Err-NotALog.ensures.spends;
    })

pub returns : goal.returns
returns g c =
    let found = c.in-Ok.found.1 in
    let fault = c.in-Err-settle.fault in
    let texts = subst (λ (t : List ℕ). Settled t c.as_slice-2.result.now (Err fault)) c.as_slice.ensures c.in-Err-settle.ensures.leads in
    let settled = subst (λ (l : List (List ℕ)). Settled found.tables l (Err fault)) c.as_slice-2.ensures texts in
    unsettled g.D.Disk c.args.disk.now c.recover.new.disk (room_in found) found.tables found.changes fault settled (λ told. c.in-Ok.ensures.found told)
    (record {
      seen = c.recover.ensures.seen;
      stop = c.recover.ensures.any_moment;
      durable = c.in-Ok.ensures.durable;
      synced = omega (arith, c.in-Ok.ensures.tick);
      spends = spends_as g.D.Disk 1 0 _ _ _ ⊥ (λ e. absurd (cc)) (λ no. absurd no) c.in-Ok.ensures.spends;
    })
