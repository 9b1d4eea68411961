use Rattle.std.proofs.Common.{Ok, Err, refl, ap, ◌∙◌, arith}
use Rattle.demo.specs.declared.fault.DemoFault.TheVariants.{DiskFault, Memory}
use Rattle.table_log.proofs.NewRooms.{made_limits}
use Rattle.demo.proofs.NewStore.{format_touches, reads_new}
use Rattle.demo.proofs.Touches.{after}
use Rattle.demo.proofs.run.open.Goals as goal

pub format-requires : goal.format-requires
format-requires g c = made_limits 65536 c.new_room.result c.new_room.ensures (omega arith) (omega arith)

pub open_new-requires : goal.open_new-requires
open_new-requires g c = reads_new c.new_room.result _ c.new_room.ensures c.in-Ok.ensures.seen

pub returns-in-Ok : goal.returns-in-Ok
returns-in-Ok g c = record {
  begins = c.open_new.ensures.begins;
  touches = after g.D.Disk
      (format_touches g.D.Disk c.args.disk.now c.format.new.disk c.format.result (Ok (tt {0})) _ c.format.ensures.spends
      (λ is. cc (is, c.in-Ok.is)) (λ is. cc (is)) (λ is. cc (is)))
      c.open_new.ensures.touches;
}

pub returns-in-Err-DiskFault : goal.returns-in-Err-DiskFault
returns-in-Err-DiskFault g c = record {
  begins = λ tells. tt;
  touches = format_touches g.D.Disk c.args.disk.now c.format.new.disk c.format.result (Err DiskFault) _ c.format.ensures.spends
      (λ is. refl) (λ is. c.in-Err-DiskFault.is ∙ ap Err c.in-Err-DiskFault.field-0-is) (λ is. cc (is));
}

pub returns-in-Err-Memory : goal.returns-in-Err-Memory
returns-in-Err-Memory g c = record {
  begins = λ tells. tt;
  touches = format_touches g.D.Disk c.args.disk.now c.format.new.disk c.format.result (Err Memory) _ c.format.ensures.spends
      (λ is. cc (is, c.in-Err-Memory.is, c.in-Err-Memory.field-0-is)) (λ is. cc (is)) (λ is. cc (is));
}
