use Rattle.disks.specs.History.{first_of}
use Rattle.disks.specs.MemDisk.{disk_bytes}
use Rattle.disks.proofs.NextCall.{picked_is_left}
use Rattle.disks.proofs.mem_disk.MemDisk.stop.Goals as goal

pub returns-clause-image : goal.returns-clause-image
returns-clause-image c = (
  c.if-moment-self.false,
  picked_is_left c.args.pick (first_of c.args.self.now.history) c.first.result.now c.args.self.now.history.moves.items c.as_slice.result.now c.args.moment c.in_ok-image.image (disk_bytes c.new-2.result)
      c.first.ensures c.as_slice.ensures.value c.in_ok-image.ensures c.new-2.ensures.bytes,
)
