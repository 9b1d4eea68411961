use Rattle.block_files.proofs.Wider.{images_keep, reads_keep}
use Rattle.block_files.proofs.laws.used_contents_stay.Goals as goal

pub returns-clause-images : goal.returns-clause-images
returns-clause-images g c = images_keep g.D.Disk

pub returns-clause-reads : goal.returns-clause-reads
returns-clause-reads g c = reads_keep g.D.Disk
