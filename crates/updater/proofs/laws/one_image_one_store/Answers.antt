use Rattle.updater.proofs.HeldStore.{one_stands}
use Rattle.updater.proofs.laws.one_image_one_store.Goals as goal

pub returns : goal.returns
returns c = one_stands c.an_image_reads_as_one.ensures.one
