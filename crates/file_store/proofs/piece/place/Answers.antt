use Rattle.std.proofs.Common.{arith}
use Rattle.small_types.proofs.BlockPlaces.{place_is}
use Rattle.file_store.proofs.piece.place.Goals as goal

pub returns : goal.returns
returns c = omega (arith, place_is c.args.base c.args.blocks.now c.args.from, c.from.ensures)
