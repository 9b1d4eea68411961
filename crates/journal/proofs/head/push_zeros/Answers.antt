use Rattle.std.proofs.Common.{arith, ◌≡◌, length}
use Rattle.std.proofs.lemmas.Grind.{common_steps}
use Rattle.journal.proofs.HeadBlock.{zeros_behind}
use Rattle.journal.proofs.head.push_zeros.Goals as goal

pub returns : goal.returns
returns c =
    let len_is : c.args.bytes.now.len ≡ length c.args.bytes.now.items = grind (arith, common_steps) in
    let long : c.len.result ≡ length c.args.bytes.now.items = grind (arith, common_steps) in
    zeros_behind c.args.bytes.now.items c.resize.new.self.items c.len.result c.args.bytes.now.len c.args.count long len_is c.in_ok-resize.ensures.items
