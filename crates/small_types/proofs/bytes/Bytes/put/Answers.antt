use Rattle.small_types.proofs.PutBytes.{put_grown}
use Rattle.small_types.proofs.bytes.Bytes.put.Goals as goal

pub returns-clause-ok : goal.returns-clause-ok
returns-clause-ok c =
    put_grown c.args.self.now c.lengthen.new.held.items c.overwrite.new.held.items c.args.piece.now c.args.place (cc (c.in_ok-lengthen.ensures.ok, c.self.view_is)) c.overwrite.ensures
