use Rattle.std.proofs.Common.{◌≡◌, ℕ, List, true, false, ap, sym, refl, ◌∙◌, arith}
use Rattle.small_types.specs.Bytes.{put}
use Rattle.disks.specs.declared.call.Move.TheVariants.{Write}
use Rattle.disks.proofs.NextCall.{record_grown, write_fits}
use Rattle.disks.proofs.history.History.write.Goals as goal

pub invariant_of-self-then-fails : goal.invariant_of-self-then-fails
invariant_of-self-then-fails c =
    let copy : c.in-Ok.bytes ≡ c.args.piece.now = c.in-Ok.ensures in
    let both = record_grown c.args.self.now.first c.prepare.new.first c.args.self.now.bytes c.as_slice.result.now c.args.self.now.bytes c.args.self.now.moves.items c.prepare.new.moves.items c.keep.new.moves.items
    (record { number = c.args.number; act = Write c.args.place c.in-Ok.bytes false })
    c.as_slice.ensures c.in_ok-prepare.ensures.first c.prepare.ensures.moves c.keep.ensures c.args.self.now.is_replay c.args.self.now.fitting refl (write_fits c.args.place c.in-Ok.bytes c.args.piece.now false copy (omega arith)) in
    record { is_replay = both.0; fitting = both.1 }

pub invariant_of-self-in-Ok-put : goal.invariant_of-self-in-Ok-put
invariant_of-self-in-Ok-put c =
    let copy : c.in-Ok.bytes ≡ c.args.piece.now = c.in-Ok.ensures in
    let both = record_grown c.args.self.now.first c.prepare.new.first c.args.self.now.bytes c.as_slice.result.now c.put.new.self c.args.self.now.moves.items c.prepare.new.moves.items c.keep-in-Ok-put.new.moves.items
    (record { number = c.args.number; act = Write c.args.place c.in-Ok.bytes true })
    c.as_slice.ensures c.in_ok-prepare.ensures.first c.prepare.ensures.moves c.keep-in-Ok-put.ensures c.args.self.now.is_replay c.args.self.now.fitting
    (c.in-Ok-put.ensures.ok ∙ ap (λ (b : List ℕ). put c.args.place b c.args.self.now.bytes) (sym copy)) (write_fits c.args.place c.in-Ok.bytes c.args.piece.now true copy (omega arith)) in
    record { is_replay = both.0; fitting = both.1 }
