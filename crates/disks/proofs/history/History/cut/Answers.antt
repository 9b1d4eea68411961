use Rattle.std.proofs.Common.{refl, ◌∙◌}
use Rattle.std.specs.Prelude.{not}
use Rattle.disks.specs.declared.call.Move.TheVariants.{Cut}
use Rattle.disks.proofs.NextCall.{record_grown, cut_failed, cut_done}
use Rattle.disks.proofs.history.History.cut.Goals as goal

pub invariant_of-self-then-fails : goal.invariant_of-self-then-fails
invariant_of-self-then-fails c =
    let both = record_grown c.args.self.now.first c.prepare.new.first c.args.self.now.bytes c.as_slice.result.now c.args.self.now.bytes c.args.self.now.moves.items c.prepare.new.moves.items c.keep.new.moves.items
    (record { number = c.args.number; act = Cut c.args.length (not c.args.fails) })
    c.as_slice.ensures c.in_ok-prepare.ensures.first c.prepare.ensures.moves c.keep.ensures c.args.self.now.is_replay c.args.self.now.fitting (cut_failed c.args.length c.args.fails c.args.self.now.bytes c.if-fails.true) refl in
    record { is_replay = both.0; fitting = both.1 }

pub invariant_of-self-2 : goal.invariant_of-self-2
invariant_of-self-2 c =
    let both = record_grown c.args.self.now.first c.prepare.new.first c.args.self.now.bytes c.as_slice.result.now c.shorten.new.self c.args.self.now.moves.items c.prepare.new.moves.items c.keep.new.moves.items
    (record { number = c.args.number; act = Cut c.args.length (not c.args.fails) })
    c.as_slice.ensures c.in_ok-prepare.ensures.first c.prepare.ensures.moves c.keep.ensures c.args.self.now.is_replay c.args.self.now.fitting
    (c.shorten.ensures ∙ cut_done c.args.length c.args.fails c.args.self.now.bytes c.if-fails.false) refl in
    record { is_replay = both.0; fitting = both.1 }
