use Rattle.std.proofs.Common.{◌≡◌, ◌+◌, true, false, refl, inr}
use Rattle.disks.specs.declared.call.Call.{Call}
use Rattle.disks.specs.declared.call.Move.TheVariants.{Cut}
use Rattle.disks.specs.History.{first_of}
use Rattle.disks.specs.ReadsLeft.{cut_same}
use Rattle.disks.proofs.NextCall.{all_new, stop_done, stop_failed, elapses}
use Rattle.disks.proofs.mem_disk.MemDiskDisk.cut.Goals as goal

pub invariant_of-self-in-Ok : goal.invariant_of-self-in-Ok
invariant_of-self-in-Ok c =
    let tick : c.count_call.new.calls ≡ c.args.self.now.calls + 1 = (c.count_call.ensures.counted c.if-not-count_call.false).0 in
    let x : Call = record { number = c.count_call.new.calls; act = Cut c.args.size true } in
    record { numbered = all_new (first_of c.args.self.now.history) (first_of c.cut.new.self) c.cut.ensures.first c.args.self.now.history.moves.items c.cut.new.self.moves.items x c.args.self.now.calls c.count_call.new.calls tick refl c.args.self.now.numbered (inr c.in-Ok.ensures.ok.0) }

pub invariant_of-self-in-Err : goal.invariant_of-self-in-Err
invariant_of-self-in-Err c =
    let tick : c.count_call.new.calls ≡ c.args.self.now.calls + 1 = (c.count_call.ensures.counted c.if-not-count_call.false).0 in
    let x : Call = record { number = c.count_call.new.calls; act = Cut c.args.size false } in
    record { numbered = all_new (first_of c.args.self.now.history) (first_of c.cut.new.self) c.cut.ensures.first c.args.self.now.history.moves.items c.cut.new.self.moves.items x c.args.self.now.calls c.count_call.new.calls tick refl c.args.self.now.numbered c.in-Err.ensures.err.0 }

pub returns-in-Ok-clause-time : goal.returns-in-Ok-clause-time
returns-in-Ok-clause-time c =
    let tick : c.count_call.new.calls ≡ c.args.self.now.calls + 1 = (c.count_call.ensures.counted c.if-not-count_call.false).0 in
    let x : Call = record { number = c.count_call.new.calls; act = Cut c.args.size true } in
    elapses (first_of c.args.self.now.history) (first_of c.cut.new.self) c.cut.ensures.first c.args.self.now.history.moves.items c.cut.new.self.moves.items x c.args.self.now.calls c.count_call.new.calls tick refl c.args.self.now.numbered (inr c.in-Ok.ensures.ok.0)

pub returns-in-Err-clause-time : goal.returns-in-Err-clause-time
returns-in-Err-clause-time c =
    let tick : c.count_call.new.calls ≡ c.args.self.now.calls + 1 = (c.count_call.ensures.counted c.if-not-count_call.false).0 in
    let x : Call = record { number = c.count_call.new.calls; act = Cut c.args.size false } in
    elapses (first_of c.args.self.now.history) (first_of c.cut.new.self) c.cut.ensures.first c.args.self.now.history.moves.items c.cut.new.self.moves.items x c.args.self.now.calls c.count_call.new.calls tick refl c.args.self.now.numbered c.in-Err.ensures.err.0

pub returns-in-Ok-clause-stop : goal.returns-in-Ok-clause-stop
returns-in-Ok-clause-stop c =
    let tick : c.count_call.new.calls ≡ c.args.self.now.calls + 1 = (c.count_call.ensures.counted c.if-not-count_call.false).0 in
    let x : Call = record { number = c.count_call.new.calls; act = Cut c.args.size true } in
    stop_done (first_of c.args.self.now.history) (first_of c.cut.new.self) c.cut.ensures.first c.args.self.now.history.moves.items c.cut.new.self.moves.items x c.args.self.now.calls c.count_call.new.calls tick refl c.args.self.now.numbered c.in-Ok.ensures.ok.0

pub returns-in-Err-clause-stop : goal.returns-in-Err-clause-stop
returns-in-Err-clause-stop c = λ d.
    let tick : c.count_call.new.calls ≡ c.args.self.now.calls + 1 = (c.count_call.ensures.counted c.if-not-count_call.false).0 in
    let x : Call = record { number = c.count_call.new.calls; act = Cut c.args.size false } in
    stop_failed (first_of c.args.self.now.history) (first_of c.cut.new.self) c.cut.ensures.first c.args.self.now.history.moves.items c.cut.new.self.moves.items x c.args.self.now.calls c.count_call.new.calls tick refl c.args.self.now.numbered c.in-Err.ensures.err.0 d (cut_same c.args.size d)
