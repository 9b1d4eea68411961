use Rattle.std.proofs.Common.{◌≡◌, ◌+◌, ℕ, List, true, false, refl, sym, ◌∙◌, subst, inr}
use Rattle.disks.specs.declared.call.Call.{Call}
use Rattle.disks.specs.declared.call.Move.TheVariants.{Sync}
use Rattle.disks.specs.History.{first_of}
use Rattle.disks.specs.ReadsLeft.{reads_are_left}
use Rattle.disks.proofs.NextCall.{Now, all_new, stop_done, stop_failed, elapses}
use Rattle.disks.proofs.mem_disk.MemDiskDisk.sync.Goals as goal

pub invariant_of-self-in-Ok : goal.invariant_of-self-in-Ok
invariant_of-self-in-Ok c =
    let tick : c.count_call.new.calls ≡ c.args.self.now.calls + 1 = (c.count_call.ensures.counted c.if-not-count_call.false).0 in
    let x : Call = record { number = c.count_call.new.calls; act = Sync true } in
    record { numbered = all_new (first_of c.args.self.now.history) (first_of c.sync.new.self) c.sync.ensures.first c.args.self.now.history.moves.items c.sync.new.self.moves.items x c.args.self.now.calls c.count_call.new.calls tick refl c.args.self.now.numbered (inr c.in-Ok.ensures.ok) }

pub invariant_of-self-in-Err : goal.invariant_of-self-in-Err
invariant_of-self-in-Err c =
    let tick : c.count_call.new.calls ≡ c.args.self.now.calls + 1 = (c.count_call.ensures.counted c.if-not-count_call.false).0 in
    let x : Call = record { number = c.count_call.new.calls; act = Sync false } in
    record { numbered = all_new (first_of c.args.self.now.history) (first_of c.sync.new.self) c.sync.ensures.first c.args.self.now.history.moves.items c.sync.new.self.moves.items x c.args.self.now.calls c.count_call.new.calls tick refl c.args.self.now.numbered c.in-Err.ensures.err }

pub returns-in-Ok-clause-time : goal.returns-in-Ok-clause-time
returns-in-Ok-clause-time c =
    let tick : c.count_call.new.calls ≡ c.args.self.now.calls + 1 = (c.count_call.ensures.counted c.if-not-count_call.false).0 in
    let x : Call = record { number = c.count_call.new.calls; act = Sync true } in
    elapses (first_of c.args.self.now.history) (first_of c.sync.new.self) c.sync.ensures.first c.args.self.now.history.moves.items c.sync.new.self.moves.items x c.args.self.now.calls c.count_call.new.calls tick refl c.args.self.now.numbered (inr c.in-Ok.ensures.ok)

pub returns-in-Err-clause-time : goal.returns-in-Err-clause-time
returns-in-Err-clause-time c =
    let tick : c.count_call.new.calls ≡ c.args.self.now.calls + 1 = (c.count_call.ensures.counted c.if-not-count_call.false).0 in
    let x : Call = record { number = c.count_call.new.calls; act = Sync false } in
    elapses (first_of c.args.self.now.history) (first_of c.sync.new.self) c.sync.ensures.first c.args.self.now.history.moves.items c.sync.new.self.moves.items x c.args.self.now.calls c.count_call.new.calls tick refl c.args.self.now.numbered c.in-Err.ensures.err

pub returns-in-Ok-clause-durable : goal.returns-in-Ok-clause-durable
returns-in-Ok-clause-durable c = λ d left.
    let tick : c.count_call.new.calls ≡ c.args.self.now.calls + 1 = (c.count_call.ensures.counted c.if-not-count_call.false).0 in
    let x : Call = record { number = c.count_call.new.calls; act = Sync true } in
    let from = stop_done (first_of c.args.self.now.history) (first_of c.sync.new.self) c.sync.ensures.first c.args.self.now.history.moves.items c.sync.new.self.moves.items x c.args.self.now.calls c.count_call.new.calls tick refl c.args.self.now.numbered c.in-Ok.ensures.ok d left in
    from.2 ∙ sym c.args.self.now.history.is_replay

pub returns-in-Ok-clause-stop : goal.returns-in-Ok-clause-stop
returns-in-Ok-clause-stop c = λ d left.
    let tick : c.count_call.new.calls ≡ c.args.self.now.calls + 1 = (c.count_call.ensures.counted c.if-not-count_call.false).0 in
    let x : Call = record { number = c.count_call.new.calls; act = Sync true } in
    let from = stop_done (first_of c.args.self.now.history) (first_of c.sync.new.self) c.sync.ensures.first c.args.self.now.history.moves.items c.sync.new.self.moves.items x c.args.self.now.calls c.count_call.new.calls tick refl c.args.self.now.numbered c.in-Ok.ensures.ok d left in
    reads_are_left (first_of c.args.self.now.history) c.args.self.now.history.moves.items c.args.self.now.calls d from.2 c.args.self.now.numbered

pub returns-in-Err-clause-stop : goal.returns-in-Err-clause-stop
returns-in-Err-clause-stop c = λ d left.
    let tick : c.count_call.new.calls ≡ c.args.self.now.calls + 1 = (c.count_call.ensures.counted c.if-not-count_call.false).0 in
    let x : Call = record { number = c.count_call.new.calls; act = Sync false } in
    let from = stop_failed (first_of c.args.self.now.history) (first_of c.sync.new.self) c.sync.ensures.first c.args.self.now.history.moves.items c.sync.new.self.moves.items x c.args.self.now.calls c.count_call.new.calls tick refl c.args.self.now.numbered c.in-Err.ensures.err d refl left in
    subst (λ (b : List ℕ). Now (first_of c.args.self.now.history) c.args.self.now.history.moves.items c.args.self.now.calls b) (sym from.2) from.1
