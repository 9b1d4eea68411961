use Rattle.std.proofs.Common.{◌≡◌, ◌+◌, ℕ, List, true, false, refl, sym, subst, length, inr}
use Rattle.disks.specs.declared.call.Call.{Call}
use Rattle.disks.specs.declared.call.Move.TheVariants.{Write}
use Rattle.disks.specs.Disk.{Torn}
use Rattle.disks.specs.History.{first_of}
use Rattle.disks.specs.ReadsLeft.{torn_put, torn_same}
use Rattle.disks.proofs.NextCall.{all_new, stop_done, stop_failed, elapses}
use Rattle.disks.proofs.mem_disk.MemDiskDisk.write_at.Goals as goal

pub invariant_of-self-in-Ok : goal.invariant_of-self-in-Ok
invariant_of-self-in-Ok c =
    let tick : c.count_call.new.calls ≡ c.args.self.now.calls + 1 = (c.count_call.ensures.counted c.if-not-count_call.false).0 in
    let x : Call = record { number = c.count_call.new.calls; act = Write c.args.place c.args.bytes.now true } in
    record { numbered = all_new (first_of c.args.self.now.history) (first_of c.write.new.self) c.write.ensures.first c.args.self.now.history.moves.items c.write.new.self.moves.items x c.args.self.now.calls c.count_call.new.calls tick refl c.args.self.now.numbered (inr c.in-Ok.ensures.ok.0) }

pub invariant_of-self-in-Err : goal.invariant_of-self-in-Err
invariant_of-self-in-Err c =
    let tick : c.count_call.new.calls ≡ c.args.self.now.calls + 1 = (c.count_call.ensures.counted c.if-not-count_call.false).0 in
    let x : Call = record { number = c.count_call.new.calls; act = Write c.args.place c.args.bytes.now false } in
    record { numbered = all_new (first_of c.args.self.now.history) (first_of c.write.new.self) c.write.ensures.first c.args.self.now.history.moves.items c.write.new.self.moves.items x c.args.self.now.calls c.count_call.new.calls tick refl c.args.self.now.numbered c.in-Err.ensures.err.0 }

pub returns-in-Ok-clause-time : goal.returns-in-Ok-clause-time
returns-in-Ok-clause-time c =
    let tick : c.count_call.new.calls ≡ c.args.self.now.calls + 1 = (c.count_call.ensures.counted c.if-not-count_call.false).0 in
    let x : Call = record { number = c.count_call.new.calls; act = Write c.args.place c.args.bytes.now true } in
    elapses (first_of c.args.self.now.history) (first_of c.write.new.self) c.write.ensures.first c.args.self.now.history.moves.items c.write.new.self.moves.items x c.args.self.now.calls c.count_call.new.calls tick refl c.args.self.now.numbered (inr c.in-Ok.ensures.ok.0)

pub returns-in-Err-clause-time : goal.returns-in-Err-clause-time
returns-in-Err-clause-time c =
    let tick : c.count_call.new.calls ≡ c.args.self.now.calls + 1 = (c.count_call.ensures.counted c.if-not-count_call.false).0 in
    let x : Call = record { number = c.count_call.new.calls; act = Write c.args.place c.args.bytes.now false } in
    elapses (first_of c.args.self.now.history) (first_of c.write.new.self) c.write.ensures.first c.args.self.now.history.moves.items c.write.new.self.moves.items x c.args.self.now.calls c.count_call.new.calls tick refl c.args.self.now.numbered c.in-Err.ensures.err.0

pub returns-in-Ok-clause-stop : goal.returns-in-Ok-clause-stop
returns-in-Ok-clause-stop c =
    let tick : c.count_call.new.calls ≡ c.args.self.now.calls + 1 = (c.count_call.ensures.counted c.if-not-count_call.false).0 in
    let x : Call = record { number = c.count_call.new.calls; act = Write c.args.place c.args.bytes.now true } in
    stop_done (first_of c.args.self.now.history) (first_of c.write.new.self) c.write.ensures.first c.args.self.now.history.moves.items c.write.new.self.moves.items x c.args.self.now.calls c.count_call.new.calls tick refl c.args.self.now.numbered c.in-Ok.ensures.ok.0

pub returns-in-Err-clause-stop : goal.returns-in-Err-clause-stop
returns-in-Err-clause-stop c = λ d.
    let tick : c.count_call.new.calls ≡ c.args.self.now.calls + 1 = (c.count_call.ensures.counted c.if-not-count_call.false).0 in
    let x : Call = record { number = c.count_call.new.calls; act = Write c.args.place c.args.bytes.now false } in
    stop_failed (first_of c.args.self.now.history) (first_of c.write.new.self) c.write.ensures.first c.args.self.now.history.moves.items c.write.new.self.moves.items x c.args.self.now.calls c.count_call.new.calls tick refl c.args.self.now.numbered c.in-Err.ensures.err.0 d (torn_same c.args.place (length c.args.bytes.now) d)

pub returns-in-Ok-clause-seen : goal.returns-in-Ok-clause-seen
returns-in-Ok-clause-seen c =
    subst (λ (b : List ℕ). Torn c.args.place (length c.args.bytes.now) c.args.self.now.history.bytes b) (sym c.in-Ok.ensures.ok.1) (torn_put c.args.place c.args.bytes.now c.args.self.now.history.bytes)
