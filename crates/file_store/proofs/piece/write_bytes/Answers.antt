use Rattle.std.proofs.Common.{Ok, Result, ◌≡◌, ◌⊎◌, ◌+◌, ◌-◌, ◌/◌, ◌<◌, ◌≤◌, ℕ, List, length, take, drop, arith, subst, refl, inl, inr}
use Rattle.std.proofs.lemmas.Bool.{cases_lt}
use Rattle.std.proofs.lemmas.List.{take_all}
use Rattle.outside.specs.declared.failed.Failed.{Failed}
use Rattle.file_store.specs.Writes.{AddsPiece, touched}
use Rattle.file_store.specs.Stretches.{AreNeighbours}
use Rattle.file_store.proofs.WriteCalls.{Calls, all_few, calls_more, calls_start, few, goes_more, goes_start, spent_ill, spent_well}
use Rattle.file_store.proofs.BlockWrites.{adds_none, adds_start, counts, only_start, slice_few, slice_long, step_adds, step_kept, step_only, total_more}
use Rattle.file_store.proofs.piece.write_bytes.Goals as goal

pub loop-done-init : goal.loop-done-init
loop-done-init g c = record {
  within = omega arith;
  only = only_start g.D.Disk c.args.base c.args.blocks.now c.args.disk.now;
  added = adds_start g.D.Disk c.args.base c.args.blocks.now c.args.from c.args.disk.now;
  written = omega arith;
  goes = goes_start g.D.Disk c.args.disk.now;
  counted = calls_start c.args.from (length c.args.bytes.now) (g.D.Disk.moment c.args.disk.now);
  some = λ some. absurd (omega arith);
  calls = λ all some. absurd (omega arith);
}

pub returns-in_err-write_at-clause-only : goal.returns-in_err-write_at-clause-only
returns-in_err-write_at-clause-only g c =
    step_only g.D.Disk c.args.base c.args.blocks.now c.args.bytes.now c.args.from c.loop-done.done c.stretch-room.result c.place-at.result c.args.disk.now c.loop-done.disk c.write_at.new.self
    (omega (arith, c.stretch-room.ensures.wanted)) c.place-at.ensures c.stretch-room.ensures.stretch c.requires.within c.loop-done.invariant.only
    c.write_at.ensures.seen c.write_at.ensures.stop (c.write_at.ensures.tick.later, c.write_at.ensures.tick.once, c.write_at.ensures.time)

-- a second write is made only where not all blocks are neighbours
one_call : {All : Type 0} (done n size first mid new : ℕ) → done + n ≤ size → (done ≡ 0 → mid ≡ first) → (All → 0 < done → (done ≡ size) × (mid ≤ first + 1)) → (All → done ≡ 0 → n ≡ size) → new ≤ mid + 1
    → done < size → All → (done + n ≡ size) × (new ≤ first + 1)
one_call done n size first mid new within none calls whole once more all = by (cases_lt 0 done)
  where
    by : (0 < done) ⊎ (done ≤ 0) → (done + n ≡ size) × (new ≤ first + 1)
    by (inl some) = absurd (let over = (calls all some).0 in omega arith)
    by (inr few) =
        let zero_done : done ≡ 0 = omega arith in
        let same = none zero_done in
        let all_of = whole all zero_done in
        (omega arith, omega arith)

-- the first stretch, where all blocks are neighbours
first_whole : (blocks : List ℕ) (from done n size : ℕ) → done ≡ 0 → (AreNeighbours blocks ((from + done) / 4096) ((from + done + (size - done) - 1) / 4096) → n ≡ size - done) → AreNeighbours blocks (from / 4096) ((from + size - 1) / 4096) → n ≡ size
first_whole blocks from done n size none whole all =
    let start : from / 4096 ≡ (from + done) / 4096 = omega arith in
    let end : (from + size - 1) / 4096 ≡ (from + done + (size - done) - 1) / 4096 = omega arith in
    let there = whole (subst (λ (k : ℕ). AreNeighbours blocks k ((from + done + (size - done) - 1) / 4096)) start (subst (AreNeighbours blocks (from / 4096)) end all)) in
    omega arith

pub loop-done-preserved : goal.loop-done-preserved
loop-done-preserved g c =
    let within : c.loop-done.done + c.stretch-room.result ≤ length c.args.bytes.now = omega (arith, c.stretch-room.ensures.wanted) in
    record {
      within = within;
      only = step_only g.D.Disk c.args.base c.args.blocks.now c.args.bytes.now c.args.from c.loop-done.done c.stretch-room.result c.place-at.result c.args.disk.now c.loop-done.disk c.write_at.new.self
          within c.place-at.ensures c.stretch-room.ensures.stretch c.requires.within c.loop-done.invariant.only
          c.write_at.ensures.seen c.write_at.ensures.stop (c.write_at.ensures.tick.later, c.write_at.ensures.tick.once, c.write_at.ensures.time);
      added = step_adds g.D.Disk c.args.base c.args.blocks.now c.args.bytes.now c.args.from c.loop-done.done c.stretch-room.result c.place-at.result c.args.disk.now c.loop-done.disk c.write_at.new.self
          c.requires.apart within c.place-at.ensures c.stretch-room.ensures.stretch c.requires.within c.loop-done.invariant.added c.in_ok-write_at.ensures.written;
      written =
          let more : g.D.Disk.total c.write_at.new.self ≡ g.D.Disk.total c.loop-done.disk + length (take (c.loop-done.done + c.stretch-room.result - c.loop-done.done) (drop c.loop-done.done c.args.bytes.now)) =
          total_more c.write_at.ensures.tick c.in_ok-write_at.ensures.tick.ok in
          omega (arith, more, slice_long c.args.bytes.now c.loop-done.done c.stretch-room.result within, c.loop-done.invariant.written);
      goes = goes_more g.D.Disk (length (take (c.loop-done.done + c.stretch-room.result - c.loop-done.done) (drop c.loop-done.done c.args.bytes.now))) c.args.disk.now c.loop-done.disk c.write_at.new.self c.write_at.result
          c.loop-done.invariant.goes c.write_at.ensures.tick c.write_at.ensures.told c.in_ok-write_at.ensures.cause.quiet;
      counted = calls_more c.args.from c.loop-done.done c.stretch-room.result (length c.args.bytes.now) (g.D.Disk.moment c.args.disk.now) (g.D.Disk.moment c.loop-done.disk) (g.D.Disk.moment c.write_at.new.self)
          c.loop-done.invariant.counted c.write_at.ensures.tick.once c.stretch-room.ensures.some within c.stretch-room.ensures.end;
      some = λ _. omega (arith, c.in_ok-write_at.ensures.tick.ok, c.loop-done.invariant.only.stops.later);
      calls = λ all some. one_call c.loop-done.done c.stretch-room.result (length c.args.bytes.now) (g.D.Disk.moment c.args.disk.now) (g.D.Disk.moment c.loop-done.disk) (g.D.Disk.moment c.write_at.new.self)
          within c.loop-done.invariant.counted.none c.loop-done.invariant.calls (λ all none. first_whole c.args.blocks.now c.args.from c.loop-done.done c.stretch-room.result (length c.args.bytes.now) none c.stretch-room.ensures.whole all) c.write_at.ensures.tick.once c.loop-done-test.true all;
    }

pub returns-clause-added : goal.returns-clause-added
returns-clause-added g c =
    subst (λ (l : List ℕ). AddsPiece g.D.Disk c.args.base c.args.blocks.now c.args.from l c.args.disk.now c.loop-done.disk) (take_all c.loop-done.done c.args.bytes.now c.loop-done-test.false) c.loop-done.invariant.added

pub returns-in_err-write_at-clause-counted : goal.returns-in_err-write_at-clause-counted
returns-in_err-write_at-clause-counted g c = λ some.
    counts c.loop-done.invariant.only.stops.later (slice_few c.args.bytes.now c.loop-done.done c.stretch-room.result) c.write_at.ensures.tick

pub returns-in_err-write_at-clause-kept : goal.returns-in_err-write_at-clause-kept
returns-in_err-write_at-clause-kept g c =
    step_kept g.D.Disk c.args.base c.args.blocks.now c.args.bytes.now c.args.from c.loop-done.done c.stretch-room.result c.place-at.result c.args.disk.now c.loop-done.disk c.write_at.new.self
    c.requires.apart (omega (arith, c.stretch-room.ensures.wanted)) c.place-at.ensures c.stretch-room.ensures.stretch c.requires.within c.loop-done.invariant.added c.write_at.ensures.seen

pub returns-clause-kept : goal.returns-clause-kept
returns-clause-kept g c = adds_none g.D.Disk c.args.base c.args.blocks.now c.args.disk.now c.loop-done.disk c.args.from (take c.loop-done.done c.args.bytes.now) (omega (arith, c.requires.within)) c.loop-done.invariant.added

pub returns-in_err-write_at-clause-spends : goal.returns-in_err-write_at-clause-spends
returns-in_err-write_at-clause-spends g c =
    let within : c.loop-done.done + c.stretch-room.result ≤ length c.args.bytes.now = omega (arith, c.stretch-room.ensures.wanted) in
    let size = slice_long c.args.bytes.now c.loop-done.done c.stretch-room.result within in
    spent_ill g.D.Disk (touched c.args.from (length c.args.bytes.now)) (length c.args.bytes.now) c.loop-done.done (length (take (c.loop-done.done + c.stretch-room.result - c.loop-done.done) (drop c.loop-done.done c.args.bytes.now)))
    c.args.disk.now c.loop-done.disk c.write_at.new.self c.write_at.result c.from_residual.result c.loop-done.invariant.goes c.write_at.ensures.tick c.write_at.ensures.told c.write_at.ensures.cause.later c.in_err-write_at.ensures.cause.rose c.from_residual.ensures.0 c.loop-done.invariant.written
    (omega (arith, within, size))
    (few c.args.from c.loop-done.done c.stretch-room.result (length c.args.bytes.now) (g.D.Disk.moment c.args.disk.now) (g.D.Disk.moment c.loop-done.disk) (g.D.Disk.moment c.write_at.new.self)
    c.loop-done.invariant.counted c.write_at.ensures.tick.once c.stretch-room.ensures.some within)

pub returns-clause-spends : goal.returns-clause-spends
returns-clause-spends g c =
    let end : c.loop-done.done ≡ length c.args.bytes.now = omega (arith, c.loop-done-test.false, c.loop-done.invariant.within) in
    let ended : Result (Unit {0}) Failed = Ok (tt {0}) in
    spent_well g.D.Disk (touched c.args.from (length c.args.bytes.now)) (length c.args.bytes.now) c.args.disk.now c.loop-done.disk ended c.loop-done.invariant.goes refl
    (omega (arith, c.loop-done.invariant.written, end))
    (all_few c.args.from (length c.args.bytes.now) (g.D.Disk.moment c.args.disk.now) (g.D.Disk.moment c.loop-done.disk) c.loop-done.invariant.goes.later
    (subst (λ (k : ℕ). Calls c.args.from k (length c.args.bytes.now) (g.D.Disk.moment c.args.disk.now) (g.D.Disk.moment c.loop-done.disk)) end c.loop-done.invariant.counted))
