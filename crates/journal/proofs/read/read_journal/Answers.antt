use Rattle.std.proofs.Common.{◌≡◌, ◌∙◌, sym, ap, subst, ℕ, Bool, List}
use Rattle.journal.specs.declared.side.Side.{Side}
use Rattle.journal.specs.Layout.{part_at, start_of, head_of, AreLimits, OpensWith, IsHalf}
use Rattle.journal.specs.Steps.{FoundHalf, HalvesBegin}
use Rattle.journal.proofs.Store.{found_stands, no_journal_head, no_journal_side, no_journal_half}
use Rattle.journal.proofs.read.read_journal.Goals as goal

pub returns-in_default-clause-none : goal.returns-in_default-clause-none
returns-in_default-clause-none g c = λ told.
    let seen = g.D.Disk.seen c.args.disk.now in
    let head = c.deref.result.now in
    let is : head ≡ part_at 0 4096 seen = c.deref.ensures.value ∙ c.in_ok-head.ensures.bytes told in
    no_journal_head head seen is (rw c.in_default.is at c.in_ok-blocks.ensures.none)

pub returns-in_default-2-clause-none : goal.returns-in_default-2-clause-none
returns-in_default-2-clause-none g c = λ told.
    let seen = g.D.Disk.seen c.args.disk.now in
    let head = c.deref.result.now in
    let is : head ≡ part_at 0 4096 seen = c.deref.ensures.value ∙ c.in_ok-head.ensures.bytes (c.read_side.ensures.spends.told told) in
    let read = rw c.in-Some.is at c.in_ok-blocks.ensures.found in
    let limits : AreLimits c.in-Some.blocks c.in-Some.half = read.0 in
    let is_head : head ≡ head_of c.in-Some.blocks c.in-Some.half = read.1 in
    let same = c.read_part.ensures.still.same_reads in
    no_journal_side head seen c.in-Some.blocks c.in-Some.half is limits is_head
    (subst (λ (l : List ℕ). (side : Side) (serial : ℕ) (both : Bool) → HalvesBegin side serial both c.in-Some.half l → ⊥) same (rw c.in_default-2.is at (c.in_ok-side.ensures.none told)))

pub returns-in_default-3-clause-none : goal.returns-in_default-3-clause-none
returns-in_default-3-clause-none g c = λ told.
    let seen = g.D.Disk.seen c.args.disk.now in
    let head = c.deref.result.now in
    let is : head ≡ part_at 0 4096 seen = c.deref.ensures.value ∙ c.in_ok-head.ensures.bytes (c.read_side.ensures.spends.told (c.read_half.ensures.spends.told told)) in
    let read = rw c.in-Some.is at c.in_ok-blocks.ensures.found in
    let limits : AreLimits c.in-Some.blocks c.in-Some.half = read.0 in
    let is_head : head ≡ head_of c.in-Some.blocks c.in-Some.half = read.1 in
    let same = c.read_part.ensures.still.same_reads in
    let begins : HalvesBegin c.in-Some-2.side c.in-Some-2.serial c.in-Some-2.both c.in-Some.half seen =
    subst (λ (l : List ℕ). HalvesBegin c.in-Some-2.side c.in-Some-2.serial c.in-Some-2.both c.in-Some.half l) same (rw c.in-Some-2.is at (c.in_ok-side.ensures.found (c.read_half.ensures.spends.told told))) in
    let all = c.read_side.ensures.still.same_reads ∙ same in
    let part : part_at c.start.result c.in-Some.half (g.D.Disk.seen c.read_side.new.disk) ≡ part_at (start_of c.in-Some-2.side c.in-Some.half) c.in-Some.half seen =
    ap (λ (n : ℕ). part_at n c.in-Some.half (g.D.Disk.seen c.read_side.new.disk)) c.start.ensures ∙ ap (part_at (start_of c.in-Some-2.side c.in-Some.half) c.in-Some.half) all in
    no_journal_half head seen c.in-Some.blocks c.in-Some.half is limits is_head c.in-Some-2.side c.in-Some-2.serial c.in-Some-2.both begins
    (subst (λ (l : List ℕ). (serial : ℕ) (tables : List ℕ) (changes : List (List ℕ)) → IsHalf serial tables changes l → ⊥) part (rw c.in_default-3.is at (c.in_ok-found.ensures.none told)))

pub returns-clause-found : goal.returns-clause-found
returns-clause-found g c = λ told.
    let seen = g.D.Disk.seen c.args.disk.now in
    let head = c.deref.result.now in
    let is : head ≡ part_at 0 4096 seen = c.deref.ensures.value ∙ c.in_ok-head.ensures.bytes (c.read_side.ensures.spends.told (c.read_half.ensures.spends.told told)) in
    let read = rw c.in-Some.is at c.in_ok-blocks.ensures.found in
    let limits : AreLimits c.in-Some.blocks c.in-Some.half = read.0 in
    let is_head : head ≡ head_of c.in-Some.blocks c.in-Some.half = read.1 in
    let same = c.read_part.ensures.still.same_reads in
    let begins : HalvesBegin c.in-Some-2.side c.in-Some-2.serial c.in-Some-2.both c.in-Some.half seen =
    subst (λ (l : List ℕ). HalvesBegin c.in-Some-2.side c.in-Some-2.serial c.in-Some-2.both c.in-Some.half l) same (rw c.in-Some-2.is at (c.in_ok-side.ensures.found (c.read_half.ensures.spends.told told))) in
    let all = c.read_side.ensures.still.same_reads ∙ same in
    let part : part_at c.start.result c.in-Some.half (g.D.Disk.seen c.read_side.new.disk) ≡ part_at (start_of c.in-Some-2.side c.in-Some.half) c.in-Some.half seen =
    ap (λ (n : ℕ). part_at n c.in-Some.half (g.D.Disk.seen c.read_side.new.disk)) c.start.ensures ∙ ap (part_at (start_of c.in-Some-2.side c.in-Some.half) c.in-Some.half) all in
    let opens = subst (λ (l : List ℕ). OpensWith c.in-Some-2.serial l) (sym part) begins.opens in
    let found = subst (λ (l : List ℕ). FoundHalf c.in-Some-2.serial c.in-Some-3.found.tables c.in-Some-3.found.changes c.in-Some-3.found.gate l) part (rw c.in-Some-3.is at (c.in_ok-found.ensures.found told c.in-Some-2.serial opens)) in
    record {
      stands = found_stands c.in-Some-2.side c.in-Some-2.serial c.in-Some-2.both c.in-Some.blocks c.in-Some.half c.in-Some-3.found.gate c.in-Some-3.found.tables c.in-Some-3.found.changes head seen limits is is_head begins found;
      at = found.at;
    }
