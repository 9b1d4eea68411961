use Rattle.std.proofs.Common.{◌≡◌, ◌+◌, arith, refl, sym, ap, subst, ℕ, List, length, drop}
use Rattle.journal.specs.Layout.{part_at}
use Rattle.journal.specs.Steps.{AreFirstOf, TablesAt, AtGate, NoEntries}
use Rattle.journal.proofs.PartReads.{short_part}
use Rattle.journal.proofs.EntryReads.{found_half, no_half}
use Rattle.journal.proofs.read.read_half.Goals as goal

pub returns-in_default-clause-none : goal.returns-in_default-clause-none
returns-in_default-clause-none g c = λ told serial tables changes log.
    let none = rw c.in_default.is at (c.in_ok-tables.ensures.none told) in
    none serial tables changes log

pub returns-in_default-2-clause-none : goal.returns-in_default-2-clause-none
returns-in_default-2-clause-none g c = λ told.
    let seen = g.D.Disk.seen c.args.disk.now in
    let part = part_at c.args.place c.args.half seen in
    let same = c.read_tables.ensures.still.same_reads in
    let told_1 = c.read_changes.ensures.spends.told told in
    let first = subst (λ (l : List ℕ). AreFirstOf c.read_tables.new.bytes.items (part_at c.args.place c.args.half l)) (sym same) (c.in_ok-tables.ensures.first told_1) in
    let at : TablesAt c.in-Some.tables part = rw c.in-Some.is at (c.in_ok-tables.ensures.found told_1) in
    let from : 10 + length c.as_slice.result.now ≡ 10 + length c.in-Some.tables = ap (λ (l : List ℕ). 10 + length l) c.as_slice.ensures in
    let short = short_part c.args.place c.args.half seen in
    let none : NoEntries (drop (10 + length c.as_slice.result.now) part) =
    subst (λ (l : List ℕ). NoEntries (drop (10 + length c.as_slice.result.now) (part_at c.args.place c.args.half l))) same (rw c.in_default-2.is at (c.in_ok-changes.ensures.none told first)) in
    no_half c.in-Some.tables part (10 + length c.as_slice.result.now) (omega (arith, short, c.requires.limits.1)) at from none

pub returns-clause-found : goal.returns-clause-found
returns-clause-found g c = λ told serial opens.
    let seen = g.D.Disk.seen c.args.disk.now in
    let part = part_at c.args.place c.args.half seen in
    let same = c.read_tables.ensures.still.same_reads in
    let told_1 = c.read_changes.ensures.spends.told told in
    let first = subst (λ (l : List ℕ). AreFirstOf c.read_tables.new.bytes.items (part_at c.args.place c.args.half l)) (sym same) (c.in_ok-tables.ensures.first told_1) in
    let at : TablesAt c.in-Some.tables part = rw c.in-Some.is at (c.in_ok-tables.ensures.found told_1) in
    let from : 10 + length c.as_slice.result.now ≡ 10 + length c.in-Some.tables = ap (λ (l : List ℕ). 10 + length l) c.as_slice.ensures in
    let entries = subst (λ (l : List ℕ). AtGate c.in-Some-2.changes c.in-Some-2.behind (drop (10 + length c.as_slice.result.now) (part_at c.args.place c.args.half l))) same (rw c.in-Some-2.is at (c.in_ok-changes.ensures.found told first)) in
    found_half serial c.in-Some.tables part c.in-Some-2.changes (10 + length c.as_slice.result.now) c.in-Some-2.behind _ opens at from entries refl
