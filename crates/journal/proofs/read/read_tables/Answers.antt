use Rattle.std.proofs.Common.{◌≡◌, ◌⊎◌, ◌≤◌, ◌<◌, ◌+◌, ◌-◌, length, take, drop, arith, sym, ◌∙◌, ap, subst, ℕ, List}
use Rattle.std.proofs.lemmas.Grind.{common_steps}
use Rattle.journal.specs.Layout.{part_at, long_bytes}
use Rattle.journal.specs.Steps.{AreFirstOf}
use Rattle.journal.proofs.PartReads.{first_none, short_part}
use Rattle.journal.proofs.Halves.{tables_at, no_tables_short, no_tables_long, cut_short}
use Rattle.journal.proofs.read.read_tables.Goals as goal

pub returns-in_default-clause-first : goal.returns-in_default-clause-first
returns-in_default-clause-first g c = λ told.
    let seen = g.D.Disk.seen c.args.disk.now in
    let part = part_at c.args.place c.args.half seen in
    let bytes = c.read_on.new.bytes.items in
    let first = c.read_on.ensures.bytes told (first_none c.args.bytes.now.items part c.requires.empty) in
    first

pub returns-then-size-half-clause-first : goal.returns-then-size-half-clause-first
returns-then-size-half-clause-first g c = λ told.
    let seen = g.D.Disk.seen c.args.disk.now in
    let part = part_at c.args.place c.args.half seen in
    let bytes = c.read_on.new.bytes.items in
    let first = c.read_on.ensures.bytes told (first_none c.args.bytes.now.items part c.requires.empty) in
    first

pub returns-then-len-end-clause-first : goal.returns-then-len-end-clause-first
returns-then-len-end-clause-first g c = λ told.
    let seen = g.D.Disk.seen c.args.disk.now in
    let part = part_at c.args.place c.args.half seen in
    let bytes = c.read_on.new.bytes.items in
    let told_1 = c.read_on-2.ensures.spends.told told in
    let first = c.read_on.ensures.bytes told_1 (first_none c.args.bytes.now.items part c.requires.empty) in
    let same = c.read_on.ensures.still.same_reads in
    let more : AreFirstOf c.read_on-2.new.bytes.items part = subst (λ (l : List ℕ). AreFirstOf c.read_on-2.new.bytes.items (part_at c.args.place c.args.half l)) same
    (c.read_on-2.ensures.bytes told (subst (λ (l : List ℕ). AreFirstOf bytes (part_at c.args.place c.args.half l)) (sym same) first)) in
    more

pub returns-clause-first : goal.returns-clause-first
returns-clause-first g c = λ told.
    let seen = g.D.Disk.seen c.args.disk.now in
    let part = part_at c.args.place c.args.half seen in
    let bytes = c.read_on.new.bytes.items in
    let told_1 = c.read_on-2.ensures.spends.told told in
    let first = c.read_on.ensures.bytes told_1 (first_none c.args.bytes.now.items part c.requires.empty) in
    let same = c.read_on.ensures.still.same_reads in
    let more : AreFirstOf c.read_on-2.new.bytes.items part = subst (λ (l : List ℕ). AreFirstOf c.read_on-2.new.bytes.items (part_at c.args.place c.args.half l)) same
    (c.read_on-2.ensures.bytes told (subst (λ (l : List ℕ). AreFirstOf bytes (part_at c.args.place c.args.half l)) (sym same) first)) in
    more

pub returns-in_default-clause-none : goal.returns-in_default-clause-none
returns-in_default-clause-none g c = λ told.
    let seen = g.D.Disk.seen c.args.disk.now in
    let part = part_at c.args.place c.args.half seen in
    let bytes = c.read_on.new.bytes.items in
    let few : length bytes < 10 = omega (arith, ap length c.deref.ensures.value, c.in_default.ensures.none) in
    no_tables_short part (cut_short bytes part 10 few (c.in_ok-read_on.ensures.enough told))

pub returns-then-size-half-clause-none : goal.returns-then-size-half-clause-none
returns-then-size-half-clause-none g c = λ told.
    let seen = g.D.Disk.seen c.args.disk.now in
    let part = part_at c.args.place c.args.half seen in
    let bytes = c.read_on.new.bytes.items in
    let first = c.read_on.ensures.bytes told (first_none c.args.bytes.now.items part c.requires.empty) in
    let value = c.deref.ensures.value in
    let ten : 10 ≤ length bytes = omega (arith, ap length value, c.in-Some.ensures.some.0) in
    let size : long_bytes c.in-Some.size ≡ take 8 (drop 2 bytes) = c.in-Some.ensures.some.1 ∙ ap (λ (l : List ℕ). take 8 (drop 2 l)) value in
    let short = short_part c.args.place c.args.half seen in
    no_tables_long bytes part c.in-Some.size first ten size c.in-Some.ensures.some.2 (omega (arith, short, c.if-size-half.true)) (omega (arith, short, c.requires.limits.1))

pub returns-then-len-end-clause-none : goal.returns-then-len-end-clause-none
returns-then-len-end-clause-none g c = λ told.
    let seen = g.D.Disk.seen c.args.disk.now in
    let part = part_at c.args.place c.args.half seen in
    let bytes = c.read_on.new.bytes.items in
    let told_1 = c.read_on-2.ensures.spends.told told in
    let first = c.read_on.ensures.bytes told_1 (first_none c.args.bytes.now.items part c.requires.empty) in
    let same = c.read_on.ensures.still.same_reads in
    let more : AreFirstOf c.read_on-2.new.bytes.items part = subst (λ (l : List ℕ). AreFirstOf c.read_on-2.new.bytes.items (part_at c.args.place c.args.half l)) same
    (c.read_on-2.ensures.bytes told (subst (λ (l : List ℕ). AreFirstOf bytes (part_at c.args.place c.args.half l)) (sym same) first)) in
    let value = c.deref.ensures.value in
    let ten : 10 ≤ length bytes = omega (arith, ap length value, c.in-Some.ensures.some.0) in
    let size : long_bytes c.in-Some.size ≡ take 8 (drop 2 bytes) = c.in-Some.ensures.some.1 ∙ ap (λ (l : List ℕ). take 8 (drop 2 l)) value in
    let short = short_part c.args.place c.args.half seen in
    let few : length c.read_on-2.new.bytes.items < 10 + c.in-Some.size = grind (arith, common_steps, c.if-len-end.true) in
    let enough = subst (λ (l : List ℕ). (10 + c.in-Some.size ≤ length c.read_on-2.new.bytes.items) ⊎ (length (part_at c.args.place c.args.half l) ≤ length c.read_on-2.new.bytes.items)) same (c.in_ok-read_on-2.ensures.enough told) in
    no_tables_long bytes part c.in-Some.size first ten size c.in-Some.ensures.some.2 (cut_short c.read_on-2.new.bytes.items part (10 + c.in-Some.size) few enough) (omega (arith, short, c.requires.limits.1))

pub returns-clause-found : goal.returns-clause-found
returns-clause-found g c = λ told.
    let seen = g.D.Disk.seen c.args.disk.now in
    let part = part_at c.args.place c.args.half seen in
    let bytes = c.read_on.new.bytes.items in
    let told_1 = c.read_on-2.ensures.spends.told told in
    let first = c.read_on.ensures.bytes told_1 (first_none c.args.bytes.now.items part c.requires.empty) in
    let same = c.read_on.ensures.still.same_reads in
    let more : AreFirstOf c.read_on-2.new.bytes.items part = subst (λ (l : List ℕ). AreFirstOf c.read_on-2.new.bytes.items (part_at c.args.place c.args.half l)) same
    (c.read_on-2.ensures.bytes told (subst (λ (l : List ℕ). AreFirstOf bytes (part_at c.args.place c.args.half l)) (sym same) first)) in
    let value = c.deref.ensures.value in
    let ten : 10 ≤ length bytes = omega (arith, ap length value, c.in-Some.ensures.some.0) in
    let size : long_bytes c.in-Some.size ≡ take 8 (drop 2 bytes) = c.in-Some.ensures.some.1 ∙ ap (λ (l : List ℕ). take 8 (drop 2 l)) value in
    let short = short_part c.args.place c.args.half seen in
    let whole : 10 + c.in-Some.size ≤ length c.read_on-2.new.bytes.items = grind (arith, common_steps, c.if-len-end.false) in
    let is : c.in_ok-tables.tables ≡ take c.in-Some.size (drop 10 c.read_on-2.new.bytes.items) =
    c.in_ok-tables.ensures ∙ ap (λ (l : List ℕ). take ((10 + c.in-Some.size) - 10) (drop 10 l)) c.deref-2.ensures.value ∙ ap (λ (n : ℕ). take n (drop 10 c.read_on-2.new.bytes.items)) (let same : (10 + c.in-Some.size) - 10 ≡ c.in-Some.size = omega arith in same) in
    tables_at bytes c.read_on-2.new.bytes.items part c.in_ok-tables.tables c.in-Some.size more first ten size whole is
