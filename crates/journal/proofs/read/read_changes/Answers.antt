use Rattle.std.proofs.Common.{rules, ◌++◌, ◌≡◌, ◌+◌, arith, sym, ◌∙◌, ap, subst, ℕ, List, length, drop}
use Rattle.disks.proofs.Books.{no_bytes}
use Rattle.disks.proofs.MomentLemmas.{untouched_more}
use Rattle.std.specs.List.{flat_map}
use Rattle.journal.specs.declared.read.Step.{Step}
use Rattle.journal.specs.declared.read.Step.TheVariants.{Change, Broken}
use Rattle.journal.specs.Layout.{part_at, entry_of, AreSmall}
use Rattle.journal.specs.Steps.{AreFirstOf, IsStepAt, IsStepWithin}
use Rattle.journal.proofs.EntryReads.{entries_more, entries_broken}
use Rattle.journal.proofs.read.read_changes.Goals as goal

pub entries-preserved : goal.entries-preserved
entries-preserved g c =
    let seen = g.D.Disk.seen c.args.disk.now in
    let part = part_at c.args.place c.args.half seen in
    let inv = c.entries.invariant in
    let same = inv.still.same_reads in
    let slice = c.as_slice.ensures in
    let within : IsStepWithin (Change c.in-Change.change) c.entries.gate (length c.read_entry.new.bytes.items) = subst (λ (s : Step). IsStepWithin s c.entries.gate (length c.read_entry.new.bytes.items)) c.in-Change.is c.in_ok-change.ensures.within in
    record {
      first = λ told was. subst (λ (l : List ℕ). AreFirstOf c.read_entry.new.bytes.items (part_at c.args.place c.args.half l)) same
          (c.in_ok-change.ensures.first told (subst (λ (l : List ℕ). AreFirstOf c.entries.bytes.items (part_at c.args.place c.args.half l)) (sym same) (inv.first (c.read_entry.ensures.spends.told told) was)));
      read = λ told was.
          let first = inv.first (c.read_entry.ensures.spends.told told) was in
          let step = c.in_ok-change.ensures.step told (subst (λ (l : List ℕ). AreFirstOf c.entries.bytes.items (part_at c.args.place c.args.half l)) (sym same) first) in
          let here : IsStepAt (Change c.in-Change.change) c.entries.gate part = subst (λ (s : Step). IsStepAt s c.entries.gate part) c.in-Change.is (subst (λ (l : List ℕ). IsStepAt c.in_ok-change.field-0 c.entries.gate (part_at c.args.place c.args.half l)) same step) in
          subst (λ (l : List ℕ). (drop c.args.from part ≡ flat_map entry_of c.add.new.changes ++ drop (c.entries.gate + 5 + length l) part) × (c.entries.gate + 5 + length l ≡ c.args.from + length (flat_map entry_of c.add.new.changes)) × AreSmall c.add.new.changes) (sym slice)
          (entries_more part c.args.from c.entries.gate c.entries.changes c.add.new.changes c.in-Change.change (inv.read (c.read_entry.ensures.spends.told told) was) here c.in_ok-add-in-Change.ensures);
      later = omega (arith, inv.later);
      within = omega (arith, ap length slice, within);
      limited = c.read_entry.ensures.limited;
      still = untouched_more g.D.Disk c.args.disk.now c.entries.disk c.read_entry.new.disk inv.still c.read_entry.ensures.still;
      told = λ told. inv.told (c.read_entry.ensures.spends.told told);
      moment = c.read_entry.ensures.still.no_tick ∙ inv.moment;
      total = no_bytes g.D.Disk 0 c.entries.disk c.read_entry.new.disk _ c.read_entry.ensures.spends ∙ inv.total;
      count = c.read_entry.ensures.spends.quiet (search rules) ∙ inv.count;
    }

pub returns-in-Broken-clause-none : goal.returns-in-Broken-clause-none
returns-in-Broken-clause-none g c = λ told was.
    let seen = g.D.Disk.seen c.args.disk.now in
    let part = part_at c.args.place c.args.half seen in
    let inv = c.entries.invariant in
    let same = inv.still.same_reads in
    let first = inv.first (c.read_entry.ensures.spends.told told) was in
    let step = c.in_ok-change.ensures.step told (subst (λ (l : List ℕ). AreFirstOf c.entries.bytes.items (part_at c.args.place c.args.half l)) (sym same) first) in
    let here : IsStepAt Broken c.entries.gate part = subst (λ (s : Step). IsStepAt s c.entries.gate part) c.in-Broken.is (subst (λ (l : List ℕ). IsStepAt c.in_ok-change.field-0 c.entries.gate (part_at c.args.place c.args.half l)) same step) in
    entries_broken part c.args.from c.entries.gate c.entries.changes (inv.read (c.read_entry.ensures.spends.told told) was) here
