use Rattle.std.proofs.Common.{◌≡◌, ◌≢◌, get_or, ◌⊎◌, ◌≤◌, ◌<◌, ◌+◌, ◌-◌, length, take, drop, arith, sym, ◌∙◌, ap, subst, ℕ, List}
use Rattle.std.proofs.lemmas.Grind.{common_steps}
use Rattle.journal.specs.Layout.{part_at}
use Rattle.journal.specs.Steps.{AreFirstOf}
use Rattle.journal.proofs.PartReads.{short_part}
use Rattle.journal.proofs.Halves.{cut_short}
use Rattle.journal.proofs.EntryReads.{entry_step, cut_step, end_step, broken_step, last_step_is}
use Rattle.journal.proofs.read.read_entry.Goals as goal

pub returns-in_default-clause-step : goal.returns-in_default-clause-step
returns-in_default-clause-step g c = λ told was.
    let seen = g.D.Disk.seen c.args.disk.now in
    let part = part_at c.args.place c.args.half seen in
    let bytes = c.read_on.new.bytes.items in
    let gate = c.args.gate in
    let within : gate ≤ length bytes = omega (arith, c.requires.read.0, c.read_on.ensures.longer) in
    let short = short_part c.args.place c.args.half seen in
    let first = c.read_on.ensures.bytes told was in
    let is_rest : c.rest_from.result.now ≡ drop gate bytes = c.rest_from.ensures ∙ ap (drop gate) c.deref.ensures.value in
    let is_last : c.rest_from-in_default.result.now ≡ drop gate bytes = c.rest_from-in_default.ensures ∙ ap (drop gate) c.deref-in_default.ensures.value in
    let enough = subst (λ (n : ℕ). (n ≤ length bytes) ⊎ (length part ≤ length bytes)) c.min.ensures (c.in_ok-read_on.ensures.enough told) in
    let none = subst (λ (l : List ℕ). (length l < 5) ⊎ (get_or l 0 0 ≢ 1)) (is_rest ∙ sym is_last) c.in_default.ensures.none in
    last_step_is c.last_step.result c.rest_from-in_default.result.now part gate c.last_step.ensures
    (end_step bytes part gate first within c.rest_from-in_default.result.now is_last)
    (broken_step bytes part gate first within c.rest_from-in_default.result.now c.args.half is_last short enough none)

pub returns-then-half-start-clause-step : goal.returns-then-half-start-clause-step
returns-then-half-start-clause-step g c = λ told was.
    let seen = g.D.Disk.seen c.args.disk.now in
    let part = part_at c.args.place c.args.half seen in
    let bytes = c.read_on.new.bytes.items in
    let gate = c.args.gate in
    let within : gate ≤ length bytes = omega (arith, c.requires.read.0, c.read_on.ensures.longer) in
    let short = short_part c.args.place c.args.half seen in
    let first = c.read_on.ensures.bytes told was in
    let is_rest : c.rest_from.result.now ≡ drop gate bytes = c.rest_from.ensures ∙ ap (drop gate) c.deref.ensures.value in
    cut_step bytes part gate first within c.rest_from.result.now c.in-Some.size is_rest c.in-Some.ensures.some (omega (arith, short, c.if-half-start.true))

pub returns-then-len-start-clause-step : goal.returns-then-len-start-clause-step
returns-then-len-start-clause-step g c = λ told was.
    let seen = g.D.Disk.seen c.args.disk.now in
    let part = part_at c.args.place c.args.half seen in
    let bytes = c.read_on.new.bytes.items in
    let gate = c.args.gate in
    let within : gate ≤ length bytes = omega (arith, c.requires.read.0, c.read_on.ensures.longer) in
    let short = short_part c.args.place c.args.half seen in
    let first = c.read_on.ensures.bytes (c.read_on-2.ensures.spends.told told) was in
    let same = c.read_on.ensures.still.same_reads in
    let more : AreFirstOf c.read_on-2.new.bytes.items part = subst (λ (l : List ℕ). AreFirstOf c.read_on-2.new.bytes.items (part_at c.args.place c.args.half l)) same
    (c.read_on-2.ensures.bytes told (subst (λ (l : List ℕ). AreFirstOf bytes (part_at c.args.place c.args.half l)) (sym same) first)) in
    let is_rest : c.rest_from.result.now ≡ drop gate bytes = c.rest_from.ensures ∙ ap (drop gate) c.deref.ensures.value in
    let few : length c.read_on-2.new.bytes.items < gate + 5 + c.in-Some.size = grind (arith, common_steps, c.if-len-start.true) in
    let enough = subst (λ (l : List ℕ). (gate + 5 + c.in-Some.size ≤ length c.read_on-2.new.bytes.items) ⊎ (length (part_at c.args.place c.args.half l) ≤ length c.read_on-2.new.bytes.items)) same (c.in_ok-read_on-2.ensures.enough told) in
    cut_step bytes part gate first within c.rest_from.result.now c.in-Some.size is_rest c.in-Some.ensures.some (cut_short c.read_on-2.new.bytes.items part (gate + 5 + c.in-Some.size) few enough)

pub returns-clause-step : goal.returns-clause-step
returns-clause-step g c = λ told was.
    let seen = g.D.Disk.seen c.args.disk.now in
    let part = part_at c.args.place c.args.half seen in
    let bytes = c.read_on.new.bytes.items in
    let gate = c.args.gate in
    let within : gate ≤ length bytes = omega (arith, c.requires.read.0, c.read_on.ensures.longer) in
    let short = short_part c.args.place c.args.half seen in
    let first = c.read_on.ensures.bytes (c.read_on-2.ensures.spends.told told) was in
    let same = c.read_on.ensures.still.same_reads in
    let more : AreFirstOf c.read_on-2.new.bytes.items part = subst (λ (l : List ℕ). AreFirstOf c.read_on-2.new.bytes.items (part_at c.args.place c.args.half l)) same
    (c.read_on-2.ensures.bytes told (subst (λ (l : List ℕ). AreFirstOf bytes (part_at c.args.place c.args.half l)) (sym same) first)) in
    let is_rest : c.rest_from.result.now ≡ drop gate bytes = c.rest_from.ensures ∙ ap (drop gate) c.deref.ensures.value in
    let fits : gate + 5 + c.in-Some.size ≤ length c.read_on-2.new.bytes.items = grind (arith, common_steps, c.if-len-start.false) in
    let is : c.in_ok-change.change ≡ take c.in-Some.size (drop (gate + 5) c.read_on-2.new.bytes.items) =
    c.in_ok-change.ensures ∙ ap (λ (l : List ℕ). take ((gate + 5 + c.in-Some.size) - (gate + 5)) (drop (gate + 5) l)) c.deref-2.ensures.value ∙ ap (λ (n : ℕ). take n (drop (gate + 5) c.read_on-2.new.bytes.items)) (let same : (gate + 5 + c.in-Some.size) - (gate + 5) ≡ c.in-Some.size = omega arith in same) in
    entry_step bytes part gate first within c.rest_from.result.now c.read_on-2.new.bytes.items c.in_ok-change.change c.in-Some.size is_rest c.in-Some.ensures.some c.in-Some.ensures.small more fits is
