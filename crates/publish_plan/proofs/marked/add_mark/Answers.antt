use Rattle.std.proofs.Common.{◌≡◌, ℕ, List, Option, Some, sym, ap, subst, ◌∙◌}
use Rattle.std.specs.BTreeMap.{Updates}
use Rattle.std.specs.Borrow.{Bor}
use Rattle.std.specs.Cmp.Lexicographic.{slice_cmp}
use Rattle.std.specs.Option.{option_copied}
use Rattle.std.specs.Ordering.{nat_cmp}
use Rattle.publish_plan.specs.declared.marked.Seen.{Seen}
use Rattle.publish_plan.specs.Seen.{row, more}
use Rattle.publish_plan.proofs.MarkLemmas.{adds_more}
use Rattle.publish_plan.proofs.marked.add_mark.Goals as goal

pub returns-clause-added : goal.returns-clause-added
returns-clause-added c =
    let old = c.args.table.now in
    let m = c.args.mark.now in
    let was : row old m.file ≡ Some c.in-Some.seen.now = sym c.in-Some.ensures.value in
    let made : c.in_ok-seen.seen ≡ more c.in-Some.seen.now m = c.in_ok-seen.ensures in
    let copied : c.in_ok-file.file ≡ m.file = c.in_ok-file.ensures in
    let put = subst (λ (f : List ℕ). Updates (slice_cmp nat_cmp) old c.insert.new.self f (Some c.in_ok-seen.seen)) copied c.in_ok-insert.ensures.updates in
    adds_more old m c.insert.new.self c.in-Some.seen.now c.in_ok-seen.seen was made put
