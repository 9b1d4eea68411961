use Rattle.std.proofs.Common.{◌≡◌, ℕ, List, Some, ap, subst, ◌∙◌}
use Rattle.std.specs.BTreeMap.{Updates}
use Rattle.std.specs.Cmp.Lexicographic.{slice_cmp}
use Rattle.std.specs.Ordering.{nat_cmp}
use Rattle.std.specs.Str.{bytes_eq}
use Rattle.publish_plan.specs.declared.marked.Seen.{Seen}
use Rattle.publish_plan.specs.Places.{behind}
use Rattle.publish_plan.specs.Seen.{unmarked, row}
use Rattle.publish_plan.proofs.IndexLemmas.{entry, put_file}
use Rattle.publish_plan.proofs.marked.add_file.Goals as goal

pub returns-clause-added : goal.returns-clause-added
returns-clause-added c = λ q.
    let fresh : c.new.result ≡ unmarked = c.new.ensures in
    let put = subst (λ (s : Seen). Updates (slice_cmp nat_cmp) c.args.table.now c.insert.new.self c.in_ok-file.file (Some s)) fresh c.in_ok-insert.ensures.updates in
    let made : c.in_ok-file.file ≡ behind c.args.front.now c.args.name.now = c.in_ok-file.ensures.made in
    put_file c.args.table.now c.insert.new.self c.in_ok-file.file put q ∙ ap (λ (f : List ℕ). entry (bytes_eq f q) (row c.args.table.now q)) made
