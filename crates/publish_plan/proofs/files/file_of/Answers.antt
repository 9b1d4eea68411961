use Rattle.std.proofs.Common.{◌≡◌, ℕ, List, sym, ap, ◌∙◌}
use Rattle.publish_plan.specs.Places.{within, front_of, has_front, behind}
use Rattle.publish_plan.proofs.PathLemmas.{behind_rest}
use Rattle.publish_plan.proofs.files.file_of.Goals as goal

pub planned_file-requires-clause-source : goal.planned_file-requires-clause-source
planned_file-requires-clause-source c =
    let from = c.args.options.now.from in
    let w = c.requires.written in
    let has = ap (λ (f : List ℕ). has_front f c.args.name.now) (sym w.front) ∙ c.requires.below in
    let made : c.in_ok-file.file ≡ behind c.as_bytes.result.now c.args.name.now = c.in_ok-file.ensures.made in
    sym (ap (within from) (made ∙ ap (λ (f : List ℕ). behind f c.args.name.now) (c.as_bytes.ensures.value ∙ w.front)) ∙ behind_rest from c.args.name.now has)
