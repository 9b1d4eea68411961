use Rattle.std.proofs.Common.{◌≡◌, ℕ, ◌+◌, Bool, true, List, [], ◌∷◌, ◌++◌, Vec, Global, string_bytes, sym, ap, subst, ◌∙◌, arith}
use Rattle.std.specs.Prelude.{Option, Some, None, if◌then◌else◌}
use Rattle.publish_plan.specs.declared.options.PlannedFile.{PlannedFile}
use Rattle.publish_plan.specs.Places.{has_front, behind, all_behind}
use Rattle.publish_plan.specs.declared.marked.Seen.{Seen}
use Rattle.publish_plan.specs.Seen.{seen_of}
use Rattle.publish_plan.proofs.InputLemmas.{among_behind}
use Rattle.publish_plan.proofs.FileLemmas.{fitted}
use Rattle.publish_plan.proofs.FileLoop.{Planned, planned_yes, planned_no}
use Rattle.publish_plan.proofs.files.planned_files.Goals as goal
use Rattle.publish_plan.proofs.files.planned_files.Goals.{then-has_front+in_ok-file_of+in_ok-push, else-has_front}

pub file_of-requires-clause-known : goal.file_of-requires-clause-known
file_of-requires-clause-known c =
    let front = string_bytes c.args.written.now.front in
    let name = c.name-item.result in
    let file = behind front name in
    let has = ap (λ (f : List ℕ). has_front f name) (sym c.as_bytes-front.ensures.value) ∙ sym c.has_front.ensures ∙ c.if-has_front.true in
    let among = among_behind front c.args.names.now c.loop-name.name-index name c.loop-name-test.true c.name-item.is has in
    let entry = λ (b : Bool). if b then Some (seen_of c.args.options.now.marks file) else None in
    c.requires.known file ∙ ap entry among

pub loop-name-preserved : goal.loop-name-preserved
loop-name-preserved c =
    let o = c.args.options.now in
    let front = string_bytes c.args.written.now.front in
    let names = c.args.names.now in
    let name = c.name-item.result in
    let i = c.loop-name.name-index in
    let same = ap (λ (f : List ℕ). has_front f name) (sym c.as_bytes-front.ensures.value) ∙ sym c.has_front.ensures in
    elim c.if-has_front.branch [
      | then-has_front+in_ok-file_of+in_ok-push w ↦
          let made = fitted o (behind front name) w.in_ok-file_of.field-0 w.in_ok-file_of.ensures in
          let longer : c.if-has_front.files.items ≡ c.loop-name.files.items ++ w.in_ok-file_of.field-0 ∷ [] = ap (λ (files : Vec PlannedFile Global). files.items) w.files-is ∙ w.in_ok-push.ensures.items in
          planned_yes o front names c.loop-name.files.items i name c.loop-name-test.true c.name-item.is c.loop-name.invariant c.if-has_front.files.items (same ∙ w.if-has_front.true) made.0
          (longer ∙ ap (λ (p : PlannedFile). c.loop-name.files.items ++ p ∷ []) (sym made.1))
      | else-has_front w ↦
          let none = planned_no o front names c.loop-name.files.items i name c.loop-name-test.true c.name-item.is c.loop-name.invariant (same ∙ w.if-has_front.false) in
          subst (λ (files : List PlannedFile). Planned o front names files (i + 1)) (sym (ap (λ (files : Vec PlannedFile Global). files.items) w.files-is)) none
    ]
