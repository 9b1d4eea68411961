use Rattle.std.proofs.Common.{◌∙◌, ◌++◌, ◌∷◌, [], ℕ, List, Some, ap}
use Rattle.std.specs.Prelude.{string_bytes}
use Rattle.std.proofs.lemmas.Map.Text.{btree_map_updates_text}
use Rattle.install_plan.specs.WantedFiles.{row}
use Rattle.install_plan.proofs.Noted.{row_added}
use Rattle.install_plan.proofs.taken.note.Goals as goal

pub returns-in-Ok-insert-clause-added : goal.returns-in-Ok-insert-clause-added
returns-in-Ok-insert-clause-added c = λ q.
    let text = string_bytes c.args.text in
    row_added text q c.args.table.now c.insert.new.self c.in-Ok.places c.args.place
    (c.in-Ok.ensures.places ∙ ap (λ (t : List ℕ). row c.args.table.now t ++ c.args.place ∷ []) c.as_str.ensures.value)
    (btree_map_updates_text text c.args.table.now c.insert.new.self (Some c.in-Ok.places) c.in-Ok-insert.ensures.updates q)
