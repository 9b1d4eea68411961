use Rattle.std.proofs.Common.{◌∙◌, ap, arith, is_ok, List, ℕ, if◌then◌else◌}
use Rattle.command_text.proofs.LongLines.{kept_first}
use Rattle.command_text.proofs.kept_line.keep.Goals as goal

pub returns-clause-kept : goal.returns-clause-kept
returns-clause-kept c =
    c.extend_from_slice.ensures.items ∙ ap (λ (l : List ℕ). if is_ok c.extend_from_slice.result then l else c.args.pending.now.items) (kept_first c.args.pending.now.items c.args.part.now _ _ c.requires (omega (arith, c.len-room.ensures, c.type_inv.pending)) c.min.ensures)
