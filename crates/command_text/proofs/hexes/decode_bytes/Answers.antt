use Rattle.std.proofs.Common.{◌≤◌, ◌∙◌, List, Some, length, ℕ, ap, subst, sym}
use Rattle.small_types.specs.declared.limits.TheConstants.{PIECE_LIMIT}
use Rattle.command_text.proofs.HexWords.{decoded, only_memory}
use Rattle.command_text.proofs.hexes.decode_bytes.Goals as goal

pub returns-in-Ok-clause-exact : goal.returns-in-Ok-clause-exact
returns-in-Ok-clause-exact c =
    ap Some c.from_vec.ensures
    ∙ (decoded c.args.word.now c.in-Ok.bytes.items (sym c.if-not-spells_bytes.ensures) c.in-Ok.ensures.ok).0

pub returns-in-Ok-clause-few : goal.returns-in-Ok-clause-few
returns-in-Ok-clause-few c =
    subst (λ (b : List ℕ). length b ≤ PIECE_LIMIT) (sym c.from_vec.ensures)
    (decoded c.args.word.now c.in-Ok.bytes.items (sym c.if-not-spells_bytes.ensures) c.in-Ok.ensures.ok).1

pub unreachable-requires : goal.unreachable-requires
unreachable-requires c = c.in_default.not-OutOfMemory
    (only_memory c.args.word.now c.in-Err.fault (sym c.if-not-spells_bytes.ensures) c.in-Err.ensures.err)
