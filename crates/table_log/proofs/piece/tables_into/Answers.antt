use Rattle.std.proofs.Common.{◌≡◌, ◌+◌, List, ℕ, length, ap, arith, subst, sym}
use Rattle.journal.specs.declared.piece.TheConstants.{AROUND_TABLES}
use Rattle.store_state.specs.Kept.{AreTables}
use Rattle.table_codec.specs.Spelled.{state_text}
use Rattle.table_log.specs.Pieces.{HasTables}
use Rattle.table_log.proofs.Sizes.{whole_piece}
use Rattle.table_log.proofs.piece.tables_into.Goals as goal

pub returns-clause-tables : goal.returns-clause-tables
returns-clause-tables c =
    let tables = c.args.state.now in
    let are = subst AreTables c.state.view_is c.state.invariant.1 in
    let size : length c.write_tables.new.piece ≡ AROUND_TABLES + length (state_text tables) = omega (arith, c.write_tables.auto.piece, c.deref_mut.ensures.len, c.clear_to.ensures.size, c.encoded_length_of_state-size.ensures) in
    let before : length c.deref_mut.result.now ≡ length c.clear_to.new.room.items = ap length c.deref_mut.ensures.value in
    let whole = whole_piece c.clear_to.new.room.len c.write_tables.new.piece c.clear_to.new.room.items (omega (arith, c.write_tables.auto.piece, before)) (omega (arith, c.deref_mut.ensures.len, before)) in
    let has : HasTables tables c.write_tables.new.piece = record { size = size; spells = record { has = c.requires.state; are = are; is = c.write_tables.ensures } } in
    subst (λ (l : List ℕ). HasTables tables l) (sym whole) has
