use Rattle.std.proofs.Common.{◌≡◌, ◌+◌, List, ℕ, length, ap, arith, subst, sym}
use Rattle.journal.specs.declared.piece.TheConstants.{AROUND}
use Rattle.record_codec.specs.Codec.{change_text}
use Rattle.table_log.specs.Pieces.{HasEntry}
use Rattle.table_log.proofs.LoadedTables.{some_text}
use Rattle.table_log.proofs.Sizes.{whole_piece}
use Rattle.table_log.proofs.piece.entry_into.Goals as goal

pub returns-clause-entry : goal.returns-clause-entry
returns-clause-entry c =
    let text = change_text c.args.change.now in
    let some = some_text c.args.change.now in
    let size : length c.write_entry.new.piece ≡ AROUND + length text = omega (arith, c.write_entry.auto.piece, c.deref_mut.ensures.len, c.clear_to.ensures.size, c.encoded_length-size.ensures.length) in
    let before : length c.deref_mut.result.now ≡ length c.clear_to.new.room.items = ap length c.deref_mut.ensures.value in
    let whole = whole_piece c.clear_to.new.room.len c.write_entry.new.piece c.clear_to.new.room.items (omega (arith, c.write_entry.auto.piece, before)) (omega (arith, c.deref_mut.ensures.len, before)) in
    let has : HasEntry text c.write_entry.new.piece = record { size = size; some = omega (arith, size, some); is = c.write_entry.ensures } in
    subst (λ (l : List ℕ). HasEntry text l) (sym whole) has
