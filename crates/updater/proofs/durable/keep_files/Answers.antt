use Rattle.std.proofs.Common.{◌∙◌, ◌++◌, ℕ, Result, Err, ap, subst, sym}
use Rattle.store_state.specs.Change.{effect}
use Rattle.store_state.specs.Tables.{Tables}
use Rattle.table_files.specs.Held.{held_by}
use Rattle.table_log.specs.Rooms.{HaveRooms}
use Rattle.table_log.specs.declared.fault.StepFault.{StepFault}
use Rattle.install_plan.specs.Blocks.{UsesBlocks}
use Rattle.updater.specs.KeepsChange.{KeepsChange}
use Rattle.updater.proofs.BlockUse.{gone_used, last_used, unused_used, uses_all, uses_behind, uses_front}
use Rattle.updater.proofs.KeptChange.{kept_after, kept_by, new_half_fits, placed_behind, unlisted}
use Rattle.updater.proofs.durable.keep_files.Goals as goal

pub release_blocks-requires : goal.release_blocks-requires
release_blocks-requires g c =
    last_used c.args.files.now c.args.room (held_by c.args.state.now) c.args.taken.now c.requires.blocks

pub returns-in-Err-clause-makes : goal.returns-in-Err-clause-makes
returns-in-Err-clause-makes g c =
    unlisted g.D.Disk c.args.change (record { log = c.args.log.now; room = c.args.room; state = c.args.state.now })
    c.args.disk.now c.requires.may c.in-Err.ensures.memory

pub returns-in-Err-clause-kept : goal.returns-in-Err-clause-kept
returns-in-Err-clause-kept g c = c.requires.kept

pub returns-in-Err-clause-rooms : goal.returns-in-Err-clause-rooms
returns-in-Err-clause-rooms g c = c.requires.rooms

pub returns-in-Err-clause-blocks : goal.returns-in-Err-clause-blocks
returns-in-Err-clause-blocks g c =
    uses_front c.args.files.now c.args.room (held_by c.args.state.now) c.args.taken.now c.requires.blocks
    c.release_blocks.new.self c.release_blocks.ensures.freed c.release_blocks.ensures.range

pub make_durable-requires-clause-fits : goal.make_durable-requires-clause-fits
make_durable-requires-clause-fits g c = c.requires.may.fits

pub make_durable-requires-clause-change : goal.make_durable-requires-clause-change
make_durable-requires-clause-change g c = c.requires.may.has

pub make_durable-requires-clause-tables : goal.make_durable-requires-clause-tables
make_durable-requires-clause-tables g c = c.requires.kept.encodable

pub make_durable-requires-clause-room : goal.make_durable-requires-clause-room
make_durable-requires-clause-room g c =
    new_half_fits c.args.log.now c.args.room c.args.state.now c.args.change c.requires.kept c.are_tables.ensures
    c.requires.may c.fields_stay_encodable.ensures.had c.encodings_are_within_table_weights.ensures
    c.changes_are_within_weights.ensures

pub make_durable-requires-clause-rooms : goal.make_durable-requires-clause-rooms
make_durable-requires-clause-rooms g c =
    subst (λ (n : ℕ). HaveRooms n c.args.rooms.now) (sym c.requires.kept.half) c.requires.rooms

-- ---- no memory

pub release_blocks-requires-in-Err-Memory : goal.release_blocks-requires-in-Err-Memory
release_blocks-requires-in-Err-Memory g c =
    last_used c.args.files.now c.args.room (held_by c.args.state.now) c.args.taken.now c.requires.blocks

pub returns-in-Err-Memory-clause-makes : goal.returns-in-Err-Memory-clause-makes
returns-in-Err-Memory-clause-makes g c =
    subst (λ (r : Result (Unit {0}) StepFault). KeepsChange g.D.Disk c.args.change
    (record { log = c.args.log.now; room = c.args.room; state = c.args.state.now }) c.args.disk.now r
    (record { log = c.make_durable.new.log; room = c.args.room; state = c.make_durable.new.state }) c.make_durable.new.disk)
    (c.in-Err-Memory.is ∙ ap Err c.in-Err-Memory.field-0-is)
    (kept_by g.D.Disk c.args.log.now c.args.room c.args.state.now c.args.disk.now c.args.change c.requires.may
    c.measured_tables_stay.ensures.changed
    (c.encodings_are_within_table_weights.ensures c.args.state.now c.are_tables.ensures
    (c.fields_stay_encodable.ensures.had c.args.state.now c.requires.kept.encodable) c.requires.kept.measured)
    g.met.D.Disk.seen_left
    (placed_behind c.args.files.now c.args.room (held_by (effect c.args.change c.args.state.now))
    (c.in-Ok.freed ++ c.args.unused.now)
    (uses_all c.args.room c.args.state.now c.args.change
    (c.changes_keep_items.ensures c.args.state.now c.args.change c.are_tables.ensures c.requires.may.fits)
    c.args.taken.now c.args.unused.now c.in-Ok.freed c.requires.same c.in-Ok.ensures.items c.args.files.now c.requires.blocks))
    c.make_durable.result c.make_durable.new.log c.make_durable.new.state c.make_durable.new.disk c.make_durable.ensures.makes)

pub returns-in-Err-Memory-clause-kept : goal.returns-in-Err-Memory-clause-kept
returns-in-Err-Memory-clause-kept g c =
    kept_after c.args.log.now c.args.room c.args.state.now c.args.change c.requires.kept c.are_tables.ensures
    c.requires.may g.D.Disk c.changes_stay_encodable.ensures.stay c.measured_tables_stay.ensures.changed c.args.disk.now
    c.make_durable.result c.make_durable.new.log c.make_durable.new.state c.make_durable.new.disk c.make_durable.ensures.makes

pub returns-in-Err-Memory-clause-rooms : goal.returns-in-Err-Memory-clause-rooms
returns-in-Err-Memory-clause-rooms g c =
    subst (λ (n : ℕ). HaveRooms n c.make_durable.new.rooms) c.requires.kept.half c.make_durable.ensures.rooms

pub returns-in-Err-Memory-clause-blocks : goal.returns-in-Err-Memory-clause-blocks
returns-in-Err-Memory-clause-blocks g c =
    subst (λ (t : Tables). UsesBlocks c.release_blocks-in-Err-Memory.new.self c.args.room (held_by t))
    (sym (c.make_durable.ensures.makes.memory (c.in-Err-Memory.is ∙ ap Err c.in-Err-Memory.field-0-is)).1)
    (uses_front c.args.files.now c.args.room (held_by c.args.state.now) c.args.taken.now c.requires.blocks
    c.release_blocks-in-Err-Memory.new.self c.release_blocks-in-Err-Memory.ensures.freed
    c.release_blocks-in-Err-Memory.ensures.range)

-- ---- the disk failed

pub release_blocks-requires-in-Err-DiskFault : goal.release_blocks-requires-in-Err-DiskFault
release_blocks-requires-in-Err-DiskFault g c =
    gone_used c.args.room c.args.state.now c.args.change
    (c.changes_keep_items.ensures c.args.state.now c.args.change c.are_tables.ensures c.requires.may.fits)
    c.args.taken.now c.args.unused.now c.in-Ok.freed c.requires.same c.in-Ok.ensures.items c.args.files.now c.requires.blocks

pub release_blocks-requires-in-Err-DiskFault-2 : goal.release_blocks-requires-in-Err-DiskFault-2
release_blocks-requires-in-Err-DiskFault-2 g c =
    unused_used c.args.room c.args.state.now c.args.change
    (c.changes_keep_items.ensures c.args.state.now c.args.change c.are_tables.ensures c.requires.may.fits)
    c.args.taken.now c.args.unused.now c.in-Ok.freed c.requires.same c.in-Ok.ensures.items c.args.files.now c.requires.blocks
    c.release_blocks-in-Err-DiskFault.new.self c.release_blocks-in-Err-DiskFault.ensures.freed c.release_blocks-in-Err-DiskFault.ensures.range

pub returns-in-Err-DiskFault-clause-makes : goal.returns-in-Err-DiskFault-clause-makes
returns-in-Err-DiskFault-clause-makes g c =
    subst (λ (r : Result (Unit {0}) StepFault). KeepsChange g.D.Disk c.args.change
    (record { log = c.args.log.now; room = c.args.room; state = c.args.state.now }) c.args.disk.now r
    (record { log = c.make_durable.new.log; room = c.args.room; state = c.make_durable.new.state }) c.make_durable.new.disk)
    (c.in-Err-DiskFault.is ∙ ap Err c.in-Err-DiskFault.field-0-is)
    (kept_by g.D.Disk c.args.log.now c.args.room c.args.state.now c.args.disk.now c.args.change c.requires.may
    c.measured_tables_stay.ensures.changed
    (c.encodings_are_within_table_weights.ensures c.args.state.now c.are_tables.ensures
    (c.fields_stay_encodable.ensures.had c.args.state.now c.requires.kept.encodable) c.requires.kept.measured)
    g.met.D.Disk.seen_left
    (placed_behind c.args.files.now c.args.room (held_by (effect c.args.change c.args.state.now))
    (c.in-Ok.freed ++ c.args.unused.now)
    (uses_all c.args.room c.args.state.now c.args.change
    (c.changes_keep_items.ensures c.args.state.now c.args.change c.are_tables.ensures c.requires.may.fits)
    c.args.taken.now c.args.unused.now c.in-Ok.freed c.requires.same c.in-Ok.ensures.items c.args.files.now c.requires.blocks))
    c.make_durable.result c.make_durable.new.log c.make_durable.new.state c.make_durable.new.disk c.make_durable.ensures.makes)

pub returns-in-Err-DiskFault-clause-kept : goal.returns-in-Err-DiskFault-clause-kept
returns-in-Err-DiskFault-clause-kept g c =
    kept_after c.args.log.now c.args.room c.args.state.now c.args.change c.requires.kept c.are_tables.ensures
    c.requires.may g.D.Disk c.changes_stay_encodable.ensures.stay c.measured_tables_stay.ensures.changed c.args.disk.now
    c.make_durable.result c.make_durable.new.log c.make_durable.new.state c.make_durable.new.disk c.make_durable.ensures.makes

pub returns-in-Err-DiskFault-clause-rooms : goal.returns-in-Err-DiskFault-clause-rooms
returns-in-Err-DiskFault-clause-rooms g c =
    subst (λ (n : ℕ). HaveRooms n c.make_durable.new.rooms) c.requires.kept.half c.make_durable.ensures.rooms

pub returns-in-Err-DiskFault-clause-blocks : goal.returns-in-Err-DiskFault-clause-blocks
returns-in-Err-DiskFault-clause-blocks g c =
    uses_behind c.args.room c.args.state.now c.args.change
    (c.changes_keep_items.ensures c.args.state.now c.args.change c.are_tables.ensures c.requires.may.fits)
    c.args.taken.now c.args.unused.now c.in-Ok.freed c.requires.same c.in-Ok.ensures.items c.args.files.now c.requires.blocks
    c.release_blocks-in-Err-DiskFault.new.self c.release_blocks-in-Err-DiskFault.ensures.freed c.release_blocks-in-Err-DiskFault.ensures.range
    c.release_blocks-in-Err-DiskFault-2.new.self c.make_durable.new.state (c.make_durable.ensures.makes.made (λ e. absurd (cc)))
    c.release_blocks-in-Err-DiskFault-2.ensures.freed c.release_blocks-in-Err-DiskFault-2.ensures.range

-- ---- it is durable

pub release_blocks-requires-in-Ok-make_durable : goal.release_blocks-requires-in-Ok-make_durable
release_blocks-requires-in-Ok-make_durable g c =
    gone_used c.args.room c.args.state.now c.args.change
    (c.changes_keep_items.ensures c.args.state.now c.args.change c.are_tables.ensures c.requires.may.fits)
    c.args.taken.now c.args.unused.now c.in-Ok.freed c.requires.same c.in-Ok.ensures.items c.args.files.now c.requires.blocks

pub release_blocks-requires-in-Ok-make_durable-2 : goal.release_blocks-requires-in-Ok-make_durable-2
release_blocks-requires-in-Ok-make_durable-2 g c =
    unused_used c.args.room c.args.state.now c.args.change
    (c.changes_keep_items.ensures c.args.state.now c.args.change c.are_tables.ensures c.requires.may.fits)
    c.args.taken.now c.args.unused.now c.in-Ok.freed c.requires.same c.in-Ok.ensures.items c.args.files.now c.requires.blocks
    c.release_blocks-in-Ok-make_durable.new.self c.release_blocks-in-Ok-make_durable.ensures.freed c.release_blocks-in-Ok-make_durable.ensures.range

pub returns-clause-makes : goal.returns-clause-makes
returns-clause-makes g c =
    subst (λ (r : Result (Unit {0}) StepFault). KeepsChange g.D.Disk c.args.change
    (record { log = c.args.log.now; room = c.args.room; state = c.args.state.now }) c.args.disk.now r
    (record { log = c.make_durable.new.log; room = c.args.room; state = c.make_durable.new.state }) c.make_durable.new.disk)
    c.in-Ok-make_durable.is
    (kept_by g.D.Disk c.args.log.now c.args.room c.args.state.now c.args.disk.now c.args.change c.requires.may
    c.measured_tables_stay.ensures.changed
    (c.encodings_are_within_table_weights.ensures c.args.state.now c.are_tables.ensures
    (c.fields_stay_encodable.ensures.had c.args.state.now c.requires.kept.encodable) c.requires.kept.measured)
    g.met.D.Disk.seen_left
    (placed_behind c.args.files.now c.args.room (held_by (effect c.args.change c.args.state.now))
    (c.in-Ok.freed ++ c.args.unused.now)
    (uses_all c.args.room c.args.state.now c.args.change
    (c.changes_keep_items.ensures c.args.state.now c.args.change c.are_tables.ensures c.requires.may.fits)
    c.args.taken.now c.args.unused.now c.in-Ok.freed c.requires.same c.in-Ok.ensures.items c.args.files.now c.requires.blocks))
    c.make_durable.result c.make_durable.new.log c.make_durable.new.state c.make_durable.new.disk c.make_durable.ensures.makes)

pub returns-clause-kept : goal.returns-clause-kept
returns-clause-kept g c =
    kept_after c.args.log.now c.args.room c.args.state.now c.args.change c.requires.kept c.are_tables.ensures
    c.requires.may g.D.Disk c.changes_stay_encodable.ensures.stay c.measured_tables_stay.ensures.changed c.args.disk.now
    c.make_durable.result c.make_durable.new.log c.make_durable.new.state c.make_durable.new.disk c.make_durable.ensures.makes

pub returns-clause-rooms : goal.returns-clause-rooms
returns-clause-rooms g c =
    subst (λ (n : ℕ). HaveRooms n c.make_durable.new.rooms) c.requires.kept.half c.make_durable.ensures.rooms

pub returns-clause-blocks : goal.returns-clause-blocks
returns-clause-blocks g c =
    uses_behind c.args.room c.args.state.now c.args.change
    (c.changes_keep_items.ensures c.args.state.now c.args.change c.are_tables.ensures c.requires.may.fits)
    c.args.taken.now c.args.unused.now c.in-Ok.freed c.requires.same c.in-Ok.ensures.items c.args.files.now c.requires.blocks
    c.release_blocks-in-Ok-make_durable.new.self c.release_blocks-in-Ok-make_durable.ensures.freed c.release_blocks-in-Ok-make_durable.ensures.range
    c.release_blocks-in-Ok-make_durable-2.new.self c.make_durable.new.state (c.make_durable.ensures.makes.made (λ e. absurd (cc)))
    c.release_blocks-in-Ok-make_durable-2.ensures.freed c.release_blocks-in-Ok-make_durable-2.ensures.range
