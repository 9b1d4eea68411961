use Rattle.std.proofs.Common.{◌∙◌, Err, List, ℕ, ap, subst, sym}
use Rattle.updater.specs.declared.fault.RecoverFault.TheVariants.{Memory, NotAStore}
use Rattle.updater.specs.FilesOpened.{IsWholeStore}
use Rattle.updater.proofs.FoundStore.{all_read, disk_failed, judged, kept_of_store, of_no_store, of_none, shows_valid, store_found, unjudged}
use Rattle.updater.proofs.updater.Updater.load.Goals as goal

pub returns-in-Err-NotTables : goal.returns-in-Err-NotTables
returns-in-Err-NotTables g c =
    let is = c.in-Err-NotTables.is ∙ ap Err c.in-Err-NotTables.field-0-is in
    all_read g.D.Disk c.args.disk.now c.recover.new.disk c.recover.new.disk c.recover.result c.recover.ensures (Err NotAStore)
    (λ e. absurd (cc)) (unjudged g.D.Disk c.args.disk.now c.recover.new.disk c.recover.result c.recover.ensures (Err NotAStore) (λ e. absurd (cc)))
    (λ told. tt) (λ told e. of_none _ (c.recover.ensures.not_tables told is))

pub returns-in-Err-Memory : goal.returns-in-Err-Memory
returns-in-Err-Memory g c =
    let is = c.in-Err-Memory.is ∙ ap Err c.in-Err-Memory.field-0-is in
    all_read g.D.Disk c.args.disk.now c.recover.new.disk c.recover.new.disk c.recover.result c.recover.ensures (Err Memory)
    (λ e. absurd (cc)) (unjudged g.D.Disk c.args.disk.now c.recover.new.disk c.recover.result c.recover.ensures (Err Memory) (λ e. absurd (cc)))
    (λ told. tt) (λ told e. absurd (cc))

pub returns-in-Err-DiskFault : goal.returns-in-Err-DiskFault
returns-in-Err-DiskFault g c =
    disk_failed g.D.Disk c.args.disk.now c.recover.new.disk c.recover.result c.recover.ensures (c.in-Err-DiskFault.is ∙ ap Err c.in-Err-DiskFault.field-0-is)

pub open_files-requires : goal.open_files-requires
open_files-requires g c = c.in-Ok.ensures.room.limits

pub returns-in-Err : goal.returns-in-Err
returns-in-Err g c =
    let is = c.in-Ok.is in
    let opened = c.in-Ok.opened in
    let failed = c.in-Err.is in
    all_read g.D.Disk c.args.disk.now c.recover.new.disk c.open_files.new.disk c.recover.result c.recover.ensures (Err c.in-Err.fault)
    (λ e. absurd (cc))
    (judged g.D.Disk opened.room opened.state c.recover.new.disk c.open_files.new.disk c.open_files.result c.open_files.ensures (Err c.in-Err.fault) (λ e. cc) (λ e. cc))
    (λ told. tt)
    (λ told e. of_no_store c.an_image_reads_as_one.ensures.one c.ordered_tables_show_ordered_stores.ensures.exact c.tables_weigh_as_shown.ensures _
    opened.room opened.state c.are_tables.ensures c.in-Ok.ensures.room.limits.some (c.in-Ok.ensures.found (c.open_files.ensures.spends.told told)).reads
    (λ whole. c.open_files.ensures.not_a_store told (cc)
    (subst (λ (bytes : List ℕ). IsWholeStore opened.room bytes opened.state) (sym c.recover.ensures.seen) whole)))

pub invariant_of-result : goal.invariant_of-result
invariant_of-result g c =
    let opens = c.in-Ok-open_files.ensures in (
      kept_of_store c.changes_stay_encodable.ensures.are c.in-Ok.opened c.are_tables.ensures c.in-Ok.ensures.room opens.of_store,
      opens.rooms,
      opens.files,
    )

pub returns : goal.returns
returns g c =
    let opened = c.in-Ok.opened in
    let is = c.in-Ok.is in
    let opens = c.in-Ok-open_files.is in
    all_read g.D.Disk c.args.disk.now c.recover.new.disk c.open_files.new.disk c.recover.result c.recover.ensures _
    (λ e. absurd (cc))
    (judged g.D.Disk opened.room opened.state c.recover.new.disk c.open_files.new.disk c.open_files.result c.open_files.ensures _ (λ e. absurd (cc)) (λ e. absurd (cc)))
    (λ told.
    let whole = c.in-Ok-open_files.ensures.whole told in
    let found = c.in-Ok.ensures.found (c.open_files.ensures.spends.told told) in
    store_found g.D.Disk c.args.disk.now c.recover.new.disk c.open_files.new.disk c.recover.result c.recover.ensures
    c.a_log_stays_open_as_tables.ensures.read (g.met.D.Disk.seen_left c.recover.new.disk) opened.log opened.room opened.state
    (λ e. absurd (cc)) c.open_files.ensures.still whole.of_store.measured whole.placed
    (shows_valid c.ordered_tables_show_ordered_stores.ensures.shown c.tables_weigh_as_shown.ensures opened.room opened.state _ c.are_tables.ensures
    c.in-Ok.ensures.room.limits.some whole.of_store whole.files)
    found.reads found.log)
    (λ told e. absurd (cc))
