use Rattle.std.proofs.Common.{◌≡◌, ◌+◌, ◌++◌, ◌≤◌, ◌∙◌, [], ℕ, List, All, Err, Some, append-nil, ap, arith, refl, rules, subst, sym, length}
use Rattle.std.specs.Prelude.{option_map}
use Rattle.std.specs.List.Sorted.{IsPermutation}
use Rattle.std.proofs.lemmas.Bool.{false≢true}
use Rattle.std.proofs.lemmas.List.Sorted.{IsPermutation-refl}
use Rattle.small_types.specs.declared.limits.TheConstants.{NUMBER_LIMIT}
use Rattle.small_types.specs.Blocks.{count_for}
use Rattle.file_store.specs.Stores.{store_base}
use Rattle.machine.specs.declared.command.Command.TheVariants as command
use Rattle.machine.specs.declared.reply.Reply.TheVariants as says
use Rattle.store_state.specs.declared.view.LocalFile.{LocalFile}
use Rattle.store_state.specs.declared.view.View.{View}
use Rattle.store_state.specs.Locals.{local_at}
use Rattle.store_state.specs.Measured.{IsMeasuredLocal}
use Rattle.store_state.specs.Stored.{HasLocals, data_bytes}
use Rattle.table_files.specs.Held.{held_by}
use Rattle.install_plan.proofs.Downs.{counts_none}
use Rattle.updater.specs.PutStep.{file_of}
use Rattle.updater.proofs.Brings.{file_short}
use Rattle.updater.proofs.CommandEnds.{refused}
use Rattle.updater.proofs.DataPut.{file_encodes, put_rests}
use Rattle.updater.proofs.FileBytes.{data_there}
use Rattle.updater.proofs.FilesWritten.{passed_writing}
use Rattle.updater.proofs.Passed.{passed_reading, passed_then}
use Rattle.updater.proofs.PutEnds.{disk_fault, put_kept, put_unkept}
use Rattle.updater.proofs.PutFits.{put_fits, put_light}
use Rattle.updater.proofs.PutRoom.{put_room}
use Rattle.updater.proofs.ReadEnds.{read_failed, read_over}
use Rattle.updater.proofs.Seen.{begun_as, rested_as, seen}
use Rattle.updater.proofs.ShownViews.{keeps_view}
use Rattle.updater.proofs.SmallBlocks.{used_small}
use Rattle.updater.proofs.TakenBlocks.{uses_still, uses_taken}
use Rattle.updater.proofs.updater.Updater.put.Goals as goal

pub returns-in-Err : goal.returns-in-Err
returns-in-Err g c =
    let u = seen c.self.inside in
    rested_as c.self.view_is
    (refused g.D.Disk g.L.Links c.args.now (command.Put c.args.lease c.args.name.now c.args.bytes.now)
    u c.args.disk.now c.args._links.now
    (g.met.D.Disk.seen_left c.args.disk.now) c.requires.moment tt c.in-Err.reply
    (subst (λ (n : ℕ). n ≤ NUMBER_LIMIT) (sym (c.in-Err.ensures.still c.args.now))
    c.requires.moment)
    (counts_none c.in-Err.ensures.no_target) (λ e. tt)
    (λ old s. c.in-Err.ensures.refused (keeps_view s.shows c.args.lease s.valid.ordered) old))

pub returns-in-Ok-true : goal.returns-in-Ok-true
returns-in-Ok-true g c =
    let inside = c.self.inside in
    let u = seen inside in
    let first = g.D.Disk.seen c.args.disk.now in
    let image = g.D.Disk.seen c.stands_there.new.disk in
    let same = c.stands_there.ensures.still.same_reads in
    rested_as c.self.view_is
    (read_over g.D.Disk g.L.Links c.args.now (command.Put c.args.lease c.args.name.now c.args.bytes.now)
    u c.args.disk.now c.stands_there.new.disk c.args._links.now
    (g.met.D.Disk.seen_left c.stands_there.new.disk) c.requires.moment tt _ c.in-Ok-true.ensures.still c.in-Ok-true.ensures.spends
    (λ err. let none = err in cc) says.Put c.requires.moment (counts_none refl) (λ e. tt)
    (λ told old s. put_rests c.args.now c.args.lease u.room c.args.name.now c.args.bytes.now u.state image _ _
    old s.jobs s.shows s.valid c.requires.words c.requires.moment c.in-Ok.view c.in-Ok.ensures.putting
    (subst (λ (seen : List ℕ). option_map (data_bytes u.room seen) (local_at c.in-Ok.view c.args.name.now u.state) ≡ Some c.args.bytes.now)
    (sym same)
    ((c.in-Ok-true.ensures.stands told u.room c.self.invariant.2.base
    (subst (λ (seen : List ℕ). All (λ (view : View). HasLocals u.room seen view.locals) u.state.views) same s.shows.measured)).0 c.in-Ok-true.field-0-test))))

pub returns-in-Err-stands_there : goal.returns-in-Err-stands_there
returns-in-Err-stands_there g c =
    let u = seen c.self.inside in
    rested_as c.self.view_is
    (read_failed g.D.Disk g.L.Links c.args.now (command.Put c.args.lease c.args.name.now c.args.bytes.now)
    u c.args.disk.now c.stands_there.new.disk c.args._links.now
    (g.met.D.Disk.seen_left c.stands_there.new.disk) c.requires.moment tt _ c.in-Err-stands_there.ensures.still c.in-Err-stands_there.ensures.spends
    refl _ refl)

pub put_file-requires : goal.put_file-requires
put_file-requires g c =
    let inside = c.self.inside in
    put_room inside.files inside.room inside.state (length c.args.bytes.now) c.self.invariant.2
    (c.held_are_used.ensures inside.state c.are_tables.ensures c.self.invariant.0.measured) c.in-Ok.ensures.enough

pub invariant_of-self : goal.invariant_of-self
invariant_of-self g c =
    let inside = c.self.inside in (
      c.self.invariant.0,
      c.self.invariant.1,
      uses_still inside.files c.put_file.new.files inside.room (held_by inside.state) c.self.invariant.2
          c.put_file.ensures.range c.in-Err-put_file.ensures.freed,
    )

pub returns-in-Err-put_file : goal.returns-in-Err-put_file
returns-in-Err-put_file g c =
    let inside = c.self.inside in
    let u = seen inside in
    let disk = c.args.disk.now in
    let mid = c.stands_there.new.disk in
    let last = c.put_file.new.disk in
    begun_as c.self.view_is
    (put_unkept g.D.Disk g.L.Links c.args.now c.args.lease c.args.name.now c.args.bytes.now u disk last c.args._links.now
    (g.met.D.Disk.seen_left last) c.requires.moment (0 + length c.args.bytes.now) (omega arith) _
    (passed_then g.D.Disk u disk mid last 0 (length c.args.bytes.now) _ _ (λ err. let none = err in cc)
    (passed_reading g.D.Disk u disk mid _ c.in-Ok-false.ensures.still c.in-Ok-false.ensures.spends)
    (passed_writing g.D.Disk u inside.files mid last (length c.args.bytes.now) _ (g.met.D.Disk.seen_left mid)
    c.self.invariant.2 c.put_file.ensures.only c.in-Err-put_file.ensures.spends))
    (Unit {0}) c.in-Err-put_file.fault (λ is. ap Err is) (λ is. disk_fault is) c.answer.result c.answer.ensures)

pub keep_files-requires-clause-may : goal.keep_files-requires-clause-may
keep_files-requires-clause-may g c =
    let inside = c.self.inside in
    let file = c.in-Ok-put_file.made.0 in
    let blocks = c.in-Ok-put_file.made.1 in
    let is = c.in-Ok-put_file.ensures.file in
    let words = c.requires.words in
    let uses = uses_taken inside.files c.put_file.new.files inside.room (held_by inside.state) c.self.invariant.2
    c.put_file.ensures.range blocks c.in-Ok-put_file.ensures.taken in
    let small = used_small c.put_file.new.files inside.room (held_by inside.state) blocks blocks [] uses
    (subst (IsPermutation blocks) (sym (append-nil blocks)) (IsPermutation-refl blocks)) c.self.invariant.0.limits.most in
    record {
      fits = put_fits c.args.lease inside.room c.args.name.now c.args.bytes.now inside.state c.are_tables.ensures words.1
          c.in-Ok.view c.in-Ok.ensures.putting blocks file is;
      has = (
        search rules,
        file_encodes c.args.name.now c.args.bytes.now blocks file words.1 words.2 small is,
      );
      short = file_short c.args.name.now c.args.bytes.now blocks c.in-Ok.view file words.2 is;
      light = put_light c.args.lease inside.room c.args.name.now c.args.bytes.now inside.state c.are_tables.ensures words.1
          c.in-Ok.view c.in-Ok.ensures.putting blocks c.changed_tables_weigh.ensures.with_data file is;
      measured = subst IsMeasuredLocal (sym is) c.in-Ok-put_file.ensures.count;
    }

pub keep_files-requires-clause-blocks : goal.keep_files-requires-clause-blocks
keep_files-requires-clause-blocks g c =
    let inside = c.self.inside in
    uses_taken inside.files c.put_file.new.files inside.room (held_by inside.state) c.self.invariant.2
    c.put_file.ensures.range c.in-Ok-put_file.made.1 c.in-Ok-put_file.ensures.taken

pub invariant_of-self-2 : goal.invariant_of-self-2
invariant_of-self-2 g c = (c.keep_files.ensures.kept, c.keep_files.ensures.rooms, c.keep_files.ensures.blocks)

pub returns : goal.returns
returns g c =
    let inside = c.self.inside in
    let u = seen inside in
    let disk = c.args.disk.now in
    let mid = c.stands_there.new.disk in
    let last = c.put_file.new.disk in
    let blocks = c.in-Ok-put_file.made.1 in
    begun_as c.self.view_is
    (put_kept g.D.Disk g.L.Links c.args.now c.args.lease c.args.name.now c.args.bytes.now u disk last c.args._links.now
    (g.met.D.Disk.seen_left last) c.requires.moment (0 + length c.args.bytes.now) (omega arith) _
    (passed_then g.D.Disk u disk mid last 0 (length c.args.bytes.now) _ _ (λ err. let none = err in cc)
    (passed_reading g.D.Disk u disk mid _ c.in-Ok-false.ensures.still c.in-Ok-false.ensures.spends)
    (passed_writing g.D.Disk u inside.files mid last (length c.args.bytes.now) _ (g.met.D.Disk.seen_left mid)
    c.self.invariant.2 c.put_file.ensures.only c.in-Ok-put_file.ensures.spends))
    (λ e. absurd (cc)) c.requires.words c.in-Ok.view c.in-Ok.ensures.putting c.puts_show_the_file.ensures
    c.one_data_file_is_changed.ensures.put blocks (g.met.D.Disk.seen_left disk)
    (λ image left. data_there u.room (store_base inside.files) c.args.name.now c.args.bytes.now blocks image c.self.invariant.2.base
    (c.in-Ok-put_file.ensures.content image left))
    (λ told old shows has. false≢true (sym c.in-Ok-false.field-0-test ∙ (c.in-Ok-false.ensures.stands (c.in-Ok-put_file.ensures.spends.1.told told) u.room c.self.invariant.2.base shows.measured).1 has))
    c.in-Ok-put_file.made.0 c.in-Ok-put_file.ensures.file
    (record { log = c.keep_files.new.log; room = inside.room; state = c.keep_files.new.state }) c.keep_files.new.disk c.keep_files.result c.answer-2.result c.keep_files.ensures.makes c.answer-2.ensures)
