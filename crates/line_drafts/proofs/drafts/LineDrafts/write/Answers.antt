use Rattle.std.proofs.Common.{◌∙◌, Err, [], length, refl, sym, ap, subst, arith}
use Rattle.small_types.specs.Blocks.{count_for}
use Rattle.file_store.specs.Stores.{filled_of, free_of, store_base}
use Rattle.line_drafts.specs.Faults.{IsWriteFault, fault_of_files}
use Rattle.line_drafts.specs.declared.fault.DraftFault.{DraftFault}
use Rattle.line_drafts.specs.declared.fault.DraftFault.TheVariants.{DiskFault}
use Rattle.line_drafts.proofs.Course.{kept_adds, kept_works, none_adds, none_works, up_adds, up_works, used_here}
use Rattle.line_drafts.proofs.Ends.{begun_write, not_the_disk, nothing_spent, piece_spent, same_error, too_many_full}
use Rattle.line_drafts.proofs.Whole.{holds_nothing}
use Rattle.line_drafts.proofs.drafts.LineDrafts.write.Goals as goal

pub returns-in-Err-clause-none : goal.returns-in-Err-clause-none
returns-in-Err-clause-none g c =
    none_adds g.D.Disk c.args.self.now c.args.files.now c.requires c.args.disk.now c.begin.new.self c.in-Err.ensures.kept c.in-Err.ensures.range

pub returns-in-Err-clause-fault : goal.returns-in-Err-clause-fault
returns-in-Err-clause-fault g c =
    subst (λ (e : DraftFault). IsWriteFault (length c.args.bytes.now) c.args.files.now e) (sym c.from.ensures) (begun_write (length c.args.bytes.now) c.args.files.now c.in-Err.fault c.in-Err.ensures.full)

pub returns-in-Err-clause-too_many : goal.returns-in-Err-clause-too_many
returns-in-Err-clause-too_many g c = λ short. too_many_full (count_for (length c.args.bytes.now)) (length (free_of c.args.files.now)) c.in-Err.fault c.from.result c.from.ensures (c.in-Err.ensures.too_many short)

pub returns-in-Err-clause-spends : goal.returns-in-Err-clause-spends
returns-in-Err-clause-spends g c =
    nothing_spent g.D.Disk (count_for (length c.args.bytes.now)) (length c.args.bytes.now) c.args.disk.now _
    (λ is. not_the_disk (length c.args.bytes.now) c.args.files.now c.in-Err.fault c.in-Err.ensures.full (sym c.from.ensures ∙ same_error c.from.result DiskFault is))

pub returns-in-Err-clause-works : goal.returns-in-Err-clause-works
returns-in-Err-clause-works g c =
    none_works g.D.Disk c.args.self.now c.args.files.now c.requires c.args.disk.now c.begin.new.self c.in-Err.ensures.kept c.in-Err.ensures.range (length c.args.bytes.now) _
    (λ is. not_the_disk (length c.args.bytes.now) c.args.files.now c.in-Err.fault c.in-Err.ensures.full (sym c.from.ensures ∙ same_error c.from.result DiskFault is))

pub store_piece-requires : goal.store_piece-requires
store_piece-requires g c = omega (arith, c.in-Ok.ensures.empty, c.in-Ok.ensures.size)

pub abandon-requires : goal.abandon-requires
abandon-requires g c =
    used_here g.D.Disk c.args.self.now c.args.files.now c.requires c.begin.new.self c.store_piece.new.self c.in-Ok.draft c.store_piece.new.draft c.args.disk.now c.store_piece.new.disk
    c.in-Ok.ensures.takes c.in-Ok.ensures.used c.in-Ok.ensures.range c.store_piece.ensures.blocks c.store_piece.ensures.store c.store_piece.ensures.only

pub returns-in-Err-store_piece-clause-none : goal.returns-in-Err-store_piece-clause-none
returns-in-Err-store_piece-clause-none g c =
    up_adds g.D.Disk c.args.self.now c.args.files.now c.requires c.begin.new.self c.store_piece.new.self c.in-Ok.draft c.store_piece.new.draft c.args.disk.now c.store_piece.new.disk
    c.in-Ok.ensures.takes c.in-Ok.ensures.used c.in-Ok.ensures.range c.store_piece.ensures.blocks c.store_piece.ensures.store c.store_piece.ensures.only
    c.args.self.now c.abandon.new.self refl c.abandon.ensures.freed c.abandon.ensures.range

pub returns-in-Err-store_piece-clause-fault : goal.returns-in-Err-store_piece-clause-fault
returns-in-Err-store_piece-clause-fault g c =
    subst (λ (e : DraftFault). IsWriteFault (length c.args.bytes.now) c.args.files.now e) (sym (c.from-in-Err-store_piece.ensures ∙ ap fault_of_files c.in-Err-store_piece.ensures.faults)) tt

pub returns-in-Err-store_piece-clause-too_many : goal.returns-in-Err-store_piece-clause-too_many
returns-in-Err-store_piece-clause-too_many g c = λ short. absurd (let no = c.in-Ok.ensures.too_many short in cc)

pub returns-in-Err-store_piece-clause-spends : goal.returns-in-Err-store_piece-clause-spends
returns-in-Err-store_piece-clause-spends g c =
    piece_spent g.D.Disk (filled_of c.in-Ok.draft) (length c.args.bytes.now) c.args.disk.now c.store_piece.new.disk _ _ c.in-Ok.ensures.empty
    (λ err. ap (λ (e : DraftFault). Err e) (c.from-in-Err-store_piece.ensures ∙ ap fault_of_files c.in-Err-store_piece.ensures.faults)) (λ is. refl) c.in-Err-store_piece.ensures.spends

pub returns-in-Err-store_piece-clause-works : goal.returns-in-Err-store_piece-clause-works
returns-in-Err-store_piece-clause-works g c =
    up_works g.D.Disk c.args.self.now c.args.files.now c.requires c.begin.new.self c.store_piece.new.self c.in-Ok.draft c.store_piece.new.draft c.args.disk.now c.store_piece.new.disk
    c.in-Ok.ensures.takes c.in-Ok.ensures.used c.in-Ok.ensures.range c.store_piece.ensures.blocks c.store_piece.ensures.store c.store_piece.ensures.only
    c.args.self.now c.abandon.new.self refl c.abandon.ensures.freed c.abandon.ensures.range
    (length c.args.bytes.now) _ (
      count_for (length c.args.bytes.now),
      piece_spent g.D.Disk (filled_of c.in-Ok.draft) (length c.args.bytes.now) c.args.disk.now c.store_piece.new.disk _ _ c.in-Ok.ensures.empty
          (λ err. ap (λ (e : DraftFault). Err e) (c.from-in-Err-store_piece.ensures ∙ ap fault_of_files c.in-Err-store_piece.ensures.faults)) (λ is. refl) c.in-Err-store_piece.ensures.spends,
    )

pub keep-requires-clause-used : goal.keep-requires-clause-used
keep-requires-clause-used g c =
    used_here g.D.Disk c.args.self.now c.args.files.now c.requires c.begin.new.self c.store_piece.new.self c.in-Ok.draft c.store_piece.new.draft c.args.disk.now c.store_piece.new.disk
    c.in-Ok.ensures.takes c.in-Ok.ensures.used c.in-Ok.ensures.range c.store_piece.ensures.blocks c.store_piece.ensures.store c.store_piece.ensures.only

pub keep-requires-clause-whole : goal.keep-requires-clause-whole
keep-requires-clause-whole g c = omega (arith, c.in_default.ensures.filled, c.store_piece.ensures.size, c.in-Ok.ensures.empty, c.in-Ok.ensures.size)

pub returns-in-Ok-keep-clause-added : goal.returns-in-Ok-keep-clause-added
returns-in-Ok-keep-clause-added g c =
    kept_adds g.D.Disk c.args.self.now c.args.files.now c.requires c.begin.new.self c.store_piece.new.self c.in-Ok.draft c.store_piece.new.draft c.args.disk.now c.store_piece.new.disk
    c.in-Ok.ensures.takes c.in-Ok.ensures.used c.in-Ok.ensures.range c.store_piece.ensures.blocks c.store_piece.ensures.store c.store_piece.ensures.only
    c.keep.new.self c.keep.new.files c.in-Ok-keep.ensures.added c.in-Ok-keep.ensures.store
    c.args.bytes.now (c.store_piece.ensures.size ∙ c.in-Ok.ensures.size)
    (c.in_default.ensures.held [] (holds_nothing (store_base c.begin.new.self) c.in-Ok.draft (g.D.Disk.seen c.args.disk.now) c.in-Ok.ensures.empty))

pub returns-in-Ok-keep-clause-too_many : goal.returns-in-Ok-keep-clause-too_many
returns-in-Ok-keep-clause-too_many g c = λ short. absurd (let no = c.in-Ok.ensures.too_many short in cc)

pub returns-in-Ok-keep-clause-written : goal.returns-in-Ok-keep-clause-written
returns-in-Ok-keep-clause-written g c = c.in_default.ensures.written

pub returns-in-Ok-keep-clause-spends : goal.returns-in-Ok-keep-clause-spends
returns-in-Ok-keep-clause-spends g c =
    piece_spent g.D.Disk (filled_of c.in-Ok.draft) (length c.args.bytes.now) c.args.disk.now c.store_piece.new.disk _ _ c.in-Ok.ensures.empty
    (λ err. absurd (let no = err in cc)) (λ is. absurd (cc)) c.in_default.ensures.spends

pub returns-in-Ok-keep-clause-works : goal.returns-in-Ok-keep-clause-works
returns-in-Ok-keep-clause-works g c =
    kept_works g.D.Disk c.args.self.now c.args.files.now c.requires c.begin.new.self c.store_piece.new.self c.in-Ok.draft c.store_piece.new.draft c.args.disk.now c.store_piece.new.disk
    c.in-Ok.ensures.takes c.in-Ok.ensures.used c.in-Ok.ensures.range c.store_piece.ensures.blocks c.store_piece.ensures.store c.store_piece.ensures.only
    c.keep.new.self c.keep.new.files c.in-Ok-keep.ensures.added c.in-Ok-keep.ensures.store
    (length c.args.bytes.now) _ (
      count_for (length c.args.bytes.now),
      piece_spent g.D.Disk (filled_of c.in-Ok.draft) (length c.args.bytes.now) c.args.disk.now c.store_piece.new.disk _ _ c.in-Ok.ensures.empty
          (λ err. absurd (let no = err in cc)) (λ is. absurd (cc)) c.in_default.ensures.spends,
    )

pub returns-in-Err-keep-clause-none : goal.returns-in-Err-keep-clause-none
returns-in-Err-keep-clause-none g c =
    up_adds g.D.Disk c.args.self.now c.args.files.now c.requires c.begin.new.self c.store_piece.new.self c.in-Ok.draft c.store_piece.new.draft c.args.disk.now c.store_piece.new.disk
    c.in-Ok.ensures.takes c.in-Ok.ensures.used c.in-Ok.ensures.range c.store_piece.ensures.blocks c.store_piece.ensures.store c.store_piece.ensures.only
    c.keep.new.self c.keep.new.files c.in-Err-keep.ensures.none c.in-Err-keep.ensures.freed c.keep.ensures.range

pub returns-in-Err-keep-clause-fault : goal.returns-in-Err-keep-clause-fault
returns-in-Err-keep-clause-fault g c = tt

pub returns-in-Err-keep-clause-too_many : goal.returns-in-Err-keep-clause-too_many
returns-in-Err-keep-clause-too_many g c = λ short. absurd (let no = c.in-Ok.ensures.too_many short in cc)

pub returns-in-Err-keep-clause-spends : goal.returns-in-Err-keep-clause-spends
returns-in-Err-keep-clause-spends g c =
    piece_spent g.D.Disk (filled_of c.in-Ok.draft) (length c.args.bytes.now) c.args.disk.now c.store_piece.new.disk _ _ c.in-Ok.ensures.empty
    (λ err. absurd (let no = err in cc)) (λ is. absurd (cc)) c.in_default.ensures.spends

pub returns-in-Err-keep-clause-works : goal.returns-in-Err-keep-clause-works
returns-in-Err-keep-clause-works g c =
    up_works g.D.Disk c.args.self.now c.args.files.now c.requires c.begin.new.self c.store_piece.new.self c.in-Ok.draft c.store_piece.new.draft c.args.disk.now c.store_piece.new.disk
    c.in-Ok.ensures.takes c.in-Ok.ensures.used c.in-Ok.ensures.range c.store_piece.ensures.blocks c.store_piece.ensures.store c.store_piece.ensures.only
    c.keep.new.self c.keep.new.files c.in-Err-keep.ensures.none c.in-Err-keep.ensures.freed c.keep.ensures.range
    (length c.args.bytes.now) _ (
      count_for (length c.args.bytes.now),
      piece_spent g.D.Disk (filled_of c.in-Ok.draft) (length c.args.bytes.now) c.args.disk.now c.store_piece.new.disk _ _ c.in-Ok.ensures.empty
          (λ err. absurd (let no = err in cc)) (λ is. absurd (cc)) c.in_default.ensures.spends,
    )
