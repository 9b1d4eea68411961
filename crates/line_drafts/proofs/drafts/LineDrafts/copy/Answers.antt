use Rattle.std.proofs.Common.{◌∙◌, ℕ, Contains, List, length, refl, sym, ap, subst, arith}
use Rattle.std.proofs.lemmas.List.Elements.{Contains-append_left}
use Rattle.small_types.specs.Blocks.{IsContent, count_for}
use Rattle.file_store.specs.Stores.{draft_blocks, draft_size, free_of}
use Rattle.line_drafts.specs.Faults.{IsWriteFault}
use Rattle.line_drafts.specs.declared.fault.DraftFault.{DraftFault}
use Rattle.line_drafts.specs.declared.fault.DraftFault.TheVariants.{DiskFault}
use Rattle.line_drafts.proofs.Course.{kept_adds, kept_one, kept_works, none_adds, none_works, up_adds, up_works, used_here}
use Rattle.line_drafts.proofs.Ends.{begun_write, copied_fault, not_the_disk, nothing_spent, same_error, size_spent, too_many_full}
use Rattle.line_drafts.proofs.drafts.LineDrafts.copy.Goals as goal

pub returns-in-Err-clause-none : goal.returns-in-Err-clause-none
returns-in-Err-clause-none g c =
    none_adds g.D.Disk c.args.self.now c.args.files.now c.requires.used c.args.disk.now c.begin-begun.new.self c.in-Err.ensures.kept c.in-Err.ensures.range

pub returns-in-Err-clause-fault : goal.returns-in-Err-clause-fault
returns-in-Err-clause-fault g c =
    subst (λ (e : DraftFault). IsWriteFault c.args.size c.args.files.now e) (sym c.from.ensures) (begun_write c.args.size c.args.files.now c.in-Err.fault c.in-Err.ensures.full)

pub returns-in-Err-clause-too_many : goal.returns-in-Err-clause-too_many
returns-in-Err-clause-too_many g c = λ short. too_many_full (count_for c.args.size) (length (free_of c.args.files.now)) c.in-Err.fault c.from.result c.from.ensures (c.in-Err.ensures.too_many short)

pub returns-in-Err-clause-spends : goal.returns-in-Err-clause-spends
returns-in-Err-clause-spends g c =
    nothing_spent g.D.Disk (count_for c.args.size) c.args.size c.args.disk.now _
    (λ is. not_the_disk c.args.size c.args.files.now c.in-Err.fault c.in-Err.ensures.full (sym c.from.ensures ∙ same_error c.from.result DiskFault is))

pub returns-in-Err-clause-works : goal.returns-in-Err-clause-works
returns-in-Err-clause-works g c =
    none_works g.D.Disk c.args.self.now c.args.files.now c.requires.used c.args.disk.now c.begin-begun.new.self c.in-Err.ensures.kept c.in-Err.ensures.range c.args.size _
    (λ is. not_the_disk c.args.size c.args.files.now c.in-Err.fault c.in-Err.ensures.full (sym c.from.ensures ∙ same_error c.from.result DiskFault is))

pub copy_into-requires : goal.copy_into-requires
copy_into-requires g c = c.requires.counted ∙ ap count_for (sym c.in-Ok.ensures.size)

pub abandon-requires : goal.abandon-requires
abandon-requires g c =
    used_here g.D.Disk c.args.self.now c.args.files.now c.requires.used c.begin-begun.new.self c.copy_into.new.files c.in-Ok.draft c.copy_into.new.draft c.args.disk.now c.copy_into.new.disk
    c.in-Ok.ensures.takes c.in-Ok.ensures.used c.in-Ok.ensures.range c.copy_into.ensures.blocks c.copy_into.ensures.store c.copy_into.ensures.only

pub returns-in-Err-copy_into-clause-none : goal.returns-in-Err-copy_into-clause-none
returns-in-Err-copy_into-clause-none g c =
    up_adds g.D.Disk c.args.self.now c.args.files.now c.requires.used c.begin-begun.new.self c.copy_into.new.files c.in-Ok.draft c.copy_into.new.draft c.args.disk.now c.copy_into.new.disk
    c.in-Ok.ensures.takes c.in-Ok.ensures.used c.in-Ok.ensures.range c.copy_into.ensures.blocks c.copy_into.ensures.store c.copy_into.ensures.only
    c.args.self.now c.abandon.new.self refl c.abandon.ensures.freed c.abandon.ensures.range

pub returns-in-Err-copy_into-clause-fault : goal.returns-in-Err-copy_into-clause-fault
returns-in-Err-copy_into-clause-fault g c = copied_fault c.args.size c.args.files.now c.in-Err-copy_into.fault c.in-Err-copy_into.ensures.faults

pub returns-in-Err-copy_into-clause-too_many : goal.returns-in-Err-copy_into-clause-too_many
returns-in-Err-copy_into-clause-too_many g c = λ short. absurd (let no = c.in-Ok.ensures.too_many short in cc)

pub returns-in-Err-copy_into-clause-spends : goal.returns-in-Err-copy_into-clause-spends
returns-in-Err-copy_into-clause-spends g c =
    size_spent g.D.Disk (draft_size c.in-Ok.draft) c.args.size c.args.disk.now c.copy_into.new.disk _ _ c.in-Ok.ensures.size (λ err. err) (λ is. is) c.in-Err-copy_into.ensures.spends

pub returns-in-Err-copy_into-clause-works : goal.returns-in-Err-copy_into-clause-works
returns-in-Err-copy_into-clause-works g c =
    up_works g.D.Disk c.args.self.now c.args.files.now c.requires.used c.begin-begun.new.self c.copy_into.new.files c.in-Ok.draft c.copy_into.new.draft c.args.disk.now c.copy_into.new.disk
    c.in-Ok.ensures.takes c.in-Ok.ensures.used c.in-Ok.ensures.range c.copy_into.ensures.blocks c.copy_into.ensures.store c.copy_into.ensures.only
    c.args.self.now c.abandon.new.self refl c.abandon.ensures.freed c.abandon.ensures.range
    c.args.size _ (
      count_for c.args.size,
      size_spent g.D.Disk (draft_size c.in-Ok.draft) c.args.size c.args.disk.now c.copy_into.new.disk _ _ c.in-Ok.ensures.size (λ err. err) (λ is. is) c.in-Err-copy_into.ensures.spends,
    )

pub keep-requires-clause-used : goal.keep-requires-clause-used
keep-requires-clause-used g c =
    used_here g.D.Disk c.args.self.now c.args.files.now c.requires.used c.begin-begun.new.self c.copy_into.new.files c.in-Ok.draft c.copy_into.new.draft c.args.disk.now c.copy_into.new.disk
    c.in-Ok.ensures.takes c.in-Ok.ensures.used c.in-Ok.ensures.range c.copy_into.ensures.blocks c.copy_into.ensures.store c.copy_into.ensures.only

pub keep-requires-clause-whole : goal.keep-requires-clause-whole
keep-requires-clause-whole g c = c.in_default.ensures.whole

pub returns-in-Ok-keep-clause-added : goal.returns-in-Ok-keep-clause-added
returns-in-Ok-keep-clause-added g c =
    kept_one g.D.Disk c.args.self.now c.args.files.now c.requires.used c.begin-begun.new.self c.copy_into.new.files c.in-Ok.draft c.copy_into.new.draft c.args.disk.now c.copy_into.new.disk
    c.in-Ok.ensures.takes c.in-Ok.ensures.used c.in-Ok.ensures.range c.copy_into.ensures.blocks c.copy_into.ensures.store c.copy_into.ensures.only
    c.keep.new.self c.keep.new.files c.in-Ok-keep.ensures.added c.in-Ok-keep.ensures.store
    c.args.size (c.copy_into.ensures.size ∙ c.in-Ok.ensures.size)

pub returns-in-Ok-keep-clause-copied : goal.returns-in-Ok-keep-clause-copied
returns-in-Ok-keep-clause-copied g c =
    λ tells content sized is none.
    kept_adds g.D.Disk c.args.self.now c.args.files.now c.requires.used c.begin-begun.new.self c.copy_into.new.files c.in-Ok.draft c.copy_into.new.draft c.args.disk.now c.copy_into.new.disk
    c.in-Ok.ensures.takes c.in-Ok.ensures.used c.in-Ok.ensures.range c.copy_into.ensures.blocks c.copy_into.ensures.store c.copy_into.ensures.only
    c.keep.new.self c.keep.new.files c.in-Ok-keep.ensures.added c.in-Ok-keep.ensures.store
    content (c.copy_into.ensures.size ∙ c.in-Ok.ensures.size ∙ sym sized)
    (c.in_default.ensures.held tells content (sized ∙ sym c.in-Ok.ensures.size)
    (λ block there own. none block there (subst (λ (l : List ℕ). Contains l block) (sym c.in-Ok.ensures.takes) (Contains-append_left (draft_blocks c.in-Ok.draft) (free_of c.begin-begun.new.self) block own)))
    (subst (λ (base : ℕ). IsContent base c.args.blocks.now content (g.D.Disk.seen c.args.disk.now)) (sym c.in-Ok.ensures.range.base) is))

pub returns-in-Ok-keep-clause-too_many : goal.returns-in-Ok-keep-clause-too_many
returns-in-Ok-keep-clause-too_many g c = λ short. absurd (let no = c.in-Ok.ensures.too_many short in cc)

pub returns-in-Ok-keep-clause-written : goal.returns-in-Ok-keep-clause-written
returns-in-Ok-keep-clause-written g c = omega (arith, c.in_default.ensures.written, c.in-Ok.ensures.size)

pub returns-in-Ok-keep-clause-spends : goal.returns-in-Ok-keep-clause-spends
returns-in-Ok-keep-clause-spends g c =
    size_spent g.D.Disk (draft_size c.in-Ok.draft) c.args.size c.args.disk.now c.copy_into.new.disk _ _ c.in-Ok.ensures.size (λ err. absurd (let no = err in cc)) (λ is. absurd (cc)) c.in_default.ensures.spends

pub returns-in-Ok-keep-clause-works : goal.returns-in-Ok-keep-clause-works
returns-in-Ok-keep-clause-works g c =
    kept_works g.D.Disk c.args.self.now c.args.files.now c.requires.used c.begin-begun.new.self c.copy_into.new.files c.in-Ok.draft c.copy_into.new.draft c.args.disk.now c.copy_into.new.disk
    c.in-Ok.ensures.takes c.in-Ok.ensures.used c.in-Ok.ensures.range c.copy_into.ensures.blocks c.copy_into.ensures.store c.copy_into.ensures.only
    c.keep.new.self c.keep.new.files c.in-Ok-keep.ensures.added c.in-Ok-keep.ensures.store
    c.args.size _ (
      count_for c.args.size,
      size_spent g.D.Disk (draft_size c.in-Ok.draft) c.args.size c.args.disk.now c.copy_into.new.disk _ _ c.in-Ok.ensures.size (λ err. absurd (let no = err in cc)) (λ is. absurd (cc)) c.in_default.ensures.spends,
    )

pub returns-in-Err-keep-clause-none : goal.returns-in-Err-keep-clause-none
returns-in-Err-keep-clause-none g c =
    up_adds g.D.Disk c.args.self.now c.args.files.now c.requires.used c.begin-begun.new.self c.copy_into.new.files c.in-Ok.draft c.copy_into.new.draft c.args.disk.now c.copy_into.new.disk
    c.in-Ok.ensures.takes c.in-Ok.ensures.used c.in-Ok.ensures.range c.copy_into.ensures.blocks c.copy_into.ensures.store c.copy_into.ensures.only
    c.keep.new.self c.keep.new.files c.in-Err-keep.ensures.none c.in-Err-keep.ensures.freed c.keep.ensures.range

pub returns-in-Err-keep-clause-fault : goal.returns-in-Err-keep-clause-fault
returns-in-Err-keep-clause-fault g c = tt

pub returns-in-Err-keep-clause-too_many : goal.returns-in-Err-keep-clause-too_many
returns-in-Err-keep-clause-too_many g c = λ short. absurd (let no = c.in-Ok.ensures.too_many short in cc)

pub returns-in-Err-keep-clause-spends : goal.returns-in-Err-keep-clause-spends
returns-in-Err-keep-clause-spends g c =
    size_spent g.D.Disk (draft_size c.in-Ok.draft) c.args.size c.args.disk.now c.copy_into.new.disk _ _ c.in-Ok.ensures.size (λ err. absurd (let no = err in cc)) (λ is. absurd (cc)) c.in_default.ensures.spends

pub returns-in-Err-keep-clause-works : goal.returns-in-Err-keep-clause-works
returns-in-Err-keep-clause-works g c =
    up_works g.D.Disk c.args.self.now c.args.files.now c.requires.used c.begin-begun.new.self c.copy_into.new.files c.in-Ok.draft c.copy_into.new.draft c.args.disk.now c.copy_into.new.disk
    c.in-Ok.ensures.takes c.in-Ok.ensures.used c.in-Ok.ensures.range c.copy_into.ensures.blocks c.copy_into.ensures.store c.copy_into.ensures.only
    c.keep.new.self c.keep.new.files c.in-Err-keep.ensures.none c.in-Err-keep.ensures.freed c.keep.ensures.range
    c.args.size _ (
      count_for c.args.size,
      size_spent g.D.Disk (draft_size c.in-Ok.draft) c.args.size c.args.disk.now c.copy_into.new.disk _ _ c.in-Ok.ensures.size (λ err. absurd (let no = err in cc)) (λ is. absurd (cc)) c.in_default.ensures.spends,
    )
