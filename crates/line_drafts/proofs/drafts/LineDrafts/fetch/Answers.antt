use Rattle.std.proofs.Common.{◌∙◌, ◌*◌, length, refl, sym, subst, inr}
use Rattle.small_types.specs.Blocks.{count_for}
use Rattle.links.specs.Links.{sources_of}
use Rattle.file_store.specs.Stores.{free_of, store_base}
use Rattle.fetcher.specs.Fetched.{IsThis}
use Rattle.fetcher.proofs.Liars.{but_all}
use Rattle.fetcher.proofs.Sequence.{all_same}
use Rattle.line_drafts.specs.Faults.{IsFetchFault}
use Rattle.line_drafts.specs.declared.fault.DraftFault.{DraftFault}
use Rattle.line_drafts.specs.declared.fault.DraftFault.TheVariants.{DiskFault}
use Rattle.line_drafts.proofs.Course.{kept_adds, kept_one, kept_works, none_adds, none_works, up_adds, up_works, used_here}
use Rattle.line_drafts.proofs.Ends.{basket_rose, begun_fetch, fetched_fault, not_basket, not_the_disk, same_error, some_spent, too_many_full}
use Rattle.line_drafts.proofs.Whole.{whole_holds, whole_size}
use Rattle.line_drafts.proofs.drafts.LineDrafts.fetch.Goals as goal

pub returns-in-Err-clause-none : goal.returns-in-Err-clause-none
returns-in-Err-clause-none g c =
    none_adds g.D.Disk c.args.self.now c.args.files.now c.requires.used c.args.disk.now c.begin.new.self c.in-Err.ensures.kept c.in-Err.ensures.range

pub returns-in-Err-clause-fault : goal.returns-in-Err-clause-fault
returns-in-Err-clause-fault g c =
    subst (λ (e : DraftFault). IsFetchFault c.args.list.now c.args.size c.args.target.now (g.L.Links.links c.args.links.now) (g.L.Links.links c.args.links.now) c.args.files.now (g.D.Disk.count c.args.disk.now) (g.D.Disk.count c.args.disk.now) e) (sym c.from.ensures)
    (begun_fetch c.args.list.now c.args.size c.args.target.now (g.L.Links.links c.args.links.now) c.args.files.now (g.D.Disk.count c.args.disk.now) c.in-Err.fault c.in-Err.ensures.full)

pub returns-in-Err-clause-too_many : goal.returns-in-Err-clause-too_many
returns-in-Err-clause-too_many g c = λ short. too_many_full (count_for c.args.size) (length (free_of c.args.files.now)) c.in-Err.fault c.from.result c.from.ensures (c.in-Err.ensures.too_many short)

pub returns-in-Err-clause-kept : goal.returns-in-Err-clause-kept
returns-in-Err-clause-kept g c =
    but_all (IsThis c.args.target.now c.args.list.now c.args.size) (g.L.Links.links c.args.links.now) (g.L.Links.links c.args.links.now) (all_same (g.L.Links.links c.args.links.now))

pub returns-in-Err-clause-works : goal.returns-in-Err-clause-works
returns-in-Err-clause-works g c =
    none_works g.D.Disk c.args.self.now c.args.files.now c.requires.used c.args.disk.now c.begin.new.self c.in-Err.ensures.kept c.in-Err.ensures.range (c.args.size * sources_of (g.L.Links.links c.args.links.now)) _
    (λ is. not_the_disk c.args.size c.args.files.now c.in-Err.fault c.in-Err.ensures.full (sym c.from.ensures ∙ same_error c.from.result DiskFault is))

pub fetch_into-requires-clause-below : goal.fetch_into-requires-clause-below
fetch_into-requires-clause-below g c = c.requires.below

pub fetch_into-requires-clause-size : goal.fetch_into-requires-clause-size
fetch_into-requires-clause-size g c = c.in-Ok.ensures.size

pub abandon-requires : goal.abandon-requires
abandon-requires g c =
    used_here g.D.Disk c.args.self.now c.args.files.now c.requires.used c.begin.new.self c.fetch_into.new.files c.in-Ok.draft c.fetch_into.new.draft c.args.disk.now c.fetch_into.new.disk
    c.in-Ok.ensures.takes c.in-Ok.ensures.used c.in-Ok.ensures.range c.fetch_into.ensures.blocks c.fetch_into.ensures.store c.fetch_into.ensures.only

pub returns-in-Err-fetch_into-clause-none : goal.returns-in-Err-fetch_into-clause-none
returns-in-Err-fetch_into-clause-none g c =
    up_adds g.D.Disk c.args.self.now c.args.files.now c.requires.used c.begin.new.self c.fetch_into.new.files c.in-Ok.draft c.fetch_into.new.draft c.args.disk.now c.fetch_into.new.disk
    c.in-Ok.ensures.takes c.in-Ok.ensures.used c.in-Ok.ensures.range c.fetch_into.ensures.blocks c.fetch_into.ensures.store c.fetch_into.ensures.only
    c.args.self.now c.abandon.new.self refl c.abandon.ensures.freed c.abandon.ensures.range

pub returns-in-Err-fetch_into-clause-fault : goal.returns-in-Err-fetch_into-clause-fault
returns-in-Err-fetch_into-clause-fault g c =
    subst (λ (e : DraftFault). IsFetchFault c.args.list.now c.args.size c.args.target.now (g.L.Links.links c.args.links.now) (g.L.Links.links c.fetch_into.new.links) c.args.files.now (g.D.Disk.count c.args.disk.now) (g.D.Disk.count c.fetch_into.new.disk) e) (sym c.from-in-Err-fetch_into.ensures)
    (fetched_fault c.args.list.now c.args.size c.args.target.now (g.L.Links.links c.args.links.now) (g.L.Links.links c.fetch_into.new.links) c.args.files.now (g.D.Disk.count c.args.disk.now) (g.D.Disk.count c.fetch_into.new.disk) c.in-Err-fetch_into.fault c.in-Err-fetch_into.ensures.fault)

pub returns-in-Err-fetch_into-clause-too_many : goal.returns-in-Err-fetch_into-clause-too_many
returns-in-Err-fetch_into-clause-too_many g c = λ short. absurd (let no = c.in-Ok.ensures.too_many short in cc)

pub returns-in-Err-fetch_into-clause-kept : goal.returns-in-Err-fetch_into-clause-kept
returns-in-Err-fetch_into-clause-kept g c = c.fetch_into.ensures.kept

pub returns-in-Err-fetch_into-clause-works : goal.returns-in-Err-fetch_into-clause-works
returns-in-Err-fetch_into-clause-works g c =
    up_works g.D.Disk c.args.self.now c.args.files.now c.requires.used c.begin.new.self c.fetch_into.new.files c.in-Ok.draft c.fetch_into.new.draft c.args.disk.now c.fetch_into.new.disk
    c.in-Ok.ensures.takes c.in-Ok.ensures.used c.in-Ok.ensures.range c.fetch_into.ensures.blocks c.fetch_into.ensures.store c.fetch_into.ensures.only
    c.args.self.now c.abandon.new.self refl c.abandon.ensures.freed c.abandon.ensures.range
    (c.args.size * sources_of (g.L.Links.links c.args.links.now)) _
    (some_spent g.D.Disk (c.args.size * sources_of (g.L.Links.links c.args.links.now)) c.args.disk.now c.fetch_into.new.disk _ c.fetch_into.ensures.told c.fetch_into.ensures.only.stops.later c.fetch_into.ensures.total c.fetch_into.ensures.written c.fetch_into.ensures.later
    (λ is. basket_rose c.args.list.now c.args.size c.args.target.now (g.L.Links.links c.args.links.now) (g.L.Links.links c.fetch_into.new.links) (g.D.Disk.count c.args.disk.now) (g.D.Disk.count c.fetch_into.new.disk) c.in-Err-fetch_into.fault c.in-Err-fetch_into.ensures.fault (sym c.from-in-Err-fetch_into.ensures ∙ same_error c.from-in-Err-fetch_into.result DiskFault is))
    (λ none. c.in-Err-fetch_into.ensures.quiet (not_basket c.in-Err-fetch_into.fault c.from-in-Err-fetch_into.result c.from-in-Err-fetch_into.ensures none)))

pub keep-requires-clause-used : goal.keep-requires-clause-used
keep-requires-clause-used g c =
    used_here g.D.Disk c.args.self.now c.args.files.now c.requires.used c.begin.new.self c.fetch_into.new.files c.in-Ok.draft c.fetch_into.new.draft c.args.disk.now c.fetch_into.new.disk
    c.in-Ok.ensures.takes c.in-Ok.ensures.used c.in-Ok.ensures.range c.fetch_into.ensures.blocks c.fetch_into.ensures.store c.fetch_into.ensures.only

pub keep-requires-clause-whole : goal.keep-requires-clause-whole
keep-requires-clause-whole g c = c.in_default.ensures.filled

pub returns-in-Ok-keep-clause-fetched : goal.returns-in-Ok-keep-clause-fetched
returns-in-Ok-keep-clause-fetched g c =
    let base = store_base c.begin.new.self in
    let draft = c.fetch_into.new.draft in
    let seen = g.D.Disk.seen c.fetch_into.new.disk in
    let file = c.in_default.ensures.file in (
      file.0,
      file.1,
      kept_adds g.D.Disk c.args.self.now c.args.files.now c.requires.used c.begin.new.self c.fetch_into.new.files c.in-Ok.draft c.fetch_into.new.draft c.args.disk.now c.fetch_into.new.disk
          c.in-Ok.ensures.takes c.in-Ok.ensures.used c.in-Ok.ensures.range c.fetch_into.ensures.blocks c.fetch_into.ensures.store c.fetch_into.ensures.only
          c.keep.new.self c.keep.new.files c.in-Ok-keep.ensures.added c.in-Ok-keep.ensures.store
          file.0 (whole_size base draft seen file.0 c.in_default.ensures.filled c.fetch_into.ensures.whole file.2)
          (whole_holds base draft seen file.0 c.fetch_into.ensures.whole file.2),
    )

pub returns-in-Ok-keep-clause-added : goal.returns-in-Ok-keep-clause-added
returns-in-Ok-keep-clause-added g c =
    kept_one g.D.Disk c.args.self.now c.args.files.now c.requires.used c.begin.new.self c.fetch_into.new.files c.in-Ok.draft c.fetch_into.new.draft c.args.disk.now c.fetch_into.new.disk
    c.in-Ok.ensures.takes c.in-Ok.ensures.used c.in-Ok.ensures.range c.fetch_into.ensures.blocks c.fetch_into.ensures.store c.fetch_into.ensures.only
    c.keep.new.self c.keep.new.files c.in-Ok-keep.ensures.added c.in-Ok-keep.ensures.store
    c.args.size (c.fetch_into.ensures.size ∙ c.in-Ok.ensures.size)

pub returns-in-Ok-keep-clause-too_many : goal.returns-in-Ok-keep-clause-too_many
returns-in-Ok-keep-clause-too_many g c = λ short. absurd (let no = c.in-Ok.ensures.too_many short in cc)

pub returns-in-Ok-keep-clause-kept : goal.returns-in-Ok-keep-clause-kept
returns-in-Ok-keep-clause-kept g c = c.fetch_into.ensures.kept

pub returns-in-Ok-keep-clause-works : goal.returns-in-Ok-keep-clause-works
returns-in-Ok-keep-clause-works g c =
    kept_works g.D.Disk c.args.self.now c.args.files.now c.requires.used c.begin.new.self c.fetch_into.new.files c.in-Ok.draft c.fetch_into.new.draft c.args.disk.now c.fetch_into.new.disk
    c.in-Ok.ensures.takes c.in-Ok.ensures.used c.in-Ok.ensures.range c.fetch_into.ensures.blocks c.fetch_into.ensures.store c.fetch_into.ensures.only
    c.keep.new.self c.keep.new.files c.in-Ok-keep.ensures.added c.in-Ok-keep.ensures.store
    (c.args.size * sources_of (g.L.Links.links c.args.links.now)) _
    (some_spent g.D.Disk (c.args.size * sources_of (g.L.Links.links c.args.links.now)) c.args.disk.now c.fetch_into.new.disk _ c.fetch_into.ensures.told c.fetch_into.ensures.only.stops.later c.fetch_into.ensures.total c.fetch_into.ensures.written c.fetch_into.ensures.later
    (λ is. absurd (cc)) (λ none. c.in_default.ensures.quiet (λ same. cc)))

pub returns-in-Err-keep-clause-none : goal.returns-in-Err-keep-clause-none
returns-in-Err-keep-clause-none g c =
    up_adds g.D.Disk c.args.self.now c.args.files.now c.requires.used c.begin.new.self c.fetch_into.new.files c.in-Ok.draft c.fetch_into.new.draft c.args.disk.now c.fetch_into.new.disk
    c.in-Ok.ensures.takes c.in-Ok.ensures.used c.in-Ok.ensures.range c.fetch_into.ensures.blocks c.fetch_into.ensures.store c.fetch_into.ensures.only
    c.keep.new.self c.keep.new.files c.in-Err-keep.ensures.none c.in-Err-keep.ensures.freed c.keep.ensures.range

pub returns-in-Err-keep-clause-fault : goal.returns-in-Err-keep-clause-fault
returns-in-Err-keep-clause-fault g c = inr c.in_default.ensures.file.1.asked

pub returns-in-Err-keep-clause-too_many : goal.returns-in-Err-keep-clause-too_many
returns-in-Err-keep-clause-too_many g c = λ short. absurd (let no = c.in-Ok.ensures.too_many short in cc)

pub returns-in-Err-keep-clause-kept : goal.returns-in-Err-keep-clause-kept
returns-in-Err-keep-clause-kept g c = c.fetch_into.ensures.kept

pub returns-in-Err-keep-clause-works : goal.returns-in-Err-keep-clause-works
returns-in-Err-keep-clause-works g c =
    up_works g.D.Disk c.args.self.now c.args.files.now c.requires.used c.begin.new.self c.fetch_into.new.files c.in-Ok.draft c.fetch_into.new.draft c.args.disk.now c.fetch_into.new.disk
    c.in-Ok.ensures.takes c.in-Ok.ensures.used c.in-Ok.ensures.range c.fetch_into.ensures.blocks c.fetch_into.ensures.store c.fetch_into.ensures.only
    c.keep.new.self c.keep.new.files c.in-Err-keep.ensures.none c.in-Err-keep.ensures.freed c.keep.ensures.range
    (c.args.size * sources_of (g.L.Links.links c.args.links.now)) _
    (some_spent g.D.Disk (c.args.size * sources_of (g.L.Links.links c.args.links.now)) c.args.disk.now c.fetch_into.new.disk _ c.fetch_into.ensures.told c.fetch_into.ensures.only.stops.later c.fetch_into.ensures.total c.fetch_into.ensures.written c.fetch_into.ensures.later
    (λ is. absurd (cc)) (λ none. c.in_default.ensures.quiet (λ same. cc)))

pub returns-in-Err-clause-idle : goal.returns-in-Err-clause-idle
returns-in-Err-clause-idle g c = λ same. refl

pub returns-in-Err-fetch_into-clause-idle : goal.returns-in-Err-fetch_into-clause-idle
returns-in-Err-fetch_into-clause-idle g c = c.fetch_into.ensures.idle

pub returns-in-Ok-keep-clause-idle : goal.returns-in-Ok-keep-clause-idle
returns-in-Ok-keep-clause-idle g c = c.fetch_into.ensures.idle

pub returns-in-Err-keep-clause-idle : goal.returns-in-Err-keep-clause-idle
returns-in-Err-keep-clause-idle g c = c.fetch_into.ensures.idle
