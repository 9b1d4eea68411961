use Rattle.std.proofs.Common.{◌≡◌, ◌≤◌, ◌+◌, ◌∙◌, length, arith, ap, rules, List, ℕ, [], ◌∷◌}
use Rattle.small_types.specs.Bytes.{put}
use Rattle.journal.proofs.NewJournal.{length-front}
use Rattle.journal.proofs.SyncedCalls.{written, formats_filled, formats_opened}
use Rattle.journal.proofs.log.Log.format.Goals as goal

pub returns-in_err-fill-clause-any_moment : goal.returns-in_err-fill-clause-any_moment
returns-in_err-fill-clause-any_moment g c =
    let front = c.deref.ensures.value ∙ c.in_ok-front.ensures in
    let filled = written g.D.Disk c.clear.new.disk c.fill.new.disk c.deref.result.now c.args.blocks c.args.half c.args.tables.now front (c.fill.ensures.any_moment c.in_ok-clear.ensures.ok) in
    formats_filled g.D.Disk c.args.blocks c.args.half c.args.tables.now c.args.disk.now c.clear.new.disk c.fill.new.disk
    c.clear.ensures.any_moment c.in_ok-clear.ensures.tick c.in_ok-clear.ensures.ok filled c.fill.ensures.spends.within

pub returns-in_err-open_head-clause-any_moment : goal.returns-in_err-open_head-clause-any_moment
returns-in_err-open_head-clause-any_moment g c =
    let front = c.deref.ensures.value ∙ c.in_ok-front.ensures in
    let filled = written g.D.Disk c.clear.new.disk c.fill.new.disk c.deref.result.now c.args.blocks c.args.half c.args.tables.now front (c.fill.ensures.any_moment c.in_ok-clear.ensures.ok) in
    let fits : length c.args.tables.now + 11 ≤ c.args.half = c.if-half-need.false in
    let closed = λ (bytes : List ℕ) (left : g.D.Disk.left_at c.fill.new.disk (g.D.Disk.moment c.fill.new.disk) bytes). c.in_ok-fill.ensures.ok c.in_ok-clear.ensures.ok bytes left ∙ ap (put (4096 + c.args.half) (0 ∷ [])) front in
    formats_opened g.D.Disk c.args.blocks c.args.half c.args.tables.now c.args.disk.now c.clear.new.disk c.fill.new.disk c.open_head.new.disk fits
    c.clear.ensures.any_moment c.in_ok-clear.ensures.tick c.in_ok-clear.ensures.ok filled c.in_ok-fill.ensures.tick closed
    (c.open_head.ensures.any_moment c.args.blocks c.args.half c.args.tables.now c.requires.limits fits closed)

pub returns-clause-any_moment : goal.returns-clause-any_moment
returns-clause-any_moment g c =
    let front = c.deref.ensures.value ∙ c.in_ok-front.ensures in
    let filled = written g.D.Disk c.clear.new.disk c.fill.new.disk c.deref.result.now c.args.blocks c.args.half c.args.tables.now front (c.fill.ensures.any_moment c.in_ok-clear.ensures.ok) in
    let fits : length c.args.tables.now + 11 ≤ c.args.half = c.if-half-need.false in
    let closed = λ (bytes : List ℕ) (left : g.D.Disk.left_at c.fill.new.disk (g.D.Disk.moment c.fill.new.disk) bytes). c.in_ok-fill.ensures.ok c.in_ok-clear.ensures.ok bytes left ∙ ap (put (4096 + c.args.half) (0 ∷ [])) front in
    formats_opened g.D.Disk c.args.blocks c.args.half c.args.tables.now c.args.disk.now c.clear.new.disk c.fill.new.disk c.open_head.new.disk fits
    c.clear.ensures.any_moment c.in_ok-clear.ensures.tick c.in_ok-clear.ensures.ok filled c.in_ok-fill.ensures.tick closed
    (c.open_head.ensures.any_moment c.args.blocks c.args.half c.args.tables.now c.requires.limits fits closed)

pub returns-clause-written : goal.returns-clause-written
returns-clause-written g c =
    let size = ap length (c.deref.ensures.value ∙ c.in_ok-front.ensures) ∙ length-front c.args.blocks c.args.half 0 c.args.tables.now in
    omega (arith, size, c.in_ok-clear.ensures.written, c.in_ok-fill.ensures.written, c.in_ok-open_head.ensures.written)

pub returns-in_err-fill-clause-spends : goal.returns-in_err-fill-clause-spends
returns-in_err-fill-clause-spends g c =
    let size : length c.deref.result.now ≡ 4107 + length c.args.tables.now = ap length (c.deref.ensures.value ∙ c.in_ok-front.ensures) ∙ length-front c.args.blocks c.args.half 0 c.args.tables.now in
    search rules

pub returns-in_err-open_head-clause-spends : goal.returns-in_err-open_head-clause-spends
returns-in_err-open_head-clause-spends g c =
    let size : length c.deref.result.now ≡ 4107 + length c.args.tables.now = ap length (c.deref.ensures.value ∙ c.in_ok-front.ensures) ∙ length-front c.args.blocks c.args.half 0 c.args.tables.now in
    search rules

pub returns-clause-spends : goal.returns-clause-spends
returns-clause-spends g c =
    let size : length c.deref.result.now ≡ 4107 + length c.args.tables.now = ap length (c.deref.ensures.value ∙ c.in_ok-front.ensures) ∙ length-front c.args.blocks c.args.half 0 c.args.tables.now in
    search rules
