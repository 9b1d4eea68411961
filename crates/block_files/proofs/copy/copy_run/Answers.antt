use Rattle.std.proofs.Common.{◌≡◌, ◌+◌, ◌++◌, ◌∙◌, ◌-◌, ◌≤◌, ℕ, List, OnOk, length, take, drop, replicate, ap, arith, sym, subst}
use Rattle.file_store.specs.Stores.{DraftHolds, draft_blocks, filled_of, store_base}
use Rattle.block_files.proofs.Parts.{buffer_given, take_on}
use Rattle.block_files.proofs.Wider.{only_still}
use Rattle.block_files.proofs.copy.copy_run.Goals as goal

pub returns-in_err-read-clause-only : goal.returns-in_err-read-clause-only
returns-in_err-read-clause-only g c = only_still g.D.Disk (store_base c.args.files.now) (draft_blocks c.args.draft.now) c.args.disk.now c.read_run.new.disk c.read_run.ensures.still

pub returns-clause-held : goal.returns-clause-held
returns-clause-held g c = λ tells content long is before.
    let told = c.store_run.ensures.spends.told tells in
    let size = long ∙ sym c.size.ensures in
    let from : c.filled.result ≡ filled_of c.args.draft.now = c.filled.ensures.value in
    let room : length c.clear_from.new.buffer ≡ length c.args.buffer.now = c.clear_from.auto.buffer ∙ c.read_run.auto.buffer in
    let given : c.clear_from.new.buffer ≡ take (length c.args.buffer.now) (drop c.filled.result content) =
    buffer_given content c.args.buffer.now c.read_run.new.buffer c.clear_from.new.buffer (replicate (length c.read_run.new.buffer - c.in_ok-read.read) 0) c.size.result c.filled.result c.in_ok-read.read
    (omega (arith, from, c.size.ensures, c.requires.fits)) (c.in_ok-read.ensures.whole told content size is) c.read_run.auto.buffer (c.in_ok-read.ensures.bytes told content size is) c.clear_from.ensures room in
    let piece : c.clear_from.new.buffer ≡ take (length c.args.buffer.now) (drop (filled_of c.args.draft.now) content) =
    given ∙ ap (λ (k : ℕ). take (length c.args.buffer.now) (drop k content)) from in
    let within : filled_of c.args.draft.now ≤ length content = omega (arith, long, c.requires.fits) in
    let grown : take (filled_of c.args.draft.now) content ++ c.clear_from.new.buffer ≡ take (filled_of c.args.draft.now + length c.args.buffer.now) content =
    ap (λ (l : List ℕ). take (filled_of c.args.draft.now) content ++ l) piece ∙ sym (take_on content (filled_of c.args.draft.now) (length c.args.buffer.now) within) in
    let here : DraftHolds (store_base c.args.files.now) c.args.draft.now (take (filled_of c.args.draft.now) content) (g.D.Disk.seen c.read_run.new.disk) =
    subst (DraftHolds (store_base c.args.files.now) c.args.draft.now (take (filled_of c.args.draft.now) content)) (sym c.read_run.ensures.still.same_reads) before in
    subst (λ (l : List ℕ). OnOk c.store_run.result (DraftHolds (store_base c.args.files.now) c.store_run.new.draft l (g.D.Disk.seen c.store_run.new.disk))) grown
    (c.store_run.ensures.held (take (filled_of c.args.draft.now) content) here)
