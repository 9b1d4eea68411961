-- What a new job needs, file after file.
use Rattle.std.proofs.Common.{◌≡◌, ℕ, ◌+◌, ◌<◌, ◌≤◌, ◌&&◌, not, nat_lt, true, false, Bool, if◌then◌else◌, List, length, get_or, take, sym, ◌∙◌, ap, arith}
use Rattle.std.proofs.lemmas.Bool.{and_from, cond-true, lt-ltb}
use Rattle.std.proofs.Math.Seq.{take-length}
use Rattle.std.proofs.lemmas.List.Sums.{sum_by_more}
use Rattle.small_types.specs.Blocks.{count_for}
use Rattle.manifests.specs.declared.facts.FileEntry.{FileEntry}
use Rattle.machine.specs.Views.{ContentKey, content_key}
use Rattle.jobs.specs.Balance.{needed_as}
use Rattle.jobs.specs.NewJobs.{need_for, need_of, no_file}
use Rattle.jobs.specs.Slots.{is_for, is_used, slot_at}
use Rattle.jobs.specs.declared.held.Slot.{Slot}
use Rattle.jobs.proofs.BalancedSlots.{needs_as}
use Rattle.jobs.proofs.OpenedJobs.{needs_within}

pub needed_found : (slots : List Slot) (key : ContentKey) (at : ℕ) → at < length slots → is_for key (slot_at slots at) ≡ true → is_used (slot_at slots at) ≡ true → 0 < needed_as key slots
needed_found slots key at low for_it used =
    let one : needs_as key (slot_at slots at) ≡ 1 = cond-true (is_for key (slot_at slots at) && is_used (slot_at slots at)) 1 0 (and_from (is_for key (slot_at slots at)) (is_used (slot_at slots at)) for_it used) in
    omega (arith, one, needs_within key slots at low)

-- a job counts the content
pub need_nothing : (slots : List Slot) (entry : FileEntry) → entry.local ≡ false → 0 < needed_as (content_key entry) slots → need_of slots entry ≡ 0
need_nothing slots entry program some =
    ap (λ (b : Bool). if not b && nat_lt 0 (needed_as (content_key entry) slots) then 0 else count_for entry.size) program
    ∙ ap (λ (b : Bool). if b then 0 else count_for entry.size) (lt-ltb 0 (needed_as (content_key entry) slots) some)

pub need_more : (slots : List Slot) (entries : List FileEntry) (left : List ℕ) (k : ℕ) (d : ℕ) → k < length left
    → need_for slots entries (take (k + 1) left) ≡ need_for slots entries (take k left) + need_of slots (get_or entries (get_or left k d) no_file)
need_more slots entries left k d low = sum_by_more (λ n. need_of slots (get_or entries n no_file)) left k d low

pub need_all : (slots : List Slot) (entries : List FileEntry) (left : List ℕ) (k : ℕ) → k ≡ length left → need_for slots entries (take k left) ≡ need_for slots entries left
need_all slots entries left k end = ap (λ (n : ℕ). need_for slots entries (take n left)) end ∙ ap (need_for slots entries) (take-length left)
