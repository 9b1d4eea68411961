-- Files of a job that become the tables'.
use Rattle.std.specs.Prelude.{◌≡◌, ℕ, ◌+◌, List, length}
use Rattle.std.specs.List.{sum_by}
use Rattle.machine.specs.Views.{ContentKey}
use Rattle.jobs.specs.Balance.{kept_as, times}
use Rattle.jobs.specs.Kept.{Kept}
use Rattle.jobs.specs.Slots.{held_blocks, slot_at}
use Rattle.jobs.specs.declared.held.Slot.{Slot}

-- the tables with the blocks that the slots at these places have
abbrev pub gained : Kept → List Slot → List ℕ → Kept
gained kept slots needs = record {
  standing = λ block. kept.standing block
      + sum_by (λ at. times block (held_blocks (slot_at slots at).held)) needs;
  count = kept.count + sum_by (λ at. length (held_blocks (slot_at slots at).held)) needs;
  has = kept.has;
}

-- These tables are those, with the blocks that the slots at these places have. Of contents they
-- have the same.
pub record Receives (before after : Kept) (slots : List Slot) (needs : List ℕ) : Type 0 where
  pub standing : (block : ℕ) → after.standing block ≡ (gained before slots needs).standing block
  pub count : after.count ≡ (gained before slots needs).count
  pub has : (key : ContentKey) → kept_as key after ≡ kept_as key before
