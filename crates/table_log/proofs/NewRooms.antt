-- The room of a new store.
use Rattle.std.proofs.Common.{◌≡◌, ◌≤◌, ℕ, sym, subst, arith}
use Rattle.small_types.specs.declared.limits.TheConstants.{BLOCK_LIMIT}
use Rattle.small_types.specs.declared.room.Room.{Room}
use Rattle.small_types.specs.Room.{new_room}
use Rattle.journal.specs.Layout.{AreLimits}

-- a journal may have it
pub new_limits : (blocks : ℕ) → 1 ≤ blocks → blocks ≤ BLOCK_LIMIT
    → AreLimits blocks (new_room blocks).half
new_limits blocks some few = record {
  some = some;
  most = omega (arith, few);
  least = omega arith;
  greatest = omega arith;
  steps = omega arith;
}

-- also under another name
pub made_limits : (blocks : ℕ) (made : Room) → made ≡ new_room blocks → 1 ≤ blocks
    → blocks ≤ BLOCK_LIMIT → AreLimits made.blocks made.half
made_limits blocks made is some few =
    subst (λ (room : Room). AreLimits room.blocks room.half) (sym is) (new_limits blocks some few)
