-- Tables that have room.
use Rattle.std.proofs.Common.{◌≡◌, ◌⊎◌, ◌<◌, ◌≤◌, inl, inr, ℕ, [], arith}
use Rattle.std.proofs.lemmas.Bool.{cases_lt}
use Rattle.small_types.specs.declared.room.Room.{Room}
use Rattle.machine.specs.Laws.{HasLeastHalves}
use Rattle.machine.specs.Weight.{IsLight, IsTooHeavy, table_room, weight_of}

pub is_light : (room : Room) (weight : ℕ) → (IsTooHeavy room weight → ⊥) → IsLight room weight
unfolding IsLight
is_light room weight fits = fits

pub not_heavy : (room : Room) (weight : ℕ) → IsLight room weight → IsTooHeavy room weight → ⊥
unfolding IsLight
not_heavy room weight light = light

-- where the half is 0 any weight has room
pub no_halves : (room : Room) (weight : ℕ) → room.half ≡ 0 → IsLight room weight
unfolding IsLight
no_halves room weight none = λ heavy. heavy.0 none

-- and where a weight has, so has each lower one
pub lighter : (room : Room) (less more : ℕ) → less ≤ more → IsLight room more → IsLight room less
unfolding IsLight
lighter room less more le light = λ heavy.
    light (heavy.0, (let over = heavy.1 in omega (arith, over, le)))

-- nothing has room in each half
pub least_light : (room : Room) → HasLeastHalves room → IsLight room (weight_of [] [])
unfolding IsLight weight_of
least_light room least = λ heavy.
    (let long = least heavy.0 in let over = heavy.1 in omega (arith, long, over))

-- ---- it is known whether tables have room

pub heavy_or_light : (room : Room) (weight : ℕ)
    → IsTooHeavy room weight ⊎ (IsTooHeavy room weight → ⊥)
heavy_or_light room weight = by (cases_lt 0 room.half) (cases_lt (table_room room) weight)
  where
    by : (0 < room.half) ⊎ (room.half ≤ 0) → (table_room room < weight) ⊎ (weight ≤ table_room room)
        → IsTooHeavy room weight ⊎ (IsTooHeavy room weight → ⊥)
    by (inl some) (inl over) = inl ((λ none. omega (arith, some, none)), over)
    by (inr none) over = inr (λ heavy. heavy.0 (omega (arith, none)))
    by (inl some) (inr le) = inr (λ heavy. (let over = heavy.1 in absurd (omega (arith, over, le))))
