use Rattle.std.proofs.Common.{◌≡◌, ◌⊎◌, ◌≤◌, inl, inr, ℕ, arith}
use Rattle.machine.specs.Weight.{IsLight, told_weight}
use Rattle.machine.proofs.Lightness.{is_light, no_halves}
use Rattle.table_weight.proofs.room.table_full.Goals as goal

pub returns-then-room-eq0 : goal.returns-then-room-eq0
returns-then-room-eq0 c = λ exact told. by exact told c.then-room-eq0.either
  where
    by : (exact : ℕ) → c.args.weight ≡ told_weight exact
        → (c.args.room.half ≡ 0)
        ⊎ ((c.args.room.half ≡ 0 → ⊥) × (c.args.weight ≤ c.room_of_tables-most.result))
        → IsLight c.args.room exact
    by exact told (inl none) = no_halves c.args.room exact none
    by exact told (inr some) =
        is_light c.args.room exact (λ heavy. (
        let most = c.room_of_tables-most.ensures.value in
        let few = c.room_of_tables-most.ensures.few in
        let over = heavy.1 in
        let least = some.1 in
        absurd (omega (arith, told, most, few, over, least))
        ))
