-- Tables that have room, or the reply that they have none.
use Rattle.std.proofs.Common.{◌≡◌, ℕ, false, Option, Some, None, ap}
use Rattle.std.specs.Prelude.{IfSome, MatchOption}
use Rattle.small_types.specs.declared.room.Room.{Room}
use Rattle.machine.specs.declared.reply.Reply.{Reply}
use Rattle.machine.specs.declared.reply.Reply.TheVariants as says
use Rattle.machine.specs.Machine.{moment_after}
use Rattle.machine.specs.Weight.{IsLight, IsTooHeavy, table_room, told_weight}
use Rattle.install_plan.specs.Checks.{is_missing}

-- what is found of a weight: a reply exactly where tables of that weight have no room
abbrev pub Judges : Room → ℕ → Option Reply → Type 0
Judges room weight found = MatchOption found (IsLight room weight)
    (λ reply. IsTooHeavy room weight × (reply ≡ says.TableFull (told_weight weight) (table_room room)))

-- it sets no moment
pub still_full : (room : Room) (weight : ℕ) (found : Option Reply) → Judges room weight found → (now : ℕ) → IfSome found (λ reply. moment_after now (Some reply) ≡ now)
still_full room weight None judges now = tt
still_full room weight (Some reply) judges now = ap (λ (r : Reply). moment_after now (Some r)) judges.1

-- and names no target
pub target_full : (room : Room) (weight : ℕ) (found : Option Reply) → Judges room weight found → IfSome found (λ reply. is_missing reply ≡ false)
target_full room weight None judges = tt
target_full room weight (Some reply) judges = ap is_missing judges.1
