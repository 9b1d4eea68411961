-- Whether there are blocks for a group, and room for the tables with it.
use Rattle.std.proofs.Common.{◌≡◌, inl, inr, refl, subst, ℕ, List}
use Rattle.small_types.specs.declared.room.Room.{Room}
use Rattle.manifests.specs.declared.facts.FileEntry.{FileEntry}
use Rattle.machine.specs.declared.reply.Reply.{Reply}
use Rattle.machine.specs.declared.reply.Reply.TheVariants as says
use Rattle.machine.specs.Blocks.{free_blocks}
use Rattle.machine.specs.Rows.{PassesAll, Refusal}
use Rattle.machine.specs.Store.{Session}
use Rattle.machine.specs.Weight.{IsLight, IsTooHeavy, table_room, told_weight}
use Rattle.machine.proofs.Lightness.{no_halves, not_heavy}
use Rattle.store_state.specs.declared.view.View.{View}
use Rattle.store_state.specs.Tables.{Tables, table_shape}
use Rattle.install_plan.specs.GroupReady.{need_of, space_checks, weight_in}
use Rattle.install_plan.specs.Judges.{Refused, room_checks, weight_checks}
use Rattle.install_plan.proofs.Listed.{passes_both, refused_left, refused_right}

module _ (room : Room) (tables : Tables) (view : View) (group : List ℕ) (files : List FileEntry)
    (need : ℕ) (needed : need ≡ need_of tables files) where
  abbrev blocks : List (Refusal Reply Session)
  blocks = room_checks (need_of tables files) (free_blocks (table_shape room tables))

  abbrev weights : List (Refusal Reply Session)
  weights = weight_checks room (weight_in room tables view group)

  -- there are fewer blocks
  pub lacks_blocks : (reply : Reply)
      → Refused (room_checks need (free_blocks (table_shape room tables))) reply
      → Refused (space_checks room tables view group files) reply
  lacks_blocks reply refused =
      refused_left blocks weights reply
      (subst (λ (n : ℕ). Refused (room_checks n (free_blocks (table_shape room tables))) reply)
      needed refused)

  module _ (has : PassesAll (room_checks need (free_blocks (table_shape room tables)))) where
    has_blocks : PassesAll blocks
    has_blocks =
        subst (λ (n : ℕ). PassesAll (room_checks n (free_blocks (table_shape room tables)))) needed
        has

    -- the tables would have no room
    pub lacks_room : (reply : Reply) → IsTooHeavy room (weight_in room tables view group)
        → reply ≡ says.TableFull (told_weight (weight_in room tables view group)) (table_room room)
        → Refused (space_checks room tables view group files) reply
    lacks_room reply heavy is =
        refused_right blocks weights reply has_blocks
        (inr (λ old. inl ((weight_in room tables view group, (refl, heavy), is), refl)))

    -- there is room
    pub has_space : IsLight room (weight_in room tables view group)
        → PassesAll (space_checks room tables view group files)
    has_space light =
        passes_both blocks weights has_blocks (
          (λ weight over. not_heavy room (weight_in room tables view group) light
              (subst (λ (w : ℕ). IsTooHeavy room w) over.0 over.1)),
          tt,
        )

    -- so there is where the half is 0
    pub has_any : room.half ≡ 0 → PassesAll (space_checks room tables view group files)
    has_any none = has_space (no_halves room (weight_in room tables view group) none)
