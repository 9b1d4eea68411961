-- Whether a new key has room.
use Rattle.std.proofs.Common.{◌≡◌, ◌<◌, ◌≤◌, ℕ, [], Option, Some, None, IsSome, inl, inr, length, map, refl, sym, subst, arith}
use Rattle.std.specs.Prelude.{IfSome}
use Rattle.small_types.specs.declared.limits.TheConstants.{APPLICATION_LIMIT}
use Rattle.small_types.specs.declared.room.Room.{Room}
use Rattle.identity.specs.declared.key.Key.{Key}
use Rattle.identity.specs.declared.version.Version.{Version}
use Rattle.machine.specs.declared.app.AppState.{AppState}
use Rattle.machine.specs.declared.command.Command.TheVariants.{Require}
use Rattle.machine.specs.declared.reply.Reply.{Reply}
use Rattle.machine.specs.Entries.{entry_of}
use Rattle.machine.specs.Machine.{refusals}
use Rattle.machine.specs.RequireRow.{required}
use Rattle.machine.specs.Rows.{PassesAll, Refuses}
use Rattle.machine.specs.Store.{Session}
use Rattle.machine.specs.Weight.{IsLight, IsTooHeavy, weight_of}
use Rattle.machine.proofs.Lightness.{is_light, not_heavy}
use Rattle.journal.specs.declared.log.Log.{Log}
use Rattle.store_state.specs.declared.change.Change.TheVariants as change
use Rattle.store_state.specs.Change.{Fits, effect}
use Rattle.store_state.specs.Kept.{AreTables}
use Rattle.store_state.specs.Tables.{Tables, bare_row, table_shape}
use Rattle.table_weight.specs.Laws.{LightenOthers, WeighWithKey}
use Rattle.table_weight.specs.Weight.{tables_weight}
use Rattle.updater.specs.Shown.{IsKept}
use Rattle.updater.proofs.KeptChange.{lighter_room}
use Rattle.updater.proofs.TableRoom.{Judges}

module _ (key : Key) (room : Room) (tables : Tables) (version : Version) where
  -- the weight of the tables with an entry of the key
  abbrev pub weight_with : ℕ
  weight_with = weight_of (map bare_row tables.views) (required key version tables.apps)

  module _ (few : length tables.apps < APPLICATION_LIMIT) where
    not_full : (entry_of key tables.apps ≡ None) × (APPLICATION_LIMIT ≤ length tables.apps) → ⊥
    not_full full = let many = full.1 in omega (arith, few, many)

    pub key_passes : (found : Option Reply) → found ≡ None → Judges room weight_with found → (now : ℕ) → PassesAll (refusals now [] (table_shape room tables) (Require key version))
    key_passes found none judges now =
        let light : IsLight room weight_with = subst (Judges room weight_with) none judges in
        (not_full, ((λ weight over. not_heavy room weight_with light (subst (IsTooHeavy room) over.1 over.2)), tt))

    pub key_refused : (found : Option Reply) → entry_of key tables.apps ≡ None → Judges room weight_with found → (now : ℕ) (old : Session)
        → IfSome found (λ reply. Refuses (refusals now [] (table_shape room tables) (Require key version)) old reply old)
    key_refused None new judges now old = tt
    key_refused (Some reply) new judges now old = inr (not_full, inl ((weight_with, (new, refl, judges.0), judges.1), refl))

  -- once it is passed, the tables with the new key have room
  pub key_light : entry_of key tables.apps ≡ None → (now : ℕ) → PassesAll (refusals now [] (table_shape room tables) (Require key version)) → IsLight room weight_with
  key_light new now passes = is_light room weight_with (λ heavy. passes.1.0 weight_with (new, refl, heavy))

-- the tables with the key have room, whether it is new or not
pub required_light : WeighWithKey → LightenOthers → (now : ℕ) (log : Log) (room : Room) (tables : Tables) (key : Key) (version : Version) → IsKept log room tables → AreTables tables → Fits tables (change.Require key version)
    → PassesAll (refusals now [] (table_shape room tables) (Require key version)) → IsLight room (tables_weight (effect (change.Require key version) tables))
required_light weigh others now log room tables key version is are fits passes = by (entry_of key tables.apps) refl
  where
    by : (known : Option AppState) → entry_of key tables.apps ≡ known → IsLight room (tables_weight (effect (change.Require key version) tables))
    by None new = subst (IsLight room) (sym (weigh tables key version are fits)) (key_light key room tables version new now passes)
    by (Some app) known = lighter_room others log room tables (change.Require key version) is are fits (subst IsSome (sym known) refl)
