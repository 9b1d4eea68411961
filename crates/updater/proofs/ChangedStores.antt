-- Changes of the tables lead from one valid store that they show to another.
use Rattle.std.proofs.Common.{◌≡◌, ◌≤◌, ◌<◌, ◌-◌, ◌^◌, min, ℕ, List, None, length, map, refl, sym, ap, subst, arith}
use Rattle.small_types.specs.declared.room.Room.{Room}
use Rattle.small_types.specs.declared.limits.TheConstants.{APPLICATION_LIMIT, NUMBER_LIMIT}
use Rattle.identity.specs.declared.key.Key.{Key}
use Rattle.identity.specs.declared.version.Version.{Version}
use Rattle.machine.specs.declared.app.AppState.{AppState}
use Rattle.machine.specs.Blocks.{used_blocks}
use Rattle.machine.specs.Entries.{entry_of}
use Rattle.machine.specs.RequireRow.{required}
use Rattle.machine.specs.Shape.{Shape, bare_view}
use Rattle.machine.specs.Store.{Store, booted, session_over}
use Rattle.machine.specs.Valid.{Valid}
use Rattle.machine.specs.Weight.{IsTooHeavy, weight_of}
use Rattle.machine.proofs.KeptStores.{booted_valid, required_valid}
use Rattle.store_state.specs.declared.change.Change.{Change}
use Rattle.store_state.specs.declared.change.Change.TheVariants.{Boot, Require}
use Rattle.store_state.specs.Change.{Fits, effect}
use Rattle.store_state.specs.Shows.{SameFiles, Shows}
use Rattle.store_state.specs.Tables.{Tables, bare_row}
use Rattle.store_state.proofs.ShownTables.{shape_shown, shows_booted, shows_required}
use Rattle.install_plan.specs.LeadsIn.{LeadsIn, no_bytes}
use Rattle.updater.specs.KeepsChange.{LeadsBetween}

module _ {room : Room} {tables : Tables} {image : List ℕ} {store : Store} (shows : Shows room tables image store) where
  pub apps_shown : store.apps ≡ tables.apps
  apps_shown = ap (λ (s : Store). s.apps) shows.is

  pub boot_shown : store.boot ≡ tables.boot
  boot_shown = ap (λ (s : Store). s.boot) shows.is

  pub blocks_shown : store.room ≡ room
  blocks_shown = ap (λ (s : Store). s.room) shows.is

  pub views_shown : map bare_view store.views ≡ map bare_row tables.views
  views_shown = ap (λ (s : Shape). s.views) (shape_shown (session_over store) refl shows)

-- the blocks in use of a valid store are a number that the code can hold
pub used_shown : (room : Room) (tables : Tables) (image : List ℕ) (store : Store) (used : ℕ) → Shows room tables image store → Valid store → used ≡ min (used_blocks (map bare_row tables.views)) (2 ^ 64 - 1) → used ≡ used_blocks (map bare_view store.views)
used_shown room tables image store used shows valid is =
    let views : used_blocks (map bare_view store.views) ≡ used_blocks (map bare_row tables.views) = ap used_blocks (views_shown shows) in
    let room = valid.room in
    let few = valid.ordered.few_blocks in
    omega arith

-- a change that brings no file leads on where each image with the same files shows the new store
pub leads_none : {room : Room} {change : Change} {tables : Tables} {new : Store} (there : List ℕ)
    → ((later : List ℕ) → SameFiles room tables there later → Shows room (effect change tables) later new)
    → LeadsIn room change tables there no_bytes new
leads_none there shows = record { shows = λ later same had. shows later same }

-- a boot number leads on from the store that is shown
abbrev pub booted_leads : (room : Room) (tables : Tables) (image : List ℕ) (store : Store) (boot : ℕ) → Shows room tables image store → boot ≤ NUMBER_LIMIT → Valid store → LeadsBetween (Boot boot) tables image store (booted boot store)
booted_leads room tables image store boot shows few valid = record {
  bytes = no_bytes;
  shows = subst (λ (n : Room). LeadsIn n (Boot boot) tables image no_bytes (booted boot store)) (sym (blocks_shown shows))
      (leads_none image (λ later same. shows_booted later boot same shows));
  valid = booted_valid boot store few valid;
}

pub room_is : (key : Key) (apps : List AppState) → (entry_of key apps ≡ None → length apps < APPLICATION_LIMIT) → ¬ ((entry_of key apps ≡ None) × (APPLICATION_LIMIT ≤ length apps))
room_is key apps room = λ full. (let few = room full.0 in let many = full.1 in absurd (omega arith))

-- so does a requirement that fits, after which the tables have room
abbrev pub required_leads : (room : Room) (tables : Tables) (image : List ℕ) (store : Store) (key : Key) (version : Version) → Shows room tables image store → Fits tables (Require key version)
    → ((weight : ℕ) → (entry_of key store.apps ≡ None) × (weight ≡ weight_of (map bare_view store.views) (required key version store.apps)) × IsTooHeavy store.room weight → ⊥)
    → Valid store → LeadsBetween (Require key version) tables image store (record store { apps = required key version store.apps })
required_leads room tables image store key version shows fits light valid =
    let few = subst (λ (apps : List AppState). entry_of key apps ≡ None → length apps < APPLICATION_LIMIT) (sym (apps_shown shows)) fits.2 in
    record {
      bytes = no_bytes;
      shows = subst (λ (n : Room). LeadsIn n (Require key version) tables image no_bytes (record store { apps = required key version store.apps })) (sym (blocks_shown shows))
          (leads_none image (λ later same. shows_required later key version same shows));
      valid = required_valid key version store fits.0 fits.1 (room_is key store.apps few) light valid;
    }
