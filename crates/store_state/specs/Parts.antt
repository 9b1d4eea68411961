-- The indexes that tables in memory have beside their values.
use Rattle.std.specs.Prelude.{◌≡◌, ℕ, List, map}
use Rattle.identity.specs.Key.{key_text}
use Rattle.machine.specs.declared.lease.Lease.{Lease}
use Rattle.store_state.specs.ContentKeys.{content_key_cmp}
use Rattle.store_state.specs.Contents.{held_key}
use Rattle.store_state.specs.Named.{AreNameIndexes}
use Rattle.store_state.specs.Places.{ArePlaces}
use Rattle.store_state.specs.Tables.{Tables}

-- the leases, the printed keys of applications, the places of contents in the order of their content keys,
-- and of each view those of its files in the order of their names
pub record AreIndexes (tables : Tables) (list : List Lease) (texts : List (List ℕ))
    (places : List ℕ) (indexes : List (List ℕ)) : Type 0 where
  pub leases : list ≡ tables.leases
  pub keys : texts ≡ map (λ app. key_text app.key) tables.apps
  pub contents : ArePlaces content_key_cmp (map held_key tables.contents) places
  pub names : AreNameIndexes tables.views indexes
