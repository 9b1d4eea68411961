-- The refusals of a put, as the tables give them.
use Rattle.std.proofs.Common.{◌≡◌, ◌∙◌, ◌↔◌, ◌<◌, ◌≤◌, inl, inr, refl, sym, ap, subst, ℕ, Bool, false, cond, not, List, map, length, Some, None}
use Rattle.std.specs.Bool.{IsTrue}
use Rattle.std.proofs.lemmas.Bool.{both_ways}
use Rattle.small_types.specs.declared.room.Room.{Room}
use Rattle.small_types.specs.declared.limit.Limit.TheVariants.{Locals}
use Rattle.small_types.specs.declared.limits.TheConstants.{LOCAL_COUNT_LIMIT}
use Rattle.manifests.specs.Applications.{is_below_pre}
use Rattle.machine.specs.declared.reply.Reply.{Reply}
use Rattle.machine.specs.declared.reply.Reply.TheVariants as says
use Rattle.machine.specs.Blocks.{blocks_of, free_blocks}
use Rattle.machine.specs.Leases.{leased_bare}
use Rattle.machine.specs.PutRow.{IsBadName, IsOneTooMany, outside_count, put_refusals, weight_put}
use Rattle.machine.specs.Rows.{PassesAll, Refuses}
use Rattle.machine.specs.Shape.{BareData, BareView}
use Rattle.machine.specs.Store.{Session}
use Rattle.machine.specs.Weight.{IsLight, IsTooHeavy, table_room, told_weight}
use Rattle.machine.proofs.Lightness.{not_heavy}
use Rattle.machine.proofs.Members.{sum_map}
use Rattle.store_state.specs.declared.view.LocalFile.{LocalFile}
use Rattle.store_state.specs.declared.view.View.{View}
use Rattle.store_state.specs.Locals.{local_named, outside_locals}
use Rattle.store_state.specs.Rows.{leased_row}
use Rattle.store_state.specs.Tables.{Tables, bare_local, bare_row, table_shape}
use Rattle.updater.proofs.LeasedData.{bare, bare_none, lives, none_bare, one_bare}

-- what a test says no to
pub no_from : {P : Type 0} (b : Bool) → (IsTrue b ↔ P) → b ≡ false → ¬ P
no_from b tells differs holds = both_ways b differs (tells.1 holds)

pub outside_bare : (files : List LocalFile) → outside_count (map bare_local files) ≡ outside_locals files
outside_bare files =
    sum_map bare_local (λ (file : BareData). cond (not (is_below_pre file.name)) 1 0) files

-- the weight of the tables with a data file of the name and these bytes
abbrev pub weight_with : Room → Tables → ℕ → List ℕ → List ℕ → ℕ
weight_with room tables number name bytes =
    weight_put number (record { name = name; length = length bytes }) (table_shape room tables)

pub told_with : (room : Room) (tables : Tables) (number : ℕ) (name held bytes : List ℕ) (told : ℕ)
    → held ≡ bytes → told ≡ told_weight (weight_with room tables number name held)
    → told ≡ told_weight (weight_with room tables number name bytes)
told_with room tables number name held bytes told same is =
    subst (λ (b : List ℕ). told ≡ told_weight (weight_with room tables number name b)) same is

-- the name is a new one, and there are as many as may be
abbrev pub IsFull : List ℕ → View → Type 0
IsFull name row =
    (local_named name row.locals ≡ None) × (LOCAL_COUNT_LIMIT ≤ outside_locals row.locals)

module _ (lease : ℕ) (room : Room) (name bytes : List ℕ) (tables : Tables) (row : View)
    (leased : leased_row lease tables ≡ Some row) where
  pub bad_name : (old : Session) → IsBadName name
      → Refuses (put_refusals lease name bytes (table_shape room tables)) old says.BadName old
  bad_name old bad = inr (lives lease name room tables row leased, inl ((bad, refl), refl))

  module _ (good : ¬ IsBadName name) where
    pub too_many : (old : Session) → IsFull name row
        → Refuses (put_refusals lease name bytes (table_shape room tables)) old
        (says.TooMany Locals LOCAL_COUNT_LIMIT) old
    too_many old full =
        let many = full.1 in
        let same = outside_bare row.locals in
        inr (
          lives lease name room tables row leased,
          inr (
            good,
            inl (
              (
                (
                  bare_row row,
                  bare lease name room tables row leased,
                  bare_none lease name room tables row leased full.0,
                  subst (λ (n : ℕ). LOCAL_COUNT_LIMIT ≤ n) (sym same) many,
                ),
                refl,
              ),
              refl,
            ),
          ),
        )

    module _ (some : ¬ IsFull name row) where
      few : ¬ IsOneTooMany lease name (table_shape room tables)
      few many =
          let one = one_bare lease name room tables row leased many.0 many.1 in
          let count = ap (λ (v : BareView). outside_count v.data_files) one in
          let same = outside_bare row.locals in
          let least = many.3 in
          some (
            none_bare lease name room tables row leased many.0 many.1 many.2,
            subst (λ (n : ℕ). LOCAL_COUNT_LIMIT ≤ n) (sym count ∙ same) least,
          )

      pub no_room : (old : Session) (need free : ℕ) → need ≡ blocks_of (length bytes)
          → free ≡ free_blocks (table_shape room tables) → free < need
          → Refuses (put_refusals lease name bytes (table_shape room tables)) old
          (says.Full need free) old
      no_room old need free is left less =
          inr (
            lives lease name room tables row leased,
            inr (
              good,
              inr (
                few,
                inl (
                  (need, (is, subst (λ (n : ℕ). n < need) left less), ap (says.Full need) left),
                  refl,
                ),
              ),
            ),
          )

      module _ (need free : ℕ) (is : need ≡ blocks_of (length bytes))
          (left : free ≡ free_blocks (table_shape room tables)) (enough : ¬ (free < need)) where
        abbrev weight : ℕ
        weight = weight_with room tables row.number name bytes

        has_room : (other : ℕ) → (other ≡ blocks_of (length bytes))
            × (free_blocks (table_shape room tables) < other) → ⊥
        has_room other less =
            enough (subst (λ (n : ℕ). n < need) (sym left)
            (subst (λ (n : ℕ). free_blocks (table_shape room tables) < n) (less.0 ∙ sym is)
            less.1))

        pub too_heavy : (old : Session) (reply : Reply) → IsTooHeavy room weight
            → reply ≡ says.TableFull (told_weight weight) (table_room room)
            → Refuses (put_refusals lease name bytes (table_shape room tables)) old reply old
        too_heavy old reply heavy told =
            inr (
              lives lease name room tables row leased,
              inr (
                good,
                inr (
                  few,
                  inr (
                    has_room,
                    inl (
                      (
                        weight,
                        (bare_row row, bare lease name room tables row leased, refl, heavy),
                        told,
                      ),
                      refl,
                    ),
                  ),
                ),
              ),
            )

        same_weight : (other : ℕ) (view : BareView)
            → leased_bare lease (table_shape room tables) ≡ Some view
            → other ≡ weight_put view.number (record { name = name; length = length bytes })
            (table_shape room tables) → other ≡ weight
        same_weight other view there is =
            is ∙ ap (λ (v : BareView). weight_put v.number
            (record { name = name; length = length bytes }) (table_shape room tables))
            (sym (one_bare lease name room tables row leased view there))

        pub put_passes : IsLight room weight
            → PassesAll (put_refusals lease name bytes (table_shape room tables))
        put_passes light = (
          lives lease name room tables row leased,
          (
            good,
            (
              few,
              (
                has_room,
                (
                  (λ other over. not_heavy room weight light
                      (subst (IsTooHeavy room) (same_weight other over.0 over.1 over.2) over.3)),
                  tt,
                ),
              ),
            ),
          ),
        )
