-- What the data files of a new view weigh, of old ones and of those that its release deploys.
use Rattle.std.proofs.Common.{◌≡◌, ◌∙◌, ◌+◌, ◌||◌, ◌&&◌, refl, sym, ap, ap₂, subst, ℕ, min, Bool, true, false, not, cond, List, [], ◌∷◌, map, Option, Some, None, arith}
use mathlib.Core.Path.{fun_ext}
use Rattle.std.specs.Prelude.{filter, flat_map, option_map, sum_by}
use Rattle.std.specs.Borrow.{Bor}
use Rattle.std.specs.BTreeMap.{BTreeMap}
use Rattle.std.specs.BTreeSet.{BTreeSet}
use Rattle.std.specs.List.{list_any}
use Rattle.std.specs.Option.{option_copied}
use Rattle.std.proofs.lemmas.List.Sums.{sum_by-append, sum_by-cons}
use Rattle.manifests.specs.declared.facts.FileEntry.{FileEntry}
use Rattle.manifests.specs.Applications.{is_below_pre}
use Rattle.machine.specs.BareViews.{migrated_data, moved_data}
use Rattle.machine.specs.Blocks.{deployed_data}
use Rattle.machine.specs.Current.{bare_data_of, bare_listed_by}
use Rattle.machine.specs.DataFiles.{bare_name}
use Rattle.machine.specs.Migrated.{aside, is_fresh, is_same, stays}
use Rattle.machine.specs.Shape.{BareData, BareView}
use Rattle.machine.specs.Weight.{data_weight}
use Rattle.store_state.specs.declared.view.LocalFile.{LocalFile}
use Rattle.store_state.specs.declared.view.View.{View}
use Rattle.store_state.specs.Tables.{bare_local, bare_row}
use Rattle.data_migration.specs.Plans.{is_kept}
use Rattle.data_migration.specs.Tables.{IsTable, has_name, is_missing, stays_by}
use Rattle.table_weight.specs.Releases.{carried_weight, fresh_weight}

-- ---- the old ones

module _ (old_files new_files : List FileEntry) where
  one_carried : (below same : Bool) (file : LocalFile)
      → sum_by data_weight (map (λ (name : List ℕ). record { name = name; length = file.length })
      (cond below [] (cond same (file.name ∷ []) (aside file.name ∷ []))))
      ≡ cond below 0 (data_weight (record {
        name = cond same file.name (aside file.name);
        length = file.length;
      }))
  one_carried true same file = refl
  one_carried false true file =
      let one = sum_by-cons data_weight (record { name = file.name; length = file.length }) [] in
      omega (arith, one)
  one_carried false false file =
      let one = sum_by-cons data_weight (record { name = aside file.name; length = file.length })
      [] in
      omega (arith, one)

  carried_weighs : (old : List LocalFile)
      → sum_by data_weight (flat_map (moved_data old_files new_files) (map bare_local old))
      ≡ sum_by (carried_weight (stays old_files new_files)) old
  carried_weighs [] = refl
  carried_weighs (file ∷ old) =
      omega (
        arith,
        one_carried (is_below_pre file.name) (stays old_files new_files file.name) file,
        carried_weighs old,
        sum_by-append data_weight (moved_data old_files new_files (bare_local file))
            (flat_map (moved_data old_files new_files) (map bare_local old)),
        sum_by-cons (carried_weight (stays old_files new_files)) file old,
      )

-- ---- those that come fresh

module _ (comes : List ℕ → Bool) where
  abbrev comes_data : BareData → Bool
  comes_data file = comes file.name

  abbrev deployed_of : List FileEntry → List BareData
  deployed_of files = map deployed_data (filter (λ (e : FileEntry). e.local) files)

  one_fresh : (l c : Bool) (entry : FileEntry) (kept : List FileEntry) → comes entry.name ≡ c
      → sum_by data_weight (filter comes_data (map deployed_data (cond l (entry ∷ kept) kept)))
      ≡ cond (l && c) (data_weight (deployed_data entry)) 0
      + sum_by data_weight (filter comes_data (map deployed_data kept))
  one_fresh false c entry kept is = omega arith
  one_fresh true c entry kept is =
      ap (λ (b : Bool). sum_by data_weight
      (cond b (deployed_data entry ∷ filter comes_data (map deployed_data kept))
      (filter comes_data (map deployed_data kept)))) is
      ∙ by c
    where
      by : (b : Bool) → sum_by data_weight
          (cond b (deployed_data entry ∷ filter comes_data (map deployed_data kept))
          (filter comes_data (map deployed_data kept)))
          ≡ cond b (data_weight (deployed_data entry)) 0
          + sum_by data_weight (filter comes_data (map deployed_data kept))
      by true =
          sum_by-cons data_weight (deployed_data entry)
          (filter comes_data (map deployed_data kept))
      by false = omega arith

  fresh_weighs : (files : List FileEntry)
      → sum_by data_weight (filter comes_data (deployed_of files))
      ≡ sum_by (fresh_weight comes) files
  fresh_weighs [] = refl
  fresh_weighs (entry ∷ files) =
      omega (
        arith,
        one_fresh entry.local (comes entry.name) entry (filter (λ (e : FileEntry). e.local) files)
            refl,
        fresh_weighs files,
        sum_by-cons (fresh_weight comes) entry files,
      )

-- ---- by tables of names

any_named : (p : List ℕ → Bool) (files : List LocalFile)
    → list_any (λ (file : LocalFile). p file.name) files
    ≡ list_any p (map bare_name (map bare_local files))
any_named p [] = refl
any_named p (file ∷ files) = ap (λ (b : Bool). p file.name || b) (any_named p files)

module _ (old : List LocalFile) (old_files new_files : List FileEntry)
    (before after : BTreeMap (Bor (List ℕ)) (Bor FileEntry))
    (was : IsTable before old_files) (now : IsTable after new_files)
    (kept : BTreeSet (Bor (List ℕ)))
    (names : (name : List ℕ) → has_name kept name
    ≡ list_any (λ (file : LocalFile). is_kept (stays_by before after) name file.name) old) where
  same_stay : ◌≡◌ {A = List ℕ → Bool} (stays_by before after) (stays old_files new_files)
  same_stay = fun_ext (λ name. ap₂ is_same (was name) (now name))

  same_fresh : ◌≡◌ {A = List ℕ → Bool} (is_missing kept)
      (is_fresh (map bare_name (map bare_local old)) old_files new_files)
  same_fresh =
      fun_ext (λ name. ap not (names name
      ∙ ap (λ (s : List ℕ → Bool).
      list_any (λ (file : LocalFile). is_kept s name file.name) old) same_stay
      ∙ any_named (is_kept (stays old_files new_files) name) old))

  pub moved_weigh : sum_by data_weight (migrated_data (map bare_local old) old_files new_files)
      ≡ sum_by (carried_weight (stays_by before after)) old
      + sum_by (fresh_weight (is_missing kept)) new_files
  moved_weigh =
      let comes = is_fresh (map bare_name (map bare_local old)) old_files new_files in
      let stay = ap (λ (s : List ℕ → Bool). sum_by (carried_weight s) old) same_stay in
      let fresh = ap (λ (c : List ℕ → Bool). sum_by (fresh_weight c) new_files) same_fresh in
      let joined = sum_by-append data_weight
      (flat_map (moved_data old_files new_files) (map bare_local old))
      (filter (comes_data comes) (deployed_of comes new_files)) in
      omega (
        arith,
        joined,
        carried_weighs old_files new_files old,
        fresh_weighs comes new_files,
        stay,
        fresh,
      )

-- ---- one file

module _ (stay : List ℕ → Bool) (file : LocalFile) (below : Bool)
    (is : below ≡ is_below_pre file.name) where
  abbrev Carried : Bool → Bool → ℕ
  Carried b same = cond b 0 (data_weight (record {
    name = cond same file.name (aside file.name);
    length = file.length;
  }))

  pub below_weighs : below ≡ true → carried_weight stay file ≡ 0
  below_weighs e = ap (λ (b : Bool). Carried b (stay file.name)) (sym is ∙ e)

  outside : below ≡ false → carried_weight stay file ≡ Carried false (stay file.name)
  outside e = ap (λ (b : Bool). Carried b (stay file.name)) (sym is ∙ e)

  module _ (stays : Bool) (stay_is : stays ≡ stay file.name) where
    pub staying_weighs : below ≡ false → stays ≡ true → carried_weight stay file
        ≡ data_weight (record { name = file.name; length = file.length })
    staying_weighs e same =
        outside e ∙ ap (λ (b : Bool). Carried false b) (sym stay_is ∙ same)

    aside_more : data_weight (record { name = aside file.name; length = file.length })
        ≡ data_weight (record { name = file.name; length = file.length }) + 5
    unfolding data_weight
    aside_more = omega arith

    pub aside_weighs : below ≡ false → stays ≡ false → carried_weight stay file
        ≡ data_weight (record { name = file.name; length = file.length }) + 5
    aside_weighs e other =
        outside e ∙ ap (λ (b : Bool). Carried false b) (sym stay_is ∙ other) ∙ aside_more

-- ---- the view that is current, or none

module _ (found : Option BareView) (o : Option (Bor View)) (new_files : List FileEntry)
    (is : option_map bare_row (option_copied o) ≡ found) (sum limit : ℕ) where
  abbrev Moves : Option BareView → Type 0
  Moves old = sum
      ≡ min (sum_by data_weight (migrated_data (bare_data_of old) (bare_listed_by old) new_files))
      limit

  found_is : (p : Option (Bor View)) → o ≡ p → option_map bare_row (option_copied p) ≡ found
  found_is p e = sym (ap (λ (q : Option (Bor View)). option_map bare_row (option_copied q)) e) ∙ is

  pub some_moves : (v : Bor View) (locals : List LocalFile) (old_files : List FileEntry)
      → o ≡ Some v → locals ≡ v.now.locals → old_files ≡ v.now.application.files
      → sum ≡ min (sum_by data_weight (migrated_data (map bare_local locals) old_files new_files))
      limit
      → Moves found
  some_moves v locals old_files e same_locals same_files summed =
      subst Moves (found_is (Some v) e)
      (summed
      ∙ ap (λ (fs : List LocalFile). min (sum_by data_weight
      (migrated_data (map bare_local fs) old_files new_files)) limit) same_locals
      ∙ ap (λ (es : List FileEntry). min (sum_by data_weight
      (migrated_data (map bare_local v.now.locals) es new_files)) limit) same_files)

  pub none_moves : o ≡ None
      → sum ≡ min (sum_by data_weight (migrated_data [] [] new_files)) limit → Moves found
  none_moves e summed = subst Moves (found_is None e) summed
