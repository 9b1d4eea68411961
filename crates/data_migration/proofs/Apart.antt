-- The names of plans differ, so that plans in order of their names are in strict order.
use Rattle.std.proofs.Common.{◌≡◌, ◌≢◌, ◌∙◌, ◌++◌, ◌&&◌, inl, inr, refl, sym, ap, subst, ℕ, Bool, true, false, cond, not, List, [], ◌∷◌, get_or, map, AllPairs, bytes_eq, codes, arith}
use Rattle.std.specs.Prelude.{filter, flat_map}
use Rattle.std.specs.Cmp.Lexicographic.{nat_list_eq_equiv}
use Rattle.std.specs.List.{list_any}
use Rattle.std.specs.List.Sorted.{IsPermutation, IsSortedByKey}
use Rattle.std.specs.Ordering.{is_lt, ordering_reverse}
use Rattle.std.specs.declared.cmp.Ordering.{Ordering}
use Rattle.std.specs.declared.cmp.Ordering.TheVariants.{Less, Equal, Greater}
use Rattle.std.proofs.lemmas.Bool.{and_from}
use Rattle.std.proofs.lemmas.List.{append_cancel_left}
use Rattle.std.proofs.lemmas.List.Elements.{All-append}
use Rattle.std.proofs.lemmas.List.Folds.{list_any-from_Any}
use Rattle.std.proofs.lemmas.List.Kept.{AllPairs-cons, AllPairs-filter}
use Rattle.std.proofs.lemmas.List.Sorted.{IsPermutation-map, ranks_by, sorted_far}
use Rattle.std.proofs.lemmas.Map.Keys.{IsDistinct-IsPermutation}
use Rattle.std.proofs.lemmas.Map.Made.{AllPairs-from_IsDistinct, IsDistinct-from_AllPairs}
use Rattle.std.proofs.lemmas.Slice.Eq.{bytes_eq-Decides}
use Rattle.small_types.specs.Name.{IsBelowPre}
use Rattle.identity.specs.Printed.{text_cmp}
use Rattle.manifests.specs.declared.facts.FileEntry.{FileEntry}
use Rattle.manifests.specs.Applications.{is_below_pre}
use Rattle.machine.specs.Migrated.{aside, is_fresh, stays}
use Rattle.machine.proofs.EntryOrder.{order}
use Rattle.machine.proofs.Keys.{equal_texts}
use Rattle.machine.proofs.ChangedLists.{flat_map_in, pairs_unmap}
use Rattle.machine.proofs.Members.{In, all_in, contains_in, in_all, in_map, pairs_head, pairs_map, pairs_tail}
use Rattle.machine.proofs.Names.{aside_below, outside_test}
use Rattle.store_state.specs.declared.view.LocalFile.{LocalFile}
use Rattle.data_migration.specs.declared.plan.LocalPlan.{LocalPlan}
use Rattle.data_migration.specs.declared.plan.LocalPlan.TheVariants.{Copy, Fresh}
use Rattle.data_migration.specs.Migration.{AreApart, deployed_files}
use Rattle.data_migration.specs.Plans.{carried, carried_to, local_names, plan_name, planned}
use Rattle.data_migration.proofs.PlanNames.{IsNew, IsOld, carried_in, comes, fresh_plans, new_plan, news, old_plan, olds, stay}

-- ---- pairs

pairs_append : {X : Type 0} (R : X → X → Type 0) (xs ys : List X) → AllPairs R xs → AllPairs R ys
    → ((x y : X) → In x xs → In y ys → R x y) → AllPairs R (xs ++ ys)
pairs_append R [] ys first second across = second
pairs_append R (x ∷ xs) ys first second across =
    AllPairs-cons R x (xs ++ ys)
    (All-append (R x) xs ys (pairs_head R x xs first)
    (in_all (R x) ys (λ y there. across x y (inl refl) there)))
    (pairs_append R xs ys (pairs_tail R x xs first) second
    (λ z y found there. across z y (inr found) there))

pairs_flat : {X Z : Type 0} (g : X → List Z) (Q : X → X → Type 0) (R : Z → Z → Type 0)
    (xs : List X) → AllPairs Q xs → ((x : X) → AllPairs R (g x))
    → ((x y : X) (z w : Z) → Q x y → In z (g x) → In w (g y) → R z w)
    → AllPairs R (flat_map g xs)
pairs_flat g Q R [] pairs own across = λ i j d lt within. absurd (omega arith)
pairs_flat {X} {Z} g Q R (x ∷ xs) pairs own across =
    pairs_append R (g x) (flat_map g xs) (own x)
    (pairs_flat g Q R xs (pairs_tail Q x xs pairs) own across) (λ z w here later. (
    let from = flat_map_in g xs w later in
    across x from.0 z w (all_in (Q x) xs from.0 (pairs_head Q x xs pairs) from.1) here from.2
    ))

one_at_most : {X : Type 0} (R : X → X → Type 0) (b : Bool) (x : X) → AllPairs R (cond b [] (x ∷ []))
one_at_most R true x = λ i j d lt within. absurd (omega arith)
one_at_most R false x = λ i j d lt within. absurd (omega arith)

-- ---- names

negated : (b : Bool) → not b ≡ true → b ≡ false
negated true h = absurd (let h = h in cc)
negated false h = refl

outside_aside : (a b : List ℕ) → ¬ IsBelowPre a → a ≢ aside b
outside_aside a b outside is = outside (subst IsBelowPre (sym is) (aside_below b))

other_by : (s t : Bool) (a b : List ℕ) → a ≢ b → ¬ IsBelowPre a → ¬ IsBelowPre b
    → ◌≢◌ {A = List ℕ} (carried_to s a) (carried_to t b)
other_by true true a b other outside beside is = other is
other_by true false a b other outside beside is = outside_aside a b outside is
other_by false true a b other outside beside is = outside_aside b a beside (sym is)
other_by false false a b other outside beside is =
    other (append_cancel_left (codes ".pre/") a b is)

abbrev pub NamedOther : LocalPlan → LocalPlan → Type 0
NamedOther p q = ◌≢◌ {A = List ℕ} (plan_name p) (plan_name q)

module _ (old : List LocalFile) (old_files new_files : List FileEntry) where
  abbrev test : List ℕ → List ℕ → Bool
  test name other =
      bytes_eq other name && not (is_below_pre other) && stays old_files new_files other

  -- no old one that stays has the name of a fresh one
  pub fresh_alone : (name : List ℕ) → is_fresh (local_names old) old_files new_files name ≡ true
      → (file : LocalFile) → In file old → ¬ IsBelowPre file.name
      → stays old_files new_files file.name ≡ true → ◌≢◌ {A = List ℕ} file.name name
  fresh_alone name fresh file there outside same is =
      let at = contains_in (local_names old) file.name
      (in_map (λ (f : LocalFile). f.name) old file there) in
      let passes = and_from (bytes_eq file.name name && not (is_below_pre file.name))
      (stays old_files new_files file.name)
      (and_from (bytes_eq file.name name) (not (is_below_pre file.name))
      ((bytes_eq-Decides file.name name).1 is) (ap not (outside_test file.name outside))) same in
      clash (sym (list_any-from_Any (test name) (local_names old)
      (at.0, file.name, at.1, at.2, passes))
      ∙ negated (list_any (test name) (local_names old)) fresh)
    where
      clash : true ≡ false → ⊥
      clash e = cc

  module _ (apart : AreApart old new_files) where
    old_apart : AllPairs NamedOther (olds old old_files new_files)
    old_apart =
        pairs_flat (λ (file : LocalFile). carried (stay old old_files new_files) file.name)
        (λ (f g : LocalFile). ◌≢◌ {A = List ℕ} f.name g.name) NamedOther old apart.old_names
        (λ file. one_at_most NamedOther (is_below_pre file.name)
        (Copy file.name (carried_to (stay old old_files new_files file.name) file.name)))
        (λ f g p q other here there. (
        let one = carried_in (stay old old_files new_files) f.name p here in
        let two = carried_in (stay old old_files new_files) g.name q there in
        subst (λ (x : LocalPlan). NamedOther x q) one.1
        (subst (λ (y : LocalPlan). NamedOther
        (Copy f.name (carried_to (stay old old_files new_files f.name) f.name)) y) two.1
        (other_by (stay old old_files new_files f.name) (stay old old_files new_files g.name)
        f.name g.name other one.0 two.0))
        ))

    new_apart : AllPairs NamedOther (news old old_files new_files)
    new_apart =
        subst (AllPairs NamedOther) (sym (fresh_plans (comes old old_files new_files) new_files))
        (pairs_map (λ (e : FileEntry). Fresh e.name)
        (λ (e f : FileEntry). ◌≢◌ {A = List ℕ} e.name f.name) NamedOther
        (filter (λ (e : FileEntry). comes old old_files new_files e.name)
        (deployed_files new_files)) (λ e f other. other)
        (AllPairs-filter (λ (e f : FileEntry). ◌≢◌ {A = List ℕ} e.name f.name)
        (λ (e : FileEntry). comes old old_files new_files e.name) (deployed_files new_files)
        apart.new_names))

    across_by : (s : Bool) (file : LocalFile) (entry : FileEntry)
        → stay old old_files new_files file.name ≡ s → In file old → ¬ IsBelowPre file.name
        → ¬ IsBelowPre entry.name → comes old old_files new_files entry.name ≡ true
        → ◌≢◌ {A = List ℕ} (carried_to s file.name) entry.name
    across_by true file entry same there outside beside fresh =
        fresh_alone entry.name fresh file there outside same
    across_by false file entry other there outside beside fresh = λ is.
        outside_aside entry.name file.name beside (sym is)

    across : (p q : LocalPlan) → In p (olds old old_files new_files)
        → In q (news old old_files new_files) → NamedOther p q
    across p q here there =
        let one : IsOld old old_files new_files p = old_plan old old_files new_files p here in
        let two : IsNew old old_files new_files q = new_plan old old_files new_files q there in
        subst (λ (x : LocalPlan). NamedOther x q) one.is
        (subst (λ (y : LocalPlan). NamedOther (Copy one.file.name
        (carried_to (stay old old_files new_files one.file.name) one.file.name)) y) two.is
        (across_by (stay old old_files new_files one.file.name) one.file two.entry refl one.there
        one.outside
        (all_in (λ (e : FileEntry). ¬ IsBelowPre e.name) (deployed_files new_files) two.entry
        apart.outside two.there) two.fresh))

    planned_apart : AllPairs NamedOther (planned old old_files new_files)
    planned_apart =
        pairs_append NamedOther (olds old old_files new_files) (news old old_files new_files)
        old_apart new_apart across

    -- ---- in order

    module _ (plans : List LocalPlan) (same : IsPermutation (planned old old_files new_files) plans)
        (sorted : IsSortedByKey plan_name text_cmp plans) where
      abbrev Other : List ℕ → List ℕ → Type 0
      Other a b = a ≢ b

      names_apart : AllPairs Other (map plan_name plans)
      names_apart =
          AllPairs-from_IsDistinct bytes_eq-Decides (map plan_name plans)
          (IsDistinct-IsPermutation bytes_eq nat_list_eq_equiv.symm
          (map plan_name (planned old old_files new_files)) (map plan_name plans)
          (IsPermutation-map plan_name (planned old old_files new_files) plans same)
          (IsDistinct-from_AllPairs bytes_eq-Decides
          (map plan_name (planned old old_files new_files))
          (pairs_map plan_name NamedOther Other (planned old old_files new_files)
          (λ p q other. other) planned_apart)))

      less_by : (o : Ordering) (a b : List ℕ) → text_cmp a b ≡ o
          → is_lt (text_cmp b a) ≡ false → a ≢ b → text_cmp a b ≡ Less
      less_by Less a b is above other = is
      less_by Equal a b is above other = absurd (other (equal_texts a b is))
      less_by Greater a b is above other =
          absurd (clash (sym (ap is_lt (order.antisymm b a ∙ ap ordering_reverse is)) ∙ above))
        where
          clash : true ≡ false → ⊥
          clash e = cc

      pub in_order : AllPairs (λ (p q : LocalPlan). text_cmp (plan_name p) (plan_name q) ≡ Less)
          plans
      in_order = λ i j d lt within. (
          let p = get_or plans i d in
          let q = get_or plans j d in
          less_by (text_cmp (plan_name p) (plan_name q)) (plan_name p) (plan_name q) refl
          (sorted_far (λ (x y : LocalPlan). is_lt (text_cmp (plan_name x) (plan_name y)))
          (ranks_by order plan_name) plans sorted i j d (omega arith) within)
          (pairs_unmap plan_name Other plans names_apart i j d lt within)
          )
