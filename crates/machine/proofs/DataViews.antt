-- A store in which the data files of one view are others.
use Rattle.std.proofs.Common.{◌≡◌, ◌≢◌, ◌∙◌, ◌+◌, ◌≤◌, ◌<◌, refl, sym, ap, subst, ℕ, Bool, true, false, cond, eqb, eqb-true, List, [], ◌∷◌, length, map, All, AllPairs, Some, arith}
use Rattle.std.specs.Prelude.{flat_map, sum_by}
use Rattle.std.specs.declared.cmp.Ordering.TheVariants.{Less}
use Rattle.std.proofs.lemmas.List.Elements.{All-head, All-tail, All-weaker}
use Rattle.std.proofs.lemmas.List.Sums.{sum_by-append, sum_by-cons}
use Rattle.identity.specs.Printed.{text_cmp}
use Rattle.manifests.specs.declared.facts.FileEntry.{FileEntry}
use Rattle.machine.specs.Blocks.{blocks_of, distinct, standing_files, used_blocks}
use Rattle.machine.specs.Current.{view_at}
use Rattle.machine.specs.Grouped.{with_view_at}
use Rattle.machine.specs.Shape.{BareData, BareView, bare_data, bare_view}
use Rattle.machine.specs.ReadRow.{file_named}
use Rattle.machine.specs.Sound.{IsSoundView, ShareBytes, Sound, program_files_of}
use Rattle.machine.specs.Store.{Store}
use Rattle.machine.specs.Valid.{IsView, Ordered, Valid}
use Rattle.machine.specs.Views.{DataFile, ListedFile, View, standing_entries}
use Rattle.machine.proofs.Leased.{view_in}
use Rattle.machine.proofs.LeasesKept.{KeepsLeases, keeps_by}
use Rattle.machine.proofs.ChangedLists.{all_mapped, pairs_unmap, same_lists}
use Rattle.machine.proofs.Members.{all_in, pairs_head, pairs_tail, pairs_weaker, sum_map}
use Rattle.machine.proofs.NamedItems.{not_equal}
use Rattle.machine.proofs.OneView.{Leaves, by_number, changed_at, left_of, same_bare_lists, with_one_ordered}

-- the blocks of a data file
abbrev pub file_blocks : DataFile → ℕ
file_blocks file = blocks_of (length file.bytes)

abbrev pub view_blocks : View → ℕ
view_blocks view = sum_by file_blocks view.data_files

pub data_sum : (views : List View)
    → sum_by (λ (file : BareData). blocks_of file.length)
    (flat_map (λ (view : BareView). view.data_files) (map bare_view views))
    ≡ sum_by view_blocks views
data_sum [] = refl
data_sum (v ∷ vs) =
    omega (
      arith,
      sum_by-append (λ (file : BareData). blocks_of file.length) (map bare_data v.data_files)
          (flat_map (λ (view : BareView). view.data_files) (map bare_view vs)),
      sum_map bare_data (λ (file : BareData). blocks_of file.length) v.data_files,
      sum_by-cons view_blocks v vs,
      data_sum vs,
    )

-- a view with other data files, which leaves what no data file changes
abbrev pub redone : (List DataFile → List DataFile) → View → View
redone g view = record view { data_files = g view.data_files }

pub redone_leaves : (g : List DataFile → List DataFile) → Leaves (redone g)
redone_leaves g = record {
  number = λ v. refl;
  deployment = λ v. refl;
  application = λ v. refl;
  base = λ v. refl;
}

module _ (number : ℕ) (g : List DataFile → List DataFile) (old : Store) where
  abbrev change : View → View
  change view = cond (eqb view.number number) (redone g view) view

  abbrev views : List View
  views = with_view_at number (redone g) old.views

  same_part : {X : Type 0} (part : View → X) → ((view : View) → part (redone g view) ≡ part view)
      → (view : View) → part (change view) ≡ part view
  same_part = left_of number (redone g) old

  -- ---- parts of all views

  pub same_programs : program_files_of (record old { views = with_view_at number (redone g) old.views })
      ≡ program_files_of old
  same_programs =
      same_lists change (λ (v : View). v.program_files)
      (same_part (λ (v : View). v.program_files) (λ v. refl)) old.views

  pub same_standing : standing_files (map bare_view (with_view_at number (redone g) old.views))
      ≡ standing_files (map bare_view old.views)
  same_standing =
      same_bare_lists number (redone g) old
      (λ (v : BareView). standing_entries v.groups v.application) (λ v. refl) old.views

  -- ---- room

  no_more_at : (b : Bool) (v : View) (vs : List View) → view_blocks (redone g v) ≤ view_blocks v
      → sum_by view_blocks (map change vs) ≤ sum_by view_blocks vs
      → sum_by view_blocks (cond b (redone g v) v ∷ map change vs) ≤ sum_by view_blocks (v ∷ vs)
  no_more_at true v vs less rest =
      omega (
        arith,
        less,
        rest,
        sum_by-cons view_blocks (redone g v) (map change vs),
        sum_by-cons view_blocks v vs,
      )
  no_more_at false v vs less rest =
      omega (arith, rest, sum_by-cons view_blocks v (map change vs), sum_by-cons view_blocks v vs)

  no_more_sum : ((files : List DataFile) → sum_by file_blocks (g files) ≤ sum_by file_blocks files)
      → (vs : List View) → sum_by view_blocks (map change vs) ≤ sum_by view_blocks vs
  no_more_sum less [] = omega arith
  no_more_sum less (v ∷ vs) =
      no_more_at (eqb v.number number) v vs (less v.data_files) (no_more_sum less vs)

  -- where g takes no more
  pub no_more : ((files : List DataFile) → sum_by file_blocks (g files) ≤ sum_by file_blocks files)
      → sum_by (λ (file : BareData). blocks_of file.length)
      (flat_map (λ (view : BareView). view.data_files)
      (map bare_view (with_view_at number (redone g) old.views)))
      ≤ sum_by (λ (file : BareData). blocks_of file.length)
      (flat_map (λ (view : BareView). view.data_files) (map bare_view old.views))
  no_more less = omega (arith, data_sum views, data_sum old.views, no_more_sum less old.views)

  untouched_at : (b : Bool) (v : View) (vs : List View) → eqb v.number number ≡ b
      → v.number ≢ number → sum_by view_blocks (map change vs) ≡ sum_by view_blocks vs
      → sum_by view_blocks (cond b (redone g v) v ∷ map change vs) ≡ sum_by view_blocks (v ∷ vs)
  untouched_at true v vs is apart rest = absurd (apart (eqb-true v.number number is))
  untouched_at false v vs is apart rest =
      omega (arith, rest, sum_by-cons view_blocks v (map change vs), sum_by-cons view_blocks v vs)

  untouched : (vs : List View) → All (λ (v : View). v.number ≢ number) vs
      → sum_by view_blocks (map change vs) ≡ sum_by view_blocks vs
  untouched [] apart = refl
  untouched (v ∷ vs) apart =
      untouched_at (eqb v.number number) v vs refl
      (All-head (λ (w : View). w.number ≢ number) v vs apart)
      (untouched vs (All-tail (λ (w : View). w.number ≢ number) v vs apart))

  module _ (extra : ℕ)
      (more : (files : List DataFile) → sum_by file_blocks (g files) ≤ extra + sum_by file_blocks files) where
    more_at : (b : Bool) (v : View) (vs : List View) → eqb v.number number ≡ b
        → All (λ (w : View). v.number ≢ w.number) vs
        → sum_by view_blocks (map change vs) ≤ extra + sum_by view_blocks vs
        → sum_by view_blocks (cond b (redone g v) v ∷ map change vs)
        ≤ extra + sum_by view_blocks (v ∷ vs)
    more_at true v vs is apart rest =
        let same = untouched vs (All-weaker (λ (w : View). v.number ≢ w.number)
        (λ (w : View). w.number ≢ number)
        (λ w differ e. differ (eqb-true v.number number is ∙ sym e)) vs apart) in
        let own = more v.data_files in
        omega (
          arith,
          same,
          own,
          sum_by-cons view_blocks (redone g v) (map change vs),
          sum_by-cons view_blocks v vs,
        )
    more_at false v vs is apart rest =
        omega (arith, rest, sum_by-cons view_blocks v (map change vs), sum_by-cons view_blocks v vs)

    more_sum : (vs : List View) → AllPairs (λ (v w : View). v.number ≢ w.number) vs
        → sum_by view_blocks (map change vs) ≤ extra + sum_by view_blocks vs
    more_sum [] apart = omega arith
    more_sum (v ∷ vs) apart =
        more_at (eqb v.number number) v vs refl
        (pairs_head (λ (v w : View). v.number ≢ w.number) v vs apart)
        (more_sum vs (pairs_tail (λ (v w : View). v.number ≢ w.number) v vs apart))

    numbers_apart : Ordered old → AllPairs (λ (v w : View). v.number ≢ w.number) old.views
    numbers_apart was =
        pairs_weaker (λ (v w : View). v.number < w.number) (λ (v w : View). v.number ≢ w.number)
        old.views (λ v w less e. omega (arith, less, e))
        (pairs_unmap (λ (v : View). v.number) (λ (m n : ℕ). m < n) old.views
        was.view_numbers.rising)

    -- the blocks that g may take more
    pub data_with : Ordered old
        → sum_by (λ (file : BareData). blocks_of file.length)
        (flat_map (λ (view : BareView). view.data_files)
        (map bare_view (with_view_at number (redone g) old.views)))
        ≤ extra + sum_by (λ (file : BareData). blocks_of file.length)
        (flat_map (λ (view : BareView). view.data_files) (map bare_view old.views))
    data_with was =
        omega (
          arith,
          more_sum old.views (numbers_apart was),
          data_sum views,
          data_sum old.views,
        )

    pub room_with : Ordered old
        → used_blocks (map bare_view (with_view_at number (redone g) old.views))
        ≤ extra + used_blocks (map bare_view old.views)
    room_with was =
        let files = ap (λ (es : List FileEntry). sum_by (λ (entry : FileEntry). blocks_of entry.size)
        (distinct es)) same_standing in
        omega (arith, files, data_with was)

  -- less room does as well
  pub room_within : ((files : List DataFile) → sum_by file_blocks (g files) ≤ sum_by file_blocks files)
      → used_blocks (map bare_view (with_view_at number (redone g) old.views))
      ≤ used_blocks (map bare_view old.views)
  room_within less =
      let files = ap (λ (es : List FileEntry). sum_by (λ (entry : FileEntry). blocks_of entry.size)
      (distinct es)) same_standing in
      omega (arith, files, no_more less)

  -- ---- leases

  pub changed_keeps : KeepsLeases old (record old { views = with_view_at number (redone g) old.views })
  changed_keeps =
      keeps_by old (record old { views = with_view_at number (redone g) old.views }) (omega arith)
      (λ n less lives. refl)
      (λ n lease v is at. (
        change v,
        changed_at number (redone g) old (redone_leaves g) lease.view v at,
        same_part (λ (w : View). w.application) (λ w. refl) v,
        λ differ name file there.
            ap (λ (fs : List ListedFile). file_named name fs)
            (same_part (λ (w : View). w.program_files) (λ w. refl) v)
            ∙ there,
      ))

  -- ---- within its order

  module _ (view : View) (found : view_at number old.views ≡ Some view) (is : IsView (redone g view))
    where
      pub changed_ordered : Ordered old
          → Ordered (record old { views = with_view_at number (redone g) old.views })
      changed_ordered was = with_one_ordered number (redone g) old (redone_leaves g) view found is was

      sound_view : IsSoundView view → IsSoundView (redone g view)
      sound_view sound = record {
        key = sound.key;
        version = sound.version;
        whole = sound.whole;
        data_names = pairs_weaker (λ (f h : DataFile). text_cmp f.name h.name ≡ Less)
            (λ (f h : DataFile). ◌≢◌ {A = List ℕ} f.name h.name) (g view.data_files)
            (λ f h less. not_equal f.name h.name less) is.data_order;
      }

      pub changed_sound : Valid (record old { views = with_view_at number (redone g) old.views })
          → Sound old → Sound (record old { views = with_view_at number (redone g) old.views })
      changed_sound valid sound = record {
        valid = valid;
        views = all_mapped change IsSoundView IsSoundView old.views
            (by_number number (redone g) old IsSoundView sound.valid.ordered view found
            (sound_view (all_in IsSoundView old.views view sound.views
            (view_in number old.views view found).0))) sound.views;
        shared = subst ShareBytes (sym same_programs) sound.shared;
      }
