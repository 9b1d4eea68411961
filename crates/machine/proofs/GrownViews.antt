-- A store in which a group stands in one more view.
use Rattle.std.proofs.Common.{◌≡◌, ◌≢◌, ◌∙◌, ◌⊎◌, ◌++◌, ◌+◌, ◌≤◌, ◌&&◌, inl, inr, refl, sym, ap, subst, ℕ, Bool, true, false, cond, not, eqb, List, [], ◌∷◌, map, Option, Some, None, bytes_eq, arith}
use Rattle.std.specs.Prelude.{sum_by}
use Rattle.std.proofs.lemmas.Bool.{and_from, and_parts}
use Rattle.std.proofs.lemmas.List.Elements.{All-push}
use Rattle.small_types.specs.declared.limits.TheConstants.{NAME_LIMIT}
use Rattle.manifests.specs.declared.facts.Application.{Application}
use Rattle.manifests.specs.declared.facts.FileEntry.{FileEntry}
use Rattle.machine.specs.Blocks.{blocks_of, distinct, standing_files, used_blocks}
use Rattle.machine.specs.Current.{view_at}
use Rattle.machine.specs.Fields.{IsShort}
use Rattle.machine.specs.Grouped.{AreOfGroup, StandAmong, grouped, with_group, with_view_at}
use Rattle.machine.specs.Groups.{group_files, group_need, is_group, is_in}
use Rattle.machine.specs.Shape.{BareData, BareView, bare_view}
use Rattle.machine.specs.Sound.{IsSoundView, IsWhole, Sound, program_files_of}
use Rattle.machine.specs.Store.{Store}
use Rattle.machine.specs.Valid.{IsView, Ordered, Valid}
use Rattle.machine.specs.Views.{ContentKey, ListedFile, View, content_key, standing_entries, stands_by}
use Rattle.machine.proofs.ChangedLists.{all_mapped, flat_map_in}
use Rattle.machine.proofs.Leased.{view_in}
use Rattle.machine.proofs.Members.{In, all_in, filter_in, in_all, in_either, in_filter, in_flat_map, in_left, in_map, in_right, map_in, pairs_map, sum_map, sum_within}
use Rattle.machine.proofs.OwnContents.{Apart, blocks_within, distinct_apart, distinct_in, each_stands, in_passes, passes_in}
use Rattle.machine.proofs.OneView.{Leaves, by_number, only_one, same_bare_lists, with_one_ordered}
use Rattle.machine.proofs.Shared.{each_alike, alike_each}

-- ---- the files that stand with one more group

-- such a file stood before, or is of the group
pub stood_or_in : (groups : List (List ℕ)) (group : List ℕ) (entry : FileEntry)
    (own : Option (List ℕ)) → entry.group ≡ own
    → stands_by (groups ++ group ∷ []) own ≡ true
    → (stands_by groups own ≡ true) ⊎ (is_group group own ≡ true)
stood_or_in groups group entry None is stands = inl refl
stood_or_in groups group entry (Some g) is stands =
    let found = passes_in (bytes_eq g) (groups ++ group ∷ []) stands in
    by found.0 found.2 (in_either groups (group ∷ []) found.0 found.1)
  where
    by : (x : List ℕ) → bytes_eq g x ≡ true → In x groups ⊎ In x (group ∷ [])
        → (stands_by groups (Some g) ≡ true) ⊎ (is_group group (Some g) ≡ true)
    by x passes (inl there) = inl (in_passes (bytes_eq g) groups x there passes)
    by x passes (inr (inl last)) = inr (ap (bytes_eq g) last ∙ passes)
    by x passes (inr (inr none)) = absurd none

pub standing_more : (groups : List (List ℕ)) (group : List ℕ) (a : Application) (entry : FileEntry)
    → In entry (standing_entries (groups ++ group ∷ []) a)
    → In entry (standing_entries groups a) ⊎ In entry (group_files group a)
standing_more groups group a entry there =
    let found = filter_in (λ (e : FileEntry). not e.local && stands_by (groups ++ group ∷ []) e.group)
    a.files entry there in
    let parts = and_parts (not entry.local) (stands_by (groups ++ group ∷ []) entry.group) found.0 in
    by parts.0 found.1 (stood_or_in groups group entry entry.group refl parts.1)
  where
    by : not entry.local ≡ true → In entry a.files
        → (stands_by groups entry.group ≡ true) ⊎ (is_group group entry.group ≡ true)
        → In entry (standing_entries groups a) ⊎ In entry (group_files group a)
    by program listed (inl stood) =
        inl (in_filter (λ (e : FileEntry). not e.local && stands_by groups e.group) a.files entry
        (and_from (not entry.local) (stands_by groups entry.group) program stood) listed)
    by program listed (inr own) =
        inr (in_filter (is_in group) a.files entry
        (and_from (not entry.local) (is_group group entry.group) program own) listed)

-- ---- contents of files of which each is among others

-- a sum over contents, by their keys
pub sum_among : (weigh : ContentKey → ℕ) (xs ys : List FileEntry)
    → ((x : FileEntry) → In x xs → In x ys)
    → sum_by (λ (entry : FileEntry). weigh (content_key entry)) (distinct xs)
    ≤ sum_by (λ (entry : FileEntry). weigh (content_key entry)) (distinct ys)
unfolding Apart
sum_among weigh xs ys among =
    let within = sum_within weigh (map content_key (distinct xs)) (map content_key (distinct ys))
    (pairs_map content_key Apart (λ (a b : ContentKey). a ≢ b) (distinct xs) (λ a b apart. apart)
    (distinct_apart xs))
    (λ key there. (let from = map_in content_key (distinct xs) key there in
    let one = each_stands ys from.0 (among from.0 (distinct_in xs from.0 from.1)) in
    subst (λ (k : ContentKey). In k (map content_key (distinct ys))) (one.is ∙ from.2)
    (in_map content_key (distinct ys) one.entry one.there))) in
    omega (
      arith,
      within,
      sum_map content_key weigh (distinct xs),
      sum_map content_key weigh (distinct ys),
    )

-- their blocks
pub blocks_among : (xs ys : List FileEntry) → ((x : FileEntry) → In x xs → In x ys)
    → sum_by (λ (entry : FileEntry). blocks_of entry.size) (distinct xs)
    ≤ sum_by (λ (entry : FileEntry). blocks_of entry.size) (distinct ys)
blocks_among xs ys among = sum_among (λ (key : ContentKey). blocks_of key.size) xs ys among

-- ---- the store

-- a group leaves of a view what no group changes
pub grows_leaves : (group : List ℕ) (program_files : List ListedFile)
    → Leaves (with_group group program_files)
grows_leaves group program_files = record {
  number = λ v. refl;
  deployment = λ v. refl;
  application = λ v. refl;
  base = λ v. refl;
}

module _ (number : ℕ) (group : List ℕ) (program_files : List ListedFile) (old : Store) where
  abbrev grows : View → View
  grows view = with_group group program_files view

  abbrev change : View → View
  change view = cond (eqb view.number number) (with_group group program_files view) view

  abbrev views : List View
  views = with_view_at number (with_group group program_files) old.views

  module _ (view : View) (found : view_at number old.views ≡ Some view)
      (order : map (λ (file : ListedFile). file.entry) program_files
      ≡ standing_entries (view.groups ++ group ∷ []) view.application) where
    -- the view of the number is one of its files
    grown_view : IsShort NAME_LIMIT group → IsView view → IsView (grows view)
    grown_view short is = record {
      deployment = is.deployment;
      application = is.application;
      base = is.base;
      groups = All-push (IsShort NAME_LIMIT) view.groups group is.groups short;
      files = order;
      data_order = is.data_order;
      data_files = is.data_files;
      few_data = is.few_data;
    }

    pub grouped_ordered : IsShort NAME_LIMIT group → Ordered old
        → Ordered (grouped number group program_files old)
    grouped_ordered short was =
        with_one_ordered number grows old (grows_leaves group program_files) view found
        (grown_view short (all_in IsView old.views view was.views (view_in number old.views view found).0))
        was

    -- ---- room

    stand_before : Ordered old → (entry : FileEntry) → In entry (standing_files (map bare_view views))
        → In entry (standing_files (map bare_view old.views) ++ group_files group view.application)
    stand_before was entry there =
        let of = flat_map_in (λ (v : BareView). standing_entries v.groups v.application)
        (map bare_view views) entry there in
        let bare = map_in bare_view views of.0 of.1 in
        let from = map_in change old.views bare.0 bare.1 in
        let own = subst (λ (v : BareView). In entry (standing_entries v.groups v.application))
        (sym (ap bare_view from.2 ∙ bare.2)) of.2 in
        by from.0 from.1 (eqb from.0.number number) refl own
      where
        before : (v : View) → In v old.views → In entry (standing_entries v.groups v.application)
            → In entry (standing_files (map bare_view old.views))
        before v known stood =
            in_flat_map (λ (w : BareView). standing_entries w.groups w.application)
            (map bare_view old.views) (bare_view v) entry (in_map bare_view old.views v known) stood

        either : (v : View) → In v old.views → v ≡ view
            → In entry (standing_entries v.groups v.application)
            ⊎ In entry (group_files group v.application)
            → In entry (standing_files (map bare_view old.views)
            ++ group_files group view.application)
        either v known same (inl stood) =
            in_left (standing_files (map bare_view old.views)) (group_files group view.application)
            entry (before v known stood)
        either v known same (inr came) =
            in_right (standing_files (map bare_view old.views)) (group_files group view.application)
            entry (subst (λ (w : View). In entry (group_files group w.application)) same came)

        by : (v : View) → In v old.views → (b : Bool) → eqb v.number number ≡ b
            → In entry (standing_entries (cond b (grows v) v).groups (cond b (grows v) v).application)
            → In entry (standing_files (map bare_view old.views)
            ++ group_files group view.application)
        by v known true same own =
            either v known (only_one number old was view v found known same)
            (standing_more v.groups group v.application entry own)
        by v known false differ own =
            in_left (standing_files (map bare_view old.views)) (group_files group view.application)
            entry (before v known own)

    pub room_after : Ordered old → used_blocks (map bare_view views)
        ≤ used_blocks (map bare_view old.views)
        + group_need (map bare_view old.views) group view.application
    room_after was =
        let bares = map bare_view old.views in
        let among = blocks_among (standing_files (map bare_view views))
        (standing_files bares ++ group_files group view.application) (stand_before was) in
        let within = blocks_within (standing_files bares) (group_files group view.application) in
        let same_data = ap (λ (ds : List BareData). sum_by (λ (d : BareData). blocks_of d.length) ds)
        (same_bare_lists number grows old (λ (v : BareView). v.data_files) (λ v. refl) old.views) in
        omega (arith, among, within, same_data)

  -- ---- whole files

  module _ (view : View) (found : view_at number old.views ≡ Some view) (files : List ListedFile)
      (fetched : AreOfGroup group old view files)
      (stand : StandAmong group view files program_files) where
    -- a program file came, or stood before
    came_or_stood : (file : ListedFile) → In file program_files
        → In file files ⊎ In file view.program_files
    came_or_stood file there = by (is_in group file.entry) refl
      where
        by : (b : Bool) → is_in group file.entry ≡ b → In file files ⊎ In file view.program_files
        by true is =
            inl (subst (λ (fs : List ListedFile). In file fs) stand.came
            (in_filter (λ (f : ListedFile). is_in group f.entry) program_files file is there))
        by false is =
            inr (subst (λ (fs : List ListedFile). In file fs) stand.stayed
            (in_filter (λ (f : ListedFile). not (is_in group f.entry)) program_files file
            (ap not is) there))

    grown_sound : IsSoundView view → IsSoundView (grows view)
    grown_sound is = record {
      key = is.key;
      version = is.version;
      whole = in_all IsWhole program_files (λ file there. by file (came_or_stood file there));
      data_names = is.data_names;
    }
      where
        by : (file : ListedFile) → In file files ⊎ In file view.program_files → IsWhole file
        by file (inl came) = all_in IsWhole files file fetched.whole came
        by file (inr stood) = all_in IsWhole view.program_files file is.whole stood

    among_all : Ordered old → (file : ListedFile)
        → In file (program_files_of (grouped number group program_files old))
        → In file (program_files_of old ++ files)
    among_all was file there =
        let of = flat_map_in (λ (v : View). v.program_files) views file there in
        let from = map_in change old.views of.0 of.1 in
        by from.0 from.1 (eqb from.0.number number) refl
        (subst (λ (v : View). In file v.program_files) (sym from.2) of.2)
      where
        before : (v : View) → In v old.views → In file v.program_files
            → In file (program_files_of old ++ files)
        before v known own =
            in_left (program_files_of old) files file
            (in_flat_map (λ (w : View). w.program_files) old.views v file known own)

        either : In file files ⊎ In file view.program_files
            → In file (program_files_of old ++ files)
        either (inl came) = in_right (program_files_of old) files file came
        either (inr stood) = before view (view_in number old.views view found).0 stood

        by : (v : View) → In v old.views → (b : Bool) → eqb v.number number ≡ b
            → In file (cond b (grows v) v).program_files → In file (program_files_of old ++ files)
        by v known true same own = either (came_or_stood file own)
        by v known false differ own = before v known own

    pub grouped_sound : Valid (grouped number group program_files old) → Sound old
        → Sound (grouped number group program_files old)
    grouped_sound valid sound = record {
      valid = valid;
      views = all_mapped change IsSoundView IsSoundView old.views
          (by_number number grows old IsSoundView sound.valid.ordered view found
          (grown_sound (all_in IsSoundView old.views view sound.views
          (view_in number old.views view found).0))) sound.views;
      shared = alike_each (program_files_of (grouped number group program_files old))
          (λ f g a b. each_alike (program_files_of old ++ files) fetched.shared f g
          (among_all sound.valid.ordered f a) (among_all sound.valid.ordered g b));
    }
