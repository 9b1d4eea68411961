-- The blocks that sessions count: with a job more or less, and with files whose contents are
-- counted.
use Rattle.std.proofs.Common.{◌≡◌, ◌≢◌, ◌∙◌, ◌⊎◌, ◌++◌, ◌+◌, ◌≤◌, inl, inr, refl, sym, ap, subst, ℕ, Bool, true, false, cond, not, List, [], ◌∷◌, map, AllPairs, append_assoc, arith}
use Rattle.std.specs.Prelude.{filter, flat_map, sum_by}
use Rattle.std.proofs.lemmas.Bool.{false≢true}
use Rattle.std.proofs.lemmas.Grind.{flat_map-append}
use Rattle.std.proofs.lemmas.List.{append-nil}
use Rattle.std.proofs.lemmas.List.Kept.{AllPairs-filter}
use Rattle.std.proofs.lemmas.List.Sums.{sum_by-append}
use Rattle.manifests.specs.declared.facts.Application.{Application}
use Rattle.manifests.specs.declared.facts.FileEntry.{FileEntry}
use Rattle.machine.specs.Blocks.{blocks_of, blocks_with, deployed_data, deployed_files, distinct, required_files, standing_files}
use Rattle.machine.specs.Shape.{BareData, BareView, Shape}
use Rattle.machine.specs.Store.{Job}
use Rattle.machine.specs.Views.{ContentKey, content_key, is_required, same_content}
use Rattle.machine.specs.Wanted.{deployed_need, is_held, new_contents}
use Rattle.machine.proofs.GrownViews.{blocks_among}
use Rattle.machine.proofs.ChangedLists.{flat_map_in}
use Rattle.machine.proofs.Members.{In, filter_in, in_either, in_flat_map, in_left, in_map, in_right, map_in, pairs_map, sum_map, sum_within}
use Rattle.machine.proofs.OwnContents.{Apart, blocks_within, distinct_apart, distinct_in, each_stands, in_passes, is_same}
use Rattle.job_machine.specs.Needs.{begin_need, counted_files}
use Rattle.job_machine.proofs.Pairs.{pairs_joined}

abbrev pub program_blocks : List FileEntry → ℕ
program_blocks entries = sum_by (λ (entry : FileEntry). blocks_of entry.size) (distinct entries)

abbrev pub data_blocks : List BareData → ℕ
data_blocks files = sum_by (λ (file : BareData). blocks_of file.length) files

abbrev pub data_of_views : List BareView → List BareData
data_of_views views = flat_map (λ (view : BareView). view.data_files) views

-- the blocks of views and jobs, program files and data files apart
pub blocks_are : (views : List BareView) (jobs : List Application)
    → blocks_with views jobs
    ≡ program_blocks (required_files jobs ++ standing_files views)
    + (data_blocks (deployed_files jobs) + data_blocks (data_of_views views))
blocks_are views jobs =
    ap (λ (n : ℕ). program_blocks (required_files jobs ++ standing_files views) + n)
    (sum_by-append (λ (file : BareData). blocks_of file.length) (deployed_files jobs)
    (data_of_views views))

-- ---- files with contents of their own

-- what is used, and the contents that are new beside it, are no more than all together
pub blocks_beside : (used added : List FileEntry)
    → program_blocks used
    + sum_by (λ (entry : FileEntry). blocks_of entry.size) (new_contents used added)
    ≤ program_blocks (used ++ added)
unfolding Apart
blocks_beside used added =
    let weigh = λ (key : ContentKey). blocks_of key.size in
    let weighs = λ (entry : FileEntry). blocks_of entry.size in
    let both = distinct used ++ new_contents used added in
    let within = sum_within weigh (map content_key both) (map content_key (distinct (used ++ added)))
    (pairs_map content_key Apart (λ (a b : ContentKey). a ≢ b) both (λ a b apart. apart) apart_both)
    (λ key there. (let from = map_in content_key both key there in
    let one = each_stands (used ++ added) from.0 (among from.0 (in_either (distinct used)
    (new_contents used added) from.0 from.1)) in
    subst (λ (k : ContentKey). In k (map content_key (distinct (used ++ added)))) (one.is ∙ from.2)
    (in_map content_key (distinct (used ++ added)) one.entry one.there))) in
    omega (
      arith,
      within,
      sum_map content_key weigh both,
      sum_map content_key weigh (distinct (used ++ added)),
      sum_by-append weighs (distinct used) (new_contents used added),
    )
  where
    new_is : (entry : FileEntry) → In entry (new_contents used added)
        → (not (is_held used entry) ≡ true) × In entry (distinct added)
    new_is entry there =
        filter_in (λ (e : FileEntry). not (is_held used e)) (distinct added) entry there

    among : (entry : FileEntry) → In entry (distinct used) ⊎ In entry (new_contents used added)
        → In entry (used ++ added)
    among entry (inl old) = in_left used added entry (distinct_in used entry old)
    among entry (inr new) =
        in_right used added entry (distinct_in added entry (new_is entry new).1)

    held_not : (b : Bool) → b ≡ true → not b ≡ true → ⊥
    held_not true is other = absurd cc
    held_not false is other = absurd cc

    crossed : (x y : FileEntry) → In x (distinct used) → In y (new_contents used added) → Apart x y
    crossed x y old new same =
        held_not (is_held used y)
        (in_passes (same_content y) used x (distinct_in used x old) (is_same y x (sym same)))
        (new_is y new).0

    apart_both : AllPairs Apart (distinct used ++ new_contents used added)
    apart_both =
        pairs_joined Apart (distinct used) (new_contents used added) (distinct_apart used)
        (AllPairs-filter Apart (λ (entry : FileEntry). not (is_held used entry)) (distinct added)
        (distinct_apart added))
        crossed

-- more that is counted before spares as many blocks as it takes, at most
pub blocks_spared : (more used added : List FileEntry)
    → program_blocks used
    + sum_by (λ (entry : FileEntry). blocks_of entry.size) (new_contents used added)
    ≤ program_blocks (more ++ used)
    + sum_by (λ (entry : FileEntry). blocks_of entry.size) (new_contents (more ++ used) added)
blocks_spared more used added =
    let beside = blocks_beside used added in
    let among = blocks_among (used ++ added) (more ++ used ++ added)
    (λ entry there. subst (λ (es : List FileEntry). In entry es) (sym (append_assoc more used added))
    (in_right more (used ++ added) entry there)) in
    let within = blocks_within (more ++ used) added in
    omega (arith, beside, among, within)

-- the data files that a release deploys
pub deployed_blocks : (a : Application)
    → data_blocks (map deployed_data (filter (λ (entry : FileEntry). entry.local) a.files))
    ≡ deployed_need a
deployed_blocks a =
    sum_map deployed_data (λ (file : BareData). blocks_of file.length)
    (filter (λ (entry : FileEntry). entry.local) a.files)

-- ---- a job more

module _ (shape : Shape) (a : Application) where
  required_more : required_files (shape.jobs ++ a ∷ [])
      ≡ required_files shape.jobs ++ filter is_required a.files
  required_more =
      flat_map-append (λ (x : Application). filter is_required x.files) shape.jobs (a ∷ [])
      ∙ ap (λ (es : List FileEntry). required_files shape.jobs ++ es)
      (append-nil (filter is_required a.files))

  deployed_more : deployed_files (shape.jobs ++ a ∷ [])
      ≡ deployed_files shape.jobs
      ++ map deployed_data (filter (λ (entry : FileEntry). entry.local) a.files)
  deployed_more =
      flat_map-append
      (λ (x : Application). map deployed_data (filter (λ (e : FileEntry). e.local) x.files))
      shape.jobs (a ∷ [])
      ∙ ap (λ (ds : List BareData). deployed_files shape.jobs ++ ds)
      (append-nil (map deployed_data (filter (λ (e : FileEntry). e.local) a.files)))

  among_more : (entry : FileEntry)
      → In entry (required_files (shape.jobs ++ a ∷ []) ++ standing_files shape.views)
      → In entry (counted_files shape ++ filter is_required a.files)
  among_more entry there =
      by (in_either (required_files (shape.jobs ++ a ∷ [])) (standing_files shape.views) entry there)
    where
      counted : In entry (counted_files shape)
          → In entry (counted_files shape ++ filter is_required a.files)
      counted is = in_left (counted_files shape) (filter is_required a.files) entry is

      own : In entry (required_files shape.jobs) ⊎ In entry (filter is_required a.files)
          → In entry (counted_files shape ++ filter is_required a.files)
      own (inl before) =
          counted (in_left (required_files shape.jobs) (standing_files shape.views) entry before)
      own (inr new) = in_right (counted_files shape) (filter is_required a.files) entry new

      by : In entry (required_files (shape.jobs ++ a ∷ [])) ⊎ In entry (standing_files shape.views)
          → In entry (counted_files shape ++ filter is_required a.files)
      by (inl required) =
          own (in_either (required_files shape.jobs) (filter is_required a.files) entry
          (subst (λ (es : List FileEntry). In entry es) required_more required))
      by (inr stands) =
          counted (in_right (required_files shape.jobs) (standing_files shape.views) entry stands)

  -- it takes what `begin` needs at most
  pub blocks_more : blocks_with shape.views (shape.jobs ++ a ∷ [])
      ≤ blocks_with shape.views shape.jobs + begin_need shape a
  blocks_more =
      let among = blocks_among
      (required_files (shape.jobs ++ a ∷ []) ++ standing_files shape.views)
      (counted_files shape ++ filter is_required a.files) among_more in
      let within = blocks_within (counted_files shape) (filter is_required a.files) in
      let deployed = ap data_blocks deployed_more
      ∙ sum_by-append (λ (file : BareData). blocks_of file.length) (deployed_files shape.jobs)
      (map deployed_data (filter (λ (e : FileEntry). e.local) a.files)) in
      omega (
        arith,
        among,
        within,
        deployed,
        deployed_blocks a,
        blocks_are shape.views (shape.jobs ++ a ∷ []),
        blocks_are shape.views shape.jobs,
      )

  among_back : (entry : FileEntry)
      → In entry (counted_files shape ++ filter is_required a.files)
      → In entry (required_files (shape.jobs ++ a ∷ []) ++ standing_files shape.views)
  among_back entry there =
      by (in_either (counted_files shape) (filter is_required a.files) entry there)
    where
      first : In entry (required_files shape.jobs ++ filter is_required a.files)
          → In entry (required_files (shape.jobs ++ a ∷ []) ++ standing_files shape.views)
      first required =
          in_left (required_files (shape.jobs ++ a ∷ [])) (standing_files shape.views) entry
          (subst (λ (es : List FileEntry). In entry es) (sym required_more) required)

      inner : In entry (required_files shape.jobs) ⊎ In entry (standing_files shape.views)
          → In entry (required_files (shape.jobs ++ a ∷ []) ++ standing_files shape.views)
      inner (inl before) =
          first (in_left (required_files shape.jobs) (filter is_required a.files) entry before)
      inner (inr stands) =
          in_right (required_files (shape.jobs ++ a ∷ [])) (standing_files shape.views) entry stands

      by : In entry (counted_files shape) ⊎ In entry (filter is_required a.files)
          → In entry (required_files (shape.jobs ++ a ∷ []) ++ standing_files shape.views)
      by (inl counted) =
          inner (in_either (required_files shape.jobs) (standing_files shape.views) entry counted)
      by (inr new) =
          first (in_right (required_files shape.jobs) (filter is_required a.files) entry new)

  -- and no less
  pub blocks_exact : blocks_with shape.views (shape.jobs ++ a ∷ [])
      ≡ blocks_with shape.views shape.jobs + begin_need shape a
  blocks_exact =
      let among = blocks_among (counted_files shape ++ filter is_required a.files)
      (required_files (shape.jobs ++ a ∷ []) ++ standing_files shape.views) among_back in
      let beside = blocks_beside (counted_files shape) (filter is_required a.files) in
      let deployed = ap data_blocks deployed_more
      ∙ sum_by-append (λ (file : BareData). blocks_of file.length) (deployed_files shape.jobs)
      (map deployed_data (filter (λ (e : FileEntry). e.local) a.files)) in
      omega (
        arith,
        blocks_more,
        among,
        beside,
        deployed,
        deployed_blocks a,
        blocks_are shape.views (shape.jobs ++ a ∷ []),
        blocks_are shape.views shape.jobs,
      )

-- ---- a job less

abbrev wanted_by : List Job → List Application
wanted_by jobs = map (λ (job : Job). job.application) jobs

abbrev pub deployed_by : Application → List BareData
deployed_by a = map deployed_data (filter (λ (entry : FileEntry). entry.local) a.files)

abbrev own : Job → ℕ
own job = data_blocks (deployed_by job.application)

first_data : (job : Job) (jobs : List Job)
    → data_blocks (deployed_files (wanted_by (job ∷ jobs)))
    ≡ own job + data_blocks (deployed_files (wanted_by jobs))
first_data job jobs =
    sum_by-append (λ (file : BareData). blocks_of file.length) (deployed_by job.application)
    (deployed_files (wanted_by jobs))

module _ (keep : Job → Bool) where
  data_kept : (jobs : List Job)
      → data_blocks (deployed_files (wanted_by (filter keep jobs)))
      ≤ data_blocks (deployed_files (wanted_by jobs))
  data_kept [] = omega arith
  data_kept (job ∷ jobs) = by (keep job) (data_kept jobs)
    where
      by : (b : Bool) → data_blocks (deployed_files (wanted_by (filter keep jobs)))
          ≤ data_blocks (deployed_files (wanted_by jobs))
          → data_blocks (deployed_files (wanted_by (cond b (job ∷ filter keep jobs) (filter keep jobs))))
          ≤ data_blocks (deployed_files (wanted_by (job ∷ jobs)))
      by true rest = omega (arith, rest, first_data job jobs, first_data job (filter keep jobs))
      by false rest = omega (arith, rest, first_data job jobs)

  -- one that is not kept takes its data files with it
  pub data_lost : (jobs : List Job) (lost : Job) → In lost jobs → keep lost ≡ false
      → data_blocks (deployed_files (wanted_by (filter keep jobs))) + own lost
      ≤ data_blocks (deployed_files (wanted_by jobs))
  data_lost [] lost there not = absurd there
  data_lost (job ∷ jobs) lost (inl is) not =
      by (keep job) refl (data_kept jobs)
    where
      by : (b : Bool) → keep job ≡ b
          → data_blocks (deployed_files (wanted_by (filter keep jobs)))
          ≤ data_blocks (deployed_files (wanted_by jobs))
          → data_blocks (deployed_files (wanted_by (cond b (job ∷ filter keep jobs) (filter keep jobs))))
          + own lost ≤ data_blocks (deployed_files (wanted_by (job ∷ jobs)))
      by true kept rest = absurd (false≢true (sym not ∙ sym (ap keep is) ∙ kept))
      by false kept rest = (let same = ap own is in omega (arith, rest, same, first_data job jobs))
  data_lost (job ∷ jobs) lost (inr there) not = by (keep job) (data_lost jobs lost there not)
    where
      by : (b : Bool) → data_blocks (deployed_files (wanted_by (filter keep jobs))) + own lost
          ≤ data_blocks (deployed_files (wanted_by jobs))
          → data_blocks (deployed_files (wanted_by (cond b (job ∷ filter keep jobs) (filter keep jobs))))
          + own lost ≤ data_blocks (deployed_files (wanted_by (job ∷ jobs)))
      by true rest = omega (arith, rest, first_data job jobs, first_data job (filter keep jobs))
      by false rest = omega (arith, rest, first_data job jobs)

  -- what jobs require that are kept is required
  pub required_kept : (jobs : List Job) (entry : FileEntry)
      → In entry (required_files (wanted_by (filter keep jobs)))
      → In entry (required_files (wanted_by jobs))
  required_kept jobs entry there =
      let of = flat_map_in (λ (x : Application). filter is_required x.files)
      (wanted_by (filter keep jobs)) entry there in
      let job = map_in (λ (j : Job). j.application) (filter keep jobs) of.0 of.1 in
      in_flat_map (λ (x : Application). filter is_required x.files) (wanted_by jobs) of.0 entry
      (subst (λ (x : Application). In x (wanted_by jobs)) job.2
      (in_map (λ (j : Job). j.application) jobs job.0 (filter_in keep jobs job.0 job.1).1)) of.2

  -- fewer jobs count no more
  pub blocks_fewer : (views : List BareView) (jobs : List Job)
      → blocks_with views (wanted_by (filter keep jobs)) ≤ blocks_with views (wanted_by jobs)
  blocks_fewer views jobs =
      let among = blocks_among
      (required_files (wanted_by (filter keep jobs)) ++ standing_files views)
      (required_files (wanted_by jobs) ++ standing_files views) kept in
      omega (
        arith,
        among,
        data_kept jobs,
        blocks_are views (wanted_by (filter keep jobs)),
        blocks_are views (wanted_by jobs),
      )
    where
      kept : (entry : FileEntry)
          → In entry (required_files (wanted_by (filter keep jobs)) ++ standing_files views)
          → In entry (required_files (wanted_by jobs) ++ standing_files views)
      kept entry there =
          by (in_either (required_files (wanted_by (filter keep jobs))) (standing_files views) entry
          there)
        where
          by : In entry (required_files (wanted_by (filter keep jobs)))
              ⊎ In entry (standing_files views)
              → In entry (required_files (wanted_by jobs) ++ standing_files views)
          by (inl required) =
              in_left (required_files (wanted_by jobs)) (standing_files views) entry
              (required_kept jobs entry required)
          by (inr stands) =
              in_right (required_files (wanted_by jobs)) (standing_files views) entry stands
