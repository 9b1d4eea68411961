-- A commit keeps a session sound.
use Rattle.std.proofs.Common.{◌≡◌, ◌∙◌, ◌⊎◌, ◌++◌, ◌+◌, ◌<◌, ◌≤◌, inl, inr, refl, sym, ap, subst, ℕ, false, eq-eqb, not, List, [], ◌∷◌, length, map, All, Option, Some, None, arith}
use Rattle.std.specs.Prelude.{count_by, filter, option_and_then, sum_by}
use Rattle.std.proofs.lemmas.List.{length-map}
use Rattle.std.proofs.lemmas.List.Elements.{All-nil}
use Rattle.small_types.specs.declared.limits.TheConstants.{FILE_COUNT_LIMIT, LOCAL_COUNT_LIMIT, NUMBER_LIMIT, VIEW_LIMIT}
use Rattle.small_types.specs.declared.target.Target.{Target}
use Rattle.identity.specs.declared.key.Key.{Key}
use Rattle.manifests.specs.declared.facts.Application.{Application}
use Rattle.manifests.specs.declared.facts.Deployment.{Deployment}
use Rattle.manifests.specs.declared.facts.FileEntry.{FileEntry}
use Rattle.manifests.specs.Applications.{is_below_pre}
use Rattle.machine.specs.Blocks.{blocks_of, blocks_with, distinct, free_blocks, required_files, standing_files}
use Rattle.machine.specs.Current.{bare_listed_by, current_bare, current_of, current_view, data_of, listed_by, view_at}
use Rattle.machine.specs.Fields.{IsTarget}
use Rattle.machine.specs.Installed.{AreFetched, IsProvidedBy, with_view}
use Rattle.machine.specs.InstallRow.{LacksEntry, files_after, locals_after, weight_installed}
use Rattle.machine.specs.Migrated.{migrated_names}
use Rattle.machine.specs.Rows.{PassesAll}
use Rattle.machine.specs.Shape.{BareData, BareView, Shape, bare_data, bare_view, shape_of}
use Rattle.machine.specs.Sound.{Sound, program_files_of}
use Rattle.machine.specs.SoundSession.{IsSoundJob, program_files_in}
use Rattle.machine.specs.Store.{Job, Session, Store, session_over}
use Rattle.machine.specs.Valid.{IsDataFile, IsView, Ordered, Valid}
use Rattle.machine.specs.Views.{DataFile, ListedFile, View, is_required}
use Rattle.machine.specs.Weight.{IsLight, IsTooHeavy, weight_of}
use Rattle.machine.proofs.Addresses.{text_is_held}
use Rattle.machine.proofs.BroughtFiles.{bare_data_current, bare_listed_current, installed_sound}
use Rattle.machine.proofs.CountedBlocks.{counted_more}
use Rattle.machine.proofs.GrownViews.{blocks_among}
use Rattle.machine.proofs.InstallWeights.{installed_weight}
use Rattle.machine.proofs.NewView.{Fitting, installed_ordered}
use Rattle.machine.proofs.Leased.{view_in}
use Rattle.machine.proofs.Lightness.{is_light}
use Rattle.machine.proofs.Members.{In, all_in, in_either, in_flat_map, in_left, in_map, in_right, sum_map}
use Rattle.machine.proofs.MovedFiles.{are_data, few_named}
use Rattle.job_machine.specs.CommitRow.{CommitEffect, IsWeightOf, commit_refusals}
use Rattle.job_machine.specs.Jobs.{job_shape_of, without_job}
use Rattle.job_machine.specs.Needs.{commit_need}
use Rattle.job_machine.specs.Replies.{SessionReply}
use Rattle.job_machine.specs.Settled.{SoundSessionWithJobs}
use Rattle.job_machine.specs.FreeBytes.{program_files_held}
use Rattle.job_machine.proofs.CommitInstalls.{file_of_jobs, open_of, whole_files}
use Rattle.job_machine.proofs.NewViews.{data_room, files_after as program_files_after, standing_after}
use Rattle.job_machine.proofs.OneKey.{less_than, not_less}
use Rattle.job_machine.proofs.OpenJobs.{job_in}
use Rattle.job_machine.proofs.Rooms.{blocks_are, data_lost, deployed_blocks, required_kept}
use Rattle.job_machine.proofs.SoundParts.{is_kept, kept_files, shared_among, without}

-- ---- the data files of the current view

data_by : (old : Store) → Ordered old → (number : ℕ) (view : Option View)
    → view_at number old.views ≡ view → All IsDataFile (data_of view)
data_by old was number None is = All-nil IsDataFile
data_by old was number (Some view) is =
    (all_in IsView old.views view was.views (view_in number old.views view is).0).data_files

data_then : (old : Store) → Ordered old → (number : Option ℕ)
    → All IsDataFile (data_of (option_and_then (λ (n : ℕ). view_at n old.views) number))
data_then old was None = All-nil IsDataFile
data_then old was (Some number) = data_by old was number (view_at number old.views) refl

current_data : (key : Key) (old : Store) → Ordered old
    → All IsDataFile (data_of (current_view key old))
current_data key old was = data_then old was (current_of key old.apps)

-- ---- names with their bytes and without

data_names : (files : List DataFile)
    → map (λ (file : BareData). file.name) (map bare_data files)
    ≡ map (λ (file : DataFile). file.name) files
data_names [] = refl
data_names (file ∷ files) = ap (λ (names : List (List ℕ)). file.name ∷ names) (data_names files)

locals_is : (store : Store) (d : Deployment) (a : Application)
    → locals_after (shape_of (session_over store)) d a
    ≡ count_by (λ (name : List ℕ). not (is_below_pre name))
    (migrated_names (map (λ (file : DataFile). file.name) (data_of (current_view d.identity.key store)))
    (listed_by (current_view d.identity.key store)) a.files)
locals_is store d a =
    ap
    (λ (datas : List BareData). count_by (λ (name : List ℕ). not (is_below_pre name))
    (migrated_names (map (λ (file : BareData). file.name) datas)
    (bare_listed_by (current_bare d.identity.key (shape_of (session_over store)))) a.files))
    (bare_data_current d.identity.key store)
    ∙ ap
    (λ (names : List (List ℕ)). count_by (λ (name : List ℕ). not (is_below_pre name))
    (migrated_names names
    (bare_listed_by (current_bare d.identity.key (shape_of (session_over store)))) a.files))
    (data_names (data_of (current_view d.identity.key store)))
    ∙ ap
    (λ (files : List FileEntry). count_by (λ (name : List ℕ). not (is_below_pre name))
    (migrated_names (map (λ (file : DataFile). file.name) (data_of (current_view d.identity.key store)))
    files a.files))
    (bare_listed_current d.identity.key store)

-- ---- a commit

module _ (number now : ℕ) (old : Session) (reply : SessionReply) (new : Session)
    (was : SoundSessionWithJobs old) (few : now ≤ NUMBER_LIMIT)
    (passes : PassesAll (commit_refusals number (job_shape_of old)))
    (done : CommitEffect number now old reply new) where
  abbrev job : Job
  job = done.job

  abbrev d : Deployment
  d = done.job.deployment

  abbrev a : Application
  a = done.job.application

  abbrev shape : Shape
  shape = shape_of old

  abbrev bares : List BareView
  bares = map bare_view old.store.views

  abbrev provider : Target
  provider = done.installed.provider

  abbrev data_files : List DataFile
  data_files = done.installed.data_files

  abbrev later : Store
  later = with_view provider done.job.base d a done.files data_files now old.store

  there : In done.job old.jobs
  there = (job_in number old.jobs done.job done.found).0

  its : IsSoundJob done.job
  its = all_in IsSoundJob old.jobs done.job was.sound.jobs there

  fetched : AreFetched old.store a done.files done.originals
  fetched =
      whole_files number old was.sound done.job done.found done.files done.originals done.of_job

  -- ---- what was passed

  has_entry_room : ¬ LacksEntry shape d
  has_entry_room lacks =
      passes.1.1.1.1.0 (open_of number now old reply new passes done
      {P = λ j. LacksEntry shape j.deployment} lacks)

  has_view_room : length old.store.views < VIEW_LIMIT
  has_view_room =
      let less = less_than (length (map bare_view old.store.views)) VIEW_LIMIT passes.1.1.1.1.1.0 in
      omega (arith, less, length-map old.store.views bare_view)

  has_file_room : sum_by (λ (view : View). length view.application.files) old.store.views
      + length a.files ≤ FILE_COUNT_LIMIT
  has_file_room =
      let fits = not_less FILE_COUNT_LIMIT (files_after shape a) (λ many.
      passes.1.1.1.1.1.1.0 (open_of number now old reply new passes done
      {P = λ j. FILE_COUNT_LIMIT < files_after shape j.application} many)) in
      omega (
        arith,
        fits,
        sum_map bare_view (λ (view : BareView). length view.application.files) old.store.views,
      )

  has_locals_room : locals_after shape d a ≤ LOCAL_COUNT_LIMIT
  has_locals_room =
      not_less LOCAL_COUNT_LIMIT (locals_after shape d a) (λ many.
      passes.1.1.1.1.1.1.1.0 (open_of number now old reply new passes done
      {P = λ j. LOCAL_COUNT_LIMIT < locals_after shape j.deployment j.application} many))

  has_number_room : old.store.next_view < NUMBER_LIMIT
  has_number_room =
      let limit = was.sound.store.valid.ordered.view_numbers.limit in
      less_than old.store.next_view NUMBER_LIMIT
      (λ le. passes.1.1.1.1.1.1.1.1.0 (omega (arith, limit, le)))

  has_room : commit_need shape d ≤ free_blocks shape
  has_room =
      not_less (free_blocks shape) (commit_need shape d) (λ less.
      passes.1.1.1.1.1.1.1.1.1.0 (commit_need shape d)
      (open_of number now old reply new passes done
      {P = λ j. (commit_need shape d ≡ commit_need shape j.deployment)
      × (free_blocks shape < commit_need shape d)} (refl, less)))

  abbrev new_weight : ℕ
  new_weight = weight_installed provider done.job.base d a shape

  fits : IsTooHeavy shape.room new_weight → ⊥
  fits heavy =
      passes.1.1.1.1.1.1.1.1.1.1.0 new_weight
      (open_of number now old reply new passes done
      {P = λ j. IsWeightOf shape j new_weight × IsTooHeavy shape.room new_weight}
      (record { provider = provider; provided = done.installed.provided; is = refl }, heavy))

  -- ---- its order

  held_provider : (text : Option (List ℕ)) (target : Target)
      → IsProvidedBy done.job.url text target → IsTarget target
  held_provider None target given = subst IsTarget (sym given) its.url
  held_provider (Some text) target read = text_is_held text target read

  fitting : Fitting provider done.job.base d a done.files data_files now old.store
  fitting =
      let was_data = data_of (current_view d.identity.key old.store) in
      let was_listed = listed_by (current_view d.identity.key old.store) in
      let made = done.installed in
      record {
        deployment = its.deployment;
        application = its.application;
        has_provider = held_provider d.provider made.provider made.provided;
        has_base = its.base;
        moment = few;
        required = done.of_job.required;
        data_order = made.migrated.order;
        are_data = are_data was_data was_listed a.files done.originals made.data_files made.migrated
            done.of_job.deployed its.application.facts.each its.application.files
            (current_data d.identity.key old.store was.sound.store.valid.ordered);
        few_data = (let named = few_named was_data was_listed a.files done.originals made.data_files
            made.migrated done.of_job.deployed in
            let room = has_locals_room in
            omega (arith, named, locals_is old.store d a, room));
        entry_room = has_entry_room;
        view_room = has_view_room;
        number_room = has_number_room;
        file_room = has_file_room;
      }

  later_ordered : Ordered later
  later_ordered =
      installed_ordered provider done.job.base d a done.files data_files now old.store fitting
      was.sound.store.valid.ordered

  -- ---- its room

  abbrev jobs : List Job
  jobs = without_job number old.jobs

  abbrev wanted_by : List Job → List Application
  wanted_by js = map (λ (j : Job). j.application) js

  gone : is_kept number old done.job ≡ false
  gone =
      ap not (eq-eqb done.job.number number (job_in number old.jobs done.job done.found).1)

  own_required : (entry : FileEntry) → In entry (filter is_required a.files)
      → In entry (required_files (wanted_by old.jobs))
  own_required entry required =
      in_flat_map (λ (x : Application). filter is_required x.files) (wanted_by old.jobs) a entry
      (in_map (λ (j : Job). j.application) old.jobs done.job there) required

  counted : (entry : FileEntry)
      → In entry (required_files (wanted_by jobs)
      ++ (standing_files bares ++ filter is_required a.files))
      → In entry (required_files (wanted_by old.jobs) ++ standing_files bares)
  counted entry of =
      by (in_either (required_files (wanted_by jobs))
      (standing_files bares ++ filter is_required a.files) entry of)
    where
      first : In entry (required_files (wanted_by old.jobs))
          → In entry (required_files (wanted_by old.jobs) ++ standing_files bares)
      first is = in_left (required_files (wanted_by old.jobs)) (standing_files bares) entry is

      inner : In entry (standing_files bares) ⊎ In entry (filter is_required a.files)
          → In entry (required_files (wanted_by old.jobs) ++ standing_files bares)
      inner (inl stands) =
          in_right (required_files (wanted_by old.jobs)) (standing_files bares) entry stands
      inner (inr required) = first (own_required entry required)

      by : In entry (required_files (wanted_by jobs))
          ⊎ In entry (standing_files bares ++ filter is_required a.files)
          → In entry (required_files (wanted_by old.jobs) ++ standing_files bares)
      by (inl required) = first (required_kept (is_kept number old) old.jobs entry required)
      by (inr behind) =
          inner (in_either (standing_files bares) (filter is_required a.files) entry behind)

  -- the blocks with the other jobs
  later_room : blocks_with (map bare_view later.views) (wanted_by jobs) ≤ old.store.room.blocks
  later_room =
      let among = blocks_among
      (required_files (wanted_by jobs) ++ (standing_files bares ++ filter is_required a.files))
      (required_files (wanted_by old.jobs) ++ standing_files bares) counted in
      let stands = ap (λ (es : List FileEntry).
      sum_by (λ (entry : FileEntry). blocks_of entry.size)
      (distinct (required_files (wanted_by jobs) ++ es)))
      (standing_after provider done.job.base d a done.files done.originals data_files now old.store
      fetched done.installed.migrated) in
      let copies = data_room provider done.job.base d a done.files done.originals data_files now
      old.store fetched done.installed.migrated in
      let lost = data_lost (is_kept number old) old.jobs done.job there gone in
      let need = has_room in
      let room = was.sound.room in
      omega (
        arith,
        among,
        stands,
        copies,
        lost,
        need,
        room,
        deployed_blocks a,
        blocks_are (map bare_view later.views) (wanted_by jobs),
        blocks_are bares (wanted_by old.jobs),
      )

  -- ---- it is valid and sound

  later_light : IsLight later.room (weight_of (map bare_view later.views) later.apps)
  later_light =
      subst (IsLight old.store.room)
      (sym (installed_weight provider done.job.base d a done.files done.originals data_files now
      old.store fetched done.installed.migrated was.sound.store.valid.ordered
      its.application.facts))
      (is_light old.store.room new_weight fits)

  later_valid : Valid later
  later_valid = record {
    ordered = later_ordered;
    room = (let more = counted_more (map bare_view later.views) (wanted_by jobs) in
        let fits_all = later_room in omega (arith, more, fits_all));
    light = later_light;
  }

  later_sound : Sound later
  later_sound =
      installed_sound provider done.job.base d a done.files done.originals data_files now old.store
      fetched done.installed.migrated its.key its.version later_valid was.sound.store

  -- ---- what it shares

  file_came : (file : ListedFile) → In file done.files → In file (program_files_in old.jobs)
  file_came file came =
      file_of_jobs number old was.sound done.job done.found done.files done.originals done.of_job
      file came

  later_held : (file : ListedFile) → In file (program_files_of later ++ program_files_in jobs)
      → In file (program_files_held old)
  later_held file of = by (in_either (program_files_of later) (program_files_in jobs) file of)
    where
      has : In file (program_files_in old.jobs) → In file (program_files_held old)
      has is = in_right (program_files_of old.store) (program_files_in old.jobs) file is

      inner : In file (program_files_of old.store) ⊎ In file done.files
          → In file (program_files_held old)
      inner (inl stands) =
          in_left (program_files_of old.store) (program_files_in old.jobs) file stands
      inner (inr came) = has (file_came file came)

      by : In file (program_files_of later) ⊎ In file (program_files_in jobs)
          → In file (program_files_held old)
      by (inl stands) =
          inner (in_either (program_files_of old.store) done.files file
          (subst (λ (fs : List ListedFile). In file fs)
          (program_files_after provider done.job.base d a done.files done.originals data_files now
          old.store fetched done.installed.migrated) stands))
      by (inr kept) = has (kept_files number old file kept)

  pub left_sound : SoundSessionWithJobs new
  left_sound =
      subst SoundSessionWithJobs
      (sym (done.is
      ∙ ap (λ (s : Store). record old { store = s; jobs = without_job number old.jobs })
      done.installed.is))
      (without number old later later_sound
      (shared_among old (program_files_of later ++ program_files_in jobs) was.sound later_held)
      later_room was)
