-- A new job keeps a session sound.
use Rattle.std.proofs.Common.{◌≡◌, ◌∙◌, ◌⊎◌, ◌++◌, ◌+◌, ◌&&◌, ◌||◌, ◌<◌, ◌≤◌, inl, inr, refl, sym, ap, subst, ℕ, true, false, List, [], ◌∷◌, length, map, All, AllPairs, Contains, arith, length-append}
use Rattle.std.specs.Prelude.{Any, filter}
use Rattle.std.proofs.lemmas.Bool.{and_from, and_parts, false≢true, or_left}
use Rattle.std.proofs.lemmas.List.{length-map, map-append}
use Rattle.std.proofs.lemmas.List.Elements.{All-push}
use Rattle.std.proofs.lemmas.List.Kept.{AllPairs-filter}
use Rattle.small_types.specs.declared.target.Target.{Target}
use Rattle.small_types.specs.declared.limits.TheConstants.{JOB_LIMIT, NUMBER_LIMIT}
use Rattle.digest_list.specs.Matches.{Matches}
use Rattle.manifests.specs.declared.facts.Application.{Application}
use Rattle.manifests.specs.declared.facts.Deployment.{Deployment}
use Rattle.manifests.specs.declared.facts.FileEntry.{FileEntry}
use Rattle.manifests.specs.declared.releases.ReleaseFault.TheVariants.{IdentityDiffers, VersionDiffers}
use Rattle.manifests.specs.Releases.{RefusesIdentity}
use Rattle.machine.specs.Blocks.{blocks_with, free_blocks, standing_files}
use Rattle.machine.specs.Fields.{IsApplication, IsDeployment, IsTarget}
use Rattle.machine.specs.InstallLaws.{AreWanted}
use Rattle.machine.specs.InstallRow.{OfRelease}
use Rattle.machine.specs.Rows.{PassesAll}
use Rattle.machine.specs.Shape.{BareView, Shape, bare_view, shape_of}
use Rattle.machine.specs.Sound.{IsSoundView, IsWhole, program_files_of}
use Rattle.machine.specs.SoundSession.{IsComing, IsSoundJob, SoundSession, program_files_in, wanted_entries}
use Rattle.machine.specs.Store.{Job, Session}
use Rattle.machine.specs.Valid.{AreNumbers}
use Rattle.machine.specs.Views.{ContentKey, ListedFile, View, content_key, is_required, same_content}
use Rattle.machine.specs.Wanted.{is_held, wanted}
use Rattle.machine.proofs.Addresses.{codebase_is_held, text_is_held}
use Rattle.machine.proofs.ChangedLists.{flat_map_in}
use Rattle.machine.proofs.Members.{In, all_in, contains_in, filter_in, in_all, in_either, in_filter, in_flat_map, in_left, in_map, in_right}
use Rattle.machine.proofs.OwnContents.{in_passes, is_same, passes_in, same_is}
use Rattle.machine.proofs.ReadApplications.{application_read}
use Rattle.machine.proofs.ReadDeployments.{deployment_read}
use Rattle.machine.proofs.NumberLists.{push_numbers}
use Rattle.machine.proofs.Shared.{AreAlike, alike_each, each_alike}
use Rattle.machine.proofs.ViewUse.{any_in, in_any}
use Rattle.machine.proofs.WantedFiles.{are_wanted}
use Rattle.job_machine.specs.BeginRow.{AreHeld, BeginEffect, begin_refusals, new_job, with_new_job}
use Rattle.job_machine.specs.FreeBytes.{program_files_held}
use Rattle.job_machine.specs.Jobs.{bare_job, job_shape_of}
use Rattle.job_machine.specs.Needs.{begin_need}
use Rattle.job_machine.specs.Replies.{SessionReply}
use Rattle.job_machine.specs.Settled.{HaveOtherContents, IsSettled, SoundSessionWithJobs}
use Rattle.job_machine.proofs.JobFiles.{NamesApart, is_wanted, one_entry, wanted_is}
use Rattle.job_machine.proofs.OneKey.{less_than, not_less, same_key, same_version}
use Rattle.job_machine.proofs.Pairs.{pairs_joined}
use Rattle.job_machine.proofs.Rooms.{blocks_more}
use Rattle.job_machine.proofs.WantedFiles.{wanted_from, wanted_pairs}

-- ---- the files that a new job has and has left

module _ (old : Session) (sound : SoundSession old) (a : Application) (is : IsApplication a)
    (files : List ListedFile) (held : AreHeld old.store a files) where
  abbrev bares : List BareView
  bares = map bare_view old.store.views

  abbrev left : List FileEntry
  left = wanted bares a

  abbrev had : List FileEntry
  had = map (λ (f : ListedFile). f.entry) files

  wants : AreWanted bares a
  wants = are_wanted bares a

  had_is : (e : FileEntry) → In e had
      → (is_required e ≡ true) × (is_held (standing_files bares) e ≡ true) × In e a.files
  had_is e there =
      let found = filter_in (λ (x : FileEntry). is_required x && is_held (standing_files bares) x)
      a.files e (subst (λ (es : List FileEntry). In e es) held.listed there) in
      let parts = and_parts (is_required e) (is_held (standing_files bares) e) found.0 in
      (parts.0, parts.1, found.1)

  is_had : (e : FileEntry) → is_required e ≡ true → is_held (standing_files bares) e ≡ true
      → In e a.files → In e had
  is_had e required content listed =
      subst (λ (es : List FileEntry). In e es) (sym held.listed)
      (in_filter (λ (x : FileEntry). is_required x && is_held (standing_files bares) x) a.files e
      (and_from (is_required e) (is_held (standing_files bares) e) required content) listed)

  left_is : (e : FileEntry) → In e left → In e a.files × ((is_required e || e.local) ≡ true)
  left_is e there = wanted_from a.files (standing_files bares) e there

  -- a required file that is left has a content that no view holds
  left_new : (e : FileEntry) → In e left → is_required e ≡ true
      → is_held (standing_files bares) e ≡ false
  left_new e there required =
      all_in (λ (x : FileEntry). is_held (standing_files bares) x ≡ false) (filter is_required left) e
      wants.new (in_filter is_required left e required there)

  -- ---- each file is coming

  coming_by : (e : FileEntry) → In e a.files → (is_required e ≡ true) ⊎ (e.local ≡ true)
      → In e (left ++ had)
      ⊎ ((is_required e ≡ true)
      × Any (λ (o : FileEntry). (is_required o ≡ true) × (content_key o ≡ content_key e)) left)
  coming_by e listed (inr local) =
      inl (in_left left had e
      (filter_in (λ (x : FileEntry). x.local) left e
      (subst (λ (es : List FileEntry). In e es) (sym wants.deployed)
      (in_filter (λ (x : FileEntry). x.local) a.files e local listed))).1)
  coming_by e listed (inl required) = by (wants.each e required (contains_in a.files e listed))
    where
      by : (is_held (standing_files bares) e ≡ true)
          ⊎ (is_held (filter is_required left) e ≡ true)
          → In e (left ++ had)
          ⊎ ((is_required e ≡ true)
          × Any (λ (o : FileEntry). (is_required o ≡ true) × (content_key o ≡ content_key e)) left)
      by (inl content) = inl (in_right left had e (is_had e required content listed))
      by (inr content) =
          let found = passes_in (same_content e) (filter is_required left) content in
          let of = filter_in is_required left found.0 found.1 in
          inr (
            required,
            any_in (λ (o : FileEntry). (is_required o ≡ true) × (content_key o ≡ content_key e)) left
                found.0 of.1 (of.0, sym (same_is e found.0 found.2)),
          )

  -- ---- no file twice

  crossed : (e f : FileEntry) → In e left → In f had → NamesApart e f
  crossed e f there have names =
      let kept = had_is f have in
      let same = one_entry a is e f (left_is e there).0 kept.2 names in
      let required : is_required e ≡ true = ap is_required same ∙ kept.0 in
      absurd (false≢true (sym (left_new e there required)
      ∙ ap (λ (x : FileEntry). is_held (standing_files bares) x) same ∙ kept.1))

  once : AllPairs NamesApart (left ++ had)
  once =
      pairs_joined NamesApart left had
      (wanted_pairs NamesApart a.files (standing_files bares) is.facts.files.differ)
      (subst (AllPairs NamesApart) (sym held.listed)
      (AllPairs-filter NamesApart
      (λ (x : FileEntry). is_required x && is_held (standing_files bares) x) a.files
      is.facts.files.differ))
      crossed

  -- ---- the bytes

  -- a program file of a kept view is whole
  kept_whole : (file : ListedFile) → In file (program_files_of old.store) → IsWhole file
  kept_whole file there =
      let of = flat_map_in (λ (v : View). v.program_files) old.store.views file there in
      all_in IsWhole of.0.program_files file
      (all_in IsSoundView old.store.views of.0 sound.store.views of.1).whole of.2

  -- the file of a kept view whose bytes a file has
  pub record IsOf (file : ListedFile) : Type 0 where
    pub kept : ListedFile
    pub there : In kept (program_files_of old.store)
    pub content : content_key kept.entry ≡ content_key file.entry
    pub bytes : kept.bytes ≡ file.bytes

  of_view : (file : ListedFile) → In file files → IsOf file
  of_view file there =
      let found = in_any
      (λ (h : ListedFile). (content_key h.entry ≡ content_key file.entry) × (h.bytes ≡ file.bytes))
      (program_files_of old.store)
      (all_in
      (λ (f : ListedFile). Any
      (λ (h : ListedFile). (content_key h.entry ≡ content_key f.entry) × (h.bytes ≡ f.bytes))
      (program_files_of old.store)) files file held.bytes there) in
      record { kept = found.0; there = found.1; content = found.2.0; bytes = found.2.1 }

  files_whole : (file : ListedFile) → In file files → IsWhole file
  files_whole file there =
      let of = of_view file there in
      subst (λ (k : ContentKey). Matches k.list k.size file.bytes) of.content
      (subst (λ (b : List ℕ). Matches of.kept.entry.list of.kept.entry.size b) of.bytes
      (kept_whole of.kept of.there))

  -- so it is like each file that is held
  files_like : (f g : ListedFile) → In f files → In g (program_files_held old) → AreAlike f g
  files_like f g there other = λ same. (
      let of = of_view f there in
      sym of.bytes
      ∙ each_alike (program_files_held old) sound.shared of.kept g
      (in_left (program_files_of old.store) (program_files_in old.jobs) of.kept of.there) other
      (of.content ∙ same))

  files_both : (f g : ListedFile) → In f files → In g files → AreAlike f g
  files_both f g there other = λ same. (
      let of = of_view f there in
      let also = of_view g other in
      sym of.bytes
      ∙ each_alike (program_files_held old) sound.shared of.kept also.kept
      (in_left (program_files_of old.store) (program_files_in old.jobs) of.kept of.there)
      (in_left (program_files_of old.store) (program_files_in old.jobs) also.kept also.there)
      (of.content ∙ same ∙ sym also.content)
      ∙ also.bytes)

  -- ---- the job

  module _ (url base : Target) (d : Deployment) (has_url : IsTarget url) (has_base : IsTarget base)
      (has_d : IsDeployment d) (key : a.identity.key ≡ d.app.key)
      (version : a.identity.version ≡ d.app.version) where
    abbrev job : Job
    job = new_job url base d a files old

    coming : (e : FileEntry) → In e (wanted_entries a) → IsComing job e
    coming e there = by (coming_by e (wanted_is a e there).0 (wanted_is a e there).1)
      where
        by : In e (left ++ had)
            ⊎ ((is_required e ≡ true)
            × Any (λ (o : FileEntry). (is_required o ≡ true) × (content_key o ≡ content_key e)) left)
            → IsComing job e
        by (inl known) = inl (contains_in (left ++ had) e known)
        by (inr content) = inr content

    only : (e : FileEntry) → In e (left ++ had) → In e (wanted_entries a)
    only e there = by (in_either left had e there)
      where
        by : In e left ⊎ In e had → In e (wanted_entries a)
        by (inl wanted) = let found = left_is e wanted in is_wanted a e found.0 found.1
        by (inr have) =
            let found = had_is e have in
            is_wanted a e found.2 (or_left (is_required e) e.local found.0)

    pub job_sound : IsSoundJob job
    job_sound = record {
      url = has_url;
      base = has_base;
      deployment = has_d;
      application = is;
      key = key;
      version = version;
      each = in_all (IsComing job) (wanted_entries a) coming;
      only = in_all (Contains (wanted_entries a)) (left ++ had)
          (λ e there. contains_in (wanted_entries a) e (only e there));
      once = once;
      whole = in_all IsWhole files files_whole;
    }

    left_other : (e : FileEntry) → In e (filter is_required left) → (file : ListedFile)
        → In file (program_files_in (job ∷ [])) → HaveOtherContents e file.entry
    left_other e there file of same =
        by (in_either (filter (λ (f : ListedFile). is_required f.entry) files) [] file of)
      where
        by : In file (filter (λ (f : ListedFile). is_required f.entry) files) ⊎ In file [] → ⊥
        by (inr none) = absurd none
        by (inl has) =
            let kept = had_is file.entry (in_map (λ (f : ListedFile). f.entry) files file
            (filter_in (λ (f : ListedFile). is_required f.entry) files file has).1) in
            let content = passes_in (same_content file.entry) (standing_files bares) kept.1 in
            let own = filter_in is_required left e there in
            absurd (false≢true (sym (left_new e own.1 own.0)
            ∙ in_passes (same_content e) (standing_files bares) content.0 content.1
            (is_same e content.0 (same ∙ same_is file.entry content.0 content.2))))

    pub job_settled : IsSettled job
    job_settled = record {
      once = wants.once;
      new = in_all
          (λ (e : FileEntry).
          All (λ (f : ListedFile). HaveOtherContents e f.entry) (program_files_in (job ∷ [])))
          (filter is_required left)
          (λ e there. in_all (λ (f : ListedFile). HaveOtherContents e f.entry)
          (program_files_in (job ∷ [])) (left_other e there));
    }

-- ---- the session with it

module _ (old : Session) (was : SoundSessionWithJobs old) (url base : Target) (d : Deployment)
    (a : Application) (files : List ListedFile) (has_url : IsTarget url) (has_base : IsTarget base)
    (has_d : IsDeployment d) (has_a : IsApplication a) (key : a.identity.key ≡ d.app.key)
    (version : a.identity.version ≡ d.app.version) (held : AreHeld old.store a files)
    (place : length old.jobs < JOB_LIMIT) (number : old.next_job < NUMBER_LIMIT)
    (fits : begin_need (shape_of old) a ≤ free_blocks (shape_of old)) where
  abbrev new_one : Job
  new_one = new_job url base d a files old

  abbrev jobs : List Job
  jobs = old.jobs ++ new_job url base d a files old ∷ []

  its : IsSoundJob new_one
  its =
      job_sound old was.sound a has_a files held url base d has_url has_base has_d key version

  its_settled : IsSettled new_one
  its_settled =
      job_settled old was.sound a has_a files held url base d has_url has_base has_d key version

  -- a program file was held, or is of the new job
  held_or_new : (file : ListedFile)
      → In file (program_files_of old.store ++ program_files_in jobs)
      → In file (program_files_held old) ⊎ In file files
  held_or_new file there =
      by (in_either (program_files_of old.store) (program_files_in jobs) file there)
    where
      last : (j : Job) → In j old.jobs ⊎ In j (new_one ∷ [])
          → (is_required file.entry ≡ true) × In file j.files
          → In file (program_files_held old) ⊎ In file files
      last j (inl known) has =
          inl (in_right (program_files_of old.store) (program_files_in old.jobs) file
          (in_flat_map (λ (x : Job). filter (λ (f : ListedFile). is_required f.entry) x.files)
          old.jobs j file known
          (in_filter (λ (f : ListedFile). is_required f.entry) j.files file has.0 has.1)))
      last j (inr (inl is)) has =
          inr (subst (λ (x : Job). In file x.files) (sym is) has.1)
      last j (inr (inr none)) has = absurd none

      by : In file (program_files_of old.store) ⊎ In file (program_files_in jobs)
          → In file (program_files_held old) ⊎ In file files
      by (inl stands) =
          inl (in_left (program_files_of old.store) (program_files_in old.jobs) file stands)
      by (inr has) =
          let found = flat_map_in
          (λ (x : Job). filter (λ (f : ListedFile). is_required f.entry) x.files) jobs file has in
          last found.0 (in_either old.jobs (new_one ∷ []) found.0 found.1)
          (filter_in (λ (f : ListedFile). is_required f.entry) found.0.files file found.2)

  alike : (f g : ListedFile) → In f (program_files_held old) ⊎ In f files
      → In g (program_files_held old) ⊎ In g files → AreAlike f g
  alike f g (inl x) (inl y) = each_alike (program_files_held old) was.sound.shared f g x y
  alike f g (inl x) (inr y) = λ same.
      sym (files_like old was.sound a has_a files held g f y x (sym same))
  alike f g (inr x) (inl y) = files_like old was.sound a has_a files held f g x y
  alike f g (inr x) (inr y) = files_both old was.sound a has_a files held f g x y

  pub opened_sound : SoundSessionWithJobs (with_new_job (new_job url base d a files old) old)
  opened_sound = record {
    sound = record {
      store = was.sound.store;
      job_numbers = subst (AreNumbers (old.next_job + 1))
          (sym (map-append (λ (j : Job). j.number) old.jobs (new_one ∷ [])))
          (push_numbers old.next_job (map (λ (j : Job). j.number) old.jobs) was.sound.job_numbers
          number);
      few_jobs = omega (arith, place, length-append old.jobs (new_one ∷ []));
      jobs = All-push IsSoundJob old.jobs new_one was.sound.jobs its;
      shared = alike_each (program_files_of old.store ++ program_files_in jobs)
          (λ f g x y. alike f g (held_or_new f x) (held_or_new g y));
      room = subst
          (λ (apps : List Application). blocks_with (map bare_view old.store.views) apps
          ≤ old.store.room.blocks)
          (sym (map-append (λ (j : Job). j.application) old.jobs (new_one ∷ [])))
          (let more = blocks_more (shape_of old) a in
          let room = was.sound.room in omega (arith, more, fits, room));
    };
    settled = All-push IsSettled old.jobs new_one was.settled its_settled;
  }

-- ---- a begin that is refused nowhere

module _ (url : List ℕ) (heard : List (List ℕ)) (old : Session) (reply : SessionReply)
    (new : Session) (was : SoundSessionWithJobs old)
    (passes : PassesAll (begin_refusals url heard (job_shape_of old)))
    (done : BeginEffect url heard old reply new) where
  abbrev d : Deployment
  d = done.deployment

  abbrev a : Application
  a = done.application

  abbrev shape : Shape
  shape = shape_of old

  of_release : {P : Deployment → Application → Type 0} → P d a → OfRelease heard P
  of_release {P} holds =
      let told = done.told in
      let second = told.4 in (
        told.0,
        told.1,
        told.2,
        told.3,
        (
          second.0,
          second.1,
          second.2,
          second.3,
          subst (λ (x : Deployment). P x second.1) (sym second.4.0)
              (subst (P d) (sym second.4.1) holds),
        ),
      )

  held_deployment : IsDeployment d
  held_deployment =
      let told = done.told in
      subst IsDeployment told.4.4.0 (deployment_read told.0 told.1 told.3)

  held_application : IsApplication a
  held_application =
      let second = done.told.4 in
      subst IsApplication second.4.1 (application_read second.0 second.1 second.3)

  -- ---- what was passed

  has_place : length old.jobs < JOB_LIMIT
  has_place =
      let less = less_than (length (map bare_job old.jobs)) JOB_LIMIT passes.0 in
      omega (arith, less, length-map old.jobs bare_job)

  has_number : old.next_job < NUMBER_LIMIT
  has_number =
      let limit = was.sound.job_numbers.limit in
      less_than old.next_job NUMBER_LIMIT (λ le. passes.1.0 (omega (arith, limit, le)))

  one_key : a.identity.key ≡ d.app.key
  one_key =
      same_key a.identity.key d.app.key (λ differ.
      passes.1.1.1.1.1.1.1.1.1.1.1.1.1.1.1.0 (IdentityDiffers d.app.key a.identity.key) (
        of_release {P = λ x y. RefusesIdentity x y (IdentityDiffers d.app.key a.identity.key)}
            (record { listed_is = refl; found_is = refl; other = λ same. differ (sym same) }),
        λ e. cc,
      ))

  one_version : a.identity.version ≡ d.app.version
  one_version =
      same_version a.identity.version d.app.version (λ differ.
      passes.1.1.1.1.1.1.1.1.1.1.1.1.1.1.1.0 (VersionDiffers d.app.version a.identity.version) (
        of_release {P = λ x y. RefusesIdentity x y (VersionDiffers d.app.version a.identity.version)}
            (record {
              key = one_key;
              listed_is = refl;
              found_is = refl;
              other = λ same. differ (sym same);
            }),
        λ e. cc,
      ))

  has_room : begin_need shape a ≤ free_blocks shape
  has_room =
      not_less (free_blocks shape) (begin_need shape a) (λ less.
      passes.1.1.1.1.1.1.1.1.1.1.1.1.1.1.1.1.1.1.0 (begin_need shape a)
      (of_release
      {P = λ x y. (begin_need shape a ≡ begin_need shape y) × (free_blocks shape < begin_need shape a)}
      (refl, less)))

  -- ---- what it leads to

  pub begun_sound : SoundSessionWithJobs new
  begun_sound =
      subst SoundSessionWithJobs (sym done.begun.is)
      (opened_sound old was done.target done.base d a done.files
      (text_is_held url done.target done.read)
      (codebase_is_held done.target d.codebase done.base done.joined) held_deployment
      held_application one_key one_version done.begun.held has_place has_number has_room)
