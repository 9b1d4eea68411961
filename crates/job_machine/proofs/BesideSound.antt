-- An install and a group keep a session sound whose jobs are open.
use Rattle.std.proofs.Common.{◌≡◌, ◌∙◌, ◌⊎◌, ◌++◌, ◌<◌, ◌≤◌, inl, inr, refl, sym, ap, subst, ℕ, Bool, true, false, cond, eqb, not, List, map, All, Option, Some, append_assoc, arith}
use Rattle.std.specs.Prelude.{filter, option_map, sum_by}
use Rattle.small_types.specs.declared.limits.TheConstants.{NUMBER_LIMIT}
use Rattle.manifests.specs.declared.facts.Application.{Application}
use Rattle.manifests.specs.declared.facts.Deployment.{Deployment}
use Rattle.manifests.specs.declared.facts.FileEntry.{FileEntry}
use Rattle.machine.specs.declared.command.Command.{Command}
use Rattle.machine.specs.declared.command.Command.TheVariants.{Install, Group}
use Rattle.machine.specs.declared.reply.Reply.{Reply}
use Rattle.machine.specs.Blocks.{blocks_of, blocks_with, distinct, free_blocks, required_files, standing_files}
use Rattle.machine.specs.Current.{view_at}
use Rattle.machine.specs.Grouped.{Grouped, StandAmong, grouped, with_group, with_view_at}
use Rattle.machine.specs.Groups.{group_files, group_stands, is_in}
use Rattle.machine.specs.Installed.{with_view}
use Rattle.machine.specs.Leases.{leased_bare}
use Rattle.machine.specs.Rows.{PassesAll}
use Rattle.machine.specs.Shape.{BareData, BareView, Shape, bare_view, shape_of}
use Rattle.machine.specs.Sound.{ShareBytes, Sound, program_files_of}
use Rattle.machine.specs.SoundSession.{SoundSession, program_files_in}
use Rattle.machine.specs.Store.{Session, Store}
use Rattle.machine.specs.Valid.{Ordered}
use Rattle.machine.specs.Views.{ListedFile, View, content_key, is_required, standing_entries}
use Rattle.machine.specs.Words.{IsCommand}
use Rattle.machine.proofs.EachRow.{facts}
use Rattle.machine.proofs.GroupStands.{leased_number}
use Rattle.machine.proofs.GrownViews.{blocks_among, standing_more}
use Rattle.machine.proofs.Leased.{leased_shape, view_in}
use Rattle.machine.proofs.ChangedLists.{flat_map_in}
use Rattle.machine.proofs.Members.{In, all_in, in_either, in_filter, in_flat_map, in_left, in_map, in_right, map_in}
use Rattle.machine.proofs.OwnContents.{blocks_within}
use Rattle.machine.proofs.OneView.{only_one, same_bare_lists}
use Rattle.machine.proofs.Shared.{AreAlike, alike_each, each_alike}
use Rattle.job_machine.specs.FreeBytes.{Agree, program_files_held}
use Rattle.job_machine.specs.GroupBeside.{ComesBeside, GroupsBeside}
use Rattle.job_machine.specs.InstallBeside.{InstallsBeside}
use Rattle.job_machine.specs.Needs.{counted_files, group_need, install_need}
use Rattle.job_machine.specs.Sessions.{effect_beside, refusals_beside}
use Rattle.job_machine.specs.Settled.{SoundSessionWithJobs}
use Rattle.job_machine.proofs.Alone.{alone, effect_alone}
use Rattle.job_machine.proofs.NewViews.{data_room, files_after, standing_after}
use Rattle.job_machine.proofs.OneKey.{not_less}
use Rattle.job_machine.proofs.PassesAlone.{passes_alone}
use Rattle.job_machine.proofs.Rooms.{blocks_are, data_of_views}
use Rattle.job_machine.proofs.SoundParts.{with_store}

-- ---- the store

-- a line that is not refused keeps the store sound
pub store_sound : (now : ℕ) (heard : List (List ℕ)) (old : Session) (command : Command)
    (reply : Reply) (new : Session) → IsCommand command → now ≤ NUMBER_LIMIT
    → PassesAll (refusals_beside now heard (shape_of old) command)
    → effect_beside now heard command old reply new → SoundSession old → Sound new.store
store_sound now heard old command reply new is few passes done sound =
    (facts now heard command).sound (alone old) reply (alone new) is few
    (passes_alone old sound.room heard now command passes)
    (effect_alone now heard old reply new command done) sound.store

-- ---- files that agree with those of jobs

-- the files of views share their bytes, those that are held do, and each new one agrees with those
-- of jobs
module _ (old : Session) (sound : SoundSession old) (store : Store) (files : List ListedFile)
    (shared : ShareBytes (program_files_of old.store ++ files))
    (agree : All (Agree (program_files_in old.jobs)) files)
    (among : (file : ListedFile) → In file (program_files_of store)
    → In file (program_files_of old.store ++ files)) where
  abbrev Kind : ListedFile → Type 0
  Kind file =
      In file (program_files_of old.store ++ files) ⊎ In file (program_files_in old.jobs)

  kind_of : (file : ListedFile) → In file (program_files_of store ++ program_files_in old.jobs)
      → Kind file
  kind_of file there = by (in_either (program_files_of store) (program_files_in old.jobs) file there)
    where
      by : In file (program_files_of store) ⊎ In file (program_files_in old.jobs) → Kind file
      by (inl stands) = inl (among file stands)
      by (inr has) = inr has

  crossed : (f g : ListedFile) → In f (program_files_of old.store ++ files)
      → In g (program_files_in old.jobs) → AreAlike f g
  crossed f g first second = by (in_either (program_files_of old.store) files f first)
    where
      by : In f (program_files_of old.store) ⊎ In f files → AreAlike f g
      by (inl stands) =
          each_alike (program_files_held old) sound.shared f g
          (in_left (program_files_of old.store) (program_files_in old.jobs) f stands)
          (in_right (program_files_of old.store) (program_files_in old.jobs) g second)
      by (inr came) = λ same.
          sym (all_in
          (λ (other : ListedFile). content_key other.entry ≡ content_key f.entry
          → other.bytes ≡ f.bytes) (program_files_in old.jobs) g
          (all_in (Agree (program_files_in old.jobs)) files f agree came) second (sym same))

  alike : (f g : ListedFile) → Kind f → Kind g → AreAlike f g
  alike f g (inl x) (inl y) = each_alike (program_files_of old.store ++ files) shared f g x y
  alike f g (inl x) (inr y) = crossed f g x y
  alike f g (inr x) (inl y) = λ same. sym (crossed g f y x (sym same))
  alike f g (inr x) (inr y) =
      each_alike (program_files_held old) sound.shared f g
      (in_right (program_files_of old.store) (program_files_in old.jobs) f x)
      (in_right (program_files_of old.store) (program_files_in old.jobs) g y)

  pub shared_beside : ShareBytes (program_files_of store ++ program_files_in old.jobs)
  shared_beside =
      alike_each (program_files_of store ++ program_files_in old.jobs)
      (λ f g x y. alike f g (kind_of f x) (kind_of g y))

-- ---- an install

module _ (now : ℕ) (heard : List (List ℕ)) (old : Session) (url : List ℕ) (reply : Reply)
    (new : Session) (was : SoundSessionWithJobs old) (is : IsCommand (Install url))
    (few : now ≤ NUMBER_LIMIT)
    (passes : PassesAll (refusals_beside now heard (shape_of old) (Install url)))
    (done : InstallsBeside url heard now old reply new) where
  abbrev d : Deployment
  d = done.effect.deployment

  abbrev a : Application
  a = done.effect.application

  abbrev shape : Shape
  shape = shape_of old

  abbrev bares : List BareView
  bares = map bare_view old.store.views

  abbrev later : Store
  later =
      with_view done.effect.installed.provider done.effect.base d a done.effect.files
      done.effect.installed.data_files now old.store

  left_is : new ≡ record old { store = later }
  left_is = done.effect.is ∙ ap (λ (s : Store). record old { store = s }) done.effect.installed.is

  has_room : install_need shape d a ≤ free_blocks shape
  has_room =
      let told = done.effect.told in
      let second = told.4 in
      not_less (free_blocks shape) (install_need shape d a) (λ less.
      passes.1.1.1.1.1.1.1.1.1.1.1.1.1.1.1.1.1.0 (install_need shape d a) (
        told.0,
        told.1,
        told.2,
        told.3,
        (
          second.0,
          second.1,
          second.2,
          second.3,
          subst
              (λ (x : Deployment). (install_need shape d a ≡ install_need shape x second.1)
              × (free_blocks shape < install_need shape d a)) (sym second.4.0)
              (subst
              (λ (x : Application). (install_need shape d a ≡ install_need shape d x)
              × (free_blocks shape < install_need shape d a)) (sym second.4.1) (refl, less)),
        ),
      ))

  later_room : blocks_with (map bare_view later.views) shape.jobs ≤ old.store.room.blocks
  later_room =
      let made = done.effect in
      let within = blocks_within (counted_files shape) (filter is_required a.files) in
      let stands = ap
      (λ (es : List FileEntry). sum_by (λ (entry : FileEntry). blocks_of entry.size)
      (distinct (required_files shape.jobs ++ es)))
      (standing_after made.installed.provider made.base d a made.files made.originals
      made.installed.data_files now old.store made.fetched made.installed.migrated) in
      let joined = ap
      (λ (es : List FileEntry). sum_by (λ (entry : FileEntry). blocks_of entry.size) (distinct es))
      (append_assoc (required_files shape.jobs) (standing_files bares) (filter is_required a.files)) in
      let copies = data_room made.installed.provider made.base d a made.files made.originals
      made.installed.data_files now old.store made.fetched made.installed.migrated in
      let need = has_room in
      let room = was.sound.room in
      omega (
        arith,
        within,
        stands,
        joined,
        copies,
        need,
        room,
        blocks_are (map bare_view later.views) shape.jobs,
        blocks_are bares shape.jobs,
      )

  later_among : (file : ListedFile) → In file (program_files_of later)
      → In file (program_files_of old.store ++ done.effect.files)
  later_among file there =
      subst (λ (fs : List ListedFile). In file fs)
      (files_after done.effect.installed.provider done.effect.base d a done.effect.files
      done.effect.originals done.effect.installed.data_files now old.store done.effect.fetched
      done.effect.installed.migrated) there

  pub install_sound : SoundSessionWithJobs new
  install_sound =
      subst SoundSessionWithJobs (sym left_is)
      (with_store old later
      (subst (λ (s : Session). Sound s.store) left_is
      (store_sound now heard old (Install url) reply new is few passes done was.sound))
      (shared_beside old was.sound later done.effect.files done.effect.fetched.shared done.agree
      later_among)
      later_room was)

-- ---- a group

module _ (group : List ℕ) (old : Store) (was : Ordered old) (view : View)
    (found : view_at view.number old.views ≡ Some view) (files program_files : List ListedFile)
    (stand : StandAmong group view files program_files) where
  abbrev grows : View → View
  grows v = with_group group program_files v

  abbrev change : View → View
  change v = cond (eqb v.number view.number) (with_group group program_files v) v

  abbrev views : List View
  views = with_view_at view.number (with_group group program_files) old.views

  -- what stands stood before, or is of the group
  pub stand_before : (entry : FileEntry) → In entry (standing_files (map bare_view views))
      → In entry (standing_files (map bare_view old.views))
      ⊎ In entry (group_files group view.application)
  stand_before entry there =
      let of = flat_map_in (λ (v : BareView). standing_entries v.groups v.application)
      (map bare_view views) entry there in
      let bare = map_in bare_view views of.0 of.1 in
      let from = map_in change old.views bare.0 bare.1 in
      by from.0 from.1 (eqb from.0.number view.number) refl
      (subst (λ (v : BareView). In entry (standing_entries v.groups v.application))
      (sym (ap bare_view from.2 ∙ bare.2)) of.2)
    where
      before : (v : View) → In v old.views → In entry (standing_entries v.groups v.application)
          → In entry (standing_files (map bare_view old.views))
      before v known stood =
          in_flat_map (λ (w : BareView). standing_entries w.groups w.application)
          (map bare_view old.views) (bare_view v) entry (in_map bare_view old.views v known) stood

      either : (v : View) → In v old.views → v ≡ view
          → In entry (standing_entries v.groups v.application)
          ⊎ In entry (group_files group v.application)
          → In entry (standing_files (map bare_view old.views))
          ⊎ In entry (group_files group view.application)
      either v known same (inl stood) = inl (before v known stood)
      either v known same (inr came) =
          inr (subst (λ (w : View). In entry (group_files group w.application)) same came)

      by : (v : View) → In v old.views → (b : Bool) → eqb v.number view.number ≡ b
          → In entry (standing_entries (cond b (grows v) v).groups (cond b (grows v) v).application)
          → In entry (standing_files (map bare_view old.views))
          ⊎ In entry (group_files group view.application)
      by v known true same own =
          either v known (only_one view.number old was view v found known same)
          (standing_more v.groups group v.application entry own)
      by v known false differ own = inl (before v known own)

  came_or_stood : (file : ListedFile) → In file program_files
      → In file files ⊎ In file view.program_files
  came_or_stood file there = by (is_in group file.entry) refl
    where
      by : (b : Bool) → is_in group file.entry ≡ b → In file files ⊎ In file view.program_files
      by true is =
          inl (subst (λ (fs : List ListedFile). In file fs) stand.came
          (in_filter (λ (f : ListedFile). is_in group f.entry) program_files file is there))
      by false is =
          inr (subst (λ (fs : List ListedFile). In file fs) stand.stayed
          (in_filter (λ (f : ListedFile). not (is_in group f.entry)) program_files file
          (ap not is) there))

  -- a program file stood before, or came
  pub among_all : (file : ListedFile)
      → In file (program_files_of (grouped view.number group program_files old))
      → In file (program_files_of old ++ files)
  among_all file there =
      let of = flat_map_in (λ (v : View). v.program_files) views file there in
      let from = map_in change old.views of.0 of.1 in
      by from.0 from.1 (eqb from.0.number view.number) refl
      (subst (λ (v : View). In file v.program_files) (sym from.2) of.2)
    where
      before : (v : View) → In v old.views → In file v.program_files
          → In file (program_files_of old ++ files)
      before v known own =
          in_left (program_files_of old) files file
          (in_flat_map (λ (w : View). w.program_files) old.views v file known own)

      either : In file files ⊎ In file view.program_files
          → In file (program_files_of old ++ files)
      either (inl came) = in_right (program_files_of old) files file came
      either (inr stood) = before view (view_in view.number old.views view found).0 stood

      by : (v : View) → In v old.views → (b : Bool) → eqb v.number view.number ≡ b
          → In file (cond b (grows v) v).program_files → In file (program_files_of old ++ files)
      by v known true same own = either (came_or_stood file own)
      by v known false differ own = before v known own

  -- the data files stay
  pub same_data : data_of_views (map bare_view views) ≡ data_of_views (map bare_view old.views)
  same_data =
      same_bare_lists view.number grows old (λ (v : BareView). v.data_files) (λ v. refl) old.views

module _ (now : ℕ) (heard : List (List ℕ)) (old : Session) (lease : ℕ) (group : List ℕ)
    (reply : Reply) (new : Session) (was : SoundSessionWithJobs old)
    (is : IsCommand (Group lease group)) (few : now ≤ NUMBER_LIMIT)
    (passes : PassesAll (refusals_beside now heard (shape_of old) (Group lease group)))
    (done : GroupsBeside lease group old reply new) where
  abbrev its_shape : Shape
  its_shape = shape_of old

  abbrev its_bares : List BareView
  its_bares = map bare_view old.store.views

  leased_too : leased_bare lease its_shape ≡ Some (bare_view done.view)
  leased_too =
      leased_shape lease old.store ∙ ap (λ (o : Option View). option_map bare_view o) done.leased

  has_group_room : group_stands group done.view.groups ≡ false
      → group_need its_shape group done.view.application ≤ free_blocks its_shape
  has_group_room absent =
      not_less (free_blocks its_shape) (group_need its_shape group done.view.application) (λ less.
      passes.1.1.1.0 (group_need its_shape group done.view.application)
      (bare_view done.view, leased_too, absent, (refl, less)))

  module _ (absent : group_stands group done.view.groups ≡ false)
      (grown : Grouped group done.view old.store done.store)
      (agree : All (Agree (program_files_in old.jobs)) grown.files) where
    found : view_at done.view.number old.store.views ≡ Some done.view
    found = leased_number lease old.store done.view done.leased

    ordered : Ordered old.store
    ordered = was.sound.store.valid.ordered

    abbrev grown_store : Store
    grown_store = grouped done.view.number group grown.program_files old.store

    grown_is : new ≡ record old { store = grown_store }
    grown_is = done.is ∙ ap (λ (s : Store). record old { store = s }) grown.is

    counted : (entry : FileEntry)
        → In entry (required_files its_shape.jobs ++ standing_files (map bare_view grown_store.views))
        → In entry (counted_files its_shape ++ group_files group done.view.application)
    counted entry there =
        by (in_either (required_files its_shape.jobs) (standing_files (map bare_view grown_store.views)) entry
        there)
      where
        first : In entry (counted_files its_shape)
            → In entry (counted_files its_shape ++ group_files group done.view.application)
        first own =
            in_left (counted_files its_shape) (group_files group done.view.application) entry own

        inner : In entry (standing_files its_bares) ⊎ In entry (group_files group done.view.application)
            → In entry (counted_files its_shape ++ group_files group done.view.application)
        inner (inl stood) =
            first (in_right (required_files its_shape.jobs) (standing_files its_bares) entry stood)
        inner (inr came) =
            in_right (counted_files its_shape) (group_files group done.view.application) entry came

        by : In entry (required_files its_shape.jobs)
            ⊎ In entry (standing_files (map bare_view grown_store.views))
            → In entry (counted_files its_shape ++ group_files group done.view.application)
        by (inl required) =
            first (in_left (required_files its_shape.jobs) (standing_files its_bares) entry required)
        by (inr stands) =
            inner (stand_before group old.store ordered done.view found grown.files grown.program_files
            grown.among entry stands)

    grown_room : blocks_with (map bare_view grown_store.views) its_shape.jobs ≤ old.store.room.blocks
    grown_room =
        let among = blocks_among
        (required_files its_shape.jobs ++ standing_files (map bare_view grown_store.views))
        (counted_files its_shape ++ group_files group done.view.application) counted in
        let within = blocks_within (counted_files its_shape) (group_files group done.view.application) in
        let stay = ap
        (λ (ds : List BareData). sum_by (λ (file : BareData). blocks_of file.length) ds)
        (same_data group old.store ordered done.view found grown.files grown.program_files grown.among) in
        let need = has_group_room absent in
        let room = was.sound.room in
        omega (
          arith,
          among,
          within,
          stay,
          need,
          room,
          blocks_are (map bare_view grown_store.views) its_shape.jobs,
          blocks_are its_bares its_shape.jobs,
        )

    grown_sound : SoundSessionWithJobs new
    grown_sound =
        subst SoundSessionWithJobs (sym grown_is)
        (with_store old grown_store
        (subst (λ (s : Session). Sound s.store) grown_is
        (store_sound now heard old (Group lease group) reply new is few passes done was.sound))
        (shared_beside old was.sound grown_store grown.files grown.fetched.shared agree
        (among_all group old.store ordered done.view found grown.files grown.program_files grown.among))
        grown_room was)

  pub group_sound : SoundSessionWithJobs new
  group_sound = by done.comes
    where
      by : ComesBeside old.jobs group done.view old.store done.store → SoundSessionWithJobs new
      by (inl stands) =
          subst SoundSessionWithJobs
          (sym (done.is ∙ ap (λ (s : Store). record old { store = s }) stands.1)) was
      by (inr comes) = grown_sound comes.0 comes.1 comes.2
