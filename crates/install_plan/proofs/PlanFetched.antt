-- All that is ready once the files of a plan came into drafts.
use Rattle.std.proofs.Common.{◌≡◌, ◌∙◌, ◌≤◌, ◌++◌, refl, sym, ap, subst, ℕ, Bool, true, false, cond, not, ◌&&◌, List, [], ◌∷◌, length, map, All, Contains, Option, Some, None, Result, bytes_eq, arith}
use Rattle.std.specs.Prelude.{find}
use Rattle.std.specs.List.{AllZip}
use Rattle.std.proofs.lemmas.List.{append-nil, length-append}
use Rattle.std.proofs.lemmas.List.Elements.{All-nil, Contains-append_right}
use Rattle.std.proofs.lemmas.Slice.Zip.{AllZip-long}
use Rattle.small_types.specs.Blocks.{KeepsOutside, ShareNone, blocks_start}
use Rattle.small_types.specs.declared.room.Room.{Room}
use Rattle.small_types.specs.declared.limits.TheConstants.{FILE_COUNT_LIMIT, NUMBER_LIMIT}
use Rattle.small_types.specs.declared.target.Target.{Target}
use Rattle.addresses.specs.declared.fault.UrlFault.{UrlFault}
use Rattle.addresses.specs.Join.{file_target_of}
use Rattle.identity.specs.declared.key.Key.{Key}
use Rattle.disks.specs.declared.disk.Disk.{Ghosts}
use Rattle.file_store.specs.Stores.{DraftHolds, draft_blocks, draft_size, free_of}
use Rattle.file_store.specs.declared.draft.Draft.{Draft}
use Rattle.file_store.specs.declared.store.FileStore.{FileStore}
use Rattle.file_store.proofs.Apart.{apart_other}
use Rattle.line_drafts.specs.Held.{AreContents, AreHeld}
use Rattle.line_drafts.specs.Works.{Works}
use Rattle.manifests.specs.declared.facts.FileEntry.{FileEntry}
use Rattle.machine.specs.declared.reply.Reply.{Reply}
use Rattle.machine.specs.declared.reply.Reply.TheVariants.{Memory}
use Rattle.machine.specs.Blocks.{standing_files}
use Rattle.machine.specs.Migrated.{deployed}
use Rattle.machine.specs.Sound.{Sound}
use Rattle.machine.specs.Store.{Session, Store}
use Rattle.machine.specs.Views.{is_required}
use Rattle.machine.specs.Wanted.{is_held, wanted, wanted_beside}
use Rattle.machine.proofs.Members.{In, all_in, in_contains}
use Rattle.store_state.specs.declared.change.Change.{Change}
use Rattle.store_state.specs.declared.change.Change.TheVariants.{Install}
use Rattle.store_state.specs.declared.view.Content.{Content}
use Rattle.store_state.specs.declared.view.LocalFile.{LocalFile}
use Rattle.store_state.specs.declared.view.View.{View}
use Rattle.store_state.specs.Change.{Fits}
use Rattle.store_state.specs.Contents.{IsMeasured}
use Rattle.store_state.specs.Kept.{AreTables}
use Rattle.store_state.specs.Laws.{InstallsShowTheView, ShapesAreShown}
use Rattle.store_state.specs.Locals.{local_named}
use Rattle.store_state.specs.Measured.{AreMeasured, IsMeasuredLocal}
use Rattle.store_state.specs.Rows.{current_row, row_locals}
use Rattle.store_state.specs.Shows.{SameFiles, Shows}
use Rattle.store_state.specs.Stored.{HasLocals, content_bytes, data_bytes}
use Rattle.store_state.specs.Tables.{Tables, bare_row, table_shape}
use Rattle.store_state.proofs.Images.{locals_stay}
use Rattle.table_files.specs.Held.{held_by, held_for_contents, held_for_locals, held_for_views}
use Rattle.table_weight.specs.Laws.{MigratedDataWeigh, WeighAsInstalled}
use Rattle.links.specs.Links.{LinksState}
use Rattle.fetcher.proofs.Sequence.{kept_then}
use Rattle.install_plan.specs.declared.plan.InstallPlan.{InstallPlan}
use Rattle.install_plan.specs.Blocks.{UsesBlocks}
use Rattle.install_plan.specs.Brought.{AreContentsFor}
use Rattle.install_plan.specs.Changes.{AreMade, HasContents, HaveMade, change_of_plan, contents_for, installed_of, length_in, listed_at, local_part, old_locals, plan_contents, plan_originals, size_of, view_of}
use Rattle.install_plan.specs.FetchedFiles.{ArePlaces, HasFetched, IsFileAt}
use Rattle.install_plan.specs.InstallDrafts.{HasDrafted, HasFiles, drafted_contents, drafted_locals}
use Rattle.install_plan.specs.LeadsIn.{HasNew, new_bytes}
use Rattle.install_plan.specs.Parts.{IsThere, copied_locals}
use Rattle.install_plan.specs.Plans.{IsPlan, IsPlanned, IsRefused, targets_of}
use Rattle.install_plan.specs.Ready.{IsReady, IsStep}
use Rattle.install_plan.proofs.WantedPlaces.{are_places, contents_in, count_for}
use Rattle.install_plan.proofs.Copies.{blocks_among, bytes_stay}
use Rattle.install_plan.proofs.ProgramFiles.{brought_last}
use Rattle.install_plan.proofs.DraftedData.{HoldsBoth, IsCounted, IsSameIn, all_contents, all_locals, all_programs, both_front, both_held, copies_are, copies_counted, copies_same, draft_counted, has_locals, held_joined, same_in}
use Rattle.install_plan.proofs.DraftedData.{has_contents as new_contents_have}
use Rattle.install_plan.proofs.Fetched.{ArePartsOf, local_wanted, parts_are}
use Rattle.install_plan.proofs.Fetches.{all_from}
use Rattle.install_plan.proofs.InstallFiles.{copied_within}
use Rattle.install_plan.proofs.Light.{changed_light}
use Rattle.install_plan.proofs.MadeData.{deployed_named, have_made, made_bares, made_each, made_long, size_named}
use Rattle.install_plan.proofs.Outcome.{held_application, led, led_data, led_migrated, plan_effect, plan_fits, plan_passes, plan_shows}
use Rattle.install_plan.proofs.Planned.{IsInOrder, current_in, in_order}
use Rattle.install_plan.proofs.SameImages.{shows_there, tables_stay, views_among}
use Rattle.install_plan.proofs.PlanAsks.{no_memory, served_all}
use Rattle.install_plan.proofs.Sources.{as_many, taken_there}
use Rattle.install_plan.proofs.Sources.{drafted_contents as drafted_contents_are}

-- no more files are wanted than there are
few_wanted : (es held : List FileEntry) → length (wanted_beside held es) ≤ length es
few_wanted [] held = omega arith
few_wanted (e ∷ es) held = by e.local (is_required e && not (is_held held e)) (few_wanted es held) (few_wanted es (e ∷ held))
  where
    by : (b t : Bool) → length (wanted_beside held es) ≤ length es → length (wanted_beside (e ∷ held) es) ≤ length es → length (cond b (e ∷ wanted_beside held es) (cond t (e ∷ wanted_beside (e ∷ held) es) (wanted_beside held es))) ≤ length (e ∷ es)
    by true t same more = omega arith
    by false true same more = omega arith
    by false false same more = omega arith

-- the places of a plan are those of files
pub plan_places : (room : Room) (tables : Tables) (url : List ℕ) (texts : List (List ℕ)) (plan : InstallPlan) → IsPlan (table_shape room tables) url texts plan → ArePlaces plan.application.files plan.wanted
plan_places room tables url texts plan is = are_places plan.application.files plan.wanted (wanted (map bare_row tables.views) plan.application) (held_application room tables url texts plan is).facts.each is.places

-- ---- what stands in the tables

row_in : (tables : Tables) (key : Key) (row : Option View) → current_row key tables ≡ row → (P : View → Type 0) → All P tables.views → (Q : List LocalFile → Type 0) → Q [] → ((view : View) → In view tables.views → P view → Q view.locals) → Q (row_locals row)
row_in tables key None is P all Q none some = none
row_in tables key (Some view) is P all Q none some = let there = current_in key tables view is in some view there (all_in P tables.views view all there)

pub old_measured : (tables : Tables) (plan : InstallPlan) → AreMeasured tables → All IsMeasuredLocal (old_locals tables plan)
old_measured tables plan measured =
    row_in tables plan.deployment.identity.key (current_row plan.deployment.identity.key tables) refl (λ (v : View). All IsMeasuredLocal v.locals) measured.locals (All IsMeasuredLocal) (All-nil IsMeasuredLocal) (λ view there is. is)

-- ---- what comes of drafts

module _ {D : Type 0} (on : Ghosts D) (room : Room) (tables : Tables) (url : List ℕ) (texts : List (List ℕ)) (a b c : LinksState) (plan : InstallPlan) (planned : IsPlanned (table_shape room tables) url texts a b plan)
    (files mid : FileStore) (drafts : List Draft) (disk done : D) (locals : List LocalFile) (programs : List Content) (taken unused : List ℕ) (reply : Reply)
    (so : HasFiles on tables plan b c files drafts disk done locals programs taken unused reply) (most : ℕ) (fault : Type 0) (works : Works on [] drafts files mid disk done most fault)
    (blocks : UsesBlocks files room (held_by tables)) (measured : AreMeasured tables) (are : AreTables tables) (there : List ℕ) (there_is : there ≡ on.seen done) where
  abbrev start : ℕ
  start = blocks_start room.half

  abbrev here : List ℕ
  here = on.seen disk

  abbrev entries : List FileEntry
  entries = wanted (map bare_row tables.views) plan.application

  abbrev places : List (Option FileEntry)
  places = listed_at plan.application.files plan.wanted

  abbrev contents : List Content
  contents = drafted_contents plan drafts

  abbrev fetched : List LocalFile
  fetched = drafted_locals plan drafts

  abbrev old : List LocalFile
  old = old_locals tables plan

  abbrev has : HasDrafted on plan.application.files plan.wanted old so.plans b c files drafts disk done
  has = so.has

  abbrev copied : List LocalFile
  copied = copied_locals old so.plans

  -- ---- what was fetched

  from_first : AllZip (IsFileAt a c plan.application.files) plan.wanted has.gave
  from_first = all_from a b c planned.hearing.kept.kept has.got.kept.kept plan.application.files plan.wanted has.gave has.got.each

  held_there : AreHeld start has.fetched has.gave there
  held_there = subst (AreHeld start has.fetched has.gave) (sym there_is) (subst (λ (n : ℕ). AreHeld n has.fetched has.gave (on.seen done)) blocks.base has.held)

  split_is : contents_for places (has.fetched ++ has.copies) ≡ contents
  split_is = ap (contents_for places) (sym has.are)

  contents_are : AreContentsFor room there a c entries (targets_of plan) contents
  contents_are =
      subst (AreContentsFor room there a c entries (targets_of plan)) split_is
      (contents_in plan.application.files room there a c plan.wanted entries has.gave has.fetched has.copies planned.is.places from_first held_there)

  long_fetched : length plan.wanted ≤ length drafts
  long_fetched =
      omega (
        arith,
        ap length has.are,
        length-append has.fetched has.copies,
        AllZip-long (λ (draft : Draft) (content : List ℕ). draft_size draft ≡ length content) has.fetched has.gave has.sized,
        AllZip-long (IsFileAt b c plan.application.files) plan.wanted has.gave has.got.each,
      )

  few_contents : length contents ≤ FILE_COUNT_LIMIT
  few_contents =
      let few = (held_application room tables url texts plan planned.is).facts.files.few in
      omega (arith, few, few_wanted plan.application.files (standing_files (map bare_row tables.views)), count_for room there a c entries (targets_of plan) contents contents_are)

  parts : ArePartsOf room there a c (λ (entry : FileEntry). file_target_of plan.base plan.deployment.mapped entry.name) (map bare_row tables.views) plan.application contents places
  parts = parts_are room there a c (λ (entry : FileEntry). file_target_of plan.base plan.deployment.mapped entry.name) (map bare_row tables.views) plan.application contents places (targets_of plan) planned.is.places contents_are planned.is.targets

  has_contents : HasContents tables plan contents
  has_contents = drafted_contents_are tables plan planned.is.places drafts long_fetched

  all_there : All (IsThere old fetched) so.plans
  all_there = taken_there tables plan contents has_contents so.plans so.are

  -- ---- the data files that are made

  sized : (name : List ℕ) → length_in (local_named name fetched) ≡ size_of (deployed plan.application.files name)
  sized name =
      let many : length entries ≤ length drafts = omega (arith, long_fetched, as_many tables plan contents has_contents, has_contents.each) in
      ap (λ (os : List (Option FileEntry)). length_in (local_named name (local_part os (contents_for os drafts)))) planned.is.places
      ∙ size_named name entries drafts many
      ∙ ap (λ (es : List FileEntry). size_of (find (λ (e : FileEntry). bytes_eq e.name name) es)) (local_wanted plan.application.files (standing_files (map bare_row tables.views)))
      ∙ ap size_of (deployed_named name plan.application.files)

  made : AreMade old plan.application.files so.plans locals
  made = subst (AreMade old plan.application.files so.plans) (sym so.made) (made_bares old fetched plan.application.files sized has.copies so.plans)

  -- ---- as many blocks as lengths need

  counted_contents : All IsMeasured contents
  counted_contents =
      subst (All IsMeasured) split_is
      (all_contents IsCounted (λ (draft : Draft) (bytes : List ℕ). draft_size draft ≡ length bytes) draft_counted plan.application.files a c plan.wanted entries has.gave has.fetched has.copies planned.is.places from_first has.sized)

  counted_locals : All IsMeasuredLocal locals
  counted_locals =
      subst (All IsMeasuredLocal) (sym so.made)
      (made_each IsCounted old fetched (all_locals IsCounted places contents counted_contents) has.copies so.plans all_there (copies_counted has.copies copied has.long))

  counted_programs : All IsMeasured programs
  counted_programs = subst (All IsMeasured) (sym so.contents) (all_programs IsCounted places contents counted_contents)

  -- ---- where the tables showed a store

  none_free : ShareNone (held_by tables) (free_of files)
  none_free block held free = apart_other (held_by tables) (free_of files) block blocks.used.apart held free

  keeps : KeepsOutside start (free_of files) here there
  keeps = subst (KeepsOutside start (free_of files) here) (sym there_is) (subst (λ (n : ℕ). KeepsOutside n (free_of files) here (on.seen done)) blocks.base works.only.reads)

  none_old : ShareNone (held_for_locals old) (free_of files)
  none_old =
      row_in tables plan.deployment.identity.key (current_row plan.deployment.identity.key tables) refl (λ (v : View). All IsMeasuredLocal v.locals) measured.locals (λ (ls : List LocalFile). ShareNone (held_for_locals ls) (free_of files))
      (λ block listed free. nothing block listed)
      (λ view at is block listed free. none_free block (Contains-append_right (held_for_contents tables.contents) (held_for_views tables.views) block (views_among tables.views view block at listed)) free)
    where
      nothing : (block : ℕ) → Contains {X = ℕ} [] block → ⊥
      nothing block listed = absurd (in_contains [] block listed)

  module _ (store : Store) (shows : Shows room tables here store) where
    same : SameFiles room tables here there
    same = tables_stay room tables store (free_of files) here there measured none_free keeps shows

    has_old : HasLocals room here old
    has_old =
        row_in tables plan.deployment.identity.key (current_row plan.deployment.identity.key tables) refl (λ (v : View). HasLocals room here v.locals) shows.measured (HasLocals room here)
        (All-nil (λ (f : LocalFile). length (data_bytes room here f) ≡ f.length)) (λ view at is. is)

    same_old : (file : LocalFile) → In file copied → data_bytes room there file ≡ data_bytes room here file
    same_old file at =
        let within = copied_within old so.plans file at in
        bytes_stay start file (free_of files) here there (all_in IsMeasuredLocal old file (old_measured tables plan measured) within)
        (all_in (λ (f : LocalFile). length (data_bytes room here f) ≡ f.length) old file has_old within) (λ block listed free. none_old block (blocks_among old file block within listed) free) keeps

    long_old : (file : LocalFile) → In file copied → length (data_bytes room here file) ≡ file.length
    long_old file at = all_in (λ (f : LocalFile). length (data_bytes room here f) ≡ f.length) old file has_old (copied_within old so.plans file at)

    has_there : HasLocals room there old
    has_there =
        let view_of_there = locals_stay room tables here there same shows.measured in
        row_in tables plan.deployment.identity.key (current_row plan.deployment.identity.key tables) refl (λ (v : View). HasLocals room there v.locals) view_of_there (HasLocals room there)
        (All-nil (λ (f : LocalFile). length (data_bytes room there f) ≡ f.length)) (λ view at is. is)

    module _ (told : on.tells done) where
      copies_there : AreHeld start has.copies (map (data_bytes room here) copied) there
      copies_there = subst (AreHeld start has.copies (map (data_bytes room here) copied)) (sym there_is)
          (subst (λ (n : ℕ). AreHeld n has.copies (map (data_bytes room here) copied) (on.seen done)) blocks.base (has.copied room told blocks.base none_old has_old))

      have : HaveMade room there old (plan_originals room there plan contents) so.plans locals
      have = subst (HaveMade room there old (plan_originals room there plan contents) so.plans) (sym so.made)
          (have_made room there old places contents has.copies so.plans all_there (copies_are room here there has.copies copied same_old long_old copies_there))

      -- an image that has what the drafts held has the new files
      pub has_new : (later : List ℕ) (now : ℕ) (change : Change) → change ≡ Install (view_of tables plan locals) programs plan.provider now
          → ((held : List (List ℕ)) → AreHeld start drafts held there → AreContents start (map draft_blocks drafts) held later)
          → HasNew room change (new_bytes room change there) later
      has_new later now change is each =
          let all_held : AreHeld start drafts (has.gave ++ map (data_bytes room here) copied) there =
          subst (λ (ds : List Draft). AreHeld start ds (has.gave ++ map (data_bytes room here) copied) there) (sym has.are)
          (held_joined start has.fetched has.copies has.gave (map (data_bytes room here) copied) there held_there copies_there) in
          let both : AllZip (HoldsBoth room there later) drafts (has.gave ++ map (data_bytes room here) copied) =
          both_held room there later drafts (has.gave ++ map (data_bytes room here) copied) all_held (each (has.gave ++ map (data_bytes room here) copied) all_held) in
          let long : length has.fetched ≡ length has.gave = sym (AllZip-long (λ (draft : Draft) (content : List ℕ). draft_size draft ≡ length content) has.fetched has.gave has.sized) in
          let parts_both = both_front (HoldsBoth room there later) has.fetched has.copies has.gave (map (data_bytes room here) copied) long
          (subst (λ (ds : List Draft). AllZip (HoldsBoth room there later) ds (has.gave ++ map (data_bytes room here) copied)) has.are both) in
          let same_contents : All (λ (k : Content). IsSameIn room there later k.held k.size) contents =
          subst (All (λ (k : Content). IsSameIn room there later k.held k.size)) split_is
          (all_contents (IsSameIn room there later) (HoldsBoth room there later) (same_in room there later) plan.application.files a c plan.wanted entries has.gave has.fetched has.copies planned.is.places from_first parts_both.0) in
          let same_locals : All (λ (f : LocalFile). IsSameIn room there later f.held f.length) locals =
          subst (All (λ (f : LocalFile). IsSameIn room there later f.held f.length)) (sym so.made)
          (made_each (IsSameIn room there later) old fetched (all_locals (IsSameIn room there later) places contents same_contents) has.copies so.plans all_there
          (copies_same room there later (data_bytes room here) has.copies copied long_old parts_both.1)) in
          let same_programs : All (λ (k : Content). IsSameIn room there later k.held k.size) programs =
          subst (All (λ (k : Content). IsSameIn room there later k.held k.size)) (sym so.contents) (all_programs (IsSameIn room there later) places contents same_contents) in
          let new_programs = new_contents_have room there later programs same_programs in
          let new_data = has_locals room there later locals same_locals in
          subst (λ (x : Change). HasNew room x (new_bytes room x there) later) (sym is) (record {
            measured = (new_programs.0, new_data.0);
            are = ◌∙◌ {b = record { contents = map (content_bytes room there) programs; locals = map (data_bytes room later) locals }}
                (ap (λ (cs : List (List ℕ)). record { contents = cs; locals = map (data_bytes room later) locals }) new_programs.1)
                (ap (λ (ls : List (List ℕ)). record { contents = map (content_bytes room there) programs; locals = ls }) new_data.1);
          })

  -- ---- all that is ready

  module _ (now : ℕ) (moment : now ≤ NUMBER_LIMIT) (shapes : ShapesAreShown) (law : InstallsShowTheView) (weighs : WeighAsInstalled) (data_weigh : MigratedDataWeigh) where
    in_turn : IsInOrder tables plan so.plans
    in_turn = in_order plan.deployment.identity.key tables are plan.application (held_application room tables url texts plan planned.is) so.plans so.are

    abbrev change_is : Change
    change_is = change_of_plan tables plan locals contents now

    fits : Fits tables change_is
    fits = plan_fits room tables url texts plan planned.is so.plans locals there a c contents now are moment in_turn made parts

    step : on.tells done → (session : Session) → session.jobs ≡ [] → Shows room tables here session.store → Sound session.store → IsStep room tables url texts a c now change_is (installed_of tables plan) there (new_bytes room change_is there) session
    step told session idle shows sound =
        let shown = shows_there room here there tables session.store (same session.store shows) shows in
        let all = have session.store shows told in
        record {
          new = led room tables url texts plan planned.is so.plans locals shapes there session idle a c contents now shown are in_turn all parts fits;
          installs = plan_effect room tables url texts plan planned.is so.plans locals shapes there session idle a c contents now shown are in_turn all parts fits sound;
          leads = plan_shows room tables url texts plan planned.is so.plans locals shapes there session idle a c contents now shown are in_turn all parts fits law;
          brought = λ view last. brought_last room tables there url texts plan planned.is a c contents (plan_contents plan contents) parts.within are.contents contents_are fits.brings
              session session.store.next_view (led_data room tables url texts plan planned.is so.plans locals shapes there session idle a c contents now shown are in_turn all parts fits) (plan_originals room there plan contents)
              (led_migrated room tables url texts plan planned.is so.plans locals shapes there session idle a c contents now shown are in_turn all parts fits sound) parts.originals
              (shapes room tables there session idle shown) session.store.views view last;
        }

    few_locals : length locals ≤ FILE_COUNT_LIMIT
    few_locals = omega (arith, made_long old plan.application.files so.plans locals made, in_turn.few)

    few_programs : length (plan_contents plan contents) ≤ FILE_COUNT_LIMIT
    few_programs = (let few = parts.few in omega (arith, few, few_contents))

    ready : (told : Type 0) → (told → on.tells done) → IsReady told here there room tables url texts a c now change_is (installed_of tables plan)
    ready told tells = record {
      hears = planned.hears;
      kept = kept_then a b c planned.hearing.kept.kept has.got.kept.kept;
      passes = plan_passes room tables url texts plan planned.is;
      replied = (plan.deployment.identity.key, plan.deployment.identity.version, tables.next_view, refl);
      served = served_all (table_shape room tables) url texts a b c plan planned has.got.kept plan.deployment.identity.key plan.deployment.identity.version tables.next_view has.got.grown;
      fits = fits;
      light = changed_light room tables url texts plan planned.is so.plans locals contents now are so.are made fits weighs data_weigh;
      few = (few_programs, few_locals);
      measured = (all_programs IsCounted places contents counted_contents, counted_locals);
      bytes = new_bytes room change_is there;
      step = λ is. step (tells is);
    }

    -- the change and the reply as they are made
    pub ready_with : (told : Type 0) → (told → on.tells done) → (change : Change) → change ≡ Install (view_of tables plan locals) programs plan.provider now
        → (whole : IsReady told here there room tables url texts a c now change reply) × (whole.bytes ≡ new_bytes room change there)
    unfolding ready
    ready_with told tells change is =
        let as_plan : change ≡ change_is = is ∙ ap (λ (cs : List Content). Install (view_of tables plan locals) cs plan.provider now) so.contents in
        subst (λ (x : Change). (whole : IsReady told here there room tables url texts a c now x reply) × (whole.bytes ≡ new_bytes room x there)) (sym as_plan)
        (subst (λ (r : Reply). (whole : IsReady told here there room tables url texts a c now change_is r) × (whole.bytes ≡ new_bytes room change_is there)) (sym so.replied) (ready told tells, refl))
