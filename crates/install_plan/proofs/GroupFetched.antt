-- All that is ready once the files of a group are fetched.
use Rattle.std.proofs.Common.{◌≡◌, ◌≢◌, ◌∙◌, ◌≤◌, ◌++◌, inr, refl, sym, ap, subst, ℕ, Bool, true, false, cond, eqb, List, [], ◌∷◌, length, map, All, Ok, Option, IsSomeAnd, arith}
use Rattle.std.proofs.lemmas.List.{append-nil}
use Rattle.std.proofs.lemmas.List.Elements.{All-append, All-cons, All-head, All-nil, All-tail}
use Rattle.small_types.specs.Blocks.{blocks_start}
use Rattle.small_types.specs.declared.room.Room.{Room}
use Rattle.small_types.specs.declared.limits.TheConstants.{FILE_COUNT_LIMIT}
use Rattle.manifests.specs.declared.facts.FileEntry.{FileEntry}
use Rattle.machine.specs.declared.reply.Reply.{Reply}
use Rattle.machine.specs.declared.reply.Reply.TheVariants as says
use Rattle.machine.specs.Blocks.{standing_files}
use Rattle.machine.specs.Fields.{IsApplication}
use Rattle.machine.specs.GroupRow.{GroupEffect}
use Rattle.machine.specs.Grouped.{grouped}
use Rattle.machine.specs.Groups.{group_files, group_stands}
use Rattle.machine.specs.Shape.{Shape}
use Rattle.machine.specs.Sound.{Sound}
use Rattle.machine.specs.Store.{Session, Store}
use Rattle.machine.specs.Weight.{IsLight}
use Rattle.machine.proofs.Lightness.{is_light}
use Rattle.machine.proofs.Members.{all_in}
use Rattle.store_state.specs.declared.change.Change.{Change}
use Rattle.store_state.specs.declared.change.Change.TheVariants as change
use Rattle.store_state.specs.declared.view.Content.{Content}
use Rattle.store_state.specs.declared.view.View.{View}
use Rattle.store_state.specs.Change.{Fits, IsRow, MayGrow, effect, grown}
use Rattle.store_state.specs.Contents.{Brings, IsMeasured}
use Rattle.store_state.specs.Kept.{AreTables}
use Rattle.store_state.specs.Laws.{GroupsShowTheFiles, ShowsGroup, stand_files}
use Rattle.store_state.specs.Rows.{with_row}
use Rattle.store_state.specs.Shows.{SameFiles, Shows, shown_view}
use Rattle.store_state.specs.Stored.{HasContents, SameLocals, content_bytes}
use Rattle.store_state.specs.Tables.{Tables, bare_row, table_shape}
use Rattle.store_state.proofs.Images.{same_image}
use Rattle.store_state.proofs.ShownTables.{shape_shown, shows_same}
use Rattle.table_weight.specs.Laws.{WeighWithGroup}
use Rattle.table_weight.specs.Weight.{tables_weight}
use Rattle.links.specs.Links.{LinksState}
use Rattle.fetcher.specs.Fetched.{KeptBut}
use Rattle.file_store.specs.Stores.{draft_blocks}
use Rattle.file_store.specs.declared.draft.Draft.{Draft}
use Rattle.line_drafts.specs.Held.{AreContents, AreHeld}
use Rattle.install_plan.specs.declared.plan.WantedFile.{WantedFile}
use Rattle.install_plan.specs.Brought.{AreContentsFor}
use Rattle.install_plan.specs.Changes.{contents_for, listed_at}
use Rattle.install_plan.specs.Checks.{LedBy}
use Rattle.install_plan.specs.Drafted.{AreSized}
use Rattle.install_plan.specs.FetchedFiles.{addresses}
use Rattle.install_plan.specs.GroupAsked.{AreBrought, GroupServed, IsListedOfGroup}
use Rattle.install_plan.specs.GroupReady.{GroupStep, HasBrought, IsGroupReady, address_in, ungrouped, weight_in}
use Rattle.install_plan.specs.LeadsIn.{HasNew, NewBytes}
use Rattle.install_plan.proofs.WantedPlaces.{at_places, contents_in, count_for, keys_for, rest_is, somes, whole_for}
use Rattle.install_plan.proofs.GroupContents.{brings_group}
use Rattle.install_plan.proofs.Downs.{counts_none}
use Rattle.install_plan.proofs.FileDrafts.{AreDrafts, are_drafts, drafts_bytes, drafts_have, drafts_measured, held_stand}
use Rattle.install_plan.proofs.GroupOver.{by_effect}
use Rattle.install_plan.proofs.GroupAsks.{asks, at_addresses, at_places as places_of, entries, line, passes_all, served_of}
use Rattle.install_plan.proofs.GroupFiles.{led_brought, led_grouped, led_other}
use Rattle.install_plan.proofs.LeasedRows.{IsLeased, row_is, row_there, view_shown, view_valid}
use Rattle.install_plan.proofs.NewFiles.{leads_over}
use Rattle.install_plan.proofs.InstallContents.{IsWholeContent}
use Rattle.install_plan.proofs.UngroupedFiles.{few_of_group, same_contents}

-- the applications of tables could be read
pub leased_held : (room : Room) (tables : Tables) (lease : ℕ) (view : View) → AreTables tables
    → IsLeased room tables lease view → IsApplication view.application
leased_held room tables lease view are leased =
    (all_in IsRow tables.views view are.rows (row_there leased)).application

first_is : {X : Type 0} (x y : X) (xs ys : List X) → x ∷ xs ≡ y ∷ ys → x ≡ y
first_is x y xs ys e = cc

-- ---- the same files in another image

maps_same : {X Y : Type 0} (f g : X → Y) (xs : List X) → map f xs ≡ map g xs
    → All (λ (x : X). f x ≡ g x) xs
maps_same {X} f g [] same = All-nil (λ (x : X). f x ≡ g x)
maps_same {X} f g (x ∷ xs) same =
    All-cons (λ (y : X). f y ≡ g y) x xs (first_is (f x) (g x) (map f xs) (map g xs) same)
    (maps_same f g xs (rest_is (f x) (g x) (map f xs) (map g xs) same))

-- a view with one more group has the same data files
grown_same : (room : Room) (there later : List ℕ) (number : ℕ) (group : List ℕ) (views : List View)
    → All (λ (v : View). SameLocals room there later v.locals) views
    → All (λ (v : View). SameLocals room there later v.locals) (with_row number (grown group) views)
grown_same room there later number group [] same = same
grown_same room there later number group (view ∷ views) same =
    All-cons (λ (v : View). SameLocals room there later v.locals)
    (cond (eqb view.number number) (grown group view) view)
    (with_row number (grown group) views) (by (eqb view.number number))
    (grown_same room there later number group views
    (All-tail (λ (v : View). SameLocals room there later v.locals) view views same))
  where
    by : (b : Bool) → SameLocals room there later (cond b (grown group view) view).locals
    by true = All-head (λ (v : View). SameLocals room there later v.locals) view views same
    by false = All-head (λ (v : View). SameLocals room there later v.locals) view views same

-- contents of these bytes, and no data files
abbrev brought_bytes : List (List ℕ) → NewBytes
brought_bytes gave = record { contents = gave; locals = [] }

module _ (room : Room) (tables : Tables) (lease : ℕ) (group : List ℕ) (view : View)
    (leased : IsLeased room tables lease view)
    (some : ◌≢◌ {A = List FileEntry} (group_files group view.application) [])
    (absent : group_stands group view.groups ≡ false) (a c : LinksState)
    (wanted : List WantedFile) (gave : List (List ℕ)) (drafts : List Draft)
    (got : HasBrought room tables view group (map ungrouped (group_files group view.application)) a
    c wanted gave) (sized : AreSized drafts gave) where
  abbrev wants : List FileEntry
  wants = entries room tables lease group view leased some absent

  abbrev files : List FileEntry
  files = map ungrouped (group_files group view.application)

  abbrev contents : List Content
  contents =
      contents_for (listed_at (map ungrouped (group_files group view.application)) wanted) drafts

  abbrev pub grows : Change
  grows = change.Group view.number group (contents_for
      (listed_at (map ungrouped (group_files group view.application)) wanted) drafts)

  abbrev pub reply : Reply
  reply = says.Group (length (group_files group view.application))

  at_all : at_places files wanted ≡ somes (map ungrouped wants)
  at_all = places_of room tables lease group view leased some absent wanted got.are

  drafted : AreDrafts (map ungrouped wants) gave drafts
  drafted =
      are_drafts files a c wanted (map ungrouped wants) gave drafts at_all got.fetched.each sized

  contents_is : contents_for (somes (map ungrouped wants)) (drafts ++ []) ≡ contents
  contents_is =
      ap (contents_for (somes (map ungrouped wants))) (append-nil drafts)
      ∙ ap (λ (os : List (Option FileEntry)). contents_for os drafts) (sym at_all)

  measured : All IsMeasured contents
  measured =
      subst (λ (cs : List Content). All IsMeasured cs) contents_is
      (drafts_measured (map ungrouped wants) gave drafts [] drafted)

  -- an image in which the contents stand
  module _ (image : List ℕ)
      (stand : AreContents (blocks_start room.half) (map draft_blocks drafts) gave image) where
    bytes_are : map (content_bytes room image) contents ≡ gave
    bytes_are =
        ap (map (content_bytes room image)) (sym contents_is)
        ∙ drafts_bytes room image (map ungrouped wants) gave drafts [] drafted stand

    have : HasContents room image contents
    have =
        subst (λ (cs : List Content). HasContents room image cs) contents_is
        (drafts_have room image (map ungrouped wants) gave drafts [] drafted stand)

    new_there : HasNew room grows (record { contents = gave; locals = [] }) image
    new_there = record {
      measured = have;
      are = ap brought_bytes bytes_are;
    }

  -- ---- the image that reads give

  module _ (there : List ℕ) (held : AreHeld (blocks_start room.half) drafts gave there)
      (are : AreTables tables) (law : GroupsShowTheFiles) (weigh : WeighWithGroup) where
    standing : AreContents (blocks_start room.half) (map draft_blocks drafts) gave there
    standing = held_stand (blocks_start room.half) drafts gave there held

    contents_are : AreContentsFor room there a c wants (addresses wanted) contents
    contents_are =
        same_contents room there a c wants (addresses wanted) contents
        (subst (λ (ds : List Draft). AreContentsFor room there a c (map ungrouped wants)
        (addresses wanted) (contents_for (listed_at files wanted) ds)) (append-nil drafts)
        (contents_in files room there a c wanted (map ungrouped wants) gave drafts [] at_all
        got.fetched.each held))

    whole : All (IsWholeContent room there) contents
    whole = whole_for room there a c wants (addresses wanted) contents contents_are

    few_contents : length contents ≤ FILE_COUNT_LIMIT
    few_contents =
        let few = few_of_group group view.application (standing_files (map bare_row tables.views))
        (leased_held room tables lease view are leased) in
        omega (arith, few, count_for room there a c wants (addresses wanted) contents contents_are)

    brings : Brings tables.contents (group_files group view.application) contents
    brings =
        brings_group (map bare_row tables.views) group view.application tables.contents contents
        are.contents (keys_for room there a c wants (addresses wanted) contents contents_are)

    fits : Fits tables grows
    fits =
        subst (λ (o : Option View). IsSomeAnd o (MayGrow tables group contents))
        (sym (row_is leased))
        (record { listed = some; absent = absent; brings = brings })

    named : map (address_in view) wants ≡ map Ok (addresses wanted)
    named = at_addresses room tables lease group view leased some absent wanted got.are

    light : IsLight room (tables_weight (effect grows tables))
    light =
        subst (IsLight room) (sym (weigh tables view.number group contents are fits))
        (is_light room (weight_in room tables view group)
        (λ heavy. got.are.enough.1.0 (weight_in room tables view group) (refl, heavy)))

    line_kept : KeptBut (IsListedOfGroup lease group (table_shape room tables)) a c
    line_kept =
        line room tables lease group view leased some absent wanted got.are a c got.fetched.kept

    -- an image with the same files, and with those that came, has the same files of the new tables
    still : (later : List ℕ) → SameFiles room tables there later
        → HasNew room grows (record { contents = gave; locals = [] }) later
        → SameFiles room (effect grows tables) there later
    still later same new = record {
      contents = All-append
          (λ (x : Content). content_bytes room later x ≡ content_bytes room there x)
          tables.contents contents same.contents
          (maps_same (content_bytes room later) (content_bytes room there) contents
          (ap (λ (b : NewBytes). b.contents) new.are ∙ sym (bytes_are there standing)));
      locals = grown_same room there later view.number group tables.views same.locals;
    }

    module _ (old : Session) (idle : old.jobs ≡ [])
        (shows : Shows room tables there old.store) (sound : Sound old.store) where
      abbrev led_store : Store
      led_store = grouped view.number group (stand_files room there tables contents group view)
          old.store

      abbrev led : Session
      led = record old {
        store = grouped view.number group (stand_files room there tables contents group view)
            old.store;
      }

      is : IsApplication view.application
      is = view_valid shows leased sound

      showing : ShowsGroup room tables view.number group contents view there old.store
      showing =
          law room tables view.number group contents view there there old.store shows
          (same_image room tables there) (have there standing) are
          (row_is leased) fits

      done : GroupEffect lease group old reply led
      done = record {
        view = shown_view room there tables.contents view;
        leased = view_shown shows leased;
        replied = refl;
        store = led_store;
        comes = inr (
          absent,
          led_grouped room tables there lease group view leased contents are.contents brings a c
              (addresses wanted) contents_are named old.store shows sound whole showing,
        );
        is = refl;
      }

      served : GroupServed lease group (table_shape room tables) a c reply
      served =
          served_of room tables lease group view leased some absent wanted got.are a c reply
          (addresses wanted) [] line_kept is got.fetched.grown
          (sym (append-nil (addresses wanted)))
          (asks room tables lease group view leased some absent wanted got.are is)

      step : (now : ℕ) → GroupStep lease group a c now reply old
          (LedBy room tables grows there (record { contents = gave; locals = [] }) old.store)
      step now = record {
        new = led;
        step = by_effect room tables lease group now there old reply led idle shows
            (passes_all room tables lease group view leased some absent wanted got.are is)
            done;
        served = subst (λ (s : Shape). GroupServed lease group s a c reply)
            (sym (shape_shown old idle shows)) served;
        brought = subst (λ (s : Shape). AreBrought lease group s a c led_store)
            (sym (shape_shown old idle shows))
            (led_brought room tables there lease group view leased contents are.contents brings a c
            (addresses wanted) contents_are named old.store shows);
        leaves = record {
          leads = leads_over (λ later same new. shows_same later (still later same new)
              showing.shows);
          other = led_other room tables there lease group view leased contents are.contents brings a
              c
              (addresses wanted) contents_are named old.store shows absent;
        };
      }

    -- all of it, and what each image has in which the contents stand
    pub ready_all : (ready : IsGroupReady there room tables lease group a c grows reply)
        × ((image : List ℕ)
        → AreContents (blocks_start room.half) (map draft_blocks drafts) gave image
        → HasNew room grows ready.bytes image)
    ready_all = (
      record {
        kept = line_kept;
        still = λ now. refl;
        downs = counts_none refl;
        of = (refl, few_contents);
        fits = fits;
        light = light;
        measured = measured;
        bytes = record { contents = gave; locals = [] };
        step = λ now old idle shows sound. step old idle shows sound now;
      },
      new_there,
    )
