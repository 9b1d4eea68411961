-- A put of a data file: the step that it is, and the change that it makes.
use Rattle.std.proofs.Common.{◌≡◌, ◌≤◌, ◌∙◌, inl, inr, ℕ, Bool, true, false, cond, eqb, List, [], ◌∷◌, length, All, AllPairs, bytes_eq, Option, Some, None, refl, sym, ap, subst, arith}
use Rattle.std.specs.Prelude.{option_and_then, option_map}
use Rattle.std.specs.declared.cmp.Ordering.{Ordering}
use Rattle.std.specs.declared.cmp.Ordering.TheVariants.{Less, Equal, Greater}
use Rattle.std.proofs.lemmas.Bool.{cond-false}
use Rattle.std.proofs.lemmas.Cmp.{tied_itself}
use Rattle.std.proofs.lemmas.List.Elements.{All-cons, All-nil}
use Rattle.std.proofs.lemmas.Option.{none-some, same_Some}
use Rattle.std.proofs.lemmas.Slice.Eq.{bytes_eq-Decides}
use Rattle.small_types.specs.declared.room.Room.{Room}
use Rattle.small_types.specs.declared.limits.TheConstants.{NUMBER_LIMIT, PIECE_LIMIT}
use Rattle.small_types.specs.Name.{IsName}
use Rattle.identity.specs.Printed.{text_cmp}
use Rattle.machine.specs.declared.command.Command.TheVariants as command
use Rattle.machine.specs.declared.event.Event.TheVariants.{Line}
use Rattle.machine.specs.declared.reply.Reply.TheVariants as says
use Rattle.machine.specs.DataFiles.{data_name, data_named, put_in, with_data, with_named, with_named_at}
use Rattle.machine.specs.Current.{view_at}
use Rattle.machine.specs.DataLaws.{PutsAreThere}
use Rattle.machine.specs.Grouped.{with_view_at}
use Rattle.machine.specs.Leases.{leased_view}
use Rattle.machine.specs.Machine.{Answers}
use Rattle.machine.specs.Store.{Session, Store}
use Rattle.machine.specs.Valid.{Valid}
use Rattle.machine.specs.Views.{DataFile}
use Rattle.machine.specs.Views.{View as KeptView}
use Rattle.machine.proofs.EntryOrder.{order}
use Rattle.machine.proofs.FirstFound.{find_in}
use Rattle.machine.proofs.OneView.{only_one}
use Rattle.machine.proofs.Keys.{equal_texts}
use Rattle.machine.proofs.Leased.{leased_by, leased_valid, view_in}
use Rattle.machine.proofs.Members.{In, all_in, pairs_head, pairs_tail}
use Rattle.machine.proofs.KeptSteps.{step_valid}
use Rattle.store_state.specs.declared.change.Change.TheVariants as change
use Rattle.store_state.specs.declared.view.LocalFile.{LocalFile}
use Rattle.store_state.specs.declared.view.View.{View}
use Rattle.store_state.specs.Change.{effect}
use Rattle.store_state.specs.Laws.{PutsShowTheFile}
use Rattle.store_state.specs.Locals.{local_at, local_named}
use Rattle.store_state.specs.Shows.{Shows, shown_data, shown_view}
use Rattle.store_state.specs.Stored.{data_bytes}
use Rattle.store_state.specs.Tables.{Tables}
use Rattle.store_state.proofs.ShownTables.{shape_shown}
use Rattle.record_codec.specs.Values.{IsEncodableLocal}
use Rattle.links.specs.Links.{LinksState}
use Rattle.install_plan.specs.LeadsIn.{HasNew, LeadsIn, NewBytes}
use Rattle.updater.specs.KeepsChange.{LeadsBetween}
use Rattle.updater.specs.PutStep.{IsPutStep, file_of}
use Rattle.updater.proofs.CommandEnds.{Does, LeavesStore, effect_answers}
use Rattle.updater.proofs.DataRemoved.{still_named}
use Rattle.updater.proofs.LeasedData.{is_row, shown_named}
use Rattle.updater.proofs.ShownViews.{leased_shown}
use Rattle.updater.proofs.SmallBlocks.{AreSmall}

-- ---- a file that stands already

apart_less : Less ≡ Equal → ⊥
apart_less e = cc

apart_greater : Greater ≡ Equal → ⊥
apart_greater e = cc

apart_ends : Less ≡ Greater → ⊥
apart_ends e = cc

-- equal texts are tied
tied : (a b : List ℕ) → a ≡ b → text_cmp a b ≡ Equal
tied a b same = ap (λ (t : List ℕ). text_cmp t b) same ∙ tied_itself order b

abbrev Rises : DataFile → DataFile → Type 0
Rises f g = text_cmp f.name g.name ≡ Less

abbrev at_name : DataFile → DataFile → Bool
at_name file other = bytes_eq other.name file.name

-- none behind a greater name has the name
none_behind : (file other found : DataFile) (files : List DataFile)
    → text_cmp other.name file.name ≡ Greater → All (Rises other) files
    → In found (other ∷ files) → found.name ≡ file.name → ⊥
none_behind file other found files greater rising (inl same) own =
    apart_greater (sym greater ∙ tied other.name file.name (ap (λ (f : DataFile). f.name) same ∙ own))
none_behind file other found files greater rising (inr there) own =
    apart_ends (sym (all_in (Rises other) files found rising there)
    ∙ ap (text_cmp other.name) own ∙ greater)

-- at each place
stays_at : (o : Ordering) (file other : DataFile) (files : List DataFile)
    → text_cmp other.name file.name ≡ o → All (Rises other) files
    → data_named file.name (other ∷ files) ≡ Some file
    → (data_named file.name files ≡ Some file → with_named data_name file files ≡ files)
    → with_named_at o file other files (with_named data_name file files) ≡ other ∷ files
stays_at Less file other files is rising found behind =
    let differs : bytes_eq other.name file.name ≡ false = by (bytes_eq other.name file.name) refl in
    ap (λ (fs : List DataFile). other ∷ fs)
    (behind (sym (cond-false (bytes_eq other.name file.name) (Some other)
    (data_named file.name files) differs) ∙ found))
  where
    by : (b : Bool) → bytes_eq other.name file.name ≡ b → bytes_eq other.name file.name ≡ false
    by true same =
        absurd (apart_less (sym is
        ∙ tied other.name file.name ((bytes_eq-Decides other.name file.name).0 same)))
    by false differs = differs
stays_at Equal file other files is rising found behind =
    let same = (bytes_eq-Decides other.name file.name).1 (equal_texts other.name file.name is) in
    let one : Some other ≡ Some file =
    sym (ap (λ (b : Bool). cond b (Some other) (data_named file.name files)) same) ∙ found in
    ap (λ (f : DataFile). f ∷ files) (sym (same_Some other file one))
stays_at Greater file other files is rising found behind =
    let there = find_in (at_name file) (other ∷ files) file found in
    absurd (none_behind file other file files is rising there.0 refl)

-- it takes its own place
pub file_stays : (file : DataFile) (files : List DataFile) → AllPairs Rises files
    → data_named file.name files ≡ Some file → with_named data_name file files ≡ files
file_stays file [] pairs found = absurd (none-some file found)
file_stays file (other ∷ files) pairs found =
    stays_at (text_cmp other.name file.name) file other files refl
    (pairs_head Rises other files pairs) found
    (file_stays file files (pairs_tail Rises other files pairs))

-- and so does its view
view_stays : (number : ℕ) (f : KeptView → KeptView) (views : List KeptView)
    → ((view : KeptView) → In view views → eqb view.number number ≡ true → f view ≡ view)
    → with_view_at number f views ≡ views
view_stays number f [] same = refl
view_stays number f (view ∷ views) same =
    ap (λ (v : KeptView). v ∷ with_view_at number f views) (by (eqb view.number number) refl)
    ∙ ap (λ (vs : List KeptView). view ∷ vs)
    (view_stays number f views (λ v there. same v (inr there)))
  where
    by : (b : Bool) → eqb view.number number ≡ b → cond b (f view) view ≡ view
    by true is = same view (inl refl) is
    by false is = refl

-- ---- bytes in the tables and in the store

bytes_shown : (room : Room) (image name bytes : List ℕ) (o : Option LocalFile)
    → option_map (shown_data room image) o ≡ Some (record { name = name; bytes = bytes })
    → option_map (data_bytes room image) o ≡ Some bytes
bytes_shown room image name bytes None is = absurd (none-some _ is)
bytes_shown room image name bytes (Some file) is =
    ap (λ (p : Option DataFile). option_map (λ (d : DataFile). d.bytes) p) is

shown_bytes : (room : Room) (image name bytes : List ℕ) (files : List LocalFile)
    (o : Option LocalFile) → local_named name files ≡ o
    → option_map (data_bytes room image) o ≡ Some bytes
    → option_map (shown_data room image) o
    ≡ Some (record { name = name; bytes = bytes })
shown_bytes room image name bytes files None at is = absurd (none-some _ is)
shown_bytes room image name bytes files (Some file) at is =
    let there = find_in (λ (f : LocalFile). bytes_eq f.name name) files file at in
    let same = (bytes_eq-Decides file.name name).0 there.1 in
    let own = same_Some (data_bytes room image file) bytes is in
    ap (λ (n : List ℕ). Some (record { name = n; bytes = data_bytes room image file })) same
    ∙ ap (λ (b : List ℕ). Some (record { name = name; bytes = b })) own

-- such a file has an encoding
pub file_encodes : (name bytes blocks : List ℕ) (file : LocalFile) → IsName name
    → length bytes ≤ PIECE_LIMIT → AreSmall blocks → file ≡ file_of name (length bytes) blocks
    → IsEncodableLocal file
file_encodes name bytes blocks file named few small is =
    subst IsEncodableLocal (sym is) (record { name = named; size = omega (arith, few); few_blocks = small.few; blocks = small.all })

-- ---- steps

module _ (now lease : ℕ) (room : Room) (name bytes : List ℕ) (tables : Tables) (image : List ℕ)
    (before after : LinksState) (old : Session) (no_jobs : old.jobs ≡ []) (shows : Shows room tables image old.store)
    (valid : Valid old.store)
    (words : (lease ≤ NUMBER_LIMIT) × IsName name × (length bytes ≤ PIECE_LIMIT))
    (moment : now ≤ NUMBER_LIMIT) (number : ℕ)
    (of : IsPutStep room lease name bytes tables number) where
  abbrev file : DataFile
  file = record { name = name; bytes = bytes }

  abbrev shown : KeptView
  shown = shown_view room image tables.contents of.row

  abbrev new : Session
  new = record old { store = put_in of.row.number file old.store }

  found : leased_view lease old.store ≡ Some shown
  found = leased_shown shows lease
      ∙ ap (option_map (shown_view room image tables.contents)) of.leased

  step : Answers now [] old (command.Put lease name bytes) says.Put new
  step = effect_answers now [] room tables old (shape_shown old no_jobs shows) (command.Put lease name bytes)
      says.Put new of.passes
      (record { view = shown; leased = found; replied = refl; is = refl })

  -- the file of the name in the view of the number is that of the row
  in_row : local_at number name tables ≡ local_named name of.row.locals
  in_row =
      ap (λ (n : ℕ). local_at n name tables) of.view
      ∙ ap (λ (o : Option View). option_and_then (λ (view : View). local_named name view.locals) o)
      (is_row lease name room tables of.row of.leased)

  -- the image has the bytes there already
  abbrev Stands : List ℕ → Type 0
  Stands seen = option_map (data_bytes room seen) (local_at number name tables) ≡ Some bytes

  stands_in : Stands image → option_map (data_bytes room image) (local_named name of.row.locals) ≡ Some bytes
  stands_in stands = ap (option_map (data_bytes room image)) (sym in_row) ∙ stands

  -- so the store stays
  same_file : Stands image → with_data file shown ≡ shown
  same_file stands =
      let view = leased_valid lease old.store shown valid.ordered found in
      ap (λ (files : List DataFile). record shown { data_files = files })
      (file_stays file shown.data_files view.data_order
      (shown_named room image name of.row.locals
      ∙ shown_bytes room image name bytes of.row.locals (local_named name of.row.locals) refl
      (stands_in stands)))

  same_views : Stands image
      → with_view_at of.row.number (with_data file) old.store.views ≡ old.store.views
  same_views stands =
      let by = leased_by lease old.store shown found in
      let known = view_in by.0.view old.store.views shown by.2 in
      view_stays of.row.number (with_data file) old.store.views (λ view there is.
      let one : view ≡ shown =
      only_one of.row.number old.store valid.ordered shown view
      (ap (λ (n : ℕ). view_at n old.store.views) known.1 ∙ by.2) there is in
      ap (with_data file) one ∙ same_file stands ∙ sym one)

  pub put_rests : Stands image
      → LeavesStore now [] (command.Put lease name bytes) before after old says.Put
  put_rests stands = record {
    new = new;
    step = step;
    same = ap (λ (views : List KeptView). record old.store { views = views }) (same_views stands);
    served = tt;
  }

  -- The file is put into these blocks. An image from before, with which the tables show the store too,
  -- has other bytes there, or none.
  module _ (blocks : List ℕ) (puts : PutsShowTheFile) (there : PutsAreThere) (first : List ℕ)
      (shown_first : Shows room tables first old.store) (differs : Stands first → ⊥) where
    abbrev made : LocalFile
    made = file_of name (length bytes) blocks

    abbrev comes : NewBytes
    comes = record { contents = []; locals = bytes ∷ [] }

    has_bytes : (later : List ℕ) → HasNew room (change.Put of.row.number made) comes later
        → data_bytes room later made ≡ bytes
    has_bytes later had =
        let one : data_bytes room later made ∷ [] ≡ bytes ∷ [] = ap (λ (n : NewBytes). n.locals) had.are in cc

    shows_put : LeadsIn room (change.Put of.row.number made) tables image comes new.store
    shows_put = record {
      shows = λ later same had.
          subst (λ (b : List ℕ). Shows room (effect (change.Put of.row.number made) tables) later
          (put_in of.row.number (record { name = name; bytes = b }) old.store)) (has_bytes later had)
          (puts room tables of.row.number made image later old.store shows same had.measured);
    }

    abbrev leads : LeadsBetween (change.Put number made) tables image old.store new.store
    leads = record {
      bytes = comes;
      shows = subst
          (λ (n : Room). LeadsIn n (change.Put number made) tables image comes new.store)
          (sym (ap (λ (s : Store). s.room) shows.is))
          (subst (λ (n : ℕ). LeadsIn room (change.Put n made) tables image comes new.store)
          (sym of.view) shows_put);
      valid = step_valid now old (Line (command.Put lease name bytes) now (record { texts = [] }))
          (Some says.Put) new (words, moment)
          (record {
            moment = refl;
            hears = refl;
            answer = says.Put;
            replied = refl;
            answers = step;
          }) valid;
    }

    -- each image that has the bytes in these blocks has the file
    has_new : (later : List ℕ) → data_bytes room later made ≡ bytes
        → HasNew room (change.Put number made) comes later
    has_new later is = record {
      measured = All-cons (λ (f : LocalFile). length (data_bytes room later f) ≡ f.length) made []
          (ap length is) (All-nil (λ (f : LocalFile). length (data_bytes room later f) ≡ f.length));
      are = ap (λ (b : List ℕ). record { contents = []; locals = b ∷ [] }) is;
    }

    pub put_does : (Left : List ℕ → Type 0)
        → ((later : List ℕ) → Left later → data_bytes room later made ≡ bytes)
        → Does now [] (command.Put lease name bytes) before after (change.Put number made)
        tables image Left old says.Put
    put_does Left has = record {
      new = new;
      step = step;
      leads = leads;
      brings = λ later left.
          subst (λ (n : Room). HasNew n (change.Put number made) comes later)
          (sym (ap (λ (s : Store). s.room) shows.is)) (has_new later (has later left));
      other = λ same. differs (ap (option_map (data_bytes room first)) in_row
          ∙ bytes_shown room first name bytes (local_named name of.row.locals)
          (still_named shown_first lease name (Some file) of.row of.leased
          (there now [] old lease name bytes new valid step) same));
      served = tt;
    }
