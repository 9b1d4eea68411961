-- What tables show once a group comes.
use Rattle.std.proofs.Common.{◌≡◌, ◌∙◌, ◌⊎◌, ◌++◌, ◌&&◌, ◌||◌, inl, inr, refl, sym, ap, subst, ℕ, Bool, true, false, cond, not, List, [], ◌∷◌, map, AllPairs, ◌<◌, Some, IsSome, eqb, eq-eqb, eqb-true}
use Rattle.std.specs.Prelude.{filter, option_map}
use Rattle.std.proofs.lemmas.Bool.{cond-false, cond-true}
use Rattle.std.proofs.lemmas.List.Elements.{All-append, All-weaker}
use Rattle.small_types.specs.declared.room.Room.{Room}
use Rattle.manifests.specs.declared.facts.FileEntry.{FileEntry}
use Rattle.machine.specs.Current.{view_at}
use Rattle.machine.specs.Groups.{group_files, group_stands, is_in}
use Rattle.machine.specs.Grouped.{StandAmong, grouped, with_group}
use Rattle.machine.specs.Store.{Store}
use Rattle.machine.specs.Views.{ListedFile, standing_entries}
use Rattle.machine.specs.Views.{View as KeptView}
use Rattle.store_state.proofs.ByNumber.{change}
use Rattle.machine.proofs.FirstFound.{find-map}
use Rattle.machine.proofs.Members.{In, all_in, filter_map_is, in_all}
use Rattle.store_state.specs.declared.change.Change.TheVariants.{Group}
use Rattle.store_state.specs.declared.view.Content.{Content}
use Rattle.store_state.specs.declared.view.View.{View}
use Rattle.store_state.specs.Change.{MayGrow, effect, grown}
use Rattle.store_state.specs.Contents.{content_of}
use Rattle.store_state.specs.Laws.{ShowsGroup, came_files, stand_files}
use Rattle.store_state.specs.Rows.{row_at}
use Rattle.store_state.specs.Shows.{HoldsNew, SameFiles, Shows, shown_file, shown_store, shown_view}
use Rattle.store_state.specs.Tables.{Tables}
use Rattle.store_state.proofs.GrownTables.{each_grown, grown_either, of_view, one_view, standing_apart, standing_grown, view_number, view_there}
use Rattle.store_state.proofs.Keyed.{found_more}
use Rattle.store_state.proofs.NamedFiles.{is_standing}
use Rattle.store_state.proofs.ShownTables.{HasMeasured, IsHeld, IsWhole, same_files, shows_same}

-- ---- lists that are filtered twice

filter_by : {X : Type 0} (p : X → Bool) (a c : Bool) (x : X) (ys zs : List X) → (a && p x) ≡ c
    → filter p ys ≡ zs → filter p (cond a (x ∷ ys) ys) ≡ cond c (x ∷ zs) zs
filter_by p true c x ys zs is rest =
    ap (λ (b : Bool). cond b (x ∷ filter p ys) (filter p ys)) is
    ∙ ap (λ (ws : List _). cond c (x ∷ ws) ws) rest
filter_by p false c x ys zs is rest = rest ∙ ap (λ (b : Bool). cond b (x ∷ zs) zs) is

filter_twice : {X : Type 0} (p q r : X → Bool) → ((x : X) → (q x && p x) ≡ r x) → (xs : List X)
    → filter p (filter q xs) ≡ filter r xs
filter_twice p q r agree [] = refl
filter_twice p q r agree (x ∷ xs) =
    filter_by p (q x) (r x) x (filter q xs) (filter r xs) (agree x) (filter_twice p q r agree xs)

came_by : (a b : Bool) → ((a || b) && b) ≡ b
came_by true true = refl
came_by true false = refl
came_by false true = refl
came_by false false = refl

stayed_by : (a b : Bool) → (b ≡ true → a ≡ false) → ((a || b) && not b) ≡ a
stayed_by true true apart = absurd (let no = apart refl in cc)
stayed_by true false apart = refl
stayed_by false true apart = refl
stayed_by false false apart = refl

-- ---- the files of the view

module _ (group : List ℕ) (view : View) where
  came_entries : filter (is_in group)
      (standing_entries (view.groups ++ group ∷ []) view.application) ≡ group_files group
      view.application
  came_entries =
      filter_twice (is_in group) (is_standing (view.groups ++ group ∷ [])) (is_in group)
      (λ entry. ap (λ (b : Bool). b && is_in group entry) (standing_grown view.groups group entry)
      ∙ came_by (is_standing view.groups entry) (is_in group entry)) view.application.files

  stayed_entries : group_stands group view.groups ≡ false
      → filter (λ (entry : FileEntry). not (is_in group entry))
      (standing_entries (view.groups ++ group ∷ []) view.application)
      ≡ standing_entries view.groups view.application
  stayed_entries absent =
      filter_twice (λ (entry : FileEntry). not (is_in group entry))
      (is_standing (view.groups ++ group ∷ [])) (is_standing view.groups)
      (λ entry. ap (λ (b : Bool). b && not (is_in group entry))
      (standing_grown view.groups group entry)
      ∙ stayed_by (is_standing view.groups entry) (is_in group entry)
      (standing_apart view.groups group entry absent)) view.application.files

pub entries_shown : (room : Room) (later : List ℕ) (contents : List Content)
    (entries : List FileEntry)
    → map (λ (file : ListedFile). file.entry) (map (shown_file room later contents) entries) ≡ entries
entries_shown room later contents [] = refl
entries_shown room later contents (entry ∷ entries) =
    ap (λ (rest : List FileEntry). entry ∷ rest) (entries_shown room later contents entries)

-- ---- the store

module _ (room : Room) (tables : Tables) (number : ℕ) (group : List ℕ) (contents : List Content)
    (view : View) (image later : List ℕ) (store : Store) (first : Shows room tables image store)
    (same : SameFiles room tables image later)
    (holds : HoldsNew room (Group number group contents) later)
    (rising : AllPairs (λ (m n : ℕ). m < n) (map of_view tables.views))
    (kept : row_at number tables.views ≡ Some view) (may : MayGrow tables group contents view) where
  abbrev after : List Content
  after = tables.contents ++ contents

  shows : Shows room tables later store
  shows = shows_same later same first

  abbrev files : List ListedFile
  files = stand_files room later tables contents group view

  abbrev before : KeptView
  before = shown_view room later tables.contents view

  view_held : IsHeld tables.contents view
  view_held =
      all_in (IsHeld tables.contents) tables.views view shows.held
      (view_there number group tables.views view rising kept)

  among : StandAmong group before (came_files room later tables contents group view) files
  among = record {
    order =
        entries_shown room later after (standing_entries (view.groups ++ group ∷ []) view.application);
    came =
        filter_map_is (shown_file room later after) (λ (file : ListedFile). is_in group file.entry)
        (standing_entries (view.groups ++ group ∷ []) view.application)
        ∙ ap (map (shown_file room later after)) (came_entries group view);
    stayed =
        filter_map_is (shown_file room later after) (λ (file : ListedFile). not (is_in group file.entry))
        (standing_entries (view.groups ++ group ∷ []) view.application)
        ∙ ap (map (shown_file room later after)) (stayed_entries group view may.absent)
        ∙ same_files room later tables.contents contents
        (standing_entries view.groups view.application) view_held;
  }

  there : view_at number store.views ≡ Some before
  there =
      ap (λ (s : Store). view_at number s.views) shows.is
      ∙ find-map (shown_view room later tables.contents) (λ (v : KeptView). eqb v.number number) tables.views
      ∙ ap (option_map (shown_view room later tables.contents)) kept

  -- ---- each view

  abbrev put : KeptView → KeptView
  put v = cond (eqb v.number number) (with_group group files v) v

  abbrev IsPut : View → Type 0
  IsPut v = put (shown_view room later tables.contents v)
      ≡ shown_view room later after (change of_view number (grown group) v)

  put_here : (v : View) → v ≡ view → IsPut v
  put_here v is =
      subst IsPut (sym is)
      (cond-true (eqb view.number number) (with_group group files before) before numbered
      ∙ sym (ap (shown_view room later after)
      (cond-true (eqb view.number number) (grown group view) view numbered)))
    where
      numbered : eqb view.number number ≡ true
      numbered =
          eq-eqb view.number number (view_number number group tables.views view rising kept)

  put_other : (v : View) → IsHeld tables.contents v → eqb v.number number ≡ false → IsPut v
  put_other v held other =
      cond-false (eqb v.number number)
      (with_group group files (shown_view room later tables.contents v))
      (shown_view room later tables.contents v) other
      ∙ ap (λ (fs : List ListedFile). record (shown_view room later tables.contents v) {
        program_files = fs;
      })
      (sym (same_files room later tables.contents contents (standing_entries v.groups v.application) held))
      ∙ sym (ap (shown_view room later after) (cond-false (eqb v.number number) (grown group v) v other))

  put_each : (v : View) → In v tables.views → IsPut v
  put_each v of = by (eqb v.number number) refl
    where
      by : (b : Bool) → eqb v.number number ≡ b → IsPut v
      by true e =
          put_here v (one_view number group tables.views view rising kept v of
          (eqb-true v.number number e))
      by false e =
          put_other v (all_in (IsHeld tables.contents) tables.views v shows.held of) e

  put_all : (vs : List View) → ((v : View) → In v vs → IsPut v)
      → map put (map (shown_view room later tables.contents) vs)
      ≡ map (shown_view room later after) (map (change of_view number (grown group)) vs)
  put_all [] each = refl
  put_all (v ∷ vs) each =
      ap (λ (w : KeptView). w ∷ map put (map (shown_view room later tables.contents) vs))
      (each v (inl refl))
      ∙ ap (λ (ws : List KeptView). shown_view room later after (change of_view number (grown group) v) ∷ ws)
      (put_all vs (λ w of. each w (inr of)))

  -- ---- all views

  grown_held : IsHeld after (grown group view)
  grown_held =
      in_all (λ (entry : FileEntry). IsSome (content_of after entry))
      (standing_entries (view.groups ++ group ∷ []) view.application)
      (λ entry of. by entry (grown_either group view entry of))
    where
      by : (entry : FileEntry)
          → In entry (standing_entries view.groups view.application)
          ⊎ In entry (group_files group view.application)
          → IsSome (content_of after entry)
      by entry (inl stood) =
          found_more entry tables.contents contents
          (all_in (λ (e : FileEntry). IsSome (content_of tables.contents e))
          (standing_entries view.groups view.application) entry view_held stood)
      by entry (inr of) =
          all_in (λ (e : FileEntry). IsSome (content_of after e))
          (group_files group view.application) entry may.brings.each of

  still_held : (v : View) → In v tables.views → IsHeld after v
  still_held v of =
      All-weaker (λ (e : FileEntry). IsSome (content_of tables.contents e))
      (λ (e : FileEntry). IsSome (content_of after e))
      (λ e some. found_more e tables.contents contents some)
      (standing_entries v.groups v.application)
      (all_in (IsHeld tables.contents) tables.views v shows.held of)

  pub shows_grouped : Shows room (effect (Group number group contents) tables) later
      (grouped number group files store)
  shows_grouped = record {
    is =
        ap (grouped number group files) shows.is
        ∙ ap (λ (views : List KeptView). record (shown_store room later tables) { views = views })
        (put_all tables.views put_each);
    held =
        each_grown number group tables.views view rising kept (IsHeld after) grown_held
        (λ other of unlike. still_held other of);
    whole = All-append (IsWhole room later) tables.contents contents shows.whole holds;
    measured =
        each_grown number group tables.views view rising kept (HasMeasured room later)
        (all_in (HasMeasured room later) tables.views view shows.measured
        (view_there number group tables.views view rising kept))
        (λ other of unlike. all_in (HasMeasured room later) tables.views other shows.measured of);
  }

  pub group_shown : ShowsGroup room tables number group contents view later store
  group_shown = record {
    numbered = view_number number group tables.views view rising kept;
    there = there;
    listed = entries_shown room later after (group_files group view.application);
    among = among;
    shows = shows_grouped;
  }
