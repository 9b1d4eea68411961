-- What lines bring is what links have, what was kept, or what was put.
use Rattle.std.proofs.Common.{◌≡◌, ◌∙◌, ◌⊎◌, ◌++◌, ◌<◌, inl, inr, refl, sym, ap, subst, ℕ, Bool, true, false, not, cond, bytes_eq, eqb, eq-eqb, List, [], ◌∷◌, map, All, Any, Contains, Option, Some, None}
use Rattle.std.specs.Prelude.{option_and_then}
use Rattle.std.proofs.lemmas.List.Elements.{All-head, All-nil, All-cons, All-tail}
use Rattle.std.proofs.lemmas.List.Folds.{Any-from_list_any}
use Rattle.small_types.specs.declared.target.Target.{Target}
use Rattle.folders.specs.declared.folder.Held.{Held}
use Rattle.identity.specs.declared.key.Key.{Key}
use Rattle.links.specs.Links.{IsLeft, LinksState}
use Rattle.fetcher.specs.Given.{IsOfSite}
use Rattle.manifests.specs.declared.facts.FileEntry.{FileEntry}
use Rattle.install_plan.specs.Brought.{IsHeldOrCame}
use Rattle.machine.specs.declared.command.Command.{Command}
use Rattle.machine.specs.declared.command.Command.TheVariants.{At, Require, Install, Check, Skip, Rollback, Launch, Read, Local, Put, Remove, Group, Finish, Clean, Show}
use Rattle.machine.specs.declared.command.Command.TheVariants as asks
use Rattle.machine.specs.declared.event.Event.{Event}
use Rattle.machine.specs.declared.event.Event.TheVariants.{Boot, Line, Unread}
use Rattle.machine.specs.declared.event.Heard.{Heard}
use Rattle.machine.specs.declared.lease.Lease.{Lease}
use Rattle.machine.specs.declared.reply.Reply.{Reply}
use Rattle.machine.specs.declared.report.ReportLine.{ReportLine}
use Rattle.machine.specs.Blocks.{standing_files}
use Rattle.machine.specs.Current.{current_of, current_view, data_of, view_at}
use Rattle.machine.specs.DataFiles.{data_name, with_data, without_data, without_named}
use Rattle.machine.specs.Grouped.{Grouped, with_group, with_view_at}
use Rattle.machine.specs.GroupRow.{Comes, GroupEffect}
use Rattle.machine.specs.Groups.{group_wanted, is_in}
use Rattle.machine.specs.InstallRow.{InstallEffect}
use Rattle.machine.specs.InUse.{is_in_use}
use Rattle.machine.specs.Installed.{new_view}
use Rattle.machine.specs.Leases.{leased_view}
use Rattle.machine.specs.Machine.{Step, effect, refusals}
use Rattle.machine.specs.Rows.{PassesAll}
use Rattle.machine.specs.Shape.{BareView, bare_view, shape_of}
use Rattle.machine.specs.Sound.{ShareBytes, Sound, program_files_of}
use Rattle.machine.specs.Store.{Session, Store}
use Rattle.machine.specs.Valid.{IsView}
use Rattle.machine.specs.Views.{DataFile, ListedFile, View, content_key, key_of, same_content, standing_entries}
use Rattle.machine.specs.Wanted.{is_held, wanted}
use Rattle.machine.specs.Words.{IsEvent}
use Rattle.machine.proofs.Contents.{content_decides}
use Rattle.machine.proofs.FirstFound.{then_value}
use Rattle.machine.proofs.GroupKept.{grouped_at}
use Rattle.machine.proofs.Leased.{leased_by, view_in}
use Rattle.machine.proofs.ChangedLists.{flat_map_in}
use Rattle.machine.proofs.Members.{In, all_in, filter_in, in_contains, in_either, in_filter, in_flat_map, in_left, in_right, map_in}
use Rattle.machine.proofs.NamedItems.{with_named_in}
use Rattle.machine.proofs.Refusals.{kept_or_effect}
use Rattle.machine.proofs.RowFacts.{Kept}
use Rattle.machine.proofs.Shared.{each_alike}
use Rattle.machine.proofs.KeptSteps.{run_sound}
use Rattle.updater_cli.specs.NoOthers.{EventPutsNoOthers, NoOthersCome, PutsNoOthers, SitesHaveNoOthers}
use Rattle.updater_cli.specs.Offered.{PublishInput}
use Rattle.updater_cli.specs.Published.{AreNoOthers, KeepsBytes, KeepsNoOthers}
use Rattle.updater_cli.specs.Report.{AreRunFrom, Origin, origin_after}
use Rattle.updater_cli.proofs.PublishedLaw.{any_in}
use Rattle.updater_cli.proofs.Through.{is_event}
use Rattle.updater_cli.specs.Sites.{AreOfSites, GroupOfSites, IsCarriedOrOfSite, IsFileOfSite, IsLineOfSites, IsOfSites}

abbrev a_file : List ℕ → List ℕ → DataFile
a_file name bytes = record { name = name; bytes = bytes }

-- ---- where all bytes of a store are good

-- the entry of a kept view whose content is that of a file
held_by : (entry : FileEntry) (views : List View) → is_held (standing_files (map bare_view views)) entry ≡ true
    → (view : View) × (other : FileEntry) × In view views × In other (standing_entries view.groups view.application)
    × (same_content entry other ≡ true)
held_by entry views held =
    let any = Any-from_list_any (same_content entry) (standing_files (map bare_view views)) held in
    let there = in_contains (standing_files (map bare_view views)) any.1 (any.0, any.2, any.3) in
    let from = flat_map_in (λ (v : BareView). standing_entries v.groups v.application) (map bare_view views) any.1 there in
    let view = map_in bare_view views from.0 from.1 in
    (view.0, any.1, view.1, subst (λ (v : BareView). In any.1 (standing_entries v.groups v.application)) (sym view.2) from.2, any.4)

module _ (Good : List ℕ → Type 0) where
  record GoodView (view : View) : Type 0 where
    program : (file : ListedFile) → In file view.program_files → Good file.bytes
    local : (file : DataFile) → In file view.data_files → Good file.bytes

  abbrev GoodViews : List View → Type 0
  GoodViews views = (view : View) → In view views → GoodView view

  same_views : (old new : List View) → new ≡ old → GoodViews old → GoodViews new
  same_views old new is good = subst GoodViews (sym is) good

  -- a view among them is another
  changed_view : (number : ℕ) (f : View → View) (views : List View)
      → ((view : View) → In view views → eqb view.number number ≡ true → GoodView (f view))
      → GoodViews views → GoodViews (with_view_at number f views)
  changed_view number f views changed good = λ view there.
      let from = map_in (λ (v : View). cond (eqb v.number number) (f v) v) views view there in
      subst GoodView from.2 (by from.0 from.1 (eqb from.0.number number) refl)
    where
      by : (v : View) → In v views → (b : Bool) → eqb v.number number ≡ b → GoodView (cond b (f v) v)
      by v there true is = changed v there is
      by v there false is = good v there

  -- a program file whose content a kept view has
  held_good : (old : Session) (files : List ListedFile) (file : ListedFile) → All IsView old.store.views
      → ShareBytes (program_files_of old.store ++ files) → GoodViews old.store.views → In file files
      → is_held (standing_files (shape_of old).views) file.entry ≡ true → Good file.bytes
  held_good old files file valid shared good there held =
      let by = held_by file.entry old.store.views held in
      let view = by.0 in
      let listed : In by.1 (map (λ (f : ListedFile). f.entry) view.program_files) =
      subst (λ (es : List FileEntry). In by.1 es) (sym (all_in IsView old.store.views view valid by.2).files) by.3 in
      let from = map_in (λ (f : ListedFile). f.entry) view.program_files by.1 listed in
      let kept : In from.0 (program_files_of old.store) = in_flat_map (λ (v : View). v.program_files) old.store.views view from.0 by.2 from.1 in
      let key : content_key file.entry ≡ content_key from.0.entry =
      (content_decides file.entry by.1).0 by.4 ∙ ap content_key (sym from.2) in
      let same : file.bytes ≡ from.0.bytes =
      each_alike (program_files_of old.store ++ files) shared file from.0 (in_right (program_files_of old.store) files file there) (in_left (program_files_of old.store) files from.0 kept) key in
      subst Good (sym same) ((good view by.2).program from.0 from.1)

  module _ (links : LinksState)
      (have : (n : ℕ) (target : Target) (bytes : List ℕ) → IsLeft links n → (links.link n).site target ≡ Some bytes → Good bytes) where
    of_site : (target : Target) (bytes : List ℕ) → IsOfSite links target bytes → Good bytes
    of_site target bytes is = have is.number target bytes is.left is.there

    came_good : (old : Session) (wants : List FileEntry) (view : View) (files : List ListedFile)
        (file : ListedFile) → All IsView old.store.views → ShareBytes (program_files_of old.store ++ files)
        → GoodViews old.store.views → In file files → IsHeldOrCame (IsFileOfSite links) (shape_of old) wants view file
        → Good file.bytes
    came_good old wants view files file valid shared good there (inl held) =
        held_good old files file valid shared good there held
    came_good old wants view files file valid shared good there (inr any) =
        let at = any.4 in of_site at.0 file.bytes at.3

    -- ---- data files that a new version has

    old_data : (key : Key) (store : Store) (file : DataFile) → GoodViews store.views
        → Contains (data_of (current_view key store)) file → Good file.bytes
    old_data key store file good there = by (current_view key store) refl (in_contains (data_of (current_view key store)) file there)
      where
        by : (found : Option View) → current_view key store ≡ found → In file (data_of found) → Good file.bytes
        by None is in_none = absurd in_none
        by (Some view) is in_view =
            let at = then_value (λ (n : ℕ). view_at n store.views) (current_of key store.apps) view is in
            (good view (view_in at.0 store.views view at.2).0).local file in_view

    carried_good : (store : Store) (view : View) (file : DataFile) → GoodViews store.views
        → IsCarriedOrOfSite links store view file → Good file.bytes
    carried_good store view file good (inl kept) = old_data (key_of view) store file good kept.there
    carried_good store view file good (inr (inl aside)) =
        subst Good (sym aside.bytes) (old_data (key_of view) store aside.from good aside.there)
    carried_good store view file good (inr (inr any)) = let at = any.4 in of_site at.0 file.bytes at.5

    -- ---- an install

    module _ (url : List ℕ) (heard : List (List ℕ)) (now : ℕ) (old : Session) (reply : Reply)
        (new : Session) (done : InstallEffect url heard now old reply new)
        (sound : Sound old.store) (sites : IsOfSites links url heard old new)
        (good : GoodViews old.store.views) where
      abbrev the_view : View
      the_view = new_view old.store.next_view done.base done.deployment done.application done.files done.installed.data_files

      views : new.store.views ≡ old.store.views ++ the_view ∷ []
      views = ap (λ (s : Session). s.store.views) done.is ∙ ap (λ (s : Store). s.views) done.installed.is

      new_good : GoodView the_view
      new_good = record {
        program = λ file there.
            came_good old (wanted (shape_of old).views done.application) the_view done.files file sound.valid.ordered.views done.fetched.shared good there
            (all_in (IsHeldOrCame (IsFileOfSite links) (shape_of old) (wanted (shape_of old).views done.application) the_view) done.files file (sites.brought the_view views) there);
        local = λ file there.
            carried_good old.store the_view file good
            (all_in (IsCarriedOrOfSite links old.store the_view) done.installed.data_files file (sites.data_files the_view views) there);
      }

      either : (view : View) → In view old.store.views ⊎ In view (the_view ∷ []) → GoodView view
      either view (inl before) = good view before
      either view (inr (inl is)) = subst GoodView is new_good
      either view (inr (inr none)) = absurd none

      install_good : GoodViews new.store.views
      install_good =
          subst GoodViews (sym views)
          (λ view there. either view (in_either old.store.views (the_view ∷ []) view there))

    -- ---- a group

    group_good : (lease : ℕ) (group : List ℕ) (old : Session) (reply : Reply) (new : Session)
        → GroupEffect lease group old reply new → Sound old.store
        → GroupOfSites links lease group old new → GoodViews old.store.views
        → GoodViews new.store.views
    group_good lease group old reply new done sound sites good =
        by done.comes
      where
        stores : new.store ≡ done.store
        stores = ap (λ (s : Session). s.store) done.is

        by : Comes group done.view old.store done.store → GoodViews new.store.views
        by (inl stood) = same_views old.store.views new.store.views (ap (λ (s : Store). s.views) (stores ∙ stood.1)) good
        by (inr comes) =
            let is : new.store ≡ record old.store { views = with_view_at done.view.number (with_group group comes.1.program_files) old.store.views } = stores ∙ comes.1.is in
            subst GoodViews (sym (ap (λ (s : Store). s.views) is))
            (changed_view done.view.number (with_group group comes.1.program_files) old.store.views
            (λ view there same. record { program = λ file stands. each comes.1 is file stands; local = (good view there).local }) good)
          where
            each : (grouped : Grouped group done.view old.store done.store) → new.store ≡ record old.store { views = with_view_at done.view.number (with_group group grouped.program_files) old.store.views }
                → (file : ListedFile) → In file grouped.program_files → Good file.bytes
            each grouped is file stands = split (is_in group file.entry) refl
              where
                leased : leased_view lease new.store ≡ Some (with_group group grouped.program_files done.view)
                leased =
                    let at = leased_by lease old.store done.view done.leased in
                    let own = eq-eqb done.view.number done.view.number refl in
                    ap (leased_view lease) is
                    ∙ ap (option_and_then (λ (l : Lease). view_at l.view (with_view_at done.view.number (with_group group grouped.program_files) old.store.views))) at.1
                    ∙ grouped_at done.view.number group grouped.program_files old.store at.0.view done.view at.2
                    ∙ ap (λ (b : Bool). Some (cond b (with_group group grouped.program_files done.view) done.view)) own

                split : (b : Bool) → is_in group file.entry ≡ b → Good file.bytes
                split true came =
                    let there : In file grouped.files =
                    subst (λ (fs : List ListedFile). In file fs) grouped.among.came (in_filter (λ (f : ListedFile). is_in group f.entry) grouped.program_files file came stands) in
                    came_good old (group_wanted (shape_of old).views group done.view.application) (with_group group grouped.program_files done.view) grouped.files file sound.valid.ordered.views grouped.fetched.shared good there
                    (all_in (IsHeldOrCame (IsFileOfSite links) (shape_of old) (group_wanted (shape_of old).views group done.view.application) (with_group group grouped.program_files done.view)) grouped.program_files file
                    (sites (with_group group grouped.program_files done.view) leased) stands)
                split false stayed =
                    let there : In file done.view.program_files =
                    subst (λ (fs : List ListedFile). In file fs) grouped.among.stayed (in_filter (λ (f : ListedFile). not (is_in group f.entry)) grouped.program_files file (ap not stayed) stands) in
                    let at = leased_by lease old.store done.view done.leased in
                    (good done.view (view_in at.0.view old.store.views done.view at.2).0).program file there

-- ---- a line

module _ (p : PublishInput) (folder : List Held) (links : LinksState)
    (have : SitesHaveNoOthers p folder links) where
  abbrev Good : List ℕ → Type 0
  Good bytes = AreNoOthers p folder bytes

  effect_good : (now at : ℕ) (heard : Heard) (command : Command) (old : Session) (reply : Reply)
      (new : Session) → effect now heard.texts command old reply new → Sound old.store
      → IsLineOfSites links (Line command at heard) old new
      → PutsNoOthers p folder command → GoodViews Good old.store.views
      → GoodViews Good new.store.views
  effect_good now at heard (At next) old reply new done sound sites puts good = same_views Good old.store.views new.store.views (ap (λ (s : Session). s.store.views) done.1) good
  effect_good now at heard (Require key version) old reply new done sound sites puts good = same_views Good old.store.views new.store.views (ap (λ (s : Session). s.store.views) done.1) good
  effect_good now at heard (Install url) old reply new done sound sites puts good =
      install_good Good links have url heard.texts now old reply new done sound sites good
  effect_good now at heard (Check key) old reply new done sound sites puts good = same_views Good old.store.views new.store.views (ap (λ (s : Session). s.store.views) done.is) good
  effect_good now at heard (Skip key) old reply new done sound sites puts good = same_views Good old.store.views new.store.views (ap (λ (s : Session). s.store.views) done.is) good
  effect_good now at heard (Rollback key) old reply new done sound sites puts good = same_views Good old.store.views new.store.views (ap (λ (s : Session). s.store.views) done.is) good
  effect_good now at heard (Launch key) old reply new done sound sites puts good = same_views Good old.store.views new.store.views (ap (λ (s : Session). s.store.views) done.is) good
  effect_good now at heard (Read lease name from count) old reply new done sound sites puts good = same_views Good old.store.views new.store.views (ap (λ (s : Session). s.store.views) done.is) good
  effect_good now at heard (Local lease name from count) old reply new done sound sites puts good = same_views Good old.store.views new.store.views (ap (λ (s : Session). s.store.views) done.is) good
  effect_good now at heard (Put lease name bytes) old reply new done sound sites puts good =
      subst (GoodViews Good) (sym (ap (λ (s : Session). s.store.views) done.is))
      (changed_view Good done.view.number (with_data (a_file name bytes)) old.store.views
      (λ view there same. record {
        program = (good view there).program;
        local = λ file stands.
            put view there file (with_named_in data_name (a_file name bytes) view.data_files file stands);
      }) good)
    where
      put : (view : View) → In view old.store.views → (file : DataFile) → (a_file name bytes ≡ file) ⊎ In file view.data_files → Good file.bytes
      put view there file (inl is) = subst (λ (f : DataFile). Good f.bytes) is puts
      put view there file (inr stood) = (good view there).local file stood
  effect_good now at heard (Remove lease name) old reply new done sound sites puts good =
      subst (GoodViews Good) (sym (ap (λ (s : Session). s.store.views) done.is))
      (changed_view Good done.view.number (without_data name) old.store.views
      (λ view there same. record {
        program = (good view there).program;
        local = λ file stands. (good view there).local file (kept_of view file stands);
      }) good)
    where
      kept_of : (view : View) (file : DataFile) → In file (without_named data_name name view.data_files) → In file view.data_files
      kept_of view file stands = (filter_in (λ (f : DataFile). not (bytes_eq f.name name)) view.data_files file stands).1
  effect_good now at heard (Group lease group) old reply new done sound sites puts good =
      group_good Good links have lease group old reply new done sound sites good
  effect_good now at heard (Finish lease) old reply new done sound sites puts good = same_views Good old.store.views new.store.views (ap (λ (s : Session). s.store.views) done.1) good
  effect_good now at heard Clean old reply new done sound sites puts good =
      subst (GoodViews Good) (sym (ap (λ (s : Session). s.store.views) done.1))
      (λ view there. good view (filter_in (λ (v : View). is_in_use v.number old.store.apps old.store.leases) old.store.views view there).1)
  effect_good now at heard asks.List old reply new done sound sites puts good = same_views Good old.store.views new.store.views (ap (λ (s : Session). s.store.views) done.1) good
  effect_good now at heard (Show key) old reply new done sound sites puts good = same_views Good old.store.views new.store.views (ap (λ (s : Session). s.store.views) done.is) good

  step_good : (now : ℕ) (event : Event) (reply : Option Reply) (old new : Session)
      → Step now old event reply new → Sound old.store → IsLineOfSites links event old new
      → EventPutsNoOthers p folder event → GoodViews Good old.store.views
      → GoodViews Good new.store.views
  step_good now (Boot boot) reply old new step sound sites puts good =
      same_views Good old.store.views new.store.views (ap (λ (s : Session). s.store.views) step.1) good
  step_good now (Unread fault) reply old new step sound sites puts good =
      same_views Good old.store.views new.store.views (ap (λ (s : Session). s.store.views) step.1) good
  step_good now (Line command at heard) reply old new step sound sites puts good =
      by (kept_or_effect now heard.texts old command step.answer new step.answers)
    where
      by : Kept command old step.answer new
          ⊎ (PassesAll (refusals now heard.texts (shape_of old) command)
          × effect now heard.texts command old step.answer new) → GoodViews Good new.store.views
      by (inl kept) = same_views Good old.store.views new.store.views kept.views good
      by (inr done) = effect_good now at heard command old step.answer new done.1 sound sites puts good

  -- ---- lines

  keeps_good : (session : Session) → KeepsNoOthers p folder session → GoodViews Good session.store.views
  keeps_good session keeps = λ view there. record {
    program = λ file stands.
        keeps file.bytes (inl (any_in (λ (v : View). Any (λ (f : ListedFile). f.bytes ≡ file.bytes) v.program_files) session.store.views view there
        (any_in (λ (f : ListedFile). f.bytes ≡ file.bytes) view.program_files file stands refl)));
    local = λ file stands.
        keeps file.bytes (inr (any_in (λ (v : View). Any (λ (f : DataFile). f.bytes ≡ file.bytes) v.data_files) session.store.views view there
        (any_in (λ (f : DataFile). f.bytes ≡ file.bytes) view.data_files file stands refl)));
  }

  good_keeps : (session : Session) → GoodViews Good session.store.views → KeepsNoOthers p folder session
  good_keeps session good = λ bytes kept. by bytes kept
    where
      by : (bytes : List ℕ) → KeepsBytes session bytes → Good bytes
      by bytes (inl any) =
          let view = in_contains session.store.views any.1 (any.0, any.2, any.3) in
          let file = any.4 in
          subst Good file.4 ((good any.1 view).program file.1 (in_contains any.1.program_files file.1 (file.0, file.2, file.3)))
      by bytes (inr any) =
          let view = in_contains session.store.views any.1 (any.0, any.2, any.3) in
          let file = any.4 in
          subst Good file.4 ((good any.1 view).local file.1 (in_contains any.1.data_files file.1 (file.0, file.2, file.3)))

  lines_good : (from : Origin) (lines : List ReportLine) (last : Session) → Sound from.session.store
      → AreRunFrom from.now lines
      → All (λ (l : ReportLine). EventPutsNoOthers p folder l.event) lines
      → GoodViews Good from.session.store.views → AreOfSites links from lines last
      → GoodViews Good last.store.views
  lines_good from [] last sound at puts good are =
      same_views Good from.session.store.views last.store.views (ap (λ (s : Session). s.store.views) are) good
  lines_good from (l ∷ lines) last sound at puts good are =
      let mid = are.0 in
      let is = is_event from.now l.event at.0 in
      let next : Sound mid.store =
      run_sound from.now from.session (l.event ∷ []) (l.reply ∷ []) mid (All-cons IsEvent l.event [] is (All-nil IsEvent)) (mid, are.1, refl) sound in
      lines_good (origin_after from l.reply mid) lines last next
      at.1
      (All-tail (λ (x : ReportLine). EventPutsNoOthers p folder x.event) l lines puts)
      (step_good from.now l.event l.reply from.session mid are.1 sound are.2
      (All-head (λ (x : ReportLine). EventPutsNoOthers p folder x.event) l lines puts) good)
      are.3

pub no_others_come : (links : LinksState) → NoOthersCome links
no_others_come links p folder from lines last have puts keeps sound at are =
    good_keeps p folder links have last
    (lines_good p folder links have from lines last sound at puts
    (keeps_good p folder links have from.session keeps) are)
