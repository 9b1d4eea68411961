-- What was published is what is read.
use Rattle.std.proofs.Common.{◌≡◌, ◌≢◌, ◌∙◌, ◌⊎◌, ◌++◌, ◌<◌, inl, inr, refl, sym, ap, subst, ℕ, zero, suc, Bool, true, false, not, ◌&&◌, eqb, eq-eqb, ne_eqb, List, [], ◌∷◌, map, length, Any, Contains, Option, Some, None, IfSome, Result, Ok, bytes_eq, arith}
use Rattle.std.specs.Prelude.{filter, option_and_then, option_map, slice_get}
use Rattle.std.proofs.lemmas.List.Elements.{All-nil, All-cons}
use Rattle.std.proofs.lemmas.Option.{none-some, same_Some}
use Rattle.std.proofs.lemmas.Slice.Eq.{bytes_eq-Decides}
use Rattle.small_types.specs.declared.limits.TheConstants.{MANIFEST_LIMIT}
use Rattle.small_types.specs.declared.target.Target.{Target}
use Rattle.small_types.specs.Name.{IsBelowPre}
use Rattle.addresses.specs.declared.fault.UrlFault.{UrlFault}
use Rattle.addresses.specs.Join.{app_target_of, file_target_of}
use Rattle.folders.specs.declared.folder.Held.{Held}
use Rattle.folders.specs.Files.{file_in}
use Rattle.digest_list.specs.Matches.{Matches}
use Rattle.http_plain.specs.Path.{name_in_path}
use Rattle.http_plain.specs.Sites.{file_named as file_at, served}
use Rattle.fetcher.specs.Given.{FitsText, Given}
use Rattle.manifests.specs.declared.facts.Application.{Application}
use Rattle.manifests.specs.declared.facts.Deployment.{Deployment}
use Rattle.manifests.specs.declared.facts.FileEntry.{FileEntry}
use Rattle.manifests.specs.Facts.{IsFile}
use Rattle.manifest_parts.specs.Parts.{Tells}
use Rattle.manifests.specs.Applications.{application_of}
use Rattle.manifests.specs.Deployments.{deployment_of}
use Rattle.publish_plan.specs.Places.{codebase, deployment_name, manifest_name, target_name}
use Rattle.publisher.specs.Publication as writes
use Rattle.machine.specs.declared.command.Command.TheVariants.{Install, Launch}
use Rattle.machine.specs.declared.event.Event.{Event}
use Rattle.machine.specs.declared.event.Event.TheVariants.{Line}
use Rattle.machine.specs.declared.lease.Lease.{Lease}
use Rattle.machine.specs.declared.reply.Reply.{Reply}
use Rattle.machine.specs.declared.reply.Reply.TheVariants as says
use Rattle.machine.specs.Current.{current_view, data_of, listed_by, view_at}
use Rattle.machine.specs.DataFiles.{data_named}
use Rattle.machine.specs.DataLaws.{DataIsOfFiles, KeptDataFilesStay, data_at}
use Rattle.machine.specs.Installed.{new_view}
use Rattle.machine.specs.InstallRow.{InstallEffect, install_refusals}
use Rattle.machine.specs.Laws.{RunsKeepSound}
use Rattle.machine.specs.LeaseLaws.{ReadsAreOfFiles}
use Rattle.machine.specs.Leases.{lease_of, leased_view}
use Rattle.machine.specs.LifeLaws.{IsSameRelease, ViewsAreNew}
use Rattle.machine.specs.Machine.{Answers, Step}
use Rattle.machine.specs.Migrated.{IsAside, IsFresh, IsKept}
use Rattle.machine.specs.ReadRow.{part}
use Rattle.machine.specs.Shape.{Shape, shape_of}
use Rattle.machine.specs.Sound.{IsWhole, Sound}
use Rattle.machine.specs.Store.{Session, Store}
use Rattle.machine.specs.Valid.{IsView}
use Rattle.machine.specs.Views.{DataFile, ListedFile, View, key_of, standing_entries, stands_by}
use Rattle.machine.specs.Words.{IsEvent}
use Rattle.machine.proofs.FirstRefusal.{AllGive, given_reply}
use Rattle.machine.proofs.FirstFound.{find-last, find_in, find_none, some_there}
use Rattle.machine.proofs.Leased.{file_in as listed_in, leased_by, leased_in, leased_valid, view_in}
use Rattle.machine.proofs.LeaseLists.{lease_below}
use Rattle.machine.proofs.Members.{In, all_in, contains_in, filter_in, in_all, in_contains, in_map}
use Rattle.machine.proofs.Names.{aside_below}
use Rattle.machine.proofs.ViewSteps.{view_below}
use Rattle.updater_cli.specs.Offered.{IsAskedFor, PublishInput, Sites, input_file, links_of, listed}
use Rattle.updater_cli.specs.Published.{PublishedRun, GivesInput, IsFreshData, IsGiven, IsOffered, KeepsBytes, KeepsNoOthers, RunsOn, PublishedDataIsRead, PublishedIsGiven, PublishedIsRead, ReadsInput, ReadsInputData, ShowsInput}
use Rattle.updater_cli.proofs.AllThere.{count_all, number_all}
use Rattle.updater_cli.proofs.PublishedDigests.{digests_match}
use Rattle.updater_cli.proofs.PublishedOut.{IsOut}
use Rattle.updater_cli.proofs.PublishedRelease.{is_out}
use Rattle.updater_cli.proofs.PublishedRuns.{run_next, run_uses}
use Rattle.updater_cli.proofs.PublishedUses.{KeepsUses}

-- ---- what links give whose first site has it

pub no_some : {X : Type 0} (P : X → Type 0) (o : Option X) (x : X) → o ≡ Some x → IfSome o (λ y. ¬ P y) → P x → ⊥
no_some P (Some y) x is not holds = not (subst P (sym (same_Some y x is)) holds)
no_some P None x is not holds = none-some x is

first_given : (Fits : List ℕ → Type 0) (sites : Sites) (target : Target) (bytes : List ℕ) (found : Option (List ℕ)) → 0 < sites.sources → sites.site 0 target ≡ Some bytes → Fits bytes
    → Given Fits (links_of sites) target found → found ≡ Some bytes
first_given Fits sites target bytes None some there fits given =
    let none : IfSome (sites.site 0 target) (λ b. ¬ Fits b) =
    subst (λ (m : ℕ). IfSome (sites.site m target) (λ b. ¬ Fits b)) (number_all sites.sources 0 some)
    (given 0 (omega (arith, some, count_all sites.sources))) in
    absurd (no_some Fits (sites.site 0 target) bytes there none fits)
first_given Fits sites target bytes (Some other) some there fits given =
    let within : given.place < sites.sources = omega (arith, given.within, count_all sites.sources) in
    by given.place (subst (λ (m : ℕ). sites.site m target ≡ Some other) (number_all sites.sources given.place within) given.there)
    (λ k less. subst (λ (m : ℕ). IfSome (sites.site m target) (λ b. ¬ Fits b)) (number_all sites.sources k (omega (arith, less, within))) (given.first k less))
  where
    by : (place : ℕ) → sites.site place target ≡ Some other → ((k : ℕ) → k < place → IfSome (sites.site k target) (λ b. ¬ Fits b)) → Some other ≡ Some bytes
    by zero is before = sym is ∙ there
    by (suc k) is before = absurd (no_some Fits (sites.site 0 target) bytes there (before 0 (omega arith)) fits)

-- the site of the folder at a target whose path names a file
pub at_name : (folder : List Held) (sites : Sites) (target : Target) (name bytes : List ℕ) → sites.site 0 target ≡ served folder target → name_in_path target.path ≡ Some name → file_in name folder ≡ Some bytes
    → sites.site 0 target ≡ Some bytes
at_name folder sites target name bytes shows named there = shows ∙ ap (file_at folder) named ∙ there

-- ---- an answer that is an installation

abbrev is_installed : Reply → Bool
is_installed (says.Installed key version view) = true
is_installed _ = false

abbrev IsOther : Reply → Type 0
IsOther reply = is_installed reply ≡ false

others : (url : List ℕ) (heard : List (List ℕ)) (shape : Shape) → AllGive IsOther (install_refusals url heard shape)
others url heard shape = (
  (λ r g. ap is_installed g.1),
  (
    (λ r g. ap is_installed g.2),
    (
      (λ r g. ap is_installed g.3),
      (
        (λ r g. ap is_installed g.2),
        (
          (λ r g. ap is_installed g.2),
          (
            (λ r g. ap is_installed g.2),
            (
              (λ r g. ap is_installed g.1),
              (
                (λ r g. ap is_installed g.1),
                (
                  (λ r g. ap is_installed g.1),
                  (
                    (λ r g. ap is_installed g.1),
                    (
                      (λ r g. ap is_installed g.2),
                      (
                        (λ r g. ap is_installed g.3),
                        (
                          (λ r g. ap is_installed g.2),
                          (
                            (λ r g. ap is_installed g.2),
                            (
                              (λ r g. ap is_installed g.1),
                              (
                                (λ r g. ap is_installed g.1),
                                (
                                  (λ r g. ap is_installed g.1),
                                  (
                                    (λ r g. ap is_installed g.2),
                                    ((λ r g. ap is_installed g.2), ((λ r g. ap is_installed g.3), tt)),
                                  ),
                                ),
                              ),
                            ),
                          ),
                        ),
                      ),
                    ),
                  ),
                ),
              ),
            ),
          ),
        ),
      ),
    ),
  ),
)

not_other : (b : Bool) → b ≡ true → b ≡ false → ⊥
not_other true is other = cc
not_other false is other = cc

install_done : (at : ℕ) (heard : List (List ℕ)) (old : Session) (url : List ℕ) (reply : Reply) (new : Session) → is_installed reply ≡ true
    → Answers at heard old (Install url) reply new → InstallEffect url heard at old reply new
install_done at heard old url reply new is (inl (inl memory)) = absurd (not_other (is_installed reply) is (ap is_installed memory.0))
install_done at heard old url reply new is (inl (inr refused)) =
    absurd (not_other (is_installed reply) is (given_reply IsOther (install_refusals url heard (shape_of old)) old reply new (others url heard (shape_of old)) refused.1))
install_done at heard old url reply new is (inr done) = done.1

number_is : (a b : _) (v w : _) (m n : ℕ) → says.Installed a v m ≡ says.Installed b w n → m ≡ n
number_is a b v w m n e = cc

pub ok_is : (a b : Target) → ◌≡◌ {A = Result Target UrlFault} (Ok a) (Ok b) → a ≡ b
ok_is a b e = cc

same_answer : (a b : Reply) → ◌≡◌ {A = Option Reply} (Some a) (Some b) → a ≡ b
same_answer a b e = cc

-- ---- one step as a run, and soundness through runs

module _ (runs_sound : RunsKeepSound) where
  one_sound : (at : ℕ) (old : Session) (event : Event) (reply : Option Reply) (new : Session) → IsEvent event → Step at old event reply new → Sound old.store → Sound new.store
  one_sound at old event reply new is step sound =
      runs_sound at old (event ∷ []) (reply ∷ []) new (All-cons IsEvent event [] is (All-nil IsEvent)) (new, step, refl) sound

  leads_sound : (old new : Session) → RunsOn old new → Sound old.store → Sound new.store
  leads_sound old new l sound = runs_sound l.now old l.events l.replies new l.each l.run sound

leads_uses : (old new : Session) → RunsOn old new → KeepsUses old.store new.store
leads_uses old new l = run_uses l.now old l.events l.replies new l.run

mapped_some : {X Y : Type 0} (f : X → Y) (o : Option X) (y : Y) → option_map f o ≡ Some y → (x : X) × (o ≡ Some x) × (f x ≡ y)
mapped_some f None y is = absurd (none-some y is)
mapped_some f (Some x) y is = (x, refl, same_Some (f x) y is)

pub any_in : {X : Type 0} (P : X → Type 0) (xs : List X) (x : X) → In x xs → P x → Any P xs
any_in P xs x there holds = let at = contains_in xs x there in (at.0, x, at.1, at.2, holds)

-- ---- the law

module _ (runs_sound : RunsKeepSound) (data_stay : KeptDataFilesStay) (data_is : DataIsOfFiles)
    (reads_are : ReadsAreOfFiles) (views_new : ViewsAreNew) (p : PublishInput)
    (files folder : List Held) (sites : Sites) (c : PublishedRun p sites)
    (offered : IsOffered p files folder sites c) where
  out : IsOut p folder
  out = is_out p files folder offered.writes offered.holds

  -- what the first link has of what the install asks for
  shown : (target : Target) → IsAskedFor p c.install.texts.given target → sites.site 0 target ≡ served folder target
  shown target asked = offered.first.shows c.install.texts.given target c.install.texts.read asked

  -- ---- what was heard

  given_is : sites.site 0 c.install.texts.given ≡ Some out.last
  given_is = at_name folder sites c.install.texts.given (deployment_name p.options) out.last (shown c.install.texts.given (inl refl)) c.install.reaches.named out.deployment

  heard_first : slice_get c.install.heard.texts 0 ≡ Some out.last
  heard_first = first_given (FitsText MANIFEST_LIMIT) sites c.install.texts.given out.last (slice_get c.install.heard.texts 0) offered.first.some given_is out.deployment_short c.install.texts.deployment

  -- what the first text tells is what was written
  first_told : (text : List ℕ) (d : Deployment) → slice_get c.install.heard.texts 0 ≡ Some text → Tells deployment_of text (Ok d) → d ≡ writes.deployment_of p.options out.text
  first_told text d is told = out.deployment_told d (subst (λ (t : List ℕ). Tells deployment_of t (Ok d)) (same_Some text out.last (sym is ∙ heard_first)) told)

  second_base : Target
  second_base = c.install.texts.application.4.0

  second_joined : app_target_of c.install.texts.given (codebase p.options) ≡ Ok second_base
  unfolding second_base
  second_joined =
      let app = c.install.texts.application in
      subst (λ (d : Deployment). app_target_of c.install.texts.given d.codebase ≡ Ok app.4.0) (first_told app.0 app.1 app.2 app.3) app.4.1

  heard_second : slice_get c.install.heard.texts 1 ≡ Some out.text
  unfolding second_base
  heard_second =
      let app = c.install.texts.application in
      first_given (Matches app.1.app_list app.1.app_size) sites second_base out.text (slice_get c.install.heard.texts 1) offered.first.some
      (at_name folder sites second_base (manifest_name p.options) out.text (shown second_base (inr (inl second_joined))) (out.base c.install.url c.install.texts.given second_base c.install.texts.read c.install.reaches second_joined) out.application)
      (subst (λ (d : Deployment). Matches d.app_list d.app_size out.text) (sym (first_told app.0 app.1 app.2 app.3)) (digests_match out.text)) app.4.2

  -- ---- what was installed

  answer_is : says.Installed c.key c.install.version c.number ≡ c.install.step.answer
  answer_is = same_Some (says.Installed c.key c.install.version c.number) c.install.step.answer c.install.step.replied

  done : InstallEffect c.install.url c.install.heard.texts c.install.at c.before c.install.step.answer c.installed
  done = install_done c.install.at c.install.heard.texts c.before c.install.url c.install.step.answer c.installed (ap is_installed (sym answer_is)) c.install.step.answers

  number : c.number ≡ c.before.store.next_view
  number = number_is _ _ _ _ _ _ (answer_is ∙ done.replied)

  deployment_is : done.deployment ≡ writes.deployment_of p.options out.text
  deployment_is = let t = done.told in sym t.4.4.0 ∙ first_told t.0 t.1 t.2 t.3

  application_is : done.application ≡ writes.application_of p.options (listed p)
  application_is =
      let t = done.told in
      sym t.4.4.1 ∙ out.application_told t.4.1 (subst (λ (x : List ℕ). Tells application_of x (Ok t.4.1)) (same_Some t.4.0 out.text (sym t.4.2 ∙ heard_second)) t.4.3)

  base_joined : app_target_of c.install.texts.given (codebase p.options) ≡ Ok done.base
  base_joined =
      subst (λ (x : Target). app_target_of x (codebase p.options) ≡ Ok done.base) (ok_is done.target c.install.texts.given (sym done.read ∙ c.install.texts.read))
      (subst (λ (d : Deployment). app_target_of done.target d.codebase ≡ Ok done.base) deployment_is done.joined)

  abbrev the_view : View
  the_view = new_view c.before.store.next_view done.base done.deployment done.application done.files done.installed.data_files

  views_are : c.installed.store.views ≡ c.before.store.views ++ the_view ∷ []
  views_are = ap (λ (s : Session). s.store.views) done.is ∙ ap (λ (s : Store). s.views) done.installed.is

  -- ---- sound sessions

  before_sound : Sound c.before.store
  before_sound = leads_sound runs_sound c.first c.before c.start c.sound

  installed_sound : Sound c.installed.store
  installed_sound = one_sound runs_sound c.install.at c.before (Line (Install c.install.url) c.install.at c.install.heard) (Some (says.Installed c.key c.install.version c.number)) c.installed c.install.event c.install.step before_sound

  launching_sound : Sound c.launching.store
  launching_sound = leads_sound runs_sound c.installed c.launching c.then_lines installed_sound

  launched_sound : Sound c.launched.store
  launched_sound = one_sound runs_sound c.launch.at c.launching (Line (Launch c.key) c.launch.at c.launch.heard) (Some (says.Lease c.lease c.launch.version c.launch.check_due)) c.launched c.launch.event c.launch.step launching_sound

  last_sound : Sound c.last.store
  last_sound = leads_sound runs_sound c.launched c.last c.more_lines launched_sound

  -- ---- the view

  none_before : view_at c.before.store.next_view c.before.store.views ≡ None
  none_before =
      let next = c.before.store.next_view in
      find_none (λ (v : View). eqb v.number next) c.before.store.views
      (in_all (λ (v : View). eqb v.number next ≡ false) c.before.store.views (λ v there.
      ne_eqb v.number next (λ e. (let less =
      all_in (λ (n : ℕ). n < next) (map (λ (u : View). u.number) c.before.store.views) v.number before_sound.valid.ordered.view_numbers.below
      (in_map (λ (u : View). u.number) c.before.store.views v there) in omega (arith, less, e)))))

  the_there : view_at c.number c.installed.store.views ≡ Some the_view
  the_there =
      let next = c.before.store.next_view in
      ap (λ (n : ℕ). view_at n c.installed.store.views) number ∙ ap (view_at next) views_are
      ∙ find-last (λ (v : View). eqb v.number next) c.before.store.views the_view none_before (eq-eqb next next refl)

  -- ---- where a view of that number is kept later, it was kept all along, as the same release

  abbrev launch_events : List Event
  launch_events = Line (Launch c.key) c.launch.at c.launch.heard ∷ []

  abbrev launch_replies : List (Option Reply)
  launch_replies = Some (says.Lease c.lease c.launch.version c.launch.check_due) ∷ []

  below_installed : c.number < c.installed.store.next_view
  below_installed =
      view_below c.number c.installed.store installed_sound.valid.ordered
      (some_there (view_at c.number c.installed.store.views) the_view the_there)

  below_launching : c.number < c.launching.store.next_view
  below_launching =
      let next = run_next c.then_lines.now c.installed c.then_lines.events c.then_lines.replies
      c.launching c.then_lines.run in omega (arith, below_installed, next)

  below_launched : c.number < c.launched.store.next_view
  below_launched =
      let next = run_next c.launch.at c.launching launch_events launch_replies c.launched
      (c.launched, c.launch.step, refl) in omega (arith, below_launching, next)

  abbrev WasKept : View → Session → Type 0
  WasKept view session =
      (was : View) × (view_at c.number session.store.views ≡ Some was) × IsSameRelease was view

  was_launched : (view : View) → view_at c.number c.last.store.views ≡ Some view
      → WasKept view c.launched
  was_launched view is =
      views_new c.more_lines.now c.launched c.more_lines.events c.more_lines.replies c.last c.number
      view c.more_lines.run below_launched is

  was_launching : (view : View) → view_at c.number c.launched.store.views ≡ Some view
      → WasKept view c.launching
  was_launching view is =
      views_new c.launch.at c.launching launch_events launch_replies c.launched c.number view
      (c.launched, c.launch.step, refl) below_launching is

  was_installed : (view : View) → view_at c.number c.launching.store.views ≡ Some view
      → WasKept view c.installed
  was_installed view is =
      views_new c.then_lines.now c.installed c.then_lines.events c.then_lines.replies c.launching
      c.number view c.then_lines.run below_installed is

  -- ---- what is given

  entry_given : (entry : FileEntry) → Contains (listed p) entry → IsGiven p sites the_view entry
  entry_given entry there target read =
      let f = out.files entry there in
      let at : file_target_of done.base p.options.mapped entry.name ≡ Ok target =
      subst (λ (d : Deployment). file_target_of done.base d.mapped entry.name ≡ Ok target) deployment_is read in
      let way = out.reached c.install.url c.install.texts.given done.base c.install.texts.read c.install.reaches base_joined entry there target at in (
        f.whole,
        f.input,
        record {
          place = 0;
          within = omega (arith, offered.first.some, count_all sites.sources);
          there = subst (λ (m : ℕ). sites.site m target ≡ Some f.whole) (sym (number_all sites.sources 0 offered.first.some))
              (at_name folder sites target (target_name p.options entry.name) f.whole (shown target (inr (inr (done.base, entry, base_joined, there, at)))) way f.out);
          fits = f.matching;
          first = λ k less. absurd (omega (arith, less));
        },
      )

  all_given : GivesInput p sites c
  all_given view is =
      subst (λ (v : View). (v.application.files ≡ listed p) × ((entry : FileEntry) → Contains (listed p) entry → IsGiven p sites v entry))
      (same_Some the_view view (sym the_there ∙ is)) (ap (λ (a : Application). a.files) application_is, entry_given)

  -- ---- the leased view at the last line

  leased_number : (view : View) → leased_view c.lease c.last.store ≡ Some view → view_at c.number c.last.store.views ≡ Some view
  leased_number view is =
      let by = leased_by c.lease c.last.store view is in
      let l = mapped_some (λ (x : Lease). x.view) (lease_of c.lease c.launched.store.leases) c.number c.launch.leased in
      let less = lease_below c.launched.store.next_lease c.lease c.launched.store.leases launched_sound.valid.ordered.lease_numbers.below (some_there (lease_of c.lease c.launched.store.leases) l.0 l.1) in
      let kept = (leads_uses c.launched c.last c.more_lines).leases c.lease by.0 less by.1 in
      let same : by.0 ≡ l.0 = same_Some by.0 l.0 (sym kept ∙ l.1) in
      subst (λ (n : ℕ). view_at n c.last.store.views ≡ Some view) (ap (λ (x : Lease). x.view) same ∙ l.2) by.2

  -- its release is the one that was published
  leased_release : (view : View) → view_at c.number c.last.store.views ≡ Some view
      → view.application ≡ writes.application_of p.options (listed p)
  leased_release view there =
      let at_launched = was_launched view there in
      let at_launching = was_launching at_launched.0 at_launched.1 in
      let at_first = was_installed at_launching.0 at_launching.1 in
      at_launched.2.application ∙ at_launching.2.application ∙ at_first.2.application
      ∙ ap (λ (v : View). v.application) (same_Some at_first.0 the_view (sym at_first.1 ∙ the_there))
      ∙ application_is

  -- ---- bytes that match are those of the input file

  shows : (session : Session) (entry : FileEntry) (name whole : List ℕ) (from count shown : ℕ) (bytes : List ℕ) → KeepsNoOthers p folder session → Contains (listed p) entry → KeepsBytes session whole
      → Matches entry.list entry.size whole → entry.name ≡ name → shown ≡ length whole → bytes ≡ part from count whole → ShowsInput p name from count shown bytes
  shows session entry name whole from count shown bytes only there keeps matching named size is =
      let f = out.files entry there in
      let same : whole ≡ f.whole = same_Some whole f.whole (sym (only whole keeps entry there matching) ∙ f.out) in
      record {
        whole = f.whole;
        input = ap (input_file p) (sym named) ∙ f.input;
        size = size ∙ ap length same;
        is_part = is ∙ ap (part from count) same;
      }

  -- ---- program files

  program_shown : KeepsNoOthers p folder c.last → ReadsInput p sites c
  program_shown only at heard name from count shown bytes new answers =
      let r = reads_are at heard c.last c.lease name from count shown bytes new last_sound answers in
      let release = leased_release r.view (leased_number r.view r.leased) in
      let valid = leased_valid c.lease c.last.store r.view last_sound.valid.ordered r.leased in
      let found = listed_in name r.view.program_files r.file r.found in
      let standing : In r.file.entry (standing_entries r.view.groups r.view.application) =
      subst (λ (es : List FileEntry). In r.file.entry es) valid.files (in_map (λ (f : ListedFile). f.entry) r.view.program_files r.file found.0) in
      let own = filter_in (λ (e : FileEntry). not e.local && stands_by r.view.groups e.group) r.view.application.files r.file.entry standing in
      let there = contains_in (listed p) r.file.entry (subst (λ (a : Application). In r.file.entry a.files) release own.1) in
      let keeps : KeepsBytes c.last r.file.bytes =
      inl (any_in (λ (view : View). Any (λ (file : ListedFile). file.bytes ≡ r.file.bytes) view.program_files) c.last.store.views r.view (leased_in c.lease c.last.store r.view r.leased)
      (any_in (λ (file : ListedFile). file.bytes ≡ r.file.bytes) r.view.program_files r.file found.0 refl)) in
      shows c.last r.file.entry name r.file.bytes from count shown bytes only there keeps r.whole ((bytes_eq-Decides r.file.entry.name name).0 found.1) r.size r.is_part

  -- ---- data files

  module _ (name : List ℕ) (fresh : IsFreshData c.number name c.before.store c.installed.store) where
    fresh_same : fresh.view ≡ the_view
    fresh_same = same_Some fresh.view the_view (sym fresh.kept ∙ the_there)

    alone : (file : DataFile) → IsKept (data_of (current_view done.deployment.identity.key c.before.store)) (listed_by (current_view done.deployment.identity.key c.before.store)) done.application.files file
        → ◌≢◌ {A = List ℕ} file.name name
    alone = subst (λ (v : View). (file : DataFile) → IsKept (data_of (current_view (key_of v) c.before.store)) (listed_by (current_view (key_of v) c.before.store)) v.application.files file → ◌≢◌ {A = List ℕ} file.name name)
        fresh_same fresh.alone

    above : IsBelowPre fresh.entry.name → ⊥
    above =
        let valid = all_in IsView c.installed.store.views fresh.view installed_sound.valid.ordered.views (view_in c.number c.installed.store.views fresh.view fresh.kept).0 in
        (all_in IsFile fresh.view.application.files fresh.entry valid.application.facts.each (in_contains fresh.view.application.files fresh.entry fresh.there)).above

    module _ (from count shown : ℕ) (bytes : List ℕ) (only : KeepsNoOthers p folder c.installed) (file : DataFile) (there : In file done.installed.data_files) (named : file.name ≡ name) (size : shown ≡ length file.bytes)
        (is : bytes ≡ part from count file.bytes) where
      data_by : IsKept (data_of (current_view done.deployment.identity.key c.before.store)) (listed_by (current_view done.deployment.identity.key c.before.store)) done.application.files file
          ⊎ IsAside (data_of (current_view done.deployment.identity.key c.before.store)) (listed_by (current_view done.deployment.identity.key c.before.store)) done.application.files file
          ⊎ IsFresh (data_of (current_view done.deployment.identity.key c.before.store)) (listed_by (current_view done.deployment.identity.key c.before.store)) done.application.files done.originals file
          → ShowsInput p name from count shown bytes
      data_by (inl kept) = absurd (alone file kept named)
      data_by (inr (inl kept)) = absurd (above (subst IsBelowPre (sym (fresh.named ∙ sym named ∙ kept.name)) (aside_below kept.from.name)))
      data_by (inr (inr came)) =
          let inside = in_contains done.originals came.original came.deployed in
          let deployed : In came.original.entry (filter (λ (e : FileEntry). e.local) done.application.files) =
          subst (λ (es : List FileEntry). In came.original.entry es) done.fetched.deployed (in_map (λ (f : ListedFile). f.entry) done.originals came.original inside) in
          let own = filter_in (λ (e : FileEntry). e.local) done.application.files came.original.entry deployed in
          let entry = contains_in (listed p) came.original.entry (subst (λ (a : Application). In came.original.entry a.files) application_is own.1) in
          let keeps : KeepsBytes c.installed file.bytes =
          inr (any_in (λ (view : View). Any (λ (f : DataFile). f.bytes ≡ file.bytes) view.data_files) c.installed.store.views the_view (view_in c.number c.installed.store.views the_view the_there).0
          (any_in (λ (f : DataFile). f.bytes ≡ file.bytes) done.installed.data_files file there refl)) in
          let matching : Matches came.original.entry.list came.original.entry.size file.bytes =
          subst (Matches came.original.entry.list came.original.entry.size) (sym came.bytes) (all_in IsWhole done.originals came.original done.fetched.whole_data inside) in
          shows c.installed came.original.entry name file.bytes from count shown bytes only entry keeps matching (sym came.name ∙ named) size is

  data_shown : KeepsNoOthers p folder c.installed → ReadsInputData p sites c
  data_shown only at heard name from count shown bytes new fresh untouched answers =
      let r = data_is at heard c.last c.lease name from count shown bytes new answers in
      let last : data_at c.number name c.last.store ≡ Some r.file = ap (option_and_then (λ (v : View). data_named name v.data_files)) (leased_number r.view r.leased) ∙ r.found in
      let there = leased_number r.view r.leased in
      let at_launched = was_launched r.view there in
      let at_launching = was_launching at_launched.0 at_launched.1 in
      let kept_launched = some_there (view_at c.number c.launched.store.views) at_launched.0 at_launched.1 in
      let kept_launching = some_there (view_at c.number c.launching.store.views) at_launching.0 at_launching.1 in
      let third = data_stay c.number name c.more_lines.now c.launched c.more_lines.events c.more_lines.replies c.last c.more_lines.run launched_sound.valid kept_launched
      (some_there (view_at c.number c.last.store.views) r.view there) untouched.behind in
      let second = data_stay c.number name c.launch.at c.launching launch_events launch_replies c.launched (c.launched, c.launch.step, refl) launching_sound.valid kept_launching
      kept_launched ((λ no. no), tt) in
      let front = data_stay c.number name c.then_lines.now c.installed c.then_lines.events c.then_lines.replies c.launching c.then_lines.run installed_sound.valid
      (some_there (view_at c.number c.installed.store.views) the_view the_there) kept_launching untouched.before in
      let installed : data_named name done.installed.data_files ≡ Some r.file =
      sym (ap (option_and_then (λ (v : View). data_named name v.data_files)) the_there) ∙ sym front ∙ sym second ∙ sym third ∙ last in
      let found = find_in (λ (f : DataFile). bytes_eq f.name name) done.installed.data_files r.file installed in
      data_by name fresh from count shown bytes only r.file found.0 ((bytes_eq-Decides r.file.name name).0 found.1) r.size r.is_part
      ((done.installed.migrated.files r.file).0 (contains_in done.installed.data_files r.file found.0))

module _ (runs_sound : RunsKeepSound) (data_stay : KeptDataFilesStay) (data_is : DataIsOfFiles)
    (reads_are : ReadsAreOfFiles) (views_new : ViewsAreNew) where
  pub published_given : PublishedIsGiven
  published_given p files folder sites c offered =
      all_given runs_sound data_stay data_is reads_are views_new p files folder sites c offered

  pub published_read : PublishedIsRead
  published_read p files folder sites c offered only =
      program_shown runs_sound data_stay data_is reads_are views_new p files folder sites c offered
      only

  pub published_data : PublishedDataIsRead
  published_data p files folder sites c offered only =
      data_shown runs_sound data_stay data_is reads_are views_new p files folder sites c offered
      only
