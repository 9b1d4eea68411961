-- What was published is what is read of pages in memory.
use Rattle.std.proofs.Common.{◌≡◌, ◌∙◌, ◌≤◌, inl, inr, refl, sym, ap, subst, ℕ, Bool, true, false, eqb, eqb-true, List, [], ◌∷◌, All, Any, Option, Some, Result, Ok, IsSome, arith}
use Rattle.std.specs.Prelude.{option_and_then, option_map, slice_get}
use Rattle.std.proofs.lemmas.List.Elements.{All-nil, All-cons}
use Rattle.small_types.specs.declared.limits.TheConstants.{NUMBER_LIMIT}
use Rattle.small_types.specs.declared.target.Target.{Target}
use Rattle.identity.specs.declared.key.Key.{Key}
use Rattle.folders.specs.declared.folder.Held.{Held}
use Rattle.addresses.specs.declared.fault.UrlFault.{UrlFault}
use Rattle.addresses.specs.Address.{target_of_text}
use Rattle.links.specs.declared.mem_link.Page.{Page}
use Rattle.links.specs.Links.{LinksState, count_there, number_at, sources_of}
use Rattle.publish_plan.specs.Places.{deployment_name}
use Rattle.published_paths.specs.Reached.{Reaches}
use Rattle.machine.specs.declared.command.Command.TheVariants.{Install, Launch, Read}
use Rattle.machine.specs.declared.lease.Lease.{Lease}
use Rattle.machine.specs.declared.reply.Reply.{Reply}
use Rattle.machine.specs.declared.reply.Reply.TheVariants as says
use Rattle.machine.specs.declared.report.ReportLine.{ReportLine}
use Rattle.machine.specs.Current.{current_of, view_at}
use Rattle.machine.specs.DataLaws.{IsOn}
use Rattle.machine.specs.InstallLaws.{InstallsAreCurrent, IsInstall}
use Rattle.machine.specs.InstallRow.{install_refusals}
use Rattle.machine.specs.Laws.{RunsKeepSound}
use Rattle.machine.specs.LeaseLaws.{IsLaunched, LaunchesAreSound}
use Rattle.machine.specs.Machine.{Answers, Step}
use Rattle.machine.specs.Shape.{Shape, shape_of}
use Rattle.machine.specs.Sound.{Sound}
use Rattle.machine.specs.Store.{Session, Store}
use Rattle.machine.specs.Views.{DataFile, ListedFile, View}
use Rattle.machine.specs.Words.{IsEvent}
use Rattle.machine.proofs.FirstRefusal.{AllGive, given_reply}
use Rattle.machine.proofs.FirstFound.{find_in}
use Rattle.machine.proofs.Leased.{leased_by}
use Rattle.updater_cli.specs.NoOthers.{EventPutsNoOthers, NoOthersCome}
use Rattle.updater_cli.specs.Offered.{HasFiles, IsFirstSite, PublishInput}
use Rattle.updater_cli.specs.Premises.{OneSiteIsGiven, sites_of}
use Rattle.updater_cli.specs.Published.{HeardGiven, IsOffered, KeepsNoOthers, PublishedIsRead, PublishedRun, RunsOn, ShowsInput}
use Rattle.updater_cli.specs.Releases.{HasRelease, PagesHaveReleases, ReleasesAreOffered}
use Rattle.published_pages.specs.ThreeLines.{IsSession, ThreeLines, line_of}

-- ---- an answer that is an installation

abbrev is_installed : Reply → Bool
is_installed (says.Installed key version view) = true
is_installed _ = false

abbrev IsOther : Reply → Type 0
IsOther reply = is_installed reply ≡ false

others : (url : List ℕ) (heard : List (List ℕ)) (shape : Shape) → AllGive IsOther (install_refusals url heard shape)
others url heard shape = (
  (λ r g. ap is_installed g.1),
  (
    (λ r g. ap is_installed g.2),
    (
      (λ r g. ap is_installed g.3),
      (
        (λ r g. ap is_installed g.2),
        (
          (λ r g. ap is_installed g.2),
          (
            (λ r g. ap is_installed g.2),
            (
              (λ r g. ap is_installed g.1),
              (
                (λ r g. ap is_installed g.1),
                (
                  (λ r g. ap is_installed g.1),
                  (
                    (λ r g. ap is_installed g.1),
                    (
                      (λ r g. ap is_installed g.2),
                      (
                        (λ r g. ap is_installed g.3),
                        (
                          (λ r g. ap is_installed g.2),
                          (
                            (λ r g. ap is_installed g.2),
                            (
                              (λ r g. ap is_installed g.1),
                              (
                                (λ r g. ap is_installed g.1),
                                (
                                  (λ r g. ap is_installed g.1),
                                  (
                                    (λ r g. ap is_installed g.2),
                                    ((λ r g. ap is_installed g.2), ((λ r g. ap is_installed g.3), tt)),
                                  ),
                                ),
                              ),
                            ),
                          ),
                        ),
                      ),
                    ),
                  ),
                ),
              ),
            ),
          ),
        ),
      ),
    ),
  ),
)

not_other : (b : Bool) → b ≡ true → b ≡ false → ⊥
not_other true is other = cc
not_other false is other = cc

-- an install that is answered so passed all its refusals and has its effect
install_is : (at : ℕ) (heard : List (List ℕ)) (old : Session) (url : List ℕ) (reply : Reply)
    (new : Session) → is_installed reply ≡ true → at ≤ NUMBER_LIMIT
    → Answers at heard old (Install url) reply new → IsInstall url heard at old reply new
install_is at heard old url reply new is few (inl (inl memory)) =
    absurd (not_other (is_installed reply) is (ap is_installed memory.0))
install_is at heard old url reply new is few (inl (inr refused)) =
    absurd (not_other (is_installed reply) is
    (given_reply IsOther (install_refusals url heard (shape_of old)) old reply new
    (others url heard (shape_of old)) refused.1))
install_is at heard old url reply new is few (inr done) =
    record { moment = few; passes = done.0.1; effect = done.1 }

number_is : (a b : _) (v w : _) (m n : ℕ) → says.Installed a v m ≡ says.Installed b w n → m ≡ n
number_is a b v w m n e = cc

key_is : (a b : _) (v w : _) (m n : ℕ) → says.Installed a v m ≡ says.Installed b w n → a ≡ b
key_is a b v w m n e = cc

same_answer : (a b : Reply) → ◌≡◌ {A = Option Reply} (Some a) (Some b) → a ≡ b
same_answer a b e = cc

ok_is : (a b : Target) → ◌≡◌ {A = Result Target UrlFault} (Ok a) (Ok b) → a ≡ b
ok_is a b e = cc

no_any : {X : Type 0} {P : X → Type 0} → Any P [] → ⊥
no_any any = omega (arith, any.2)

-- ---- views by their numbers

found_number : (number : ℕ) (store : Store) (view : View) → view_at number store.views ≡ Some view
    → view.number ≡ number
found_number number store view is =
    eqb-true view.number number (find_in (λ (v : View). eqb v.number number) store.views view is).1

-- ---- the session

module _ (read : PublishedIsRead) (paged : PagesHaveReleases) (offered : ReleasesAreOffered)
    (runs_sound : RunsKeepSound) (current : InstallsAreCurrent) (launches : LaunchesAreSound)
    (links : LinksState) (one_given : OneSiteIsGiven links) (none_come : NoOthersCome links)
    (p : PublishInput) (files : List Held) (pages : List Page) (t : ThreeLines)
    (s : IsSession p files pages links t) where
  abbrev the_install : ReportLine
  the_install = line_of (Install t.url) (says.Installed t.key t.version t.number) t.install

  abbrev the_launch : ReportLine
  the_launch = line_of (Launch t.key) (says.Lease t.lease t.launched t.check_due) t.launch

  abbrev the_read : ReportLine
  the_read = line_of (Read t.lease t.name t.from t.count) (says.Read t.size t.bytes) t.read

  abbrev first : Session
  first = s.from.session

  abbrev installed : Session
  installed = s.sites.0

  abbrev launched : Session
  launched = s.sites.3.0

  -- ---- sound sessions

  install_event : IsEvent the_install.event
  install_event = (s.run.0.2, s.run.0.1)

  launch_event : IsEvent the_launch.event
  launch_event = (s.run.1.0.2, s.run.1.0.1)

  installed_sound : Sound installed.store
  installed_sound =
      runs_sound s.from.now first (the_install.event ∷ []) (the_install.reply ∷ []) installed
      (All-cons IsEvent the_install.event [] install_event (All-nil IsEvent))
      (installed, s.sites.1, refl) s.sound

  -- ---- the view is current, and the lease is on it

  install_answer : says.Installed t.key t.version t.number ≡ s.sites.1.answer
  install_answer = same_answer _ s.sites.1.answer s.sites.1.replied

  few : s.from.now ≤ NUMBER_LIMIT
  few = subst (λ (n : ℕ). n ≤ NUMBER_LIMIT) s.run.0.0 s.run.0.1

  done : IsInstall t.url t.install.heard s.from.now first s.sites.1.answer installed
  done = install_is s.from.now t.install.heard first t.url s.sites.1.answer installed
      (ap is_installed (sym install_answer)) few s.sites.1.answers

  replied : says.Installed t.key t.version t.number
      ≡ says.Installed done.effect.deployment.identity.key done.effect.deployment.identity.version
      first.store.next_view
  replied = install_answer ∙ done.effect.replied

  current_number : current_of t.key installed.store.apps ≡ Some t.number
  current_number =
      let is = current t.url t.install.heard s.from.now first s.sites.1.answer installed done
      s.sound.valid.ordered in
      ap (λ (k : Key). current_of k installed.store.apps) (key_is _ _ _ _ _ _ replied)
      ∙ is.current ∙ ap Some (sym (number_is _ _ _ _ _ _ replied))

  launch_answer : says.Lease t.lease t.launched t.check_due ≡ s.sites.3.1.answer
  launch_answer = same_answer _ s.sites.3.1.answer s.sites.3.1.replied

  handed : IsLaunched t.key t.lease t.launched installed.store launched.store
  handed = launches s.from.now t.launch.heard installed t.key t.lease t.launched t.check_due launched
      installed_sound
      (subst (λ (r : Reply). Answers s.from.now t.launch.heard installed (Launch t.key) r launched)
      (sym launch_answer) s.sites.3.1.answers)

  the_there : view_at t.number installed.store.views ≡ Some handed.view
  the_there =
      sym (ap (option_and_then (λ (n : ℕ). view_at n installed.store.views)) current_number)
      ∙ handed.current

  on_the_view : IsOn t.number t.lease launched.store
  on_the_view =
      let by = leased_by t.lease launched.store handed.view handed.leased in
      ap (option_map (λ (l : Lease). l.view)) by.1
      ∙ ap Some (sym (found_number by.0.view launched.store handed.view by.2)
      ∙ found_number t.number installed.store handed.view the_there)

  -- ---- what the pages give

  one_link : sources_of links ≡ 1
  one_link = ap count_there s.link.one

  has_release : HasRelease p files s.given (sites_of links)
  has_release = paged p files s.given (sites_of links) pages s.written (omega (arith, one_link))
      (λ target. s.link.shows (number_at links.there 0) target) s.paged

  first_site : IsFirstSite p t.url files (sites_of links) × HasFiles files files
  first_site = offered p files t.url s.given (sites_of links) s.written s.address s.reaches has_release

  all_reach : (given : Target) → target_of_text t.url ≡ Ok given
      → Reaches given (deployment_name p.options)
  all_reach given is = subst (λ (x : Target). Reaches x (deployment_name p.options))
      (ok_is s.given given (sym s.address ∙ is)) s.reaches

  one_heard : IsSome (slice_get t.install.heard 0)
  one_heard = subst (λ (texts : List (List ℕ)). IsSome (slice_get texts 0)) (sym t.both) refl

  two_heard : IsSome (slice_get t.install.heard 1)
  two_heard = subst (λ (texts : List (List ℕ)). IsSome (slice_get texts 1)) (sym t.both) refl

  heard_given : HeardGiven (sites_of links) t.url t.install.heard
  heard_given = one_given p files files t.url t.install.heard s.written first_site.1 first_site.0
      one_link all_reach s.sites.2.heard one_heard two_heard

  -- ---- no other bytes

  none_first : KeepsNoOthers p files first
  none_first bytes (inl any) = absurd (no_any (subst (λ (views : List View).
      Any (λ (view : View). Any (λ (file : ListedFile). file.bytes ≡ bytes) view.program_files) views)
      s.none any))
  none_first bytes (inr any) = absurd (no_any (subst (λ (views : List View).
      Any (λ (view : View). Any (λ (file : DataFile). file.bytes ≡ bytes) view.data_files) views)
      s.none any))

  puts_none : All (λ (l : ReportLine). EventPutsNoOthers p files l.event)
      (the_install ∷ the_launch ∷ [])
  puts_none =
      All-cons (λ (l : ReportLine). EventPutsNoOthers p files l.event) the_install (the_launch ∷ [])
      tt (All-cons (λ (l : ReportLine). EventPutsNoOthers p files l.event) the_launch [] tt
      (All-nil (λ (l : ReportLine). EventPutsNoOthers p files l.event)))

  none_last : KeepsNoOthers p files launched
  none_last = none_come p files s.from (the_install ∷ the_launch ∷ []) launched
      (λ n target bytes left there. s.others target bytes (sym (s.link.shows n target) ∙ there))
      puts_none none_first s.sound (s.run.0, (s.run.1.0, tt))
      (installed, s.sites.1, s.sites.2, (launched, s.sites.3.1, s.sites.3.2, refl))

  -- ---- the run

  nothing : (session : Session) → RunsOn session session
  nothing session =
      record { now = 0; events = []; replies = []; each = All-nil IsEvent; run = refl }

  abbrev published : PublishedRun p (sites_of links)
  published = record {
    first = first;
    before = first;
    installed = installed;
    launching = installed;
    launched = launched;
    last = launched;
    key = t.key;
    number = t.number;
    lease = t.lease;
    sound = s.sound;
    start = nothing first;
    install = record {
      url = t.url;
      at = t.install.at;
      heard = record { texts = t.install.heard };
      version = t.version;
      event = install_event;
      step = subst (λ (n : ℕ). Step n first the_install.event the_install.reply installed)
          (sym s.run.0.0) s.sites.1;
      texts = heard_given;
      reaches = all_reach heard_given.given heard_given.read;
    };
    then_lines = nothing installed;
    launch = record {
      at = t.launch.at;
      heard = record { texts = t.launch.heard };
      version = t.launched;
      check_due = t.check_due;
      event = launch_event;
      step = subst (λ (n : ℕ). Step n installed the_launch.event the_launch.reply launched)
          (sym s.run.1.0.0) s.sites.3.1;
      leased = on_the_view;
    };
    more_lines = nothing launched;
  }

  is_offered : IsOffered p files files (sites_of links) published
  is_offered = record { writes = s.written; holds = first_site.1; first = first_site.0 }

  read_answer : says.Read t.size t.bytes ≡ s.sites.3.3.1.answer
  read_answer = same_answer _ s.sites.3.3.1.answer s.sites.3.3.1.replied

  pub reads_input : ShowsInput p t.name t.from t.count t.size t.bytes
  reads_input = read p files files (sites_of links) published is_offered none_last
      s.from.now t.read.heard t.name t.from t.count t.size t.bytes s.sites.3.3.0
      (subst (λ (r : Reply). Answers s.from.now t.read.heard launched
      (Read t.lease t.name t.from t.count) r s.sites.3.3.0)
      (sym read_answer) s.sites.3.3.1.answers)
