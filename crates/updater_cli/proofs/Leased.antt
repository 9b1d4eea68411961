-- What launches and reads promise, and what a stop leaves of the views that leases keep.
use Rattle.std.proofs.Common.{◌≡◌, ◌∙◌, ◌⊎◌, inl, inr, ℕ, Bool, List, ◌∷◌, ◌++◌, Option, Some, None, refl, sym, ap, subst, append_assoc}
use Rattle.std.specs.Prelude.{IsSome, IsSomeAnd, option_and_then}
use Rattle.identity.specs.declared.key.Key.{Key}
use Rattle.identity.specs.declared.version.Version.{Version}
use Rattle.disks.specs.declared.disk.Disk.{Ghosts}
use Rattle.machine.specs.declared.command.Command.TheVariants.{Launch, Read}
use Rattle.machine.specs.declared.due.Due.TheVariants.{Clear}
use Rattle.machine.specs.declared.event.Event.{Event}
use Rattle.machine.specs.declared.event.Event.TheVariants.{Line}
use Rattle.machine.specs.declared.event.Heard.{Heard}
use Rattle.machine.specs.declared.lease.Lease.{Lease}
use Rattle.machine.specs.declared.reply.Reply.{Reply}
use Rattle.machine.specs.declared.reply.Reply.TheVariants as says
use Rattle.machine.specs.declared.report.Report.{Report}
use Rattle.machine.specs.declared.report.ReportLine.{ReportLine}
use Rattle.machine.specs.Current.{view_at}
use Rattle.machine.specs.Due.{due}
use Rattle.machine.specs.LeaseLaws.{IsLeaseOrMemory, IsReadOf, KeepsLeased}
use Rattle.machine.specs.Leases.{lease_of, leased_view}
use Rattle.machine.specs.Machine.{Run, Step, moment_after}
use Rattle.machine.specs.ReadRow.{file_named}
use Rattle.machine.specs.Shape.{shape_of}
use Rattle.machine.specs.Sound.{IsSoundView, Sound}
use Rattle.machine.specs.Store.{Session, Store}
use Rattle.machine.specs.Valid.{IsView}
use Rattle.machine.specs.Views.{ListedFile, View}
use Rattle.machine.proofs.Leased.{current_entry, leased_valid}
use Rattle.machine.proofs.LeasesKept.{keeps_leased}
use Rattle.machine.proofs.LeaseSteps.{launch_granted, launch_is, launch_reaches, lease_is_sound, read_is}
use Rattle.machine.proofs.Members.{all_in}
use Rattle.machine.proofs.KeptSteps.{run_leases}
use Rattle.updater_cli.specs.Headline.{HeadlineLeased, HeadlineStop}
use Rattle.updater_cli.specs.Lacks.{AreLacksFew, MayLineLack}
use Rattle.updater_cli.specs.OpensSession.{IsUnopened}
use Rattle.updater_cli.specs.Report.{AreRunFrom, KeepsMoments, Origin, ReachesAfter, StandsForPrefix, answered, events_of, marked_by, moment_behind, origin_over, replies_of, report_of}
use Rattle.updater_cli.specs.Views.{HandsOut, IsLineOf, IsRead, KeepsViews, LaunchesHold, LeadsThrough, IsLease, Reading, ShowOneFile, ShowsLeased, StandsWhole, ViewsHold}
use Rattle.updater_cli.proofs.Lacks.{lacks_at}
use Rattle.updater_cli.proofs.Runs.{moment-append}
use Rattle.updater_cli.proofs.Through.{halves, joined, line_answers, reached_run, reached_sound, run_before, sound_behind}

-- ---- leased views

-- a lease whose view is found lives
lives : (store : Store) (view : View) (o : Option Lease) → option_and_then (λ lease. view_at lease.view store.views) o ≡ Some view → IsSome o
lives store view None is = cc
lives store view (Some lease) is = refl

-- what is said of a value, where there is one
the_value : {X : Type 0} (P : X → Type 0) (o : Option X) → IsSomeAnd o P → (x : X) × (o ≡ Some x) × P x
the_value P None is = absurd is
the_value P (Some x) is = (x, refl, is)

-- a lease that lives in both keeps its view
view_stays : (now : ℕ) (old : Session) (events : List Event) (replies : List (Option Reply)) (new : Session) (number : ℕ) → Sound old.store → Run now old events replies new
    → IsSome (lease_of number old.store.leases) → IsSome (lease_of number new.store.leases) → KeepsLeased number old.store new.store
view_stays now old events replies new number sound run = keeps_leased number old.store new.store sound.valid.ordered (run_leases now old events replies new run)

-- a file that stood in the view of a lease stands in it later
same_file : (name : List ℕ) (view before after shown : View) (file other : ListedFile) (a b : Option View) → a ≡ Some view → a ≡ Some before → b ≡ Some after → b ≡ Some shown
    → ((n : List ℕ) (f : ListedFile) → file_named n before.program_files ≡ Some f → file_named n after.program_files ≡ Some f)
    → file_named name view.program_files ≡ Some file → file_named name shown.program_files ≡ Some other → file ≡ other
same_file name view before after shown file other a b is_view is_before is_after is_shown files named found =
    let first : view ≡ before = cc in
    let second : after ≡ shown = cc in
    let here : file_named name before.program_files ≡ Some file = subst (λ (v : View). file_named name v.program_files ≡ Some file) first named in
    let there : file_named name shown.program_files ≡ Some file = subst (λ (v : View). file_named name v.program_files ≡ Some file) second (files name file here) in
    cc

-- ---- lines

module _ (from : Origin) (sound : Sound from.session.store) (lines : List ReportLine) (at : AreRunFrom from.now lines) where
  -- the lines before a line
  at_before : (l : ReportLine) (old new : Session) (is : IsLineOf from lines l old new) → AreRunFrom from.now is.before
  at_before l old new is = run_before from.now is.before (l ∷ is.after) (subst (λ (ls : List ReportLine). AreRunFrom from.now ls) is.split at)

  sound_before : (l : ReportLine) (old new : Session) → IsLineOf from lines l old new → Sound old.store
  sound_before l old new is = sound_behind from sound is.before old (at_before l old new is) is.runs

  -- a session on the way is sound
  sound_through : (before : List ReportLine) (mid last : Session) → AreRunFrom from.now before → LeadsThrough from before mid last → Sound mid.store
  sound_through before mid last at_lines through =
      sound_behind from sound through.earlier mid (run_before from.now through.earlier through.later (subst (λ (ls : List ReportLine). AreRunFrom from.now ls) through.split at_lines)) through.runs

  hands_out : (l : ReportLine) (old new : Session) (key : Key) (moment : ℕ) (heard : Heard) (lease : ℕ) (version : Version) (check_due : Bool) (is : IsLineOf from lines l old new)
      → l.event ≡ Line (Launch key) moment heard → l.reply ≡ Some (says.Lease lease version check_due) → HandsOut from is.before key lease version old new
  hands_out l old new key moment heard lease version check_due is asked replied =
      let answers = line_answers (moment_behind from.now is.before) old new l (Launch key) moment heard (says.Lease lease version check_due) is.step asked replied in
      let launch = launch_is (moment_behind from.now is.before) heard.texts old key lease version check_due new (sound_before l old new is) answers in
      record {
        launch = launch;
        files = (all_in IsView old.store.views launch.view (sound_before l old new is).valid.ordered.views (current_entry key old.store launch.view launch.current).3).files;
        minimums = λ mid minimum through held.
            launch_reaches (moment_behind from.now through.earlier) mid (events_of through.later) (replies_of through.later) old (moment_behind from.now is.before) heard.texts key minimum lease version check_due new
            through.rest held answers;
      }

  shows : (l : ReportLine) (old new : Session) (reading : Reading) (is : IsLineOf from lines l old new) → IsRead l reading → ShowsLeased from is.before reading old
  shows l old new reading is read =
      let shown : IsReadOf reading.lease reading.name reading.from reading.count reading.length reading.bytes old.store =
      read_is (moment_behind from.now is.before) read.heard.texts old reading.lease reading.name reading.from reading.count reading.length reading.bytes new (sound_before l old new is)
      (line_answers (moment_behind from.now is.before) old new l (Read reading.lease reading.name reading.from reading.count) read.at read.heard (says.Read reading.length reading.bytes) is.step read.asked read.replied) in
      record {
        is = shown;
        stays = λ mid view file through leased named.
            let kept : KeepsLeased reading.lease mid.store old.store =
            view_stays (moment_behind from.now through.earlier) mid (events_of through.later) (replies_of through.later) old reading.lease
            (sound_through is.before mid old (at_before l old new is) through) through.rest
            (lives mid.store view (lease_of reading.lease mid.store.leases) leased)
            (lives old.store shown.view (lease_of reading.lease old.store.leases) shown.leased) in
            same_file reading.name view kept.view kept.later shown.view file shown.file (leased_view reading.lease mid.store) (leased_view reading.lease old.store) leased kept.before kept.after shown.leased kept.files named shown.found;
      }

  -- two reads on one lease
  show_one : (s : Session) → Run from.now from.session (events_of lines) (replies_of lines) s → (before between after : List ReportLine) (l m : ReportLine) (first second : Reading)
      → lines ≡ before ++ (l ∷ (between ++ (m ∷ after))) → IsRead l first → IsRead m second → first.lease ≡ second.lease → first.name ≡ second.name → ShowOneFile from before (l ∷ between) first second
  show_one s run before between after l m first second split read again same_lease same_name =
      let whole = subst (λ (ls : List ReportLine). Run from.now from.session (events_of ls) (replies_of ls) s) split run in
      let one = halves from.now from.session before (l ∷ (between ++ (m ∷ after))) s whole in
      let two = halves (moment_after (moment_behind from.now before) l.reply) one.rest.0 between (m ∷ after) s one.rest.2 in
      let behind : Run (moment_behind from.now before) one.mid (events_of (l ∷ between)) (replies_of (l ∷ between)) two.mid = (one.rest.0, one.rest.1, two.first) in
      let line : IsLineOf from lines l one.mid one.rest.0 = record { before = before; after = between ++ (m ∷ after); split = split; runs = one.first; step = one.rest.1 } in
      let later : IsLineOf from lines m two.mid two.rest.0 = record {
        before = before ++ (l ∷ between);
        after = after;
        split = split ∙ sym (append_assoc before (l ∷ between) (m ∷ after));
        runs = joined from.now from.session one.mid before (l ∷ between) two.mid one.first behind;
        step = subst (λ (now : ℕ). Step now two.mid m.event m.reply two.rest.0) (sym (moment-append from.now before (l ∷ between))) two.rest.1;
      } in
      let a = shows l one.mid one.rest.0 first line read in
      let b = shows m two.mid two.rest.0 second later again in
      let same : a.is.file ≡ b.is.file =
      b.stays one.mid a.is.view a.is.file (record { earlier = before; later = l ∷ between; split = refl; runs = one.first; rest = behind })
      (subst (λ (n : ℕ). leased_view n one.mid.store ≡ Some a.is.view) same_lease a.is.leased)
      (subst (λ (n : List ℕ). file_named n a.is.view.program_files ≡ Some a.is.file) same_name a.is.found) in
      record { old = one.mid; later = two.mid; runs = one.first; rest = behind; first = a.is; second = b.is; same = same }

  pub views_hold : (s : Session) → Run from.now from.session (events_of lines) (replies_of lines) s → ViewsHold from lines
  views_hold s run = record { launched = hands_out; read = shows; reads = show_one s run }

-- a launch that is not answered by want of memory is answered with a lease
granted : (reply : Reply) → IsLeaseOrMemory reply → (reply ≡ says.Memory → ⊥) → IsLease reply
granted reply (inl lease) other = lease
granted reply (inr memory) other = absurd (other memory)

-- where nothing is due and a lease is free
pub launches_hold : (from : Origin) (lines : List ReportLine) → AreLacksFew lines → LaunchesHold from lines
launches_hold from lines few l old new key moment heard is asked may =
    let one = subst (λ (e : Event). Step (moment_behind from.now is.before) old e l.reply new) asked is.step in
    let clear = subst (λ (now : ℕ). due key (shape_of old) now ≡ Some (Clear may.check_due)) one.moment may.clear in
    let lacks = subst (λ (e : Event). l.reply ≡ Some says.Memory → MayLineLack e) asked (lacks_at is.before is.after lines l is.split few) in
    subst (λ (r : Option Reply). IsSomeAnd r IsLease) (sym one.replied)
    (granted one.answer
    (launch_granted (moment_behind from.now is.before) heard.texts old key may.check_due one.answer new clear may.few may.next one.answers)
    (λ memory. lacks (one.replied ∙ ap Some memory)))

-- ---- stops

module _ (from : Origin) (sound : Sound from.session.store) (report : Report) (moments : KeepsMoments from.now report) where
  stands_whole : (n number : ℕ) (last : Session) → ReachesAfter from report n last → IsSome (lease_of number last.store.leases) → StandsWhole from report n number last
  stands_whole n number last reached alive =
      let whole : Sound last.store = reached_sound from sound report n last moments reached in
      let view = the_value IsSoundView (leased_view number last.store) (lease_is_sound last.store number whole alive) in
      record {
        view = view.0;
        leased = view.1;
        sound = view.2;
        files = (leased_valid number last.store view.0 whole.valid.ordered view.1).files;
        unchanged = λ mid through before.
            let at = run_before from.now through.earlier through.later (subst (λ (ls : List ReportLine). AreRunFrom from.now ls) through.split moments.lines) in
            let behind : Origin = record { now = moment_behind from.now through.earlier; session = mid } in
            let on = reached_run behind (report_of through.later report.begun) through.more last through.rest in
            view_stays behind.now mid on.events on.replies last number (sound_behind from sound through.earlier mid at through.runs) on.run before alive;
      }

  keeps_views : (k : ℕ) (image : List ℕ) → StandsForPrefix from report k image → KeepsViews from report k image
  keeps_views k image prefix = record { prefix = prefix; views = λ number alive. stands_whole prefix.n number prefix.session prefix.reached alive }

-- in each image that a stop may leave
pub leased_holds : {D : Type 0} (on : Ghosts D) (now status : ℕ) (old new : D) (report : Report) → KeepsMoments now report → HeadlineStop on now status old new report → HeadlineLeased on now status old new report
leased_holds on now status old new report moments stop store stands t image first to left = by ((stop store stands).since t image first to left)
  where
    k : ℕ
    k = marked_by (answered status report.lines) t

    by : StandsForPrefix (origin_over now store) report k image ⊎ IsUnopened on old new status report image → KeepsViews (origin_over now store) report k image ⊎ IsUnopened on old new status report image
    by (inl prefix) = inl (keeps_views (origin_over now store) stands.sound report moments k image prefix)
    by (inr fault) = inr fault
