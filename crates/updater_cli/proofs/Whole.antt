-- What a whole session does, opened or not.
use Rattle.std.proofs.Common.{◌≡◌, ◌≢◌, ◌⊎◌, inl, inr, ℕ, ◌≤◌, [], Option, Ok, Err, refl, sym, ◌∙◌, ap, subst, arith}
use Rattle.std.specs.Prelude.{IfErr, OnOk, MatchResult}
use Rattle.outside.specs.declared.source.Source.{Ghosts as SourceGhosts}
use Rattle.outside.specs.declared.sink.Sink.{Ghosts as SinkGhosts}
use Rattle.disks.specs.declared.disk.Disk.{Ghosts}
use Rattle.links.specs.declared.links.Links.{Ghosts as LinksGhosts}
use Rattle.small_types.specs.declared.limits.TheConstants.{NUMBER_LIMIT}
use Rattle.machine.specs.declared.event.Event.{Event}
use Rattle.machine.specs.declared.report.Report.{Report}
use Rattle.machine.specs.Store.{Store, session_over}
use Rattle.updater_cli.specs.declared.course.Course.{Course}
use Rattle.updater_cli.specs.declared.status.Status.{Status}
use Rattle.updater_cli.specs.declared.status.Status.TheVariants.{Done, Words, SourceFault, SinkFault, DiskFault, NotAStore, Memory, TooMuchInput}
use Rattle.updater_cli.specs.Devices.{Asks, RisesWith, devices_of}
use Rattle.updater_cli.specs.Headline.{Headline, HeadlineStop, IsNothing, LeadsTo}
use Rattle.updater_cli.specs.Lines.{InputAnswered, IsReady, Place}
use Rattle.updater_cli.specs.OpensSession.{IsOpeningEnd, OpensSession, begun_by}
use Rattle.updater_cli.specs.Report.{StandsSound, origin_over, report_of}
use Rattle.updater_cli.specs.Session.{Between, Ended, SessionStart, start_over}
use Rattle.updater_cli.specs.Status.{PartOutcome, code_of, end_status, IsSessionEnd}
use Rattle.updater_cli.proofs.DeviceCalls.{asks_as, asks_then, rises_as}
use Rattle.updater_cli.proofs.Ends.{opened_lines, opened_output, unopened_lines, unopened_run}
use Rattle.updater_cli.proofs.Leased.{launches_hold, leased_holds, views_hold}
use Rattle.updater_cli.proofs.Prefix.{ended_at}

zero_three : ◌≢◌ {A = ℕ} 0 3
zero_three same = omega arith

-- ---- a session that was not opened

-- how an opening fails
pub opening_ends : (status : Status) → IsOpeningEnd status → (status ≡ NotAStore) ⊎ ((status ≡ DiskFault) ⊎ (status ≡ Memory))
opening_ends Memory end = inr (inr refl)
opening_ends NotAStore end = inl refl
opening_ends DiskFault end = inr (inl refl)
opening_ends Done end = absurd end
opening_ends Words end = absurd end
opening_ends SourceFault end = absurd end
opening_ends SinkFault end = absurd end
opening_ends TooMuchInput end = absurd end

-- it does not end so
pub never_opening : (status other : Status) → (IsOpeningEnd other → ⊥) → IsOpeningEnd status → status ≡ other → ⊥
never_opening status other never end is = never (subst IsOpeningEnd is end)

module _ {S K D L : Type 0} (from : SourceGhosts S) (to : SinkGhosts K) (on : Ghosts D) (net : LinksGhosts L) (boot now : ℕ) (s : S) (k : K) (l : L) (old new : D) (status : Status) (opens : OpensSession on net boot now l old (Err status) new) (report : Report)
    (is_report : report ≡ report_of [] (begun_by boot status)) where
  pub unopened_headline : boot ≤ NUMBER_LIMIT → Headline from to on net boot now (code_of status) (devices_of s k old l) (devices_of s k new l) report
  unopened_headline small =
      let lines = unopened_lines from on net boot now small s k l old new opens.asks.later status opens.ends in
      let stop : on.tells new → HeadlineStop on now (code_of status) old new (report_of [] (begun_by boot status)) = λ told store stands. opens.survives told store stands.stands in
      rw is_report (record {
        lines = lines;
        run = unopened_run to on net boot now s k l old new status opens.ends (λ told is. opens.not_a_store told (ap Err is)) opens.within opens.reads opens.written;
        stop = stop;
        views = λ told store stands. views_hold (origin_over now store) stands.sound [] tt (session_over store) refl;
        launch = λ told store stands. launches_hold (origin_over now store) [] lines.lacks;
        leased = λ told. leased_holds on now (code_of status) old new (report_of [] (begun_by boot status)) lines.moments (stop told);
      })

  pub unopened_nothing : status ≡ NotAStore → IsNothing report
  unopened_nothing is = rw is_report (refl, ap (begun_by boot) is)

  pub unopened_reads : status ≡ NotAStore → on.seen new ≡ on.seen old
  unopened_reads is = opens.reads (λ fault. let clash : NotAStore ≡ DiskFault = sym is ∙ fault in cc (clash))

  pub unopened_asks : Asks on (status ≡ DiskFault) old new
  unopened_asks = asks_as on _ _ old new (λ is. cc (is)) (λ is. ap Err is) opens.asks

-- ---- a session that was opened

-- at the end, however it came
ended_by : {D L : Type 0} (on : Ghosts D) (net : LinksGhosts L) (start : SessionStart D L) (outcome : PartOutcome) (course : Course) (disk : D) (links : L) → on.left_at disk (on.moment disk) (on.seen disk) → OnOk outcome (IsReady course)
    → MatchResult outcome (λ _. Between on net start course disk links) (λ status. Ended on net start (code_of status) (report_of course.lines.items course.begun) disk links)
    → Ended on net start (code_of (end_status outcome)) (report_of course.lines.items course.begun) disk links
ended_by on net start (Ok done) course disk links seen_left ready between = ended_at on net start 0 course disk links between ready.begun zero_three seen_left
ended_by on net start (Err status) course disk links seen_left ready ended = ended

-- an outcome by its status
err_is : (outcome : PartOutcome) (status : Status) → (Done ≡ status → ⊥) → end_status outcome ≡ status → outcome ≡ Err status
err_is (Ok done) status never is = absurd (never is)
err_is (Err it) status never is = ap Err is

never_session : (outcome : PartOutcome) (begun : Option Event) (status : Status) → (Done ≡ status → ⊥) → (IsSessionEnd status begun → ⊥) → IfErr outcome (λ s. IsSessionEnd s begun) → end_status outcome ≡ status → ⊥
never_session (Ok done) begun status never no_end end is = never is
never_session (Err it) begun status never no_end end is = no_end (subst (λ (s : Status). IsSessionEnd s begun) is end)

module _ {S K D L : Type 0} (from : SourceGhosts S) (to : SinkGhosts K) (on : Ghosts D) (net : LinksGhosts L) (boot now : ℕ) (disk : D) (source_old source_new : S) (old new : Place K D L) (outcome : PartOutcome)
    (opens : OpensSession on net boot now old.links disk (Ok old.course) old.disk) (answered : InputAnswered from to on net source_old old outcome source_new new) where
  -- it does not end as one that was not
  pub never_unopened : end_status outcome ≡ NotAStore → ⊥
  never_unopened is = never_session outcome new.course.begun NotAStore (λ same. cc (same)) (λ no_end. no_end) answered.ends is

  pub never_words : end_status outcome ≡ Words → ⊥
  never_words is = never_session outcome new.course.begun Words (λ same. cc (same)) (λ no_end. no_end) answered.ends is

  pub opened_reads : RisesWith (end_status outcome ≡ SourceFault) (from.count source_old) (from.count source_new)
  opened_reads = rises_as _ _ (from.count source_old) (from.count source_new) (λ is. ap end_status is) (λ is. err_is outcome SourceFault (λ same. cc (same)) is) answered.reads

  pub opened_writes : RisesWith (end_status outcome ≡ SinkFault) (to.count old.sink) (to.count new.sink)
  opened_writes = rises_as _ _ (to.count old.sink) (to.count new.sink) (λ is. ap end_status is) (λ is. err_is outcome SinkFault (λ same. cc (same)) is) answered.keeps.writes

  pub opened_asks : Asks on (end_status outcome ≡ DiskFault) disk new.disk
  opened_asks =
      asks_then on _ _ disk old.disk new.disk (λ is. cc (is)) opens.asks
      (asks_as on _ _ old.disk new.disk (λ is. ap end_status is) (λ is. err_is outcome DiskFault (λ same. cc (same)) is) answered.keeps.asks)

  module _ (seen_left : on.left_at new.disk (on.moment new.disk) (on.seen new.disk)) where
    ended : on.tells new.disk → (store : Store) → StandsSound (on.seen disk) store
        → Ended on net (start_over now disk old.links store) (code_of (end_status outcome)) (report_of new.course.lines.items new.course.begun) new.disk new.links
    ended told store stands =
        ended_by on net (start_over now disk old.links store) outcome new.course new.disk new.links seen_left answered.keeps.goes_on
        (answered.keeps.machine told (start_over now disk old.links store) (opens.machine (answered.keeps.asks.told told) store stands))

    leads : on.tells new.disk → (store : Store) → StandsSound (on.seen disk) store
        → LeadsTo on net now (code_of (end_status outcome)) (devices_of source_old old.sink disk old.links) (devices_of source_new new.sink new.disk new.links) (report_of new.course.lines.items new.course.begun) store
    leads told store stands =
        let end = ended told store stands in
        record {
          session = end.session;
          last = end.last;
          bytes = end.bytes;
          behind = end.behind;
          walk = end.walk;
          settled = end.runs.settled;
          reads = end.reads;
          calls = λ other. inl (end.calls other);
          more = end.more;
          begins = end.begins;
          written = end.written;
          begun = end.begun;
        }

    stop : on.tells new.disk → HeadlineStop on now (code_of (end_status outcome)) disk new.disk (report_of new.course.lines.items new.course.begun)
    stop told store stands =
        let end = ended told store stands in
        record {
          past = end.past;
          since = λ t image first to left. inl (end.since t image first to left);
          synced = inl (omega (arith, opens.course.synced, answered.keeps.asks.later));
        }

    pub opened_headline : boot ≤ NUMBER_LIMIT → (report : Report) → report ≡ report_of new.course.lines.items new.course.begun
        → Headline from to on net boot now (code_of (end_status outcome)) (devices_of source_old old.sink disk old.links) (devices_of source_new new.sink new.disk new.links) report
    opened_headline small report is_report =
        let lines = opened_lines from to on net boot now disk source_old source_new old new outcome opens.course answered small (λ told store stands. opens.boots (answered.keeps.asks.told told) store stands) in
        rw is_report (record {
          lines = lines;
          run = record { leads = leads; output = opened_output from to on net boot now disk source_old source_new old new outcome opens.course answered };
          stop = stop;
          views = λ told store stands.
              let end = ended told store stands in
              views_hold (origin_over now store) stands.sound new.course.lines.items lines.moments.lines end.session end.runs.steps;
          launch = λ told store stands. launches_hold (origin_over now store) new.course.lines.items lines.lacks;
          leased = λ told. leased_holds on now (code_of (end_status outcome)) disk new.disk (report_of new.course.lines.items new.course.begun) lines.moments (stop told);
        })
