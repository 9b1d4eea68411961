-- What a whole session leaves in its report.
use Rattle.std.proofs.Common.{◌≡◌, ◌≢◌, ◌⊎◌, inl, inr, ℕ, ◌+◌, ◌≤◌, List, [], ◌∷◌, ◌++◌, length, take, Option, Some, None, Ok, Err, refl, sym, ◌∙◌, ap, subst, arith, length-append}
use Rattle.std.proofs.lemmas.List.{append-nil, take_all, take-append-le}
use Rattle.std.specs.Prelude.{option_to_list, IfSome, IfErr, IsSomeAnd, OnOk}
use Rattle.std.specs.Str.Lines.{lines}
use Rattle.small_types.specs.declared.limits.TheConstants.{NUMBER_LIMIT}
use Rattle.outside.specs.declared.source.Source.{Ghosts as SourceGhosts}
use Rattle.outside.specs.declared.sink.Sink.{Ghosts as SinkGhosts}
use Rattle.disks.specs.declared.disk.Disk.{Ghosts}
use Rattle.links.specs.declared.links.Links.{Ghosts as LinksGhosts}
use Rattle.links.specs.Links.{failures_of}
use Rattle.fetcher.proofs.Sequence.{kept_same}
use Rattle.machine.specs.declared.event.Event.{Event}
use Rattle.machine.specs.declared.event.Event.TheVariants.{Boot, Line, Unread}
use Rattle.machine.specs.declared.reply.Reply.{Reply}
use Rattle.machine.specs.declared.reply.Reply.TheVariants as says
use Rattle.machine.specs.declared.report.Report.{Report}
use Rattle.machine.specs.declared.report.ReportLine.{ReportLine}
use Rattle.machine.specs.Store.{Store, booted, session_over}
use Rattle.command_text.specs.Lines.{AreEvents, IsEvent, texts_of}
use Rattle.command_text.proofs.InputLemmas.{length_events}
use Rattle.install_plan.specs.Downs.{SaysDown}
use Rattle.updater.specs.StandsFor.{StandsFor, StandsForNone}
use Rattle.updater_cli.specs.declared.status.Status.{Status}
use Rattle.updater_cli.specs.declared.status.Status.TheVariants.{Done, Words, SourceFault, SinkFault, DiskFault, NotAStore, Memory, TooMuchInput}
use Rattle.updater_cli.specs.Devices.{devices_of}
use Rattle.updater_cli.specs.Downs.{DownsAreCounted}
use Rattle.updater_cli.specs.Headline.{after_boot, ReadsLines, BeginsOnFault, MadeCalls, HeadlineLines, HeadlineRun}
use Rattle.updater_cli.specs.Lacks.{AreLacksFew}
use Rattle.updater_cli.specs.Lines.{IsReady, Place, AreInputs, InputAnswered}
use Rattle.updater_cli.specs.OpensSession.{BeginsAt, IsNoBoot, IsNoBootFirst, IsLineOrNone, BootsFirst, HasBootLine, IsOpeningEnd, begun_by}
use Rattle.updater_cli.specs.Report.{report_of, events_of, replies_of, moment_behind, CostsBegun, IsRunAt, AreRunFrom, KeepsMoments, MarksRise, FailuresRise, IsBegunServed, WritesReplies}
use Rattle.updater_cli.specs.Status.{PartOutcome, code_of, end_status, IsSessionEnd}
use Rattle.updater_cli.proofs.Begin.{boot_served, settled_first}
use Rattle.updater_cli.proofs.Downs.{downs_on}
use Rattle.updater_cli.proofs.Lacks.{lacks_on}
use Rattle.updater_cli.proofs.Runs.{rise_on, failures_on, run_from_append, moment-append}
use Rattle.updater_cli.proofs.Traces.{writes_on}

-- ---- no boot event among lines

-- events of lines are no boot events
no_boot : (line : List ℕ) (event : Event) → IsEvent line event → IsNoBoot event
no_boot line (Boot boot) is = is
no_boot line (Line command now heard) is = tt
no_boot line (Unread fault) is = tt

keeps_first : (event : Event) (events : List Event) → IsNoBoot event → after_boot (event ∷ events) ≡ event ∷ events
keeps_first (Boot boot) events none = absurd none
keeps_first (Line command now heard) events none = refl
keeps_first (Unread fault) events none = refl

after_events : (inputs : List (List ℕ)) (events extra : List Event) → AreEvents inputs (events ++ extra) → after_boot events ≡ events
after_events inputs [] extra are = refl
after_events [] (event ∷ events) extra are = absurd are
after_events (line ∷ inputs) (event ∷ events) extra are = keeps_first event events (no_boot line event are.0)

no_boot_first : (inputs : List (List ℕ)) (more : List ReportLine) (extra : List Event) → AreEvents inputs (events_of more ++ extra) → IsNoBootFirst more
no_boot_first inputs [] extra are = tt
no_boot_first [] (l ∷ more) extra are = absurd are
no_boot_first (line ∷ inputs) (l ∷ more) extra are = no_boot line l.event are.0

-- the event that was begun is a line's
line_or_none : (inputs : List (List ℕ)) (events : List Event) (begun : Option Event) → AreEvents inputs (events ++ option_to_list begun) → IsLineOrNone begun
line_or_none inputs events None are = tt
line_or_none [] [] (Some event) are = absurd are
line_or_none (line ∷ inputs) [] (Some event) are = no_boot line event are.0
line_or_none [] (e ∷ events) (Some event) are = absurd are
line_or_none (line ∷ inputs) (e ∷ events) (Some event) are = line_or_none inputs events (Some event) are.1

-- a first part of the events is that of a first part of the lines
take-none : (l : List (List ℕ)) → take 0 l ≡ []
take-none [] = refl
take-none (x ∷ l) = refl

first_events : (inputs : List (List ℕ)) (events extra : List Event) → AreEvents inputs (events ++ extra) → AreEvents (take (length events) inputs) events
first_events inputs [] extra are = subst (λ (l : List (List ℕ)). AreEvents l []) (sym (take-none inputs)) tt
first_events [] (event ∷ events) extra are = absurd are
first_events (line ∷ inputs) (event ∷ events) extra are = (are.0, first_events inputs events extra are.1)

-- ---- before the lines there is the boot event, or nothing

module _ (boot failures from mid : ℕ) where
  no_texts : (first : List ReportLine) → HasBootLine boot failures from mid first → texts_of (replies_of first) ≡ []
  no_texts [] has = refl
  no_texts (l ∷ []) has = ap (λ (r : Option Reply). texts_of (r ∷ [])) has.1
  no_texts (l ∷ m ∷ lines) has = absurd has

  first_marks : (first : List ReportLine) → from ≤ mid → HasBootLine boot failures from mid first → MarksRise from first mid
  first_marks [] le has = le
  first_marks (l ∷ []) le has = (has.3, has.4)
  first_marks (l ∷ m ∷ lines) le has = absurd has

  first_failures : (first : List ReportLine) → HasBootLine boot failures from mid first → FailuresRise failures first failures
  first_failures [] has = omega arith
  first_failures (l ∷ []) has = (omega (arith, has.2), omega (arith, has.2))
  first_failures (l ∷ m ∷ lines) has = absurd has

  first_downs : (first : List ReportLine) → HasBootLine boot failures from mid first → DownsAreCounted failures first
  first_downs [] has = tt
  first_downs (l ∷ []) has = ((λ down. absurd (subst (λ (r : Option Reply). IsSomeAnd r SaysDown) has.1 down)), tt)
  first_downs (l ∷ m ∷ lines) has = absurd has

  first_lacks : (first : List ReportLine) → HasBootLine boot failures from mid first → AreLacksFew first
  first_lacks [] has = tt
  first_lacks (l ∷ []) has = ((λ e. absurd (let clash : ◌≡◌ {A = Option Reply} None (Some says.Memory) = sym has.1 ∙ e in cc)), tt)
  first_lacks (l ∷ m ∷ lines) has = absurd has

  -- the moment is the first one
  first_moment : (now : ℕ) (first : List ReportLine) → HasBootLine boot failures from mid first → moment_behind now first ≡ now
  first_moment now [] has = refl
  first_moment now (l ∷ []) has = rw has.1 refl
  first_moment now (l ∷ m ∷ lines) has = absurd has

  first_run : boot ≤ NUMBER_LIMIT → (now : ℕ) (first : List ReportLine) → HasBootLine boot failures from mid first → AreRunFrom now first
  first_run small now [] has = tt
  first_run small now (l ∷ []) has = (rw has.0 small, tt)
  first_run small now (l ∷ m ∷ lines) has = absurd has

  after_first : (first more : List ReportLine) (inputs : List (List ℕ)) (extra : List Event) → HasBootLine boot failures from mid first → AreEvents inputs (events_of more ++ extra) → after_boot (events_of (first ++ more)) ≡ events_of more
  after_first [] more inputs extra has are = after_events inputs (events_of more) extra are
  after_first (l ∷ []) more inputs extra has are = ap (λ (e : Event). after_boot (e ∷ events_of more)) has.0
  after_first (l ∷ m ∷ lines) more inputs extra has are = absurd has

  boots_on : (kept : ℕ) (first more : List ReportLine) (inputs : List (List ℕ)) (extra : List Event) → HasBootLine boot failures from mid first → AreEvents inputs (events_of more ++ extra) → BootsFirst boot kept first → BootsFirst boot kept (first ++ more)
  boots_on kept [] more inputs extra has are boots = record { other = λ differs. absurd (boots.other differs); same = λ is. no_boot_first inputs more extra are }
  boots_on kept (l ∷ []) more inputs extra has are boots = record { other = boots.other; same = boots.same }
  boots_on kept (l ∷ m ∷ lines) more inputs extra has are boots = absurd has

-- ---- statuses

begins_on_fault : (status : Status) (begun : Option Event) → IsSessionEnd status begun → BeginsOnFault (code_of status) begun
begins_on_fault Done begun end = record { none = λ other. end; some = λ four. absurd (omega arith) }
begins_on_fault Memory begun end = record { none = λ other. end; some = λ four. absurd (omega arith) }
begins_on_fault SourceFault begun end = record { none = λ other. end; some = λ four. absurd (omega arith) }
begins_on_fault SinkFault begun end = record { none = λ other. end; some = λ four. absurd (omega arith) }
begins_on_fault TooMuchInput begun end = record { none = λ other. end; some = λ four. absurd (omega arith) }
begins_on_fault DiskFault begun end = record { none = λ other. absurd (other refl); some = λ four. end }
begins_on_fault Words begun end = absurd end
begins_on_fault NotAStore begun end = absurd end

-- no session that was opened ends with status 5
not_five : (status : Status) (begun : Option Event) → IsSessionEnd status begun → code_of status ≢ 5
not_five Done begun end same = omega (arith, same)
not_five Memory begun end same = omega (arith, same)
not_five SourceFault begun end same = omega (arith, same)
not_five SinkFault begun end same = omega (arith, same)
not_five TooMuchInput begun end same = omega (arith, same)
not_five DiskFault begun end same = omega (arith, same)
not_five Words begun end same = end
not_five NotAStore begun end same = end

-- how the whole input ended
session_end : (outcome : PartOutcome) (begun : Option Event) → OnOk outcome (begun ≡ None) → IfErr outcome (λ status. IsSessionEnd status begun) → IsSessionEnd (end_status outcome) begun
session_end (Ok done) begun none end = none
session_end (Err status) begun none end = end

-- ---- the lines of a session that was opened

-- the events are those of the first lines of the input
reads_lines : (boot status : ℕ) (input left : List ℕ) (report : Report) (events : List Event) (inputs : List (List ℕ)) → AreEvents inputs (events ++ option_to_list report.begun) → AreInputs status input left inputs
    → (status ≢ 4 → report.begun ≡ None) → ReadsLines boot status input left report events
reads_lines boot status input left report events inputs are is none = record {
  each = subst (λ (l : List (List ℕ)). AreEvents l events) (sym (same (length events) (omega (arith, size, length-append events (option_to_list report.begun))))) (first_events inputs events (option_to_list report.begun) are);
  next = λ event begun.
      let all : AreEvents inputs (events ++ event ∷ []) = subst (λ (o : Option Event). AreEvents inputs (events ++ option_to_list o)) begun are in
      let long : length inputs ≡ length events + 1 = sym (length_events inputs (events ++ event ∷ []) all) ∙ length-append events (event ∷ []) in
      inl (subst (λ (l : List (List ℕ)). AreEvents l (events ++ event ∷ [])) (sym (same (length events + 1) (omega (arith, long)) ∙ take_all (length events + 1) inputs (omega (arith, long)))) all);
  done = λ zero.
      let all = is.all zero in
      let whole : AreEvents inputs events = alone (none (λ four. omega (arith, zero, four))) in
      (subst (λ (l : List (List ℕ)). AreEvents l events) all.0 whole, all.1, all.2);
  ended = λ which. length_events inputs events (alone (none (not_four which))) ∙ is.ended which;
  limit = is.limit;
  beyond = is.beyond;
}
  where
    size : length (events ++ option_to_list report.begun) ≡ length inputs
    size = length_events inputs (events ++ option_to_list report.begun) are

    same : (n : ℕ) → n ≤ length inputs → take n (lines input) ≡ take n inputs
    same n le = ap (take n) is.first ∙ take-append-le n inputs is.more le

    alone : report.begun ≡ None → AreEvents inputs events
    alone no_event = subst (λ (l : List Event). AreEvents inputs l) (ap (λ (o : Option Event). events ++ option_to_list o) no_event ∙ append-nil events) are

    not_four : (status ≡ 2) ⊎ (status ≡ 8) → status ≢ 4
    not_four (inl two) four = omega (arith, two, four)
    not_four (inr eight) four = omega (arith, eight, four)

module _ {S K D L : Type 0} (source : SourceGhosts S) (to : SinkGhosts K) (on : Ghosts D) (net : LinksGhosts L) (boot now : ℕ) (disk : D) (source_old source_new : S) (old new : Place K D L) (outcome : PartOutcome)
    (begun : BeginsAt on boot now (failures_of (net.links old.links)) disk old.course old.disk) (answered : InputAnswered source to on net source_old old outcome source_new new) where
  first : List ReportLine
  first = old.course.lines.items

  more : List ReportLine
  more = answered.trace.more

  report : Report
  report = report_of new.course.lines.items new.course.begun

  goes_on_begun : (outcome : PartOutcome) → OnOk outcome (IsReady new.course) → OnOk outcome (new.course.begun ≡ None)
  goes_on_begun (Ok done) ready = ready.begun
  goes_on_begun (Err status) ready = tt

  ending : IsSessionEnd (end_status outcome) new.course.begun
  ending = session_end outcome new.course.begun (goes_on_begun outcome answered.keeps.goes_on) answered.ends

  le : on.moment disk ≤ on.moment old.disk
  le = omega (arith, begun.synced)

  now_is : old.course.now ≡ moment_behind now old.course.lines.items
  now_is = begun.moment ∙ sym (first_moment boot (failures_of (net.links old.links)) (on.moment disk) (on.moment old.disk) now old.course.lines.items begun.lines)

  now_behind : new.course.now ≡ moment_behind now new.course.lines.items
  now_behind =
      answered.trace.moment ∙ ap (λ (n : ℕ). moment_behind n answered.trace.more) now_is
      ∙ sym (moment-append now old.course.lines.items answered.trace.more) ∙ ap (λ (ls : List ReportLine). moment_behind now ls) (sym answered.trace.grown)

  pub moments : boot ≤ NUMBER_LIMIT → KeepsMoments now (report_of new.course.lines.items new.course.begun)
  moments small = record {
    lines =
        subst (λ (ls : List ReportLine). AreRunFrom now ls) (sym answered.trace.grown)
        (run_from_append now old.course.lines.items answered.trace.more (first_run boot (failures_of (net.links old.links)) (on.moment disk) (on.moment old.disk) small now old.course.lines.items begun.lines)
        (subst (λ (n : ℕ). AreRunFrom n answered.trace.more) now_is answered.trace.at));
    begun = subst (λ (n : ℕ). IfSome new.course.begun (IsRunAt n)) now_behind answered.trace.begun_at;
  }

  -- the lines
  pub opened_lines : boot ≤ NUMBER_LIMIT → (on.tells new.disk → (store : Store) → StandsFor (on.seen disk) store → BootsFirst boot store.boot old.course.lines.items)
      → HeadlineLines source on net boot now (code_of (end_status outcome)) (devices_of source_old old.sink disk old.links) (devices_of source_new new.sink new.disk new.links)
      (report_of new.course.lines.items new.course.begun)
  opened_lines small boots = record {
    reads = λ told.
        let same : after_boot (events_of new.course.lines.items) ≡ events_of answered.trace.more =
        ap (λ (ls : List ReportLine). after_boot (events_of ls)) answered.trace.grown
        ∙ after_first boot (failures_of (net.links old.links)) (on.moment disk) (on.moment old.disk) old.course.lines.items answered.trace.more answered.inputs (option_to_list new.course.begun) begun.lines answered.trace.events in
        subst (λ (es : List Event). ReadsLines boot (code_of (end_status outcome)) (source.left source_old) (source.left source_new) (report_of new.course.lines.items new.course.begun) es) (sym same)
        (reads_lines boot (code_of (end_status outcome)) (source.left source_old) (source.left source_new) (report_of new.course.lines.items new.course.begun) (events_of answered.trace.more) answered.inputs answered.trace.events
        (answered.given told) (begins_on_fault (end_status outcome) new.course.begun ending).none);
    moments = moments small;
    begun = begins_on_fault (end_status outcome) new.course.begun ending;
    marks =
        subst (λ (ls : List ReportLine). MarksRise (on.moment disk) ls (on.moment new.disk)) (sym answered.trace.grown)
        (rise_on (on.moment disk) (on.moment old.disk) (on.moment new.disk) old.course.lines.items answered.trace.more
        (first_marks boot (failures_of (net.links old.links)) (on.moment disk) (on.moment old.disk) old.course.lines.items le begun.lines) answered.trace.marks);
    failures =
        subst (λ (ls : List ReportLine). FailuresRise (failures_of (net.links old.links)) ls (failures_of (net.links new.links))) (sym answered.trace.grown)
        (failures_on (failures_of (net.links old.links)) (failures_of (net.links old.links)) (failures_of (net.links new.links)) old.course.lines.items answered.trace.more
        (first_failures boot (failures_of (net.links old.links)) (on.moment disk) (on.moment old.disk) old.course.lines.items begun.lines) answered.trace.failures);
    downs =
        subst (λ (ls : List ReportLine). DownsAreCounted (failures_of (net.links old.links)) ls) (sym answered.trace.grown)
        (downs_on (failures_of (net.links old.links)) (failures_of (net.links old.links)) (failures_of (net.links new.links)) old.course.lines.items answered.trace.more
        (first_failures boot (failures_of (net.links old.links)) (on.moment disk) (on.moment old.disk) old.course.lines.items begun.lines)
        (first_downs boot (failures_of (net.links old.links)) (on.moment disk) (on.moment old.disk) old.course.lines.items begun.lines) answered.trace.failures answered.trace.downs);
    lacks =
        subst AreLacksFew (sym answered.trace.grown)
        (lacks_on old.course.lines.items answered.trace.more
        (first_lacks boot (failures_of (net.links old.links)) (on.moment disk) (on.moment old.disk) old.course.lines.items begun.lines) answered.trace.lacks);
    links = answered.keeps.kept;
    opening = inr (record {
      store = not_five (end_status outcome) new.course.begun ending;
      synced = omega (arith, begun.synced, answered.keeps.asks.later);
      boots = λ told store stands.
          subst (λ (ls : List ReportLine). BootsFirst boot store.boot ls) (sym answered.trace.grown)
          (boots_on boot (failures_of (net.links old.links)) (on.moment disk) (on.moment old.disk) store.boot old.course.lines.items answered.trace.more answered.inputs (option_to_list new.course.begun) begun.lines answered.trace.events (boots told store stands));
      begun = line_or_none answered.inputs (events_of answered.trace.more) new.course.begun answered.trace.events;
    });
  }

  -- what was written
  pub opened_output : to.tells → WritesReplies (code_of (end_status outcome)) (to.taken old.sink) (to.taken new.sink) new.course.lines.items
  opened_output told =
      subst (λ (ls : List ReportLine). WritesReplies (code_of (end_status outcome)) (to.taken old.sink) (to.taken new.sink) ls) (sym answered.trace.grown)
      (writes_on (code_of (end_status outcome)) (to.taken old.sink) (to.taken old.sink) (to.taken new.sink) old.course.lines.items answered.trace.more
      (sym (ap (λ (l : List ℕ). to.taken old.sink ++ l) (no_texts boot (failures_of (net.links old.links)) (on.moment disk) (on.moment old.disk) old.course.lines.items begun.lines) ∙ append-nil (to.taken old.sink)))
      (answered.trace.output told))

-- ---- a session that was not opened

module _ {S K D L : Type 0} (source : SourceGhosts S) (on : Ghosts D) (net : LinksGhosts L) (boot now : ℕ) (small : boot ≤ NUMBER_LIMIT) (s : S) (k : K) (l : L) (old new : D) (le : on.moment old ≤ on.moment new) where
  none_lines : (status : ℕ) (begun : Option Event) → status ≢ 0 → status ≢ 2 → status ≢ 8 → ((event : Event) → begun ≡ Some event → event ≡ Boot boot)
      → IfSome begun (IsRunAt now) → BeginsOnFault status begun
      → ((status ≡ 4) × (begun ≡ Some (Boot boot))) ⊎ (((status ≡ 5) ⊎ (status ≡ 6)) × (begun ≡ None))
      → HeadlineLines source on net boot now status (devices_of s k old l) (devices_of s k new l) (report_of [] begun)
  none_lines status begun not_zero not_two not_eight next at fault ends = record {
    reads = λ told. record {
      each = subst (λ (l : List (List ℕ)). AreEvents l []) (sym (take-none (lines (source.left s)))) tt;
      next = λ event is. inr (refl, next event is, refl);
      done = λ zero. absurd (not_zero zero);
      ended = λ which. absurd (neither which);
      limit = λ eight. absurd (not_eight eight);
      beyond = λ more. absurd (omega arith);
    };
    moments = record { lines = tt; begun = at };
    begun = fault;
    marks = le;
    failures = omega arith;
    downs = tt;
    lacks = tt;
    links = kept_same (net.links l);
    opening = inl (record { lines = refl; begun = ends; unread = refl; unwritten = refl; unasked = refl });
  }
    where
      neither : (status ≡ 2) ⊎ (status ≡ 8) → ⊥
      neither (inl two) = not_two two
      neither (inr eight) = not_eight eight

  pub unopened_lines : (status : Status) → IsOpeningEnd status
      → HeadlineLines source on net boot now (code_of status) (devices_of s k old l) (devices_of s k new l) (report_of [] (begun_by boot status))
  unopened_lines Memory end =
      none_lines 6 None (λ same. omega (arith, same)) (λ same. omega (arith, same)) (λ same. omega (arith, same)) (λ event is. cc (is)) tt
      (record { none = λ other. refl; some = λ four. absurd (omega arith) }) (inr (inr refl, refl))
  unopened_lines NotAStore end =
      none_lines 5 None (λ same. omega (arith, same)) (λ same. omega (arith, same)) (λ same. omega (arith, same)) (λ event is. cc (is)) tt
      (record { none = λ other. refl; some = λ four. absurd (omega arith) }) (inr (inl refl, refl))
  unopened_lines DiskFault end =
      none_lines 4 (Some (Boot boot)) (λ same. omega (arith, same)) (λ same. omega (arith, same)) (λ same. omega (arith, same)) (λ event is. cc (is)) small
      (record { none = λ other. absurd (other refl); some = λ four. tt }) (inl (refl, refl))
  unopened_lines Done end = absurd end
  unopened_lines Words end = absurd end
  unopened_lines SourceFault end = absurd end
  unopened_lines SinkFault end = absurd end
  unopened_lines TooMuchInput end = absurd end

-- and its run
pub unopened_run : {S K D L : Type 0} (to : SinkGhosts K) (on : Ghosts D) (net : LinksGhosts L) (boot now : ℕ) (s : S) (k : K) (l : L) (old new : D) (status : Status) → IsOpeningEnd status
    → (on.tells new → status ≡ NotAStore → StandsForNone (on.seen old)) → (status ≢ DiskFault → on.moment new ≤ on.moment old + 1) → (status ≢ DiskFault → on.seen new ≡ on.seen old)
    → (on.tells new → (store : Store) → StandsFor (on.seen old) store → (more : ℕ) × CostsBegun now (net.links l) (net.links l) (session_over store) (begun_by boot status) more × (on.total new ≤ on.total old + more))
    → HeadlineRun to on net now (code_of status) (devices_of s k old l) (devices_of s k new l) (report_of [] (begun_by boot status))
unopened_run to on net boot now s k l old new status end no_store within reads costs = record {
  leads = λ told store stands. record {
    session = session_over store;
    settled = settled_first store stands.sound;
    reads = λ other. subst (λ (image : List ℕ). StandsFor image store) (sym (reads (λ same. other (ap code_of same)))) stands.stands;
    last = on.moment old + 1;
    bytes = 0;
    walk = (refl, refl, refl, refl);
    more = (costs told store stands.stands).0;
    begins = (costs told store stands.stands).1;
    written = omega (arith, (costs told store stands.stands).2);
    calls = made status end (λ is. no_store told is store stands.stands) within;
    behind = l;
    begun = begun status end store;
  };
  output = λ told. record { whole = λ other. sym (append-nil (to.taken k)); part = λ three. absurd (not_three status end three) };
}
  where
    not_three : (status : Status) → IsOpeningEnd status → code_of status ≡ 3 → ⊥
    not_three Memory end three = omega arith
    not_three NotAStore end three = omega arith
    not_three DiskFault end three = omega arith
    not_three Done end three = end
    not_three Words end three = end
    not_three SourceFault end three = end
    not_three SinkFault end three = end
    not_three TooMuchInput end three = end

    begun : (status : Status) → IsOpeningEnd status → (store : Store) → IsBegunServed net now (session_over store) l (begun_by boot status) l
    begun Memory end store = refl
    begun NotAStore end store = refl
    begun DiskFault end store = (session_over (booted boot store), None, (refl, refl), boot_served net l boot (Boot boot) None (session_over store) (session_over (booted boot store)) refl)
    begun Done end store = absurd end
    begun Words end store = absurd end
    begun SourceFault end store = absurd end
    begun SinkFault end store = absurd end
    begun TooMuchInput end store = absurd end

    made : (status : Status) → IsOpeningEnd status → (status ≡ NotAStore → ⊥) → (status ≢ DiskFault → on.moment new ≤ on.moment old + 1)
        → MadeCalls (code_of status) (on.moment old) (on.moment new) [] (on.moment old + 1)
    made Memory end never within = λ other. inr (refl, refl, within (λ same. cc (same)))
    made NotAStore end never within = absurd (never refl)
    made DiskFault end never within = λ other. absurd (other refl)
    made Done end never within = absurd end
    made Words end never within = absurd end
    made SourceFault end never within = absurd end
    made SinkFault end never within = absurd end
    made TooMuchInput end never within = absurd end
