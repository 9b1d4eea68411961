-- How the trace of a session goes on.
use Rattle.std.proofs.Common.{◌≡◌, ◌≢◌, ◌==◌, ℕ, ◌+◌, ◌≤◌, Bool, true, false, List, [], ◌∷◌, ◌++◌, length, map, Option, Some, None, Ok, Err, refl, sym, ◌∙◌, ap, subst, arith, append_assoc, if◌then◌else◌}
use Rattle.std.proofs.lemmas.List.{append-nil, map-append, take_all}
use Rattle.std.proofs.lemmas.List.Elements.{All-append, All-nil}
use Rattle.std.specs.Prelude.{option_to_list, IsSomeAnd}
use Rattle.std.specs.Str.Lines.{strip_carriage_return}
use Rattle.small_types.specs.declared.limits.TheConstants.{LINE_LIMIT}
use Rattle.outside.specs.Streams.{AppendsPart, Rose}
use Rattle.machine.specs.declared.event.Event.{Event}
use Rattle.machine.specs.declared.reply.Reply.TheVariants as says
use Rattle.machine.specs.declared.report.ReportLine.{ReportLine}
use Rattle.machine.specs.Machine.{moment_after}
use Rattle.command_text.specs.Lines.{AreEvents, IsEvent, command_of, texts_of}
use Rattle.command_text.specs.Input.{Cut, HasNoFeed, kept_of}
use Rattle.command_text.proofs.InputLemmas.{events_append, texts_of-append, cut_feed}
use Rattle.command_text.proofs.LongLines.{event_as, read_part, same_ended, same_last, some_kept}
use Rattle.command_text.proofs.GoesOn.{AreKeptAlike, events_alike, reads_on, stops_on}
use Rattle.install_plan.specs.Downs.{SaysDown}
use Rattle.updater_cli.specs.declared.status.Status.TheVariants.{Done, Words, SourceFault, SinkFault, DiskFault, NotAStore, Memory, TooMuchInput}
use Rattle.updater_cli.specs.Lacks.{MayLineLack}
use Rattle.updater_cli.specs.Lines.{Stage, Trace, IsPending, Progress, Stopped, outcome_code, taken_of}
use Rattle.updater_cli.specs.Report.{events_of, replies_of, moment_behind, IsRunAt, AreRunFrom, WritesReplies, CutsLast}
use Rattle.updater_cli.specs.Status.{PartOutcome}
use Rattle.updater_cli.proofs.Downs.{downs_on}
use Rattle.updater_cli.proofs.Lacks.{lacks_on}
use Rattle.updater_cli.proofs.Runs.{rise_on, failures_on, moment-append, run_from_append}

-- ---- what was written

-- the texts of more replies follow those of the first
pub texts-append : (xs ys : List ReportLine) → texts_of (replies_of (xs ++ ys)) ≡ texts_of (replies_of xs) ++ texts_of (replies_of ys)
texts-append xs ys = ap texts_of (map-append (λ (l : ReportLine). l.reply) xs ys) ∙ texts_of-append (replies_of xs) (replies_of ys)

pub writes_on : (status : ℕ) (a b c : List ℕ) (xs ys : List ReportLine) → b ≡ a ++ texts_of (replies_of xs) → WritesReplies status b c ys → WritesReplies status a c (xs ++ ys)
writes_on status a b c xs ys first second = record {
  whole = λ not_three. second.whole not_three ∙ ap (λ (l : List ℕ). l ++ texts_of (replies_of ys)) first ∙ append_assoc a (texts_of (replies_of xs)) (texts_of (replies_of ys)) ∙ ap (λ (l : List ℕ). a ++ l) (sym (texts-append xs ys));
  part = λ three. cut (second.part three);
}
  where
    cut : CutsLast b c ys → CutsLast a c (xs ++ ys)
    cut last = record {
      before = xs ++ last.before;
      last = last.last;
      split = ap (λ (l : List ReportLine). xs ++ l) last.split ∙ sym (append_assoc xs last.before (last.last ∷ []));
      part =
          let whole : b ++ texts_of (replies_of last.before) ≡ a ++ texts_of (replies_of (xs ++ last.before)) =
          ap (λ (l : List ℕ). l ++ texts_of (replies_of last.before)) first ∙ append_assoc a (texts_of (replies_of xs)) (texts_of (replies_of last.before)) ∙ ap (λ (l : List ℕ). a ++ l) (sym (texts-append xs last.before)) in
          subst (λ (l : List ℕ). AppendsPart l c (texts_of (last.last.reply ∷ []))) whole last.part;
    }

zero_three : ◌≢◌ {A = ℕ} 0 3
zero_three same = omega arith

-- ---- traces

-- one trace after another
pub traces_on : (told : Type 0) (status : ℕ) (first second : List (List ℕ)) (old mid new : Stage) (begun : Option Event)
    → Trace told 0 first old mid None → Trace told status second mid new begun → Trace told status (first ++ second) old new begun
traces_on told status first second old mid new begun one two = record {
  more = one.more ++ two.more;
  grown = two.grown ∙ ap (λ (l : List ReportLine). l ++ two.more) one.grown ∙ append_assoc old.lines one.more two.more;
  events =
      let front = subst (λ (es : List Event). AreEvents first es) (append-nil (events_of one.more)) one.events in
      let both = events_append first (events_of one.more) second (events_of two.more ++ option_to_list begun) front two.events in
      let same : events_of one.more ++ (events_of two.more ++ option_to_list begun) ≡ events_of (one.more ++ two.more) ++ option_to_list begun =
      sym (append_assoc (events_of one.more) (events_of two.more) (option_to_list begun)) ∙ ap (λ (l : List Event). l ++ option_to_list begun) (sym (map-append (λ (l : ReportLine). l.event) one.more two.more)) in
      subst (λ (es : List Event). AreEvents (first ++ second) es) same both;
  at = run_from_append old.now one.more two.more one.at (subst (λ (now : ℕ). AreRunFrom now two.more) one.moment two.at);
  begun_at = two.begun_at;
  moment = two.moment ∙ ap (λ (now : ℕ). moment_behind now two.more) one.moment ∙ sym (moment-append old.now one.more two.more);
  marks = rise_on old.calls mid.calls new.calls one.more two.more one.marks two.marks;
  failures = failures_on old.failures mid.failures new.failures one.more two.more one.failures two.failures;
  downs = downs_on old.failures mid.failures new.failures one.more two.more one.failures one.downs two.failures two.downs;
  lacks = lacks_on one.more two.more one.lacks two.lacks;
  output = λ is_told. writes_on status old.taken mid.taken new.taken one.more two.more ((one.output is_told).whole zero_three) (two.output is_told);
}

-- nothing more was read
pub trace_none : (told : Type 0) (status : ℕ) (stage : Stage) → status ≢ 3 → Trace told status [] stage stage None
trace_none told status stage other = record {
  more = [];
  grown = sym (append-nil stage.lines);
  events = tt;
  at = tt;
  begun_at = tt;
  moment = refl;
  marks = omega arith;
  failures = omega arith;
  downs = tt;
  lacks = tt;
  output = λ is_told. record { whole = λ not_three. sym (append-nil stage.taken); part = λ three. absurd (other three) };
}

-- the same trace, which ends with another status
pub trace_as : (told : Type 0) (status : ℕ) (inputs : List (List ℕ)) (old new : Stage) → status ≢ 3 → Trace told 0 inputs old new None → Trace told status inputs old new None
trace_as told status inputs old new other trace =
    subst (λ (l : List (List ℕ)). Trace told status l old new None) (append-nil inputs)
    (traces_on told status inputs [] old new new None trace (trace_none told status new other))

-- a line was run
module _ (told : Type 0) (input : List ℕ) (old new : Stage) (l : ReportLine) (grown : new.lines ≡ old.lines ++ l ∷ [])
    (event : IsEvent input l.event) (at : IsRunAt old.now l.event) (moment : new.now ≡ moment_after old.now l.reply)
    (from : old.calls ≤ l.mark) (to : l.mark ≤ new.calls) (risen : old.failures ≤ l.failures) (within : l.failures ≤ new.failures)
    (down : IsSomeAnd l.reply SaysDown → Rose old.failures l.failures) (lack : l.reply ≡ Some says.Memory → MayLineLack l.event) where
  -- and its reply was written
  pub trace_line : (told → new.taken ≡ old.taken ++ texts_of (l.reply ∷ [])) → Trace told 0 (input ∷ []) old new None
  trace_line output = record {
    more = l ∷ [];
    grown = grown;
    events = (event, tt);
    at = (at, tt);
    begun_at = tt;
    moment = moment;
    marks = (from, to);
    failures = (risen, within);
    downs = (down, tt);
    lacks = (lack, tt);
    output = λ is_told. record { whole = λ not_three. output is_told; part = λ three. absurd (zero_three three) };
  }

  -- and its reply was cut off
  pub trace_cut : (told → AppendsPart old.taken new.taken (texts_of (l.reply ∷ []))) → Trace told 3 (input ∷ []) old new None
  trace_cut output = record {
    more = l ∷ [];
    grown = grown;
    events = (event, tt);
    at = (at, tt);
    begun_at = tt;
    moment = moment;
    marks = (from, to);
    failures = (risen, within);
    downs = (down, tt);
    lacks = (lack, tt);
    output = λ is_told. record {
      whole = λ not_three. absurd (not_three refl);
      part = λ three. record { before = []; last = l; split = refl; part = subst (λ (x : List ℕ). AppendsPart x new.taken (texts_of (l.reply ∷ []))) (sym (append-nil old.taken)) (output is_told) };
    };
  }

-- the disk failed in a line
pub trace_begun : (told : Type 0) (input : List ℕ) (old new : Stage) (e : Event) → new.lines ≡ old.lines → new.taken ≡ old.taken → new.now ≡ old.now → old.calls ≤ new.calls → old.failures ≤ new.failures
    → IsEvent input e → IsRunAt old.now e → Trace told 4 (input ∷ []) old new (Some e)
trace_begun told input old new e same_lines same_taken same_now le fails event at = record {
  more = [];
  grown = same_lines ∙ sym (append-nil old.lines);
  events = (event, tt);
  at = tt;
  begun_at = subst (λ (now : ℕ). IsRunAt now e) (sym same_now) at;
  moment = same_now;
  marks = le;
  failures = fails;
  downs = tt;
  lacks = tt;
  output = λ is_told. record { whole = λ not_three. same_taken ∙ sym (append-nil old.taken); part = λ three. absurd (four_three three) };
}
  where
    four_three : ◌≢◌ {A = ℕ} 4 3
    four_three same = omega arith

-- the same for lines that have the same events
pub trace_read : (told : Type 0) (status : ℕ) (inputs others : List (List ℕ)) (old new : Stage) (begun : Option Event) → ((events : List Event) → AreEvents inputs events → AreEvents others events)
    → Trace told status inputs old new begun → Trace told status others old new begun
trace_read told status inputs others old new begun same trace = record {
  more = trace.more;
  grown = trace.grown;
  events = same (events_of trace.more ++ option_to_list begun) trace.events;
  at = trace.at;
  begun_at = trace.begun_at;
  moment = trace.moment;
  marks = trace.marks;
  failures = trace.failures;
  downs = trace.downs;
  lacks = trace.lacks;
  output = trace.output;
}

-- one line, which is read as another one is
pub events_as : (a b : List ℕ) → command_of a ≡ command_of b → (events : List Event) → AreEvents (a ∷ []) events → AreEvents (b ∷ []) events
events_as a b same [] are = absurd are
events_as a b same (event ∷ events) are = (event_as a b event same are.0, are.1)

-- ---- what was read

module _ (told : Type 0) (bytes kept piece : List ℕ) (old mid new : Stage) (one : Progress told bytes kept old mid) where
  trace_both : (status : ℕ) (begun : Option Event) (second raw : List (List ℕ)) → AreKeptAlike (one.raw ++ second) raw → Trace told status (map strip_carriage_return second) mid new begun
      → Trace told status (map strip_carriage_return raw) old new begun
  trace_both status begun second raw alike trace =
      trace_read told status (map strip_carriage_return (one.raw ++ second)) (map strip_carriage_return raw) old new begun (λ events are. events_alike (one.raw ++ second) raw events alike are)
      (subst (λ (l : List (List ℕ)). Trace told status l old new begun) (sym (map-append strip_carriage_return one.raw second))
      (traces_on told status (map strip_carriage_return one.raw) (map strip_carriage_return second) old mid new begun one.trace trace))

  -- a piece more was, which goes on from what was kept
  pub progress_on : (next : List ℕ) → Progress told (kept ++ piece) next mid new → Progress told (bytes ++ piece) next old new
  progress_on next two =
      let on = reads_on bytes kept piece next one.raw two.raw one.read two.read in
      record { raw = on.raw; read = on.read; trace = trace_both 0 None two.raw on.raw on.alike two.trace }

  -- it stopped within the piece
  pub stopped_on : (status : ℕ) (begun : Option Event) (rest : List ℕ) → Stopped told status (kept ++ piece) mid new begun → Stopped told status (bytes ++ (piece ++ rest)) old new begun
  stopped_on status begun rest two =
      let on = stops_on bytes kept piece two.before two.after two.rest one.raw two.raw one.read two.split two.cut in
      record {
        before = on.before;
        after = on.after ++ rest;
        split = sym (append_assoc bytes piece rest) ∙ ap (λ (l : List ℕ). l ++ rest) on.split ∙ append_assoc on.before on.after rest;
        raw = on.raw;
        rest = on.rest;
        cut = on.cut;
        trace = trace_both status begun two.raw on.raw on.alike two.trace;
      }

-- nothing is pending
pub pending_none : IsPending []
pending_none = record { begun = All-nil (λ (b : ℕ). b ≢ 10); within = omega arith }

-- nothing was read yet
cut_pending : (pending : List ℕ) → HasNoFeed pending → Cut pending [] pending
cut_pending pending begun = record { joined = refl; whole = All-nil HasNoFeed; begun = begun }

pub progress_none : (told : Type 0) (pending : List ℕ) (stage : Stage) → IsPending pending → Progress told pending pending stage stage
progress_none told pending stage is = record {
  raw = [];
  read = record { rest = pending; cut = cut_pending pending is.begun; is = sym (take_all (LINE_LIMIT + 2) pending is.within) };
  trace = trace_none told 0 stage zero_three;
}

-- bytes without a line feed
pub progress_part : (told : Type 0) (bytes kept part : List ℕ) (old new : Stage) → Progress told bytes kept old new → HasNoFeed part → Progress told (bytes ++ part) (kept_of (kept ++ part)) old new
progress_part told bytes kept part old new progress free = record {
  raw = progress.raw;
  read = read_part bytes progress.raw kept part progress.read free;
  trace = progress.trace;
}

-- there was no memory to keep more
pub stopped_here : (told : Type 0) (status : ℕ) (bytes kept rest : List ℕ) (old new : Stage) → status ≢ 3 → Progress told bytes kept old new → Stopped told status (bytes ++ rest) old new None
stopped_here told status bytes kept rest old new other progress = record {
  before = bytes;
  after = rest;
  split = refl;
  raw = progress.raw;
  rest = progress.read.rest;
  cut = progress.read.cut;
  trace = trace_as told status (map strip_carriage_return progress.raw) old new other progress.trace;
}

-- ---- a line that ends

module _ (told : Type 0) (pending part : List ℕ) (begun_line : HasNoFeed pending) (free : HasNoFeed part) where
  cut_ended : Cut (pending ++ (part ++ 10 ∷ [])) ((pending ++ part) ∷ []) []
  cut_ended =
      subst (λ (l : List ℕ). Cut l ((pending ++ part) ∷ []) []) (append_assoc pending part (10 ∷ []))
      (cut_feed (cut_pending (pending ++ part) (All-append (λ b. b ≢ 10) pending part begun_line free)))

  trace_ended : (status : ℕ) (old new : Stage) (begun : Option Event) → Trace told status (strip_carriage_return (kept_of (pending ++ part)) ∷ []) old new begun
      → Trace told status (strip_carriage_return (pending ++ part) ∷ []) old new begun
  trace_ended status old new begun trace =
      trace_read told status (strip_carriage_return (kept_of (pending ++ part)) ∷ []) (strip_carriage_return (pending ++ part) ∷ []) old new begun
      (λ events are. events_as (strip_carriage_return (kept_of (pending ++ part))) (strip_carriage_return (pending ++ part)) (same_ended (pending ++ part)) events are) trace

  -- the line was answered
  pub progress_line : (old new : Stage) → Trace told 0 (strip_carriage_return (kept_of (pending ++ part)) ∷ []) old new None → Progress told (pending ++ (part ++ 10 ∷ [])) [] old new
  progress_line old new trace = record {
    raw = (pending ++ part) ∷ [];
    read = record { rest = []; cut = cut_ended; is = refl };
    trace = trace_ended 0 old new None trace;
  }

  -- it was begun, or its reply cut off
  pub stopped_line : (status : ℕ) (old new : Stage) (begun : Option Event) → Trace told status (strip_carriage_return (kept_of (pending ++ part)) ∷ []) old new begun
      → Stopped told status (pending ++ (part ++ 10 ∷ [])) old new begun
  stopped_line status old new begun trace = record {
    before = pending ++ (part ++ 10 ∷ []);
    after = [];
    split = sym (append-nil (pending ++ (part ++ 10 ∷ [])));
    raw = (pending ++ part) ∷ [];
    rest = [];
    cut = cut_ended;
    trace = trace_ended status old new begun trace;
  }

  -- no memory was found before
  pub stopped_none : (status : ℕ) (old new : Stage) (begun : Option Event) → Trace told status [] old new begun → Stopped told status (pending ++ (part ++ 10 ∷ [])) old new begun
  stopped_none status old new begun trace = record {
    before = pending;
    after = part ++ 10 ∷ [];
    split = refl;
    raw = [];
    rest = pending;
    cut = cut_pending pending begun_line;
    trace = trace;
  }

-- ---- a last line

-- a line that was taken is read as another one is
taken_as : (outcome : PartOutcome) (a b : List ℕ) → command_of a ≡ command_of b → (events : List Event) → AreEvents (taken_of outcome a) events → AreEvents (taken_of outcome b) events
taken_as (Ok done) a b same events are = events_as a b same events are
taken_as (Err Memory) a b same events are = are
taken_as (Err Done) a b same events are = events_as a b same events are
taken_as (Err Words) a b same events are = events_as a b same events are
taken_as (Err SourceFault) a b same events are = events_as a b same events are
taken_as (Err SinkFault) a b same events are = events_as a b same events are
taken_as (Err DiskFault) a b same events are = events_as a b same events are
taken_as (Err NotAStore) a b same events are = events_as a b same events are
taken_as (Err TooMuchInput) a b same events are = events_as a b same events are

last_as : (none : Bool) (outcome : PartOutcome) (a b : List ℕ) → command_of a ≡ command_of b → (events : List Event) → AreEvents (if none then [] else taken_of outcome a) events
    → AreEvents (if none then [] else taken_of outcome b) events
last_as true outcome a b same events are = are
last_as false outcome a b same events are = taken_as outcome a b same events are

-- what was kept of it tells what it is
pub trace_last : (told : Type 0) (outcome : PartOutcome) (rest kept : List ℕ) (old new : Stage) (begun : Option Event) → kept ≡ kept_of rest
    → Trace told (outcome_code outcome) (if length kept == 0 then [] else taken_of outcome kept) old new begun → Trace told (outcome_code outcome) (if length rest == 0 then [] else taken_of outcome rest) old new begun
trace_last told outcome rest kept old new begun is trace =
    let kept_trace : Trace told (outcome_code outcome) (if length (kept_of rest) == 0 then [] else taken_of outcome (kept_of rest)) old new begun =
    subst (λ (l : List ℕ). Trace told (outcome_code outcome) (if length l == 0 then [] else taken_of outcome l) old new begun) is trace in
    trace_read told (outcome_code outcome) (if length rest == 0 then [] else taken_of outcome (kept_of rest)) (if length rest == 0 then [] else taken_of outcome rest) old new begun
    (λ events are. last_as (length rest == 0) outcome (kept_of rest) rest (same_last rest) events are)
    (subst (λ (b : Bool). Trace told (outcome_code outcome) (if b then [] else taken_of outcome (kept_of rest)) old new begun) (some_kept rest) kept_trace)
