-- Runs of lines that are cut and joined, and what is sound on the way.
use Rattle.std.proofs.Common.{◌≡◌, inl, inr, ℕ, List, [], ◌∷◌, ◌++◌, take, drop, Option, Some, None, refl, sym, subst, take-append-drop}
use Rattle.std.proofs.lemmas.List.Elements.{All-cons, All-nil}
use Rattle.std.specs.Prelude.{All, IfSome}
use Rattle.machine.specs.declared.command.Command.{Command}
use Rattle.machine.specs.declared.event.Event.{Event}
use Rattle.machine.specs.declared.event.Event.TheVariants.{Boot, Line, Unread}
use Rattle.machine.specs.declared.event.Heard.{Heard}
use Rattle.machine.specs.declared.reply.Reply.{Reply}
use Rattle.machine.specs.declared.report.Report.{Report}
use Rattle.machine.specs.declared.report.ReportLine.{ReportLine}
use Rattle.machine.specs.Machine.{Answers, Run, Step, moment_after}
use Rattle.machine.specs.Sound.{Sound}
use Rattle.machine.specs.Store.{Session}
use Rattle.machine.specs.Words.{IsEvent}
use Rattle.machine.proofs.KeptSteps.{run_sound, step_sound}
use Rattle.updater_cli.specs.Report.{AreRunFrom, Begins, IsRunAt, KeepsMoments, Origin, ReachesAfter, events_of, moment_behind, replies_of}
use Rattle.updater_cli.proofs.Runs.{run_push}

-- ---- the words of lines

pub is_event : (now : ℕ) (event : Event) → IsRunAt now event → IsEvent event
is_event now (Boot boot) at = at
is_event now (Line command moment heard) at = (at.2, at.1)
is_event now (Unread fault) at = tt

are_events : (now : ℕ) (lines : List ReportLine) → AreRunFrom now lines → All IsEvent (events_of lines)
are_events now [] at = All-nil IsEvent
are_events now (l ∷ lines) at = All-cons IsEvent l.event (events_of lines) (is_event now l.event at.0) (are_events (moment_after now l.reply) lines at.1)

pub run_before : (now : ℕ) (xs ys : List ReportLine) → AreRunFrom now (xs ++ ys) → AreRunFrom now xs
run_before now [] ys at = tt
run_before now (x ∷ xs) ys at = (at.0, run_before (moment_after now x.reply) xs ys at.1)

-- ---- a run in two parts

pub record Halves (now : ℕ) (old : Session) (xs ys : List ReportLine) (new : Session) : Type 0 where
  pub mid : Session
  pub first : Run now old (events_of xs) (replies_of xs) mid
  pub rest : Run (moment_behind now xs) mid (events_of ys) (replies_of ys) new

pub halves : (now : ℕ) (old : Session) (xs ys : List ReportLine) (new : Session) → Run now old (events_of (xs ++ ys)) (replies_of (xs ++ ys)) new → Halves now old xs ys new
halves now old [] ys new run = record { mid = old; first = refl; rest = run }
halves now old (x ∷ xs) ys new run =
    let inner = halves (moment_after now x.reply) run.0 xs ys new run.2 in
    record { mid = inner.mid; first = (run.0, run.1, inner.first); rest = inner.rest }

pub joined : (now : ℕ) (old mid : Session) (xs ys : List ReportLine) (new : Session) → Run now old (events_of xs) (replies_of xs) mid → Run (moment_behind now xs) mid (events_of ys) (replies_of ys) new
    → Run now old (events_of (xs ++ ys)) (replies_of (xs ++ ys)) new
joined now old mid [] ys new first rest = subst (λ (s : Session). Run now s (events_of ys) (replies_of ys) new) first rest
joined now old mid (x ∷ xs) ys new first rest = (first.0, first.1, joined (moment_after now x.reply) first.0 mid xs ys new first.2 rest)

-- ---- a line of a command

pub line_answers : (now : ℕ) (old new : Session) (l : ReportLine) (command : Command) (moment : ℕ) (heard : Heard) (reply : Reply) → Step now old l.event l.reply new
    → l.event ≡ Line command moment heard → l.reply ≡ Some reply → Answers now heard.texts old command reply new
line_answers now old new l command moment heard reply step is_event is_reply =
    let one = subst (λ (e : Event). Step now old e l.reply new) is_event step in
    let is : one.answer ≡ reply = cc (is_reply, one.replied) in
    subst (λ (r : Reply). Answers now heard.texts old command r new) is one.answers

-- ---- what is sound

module _ (from : Origin) (sound : Sound from.session.store) where
  -- behind some lines
  pub sound_behind : (lines : List ReportLine) (s : Session) → AreRunFrom from.now lines → Run from.now from.session (events_of lines) (replies_of lines) s → Sound s.store
  sound_behind lines s at run = run_sound from.now from.session (events_of lines) (replies_of lines) s (are_events from.now lines at) run sound

  begins_sound : (lines : List ReportLine) (begun : Option Event) (s : Session) → AreRunFrom from.now lines → IfSome begun (IsRunAt (moment_behind from.now lines)) → Begins from lines begun s → Sound s.store
  begins_sound lines None s at begun_at begins = absurd begins
  begins_sound lines (Some event) s at begun_at begins =
      step_sound (moment_behind from.now lines) begins.0 event begins.1 s (is_event (moment_behind from.now lines) event begun_at) begins.3 (sound_behind lines begins.0 at begins.2)

  -- behind the first events of a report
  pub reached_sound : (report : Report) (n : ℕ) (s : Session) → KeepsMoments from.now report → ReachesAfter from report n s → Sound s.store
  reached_sound report n s moments (inl reached) =
      sound_behind (take n report.lines) s (run_before from.now (take n report.lines) (drop n report.lines) (subst (λ (ls : List ReportLine). AreRunFrom from.now ls) (sym (take-append-drop n report.lines)) moments.lines)) reached.1
  reached_sound report n s moments (inr reached) = begins_sound report.lines report.begun s moments.lines moments.begun reached.1

-- ---- a run of the first events of a report

pub record IsRunTo (from : Origin) (s : Session) : Type 0 where
  pub events : List Event
  pub replies : List (Option Reply)
  pub run : Run from.now from.session events replies s

begins_run : (from : Origin) (lines : List ReportLine) (begun : Option Event) (s : Session) → Begins from lines begun s → IsRunTo from s
begins_run from lines None s begins = absurd begins
begins_run from lines (Some event) s begins = record {
  events = events_of lines ++ event ∷ [];
  replies = replies_of lines ++ begins.1 ∷ [];
  run = run_push from.now from.session begins.0 s lines event begins.1 begins.2 begins.3;
}

pub reached_run : (from : Origin) (report : Report) (n : ℕ) (s : Session) → ReachesAfter from report n s → IsRunTo from s
reached_run from report n s (inl reached) = record { events = events_of (take n report.lines); replies = replies_of (take n report.lines); run = reached.1 }
reached_run from report n s (inr reached) = begins_run from report.lines report.begun s reached.1
