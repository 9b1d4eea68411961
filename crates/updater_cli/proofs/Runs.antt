-- One line more in a report: its run, its moments and its marks.
use Rattle.std.proofs.Common.{◌≡◌, ℕ, ◌+◌, ◌-◌, ◌<◌, ◌≤◌, List, [], ◌∷◌, ◌++◌, length, Option, refl, sym, subst, arith, ◌∙◌, length-append}
use Rattle.std.proofs.lemmas.List.{map-append, take_at}
use Rattle.std.proofs.lemmas.Bool.Decides.{nat_tests}
use Rattle.std.specs.Prelude.{if◌then◌else◌, nat_le}
use Rattle.machine.specs.declared.event.Event.{Event}
use Rattle.machine.specs.declared.reply.Reply.{Reply}
use Rattle.machine.specs.declared.report.ReportLine.{ReportLine}
use Rattle.machine.specs.Machine.{Step, Run, moment_after}
use Rattle.machine.specs.declared.command.Command.TheVariants.{Group, Install}
use Rattle.machine.specs.declared.event.Event.TheVariants.{Line}
use Rattle.machine.specs.Laws.{FetchesWithoutJobs}
use Rattle.machine.specs.Words.{IsEvent}
use Rattle.machine.proofs.Sessions.{step_jobs, step_session}
use Rattle.machine.specs.Store.{Session}
use Rattle.updater_cli.specs.Report.{Origin, events_of, replies_of, marked_by, moment_behind, AreRunFrom, answered, IsSettled, RunsTo, MarksRise, FailuresRise, AreMarkedBy}

-- ---- a step

without_jobs : (event : Event) (old : Session) → old.jobs ≡ [] → FetchesWithoutJobs event old
without_jobs (Line (Install url) now heard) old none = none
without_jobs (Line (Group lease group) now heard) old none = none
without_jobs _ old none = tt

pub step_settled : (now : ℕ) (old : Session) (event : Event) (reply : Option Reply) (new : Session) → IsEvent event → Step now old event reply new → IsSettled old → IsSettled new
step_settled now old event reply new is step settled = record {
  sound = step_session now old event reply new is step (without_jobs event old settled.jobs) settled.sound;
  jobs = step_jobs now old event reply new step ∙ settled.jobs;
}

-- ---- the run

pub run_push : (now : ℕ) (old mid new : Session) (lines : List ReportLine) (e : Event) (r : Option Reply)
    → Run now old (events_of lines) (replies_of lines) mid → Step (moment_behind now lines) mid e r new
    → Run now old (events_of lines ++ e ∷ []) (replies_of lines ++ r ∷ []) new
run_push now old mid new [] e r run step = (new, subst (λ (s : Session). Step now s e r new) run step, refl)
run_push now old mid new (x ∷ lines) e r run step =
    (run.0, run.1, run_push (moment_after now x.reply) run.0 mid new lines e r run.2 step)

events-push : (lines : List ReportLine) (l : ReportLine) → events_of (lines ++ l ∷ []) ≡ events_of lines ++ l.event ∷ []
events-push lines l = map-append (λ (x : ReportLine). x.event) lines (l ∷ [])

replies-push : (lines : List ReportLine) (l : ReportLine) → replies_of (lines ++ l ∷ []) ≡ replies_of lines ++ l.reply ∷ []
replies-push lines l = map-append (λ (x : ReportLine). x.reply) lines (l ∷ [])

pub runs_push : (from : Origin) (s new : Session) (lines : List ReportLine) (l : ReportLine) → RunsTo from lines s
    → Step (moment_behind from.now lines) s l.event l.reply new → IsSettled new → RunsTo from (lines ++ l ∷ []) new
runs_push from s new lines l runs step settled = record {
  steps =
      let pushed = run_push from.now from.session s new lines l.event l.reply runs.steps step in
      subst (λ (es : List Event). Run from.now from.session es (replies_of (lines ++ l ∷ [])) new) (sym (events-push lines l))
      (subst (λ (rs : List (Option Reply)). Run from.now from.session (events_of lines ++ l.event ∷ []) rs new) (sym (replies-push lines l)) pushed);
  settled = settled;
}

-- ---- moments of lines

pub moment-append : (now : ℕ) (xs ys : List ReportLine) → moment_behind now (xs ++ ys) ≡ moment_behind (moment_behind now xs) ys
moment-append now [] ys = refl
moment-append now (x ∷ xs) ys = moment-append (moment_after now x.reply) xs ys

pub run_from_append : (now : ℕ) (xs ys : List ReportLine) → AreRunFrom now xs → AreRunFrom (moment_behind now xs) ys → AreRunFrom now (xs ++ ys)
run_from_append now [] ys first second = second
run_from_append now (x ∷ xs) ys first second = (first.0, run_from_append (moment_after now x.reply) xs ys first.1 second)

-- ---- marks

-- how much a line counts at a moment
abbrev pub counts : ReportLine → ℕ → ℕ
counts l t = if nat_le l.mark t then 1 else 0

pub counts_early : (l : ReportLine) (t : ℕ) → t < l.mark → counts l t ≡ 0
counts_early l t early = grind (arith, nat_tests)

pub counts_late : (l : ReportLine) (t : ℕ) → l.mark ≤ t → counts l t ≡ 1
counts_late l t late = grind (arith, nat_tests)

pub marked-push : (lines : List ReportLine) (l : ReportLine) (t : ℕ) → marked_by (lines ++ l ∷ []) t ≡ marked_by lines t + counts l t
marked-push [] l t = omega arith
marked-push (x ∷ lines) l t = omega (arith, marked-push lines l t)

pub marked_all : (lines : List ReportLine) (m t : ℕ) → AreMarkedBy lines m → m ≤ t → marked_by lines t ≡ length lines
marked_all [] m t marks le = refl
marked_all (l ∷ lines) m t marks le = omega (arith, marked_all lines m t marks.1 le, counts_late l t (omega (arith, marks.0)))

pub marked_later : (lines : List ReportLine) (m n : ℕ) → m ≤ n → AreMarkedBy lines m → AreMarkedBy lines n
marked_later [] m n le marks = tt
marked_later (l ∷ lines) m n le marks = (omega (arith, marks.0), marked_later lines m n le marks.1)

pub marked_push : (lines : List ReportLine) (l : ReportLine) (m : ℕ) → AreMarkedBy lines m → l.mark ≤ m → AreMarkedBy (lines ++ l ∷ []) m
marked_push [] l m marks le = (le, tt)
marked_push (x ∷ lines) l m marks le = (marks.0, marked_push lines l m marks.1 le)

-- all but the last
pub answered_cut : (lines : List ReportLine) (l : ReportLine) → answered 3 (lines ++ l ∷ []) ≡ lines
answered_cut lines l = take_at lines (l ∷ []) (length (lines ++ l ∷ []) - 1) (omega (arith, length-append lines (l ∷ [])))

pub rise_on : (a b c : ℕ) (xs ys : List ReportLine) → MarksRise a xs b → MarksRise b ys c → MarksRise a (xs ++ ys) c
rise_on a b c [] [] first second = omega arith
rise_on a b c [] (y ∷ ys) first second = (omega (arith, second.0), second.1)
rise_on a b c (x ∷ xs) ys first second = (first.0, rise_on x.mark b c xs ys first.1 second)

pub failures_on : (a b c : ℕ) (xs ys : List ReportLine) → FailuresRise a xs b → FailuresRise b ys c → FailuresRise a (xs ++ ys) c
failures_on a b c [] [] first second = omega arith
failures_on a b c [] (y ∷ ys) first second = (omega (arith, second.0), second.1)
failures_on a b c (x ∷ xs) ys first second = (first.0, failures_on x.failures b c xs ys first.1 second)
