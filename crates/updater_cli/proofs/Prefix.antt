-- What images stand for once a line more was run.
use Rattle.std.proofs.Common.{◌≡◌, ◌≢◌, ◌⊎◌, inl, inr, ℕ, ◌+◌, ◌<◌, ◌≤◌, List, [], ◌∷◌, ◌++◌, length, take, Option, Some, None, false, refl, sym, ◌∙◌, ap, subst, arith, length-append}
use Rattle.std.proofs.lemmas.List.{take_all, take-append-le}
use Rattle.std.proofs.lemmas.Bool.Decides.{nat_tests}
use Rattle.std.specs.Prelude.{◌==◌}
use Rattle.disks.specs.Moments.{LeavesOnly}
use Rattle.disks.specs.declared.disk.Disk.{Ghosts}
use Rattle.links.specs.declared.links.Links.{Ghosts as LinksGhosts}
use Rattle.links.specs.Links.{failures_of}
use Rattle.fetcher.proofs.Sequence.{kept_same}
use Rattle.machine.specs.declared.event.Event.{Event}
use Rattle.machine.specs.declared.reply.Reply.{Reply}
use Rattle.machine.specs.declared.report.ReportLine.{ReportLine}
use Rattle.machine.specs.Machine.{Step, Run, moment_after}
use Rattle.machine.specs.Store.{Session}
use Rattle.updater.specs.Shown.{Updater}
use Rattle.updater.specs.StandsFor.{StandsFor, StandsForEither}
use Rattle.updater.proofs.HeldStore.{stored_stands}
use Rattle.updater_cli.specs.declared.course.Course.{Course}
use Rattle.updater_cli.specs.Lines.{Ran, Broke}
use Rattle.updater_cli.specs.Report.{Origin, report_of, events_of, replies_of, marked_by, moment_behind, answered, ReachesAfter, RunsTo, IsLineServed, StandsForPrefix}
use Rattle.updater_cli.specs.Session.{SessionStart, Between, Ended}
use Rattle.updater_cli.specs.Walk.{Walks}
use Rattle.updater_cli.proofs.Runs.{runs_push, counts_early, counts_late, marked-push, marked_all, marked_later, marked_push, moment-append, answered_cut}
use Rattle.updater_cli.proofs.Walks.{line_holds, walk_kept, walk_push}

module _ (from : Origin) where
  -- an image that stands for a prefix stands for it whatever comes after
  pub longer : (lines : List ReportLine) (l : ReportLine) (begun : Option Event) (k : ℕ) (image : List ℕ)
      → StandsForPrefix from (report_of lines None) k image → StandsForPrefix from (report_of (lines ++ l ∷ []) begun) k image
  longer lines l begun k image p = record { n = p.n; holds = p.holds; session = p.session; reached = on p.reached; stands = p.stands }
    where
      on : ReachesAfter from (report_of lines None) p.n p.session → ReachesAfter from (report_of (lines ++ l ∷ []) begun) p.n p.session
      on (inl r) =
          let same : take p.n lines ≡ take p.n (lines ++ l ∷ []) = sym (take-append-le p.n lines (l ∷ []) r.0) in
          inl (omega (arith, r.0, length-append lines (l ∷ [])), subst (λ (ls : List ReportLine). Run from.now from.session (events_of ls) (replies_of ls) p.session) same r.1)
      on (inr r) = absurd r.1

  begins : (lines : List ReportLine) (begun : Option Event) (k : ℕ) (image : List ℕ)
      → StandsForPrefix from (report_of lines None) k image → StandsForPrefix from (report_of lines begun) k image
  begins lines begun k image p = record { n = p.n; holds = p.holds; session = p.session; reached = on p.reached; stands = p.stands }
    where
      on : ReachesAfter from (report_of lines None) p.n p.session → ReachesAfter from (report_of lines begun) p.n p.session
      on (inl r) = inl r
      on (inr r) = absurd r.1

  -- one that stands for the session of all lines
  pub all_lines : (s : Session) (lines : List ReportLine) (begun : Option Event) (k : ℕ) (image : List ℕ) → Run from.now from.session (events_of lines) (replies_of lines) s
      → (length lines ≡ k) ⊎ (length lines ≡ k + 1) → StandsFor image s.store → StandsForPrefix from (report_of lines begun) k image
  all_lines s lines begun k image runs holds stands = record {
    n = length lines;
    holds = holds;
    session = s;
    reached = inl (omega arith, subst (λ (ls : List ReportLine). Run from.now from.session (events_of ls) (replies_of ls) s) (sym (take_all (length lines) lines (omega arith))) runs);
    stands = stands;
  }

  -- one that stands for what was begun
  pub and_begun : (s new : Session) (lines : List ReportLine) (e : Event) (r : Option Reply) (k : ℕ) (image : List ℕ) → Run from.now from.session (events_of lines) (replies_of lines) s
      → Step (moment_behind from.now lines) s e r new → (length lines + 1 ≡ k) ⊎ (length lines + 1 ≡ k + 1) → StandsFor image new.store
      → StandsForPrefix from (report_of lines (Some e)) k image
  and_begun s new lines e r k image runs step holds stands = record {
    n = length lines + 1;
    holds = holds;
    session = new;
    reached = inr (refl, (s, r, runs, step));
    stands = stands;
  }

-- where no reply was cut off, all lines are answered
answered_all : (status : ℕ) (lines : List ReportLine) → status ≢ 3 → answered status lines ≡ lines
answered_all status lines other = let no : (status == 3) ≡ false = grind (arith, nat_tests) in grind (arith, no)

-- between two lines a session may end
pub ended_at : {D L : Type 0} (on : Ghosts D) (net : LinksGhosts L) (start : SessionStart D L) (status : ℕ) (course : Course) (disk : D) (links : L)
    → Between on net start course disk links → course.begun ≡ None → status ≢ 3 → on.left_at disk (on.moment disk) (on.seen disk)
    → Ended on net start status (report_of course.lines.items course.begun) disk links
ended_at on net start status course disk links between none other seen_left =
    subst (λ (b : Option Event). Ended on net start status (report_of course.lines.items b) disk links) (sym none) (record {
      session = between.session;
      runs = between.runs;
      last = on.moment disk;
      bytes = between.bytes;
      walk = between.walk;
      calls = λ not_four. refl;
      more = 0;
      begins = refl;
      written = omega (arith, between.written);
      behind = links;
      begun = refl;
      past = between.past;
      since = λ t image first to left.
          subst (λ (ls : List ReportLine). StandsForPrefix start.from (report_of course.lines.items None) (marked_by ls t) image)
          (sym (answered_all status course.lines.items other)) (between.since t image first to left);
      reads = λ not_four. stored_stands on course.updater disk between.session between.stored (on.seen disk) seen_left;
    })

module _ {D L : Type 0} (on : Ghosts D) (net : LinksGhosts L) (start : SessionStart D L) (course : Course) (old new : D) (links_old links_new : L) (between : Between on net start course old links_old) where
  from : Origin
  from = start.from

  late : (m t : ℕ) → (t ≤ m) ⊎ (m < t)
  late m t = grind arith

  all : (t : ℕ) → on.moment old ≤ t → marked_by course.lines.items t ≡ length course.lines.items
  all t le = marked_all course.lines.items (on.moment old) t between.marks le

  -- a step at the session's moment is one behind its lines
  behind : (e : Event) (r : Option Reply) (s : Session) → Step course.now between.session e r s → Step (moment_behind start.from.now course.lines.items) between.session e r s
  behind e r s step = subst (λ (now : ℕ). Step now between.session e r s) between.moment step

  module _ (s : Session) (stop : LeavesOnly on old new (StandsForEither between.session.store s.store)) where
    -- what could be left before the first call
    past_on : (t : ℕ) (image : List ℕ) → t ≤ on.moment start.disk → on.left_at new t image → on.left_at start.disk t image
    past_on t image le left = between.past t image le (stop.past t image (omega (arith, between.started)) left)

    -- the disk failed in the line
    begun_since : (e : Event) (r : Option Reply) → Step course.now between.session e r s
        → (t : ℕ) (image : List ℕ) → on.moment start.disk + 1 ≤ t → t ≤ on.moment new → on.left_at new t image
        → StandsForPrefix start.from (report_of course.lines.items (Some e)) (marked_by course.lines.items t) image
    begun_since e r step t image first to left = split (late (on.moment old) t)
      where
        of : (k : ℕ) → k ≡ length course.lines.items → StandsForEither between.session.store s.store image
            → StandsForPrefix start.from (report_of course.lines.items (Some e)) k image
        of k is (inl stands) = all_lines start.from between.session course.lines.items (Some e) k image between.runs.steps (inl (sym is)) stands
        of k is (inr stands) = and_begun start.from between.session s course.lines.items e r k image between.runs.steps (behind e r s step) (inr (omega (arith, is))) stands

        split : (t ≤ on.moment old) ⊎ (on.moment old < t) → StandsForPrefix start.from (report_of course.lines.items (Some e)) (marked_by course.lines.items t) image
        split (inl early) = begins start.from course.lines.items (Some e) (marked_by course.lines.items t) image (between.since t image first early (stop.past t image early left))
        split (inr after) = of (marked_by course.lines.items t) (all t (omega arith)) (stop.each t image (omega arith) to left)

  pub ended_begun : (e : Event) → Broke on net course.now old links_old between.session e new links_new → Ended on net start 4 (report_of course.lines.items (Some e)) new links_new
  ended_begun e broke = record {
    session = between.session;
    runs = between.runs;
    last = on.moment old;
    bytes = between.bytes;
    walk = between.walk;
    calls = λ other. absurd (other refl);
    more = broke.bytes;
    begins = (broke.new, Some broke.reply, behind e (Some broke.reply) broke.new broke.step, broke.costs);
    written = omega (arith, between.written, broke.written);
    behind = links_old;
    begun = (broke.new, Some broke.reply, behind e (Some broke.reply) broke.new broke.step, broke.served);
    past = past_on broke.new broke.stop;
    since = begun_since broke.new broke.stop e (Some broke.reply) broke.step;
    reads = λ other. absurd (other refl);
  }

  -- the line was run
  module _ (l : ReportLine) (reply : Reply) (updater : Updater) (ran : Ran on net course.now old links_old between.session l.event reply updater new links_new)
      (is_reply : l.reply ≡ Some reply) (is_mark : l.mark ≡ on.moment new) (is_failures : l.failures ≡ failures_of (net.links links_new)) where
    step : Step (moment_behind start.from.now course.lines.items) between.session l.event l.reply ran.new
    step = behind l.event l.reply ran.new (subst (λ (r : Option Reply). Step course.now between.session l.event r ran.new) (sym is_reply) ran.step)

    runs : RunsTo start.from (course.lines.items ++ l ∷ []) ran.new
    runs = runs_push start.from between.session ran.new course.lines.items l between.runs step ran.settled

    walk_on : Walks net (net.links start.links) start.from (on.moment start.disk + 1) start.links (course.lines.items ++ l ∷ []) ran.new (on.moment new) (between.bytes + ran.bytes) links_new
    walk_on =
        subst (λ (m : ℕ). Walks net (net.links start.links) start.from (on.moment start.disk + 1) start.links (course.lines.items ++ l ∷ []) ran.new m (between.bytes + ran.bytes) links_new) is_mark
        (walk_push net (net.links start.links) start.from (on.moment start.disk + 1) start.links course.lines.items between.session ran.new (on.moment old) between.bytes ran.bytes links_old links_new l between.walk
        (line_holds net (net.links start.links) (record { now = moment_behind start.from.now course.lines.items; session = between.session }) (on.moment old) links_old links_new l ran.new ran.bytes
        (walk_kept net (net.links start.links) start.from (on.moment start.disk + 1) start.links course.lines.items between.session (on.moment old) between.bytes links_old between.walk (kept_same (net.links start.links)))
        step (rw (is_mark, is_reply) ran.counted)
        (subst (λ (r : Option Reply). IsLineServed net l.event r links_old links_new between.session ran.new) (sym is_reply) ran.served) is_failures))

    written_on : on.total new ≤ on.total start.disk + (between.bytes + ran.bytes)
    written_on = omega (arith, between.written, ran.written)

    size : length (course.lines.items ++ l ∷ []) ≡ length course.lines.items + 1
    size = length-append course.lines.items (l ∷ [])

    -- it counts from its mark on, or not
    since_by : (count : ℕ → ℕ) → ((t : ℕ) → t < on.moment new → count t ≡ marked_by course.lines.items t)
        → (length course.lines.items + 1 ≡ count (on.moment new)) ⊎ (length course.lines.items + 1 ≡ count (on.moment new) + 1)
        → (t : ℕ) (image : List ℕ) → on.moment start.disk + 1 ≤ t → t ≤ on.moment new → on.left_at new t image
        → StandsForPrefix start.from (report_of (course.lines.items ++ l ∷ []) None) (count t) image
    since_by count before end t image first to left = split (late (on.moment old) t) (ended (on.moment new) t to)
      where
        ended : (m n : ℕ) → n ≤ m → (n < m) ⊎ (n ≡ m)
        ended m n le = grind arith

        counted : (length course.lines.items + 1 ≡ count (on.moment new)) ⊎ (length course.lines.items + 1 ≡ count (on.moment new) + 1)
            → (length (course.lines.items ++ l ∷ []) ≡ count (on.moment new)) ⊎ (length (course.lines.items ++ l ∷ []) ≡ count (on.moment new) + 1)
        counted (inl is) = inl (size ∙ is)
        counted (inr is) = inr (size ∙ is)

        at_end : t ≡ on.moment new → StandsForPrefix start.from (report_of (course.lines.items ++ l ∷ []) None) (count t) image
        at_end is =
            subst (λ (m : ℕ). StandsForPrefix start.from (report_of (course.lines.items ++ l ∷ []) None) (count m) image) (sym is)
            (all_lines start.from ran.new (course.lines.items ++ l ∷ []) None (count (on.moment new)) image runs.steps (counted end)
            (stored_stands on updater new ran.new ran.stored image (subst (λ (m : ℕ). on.left_at new m image) is left)))

        of : (k : ℕ) → k ≡ length course.lines.items → StandsForEither between.session.store ran.new.store image
            → StandsForPrefix start.from (report_of (course.lines.items ++ l ∷ []) None) k image
        of k is (inl stands) = longer start.from course.lines.items l None k image (all_lines start.from between.session course.lines.items None k image between.runs.steps (inl (sym is)) stands)
        of k is (inr stands) = all_lines start.from ran.new (course.lines.items ++ l ∷ []) None k image runs.steps (inr (omega (arith, is, size))) stands

        split : (t ≤ on.moment old) ⊎ (on.moment old < t) → (t < on.moment new) ⊎ (t ≡ on.moment new)
            → StandsForPrefix start.from (report_of (course.lines.items ++ l ∷ []) None) (count t) image
        split early (inr is) = at_end is
        split (inl early) (inl less) =
            subst (λ (k : ℕ). StandsForPrefix start.from (report_of (course.lines.items ++ l ∷ []) None) k image) (sym (before t less))
            (longer start.from course.lines.items l None (marked_by course.lines.items t) image (between.since t image first early (ran.stop.past t image early left)))
        split (inr after) (inl less) = of (count t) (before t less ∙ all t (omega arith)) (ran.stop.each t image (omega arith) to left)

    end_all : marked_by course.lines.items (on.moment new) ≡ length course.lines.items
    end_all = all (on.moment new) ran.stop.later

    since_all : (t : ℕ) (image : List ℕ) → on.moment start.disk + 1 ≤ t → t ≤ on.moment new → on.left_at new t image
        → StandsForPrefix start.from (report_of (course.lines.items ++ l ∷ []) None) (marked_by (course.lines.items ++ l ∷ []) t) image
    since_all = since_by (marked_by (course.lines.items ++ l ∷ []))
        (λ t less. omega (arith, marked-push course.lines.items l t, counts_early l t (omega (arith, is_mark))))
        (inl (omega (arith, marked-push course.lines.items l (on.moment new), counts_late l (on.moment new) (omega (arith, is_mark)), end_all)))

    -- its reply was written
    pub goes_on : (next : Course) → next.updater ≡ updater → next.now ≡ moment_after course.now (Some reply)
        → next.lines.items ≡ course.lines.items ++ l ∷ [] → Between on net start next new links_new
    goes_on next is_updater is_now grown = record {
      session = ran.new;
      stored = rw is_updater ran.stored;
      runs = rw grown runs;
      moment =
          let behind_all : moment_behind start.from.now (course.lines.items ++ l ∷ []) ≡ moment_after course.now (Some reply) =
          moment-append start.from.now course.lines.items (l ∷ []) ∙ ap (λ (r : Option Reply). moment_after (moment_behind start.from.now course.lines.items) r) is_reply
          ∙ ap (λ (now : ℕ). moment_after now (Some reply)) (sym between.moment) in
          is_now ∙ sym behind_all ∙ ap (λ (ls : List ReportLine). moment_behind start.from.now ls) (sym grown);
      bytes = between.bytes + ran.bytes;
      walk = rw grown walk_on;
      written = written_on;
      marks = rw grown (marked_push course.lines.items l (on.moment new) (marked_later course.lines.items (on.moment old) (on.moment new) ran.stop.later between.marks) (omega (arith, is_mark)));
      started = omega (arith, between.started, ran.stop.later);
      past = past_on ran.new ran.stop;
      since = rw grown since_all;
    }

    -- its reply was cut off
    pub ended_cut : on.left_at new (on.moment new) (on.seen new) → Ended on net start 3 (report_of (course.lines.items ++ l ∷ []) None) new links_new
    ended_cut seen_left = record {
      session = ran.new;
      runs = runs;
      last = on.moment new;
      bytes = between.bytes + ran.bytes;
      walk = walk_on;
      calls = λ other. refl;
      more = 0;
      begins = refl;
      written = omega (arith, written_on);
      behind = links_new;
      begun = refl;
      past = past_on ran.new ran.stop;
      since = λ t image first to left.
          subst (λ (ls : List ReportLine). StandsForPrefix start.from (report_of (course.lines.items ++ l ∷ []) None) (marked_by ls t) image) (sym (answered_cut course.lines.items l))
          (since_by (marked_by course.lines.items) (λ t less. refl) (inr (omega (arith, end_all))) t image first to left);
      reads = λ other. stored_stands on updater new ran.new ran.stored (on.seen new) seen_left;
    }
