-- What answering a line does, by how it ends.
use Rattle.std.proofs.Common.{◌≡◌, ◌≢◌, ℕ, ◌≤◌, List, [], ◌∷◌, ◌++◌, Option, Some, Ok, Err, refl, sym, ◌∙◌, ap, subst, arith}
use Rattle.std.specs.Prelude.{IsSomeAnd}
use Rattle.std.proofs.lemmas.List.{append-nil}
use Rattle.outside.specs.Streams.{Appends, AppendsPart, Rose}
use Rattle.outside.specs.declared.sink.Sink.{Ghosts as SinkGhosts}
use Rattle.disks.specs.declared.disk.Disk.{Ghosts}
use Rattle.links.specs.declared.links.Links.{Ghosts as LinksGhosts}
use Rattle.links.specs.Links.{failures_of}
use Rattle.fetcher.proofs.Sequence.{failures_later, kept_same}
use Rattle.machine.specs.declared.event.Event.{Event}
use Rattle.machine.specs.declared.reply.Reply.{Reply}
use Rattle.machine.specs.declared.reply.Reply.TheVariants as says
use Rattle.machine.specs.declared.report.ReportLine.{ReportLine}
use Rattle.machine.specs.Machine.{moment_after}
use Rattle.small_types.specs.declared.limits.TheConstants.{NUMBER_LIMIT}
use Rattle.command_text.specs.Lines.{reply_text, texts_of}
use Rattle.install_plan.specs.Downs.{SaysDown}
use Rattle.updater_cli.specs.declared.course.Course.{Course}
use Rattle.updater_cli.specs.declared.status.Status.TheVariants.{SinkFault, DiskFault, Memory}
use Rattle.updater_cli.specs.Lacks.{MayLineLack}
use Rattle.updater_cli.specs.Lines.{IsReady, LineAnswered, LineRun, Trace, place_of, stage_of}
use Rattle.updater_cli.proofs.DeviceCalls.{rises_none, asks_none, asks_answered, asks_err}
use Rattle.updater_cli.proofs.Prefix.{ended_at, ended_begun, ended_cut, goes_on}
use Rattle.updater_cli.proofs.Traces.{trace_none, trace_begun, trace_cut, trace_line}

six_three : ◌≢◌ {A = ℕ} 6 3
six_three same = omega arith

some_is : (reply : Reply) → Some reply ≡ Some says.Memory → reply ≡ says.Memory
some_is reply e = cc

module _ {K D L : Type 0} (to : SinkGhosts K) (on : Ghosts D) (net : LinksGhosts L) (line : List ℕ) (course next : Course) (links links_new : L) (ready : IsReady course) where
  -- there was no memory for it
  pub no_room : (sink : K) (disk : D) → on.left_at disk (on.moment disk) (on.seen disk) → next.now ≡ course.now → next.lines.items ≡ course.lines.items → next.begun ≡ course.begun
      → LineAnswered to on net line (place_of sink disk links course) (Err Memory) (place_of sink disk links next)
  no_room sink disk seen_left same_now same_lines same_begun = record {
    keeps = record {
      machine = λ told start between. rw (same_lines, same_begun) (ended_at on net start 6 course disk links between ready.begun six_three seen_left);
      goes_on = tt;
      writes = rises_none _ (to.count sink) (to.count sink) (λ same. cc (same)) refl;
      asks = asks_none on _ disk (λ same. cc (same));
      kept = kept_same (net.links links);
    };
    ends = same_begun ∙ ready.begun;
    trace =
        subst (λ (b : Option Event). Trace to.tells 6 [] (stage_of to on net (place_of sink disk links course)) (stage_of to on net (place_of sink disk links next)) b) (sym (same_begun ∙ ready.begun))
        (rw (same_now, same_lines) (trace_none to.tells 6 (stage_of to on net (place_of sink disk links course)) six_three));
  }

  -- the disk failed in it
  pub broken : (sink : K) (disk disk_new : D) (e : Event) → next.begun ≡ Some e → next.now ≡ course.now → next.lines.items ≡ course.lines.items
      → LineRun on net course.now line course.updater disk links (Err e) next.updater disk_new links_new
      → LineAnswered to on net line (place_of sink disk links course) (Err DiskFault) (place_of sink disk_new links_new next)
  broken sink disk disk_new e is_begun same_now same_lines run = record {
    keeps = record {
      machine = λ told start between. rw (same_lines, is_begun) (ended_begun on net start course disk disk_new links links_new between e (run.fault told between.session between.runs.settled between.stored));
      goes_on = tt;
      writes = rises_none _ (to.count sink) (to.count sink) (λ same. cc (same)) refl;
      asks = asks_err on (Event × Reply) Event e _ disk disk_new refl run.asks;
      kept = run.kept;
    };
    ends = rw is_begun run.begun;
    trace =
        rw is_begun (trace_begun to.tells line (stage_of to on net (place_of sink disk links course)) (stage_of to on net (place_of sink disk_new links_new next)) e same_lines refl same_now run.asks.later (failures_later (net.links links) (net.links links_new) run.kept) run.event run.at);
  }

  -- it was run
  module _ (sink sink_new : K) (disk disk_new : D) (l : ReportLine) (reply : Reply) (is_reply : l.reply ≡ Some reply) (is_mark : l.mark ≡ on.moment disk_new) (is_failures : l.failures ≡ failures_of (net.links links_new))
      (is_now : next.now ≡ moment_after course.now (Some reply)) (grown : next.lines.items ≡ course.lines.items ++ l ∷ []) (same_begun : next.begun ≡ course.begun)
      (run : LineRun on net course.now line course.updater disk links (Ok (l.event, reply)) next.updater disk_new links_new) where
    moment : next.now ≡ moment_after course.now l.reply
    moment = is_now ∙ ap (λ (r : Option Reply). moment_after course.now r) (sym is_reply)

    text : texts_of (l.reply ∷ []) ≡ reply_text reply
    text = ap (λ (r : Option Reply). texts_of (r ∷ [])) is_reply ∙ append-nil (reply_text reply)

    later : on.moment disk ≤ l.mark
    later = omega (arith, is_mark, run.asks.later)

    failed : failures_of (net.links links) ≤ l.failures
    failed = omega (arith, is_failures, failures_later (net.links links) (net.links links_new) run.kept)

    downs : IsSomeAnd l.reply SaysDown → Rose (failures_of (net.links links)) l.failures
    downs down = subst (λ (n : ℕ). Rose (failures_of (net.links links)) n) (sym is_failures)
        (run.downs.rose (subst (λ (r : Option Reply). IsSomeAnd r SaysDown) is_reply down))

    lacks : l.reply ≡ Some says.Memory → MayLineLack l.event
    lacks is = run.lacks (some_is reply (sym is_reply ∙ is))

    -- and its reply was written
    pub written : (to.tells → Appends (to.taken sink) (to.taken sink_new) (reply_text reply)) → to.count sink_new ≡ to.count sink
        → LineAnswered to on net line (place_of sink disk links course) (Ok tt) (place_of sink_new disk_new links_new next)
    written appends same_count = record {
      keeps = record {
        machine = λ told start between. goes_on on net start course disk disk_new links links_new between l reply next.updater (run.ran told between.session between.runs.settled between.stored) is_reply is_mark is_failures next refl is_now grown;
        goes_on = record { begun = same_begun ∙ ready.begun; moment = subst (λ (n : ℕ). n ≤ NUMBER_LIMIT) (sym is_now) run.few };
        writes = rises_none _ (to.count sink) (to.count sink_new) (λ same. cc (same)) same_count;
        asks = asks_answered on (Event × Reply) Event (l.event, reply) _ disk disk_new (λ same. cc (same)) run.asks;
        kept = run.kept;
      };
      ends = tt;
      trace =
          rw (same_begun, ready.begun) (trace_line to.tells line (stage_of to on net (place_of sink disk links course)) (stage_of to on net (place_of sink_new disk_new links_new next)) l grown run.event run.at moment
          later (omega (arith, is_mark)) failed (omega (arith, is_failures)) downs lacks (λ told. appends told ∙ ap (λ (x : List ℕ). to.taken sink ++ x) (sym text)));
    }

    -- and its reply was cut off
    pub cut : (to.tells → AppendsPart (to.taken sink) (to.taken sink_new) (reply_text reply)) → to.count sink ≤ to.count sink_new → Rose (to.count sink) (to.count sink_new)
        → on.left_at disk_new (on.moment disk_new) (on.seen disk_new)
        → LineAnswered to on net line (place_of sink disk links course) (Err SinkFault) (place_of sink_new disk_new links_new next)
    cut part counted rose seen_left = record {
      keeps = record {
        machine = λ told start between.
            rw (grown, same_begun, ready.begun) (ended_cut on net start course disk disk_new links links_new between l reply next.updater (run.ran told between.session between.runs.settled between.stored) is_reply is_mark is_failures seen_left);
        goes_on = tt;
        writes = record { later = counted; rose = λ _. rose; quiet = λ no. absurd (no refl) };
        asks = asks_answered on (Event × Reply) Event (l.event, reply) _ disk disk_new (λ same. cc (same)) run.asks;
        kept = run.kept;
      };
      ends = same_begun ∙ ready.begun;
      trace =
          rw (same_begun, ready.begun) (trace_cut to.tells line (stage_of to on net (place_of sink disk links course)) (stage_of to on net (place_of sink_new disk_new links_new next)) l grown run.event run.at moment
          later (omega (arith, is_mark)) failed (omega (arith, is_failures)) downs lacks (λ told. subst (λ (x : List ℕ). AppendsPart (to.taken sink) (to.taken sink_new) x) (sym text) (part told)));
    }
