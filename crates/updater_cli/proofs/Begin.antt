-- What stands once a session's store is opened.
use Rattle.std.proofs.Common.{◌≡◌, ◌≢◌, ◌⊎◌, inl, inr, ℕ, ◌+◌, ◌<◌, ◌≤◌, true, List, [], ◌∷◌, Option, Some, None, refl, sym, ◌∙◌, ap, subst, arith}
use Rattle.std.specs.Prelude.{◌==◌, if◌then◌else◌}
use Rattle.std.proofs.lemmas.Bool.Decides.{nat_tests}
use Rattle.small_types.specs.declared.limits.TheConstants.{NUMBER_LIMIT}
use Rattle.machine.specs.declared.event.Event.{Event}
use Rattle.machine.specs.declared.event.Event.TheVariants.{Boot}
use Rattle.machine.specs.declared.lease.Lease.{Lease}
use Rattle.machine.specs.declared.reply.Reply.{Reply}
use Rattle.machine.specs.declared.report.ReportLine.{ReportLine}
use Rattle.machine.specs.Machine.{Step}
use Rattle.machine.specs.Sound.{Sound}
use Rattle.machine.specs.Store.{Session, Store, booted, session_over}
use Rattle.machine.proofs.Sessions.{begins_sound}
use Rattle.updater.specs.Costs.{Costs}
use Rattle.updater.specs.StandsFor.{StandsFor, StandsForEither}
use Rattle.updater.specs.Updater.{Holds}
use Rattle.updater.specs.Moments.{LeavesSince, LeavesSinceOrNot}
use Rattle.updater.proofs.HeldStore.{stored_stands}
use Rattle.disks.specs.declared.disk.Disk.{Ghosts}
use Rattle.links.specs.declared.links.Links.{Ghosts as LinksGhosts}
use Rattle.links.specs.Links.{failures_of}
use Rattle.fetcher.proofs.Sequence.{kept_same}
use Rattle.updater_cli.specs.declared.course.Course.{Course}
use Rattle.updater_cli.specs.OpensSession.{Survives, IsUnopened}
use Rattle.updater_cli.specs.Report.{EventCosts, IsCounted, IsSettled, RunsTo, IsLineServed, StandsForPrefix, origin_over, report_of, marked_by}
use Rattle.updater_cli.specs.Session.{Between, start_over}
use Rattle.updater_cli.specs.Walk.{Walks}
use Rattle.updater_cli.proofs.Runs.{step_settled, runs_push, counts_early, counts_late}
use Rattle.updater_cli.proofs.Prefix.{longer, all_lines, and_begun}
use Rattle.updater_cli.proofs.Walks.{line_holds, walk_push}

pub settled_first : (store : Store) → Sound store → IsSettled (session_over store)
settled_first store sound = record { sound = begins_sound store sound; jobs = refl }

-- nothing was run
pub runs_none : (now : ℕ) (store : Store) → Sound store → RunsTo (origin_over now store) [] (session_over store)
runs_none now store sound = record { steps = refl; settled = settled_first store sound }

-- a boot asks the links for nothing
pub boot_served : {L : Type 0} (net : LinksGhosts L) (links : L) (boot : ℕ) (event : Event) (reply : Option Reply) (old new : Session) → event ≡ Boot boot → IsLineServed net event reply links links old new
boot_served net links boot event reply old new is =
    subst (λ (e : Event). IsLineServed net e reply links links old new) (sym is) (record { kept = kept_same (net.links links); left = refl; serves = tt })

-- a boot of the kept number changes nothing
kept_leases : (a b : ℕ) (leases : List Lease) → a ≡ b → (if a == b then leases else []) ≡ leases
kept_leases a b leases same = let yes : (a == b) ≡ true = grind (arith, nat_tests) in grind (arith, yes)

booted_same : (store : Store) (boot : ℕ) → store.boot ≡ boot → booted boot store ≡ store
booted_same store boot same =
    ap (λ (leases : List Lease). let made : Store = record store { boot = boot; leases = leases } in made) (kept_leases store.boot boot store.leases same)
    ∙ ap (λ (b : ℕ). let made : Store = record store { boot = b } in made) (sym same)

module _ {D L : Type 0} (on : Ghosts D) (net : LinksGhosts L) (links : L) (old new : D) (boot now : ℕ) (store : Store) (sound : Sound store) (course : Course)
    (is_now : course.now ≡ now) (stored : Holds on course.updater new (session_over (booted boot store)))
    (stop : LeavesSince on (on.moment old + 1) new (StandsForEither store (booted boot store))) (started : on.moment old + 1 ≤ on.moment new)
    (past : (t : ℕ) (image : List ℕ) → t ≤ on.moment old → on.left_at new t image → on.left_at old t image) where
  none : RunsTo (origin_over now store) [] (session_over store)
  none = runs_none now store sound

  -- the boot number is the kept one
  pub same : course.lines.items ≡ [] → store.boot ≡ boot → on.moment new ≡ on.moment old + 1 → on.total new ≤ on.total old → Between on net (start_over now old links store) course new links
  same no_lines kept once unwritten = record {
    session = session_over store;
    stored = subst (λ (s : Store). Holds on course.updater new (session_over s)) (booted_same store boot kept) stored;
    runs = rw no_lines none;
    moment = rw no_lines is_now;
    bytes = 0;
    walk = rw no_lines (refl, once, refl, refl);
    written = omega (arith, unwritten);
    marks = rw no_lines tt;
    started = started;
    past = past;
    since = rw no_lines (λ t image first to left. all_lines (origin_over now store) (session_over store) [] None 0 image none.steps (inl refl) (of image (stop t image first to left)));
  }
    where
      of : (image : List ℕ) → StandsForEither store (booted boot store) image → StandsFor image store
      of image (inl stands) = stands
      of image (inr stands) = subst (λ (s : Store). StandsFor image s) (booted_same store boot kept) stands

  -- it is another, which was made durable
  module _ (l : ReportLine) (lines : course.lines.items ≡ l ∷ []) (is_event : l.event ≡ Boot boot) (is_reply : l.reply ≡ None) (is_mark : l.mark ≡ on.moment new) (is_failures : l.failures ≡ failures_of (net.links links))
      (small : boot ≤ NUMBER_LIMIT) (differs : store.boot ≢ boot) (marked : on.moment old + 2 ≤ on.moment new)
      (own : ℕ) (costs : Costs store (booted boot store) own) (within : on.total new ≤ on.total old + own) where
    boots : Step now (session_over store) l.event l.reply (session_over (booted boot store))
    boots = rw is_event (is_reply, refl)

    settled_on : IsSettled (session_over (booted boot store))
    settled_on = step_settled now (session_over store) (Boot boot) None (session_over (booted boot store)) small (refl, refl) (settled_first store sound)

    run : RunsTo (origin_over now store) (l ∷ []) (session_over (booted boot store))
    run = runs_push (origin_over now store) (session_over store) (session_over (booted boot store)) [] l none boots settled_on

    split_at : (m t : ℕ) → t ≤ m → (t < m) ⊎ (t ≡ m)
    split_at m t le = grind arith

    of : (k : ℕ) (image : List ℕ) → k ≡ 0 → StandsForEither store (booted boot store) image → StandsForPrefix (origin_over now store) (report_of (l ∷ []) None) k image
    of k image zero (inl stands) = longer (origin_over now store) [] l None k image (all_lines (origin_over now store) (session_over store) [] None k image none.steps (inl (sym zero)) stands)
    of k image zero (inr stands) = all_lines (origin_over now store) (session_over (booted boot store)) (l ∷ []) None k image run.steps (inr (omega (arith, zero))) stands

    at : (t : ℕ) (image : List ℕ) → on.moment old + 1 ≤ t → t ≤ on.moment new → on.left_at new t image → (t < on.moment new) ⊎ (t ≡ on.moment new)
        → StandsForPrefix (origin_over now store) (report_of (l ∷ []) None) (marked_by (l ∷ []) t) image
    at t image first to left (inl early) = of (marked_by (l ∷ []) t) image (omega (arith, counts_early l t (omega (arith, is_mark)))) (stop t image first to left)
    at t image first to left (inr end) =
        all_lines (origin_over now store) (session_over (booted boot store)) (l ∷ []) None (marked_by (l ∷ []) t) image run.steps (inl (omega (arith, counts_late l t (omega (arith, is_mark, end)))))
        (stored_stands on course.updater new (session_over (booted boot store)) stored image (subst (λ (m : ℕ). on.left_at new m image) end left))

    costs_on : EventCosts l.event (net.links links) (net.links links) (session_over store) (session_over (booted boot store)) own
    costs_on = rw is_event costs

    counted_on : IsCounted l.event l.reply (net.links links) (net.links links) (session_over store) (session_over (booted boot store)) (on.moment old + 1) l.mark own
    counted_on = record {
      later = omega (arith, is_mark, marked);
      same = λ none equal. absurd (differs (ap (λ (s : Store). s.boot) (sym equal)));
      marked = λ not. omega (arith, is_mark, marked);
      costs = costs_on;
    }

    pub other : Between on net (start_over now old links store) course new links
    other = record {
      session = session_over (booted boot store);
      stored = stored;
      runs = rw lines run;
      moment = rw (lines, is_reply) is_now;
      bytes = 0 + own;
      walk =
          rw lines (subst (λ (m : ℕ). Walks net (net.links links) (origin_over now store) (on.moment old + 1) links (l ∷ []) (session_over (booted boot store)) m (0 + own) links) is_mark
          (walk_push net (net.links links) (origin_over now store) (on.moment old + 1) links [] (session_over store) (session_over (booted boot store)) (on.moment old + 1) 0 own links links l (refl, refl, refl, refl)
          (line_holds net (net.links links) (origin_over now store) (on.moment old + 1) links links l (session_over (booted boot store)) own (kept_same (net.links links)) boots
          counted_on
          (boot_served net links boot l.event l.reply (session_over store) (session_over (booted boot store)) is_event) is_failures)));
      written = omega (arith, within);
      marks = rw lines (omega (arith, is_mark), tt);
      started = started;
      past = past;
      since = rw lines (λ t image first to left. at t image first to left (split_at (on.moment new) t to));
    }

module _ {D : Type 0} (on : Ghosts D) (old new : D) (boot now : ℕ) (store : Store)
    (past : (t : ℕ) (image : List ℕ) → t ≤ on.moment old → on.left_at new t image → on.left_at old t image) where
  -- the disk failed in the opening
  pub survives_fault : LeavesSinceOrNot on old new (StandsForEither store (booted boot store))
      → Survives on old new (origin_over now store) 4 (report_of [] (Some (Boot boot)))
  survives_fault since = record { past = past; since = λ t image first to left. at image (since t image first to left); synced = inr (refl, inl refl) }
    where
      at : (image : List ℕ) → StandsForEither store (booted boot store) image ⊎ ((on.moment new ≡ on.moment old + 1) × on.left_at old (on.moment old) image)
          → StandsForPrefix (origin_over now store) (report_of [] (Some (Boot boot))) 0 image ⊎ IsUnopened on old new 4 (report_of [] (Some (Boot boot))) image
      at image (inl (inl stands)) = inl (all_lines (origin_over now store) (session_over store) [] (Some (Boot boot)) 0 image refl (inl refl) stands)
      at image (inl (inr stands)) = inl (and_begun (origin_over now store) (session_over store) (session_over (booted boot store)) [] (Boot boot) None 0 image refl (refl, refl) (inr refl) stands)
      at image (inr failed) = inr (record { fault = refl; none = refl; boot = tt; once = failed.0; left = failed.1 })

  -- there was no memory
  pub survives_memory : LeavesSince on (on.moment old + 1) new (λ image. StandsFor image store)
      → Survives on old new (origin_over now store) 6 (report_of [] None)
  survives_memory since = record {
    past = past;
    since = λ t image first to left. inl (all_lines (origin_over now store) (session_over store) [] None 0 image refl (inl refl) (since t image first to left));
    synced = inr (refl, inr refl);
  }
