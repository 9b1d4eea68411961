-- What opening a session's store does, by how it ends.
use Rattle.std.proofs.Common.{◌≡◌, ℕ, ◌≤◌, inr, Bool, true, false, [], ◌∷◌, None, Result, Ok, Err, refl, sym, subst, arith}
use Rattle.small_types.specs.declared.limits.TheConstants.{NUMBER_LIMIT}
use Rattle.disks.specs.declared.disk.Disk.{Ghosts}
use Rattle.links.specs.declared.links.Links.{Ghosts as LinksGhosts}
use Rattle.links.specs.Links.{failures_of}
use Rattle.machine.specs.declared.event.Event.TheVariants.{Boot}
use Rattle.machine.specs.declared.report.ReportLine.{ReportLine}
use Rattle.machine.specs.Store.{Session, booted, session_over}
use Rattle.updater.specs.declared.fault.RecoverFault.{RecoverFault}
use Rattle.updater.specs.declared.fault.RecoverFault.TheVariants as faults
use Rattle.updater.specs.Shown.{Updater}
use Rattle.updater.specs.Opened.{Opened}
use Rattle.updater.specs.Updater.{Holds}
use Rattle.updater_cli.specs.declared.course.Course.{Course}
use Rattle.updater_cli.specs.declared.status.Status.{Status}
use Rattle.updater_cli.specs.declared.status.Status.TheVariants.{DiskFault, NotAStore, Memory}
use Rattle.updater_cli.specs.Devices.{Asks}
use Rattle.updater_cli.specs.OpensSession.{OpensSession}
use Rattle.updater_cli.proofs.DeviceCalls.{asks_none, rises_none}
use Rattle.updater_cli.proofs.Begin.{same, other, survives_fault, survives_memory}

-- the status of a refusal
abbrev pub status_for : RecoverFault → Status
status_for faults.NotAStore = NotAStore
status_for faults.DiskFault = DiskFault
status_for faults.Memory = Memory

module _ {D L : Type 0} (on : Ghosts D) (net : LinksGhosts L) (boot now : ℕ) (links : L) (old : D) where
  -- there was no memory for the boot event
  pub no_room : OpensSession on net boot now links old (Err Memory) old
  no_room = record {
    course = tt;
    machine = λ told store stands. tt;
    boots = λ told store stands. tt;
    a_store = λ told. tt;
    ends = tt;
    survives = λ told store stands. record {
      past = λ t image le left. left;
      since = λ t image first to left. absurd (omega (arith, first, to));
      synced = inr (refl, inr refl);
    };
    written = λ told store stands. (0, refl, omega arith);
    not_a_store = λ told is. absurd (cc (is));
    reads = λ _. refl;
    within = λ _. omega arith;
    unwritten = λ is. absurd (cc (is));
    asks = asks_none on _ old (λ is. cc (is));
  }

  module _ (new : D) where
    -- the store was not opened
    refused : (fault : RecoverFault) → Opened on boot old (Err fault) new → OpensSession on net boot now links old (Err (status_for fault)) new
    refused faults.NotAStore opened = record {
      course = tt;
      machine = λ told store stands. tt;
      boots = λ told store stands. tt;
      a_store = λ told. tt;
      ends = tt;
      survives = λ told store stands. absurd (opened.holds.not_a_store told refl store stands);
      written = λ told store stands. absurd (opened.holds.not_a_store told refl store stands);
      not_a_store = λ told _. opened.holds.not_a_store told refl;
      reads = λ _. opened.spent.seen (λ is. cc (is));
      within = λ _. opened.spent.within (λ is. cc (is));
      unwritten = λ _. opened.spent.unwritten (λ is. cc (is));
      asks = record { told = opened.spent.spends.told; later = opened.spent.spends.later; count = rises_none _ (on.count old) (on.count new) (λ is. cc (is)) (opened.spent.spends.quiet (λ is. cc (is))) };
    }
    refused faults.DiskFault opened = record {
      course = tt;
      machine = λ told store stands. tt;
      boots = λ told store stands. tt;
      a_store = λ told. tt;
      ends = tt;
      survives = λ told store stands. survives_fault on old new boot now store opened.leaves.past (opened.leaves.stop_fault told store stands);
      written = λ told store stands. (
        opened.spent.bytes,
        (session_over (booted boot store), None, (refl, refl), opened.spent.costs told store stands),
        opened.spent.spends.total_within,
      );
      not_a_store = λ told is. absurd (cc (is));
      reads = λ other. absurd (other refl);
      within = λ other. absurd (other refl);
      unwritten = λ is. absurd (cc (is));
      asks = record { told = opened.spent.spends.told; later = opened.spent.spends.later; count = record { later = opened.spent.spends.count; rose = λ _. opened.spent.spends.cause refl; quiet = λ none. absurd (none refl) } };
    }
    refused faults.Memory opened = record {
      course = tt;
      machine = λ told store stands. tt;
      boots = λ told store stands. tt;
      a_store = λ told. tt;
      ends = tt;
      survives = λ told store stands. survives_memory on old new boot now store opened.leaves.past (opened.leaves.stop_memory store stands refl);
      written = λ told store stands. (0, refl, omega (arith, opened.spent.unwritten (λ is. cc (is))));
      not_a_store = λ told is. absurd (cc (is));
      reads = λ _. opened.spent.seen (λ is. cc (is));
      within = λ _. opened.spent.within (λ is. cc (is));
      unwritten = λ is. absurd (cc (is));
      asks = record { told = opened.spent.spends.told; later = opened.spent.spends.later; count = rises_none _ (on.count old) (on.count new) (λ is. cc (is)) (opened.spent.spends.quiet (λ is. cc (is))) };
    }

    pub refused_as : (fault known : RecoverFault) → fault ≡ known → Opened on boot old (Err fault) new → OpensSession on net boot now links old (Err (status_for known)) new
    refused_as fault known is opened = refused known (subst (λ (f : RecoverFault). Opened on boot old (Err f) new) is opened)

    -- it was
    module _ (found : Updater × Bool) (opened : Opened on boot old (Ok found) new) (course : Course) (is_updater : course.updater ≡ found.0) (is_now : course.now ≡ now) (none : course.begun ≡ None) where
      asks : Asks on ((let outcome : Result Course Status = Ok course in outcome) ≡ Err DiskFault) old new
      asks = record { told = opened.spent.spends.told; later = opened.spent.spends.later; count = rises_none _ (on.count old) (on.count new) (λ is. cc (is)) (opened.spent.spends.quiet (λ is. cc (is))) }

      held : (session : Session) → Holds on found.0 new session → Holds on course.updater new session
      held session holds = subst (λ (u : Updater). Holds on u new session) (sym is_updater) holds

      -- with the kept boot number
      pub kept : found.1 ≡ false → course.lines.items ≡ [] → OpensSession on net boot now links old (Ok course) new
      kept is no_lines = record {
        course = record { moment = is_now; lines = rw no_lines tt; begun = none; synced = opened.spent.synced };
        machine = λ told store stands.
            same on net links old new boot now store stands.sound course is_now (held (session_over (booted boot store)) (opened.holds.stored told store stands.stands)) (opened.leaves.stop told store stands.stands (λ fault. cc (fault))) opened.spent.synced opened.leaves.past
            no_lines (opened.holds.same_boot told store stands.stands is) (omega (arith, opened.spent.synced, (opened.spent.quiet is).0)) (omega (arith, (opened.spent.quiet is).1));
        boots = λ told store stands. record { other = λ differs. absurd (differs (opened.holds.same_boot told store stands is)); same = λ _. rw no_lines tt };
        a_store = λ told no_store. no_store (opened.holds.found told).0 (opened.holds.found told).1;
        ends = tt;
        survives = λ told store stands. tt;
        written = λ told store stands. tt;
        not_a_store = λ told fault. absurd (cc (fault));
        reads = tt;
        within = tt;
        unwritten = λ fault. absurd (cc (fault));
        asks = asks;
      }

      -- with another
      pub changed : boot ≤ NUMBER_LIMIT → found.1 ≡ true → (l : ReportLine) → course.lines.items ≡ l ∷ [] → l.event ≡ Boot boot → l.reply ≡ None → l.failures ≡ failures_of (net.links links) → l.mark ≡ on.moment new
          → OpensSession on net boot now links old (Ok course) new
      changed small is l lines is_event is_reply is_failures is_mark = record {
        course = record {
          moment = is_now;
          lines = rw lines (is_event, is_reply, is_failures, omega (arith, is_mark, opened.spent.spends.later), omega (arith, is_mark));
          begun = none;
          synced = opened.spent.synced;
        };
        machine = λ told store stands.
            other on net links old new boot now store stands.sound course is_now (held (session_over (booted boot store)) (opened.holds.stored told store stands.stands)) (opened.leaves.stop told store stands.stands (λ fault. cc (fault))) opened.spent.synced opened.leaves.past
            l lines is_event is_reply is_mark is_failures small (opened.holds.other_boot told store stands.stands is) (opened.spent.marked is) opened.spent.bytes (opened.spent.costs told store stands.stands) opened.spent.spends.total_within;
        boots = λ told store stands. record { other = λ _. rw lines (is_event, is_reply); same = λ kept. absurd (opened.holds.other_boot told store stands is kept) };
        a_store = λ told no_store. no_store (opened.holds.found told).0 (opened.holds.found told).1;
        ends = tt;
        survives = λ told store stands. tt;
        written = λ told store stands. tt;
        not_a_store = λ told fault. absurd (cc (fault));
        reads = tt;
        within = tt;
        unwritten = λ fault. absurd (cc (fault));
        asks = asks;
      }
