-- How an opening ends, from what reading the store found and from what became of the boot number.
use Rattle.std.proofs.Common.{◌≡◌, ◌≢◌, ◌+◌, ◌≤◌, ◌==◌, ℕ, List, [], Bool, true, false, cond, Result, Ok, Err, inl, inr, refl, sym, ap, subst, ◌∙◌, arith}
use Rattle.std.proofs.lemmas.Bool.{eq-eqb}
use Rattle.std.specs.Prelude.{IfOk, OnOk}
use Rattle.small_types.specs.declared.limits.TheConstants.{NUMBER_LIMIT}
use Rattle.disks.specs.declared.disk.Disk.{Ghosts}
use Rattle.disks.specs.Spends.{Spends}
use Rattle.disks.proofs.Books.{no_bytes, spends_as, spends_then, spends_within}
use Rattle.machine.specs.Store.{Store, booted, session_over}
use Rattle.store_state.specs.declared.change.Change.TheVariants.{Boot}
use Rattle.updater.specs.declared.fault.RecoverFault.{RecoverFault}
use Rattle.updater.specs.declared.fault.RecoverFault.TheVariants.{NotAStore, DiskFault, Memory}
use Rattle.table_log.specs.declared.fault.StepFault.{StepFault}
use Rattle.table_log.specs.declared.fault.StepFault.TheVariants as step
use Rattle.table_log.specs.Laws.{ReadsAsOne}
use Rattle.updater.specs.Shown.{Updater}
use Rattle.updater.specs.Costs.{Costs}
use Rattle.updater.specs.KeepsChange.{BringsNow, LeadsBetween, KeepsChange}
use Rattle.updater.specs.Loaded.{Loaded, IsLoaded}
use Rattle.updater.specs.Moments.{LeavesSince}
use Rattle.updater.specs.Opened.{Opened}
use Rattle.updater.specs.StandsFor.{StandsFor, StandsForEither}
use Rattle.updater.specs.StepCosts.{entry_cost}
use Rattle.updater.specs.Updater.{Holds, tables_of}
use Rattle.updater.proofs.ChangedStores.{boot_shown, booted_leads}
use Rattle.updater.proofs.HeldStore.{one_stands}

-- a boot of the number that is kept leaves the store as it was
booted_by : (kept : Bool) (old : Store) (boot : ℕ) → boot ≡ old.boot → kept ≡ true → record old { boot = boot; leases = cond kept old.leases [] } ≡ old
booted_by kept old boot same is =
    ap (λ (b : Bool). record old { boot = boot; leases = cond b old.leases [] }) is ∙ ap (λ (n : ℕ). record old { boot = n }) same

pub booted_same : (old : Store) (boot : ℕ) → old.boot ≡ boot → booted boot old ≡ old
booted_same old boot same = booted_by (old.boot == boot) old boot (sym same) (eq-eqb old.boot boot same)

-- ---- results that differ

ok_fault : {X : Type 0} (x : X) → ◌≢◌ {A = Result X RecoverFault} (Ok x) (Err DiskFault)
ok_fault x e = cc

ok_memory : {X : Type 0} (x : X) → ◌≢◌ {A = Result X RecoverFault} (Ok x) (Err Memory)
ok_memory x e = cc

ok_none : {X : Type 0} (x : X) → ◌≢◌ {A = Result X RecoverFault} (Ok x) (Err NotAStore)
ok_none x e = cc

memory_fault : {X : Type 0} → ◌≢◌ {A = Result X RecoverFault} (Err Memory) (Err DiskFault)
memory_fault e = cc

memory_none : {X : Type 0} → ◌≢◌ {A = Result X RecoverFault} (Err Memory) (Err NotAStore)
memory_none e = cc

fault_none : {X : Type 0} → ◌≢◌ {A = Result X RecoverFault} (Err DiskFault) (Err NotAStore)
fault_none e = cc

fault_memory : {X : Type 0} → ◌≢◌ {A = Result X RecoverFault} (Err DiskFault) (Err Memory)
fault_memory e = cc

step_ok : {T : Type 0} (x : T) → ◌≢◌ {A = Result T StepFault} (Ok x) (Err step.DiskFault)
step_ok x e = cc

false_true : ◌≢◌ {A = Bool} false true
false_true e = cc

true_false : ◌≢◌ {A = Bool} true false
true_false e = cc

-- what a boot may cost
boot_costs : (image : List ℕ) (boot : ℕ) (old : Store) → boot ≤ NUMBER_LIMIT → StandsFor image old → Costs old (booted boot old) (entry_cost (Boot boot))
boot_costs image boot old few stands = inr (
  Boot boot,
  record {
    tables = stands.tables;
    image = image;
    shows = stands.shows;
    fits = few;
    has = omega arith;
    measured = tt;
    leads = booted_leads old.room stands.tables image old boot stands.shows few stands.valid;
    brings = record { measured = tt; are = refl };
  },
  inl refl,
)

module _ {D : Type 0} (on : Ghosts D) (boot : ℕ) (few : boot ≤ NUMBER_LIMIT) (disk_old : D) (read : Result Updater RecoverFault) (mid : D) (loaded : Loaded on disk_old read mid) where
  -- from the sync on a stop leaves what was read
  read_stands : read ≢ Err DiskFault → (old : Store) → StandsFor (on.seen disk_old) old → LeavesSince on (on.moment disk_old + 1) mid (λ image. StandsFor image old)
  read_stands other old stands t image from to left =
      let now : t ≡ on.moment mid = omega (arith, loaded.synced other, loaded.spends.within) in
      let is : image ≡ on.seen disk_old = loaded.durable other image (subst (λ (n : ℕ). on.left_at mid n image) now left) in
      subst (λ (bytes : List ℕ). StandsFor bytes old) (sym is) stands

  -- no store was read
  pub unread : (fault : RecoverFault) → read ≡ Err fault → Opened on boot disk_old (Err fault) mid
  unread fault is = record {
    holds = record {
      found = λ told. tt;
      stored = λ told old stands. tt;
      same_boot = λ told old stands. tt;
      other_boot = λ told old stands. tt;
      not_a_store = λ told e. loaded.not_a_store told (is ∙ ap Err (err_is e));
    };
    leaves = record {
      past = loaded.stop.past;
      stop = λ told old stands other t image from to left. inl (read_stands (fine other) old stands t image from to left);
      stop_fault = λ told old stands t image from to left. inr (omega (arith, loaded.spends.within), loaded.stop.each t image (omega arith) to left);
      stop_memory = λ old stands e t image from to left. read_stands (fine (λ f. memory_fault {X = Updater × Bool} (sym e ∙ f))) old stands t image from to left;
    };
    spent = record {
      seen = λ other. loaded.seen;
      within = λ other. loaded.spends.within;
      unwritten = λ other. no_bytes on 1 disk_old mid _ loaded.spends;
      synced = tt;
      quiet = tt;
      marked = tt;
      bytes = entry_cost (Boot boot);
      costs = λ told old stands. boot_costs (on.seen disk_old) boot old few stands;
      spends = spends_within on 1 0 11 (entry_cost (Boot boot)) disk_old mid _ (omega arith) (omega arith)
          (spends_as on 1 0 disk_old mid (read ≡ Err DiskFault) _ (λ e. as_fault (sym is ∙ e)) (λ e. is ∙ ap Err (err_is e)) loaded.spends);
    };
  }
    where
      as_fault : ◌≡◌ {A = Result Updater RecoverFault} (Err fault) (Err DiskFault) → ◌≡◌ {A = Result (Updater × Bool) RecoverFault} (Err fault) (Err DiskFault)
      as_fault e = cc

      err_is : {other : RecoverFault} → ◌≡◌ {A = Result (Updater × Bool) RecoverFault} (Err fault) (Err other) → fault ≡ other
      err_is e = cc

      fine : ◌≢◌ {A = Result (Updater × Bool) RecoverFault} (Err fault) (Err DiskFault) → read ≢ Err DiskFault
      fine other e = other (ap Err (err_of (sym is ∙ e)))
        where
          err_of : ◌≡◌ {A = Result Updater RecoverFault} (Err fault) (Err DiskFault) → fault ≡ DiskFault
          err_of e = cc

  module _ (once : ReadsAsOne) (updater : Updater) (is : read ≡ Ok updater) (seen_left : on.left_at mid (on.moment mid) (on.seen mid)) where
    fine : read ≢ Err DiskFault
    fine e = ok_fault updater (sym is ∙ e)

    got : on.tells mid → IsLoaded on disk_old updater mid
    got told = subst (λ (r : Result Updater RecoverFault). IfOk r (λ u. IsLoaded on disk_old u mid)) is (loaded.found told)

    held : on.tells mid → (old : Store) → StandsFor (on.seen disk_old) old → Holds on updater mid (session_over old)
    held told old stands = let l = got told in subst (λ (s : Store). Holds on updater mid (session_over s)) (one_stands once (on.seen disk_old) l.store old l.stands stands) l.holds

    kept_boot : on.tells mid → (old : Store) → StandsFor (on.seen disk_old) old → old.boot ≡ (tables_of updater).boot
    kept_boot told old stands = boot_shown ((held told old stands).shows (on.seen mid) seen_left)

    -- what was spent where that is not the end
    read_by : {X : Type 0} (end : Result X RecoverFault) → end ≢ Err DiskFault → Spends on 1 0 disk_old mid (end ≡ Err DiskFault)
    read_by end other = spends_as on 1 0 disk_old mid (read ≡ Err DiskFault) (end ≡ Err DiskFault) (λ e. absurd (fine e)) (λ e. absurd (other e)) loaded.spends

    -- the boot number is the kept one
    pub same : (tables_of updater).boot ≡ boot → Opened on boot disk_old (Ok (updater, false)) mid
    same at = record {
      holds = record {
        found = λ told. let l = got told in (l.store, l.stands);
        stored = λ told old stands. subst (λ (s : Store). Holds on updater mid (session_over s)) (sym (booted_same old boot (kept_boot told old stands ∙ at))) (held told old stands);
        same_boot = λ told old stands answer. kept_boot told old stands ∙ at;
        other_boot = λ told old stands answer. absurd (false_true answer);
        not_a_store = λ told e. absurd (ok_none (updater, false) e);
      };
      leaves = record {
        past = loaded.stop.past;
        stop = λ told old stands other t image from to left. inl (read_stands fine old stands t image from to left);
        stop_fault = λ told old stands t image from to left. inl (inl (read_stands fine old stands t image from to left));
        stop_memory = λ old stands e. absurd (ok_memory (updater, false) e);
      };
      spent = record {
        seen = tt;
        within = tt;
        unwritten = tt;
        synced = loaded.synced fine;
        quiet = λ answer. (loaded.spends.within, no_bytes on 1 disk_old mid _ loaded.spends);
        marked = λ answer. absurd (false_true answer);
        bytes = 0;
        costs = λ told old stands. inl (booted_same old boot (kept_boot told old stands ∙ at), refl);
        spends = spends_within on 1 0 11 0 disk_old mid _ (omega arith) (omega arith) (read_by (Ok (updater, false)) (ok_fault (updater, false)));
      };
    }

    -- there was no memory for the boot number
    missed : Opened on boot disk_old (Err Memory) mid
    missed = record {
      holds = record {
        found = λ told. tt;
        stored = λ told old stands. tt;
        same_boot = λ told old stands. tt;
        other_boot = λ told old stands. tt;
        not_a_store = λ told e. absurd (memory_none e);
      };
      leaves = record {
        past = loaded.stop.past;
        stop = λ told old stands other t image from to left. inl (read_stands fine old stands t image from to left);
        stop_fault = λ told old stands t image from to left. inl (inl (read_stands fine old stands t image from to left));
        stop_memory = λ old stands e t image from to left. read_stands fine old stands t image from to left;
      };
      spent = record {
        seen = λ other. loaded.seen;
        within = λ other. loaded.spends.within;
        unwritten = λ other. no_bytes on 1 disk_old mid _ loaded.spends;
        synced = tt;
        quiet = tt;
        marked = tt;
        bytes = entry_cost (Boot boot);
        costs = λ told old stands. boot_costs (on.seen disk_old) boot old few stands;
        spends = spends_within on 1 0 11 (entry_cost (Boot boot)) disk_old mid _ (omega arith) (omega arith) (read_by {X = Updater × Bool} (Err Memory) memory_fault);
      };
    }

    module _ {T : Type 0} (tried : Result T StepFault) (updater_new : Updater) (disk_new : D) (keeps : KeepsChange on (Boot boot) updater mid tried updater_new disk_new) where
      abbrev leads : on.tells mid → (old : Store) → StandsFor (on.seen disk_old) old → LeadsBetween (Boot boot) (tables_of updater) (on.seen mid) old (booted boot old)
      leads told old stands = let holds = held told old stands in booted_leads old.room (tables_of updater) (on.seen mid) old boot (holds.shows (on.seen mid) seen_left) few holds.valid

      -- no file comes
      now : (told : on.tells mid) (old : Store) (stands : StandsFor (on.seen disk_old) old) → BringsNow on (Boot boot) (tables_of updater) mid old (booted boot old) (leads told old stands)
      now told old stands image left = record { measured = tt; are = refl }

      since : on.tells disk_new → (old : Store) → StandsFor (on.seen disk_old) old → LeavesSince on (on.moment disk_old + 1) disk_new (StandsForEither old (booted boot old))
      since told old stands t image from to left =
          (keeps.stop told (session_over old) (booted boot old) (leads (keeps.spends.told told) old stands) (now (keeps.spends.told told) old stands) (held (keeps.spends.told told) old stands)).each t image
          (omega (arith, loaded.synced fine, loaded.spends.within)) to left

      before : (t : ℕ) (image : List ℕ) → t ≤ on.moment disk_old → on.left_at disk_new t image → on.left_at disk_old t image
      before t image le left = loaded.stop.past t image le (keeps.past t image (omega (arith, loaded.stop.later)) left)

      costs_of : on.tells mid → (old : Store) → StandsFor (on.seen disk_old) old → Costs old (booted boot old) keeps.bytes
      costs_of told old stands = inr (
        Boot boot,
        record {
          tables = tables_of updater;
          image = on.seen mid;
          shows = (held told old stands).shows (on.seen mid) seen_left;
          fits = keeps.fits;
          has = keeps.has;
          measured = keeps.measured;
          leads = leads told old stands;
          brings = now told old stands (on.seen mid) seen_left;
        },
        keeps.costs,
      )

      -- what both cost
      both : {X : Type 0} (end : Result X RecoverFault) → (tried ≡ Err step.DiskFault → end ≡ Err DiskFault) → (end ≡ Err DiskFault → tried ≡ Err step.DiskFault)
          → Spends on 11 keeps.bytes disk_old disk_new (end ≡ Err DiskFault)
      both end to from = spends_within on (1 + 10) (0 + keeps.bytes) 11 keeps.bytes disk_old disk_new (end ≡ Err DiskFault) (omega arith) (omega arith)
          (spends_as on (1 + 10) (0 + keeps.bytes) disk_old disk_new (tried ≡ Err step.DiskFault) (end ≡ Err DiskFault) to from
          (spends_then on 1 0 10 keeps.bytes disk_old mid disk_new (tried ≡ Err step.DiskFault)
          (spends_as on 1 0 disk_old mid (read ≡ Err DiskFault) ⊥ fine (λ no. absurd no) loaded.spends) keeps.spends))

      -- it was made durable
      pub other : (done : T) → tried ≡ Ok done → (tables_of updater).boot ≢ boot → Opened on boot disk_old (Ok (updater_new, true)) disk_new
      other done ok differs =
          let marks : on.moment mid + 1 ≤ on.moment disk_new = subst (λ (r : Result T StepFault). OnOk r (on.moment mid + 1 ≤ on.moment disk_new)) ok keeps.marked in
          record {
            holds = record {
              found = λ told. let l = got (keeps.spends.told told) in (l.store, l.stands);
              stored = λ told old stands. subst (λ (r : Result T StepFault). OnOk r (Holds on updater_new disk_new (session_over (booted boot old)))) ok
                  (keeps.stored told (session_over old) (booted boot old) (leads (keeps.spends.told told) old stands) (now (keeps.spends.told told) old stands) (held (keeps.spends.told told) old stands));
              same_boot = λ told old stands answer. absurd (true_false answer);
              other_boot = λ told old stands answer e. differs (sym (kept_boot (keeps.spends.told told) old stands) ∙ e);
              not_a_store = λ told e. absurd (ok_none (updater_new, true) e);
            };
            leaves = record {
              past = before;
              stop = λ told old stands fault. since told old stands;
              stop_fault = λ told old stands t image from to left. inl (since told old stands t image from to left);
              stop_memory = λ old stands e. absurd (ok_memory (updater_new, true) e);
            };
            spent = record {
              seen = tt;
              within = tt;
              unwritten = tt;
              synced = omega (arith, marks, loaded.synced fine);
              quiet = λ answer. absurd (true_false answer);
              marked = λ answer. omega (arith, marks, loaded.synced fine);
              bytes = keeps.bytes;
              costs = λ told old stands. costs_of (keeps.spends.told told) old stands;
              spends = both (Ok (updater_new, true)) (λ e. absurd (step_ok done (sym ok ∙ e))) (λ e. absurd (ok_fault (updater_new, true) e));
            };
          }

      -- there was no memory for it
      pub memory : tried ≡ Err step.Memory → Opened on boot disk_old (Err Memory) disk_new
      memory is = subst (λ (d : D). Opened on boot disk_old (Err Memory) d) (sym (keeps.memory is).1) missed

      -- the disk failed
      pub fault : tried ≡ Err step.DiskFault → Opened on boot disk_old (Err DiskFault) disk_new
      fault is = record {
        holds = record {
          found = λ told. tt;
          stored = λ told old stands. tt;
          same_boot = λ told old stands. tt;
          other_boot = λ told old stands. tt;
          not_a_store = λ told e. absurd (fault_none e);
        };
        leaves = record {
          past = before;
          stop = λ told old stands other. absurd (other refl);
          stop_fault = λ told old stands t image from to left. inl (since told old stands t image from to left);
          stop_memory = λ old stands e. absurd (fault_memory e);
        };
        spent = record {
          seen = λ other. absurd (other refl);
          within = λ other. absurd (other refl);
          unwritten = λ other. absurd (other refl);
          synced = tt;
          quiet = tt;
          marked = tt;
          bytes = keeps.bytes;
          costs = λ told old stands. costs_of (keeps.spends.told told) old stands;
          spends = both {X = Updater × Bool} (Err DiskFault) (λ e. refl) (λ e. is);
        };
      }
