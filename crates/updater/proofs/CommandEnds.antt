-- How commands end.
use Rattle.std.proofs.Common.{◌≡◌, ◌≢◌, ◌≤◌, ◌+◌, ◌∙◌, ◌⊎◌, ℕ, List, [], Some, Result, Ok, Err, inl, inr, refl, sym, subst, arith}
use Rattle.small_types.specs.declared.room.Room.{Room}
use Rattle.small_types.specs.declared.limits.TheConstants.{NUMBER_LIMIT}
use Rattle.outside.specs.declared.failed.Failed.{Failed}
use Rattle.outside.specs.Streams.{Rose}
use Rattle.disks.specs.declared.disk.Disk.{Ghosts}
use Rattle.disks.specs.Moments.{LeavesOnly, Rests}
use Rattle.disks.specs.Spends.{Spends}
use Rattle.disks.proofs.MomentLemmas.{then_on, weaker}
use Rattle.links.specs.declared.links.Links.{Ghosts as LinksGhosts}
use Rattle.links.specs.Links.{LinksState}
use Rattle.fetcher.specs.Fetched.{KeptBut}
use Rattle.fetcher.proofs.Liars.{but_all}
use Rattle.fetcher.proofs.Sequence.{all_same}
use Rattle.machine.specs.declared.command.Command.{Command}
use Rattle.machine.specs.declared.command.Command.TheVariants.{At, Check, Group, Install, Put}
use Rattle.machine.specs.declared.event.Event.TheVariants.{Line}
use Rattle.machine.specs.declared.reply.Reply.{Reply}
use Rattle.machine.specs.declared.reply.Reply.TheVariants as says
use Rattle.machine.specs.Machine.{Answers, Hears, effect, moment_after, refusals}
use Rattle.machine.specs.Rows.{PassesAll, Refuses}
use Rattle.machine.specs.Shape.{Shape, shape_of}
use Rattle.machine.specs.Store.{Session, Store}
use Rattle.machine.specs.Valid.{Valid}
use Rattle.machine.specs.Words.{IsCommand}
use Rattle.machine.proofs.Sessions.{step_jobs}
use Rattle.store_state.specs.declared.change.Change.{Change}
use Rattle.store_state.specs.Shows.{Shows}
use Rattle.store_state.specs.Tables.{Tables, table_shape}
use Rattle.store_state.proofs.ShownTables.{shape_shown}
use Rattle.install_plan.specs.Downs.{CountsDowns}
use Rattle.install_plan.specs.LeadsIn.{HasNew}
use Rattle.install_plan.specs.Prepared.{MayLeaveFiles}
use Rattle.install_plan.proofs.Downs.{counts_none}
use Rattle.table_log.specs.declared.fault.StepFault.{StepFault}
use Rattle.table_log.specs.declared.fault.StepFault.TheVariants.{Memory, DiskFault}
use Rattle.updater.specs.Shown.{Updater}
use Rattle.updater.specs.Answer.{IsAnswer}
use Rattle.updater.specs.Commanded.{Commanded, IsListedOf, LeavesLinks, LinksServe, MayLack, SoundFor}
use Rattle.updater.specs.Costs.{FileCosts, LeavesNoFiles, StepCosts, WritesNoFiles}
use Rattle.updater.specs.KeepsChange.{LeadsBetween, KeepsChange, MayTake}
use Rattle.updater.specs.StandsFor.{StandsFor, StandsForEither}
use Rattle.updater.specs.Updater.{Holds, room_of, tables_of}
use Rattle.updater.proofs.Passed.{Passed, passed_none, rests_none}
use Rattle.updater.proofs.HeldStore.{holds_as}

-- ---- commands that ask for nothing

abbrev pub IsPlain : Command → Type 0
IsPlain (Install url) = ⊥
IsPlain (Check key) = ⊥
IsPlain (Group lease group) = ⊥
IsPlain _ = Unit {0}

-- a command may hear nothing
pub hears_nothing : (shape : Shape) (command : Command) → Hears shape command []
hears_nothing shape (Install url) = tt
hears_nothing shape (Check key) = tt
hears_nothing shape _ = refl

nothing_left : {L : Type 0} (command : Command) (links : L) → LeavesLinks command links links
nothing_left (Install url) links = tt
nothing_left (Check key) links = tt
nothing_left (Group lease group) links = tt
nothing_left _ links = refl

pub nothing_served : (command : Command) (heard : List (List ℕ)) (before after : LinksState) (old : Session) (reply : Reply) (new : Session) → IsPlain command → LinksServe command heard before after old reply new
nothing_served (Install url) heard before after old reply new plain = absurd plain
nothing_served (Check key) heard before after old reply new plain = absurd plain
nothing_served (Group lease group) heard before after old reply new plain = absurd plain
nothing_served _ heard before after old reply new plain = tt

-- ---- steps

-- a step that leaves the store as it was
pub record LeavesStore (now : ℕ) (heard : List (List ℕ)) (command : Command) (before after : LinksState) (old : Session) (reply : Reply) : Type 0 where
  pub new : Session
  pub step : Answers now heard old command reply new
  pub same : new.store ≡ old.store
  pub served : LinksServe command heard before after old reply new

-- What a change is to a session: a step to another store, to which it leads. Each image that is left
-- has the bytes that it brings.
pub record Does (now : ℕ) (heard : List (List ℕ)) (command : Command) (before after : LinksState) (change : Change) (tables : Tables) (there : List ℕ) (Left : List ℕ → Type 0) (old : Session) (reply : Reply) : Type 0 where
  pub new : Session
  pub step : Answers now heard old command reply new
  pub leads : LeadsBetween change tables there old.store new.store
  pub brings : (image : List ℕ) → Left image → HasNew old.store.room change leads.bytes image
  pub other : new.store ≢ old.store
  pub served : LinksServe command heard before after old reply new

-- the images that a stop may leave now
abbrev pub left_on : {D : Type 0} → Ghosts D → D → List ℕ → Type 0
left_on on disk = on.left_at disk (on.moment disk)

-- nothing is missed where nothing takes memory
pub takes_none : {P : Type 0} → ⊥ ⊎ ⊥ → P
takes_none (inl none) = absurd none
takes_none (inr none) = absurd none

-- a command may write no files
pub costs_none : (command : Command) (shape : Shape) (heard : List (List ℕ)) (before after : LinksState) → FileCosts command shape heard before after 0
costs_none (Install url) shape heard before after = inl refl
costs_none (Group lease group) shape heard before after = inl refl
costs_none (Put lease name bytes) shape heard before after = omega arith
costs_none _ shape heard before after = refl

-- what may stand in blocks behind a reply that leaves the store
abbrev left_by : Reply → ℕ → ℕ
left_by (says.AllLinks target causes) most = most
left_by says.Memory most = most
left_by _ most = 0

left_costs : (command : Command) (reply : Reply) (shape : Shape) (heard : List (List ℕ)) (before after : LinksState) (most : ℕ) → FileCosts command shape heard before after most
    → FileCosts command shape heard before after (left_by reply most)
left_costs command (says.AllLinks target causes) shape heard before after most costs = costs
left_costs command says.Memory shape heard before after most costs = costs
left_costs command _ shape heard before after most costs = costs_none command shape heard before after

fileless_costs : (command : Command) (shape : Shape) (heard : List (List ℕ)) (before after : LinksState) (most : ℕ) → FileCosts command shape heard before after most → WritesNoFiles command → most ≡ 0
fileless_costs (Install url) shape heard before after most costs plain = absurd plain
fileless_costs (Group lease group) shape heard before after most costs plain = absurd plain
fileless_costs (Put lease name bytes) shape heard before after most costs plain = absurd plain
fileless_costs _ shape heard before after most costs plain = costs

left_none : (command : Command) (reply : Reply) (shape : Shape) (heard : List (List ℕ)) (before after : LinksState) (most : ℕ) → FileCosts command shape heard before after most → LeavesNoFiles command reply
    → left_by reply most ≡ 0
left_none command (says.AllLinks target causes) shape heard before after most costs plain = fileless_costs command shape heard before after most costs (plain tt)
left_none command says.Memory shape heard before after most costs plain = fileless_costs command shape heard before after most costs (plain tt)
left_none command _ shape heard before after most costs plain = refl

left_total : (command : Command) (reply : Reply) (old new most : ℕ) → new ≤ old + most → (LeavesNoFiles command reply → new ≡ old) → new ≤ old + left_by reply most
left_total command (says.AllLinks target causes) old new most within still = within
left_total command says.Memory old new most within still = within
left_total command _ old new most within still = let same = still (λ may. absurd may) in omega (arith, same)

-- no file is left of a command that brings files, where its reply may leave none
pub left_quiet : {D : Type 0} (on : Ghosts D) (disk mid : D) (reply : Reply) → MayLeaveFiles reply ⊎ Rests on disk mid → (MayLeaveFiles reply → ⊥) → Rests on disk mid
left_quiet on disk mid reply (inl may) quiet = absurd (quiet may)
left_quiet on disk mid reply (inr rests) quiet = rests

-- what was heard of the links, and what is left of them
pub record Linked {L : Type 0} (net : LinksGhosts L) (heard : List (List ℕ)) (command : Command) (updater : Updater) (links_old links_new : L) : Type 0 where
  pub kept : KeptBut (IsListedOf command (table_shape (room_of updater) (tables_of updater)) heard) (net.links links_old) (net.links links_new)
  pub left : LeavesLinks command links_old links_new
  pub hears : Hears (table_shape (room_of updater) (tables_of updater)) command heard

-- nothing was asked
pub unlinked : {L : Type 0} (net : LinksGhosts L) (command : Command) (updater : Updater) (links : L) → Linked net [] command updater links links
unlinked net command updater links = record {
  kept = but_all (IsListedOf command (table_shape (room_of updater) (tables_of updater)) []) (net.links links) (net.links links) (all_same (net.links links));
  left = nothing_left command links;
  hears = hears_nothing (table_shape (room_of updater) (tables_of updater)) command;
}

-- what the tables say of a session that is held
pub record Shown (image : List ℕ) (command : Command) (updater : Updater) (old : Session) : Type 0 where
  pub jobs : old.jobs ≡ []
  pub shape : shape_of old ≡ table_shape (room_of updater) (tables_of updater)
  pub shows : Shows (room_of updater) (tables_of updater) image old.store
  pub room : room_of updater ≡ old.store.room
  pub valid : Valid old.store
  pub sound : SoundFor command old.store

-- ---- answers

module _ (now : ℕ) (heard : List (List ℕ)) (room : Room) (tables : Tables) (old : Session) (shape : shape_of old ≡ table_shape room tables) (command : Command) where
  -- a refusal that the tables give is one of the session
  pub refused_answers : (reply : Reply) (new : Session) → Refuses (refusals now heard (table_shape room tables) command) old reply new → Answers now heard old command reply new
  refused_answers reply new refuses = inl (inr (tt, subst (λ (s : Shape). Refuses (refusals now heard s command) old reply new) (sym shape) refuses))

  -- the effect, once the tables pass all refusals
  pub effect_answers : (reply : Reply) (new : Session) → PassesAll (refusals now heard (table_shape room tables) command) → effect now heard command old reply new → Answers now heard old command reply new
  effect_answers reply new passes done = inr ((tt, subst (λ (s : Shape). PassesAll (refusals now heard s command)) (sym shape) passes), done)

ok_no_fault : {T : Type 0} (done : T) → ◌≢◌ {A = Result T StepFault} (Ok done) (Err DiskFault)
ok_no_fault done e = cc

told_reply : (reply other : Reply) → ◌≡◌ {A = Result Reply Failed} (Ok reply) (Ok other) → reply ≡ other
told_reply reply other e = cc

failed_no_reply : (fault : Failed) (reply : Reply) → ◌≢◌ {A = Result Reply Failed} (Err fault) (Ok reply)
failed_no_reply fault reply e = cc

module _ {D L : Type 0} (on : Ghosts D) (net : LinksGhosts L) (now : ℕ) (heard : List (List ℕ)) (command : Command) (updater : Updater) (disk mid : D) (links_old links_new : L)
    (seen_left : left_on on mid (on.seen mid)) (moment : now ≤ NUMBER_LIMIT) (linked : Linked net heard command updater links_old links_new)
    (most : ℕ) (files : FileCosts command (table_shape (room_of updater) (tables_of updater)) heard (net.links links_old) (net.links links_new) most)
    (fault : Type 0) (passed : Passed on updater disk mid most fault) where
  shown : (old : Session) → Holds on updater mid old → SoundFor command old.store → Shown (on.seen mid) command updater old
  shown old holds sound =
      let shows = subst (λ (n : Room). Shows n (tables_of updater) (on.seen mid) old.store) (sym holds.room) (holds.shows (on.seen mid) seen_left) in
      record { jobs = holds.jobs; shape = shape_shown old holds.jobs shows; shows = shows; room = holds.room; valid = holds.valid; sound = sound }

  heard_by : (old : Session) → Shown (on.seen mid) command updater old → Hears (shape_of old) command heard
  heard_by old s = subst (λ (shape : Shape). Hears shape command heard) (sym s.shape) linked.hears

  files_by : (bytes : ℕ) → FileCosts command (table_shape (room_of updater) (tables_of updater)) heard (net.links links_old) (net.links links_new) bytes
      → (old : Session) → Shown (on.seen mid) command updater old → FileCosts command (shape_of old) heard (net.links links_old) (net.links links_new) bytes
  files_by bytes costs old s = subst (λ (shape : Shape). FileCosts command shape heard (net.links links_old) (net.links links_new) bytes) (sym s.shape) costs

  -- no command opens a job
  jobs_stay : (old : Session) → Shown (on.seen mid) command updater old → (reply : Reply) (new : Session) → Answers now heard old command reply new → new.jobs ≡ []
  jobs_stay old s reply new step =
      step_jobs now old (Line command now (record { texts = heard })) (Some reply) new
      (record { moment = refl; hears = heard_by old s; answer = reply; replied = refl; answers = step }) ∙ s.jobs

  books : Spends on passed.spends.0 most disk mid fault
  books = passed.spends.1

  stop_either : (old : Session) (other : Store) → Holds on updater disk old → LeavesOnly on disk mid (StandsForEither old.store other)
  stop_either old other holds = weaker on disk mid (λ image. StandsFor image old.store) (StandsForEither old.store other) (λ image stands. inl stands) (passed.stop old holds)

  -- a step that leaves the store writes files alone
  rest_costs : (bytes : ℕ) → FileCosts command (table_shape (room_of updater) (tables_of updater)) heard (net.links links_old) (net.links links_new) bytes
      → (old : Session) (s : Shown (on.seen mid) command updater old) (new : Session) → new.store ≡ old.store
      → StepCosts command heard (net.links links_old) (net.links links_new) old new bytes
  rest_costs bytes costs old s new same = record { change = 0; costs = inl (same, refl); still = λ _. refl; files = bytes; brings = files_by bytes costs old s; all = omega arith }

  -- no change is tried
  pub rested_on : (fault → ⊥) → (reply : Reply) → (LeavesNoFiles command reply → Rests on disk mid) → moment_after now (Some reply) ≤ NUMBER_LIMIT → CountsDowns (net.links links_old) (net.links links_new) reply → (reply ≡ says.Memory → MayLack command)
      → (on.tells mid → (old : Session) → Shown (on.seen mid) command updater old → LeavesStore now heard command (net.links links_old) (net.links links_new) old reply)
      → Commanded on net now heard command updater disk links_old (Ok reply) updater mid links_new
  rested_on none reply still few downs lack rests = record {
    answered = λ told old holds sound. let held = passed.holds old holds in let s = shown old held sound in let r = rests told old s in record {
      new = r.new;
      hears = heard_by old s;
      step = r.step;
      stored = holds_as on updater mid old r.new held r.same (jobs_stay old s reply r.new r.step);
      stop = stop_either old r.new.store holds;
      quiet = λ plain same. still plain;
      marked = λ other. absurd (other r.same);
      bytes = left_by reply most;
      spares = λ plain same. left_none command reply (table_shape (room_of updater) (tables_of updater)) heard (net.links links_old) (net.links links_new) most files plain;
      costs = rest_costs (left_by reply most) (left_costs command reply (table_shape (room_of updater) (tables_of updater)) heard (net.links links_old) (net.links links_new) most files) old s r.new r.same;
      written = left_total command reply (on.total disk) (on.total mid) most books.total_within (λ plain. (still plain).total);
      served = r.served;
    };
    fault = λ told old holds sound. tt;
    later = books.later;
    told = books.told;
    cause = record { later = books.count; rose = tt; quiet = books.quiet none };
    kept = linked.kept;
    left = linked.left;
    hears = linked.hears;
    few = few;
    downs = downs;
    lacks = λ e. lack (told_reply reply says.Memory e);
  }

  -- the disk failed before one was tried
  pub failed_on : fault → (reply : Reply) → (on.tells mid → (old : Session) → Shown (on.seen mid) command updater old → LeavesStore now heard command (net.links links_old) (net.links links_new) old reply)
      → (result : Result Reply Failed) → result ≡ Err (record {})
      → Commanded on net now heard command updater disk links_old result updater mid links_new
  failed_on is reply rests result failed = subst (λ (r : Result Reply Failed). Commanded on net now heard command updater disk links_old r updater mid links_new) (sym failed) (record {
    answered = λ told old holds sound. tt;
    fault = λ told old holds sound. let s = shown old (passed.holds old holds) sound in let r = rests told old s in record {
      new = r.new;
      reply = reply;
      hears = heard_by old s;
      step = r.step;
      stop = stop_either old r.new.store holds;
      bytes = most;
      costs = rest_costs most files old s r.new r.same;
      written = books.total_within;
      served = r.served;
    };
    later = books.later;
    told = books.told;
    cause = record { later = books.count; rose = books.cause is; quiet = tt };
    kept = linked.kept;
    left = linked.left;
    hears = linked.hears;
    few = tt;
    downs = tt;
    lacks = λ e. absurd (failed_no_reply (record {}) says.Memory e);
  })

  module _ (none : fault → ⊥) (change : Change) (reply : Reply) (few : moment_after now (Some reply) ≤ NUMBER_LIMIT) (downs : CountsDowns (net.links links_old) (net.links links_new) reply) (lack : reply ≡ says.Memory → MayLack command)
      (does : on.tells mid → (old : Session) → Holds on updater disk old → Shown (on.seen mid) command updater old → Does now heard command (net.links links_old) (net.links links_new) change (tables_of updater) (on.seen mid) (left_on on mid) old reply)
      (missed : MayTake (tables_of updater) change → Commanded on net now heard command updater disk links_old (Ok says.Memory) updater mid links_new) (updater_new : Updater) (disk_new : D) where
    -- what the step may write
    costs_of : {T : Type 0} (tried : Result T StepFault) (keeps : KeepsChange on change updater mid tried updater_new disk_new)
        → (told : on.tells mid) (old : Session) (holds : Holds on updater disk old) (s : Shown (on.seen mid) command updater old)
        → StepCosts command heard (net.links links_old) (net.links links_new) old (does told old holds s).new (keeps.bytes + most)
    costs_of tried keeps told old holds s = record {
      change = keeps.bytes;
      costs = inr (
        change,
        record {
          tables = tables_of updater;
          image = on.seen mid;
          shows = subst (λ (n : Room). Shows n (tables_of updater) (on.seen mid) old.store) s.room s.shows;
          fits = keeps.fits;
          has = keeps.has;
          measured = keeps.measured;
          leads = (does told old holds s).leads;
          brings = (does told old holds s).brings (on.seen mid) seen_left;
        },
        keeps.costs,
      );
      still = λ same. absurd ((does told old holds s).other same);
      files = most;
      brings = files_by most files old s;
      all = refl;
    }

    -- a stop leaves the store before the step, or that after it
    stop_over : {T : Type 0} (tried : Result T StepFault) (keeps : KeepsChange on change updater mid tried updater_new disk_new)
        → on.tells disk_new → (old : Session) → Holds on updater disk old → (s : Shown (on.seen mid) command updater old) (d : Does now heard command (net.links links_old) (net.links links_new) change (tables_of updater) (on.seen mid) (left_on on mid) old reply)
        → LeavesOnly on disk disk_new (StandsForEither old.store d.new.store)
    stop_over tried keeps told old holds s d =
        then_on on disk mid disk_new (StandsForEither old.store d.new.store) (stop_either old d.new.store holds)
        (keeps.stop told old d.new.store d.leads d.brings (passed.holds old holds))

    -- a change that was tried, whatever came of it
    pub kept_on : {T : Type 0} (tried : Result T StepFault) (result : Result Reply Failed) → KeepsChange on change updater mid tried updater_new disk_new → IsAnswer reply tried result → Commanded on net now heard command updater disk links_old result updater_new disk_new links_new
    kept_on (Ok done) result keeps is = subst (λ (r : Result Reply Failed). Commanded on net now heard command updater disk links_old r updater_new disk_new links_new) (sym is) (record {
      answered = λ told old holds sound. let held = passed.holds old holds in let s = shown old held sound in let d = does (keeps.spends.told told) old holds s in record {
        new = d.new;
        hears = heard_by old s;
        step = d.step;
        stored = holds_as on updater_new disk_new (record old { store = d.new.store }) d.new (keeps.stored told old d.new.store d.leads d.brings held) refl (jobs_stay old s reply d.new d.step);
        stop = stop_over (Ok done) keeps told old holds s d;
        quiet = λ plain same. absurd (d.other same);
        marked = λ other. omega (arith, books.later, keeps.marked);
        bytes = keeps.bytes + most;
        spares = λ plain same. absurd (d.other same);
        costs = costs_of (Ok done) keeps (keeps.spends.told told) old holds s;
        written = omega (arith, books.total_within, keeps.spends.total_within);
        served = d.served;
      };
      fault = λ told old holds sound. tt;
      later = omega (arith, books.later, keeps.spends.later);
      told = λ told. books.told (keeps.spends.told told);
      cause = record { later = omega (arith, books.count, keeps.spends.count); rose = tt; quiet = keeps.spends.quiet (ok_no_fault done) ∙ books.quiet none };
      kept = linked.kept;
      left = linked.left;
      hears = linked.hears;
      few = few;
      downs = downs;
      lacks = λ e. lack (told_reply reply says.Memory e);
    })
    kept_on (Err Memory) result keeps is = let same = keeps.memory refl in rw (is, same.0, same.1) (missed (keeps.needs refl))
    kept_on (Err DiskFault) result keeps is = subst (λ (r : Result Reply Failed). Commanded on net now heard command updater disk links_old r updater_new disk_new links_new) (sym is) (record {
      answered = λ told old holds sound. tt;
      fault = λ told old holds sound. let s = shown old (passed.holds old holds) sound in let d = does (keeps.spends.told told) old holds s in record {
        new = d.new;
        reply = reply;
        hears = heard_by old s;
        step = d.step;
        stop = stop_over (Err DiskFault) keeps told old holds s d;
        bytes = keeps.bytes + most;
        costs = costs_of (Err DiskFault) keeps (keeps.spends.told told) old holds s;
        written = omega (arith, books.total_within, keeps.spends.total_within);
        served = d.served;
      };
      later = omega (arith, books.later, keeps.spends.later);
      told = λ told. books.told (keeps.spends.told told);
      cause = record { later = omega (arith, books.count, keeps.spends.count); rose = subst (λ (n : ℕ). Rose n (on.count disk_new)) (books.quiet none) (keeps.spends.cause refl); quiet = tt };
      kept = linked.kept;
      left = linked.left;
      hears = linked.hears;
      few = tt;
      downs = tt;
      lacks = λ e. absurd (failed_no_reply (record {}) says.Memory e);
    })

-- ---- where no file is written

module _ {D L : Type 0} (on : Ghosts D) (net : LinksGhosts L) (now : ℕ) (heard : List (List ℕ)) (command : Command) (updater : Updater) (disk : D) (links_old links_new : L)
    (seen_left : left_on on disk (on.seen disk)) (moment : now ≤ NUMBER_LIMIT) (linked : Linked net heard command updater links_old links_new) where
  files_none : FileCosts command (table_shape (room_of updater) (tables_of updater)) heard (net.links links_old) (net.links links_new) 0
  files_none = costs_none command (table_shape (room_of updater) (tables_of updater)) heard (net.links links_old) (net.links links_new)

  -- the disk is not touched
  pub rested : (reply : Reply) → moment_after now (Some reply) ≤ NUMBER_LIMIT → CountsDowns (net.links links_old) (net.links links_new) reply → (reply ≡ says.Memory → MayLack command) → ((old : Session) → Shown (on.seen disk) command updater old → LeavesStore now heard command (net.links links_old) (net.links links_new) old reply)
      → Commanded on net now heard command updater disk links_old (Ok reply) updater disk links_new
  rested reply few downs lack rests =
      rested_on on net now heard command updater disk disk links_old links_new seen_left moment linked 0 files_none ⊥ (passed_none on updater disk) (λ no. no) reply (λ plain. rests_none on disk)
      few downs lack (λ told old s. rests old s)

  module _ (change : Change) (reply : Reply) (few : moment_after now (Some reply) ≤ NUMBER_LIMIT) (downs : CountsDowns (net.links links_old) (net.links links_new) reply) (lack : reply ≡ says.Memory → MayLack command)
      (does : (old : Session) → Shown (on.seen disk) command updater old → Does now heard command (net.links links_old) (net.links links_new) change (tables_of updater) (on.seen disk) (left_on on disk) old reply)
      (missed : MayTake (tables_of updater) change → Commanded on net now heard command updater disk links_old (Ok says.Memory) updater disk links_new) (updater_new : Updater) (disk_new : D) where
    -- a change is tried at once
    pub kept : {T : Type 0} (tried : Result T StepFault) (result : Result Reply Failed) → KeepsChange on change updater disk tried updater_new disk_new → IsAnswer reply tried result → Commanded on net now heard command updater disk links_old result updater_new disk_new links_new
    kept tried result keeps is =
        kept_on on net now heard command updater disk disk links_old links_new seen_left moment linked 0 files_none ⊥ (passed_none on updater disk) (λ no. no)
        change reply few downs lack (λ told old holds s. does old s) missed updater_new disk_new tried result keeps is

-- ---- where nothing was asked

module _ {D L : Type 0} (on : Ghosts D) (net : LinksGhosts L) (now : ℕ) (command : Command) (updater : Updater) (disk : D) (links : L)
    (seen_left : on.left_at disk (on.moment disk) (on.seen disk)) (moment : now ≤ NUMBER_LIMIT) (plain : IsPlain command) where
  asked_none : Linked net [] command updater links links
  asked_none = unlinked net command updater links

  served_none : (old : Session) (reply : Reply) (new : Session) → LinksServe command [] (net.links links) (net.links links) old reply new
  served_none old reply new = nothing_served command [] (net.links links) (net.links links) old reply new plain

  -- the tables give a refusal, which changes nothing
  pub refused : (reply : Reply) → moment_after now (Some reply) ≤ NUMBER_LIMIT → CountsDowns (net.links links) (net.links links) reply
      → (reply ≡ says.Memory → MayLack command)
      → ((old : Session) → Shown (on.seen disk) command updater old
      → Refuses (refusals now [] (table_shape (room_of updater) (tables_of updater)) command) old reply old)
      → Commanded on net now [] command updater disk links (Ok reply) updater disk links
  refused reply few downs lack refuses = rested on net now [] command updater disk links links seen_left moment asked_none reply few downs lack (λ old s. record {
    new = old;
    step = refused_answers now [] (room_of updater) (tables_of updater) old s.shape command reply old (refuses old s);
    same = refl;
    served = served_none old reply old;
  })

  -- no memory was found, at any place
  pub memory_missed : MayLack command → Commanded on net now [] command updater disk links (Ok says.Memory) updater disk links
  memory_missed may = rested on net now [] command updater disk links links seen_left moment asked_none says.Memory moment (counts_none refl) (λ e. may) (λ old s. record {
    new = old;
    step = inl (inl (refl, refl));
    same = refl;
    served = served_none old says.Memory old;
  })

-- the moment is shown
moment_shown : {D L : Type 0} (on : Ghosts D) (net : LinksGhosts L) (now next : ℕ) (updater : Updater) (disk : D) (links : L)
    → on.left_at disk (on.moment disk) (on.seen disk) → now ≤ NUMBER_LIMIT → next ≤ NUMBER_LIMIT
    → Commanded on net now [] (At next) updater disk links (Ok (says.At next)) updater disk links
moment_shown on net now next updater disk links seen_left moment few =
    rested on net now [] (At next) updater disk links links seen_left moment (unlinked net (At next) updater links) (says.At next) few (counts_none refl) (λ e. absurd (cc)) (λ old s. record {
      new = old;
      step = inr ((tt, tt), (refl, refl));
      same = refl;
      served = tt;
    })

pub moment_told : {D L : Type 0} (on : Ghosts D) (net : LinksGhosts L) (now next : ℕ) (heard : List (List ℕ)) (command : Command) (updater : Updater) (disk : D) (links : L)
    → on.left_at disk (on.moment disk) (on.seen disk) → now ≤ NUMBER_LIMIT → IsCommand command → command ≡ At next → heard ≡ []
    → Commanded on net now heard command updater disk links (Ok (says.At next)) updater disk links
moment_told on net now next heard command updater disk links seen_left moment words is none =
    subst (λ (c : Command). Commanded on net now heard c updater disk links (Ok (says.At next)) updater disk links) (sym is)
    (subst (λ (texts : List (List ℕ)). Commanded on net now texts (At next) updater disk links (Ok (says.At next)) updater disk links) (sym none)
    (moment_shown on net now next updater disk links seen_left moment (subst IsCommand is words)))
