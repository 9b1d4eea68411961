-- A session in which nothing failed was done, or found no memory.
use Rattle.std.proofs.Common.{◌≡◌, ◌≢◌, ◌⊎◌, inl, inr, ◌+◌, ℕ, Option, Some, None, refl, subst, sym, arith}
use Rattle.outside.specs.declared.source.Source.{Ghosts as SourceGhosts}
use Rattle.outside.specs.declared.sink.Sink.{Ghosts as SinkGhosts}
use Rattle.disks.specs.declared.disk.Disk.{Ghosts}
use Rattle.links.specs.declared.links.Links.{Ghosts as LinksGhosts}
use Rattle.fetcher.specs.Fetched.{AllTell}
use Rattle.machine.specs.declared.event.Event.{Event}
use Rattle.machine.specs.declared.report.Report.{Report}
use Rattle.machine.specs.Store.{Session, Store}
use Rattle.updater.specs.StandsFor.{StandsForNone}
use Rattle.updater_cli.specs.declared.status.Status.{Status}
use Rattle.updater_cli.specs.declared.status.Status.TheVariants.{Done, Words, SourceFault, SinkFault, DiskFault, NotAStore, Memory, TooMuchInput}
use Rattle.updater_cli.specs.Complete.{AnswersAll, Completes, IsUndisturbed}
use Rattle.updater_cli.specs.Devices.{Asks, Devices, RisesWith}
use Rattle.updater_cli.specs.Headline.{Headline, IsNotOpened, IsOpened, LeadsTo}
use Rattle.updater_cli.specs.OpensSession.{BootsFirst}
use Rattle.updater_cli.specs.Quiet.{WalkFinds}
use Rattle.updater_cli.specs.Report.{IsBegunServed, StandsSound, moment_behind, origin_over}
use Rattle.updater_cli.specs.Status.{code_of}
use Rattle.updater_cli.proofs.Quiet.{walk_finds}
use Rattle.updater_cli.proofs.Walks.{walk_tells}

-- where no event was begun, the links behind the last line are those at the end
links_behind : {L : Type 0} (net : LinksGhosts L) (now : ℕ) (s : Session) (behind last : L)
    (begun : Option Event) → begun ≡ None → IsBegunServed net now s behind begun last
    → last ≡ behind
links_behind net now s behind last None none served = served
links_behind net now s behind last (Some event) none served = absurd cc

-- a session that was not opened has another status
not_opened : {P Q : Type 0}
    → ((◌≡◌ {A = ℕ} 0 4) × P) ⊎ (((◌≡◌ {A = ℕ} 0 5) ⊎ (◌≡◌ {A = ℕ} 0 6)) × Q) → ⊥
not_opened (inl fault) = let four = fault.0 in omega (arith, four)
not_opened (inr (inl five, is)) = omega (arith, five)
not_opened (inr (inr six, is)) = omega (arith, six)

module _ {S K D L : Type 0} (from : SourceGhosts S) (to : SinkGhosts K) (on : Ghosts D)
    (net : LinksGhosts L) (boot now : ℕ) (old new : Devices S K D L) (report : Report) where
  boots : on.tells new.disk → (store : Store) → StandsSound (on.seen old.disk) store
      → IsNotOpened boot 0 old new report ⊎ IsOpened on boot 0 old new report
      → BootsFirst boot store.boot report.lines
  boots told store stands (inl unopened) = absurd (not_opened unopened.begun)
  boots told store stands (inr opened) = opened.boots told store stands.stands

  finds : (store : Store) → report.begun ≡ None
      → (leads : LeadsTo on net now 0 old new report store) → AllTell (net.links old.links)
      → WalkFinds net (origin_over now store) old.links report.lines leads.session new.links
  finds store none leads tell =
      subst
      (λ (x : L).
      WalkFinds net (origin_over now store) old.links report.lines leads.session x)
      (sym (links_behind net (moment_behind now report.lines) leads.session leads.behind new.links
      report.begun none leads.begun))
      (walk_finds net (net.links old.links) (origin_over now store) (on.moment old.disk + 1)
      old.links report.lines leads.session leads.last leads.bytes leads.behind leads.walk tell)

  -- one that ended well
  completes : Headline from to on net boot now 0 old new report → (store : Store)
      → IsUndisturbed from to on old new store
      → Completes from to on net boot now 0 old new report store
  completes headline store is =
      let reads = headline.lines.reads is.source_tells in
      let leads = headline.run.leads is.disk_tells store is.stands in
      let none : report.begun ≡ None =
      headline.lines.begun.none (λ (four : ◌≡◌ {A = ℕ} 0 4). omega (arith, four)) in
      record {
        done = refl;
        boots = boots is.disk_tells store is.stands headline.lines.opening;
        events = (reads.done refl).0;
        read = (reads.done refl).1;
        begun = none;
        session = leads.session;
        run = record {
          steps = (walk_tells net (net.links old.links) (origin_over now store)
              (on.moment old.disk + 1) old.links report.lines leads.session leads.last leads.bytes
              leads.behind leads.walk).run;
          settled = leads.settled;
        };
        output = (headline.run.output is.sink_tells).whole
            (λ (three : ◌≡◌ {A = ℕ} 0 3). omega (arith, three));
        stands = leads.reads (λ (four : ◌≡◌ {A = ℕ} 0 4). omega (arith, four));
        finds = finds store none leads;
      }

  -- each other status but that of want of memory comes where something failed
  pub answers_all : (status : Status)
      → Headline from to on net boot now (code_of status) old new report → status ≢ Words
      → (on.tells new.disk → status ≡ NotAStore → StandsForNone (on.seen old.disk))
      → RisesWith (status ≡ SourceFault) (from.count old.source) (from.count new.source)
      → RisesWith (status ≡ SinkFault) (to.count old.sink) (to.count new.sink)
      → Asks on (status ≡ DiskFault) old.disk new.disk
      → AnswersAll from to on net boot now (code_of status) old new report
  answers_all Done headline words none reads writes asks store is =
      inl (completes headline store is)
  answers_all Words headline words none reads writes asks store is = absurd (words refl)
  answers_all SourceFault headline words none reads writes asks store is =
      absurd (is.source_quiet (reads.rose refl))
  answers_all SinkFault headline words none reads writes asks store is =
      absurd (is.sink_quiet (writes.rose refl))
  answers_all DiskFault headline words none reads writes asks store is =
      absurd (is.disk_quiet (asks.count.rose refl))
  answers_all NotAStore headline words none reads writes asks store is =
      absurd (none is.disk_tells refl store is.stands.stands)
  answers_all Memory headline words none reads writes asks store is = inr refl
  answers_all TooMuchInput headline words none reads writes asks store is =
      let more = (headline.lines.reads is.source_tells).limit refl in
      let short = is.short in absurd (omega (arith, more, short))
