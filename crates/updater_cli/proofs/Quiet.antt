-- What the lines of a walk found where no link failed in them.
use Rattle.std.proofs.Common.{◌≡◌, ◌∙◌, ◌<◌, ◌++◌, inl, refl, subst, sym, ℕ, List, [], ◌∷◌, Option, Some, None}
use Rattle.std.specs.Prelude.{Any, Contains, IfSome, IsSomeAnd, slice_get}
use Rattle.small_types.specs.declared.target.Target.{Target}
use Rattle.causes.specs.declared.cause.Cause.{Cause}
use Rattle.identity.specs.declared.key.Key.{Key}
use Rattle.manifests.specs.declared.facts.FileEntry.{FileEntry}
use Rattle.manifests.specs.Deployments.{deployment_of}
use Rattle.links.specs.declared.links.Links.{Ghosts as LinksGhosts}
use Rattle.links.specs.Links.{LinksState, failures_of}
use Rattle.fetcher.specs.Fetched.{AllTell, AreQuiet, Kept}
use Rattle.fetcher.proofs.Sequence.{failures_still, kept_same, kept_then, quiet_first, quiet_second, tell_after}
use Rattle.machine.specs.declared.command.Command.{Command}
use Rattle.machine.specs.declared.command.Command.TheVariants.{Install, Check, Group}
use Rattle.machine.specs.declared.event.Event.{Event}
use Rattle.machine.specs.declared.event.Event.TheVariants.{Boot, Line, Unread}
use Rattle.machine.specs.declared.reply.Reply.{Reply}
use Rattle.machine.specs.declared.reply.Reply.TheVariants.{AllLinks}
use Rattle.machine.specs.declared.report.ReportLine.{ReportLine}
use Rattle.machine.specs.Machine.{Step}
use Rattle.machine.specs.Shape.{Shape, shape_of}
use Rattle.machine.specs.Store.{Session}
use Rattle.machine.specs.Wanted.{wanted}
use Rattle.machine.proofs.Members.{contains_in, in_right}
use Rattle.install_plan.specs.GroupAsked.{AccountsGroup, GroupServed}
use Rattle.install_plan.specs.InstallHeard.{Accounts, LacksTarget, InstallServed}
use Rattle.install_plan.specs.Offers.{AccountsOffer, OfferServed}
use Rattle.install_plan.proofs.Told.{base_is, release_map, text_map}
use Rattle.updater.specs.Commanded.{LinksServe}
use Rattle.updater_cli.specs.Installable.{InstallsWhereItCan, IsInstalledOrMemory}
use Rattle.updater_cli.specs.Quiet.{CheckFinds, CommandFinds, EventFinds, GroupFinds, InstallFinds, IsQuiet, LacksOne, LineFinds, LinesFind, WalkFinds, WalksFind}
use Rattle.updater_cli.specs.Report.{Origin, ServesLine, origin_after}
use Rattle.updater_cli.specs.Walk.{Walks}
use Rattle.updater_cli.proofs.Installable.{installs}

some_map : {X : Type 0} {P Q : X → Type 0} (found : Option X) → ((x : X) → P x → Q x)
    → IfSome found P → IfSome found Q
some_map None each holds = tt
some_map (Some x) each holds = each x holds

-- one of the files, which stands behind others
one_of : {P : FileEntry → Type 0} (files earlier later : List FileEntry) (entry : FileEntry)
    → files ≡ earlier ++ entry ∷ later → P entry → Any P files
one_of {P} files earlier later entry is holds =
    let there : Contains files entry = subst (λ (es : List FileEntry). Contains es entry) (sym is)
    (contains_in (earlier ++ entry ∷ later) entry (in_right earlier (entry ∷ later) entry (inl refl)))
    in (there.0, entry, there.1, there.2, holds)

-- ---- a line

module _ (before after : LinksState) (quiet : AreQuiet before after) where
  -- what an install found no link to have
  lacks_one : (shape : Shape) (url : List ℕ) (texts : List (List ℕ)) (asked : List Target)
      (target : Target) (causes : List Cause)
      → LacksTarget shape url texts before after asked target causes
      → LacksOne shape url texts before after target
  lacks_one shape url [] asked target causes lacks = lacks.1.none quiet
  lacks_one shape url (text ∷ []) asked target causes lacks =
      text_map deployment_of 0 (text ∷ []) (λ d ungiven. ungiven.none quiet) lacks.1
  lacks_one shape url (text ∷ other ∷ others) asked target causes lacks =
      release_map (text ∷ other ∷ others)
      (λ d a file. (
        file.base,
        base_is url d file.target _ file.read file.joined,
        one_of (wanted shape.views a) file.earlier file.later file.entry file.wants
            (record { at = file.at; none = file.ungiven.none quiet }),
      ))
      lacks

  install_finds : (shape : Shape) (url : List ℕ) (texts : List (List ℕ)) (reply : Reply)
      → InstallServed shape url texts before after reply
      → InstallFinds shape url texts before after reply
  install_finds shape url texts reply served = record {
    deployment = some_map (slice_get texts 0)
        (λ text came. (came.0, came.1, came.2.given quiet)) served.hearing.deployment;
    application = some_map (slice_get texts 1)
        (λ text came. text_map deployment_of 0 texts
        (λ d from. (from.0, from.1, from.2.given quiet)) came)
        served.hearing.application;
    lacks = λ target causes is.
        lacks_one shape url texts served.hearing.asked target causes
        (subst (Accounts shape url texts before after served.hearing.asked) is served.accounts);
  }

  check_finds : (key : Key) (shape : Shape) (texts : List (List ℕ)) (reply : Reply)
      → OfferServed key shape texts before after reply
      → CheckFinds key shape texts before reply
  check_finds key shape texts reply served = record {
    text = some_map (slice_get texts 0)
        (λ text came. (came.0, came.1, came.2.given quiet)) served.hearing.text;
    lacks = λ target causes is.
        let accounts : AccountsOffer key shape before after served.hearing.asked
        (AllLinks target causes) =
        subst (AccountsOffer key shape before after served.hearing.asked) is served.accounts in
        accounts.1.none quiet;
  }

  group_finds : (lease : ℕ) (group : List ℕ) (shape : Shape) (reply : Reply)
      → GroupServed lease group shape before after reply
      → GroupFinds lease group shape after reply
  group_finds lease group shape reply served = record {
    lacks = λ target causes is.
        let accounts : AccountsGroup lease group shape before after served.asked
        (AllLinks target causes) =
        subst (AccountsGroup lease group shape before after served.asked) is served.accounts in (
          accounts.0,
          accounts.1,
          accounts.2,
          one_of _ accounts.3.earlier accounts.3.later accounts.3.entry accounts.3.wants
              (record { at = accounts.3.at; none = accounts.3.ungiven.none quiet }),
        );
  }

  command_finds : (command : Command) (texts : List (List ℕ)) (reply : Reply) (old new : Session)
      → LinksServe command texts before after old reply new
      → CommandFinds command texts before after reply old
  command_finds (Install url) texts reply old new serve =
      install_finds (shape_of old) url texts reply serve.0
  command_finds (Check key) texts reply old new serve =
      check_finds key (shape_of old) texts reply serve
  command_finds (Group lease group) texts reply old new serve =
      group_finds lease group (shape_of old) reply serve.0
  command_finds _ texts reply old new serve = tt

  event_finds : (event : Event) (reply : Option Reply) (old new : Session)
      → ServesLine event reply before after old new → EventFinds event reply before after old
  event_finds (Boot boot) reply old new serves = tt
  event_finds (Line command now heard) reply old new serves =
      some_map reply (λ answer serve. command_finds command heard.texts answer old new serve) serves
  event_finds (Unread fault) reply old new serves = tt

  installs_where : (now : ℕ) (event : Event) (reply : Option Reply)
      (old new : Session) → Step now old event reply new → EventFinds event reply before after old
      → InstallsWhereItCan before after event reply old
  installs_where now (Line (Install url) at heard) reply old new step finds = λ can.
      subst (λ (r : Option Reply). IsSomeAnd r
      (IsInstalledOrMemory can.deployment old.store.next_view)) (sym step.replied)
      (installs before after old url can step.answer new now heard.texts step.hears
      (subst (λ (r : Option Reply). IfSome r
      (λ answer. InstallFinds (shape_of old) url heard.texts before after answer)) step.replied
      finds)
      step.answers)
  installs_where now _ reply old new step finds = tt

  pub line_finds : (now : ℕ) (l : ReportLine) (old new : Session)
      → Step now old l.event l.reply new → ServesLine l.event l.reply before after old new
      → LineFinds l before after old
  line_finds now l old new step serves =
      let finds = event_finds l.event l.reply old new serves in record {
        quiet = quiet;
        finds = finds;
        installs = installs_where now l.event l.reply old new step finds;
      }

-- ---- all lines

module _ {L : Type 0} (net : LinksGhosts L) (first : LinksState) where
  -- each quiet line, over links that tell
  lines_find : (failures : ℕ) (from : Origin) (mark : ℕ) (before : L) (lines : List ReportLine)
      (new : Session) (last bytes : ℕ) (behind : L)
      → Walks net first from mark before lines new last bytes behind
      → AllTell (net.links before) → failures ≡ failures_of (net.links before)
      → LinesFind net IsQuiet failures from before lines new behind
  lines_find failures from mark before [] new last bytes behind walk tell is = (walk.0, walk.3)
  lines_find failures from mark before (l ∷ lines) new last bytes behind walk tell is =
      let kept = walk.5.served.kept in (
        walk.0,
        walk.1,
        walk.5.step,
        walk.5.served,
        walk.5.failures,
        λ quiet.
            line_finds (net.links before) (net.links walk.1)
            (failures_still (net.links before) (net.links walk.1) kept tell
            (sym walk.5.failures ∙ quiet.same ∙ is)
            (subst (λ (n : ℕ). n < 0xffff_ffff_ffff_ffff) is quiet.below))
            from.now l from.session walk.0 walk.5.step walk.5.served.serves,
        lines_find l.failures (origin_after from l.reply walk.0) l.mark walk.1 lines new last walk.3
            behind walk.6 (tell_after (net.links before) (net.links walk.1) kept tell)
            walk.5.failures,
      )

  -- the links behind are those before, with the same sites
  walk_stays : (from : Origin) (mark : ℕ) (before : L) (lines : List ReportLine) (new : Session)
      (last bytes : ℕ) (behind : L) → Walks net first from mark before lines new last bytes behind
      → Kept (net.links before) (net.links behind)
  walk_stays from mark before [] new last bytes behind walk =
      subst (λ (x : L). Kept (net.links before) (net.links x)) (sym walk.3)
      (kept_same (net.links before))
  walk_stays from mark before (l ∷ lines) new last bytes behind walk =
      kept_then (net.links before) (net.links walk.1) (net.links behind) walk.5.served.kept
      (walk_stays (origin_after from l.reply walk.0) l.mark walk.1 lines new last walk.3 behind
      walk.6)

  -- each line at all, where no count rose from its links to those behind the last
  all_find : (failures : ℕ) (from : Origin) (mark : ℕ) (before : L) (lines : List ReportLine)
      (new : Session) (last bytes : ℕ) (behind : L)
      → Walks net first from mark before lines new last bytes behind
      → AreQuiet (net.links before) (net.links behind)
      → LinesFind net (λ failures l. Unit {0}) failures from before lines new behind
  all_find failures from mark before [] new last bytes behind walk quiet = (walk.0, walk.3)
  all_find failures from mark before (l ∷ lines) new last bytes behind walk quiet =
      let kept = walk.5.served.kept in
      let rest : Kept (net.links walk.1) (net.links behind) =
      walk_stays (origin_after from l.reply walk.0) l.mark walk.1 lines new last walk.3 behind walk.6
      in (
        walk.0,
        walk.1,
        walk.5.step,
        walk.5.served,
        walk.5.failures,
        λ any.
            line_finds (net.links before) (net.links walk.1)
            (quiet_first (net.links before) (net.links walk.1) (net.links behind) kept rest quiet)
            from.now l from.session walk.0 walk.5.step walk.5.served.serves,
        all_find l.failures (origin_after from l.reply walk.0) l.mark walk.1 lines new last walk.3
            behind walk.6
            (quiet_second (net.links before) (net.links walk.1) (net.links behind) kept rest quiet),
      )

  pub walk_finds : (from : Origin) (mark : ℕ) (before : L) (lines : List ReportLine)
      (new : Session) (last bytes : ℕ) (behind : L)
      → Walks net first from mark before lines new last bytes behind
      → AllTell (net.links before) → WalkFinds net from before lines new behind
  walk_finds from mark before lines new last bytes behind walk tell = record {
    quiet = lines_find (failures_of (net.links before)) from mark before lines new last bytes behind
        walk tell refl;
    undisturbed = λ quiet.
        all_find (failures_of (net.links before)) from mark before lines new last bytes behind walk
        quiet;
  }

pub walks_find : {L : Type 0} (net : LinksGhosts L) (first : LinksState) (before : L)
    → WalksFind net first before
walks_find net first before tell from mark lines new last bytes behind walk =
    walk_finds net first from mark before lines new last bytes behind walk tell
