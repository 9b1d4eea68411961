-- A line of the run: what its command did, and to what it leads.
use Rattle.std.proofs.Common.{◌≡◌, ◌++◌, ℕ, List, [], ◌∷◌, length, map, Some, Ok, Err, Result, IfErr, OnOk, refl, sym, ap, subst, ◌∙◌, arith}
use Rattle.outside.specs.declared.failed.Failed.{Failed}
use Rattle.disks.specs.declared.disk.Disk.{Ghosts}
use Rattle.links.specs.declared.links.Links.{Ghosts as LinksGhosts}
use Rattle.identity.specs.declared.key.Key.{Key}
use Rattle.small_types.specs.declared.room.Room.{Room}
use Rattle.small_types.specs.declared.target.Target.{Target}
use Rattle.machine.specs.declared.command.Command.{Command}
use Rattle.machine.specs.declared.command.Command.TheVariants.{Group, Install}
use Rattle.machine.specs.declared.event.Heard.{Heard}
use Rattle.machine.specs.declared.reply.Reply.{Reply}
use Rattle.machine.specs.declared.reply.Reply.TheVariants as says
use Rattle.machine.specs.Blocks.{used_blocks}
use Rattle.machine.specs.Machine.{Hears}
use Rattle.machine.specs.Shape.{Shape, bare_view, shape_of}
use Rattle.machine.specs.Sound.{Sound}
use Rattle.machine.specs.Store.{Session, Store}
use Rattle.machine.specs.Valid.{Valid}
use Rattle.machine.specs.Words.{IsCommand}
use Rattle.machine.proofs.KeptSteps.{step_sound}
use Rattle.store_state.specs.Shows.{Shows}
use Rattle.updater.specs.Shown.{Updater}
use Rattle.updater.specs.Commanded.{Answered, Commanded, CommandedBehind, SoundFor}
use Rattle.updater.specs.Updater.{tables_of}
use Rattle.generated_release.specs.declared.release.GeneratedRelease.{GeneratedRelease}
use Rattle.generated_release.specs.Options.{number_of, url_of, version_of}
use Rattle.generated_release.specs.Published.{ArePublished}
use Rattle.demo.specs.declared.fault.DemoFault.{DemoFault}
use Rattle.demo.specs.declared.fault.DemoFault.TheVariants.{DiskFault}
use Rattle.demo.specs.declared.site.Site.{Site}
use Rattle.demo.specs.declared.summary.Installed.{Installed}
use Rattle.demo.specs.Parts.{Goes, IsAsPublished, IsNeitherFault, ReachesHeld, CommandReplies}
use Rattle.demo.specs.Steps.{AnswersAtZero, Installs, IsSite, event_of, installed_reply}
use Rattle.demo.proofs.Touches.{fails, with_answer, with_other}
use Rattle.demo.proofs.Urls.{is_url}

-- a sound store is one for each command
sound_for : (command : Command) (store : Store) → Sound store → SoundFor command store
sound_for (Install url) store sound = sound
sound_for (Group lease group) store sound = sound
sound_for _ store sound = tt

module _ {D L : Type 0} (on : Ghosts D) (net : LinksGhosts L) (command : Command)
    (updater : Updater) (disk : D) (links : L) (updater_new : Updater) (disk_new : D)
    (links_new : L) where
  -- it heard its texts behind none
  pub alone : (none heard : List (List ℕ)) (result : Result Reply Failed) → none ≡ []
      → CommandedBehind on net 0 none heard command updater disk links result updater_new disk_new
      links_new
      → Commanded on net 0 heard command updater disk links result updater_new disk_new links_new
  alone none heard result empty there =
      let same : heard ≡ there.texts = there.behind
      ∙ ap (λ (before : List (List ℕ)). before ++ there.texts) empty in
      subst (λ (texts : List (List ℕ)). Commanded on net 0 texts command updater disk links result
      updater_new disk_new links_new) (sym same) there.commanded

  pub replied : (heard : Heard) (reply : Reply)
      → Commanded on net 0 heard.texts command updater disk links (Ok reply)
      updater_new disk_new links_new
      → CommandReplies on net command updater disk links (Ok (heard, reply)) updater_new disk_new links_new
  replied heard reply commanded = record {
    line = λ tells old holds sound.
        commanded.answered tells old holds (sound_for command old.store sound);
    touches = record {
      told = commanded.told;
      later = commanded.later;
      count = commanded.cause.later;
      cause = λ is. absurd (cc (is));
      quiet = λ other. commanded.cause.quiet;
      store = λ tells is. cc (is);
    };
  }

  pub failed : (heard : List (List ℕ)) (why : Failed)
      → Commanded on net 0 heard command updater disk links (Err why) updater_new disk_new links_new
      → CommandReplies on net command updater disk links (Err DiskFault) updater_new disk_new links_new
  failed heard why commanded = record {
    line = λ tells old holds sound. tt;
    touches = record {
      told = commanded.told;
      later = commanded.later;
      count = commanded.cause.later;
      cause = λ is. commanded.cause.rose;
      quiet = λ other. absurd (other refl);
      store = λ tells is. cc (is);
    };
  }

module _ {D L : Type 0} (on : Ghosts D) (net : LinksGhosts L) (command : Command)
    (updater : Updater) (disk : D) (links : L) (updater_new : Updater) (disk_new : D)
    (links_new : L) where
  -- what the answer leads to
  reached : (old : Session) (texts : List (List ℕ)) (reply : Reply)
      → Answered on net 0 texts command disk links old reply updater_new disk_new links_new
      → IsCommand command → Sound old.store
      → ReachesHeld on (AnswersAtZero command texts reply old) updater_new disk_new
  reached old texts reply it is sound =
      let step : AnswersAtZero command texts reply old it.new = record {
        moment = refl;
        hears = it.hears;
        answer = reply;
        replied = refl;
        answers = it.step;
      } in
      record {
        session = it.new;
        is = step;
        holds = it.stored;
        sound = step_sound 0 old (event_of command texts) (Some reply) it.new (is, omega arith) step
            sound;
      }

module _ {D L : Type 0} (on : Ghosts D) (net : LinksGhosts L) (command : Command)
    (updater : Updater) (disk : D) (links : L) (updater_new : Updater) (disk_new : D)
    (links_new : L) where
  -- a command that hears nothing was answered so
  goes : {T : Type 0} (x : T) (wanted : Command) (heard : Heard) (reply said : Reply)
      → ((shape : Shape) (texts : List (List ℕ)) → Hears shape command texts → texts ≡ [])
      → IsCommand command → command ≡ wanted
      → CommandReplies on net command updater disk links (Ok (heard, reply)) updater_new disk_new links_new
      → reply ≡ said
      → Goes on (λ (_ : T). AnswersAtZero wanted [] said) updater disk (Ok x) updater_new disk_new
  goes x wanted heard reply said none is same replies says_so = record {
    leads = λ tells old holds sound.
        let done : Answered on net 0 heard.texts command disk links old reply updater_new disk_new
        links_new = replies.line tells old holds sound in
        let bare : Answered on net 0 [] command disk links old reply updater_new disk_new links_new =
        subst (λ (texts : List (List ℕ)). Answered on net 0 texts command disk links old reply
        updater_new disk_new links_new) (none (shape_of old) heard.texts done.hears) done in
        let asked : Answered on net 0 [] wanted disk links old reply updater_new disk_new links_new =
        subst (λ (c : Command). Answered on net 0 [] c disk links old reply updater_new disk_new
        links_new) same bare in
        let it : Answered on net 0 [] wanted disk links old said updater_new disk_new links_new =
        subst (λ (r : Reply). Answered on net 0 [] wanted disk links old r updater_new disk_new
        links_new) says_so asked in
        reached on net wanted updater disk links updater_new disk_new links_new old [] said it
        (subst IsCommand same is) sound;
    touches = with_answer on x replies.touches;
  }

module _ {D L : Type 0} (on : Ghosts D) (net : LinksGhosts L) (command : Command)
    (updater : Updater) (disk : D) (links : L) (updater_new : Updater) (disk_new : D)
    (links_new : L) where
  -- it was answered so, or the line ends by a fault that says how it was answered
  pub judged : {T : Type 0} (result : Result T DemoFault) (wanted : Command) (heard : Heard)
      (reply said : Reply)
      → ((shape : Shape) (texts : List (List ℕ)) → Hears shape command texts → texts ≡ [])
      → IsCommand command → command ≡ wanted
      → CommandReplies on net command updater disk links (Ok (heard, reply)) updater_new disk_new links_new
      → OnOk result (reply ≡ said) → IfErr result IsNeitherFault
      → Goes on (λ (_ : T). AnswersAtZero wanted [] said) updater disk result updater_new disk_new
  judged (Ok x) wanted heard reply said none is same replies says_so other =
      goes on net command updater disk links updater_new disk_new links_new x wanted heard reply said
      none is same replies says_so
  judged (Err fault) wanted heard reply said none is same replies says_so other =
      fails on (with_other on fault other replies.touches)

module _ {D L : Type 0} (on : Ghosts D) (net : LinksGhosts L) (seed : ℕ) (release : GeneratedRelease)
    (updater : Updater) (disk : D) (links : L) (updater_new : Updater) (disk_new : D)
    (links_new : L) where
  installs_by : (deployment application : List ℕ) (installed : Installed)
      → ArePublished seed release deployment application → (net.links links).asked ≡ []
      → installed.asked ≡ length (net.links links_new).asked
      → ((room : Room) (image : List ℕ) (store : Store)
      → Shows room (tables_of updater_new) image store → Valid store
      → installed.blocks ≡ used_blocks (map bare_view store.views))
      → on.left_at disk_new (on.moment disk_new) (on.seen disk_new)
      → (old : Session) → Sound old.store
      → Answered on net 0 (deployment ∷ application ∷ []) (Install (url_of release)) disk links old
      (installed_reply release) updater_new disk_new links_new
      → ReachesHeld on (Installs seed release installed old) updater_new disk_new
  unfolding reached
  installs_by deployment application installed published unasked asked blocks seen old sound it =
      let texts = deployment ∷ application ∷ [] in
      let there = reached on net (Install (url_of release)) updater disk links updater_new disk_new
      links_new old texts (installed_reply release) it (is_url release) sound in
      let hearing = it.served.0.hearing in
      record {
        session = it.new;
        is = record {
          deployment = deployment;
          application = application;
          published = published;
          step = there.is;
          targets = hearing.asked;
          asks = it.served.0.accounts;
          asked = asked ∙ ap length hearing.grown
              ∙ ap (λ (before : List Target). length (before ++ hearing.asked)) unasked;
          blocks = blocks it.new.store.room (on.seen disk_new) it.new.store
              (it.stored.shows (on.seen disk_new) seen) it.stored.valid;
        };
        holds = it.stored;
        sound = there.sound;
      }

  -- an install was answered so, and heard what was published
  pub installs : (site : Site) (said : Heard × Reply) (installed : Installed)
      → IsSite seed release site → (net.links links).asked ≡ []
      → CommandReplies on net (Install (url_of release)) updater disk links (Ok said) updater_new disk_new
      links_new
      → IsAsPublished said release site
      → installed.asked ≡ length (net.links links_new).asked
      → ((room : Room) (image : List ℕ) (store : Store)
      → Shows room (tables_of updater_new) image store → Valid store
      → installed.blocks ≡ used_blocks (map bare_view store.views))
      → on.left_at disk_new (on.moment disk_new) (on.seen disk_new)
      → Goes on (Installs seed release) updater disk (Ok installed) updater_new disk_new
  installs site said installed is unasked replies heard asked blocks seen = record {
    leads = λ tells old holds sound.
        let texts = site.deployment ∷ site.application ∷ [] in
        let done : Answered on net 0 said.0.texts (Install (url_of release)) disk links old said.1
        updater_new disk_new links_new = replies.line tells old holds sound in
        let told : Answered on net 0 texts (Install (url_of release)) disk links old said.1
        updater_new disk_new links_new = subst (λ (ts : List (List ℕ)).
        Answered on net 0 ts (Install (url_of release)) disk links old said.1 updater_new
        disk_new links_new) heard.texts done in
        let wanted : said.1 ≡ installed_reply release = heard.reply
        ∙ ap (λ (k : Key). says.Installed k (version_of release) (number_of release)) is.key in
        installs_by site.deployment site.application installed is.texts unasked asked blocks seen old
        sound (subst (λ (r : Reply). Answered on net 0 texts (Install (url_of release)) disk links old r
        updater_new disk_new links_new) wanted told);
    touches = with_answer on installed replies.touches;
  }
