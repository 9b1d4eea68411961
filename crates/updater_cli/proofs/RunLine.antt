-- What running a line does.
use Rattle.std.proofs.Common.{◌≡◌, ◌∙◌, ◌≤◌, ◌++◌, ℕ, List, [], Some, Result, Ok, Err, refl, sym, ap, subst, arith}
use Rattle.outside.specs.declared.failed.Failed.{Failed}
use Rattle.disks.specs.declared.disk.Disk.{Ghosts}
use Rattle.links.specs.declared.links.Links.{Ghosts as LinksGhosts}
use Rattle.fetcher.proofs.Sequence.{kept_same}
use Rattle.small_types.specs.declared.limits.TheConstants.{NUMBER_LIMIT}
use Rattle.machine.specs.declared.command.Command.{Command}
use Rattle.machine.specs.declared.command.Command.TheVariants.{Group, Install}
use Rattle.machine.specs.declared.command.LineFault.{LineFault}
use Rattle.machine.specs.declared.event.Event.TheVariants.{Line, Unread}
use Rattle.machine.specs.declared.event.Heard.{Heard}
use Rattle.machine.specs.declared.reply.Reply.{Reply}
use Rattle.machine.specs.declared.reply.Reply.TheVariants as says
use Rattle.machine.specs.Machine.{Step}
use Rattle.machine.specs.Words.{IsCommand}
use Rattle.machine.specs.Sound.{Sound}
use Rattle.machine.specs.Store.{Store}
use Rattle.command_text.specs.Lines.{Gives, command_of}
use Rattle.command_text.proofs.InputLemmas.{command_event, unread_event}
use Rattle.store_state.specs.Tables.{table_shape}
use Rattle.install_plan.proofs.Downs.{counts_none}
use Rattle.updater.specs.Shown.{Updater}
use Rattle.updater.specs.Commanded.{Answered, Commanded, CommandedBehind, Faulted, SoundFor}
use Rattle.updater.specs.Updater.{room_of, tables_of}
use Rattle.updater.proofs.HeldStore.{still_stands}
use Rattle.updater_cli.specs.Lines.{LineRun}
use Rattle.updater_cli.proofs.DeviceCalls.{asks_none, asks_call}
use Rattle.updater_cli.proofs.Runs.{step_settled}

-- a sound store is one for each command
sound_for : (command : Command) (store : Store) → Sound store → SoundFor command store
sound_for (Install url) store sound = sound
sound_for (Group lease group) store sound = sound
sound_for _ store sound = tt

module _ {D L : Type 0} (on : Ghosts D) (net : LinksGhosts L) (now : ℕ) (few : now ≤ NUMBER_LIMIT) (line : List ℕ) (updater : Updater) (disk : D) (links : L) where
  -- the line is no command
  pub unread : (fault : LineFault) → Gives (Err fault) (command_of line) → LineRun on net now line updater disk links (Ok (Unread fault, says.Line fault)) updater disk links
  unread fault gives = record {
    event = unread_event line fault gives;
    at = tt;
    begun = tt;
    few = few;
    ran = λ told old settled holds. record {
      new = old;
      step = (refl, refl);
      stored = holds;
      stop = still_stands on updater disk old old.store holds;
      bytes = 0;
      counted = record { later = omega arith; same = λ _ _. (refl, refl); marked = λ differs. absurd (differs refl); costs = refl };
      written = omega arith;
      settled = settled;
      served = record { kept = kept_same (net.links links); left = refl; serves = tt };
    };
    fault = λ told old settled holds. tt;
    asks = asks_none on _ disk (λ is. cc (is));
    kept = kept_same (net.links links);
    downs = counts_none refl;
    lacks = λ e. tt;
  }

  module _ (command : Command) (before : List (List ℕ)) (heard : Heard) (none : before ≡ []) (gives : Gives (Ok command) (command_of line)) (is : IsCommand command) (updater_new : Updater) (disk_new : D) (links_new : L) where
    -- it heard nothing before
    alone : (result : Result Reply Failed) → CommandedBehind on net now before heard.texts command updater disk links result updater_new disk_new links_new
        → Commanded on net now heard.texts command updater disk links result updater_new disk_new links_new
    alone result behind =
        subst (λ (texts : List (List ℕ)). Commanded on net now texts command updater disk links result updater_new disk_new links_new)
        (sym (behind.behind ∙ ap (λ (l : List (List ℕ)). l ++ behind.texts) none)) behind.commanded

    done : (reply : Reply) → Commanded on net now heard.texts command updater disk links (Ok reply) updater_new disk_new links_new
        → LineRun on net now line updater disk links (Ok (Line command now heard, reply)) updater_new disk_new links_new
    done reply commanded = record {
      event = command_event now heard line command gives;
      at = (refl, few, is, (table_shape (room_of updater) (tables_of updater), commanded.hears));
      begun = tt;
      few = commanded.few;
      ran = λ told old settled holds.
          let made : Answered on net now heard.texts command disk links old reply updater_new disk_new links_new = commanded.answered told old holds (sound_for command old.store settled.sound.store) in
          let step : Step now old (Line command now heard) (Some reply) made.new = record { moment = refl; hears = made.hears; answer = reply; replied = refl; answers = made.step } in
          record {
            new = made.new;
            step = step;
            stored = made.stored;
            stop = made.stop;
            bytes = made.bytes;
            counted = record { later = made.stop.later; same = λ none same. ((made.quiet none same).untouched.no_tick, made.spares none same); marked = made.marked; costs = made.costs };
            written = made.written;
            settled = step_settled now old (Line command now heard) (Some reply) made.new (is, few) step settled;
            served = record { kept = commanded.kept.kept; left = commanded.left; serves = made.served };
          };
      fault = λ told old settled holds. tt;
      asks = asks_call on disk disk_new _ commanded.told commanded.later commanded.cause;
      kept = commanded.kept.kept;
      downs = commanded.downs;
      lacks = λ e. commanded.lacks (ap Ok e);
    }

    -- the command was answered
    pub answered : (reply : Reply) → CommandedBehind on net now before heard.texts command updater disk links (Ok reply) updater_new disk_new links_new
        → LineRun on net now line updater disk links (Ok (Line command now heard, reply)) updater_new disk_new links_new
    answered reply behind = done reply (alone (Ok reply) behind)

    broken : (e : Failed) → Commanded on net now heard.texts command updater disk links (Err e) updater_new disk_new links_new
        → LineRun on net now line updater disk links (Err (Line command now heard)) updater_new disk_new links_new
    broken e commanded = record {
      event = command_event now heard line command gives;
      at = (refl, few, is, (table_shape (room_of updater) (tables_of updater), commanded.hears));
      begun = tt;
      few = tt;
      ran = λ told old settled holds. tt;
      fault = λ told old settled holds.
          let broke : Faulted on net now heard.texts command disk links old disk_new links_new = commanded.fault told old holds (sound_for command old.store settled.sound.store) in
          record {
            new = broke.new;
            reply = broke.reply;
            step = record { moment = refl; hears = broke.hears; answer = broke.reply; replied = refl; answers = broke.step };
            stop = broke.stop;
            bytes = broke.bytes;
            costs = broke.costs;
            written = broke.written;
            served = record { kept = commanded.kept.kept; left = commanded.left; serves = broke.served };
          };
      asks = asks_call on disk disk_new _ commanded.told commanded.later commanded.cause;
      kept = commanded.kept.kept;
      downs = tt;
      lacks = tt;
    }

    -- the disk failed in it
    pub faulted : (e : Failed) → CommandedBehind on net now before heard.texts command updater disk links (Err e) updater_new disk_new links_new
        → LineRun on net now line updater disk links (Err (Line command now heard)) updater_new disk_new links_new
    faulted e behind = broken e (alone (Err e) behind)
