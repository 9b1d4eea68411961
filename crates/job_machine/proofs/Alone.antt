-- What a line of the machine does beside open jobs it does where there are none.
use Rattle.std.proofs.Common.{◌≡◌, inl, inr, ap, true, ℕ, List}
use Rattle.machine.specs.declared.command.Command.{Command}
use Rattle.machine.specs.declared.command.Command.TheVariants.{At, Require, Install, Check, Skip, Rollback, Launch, Read, Local, Put, Remove, Group, Finish, Clean, Show}
use Rattle.machine.specs.declared.command.Command.TheVariants as asks
use Rattle.machine.specs.declared.reply.Reply.{Reply}
use Rattle.machine.specs.GroupRow.{Comes}
use Rattle.machine.specs.Machine.{effect}
use Rattle.machine.specs.Store.{Job, Session, Store, session_over}
use Rattle.machine.specs.Views.{View}
use Rattle.job_machine.specs.PlainRuns.{is_ok}
use Rattle.job_machine.specs.GroupBeside.{ComesBeside}
use Rattle.job_machine.specs.Sessions.{effect_beside}

-- a session with its jobs left out
abbrev pub alone : Session → Session
alone session = session_over session.store

-- a group comes as it does without jobs
pub comes_alone : (jobs : List Job) (group : List ℕ) (view : View) (old new : Store)
    → ComesBeside jobs group view old new → Comes group view old new
comes_alone jobs group view old new (inl stands) = inl stands
comes_alone jobs group view old new (inr comes) = inr (comes.0, comes.1)

module _ (now : ℕ) (heard : List (List ℕ)) (old : Session) (reply : Reply) (new : Session) where
  -- its effect
  pub effect_alone : (command : Command) → effect_beside now heard command old reply new
      → effect now heard command (alone old) reply (alone new)
  effect_alone (At next) done = (done.0, ap alone done.1)
  effect_alone (Require key version) done = (done.0, ap alone done.1)
  effect_alone (Install url) done = record {
    target = done.effect.target;
    read = done.effect.read;
    deployment = done.effect.deployment;
    application = done.effect.application;
    told = done.effect.told;
    base = done.effect.base;
    joined = done.effect.joined;
    files = done.effect.files;
    originals = done.effect.originals;
    fetched = done.effect.fetched;
    store = done.effect.store;
    installed = done.effect.installed;
    is = ap alone done.effect.is;
    replied = done.effect.replied;
  }
  effect_alone (Check key) done = record {
    deployment = done.deployment;
    told = done.told;
    have = done.have;
    current = done.current;
    replied = done.replied;
    is = ap alone done.is;
  }
  effect_alone (Skip key) done = record {
    offer = done.offer;
    offered = done.offered;
    replied = done.replied;
    is = ap alone done.is;
  }
  effect_alone (Rollback key) done = record {
    have = done.have;
    current = done.current;
    version = done.version;
    previous = done.previous;
    replied = done.replied;
    is = ap alone done.is;
  }
  effect_alone (Launch key) done = record {
    view = done.view;
    current = done.current;
    check_due = done.check_due;
    clear = done.clear;
    replied = done.replied;
    is = ap alone done.is;
  }
  effect_alone (Read lease name from count) done = record {
    view = done.view;
    leased = done.leased;
    file = done.file;
    found = done.found;
    replied = done.replied;
    is = ap alone done.is;
  }
  effect_alone (Local lease name from count) done = record {
    view = done.view;
    leased = done.leased;
    file = done.file;
    found = done.found;
    replied = done.replied;
    is = ap alone done.is;
  }
  effect_alone (Put lease name bytes) done = record {
    view = done.view;
    leased = done.leased;
    replied = done.replied;
    is = ap alone done.is;
  }
  effect_alone (Remove lease name) done = record {
    view = done.view;
    leased = done.leased;
    replied = done.replied;
    is = ap alone done.is;
  }
  effect_alone (Group lease group) done = record {
    view = done.view;
    leased = done.leased;
    replied = done.replied;
    store = done.store;
    comes = comes_alone old.jobs group done.view old.store done.store done.comes;
    is = ap alone done.is;
  }
  effect_alone (Finish lease) done = (done.0, ap alone done.1)
  effect_alone Clean done = (done.0, ap alone done.1)
  effect_alone asks.List done = (done.0, ap alone done.1)
  effect_alone (Show key) done = record {
    app = done.app;
    known = done.known;
    replied = done.replied;
    is = ap alone done.is;
  }

  -- its reply is that of a line that is not refused
  pub effect_ok : (command : Command) → effect_beside now heard command old reply new
      → is_ok reply ≡ true
  effect_ok (At next) done = ap is_ok done.0
  effect_ok (Require key version) done = ap is_ok done.0
  effect_ok (Install url) done = ap is_ok done.effect.replied
  effect_ok (Check key) done = ap is_ok done.replied
  effect_ok (Skip key) done = ap is_ok done.replied
  effect_ok (Rollback key) done = ap is_ok done.replied
  effect_ok (Launch key) done = ap is_ok done.replied
  effect_ok (Read lease name from count) done = ap is_ok done.replied
  effect_ok (Local lease name from count) done = ap is_ok done.replied
  effect_ok (Put lease name bytes) done = ap is_ok done.replied
  effect_ok (Remove lease name) done = ap is_ok done.replied
  effect_ok (Group lease group) done = ap is_ok done.replied
  effect_ok (Finish lease) done = ap is_ok done.0
  effect_ok Clean done = ap is_ok done.0
  effect_ok asks.List done = ap is_ok done.0
  effect_ok (Show key) done = ap is_ok done.replied
