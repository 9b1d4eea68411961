-- Each command has an answer other than want of memory.
use Rattle.std.proofs.Common.{◌≡◌, ◌≢◌, refl, ℕ, List, Option, Some, None}
use Rattle.machine.specs.declared.command.Command.{Command}
use Rattle.machine.specs.declared.command.LineFault.{LineFault}
use Rattle.machine.specs.declared.event.Event.{Event}
use Rattle.machine.specs.declared.event.Event.TheVariants.{Boot, Line, Unread}
use Rattle.machine.specs.declared.reply.Reply.{Reply}
use Rattle.machine.specs.declared.reply.Reply.TheVariants as says
use Rattle.machine.specs.Laws.{HasStep, IsAnswered, IsAnswerable, MayBeAnswered, MayCome}
use Rattle.machine.specs.Store.{Session, booted}
use Rattle.machine.specs.Valid.{Valid}
use Rattle.machine.proofs.EachRow.{facts}

pub answered : (now : ℕ) (heard : List (List ℕ)) (old : Session) (command : Command)
    → Valid old.store → IsAnswerable command heard old.store → IsAnswered now heard old command
answered now heard old command valid none = (facts now heard command).answered old valid none

some_other : (reply : Reply) → reply ≢ says.Memory → Some reply ≢ Some says.Memory
some_other reply other e = other (inside reply e)
  where
    inside : (r : Reply) → Some r ≡ Some says.Memory → r ≡ says.Memory
    inside r e = cc

none_other : ◌≢◌ {A = Option Reply} None (Some says.Memory)
none_other e = cc

line_other : (fault : LineFault) → says.Line fault ≢ says.Memory
line_other fault e = cc

pub stepped : (now : ℕ) (old : Session) (event : Event) → Valid old.store → MayCome now old event
    → MayBeAnswered event old.store → HasStep now old event
stepped now old (Boot boot) valid may none = record {
  reply = None;
  new = record old { store = booted boot old.store };
  step = (refl, refl);
  other = none_other;
}
stepped now old (Line command at heard) valid may none =
    let a = answered now heard.texts old command valid none in
    record {
      reply = Some a.reply;
      new = a.new;
      step = record {
        moment = may.0;
        hears = may.1;
        answer = a.reply;
        replied = refl;
        answers = a.answers;
      };
      other = some_other a.reply a.other;
    }
stepped now old (Unread fault) valid may none = record {
  reply = Some (says.Line fault);
  new = old;
  step = (refl, refl);
  other = some_other (says.Line fault) (line_other fault);
}
