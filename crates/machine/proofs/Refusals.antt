-- What an answer is: a refusal, which keeps the store, or the effect of the row.
use Rattle.std.proofs.Common.{◌≡◌, inl, inr, refl, ◌⊎◌, ℕ, List}
use Rattle.machine.specs.declared.command.Command.{Command}
use Rattle.machine.specs.declared.reply.Reply.{Reply}
use Rattle.machine.specs.declared.reply.Reply.TheVariants as says
use Rattle.machine.specs.Machine.{Answers, effect, refusals}
use Rattle.machine.specs.Rows.{PassesAll}
use Rattle.machine.specs.Shape.{shape_of}
use Rattle.machine.specs.Store.{Session}
use Rattle.machine.proofs.EachRow.{facts}
use Rattle.machine.proofs.RowFacts.{Kept, kept_same}

-- an answer keeps the store, or it is the effect of the row
pub kept_or_effect : (now : ℕ) (heard : List (List ℕ)) (old : Session) (command : Command)
    (reply : Reply) (new : Session) → Answers now heard old command reply new
    → Kept command old reply new
    ⊎ (PassesAll (refusals now heard (shape_of old) command)
    × effect now heard command old reply new)
kept_or_effect now heard old command reply new (inl (inl memory)) =
    inl (kept_same command old reply new memory.1)
kept_or_effect now heard old command reply new (inl (inr refused)) =
    inl ((facts now heard command).refused old reply new refused.1)
kept_or_effect now heard old command reply new (inr done) = inr (done.0.1, done.1)

pub memory_unchanged : (now : ℕ) (heard : List (List ℕ)) (old : Session) (command : Command)
    (new : Session) → Answers now heard old command says.Memory new → new ≡ old
memory_unchanged now heard old command new answers =
    only (kept_or_effect now heard old command says.Memory new answers)
  where
    only : Kept command old says.Memory new
        ⊎ (PassesAll (refusals now heard (shape_of old) command)
        × effect now heard command old says.Memory new) → new ≡ old
    only (inl kept) = kept.memory refl
    only (inr done) = absurd (((facts now heard command).acts old says.Memory new done.1).other refl)
