-- at N: the session's moment is N from the next line on.
use Rattle.std.specs.Prelude.{◌≡◌, ℕ, List, []}
use Rattle.machine.specs.declared.reply.Reply.{Reply}
use Rattle.machine.specs.declared.reply.Reply.TheVariants as says
use Rattle.machine.specs.Rows.{Refusal}
use Rattle.machine.specs.Store.{Session}

-- it is never refused
abbrev pub at_refusals : List (Refusal Reply Session)
at_refusals = []

-- the reply shows the moment, and nothing of the store changes
abbrev pub at_effect : ℕ → Session → Reply → Session → Type 0
at_effect next old reply new = (reply ≡ says.At next) × (new ≡ old)
