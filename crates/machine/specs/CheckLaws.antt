-- What is true of checks, and of offers that are skipped.
use Rattle.std.specs.Prelude.{◌≡◌, ◌≢◌, ◌⊎◌, ℕ, List, Option, Some}
use Rattle.identity.specs.declared.key.Key.{Key}
use Rattle.identity.specs.declared.version.Version.{Version}
use Rattle.machine.specs.declared.command.Command.TheVariants.{Check, Skip}
use Rattle.machine.specs.declared.due.Due.TheVariants.{CheckFirst, Offered}
use Rattle.machine.specs.declared.reply.Reply.{Reply}
use Rattle.machine.specs.declared.reply.Reply.TheVariants as says
use Rattle.machine.specs.CheckRow.{CheckEffect}
use Rattle.machine.specs.Due.{due}
use Rattle.machine.specs.Laws.{IsAllLinks}
use Rattle.machine.specs.Machine.{Answers}
use Rattle.machine.specs.Minimums.{minimum_of}
use Rattle.machine.specs.Shape.{shape_of}
use Rattle.machine.specs.SkipRow.{offer_of}
use Rattle.machine.specs.Store.{Session, Store}

-- ---- checks

-- a check shows the offer and the minimum that then hold
pub record ShowsHeld (key : Key) (offer minimum : Option Version) (store : Store) : Type 0 where
  pub offered : offer_of key store.apps ≡ offer
  pub required : minimum_of key store.apps ≡ minimum

abbrev pub ChecksShowWhatHolds : Type 0
ChecksShowWhatHolds = (now : ℕ) (heard : List (List ℕ)) (old : Session) (key : Key)
    (offer minimum : Option Version) (new : Session)
    → Answers now heard old (Check key) (says.Checked offer minimum) new
    → ShowsHeld key offer minimum new.store

-- two checks from one store that heard the same have one reply, and leave one store
abbrev pub ChecksHaveOneEffect : Type 0
ChecksHaveOneEffect = (key : Key) (heard : List (List ℕ)) (now : ℕ) (old : Session) (a b : Reply)
    (x y : Session) → CheckEffect key heard now old a x → CheckEffect key heard now old b y
    → (a ≡ b) × (x ≡ y)

-- it heard its provider, or no link answered
abbrev pub IsMade : Reply → Type 0
IsMade reply =
    ((offer : Option Version) × (minimum : Option Version) × (reply ≡ says.Checked offer minimum))
    ⊎ IsAllLinks reply

-- after one that was made, no check stands before the next start
abbrev pub MadeChecksCount : Type 0
MadeChecksCount = (now : ℕ) (heard : List (List ℕ)) (old : Session) (key : Key) (reply : Reply)
    (new : Session) (at : ℕ) → Answers now heard old (Check key) reply new → IsMade reply
    → due key (shape_of new) at ≢ Some CheckFirst

-- ---- offers

-- no offer stands before a start, once it was skipped
abbrev pub SkippedOffersAreNotDue : Type 0
SkippedOffersAreNotDue = (now : ℕ) (heard : List (List ℕ)) (old : Session) (key : Key)
    (version : Version) (new : Session) (at : ℕ) (other : Version)
    → Answers now heard old (Skip key) (says.Skipped version) new
    → due key (shape_of new) at ≢ Some (Offered other)
