-- Minimums never fall.
use Rattle.std.proofs.Common.{◌≡◌, ◌∙◌, ◌⊎◌, inl, inr, refl, ap, ℕ, List, [], ◌∷◌, Option, Some, None, arith}
use Rattle.identity.specs.declared.key.Key.{Key}
use Rattle.identity.specs.declared.version.Version.{Version}
use Rattle.identity.specs.Version.{IsBelow}
use Rattle.machine.specs.declared.event.Event.{Event}
use Rattle.machine.specs.declared.event.Event.TheVariants.{Boot, Line, Unread}
use Rattle.machine.specs.declared.reply.Reply.{Reply}
use Rattle.machine.specs.Machine.{Run, Step, effect, moment_after, refusals}
use Rattle.machine.specs.Minimums.{minimum_of}
use Rattle.machine.specs.Rows.{PassesAll}
use Rattle.machine.specs.Shape.{shape_of}
use Rattle.machine.specs.Store.{Session}
use Rattle.machine.proofs.EachRow.{facts}
use Rattle.machine.proofs.RaisedMinimums.{Holds, holds_itself}
use Rattle.machine.proofs.Refusals.{kept_or_effect}
use Rattle.machine.proofs.RowFacts.{Kept}

step_holds : (key : Key) (minimum : Version) (now : ℕ) (old : Session) (event : Event)
    (reply : Option Reply) (new : Session) → Step now old event reply new
    → minimum_of key old.store.apps ≡ Some minimum → Holds minimum (minimum_of key new.store.apps)
step_holds key minimum now old (Boot boot) reply new step is =
    holds_itself minimum _ (ap (λ (s : Session). minimum_of key s.store.apps) step.1 ∙ is)
step_holds key minimum now old (Line command at heard) reply new step is =
    by (kept_or_effect now heard.texts old command step.answer new step.answers)
  where
    by : Kept command old step.answer new
        ⊎ (PassesAll (refusals now heard.texts (shape_of old) command)
        × effect now heard.texts command old step.answer new)
        → Holds minimum (minimum_of key new.store.apps)
    by (inl kept) = kept.minimums key minimum is
    by (inr done) = ((facts now heard.texts command).acts old step.answer new done.1).minimums key minimum is
step_holds key minimum now old (Unread fault) reply new step is =
    holds_itself minimum _ (ap (λ (s : Session). minimum_of key s.store.apps) step.1 ∙ is)

-- what is below a version is below each that is not below it
pub not_below_chain : (a b c : Version) → ¬ IsBelow b a → ¬ IsBelow c b → ¬ IsBelow c a
not_below_chain a b c first second below = grind arith

chained : (minimum mid : Version) (later : Option Version) → ¬ IsBelow mid minimum → Holds mid later
    → Holds minimum later
chained minimum mid None first second = second
chained minimum mid (Some v) first second = not_below_chain minimum mid v first second

pub run_holds : (now : ℕ) (old : Session) (events : List Event) (replies : List (Option Reply))
    (new : Session) (key : Key) (minimum : Version) → Run now old events replies new
    → minimum_of key old.store.apps ≡ Some minimum → Holds minimum (minimum_of key new.store.apps)
run_holds now old [] [] new key minimum run is =
    holds_itself minimum _ (ap (λ (s : Session). minimum_of key s.store.apps) run ∙ is)
run_holds now old [] (reply ∷ replies) new key minimum run is = absurd run
run_holds now old (event ∷ events) [] new key minimum run is = absurd run
run_holds now old (event ∷ events) (reply ∷ replies) new key minimum run is =
    on (minimum_of key run.0.store.apps) refl
    (step_holds key minimum now old event reply run.0 run.1 is)
    (λ mid e. run_holds (moment_after now reply) run.0 events replies new key mid run.2 e)
  where
    on : (m : Option Version) → minimum_of key run.0.store.apps ≡ m → Holds minimum m
        → ((mid : Version) → minimum_of key run.0.store.apps ≡ Some mid
        → Holds mid (minimum_of key new.store.apps)) → Holds minimum (minimum_of key new.store.apps)
    on None e held rest = absurd held
    on (Some mid) e held rest = chained minimum mid (minimum_of key new.store.apps) held (rest mid e)
