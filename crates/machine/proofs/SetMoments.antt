-- Which replies set the moment.
use Rattle.std.proofs.Common.{◌≡◌, ◌≢◌, ◌≤◌, ◌∙◌, ◌⊎◌, inl, inr, refl, ap, sym, subst, ℕ, List, Option, Some, None}
use Rattle.std.specs.Prelude.{IfSome, unwrap_or}
use Rattle.small_types.specs.declared.limits.TheConstants.{NUMBER_LIMIT}
use Rattle.machine.specs.declared.command.Command.{Command}
use Rattle.machine.specs.declared.command.Command.TheVariants.{At}
use Rattle.machine.specs.declared.event.Event.{Event}
use Rattle.machine.specs.declared.event.Event.TheVariants.{Boot, Line, Unread}
use Rattle.machine.specs.declared.event.Heard.{Heard}
use Rattle.machine.specs.declared.reply.Reply.{Reply}
use Rattle.machine.specs.declared.reply.Reply.TheVariants as says
use Rattle.machine.specs.Laws.{IsAt}
use Rattle.machine.specs.Machine.{Answers, Step, moment_after, moment_set, refusals}
use Rattle.machine.specs.Shape.{shape_of}
use Rattle.machine.specs.Store.{Session}
use Rattle.machine.specs.Words.{IsCommand, IsEvent}
use Rattle.machine.proofs.FirstRefusal.{given_reply}
use Rattle.machine.proofs.EachRow.{facts}
use Rattle.machine.proofs.Moments.{SetsNone}
use Rattle.machine.proofs.RowFacts.{moment_by}

pub at_sets : (now : ℕ) (heard : List (List ℕ)) (old : Session) (next : ℕ) (reply : Reply)
    (new : Session) → Answers now heard old (At next) reply new → reply ≢ says.Memory
    → moment_after now (Some reply) ≡ next
at_sets now heard old next reply new (inl (inl memory)) other = absurd (other memory.0)
at_sets now heard old next reply new (inl (inr refused)) other = absurd refused.1
at_sets now heard old next reply new (inr done) other =
    ap (λ (r : Reply). moment_after now (Some r)) done.1.0

-- a reply sets no moment, or that of its command
set_by : (now : ℕ) (heard : List (List ℕ)) (old : Session) (command : Command) (reply : Reply)
    (new : Session)
    → Answers now heard old command reply new
    → (moment_set (Some reply) ≡ None) ⊎ (moment_set (Some reply) ≡ moment_by command)
set_by now heard old command reply new (inl (inl memory)) =
    inl (ap (λ (r : Reply). moment_set (Some r)) memory.0)
set_by now heard old command reply new (inl (inr refused)) =
    inl (given_reply SetsNone (refusals now heard (shape_of old) command) old reply new
    ((facts now heard command).set_none (shape_of old)) refused.1)
set_by now heard old command reply new (inr done) =
    inr ((facts now heard command).acts old reply new done.1).sets

-- ---- answers other than that of `at`

none_by : (command : Command) (at : ℕ) (heard : Heard) → ¬ IsAt (Line command at heard)
    → moment_by command ≡ None
none_by (At next) at heard other = absurd (other tt)
none_by command at heard other = refl

left_by : (now : ℕ) (command : Command) (set : Option ℕ) → moment_by command ≡ None
    → (set ≡ None) ⊎ (set ≡ moment_by command) → unwrap_or set now ≡ now
left_by now command set none (inl is) = ap (λ (m : Option ℕ). unwrap_or m now) is
left_by now command set none (inr is) = ap (λ (m : Option ℕ). unwrap_or m now) (is ∙ none)

pub others_leave : (now : ℕ) (old : Session) (event : Event) (reply : Option Reply) (new : Session)
    → Step now old event reply new → ¬ IsAt event → moment_after now reply ≡ now
others_leave now old (Boot boot) reply new step other = ap (moment_after now) step.0
others_leave now old (Line command at heard) reply new step other =
    ap (moment_after now) step.replied
    ∙ left_by now command (moment_set (Some step.answer)) (none_by command at heard other)
    (set_by now heard.texts old command step.answer new step.answers)
others_leave now old (Unread fault) reply new step other = ap (moment_after now) step.0

-- ---- within the limit

few_by : (command : Command) → IsCommand command
    → IfSome (moment_by command) (λ (moment : ℕ). moment ≤ NUMBER_LIMIT)
few_by (At next) is = is
few_by command is = tt

few_set : (now : ℕ) (set : Option ℕ) → now ≤ NUMBER_LIMIT
    → IfSome set (λ (moment : ℕ). moment ≤ NUMBER_LIMIT) → unwrap_or set now ≤ NUMBER_LIMIT
few_set now None few is = few
few_set now (Some moment) few is = is

few_moment : (now : ℕ) (command : Command) (set : Option ℕ) → IsCommand command → now ≤ NUMBER_LIMIT
    → (set ≡ None) ⊎ (set ≡ moment_by command) → unwrap_or set now ≤ NUMBER_LIMIT
few_moment now command set is few (inl none) =
    subst (λ (m : Option ℕ). unwrap_or m now ≤ NUMBER_LIMIT) (sym none) few
few_moment now command set is few (inr by) =
    subst (λ (m : Option ℕ). unwrap_or m now ≤ NUMBER_LIMIT) (sym by)
    (few_set now (moment_by command) few (few_by command is))

pub moment_few : (now : ℕ) (old : Session) (event : Event) (reply : Option Reply) (new : Session)
    → IsEvent event → Step now old event reply new → now ≤ NUMBER_LIMIT
    → moment_after now reply ≤ NUMBER_LIMIT
moment_few now old (Boot boot) reply new is step few =
    subst (λ (r : Option Reply). moment_after now r ≤ NUMBER_LIMIT) (sym step.0) few
moment_few now old (Line command at heard) reply new is step few =
    subst (λ (r : Option Reply). moment_after now r ≤ NUMBER_LIMIT) (sym step.replied)
    (few_moment now command (moment_set (Some step.answer)) is.0 few
    (set_by now heard.texts old command step.answer new step.answers))
moment_few now old (Unread fault) reply new is step few =
    subst (λ (r : Option Reply). moment_after now r ≤ NUMBER_LIMIT) (sym step.0) few
