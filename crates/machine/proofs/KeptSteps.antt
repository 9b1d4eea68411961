-- Steps keep what holds of a store.
use Rattle.std.proofs.Common.{◌≡◌, ◌∙◌, ◌⊎◌, ◌≤◌, inl, inr, refl, sym, ap, subst, ℕ, suc, List, [], ◌∷◌, All, Option, arith}
use Rattle.small_types.specs.declared.limits.TheConstants.{NUMBER_LIMIT}
use Rattle.machine.specs.declared.command.Command.{Command}
use Rattle.machine.specs.declared.event.Event.{Event}
use Rattle.machine.specs.declared.event.Event.TheVariants.{Boot, Line, Unread}
use Rattle.machine.specs.declared.reply.Reply.{Reply}
use Rattle.machine.specs.Laws.{boot_after}
use Rattle.machine.specs.Machine.{Run, Step, effect, moment_after, refusals}
use Rattle.machine.specs.Rows.{PassesAll}
use Rattle.machine.specs.Shape.{shape_of}
use Rattle.machine.specs.Sound.{Sound}
use Rattle.machine.specs.Store.{Session, booted}
use Rattle.machine.specs.Valid.{Valid}
use Rattle.machine.specs.Words.{IsEvent}
use Rattle.machine.proofs.EachRow.{facts}
use Rattle.machine.proofs.KeptStores.{booted_valid, same_views_sound}
use Rattle.machine.proofs.LeasesKept.{KeepsLeases, booted_keeps, keeps_chain, keeps_itself}
use Rattle.machine.proofs.Refusals.{kept_or_effect}
use Rattle.machine.proofs.RowFacts.{Acts, Kept}
pub use Rattle.machine.proofs.InstallFacts.{store_left}

line_moment : (now at : ℕ) → at ≡ now → at ≤ NUMBER_LIMIT → now ≤ NUMBER_LIMIT
line_moment now at same few = subst (λ (n : ℕ). n ≤ NUMBER_LIMIT) same few

pub step_valid : (now : ℕ) (old : Session) (event : Event) (reply : Option Reply) (new : Session)
    → IsEvent event → Step now old event reply new → Valid old.store → Valid new.store
step_valid now old (Boot boot) reply new is step valid =
    subst (λ (s : Session). Valid s.store) (sym step.1) (booted_valid boot old.store is valid)
step_valid now old (Line command at heard) reply new is step valid =
    by (kept_or_effect now heard.texts old command step.answer new step.answers)
  where
    by : Kept command old step.answer new
        ⊎ (PassesAll (refusals now heard.texts (shape_of old) command)
        × effect now heard.texts command old step.answer new) → Valid new.store
    by (inl kept) = kept.valid is.0 valid
    by (inr done) =
        (facts now heard.texts command).valid old step.answer new is.0
        (line_moment now at step.moment is.1) done.0 done.1 valid
step_valid now old (Unread fault) reply new is step valid = subst (λ (s : Session). Valid s.store) (sym step.1) valid

-- what the effects leave is what each step leaves
module _ {X : Type 0} (part : Session → X) (boots : (boot : ℕ) (old : Session)
    → part (record old { store = booted boot old.store }) ≡ part old)
    (refused : (command : Command) (old : Session) (reply : Reply) (new : Session)
    → Kept command old reply new → part new ≡ part old)
    (effects : (command : Command) (old : Session) (reply : Reply) (new : Session)
    → Acts command old reply new → part new ≡ part old) where
  pub step_leaves : (now : ℕ) (old : Session) (event : Event) (reply : Option Reply) (new : Session)
      → Step now old event reply new → part new ≡ part old
  step_leaves now old (Boot boot) reply new step = ap part step.1 ∙ boots boot old
  step_leaves now old (Line command at heard) reply new step =
      by (kept_or_effect now heard.texts old command step.answer new step.answers)
    where
      by : Kept command old step.answer new
          ⊎ (PassesAll (refusals now heard.texts (shape_of old) command)
          × effect now heard.texts command old step.answer new) → part new ≡ part old
      by (inl kept) = refused command old step.answer new kept
      by (inr done) =
          effects command old step.answer new
          ((facts now heard.texts command).acts old step.answer new done.1)
  step_leaves now old (Unread fault) reply new step = ap part step.1

pub step_room : (now : ℕ) (old : Session) (event : Event) (reply : Option Reply) (new : Session)
    → Step now old event reply new → new.store.room ≡ old.store.room
step_room = step_leaves (λ (s : Session). s.store.room) (λ boot old. refl)
    (λ command old reply new kept. kept.room) (λ command old reply new acts. acts.room)

pub step_boot : (now : ℕ) (old : Session) (event : Event) (reply : Option Reply) (new : Session)
    → Step now old event reply new → new.store.boot ≡ boot_after old.store.boot event
step_boot now old (Boot boot) reply new step = ap (λ (s : Session). s.store.boot) step.1
step_boot now old (Line command at heard) reply new step =
    by (kept_or_effect now heard.texts old command step.answer new step.answers)
  where
    by : Kept command old step.answer new
        ⊎ (PassesAll (refusals now heard.texts (shape_of old) command)
        × effect now heard.texts command old step.answer new) → new.store.boot ≡ old.store.boot
    by (inl kept) = kept.boot
    by (inr done) = ((facts now heard.texts command).acts old step.answer new done.1).boot
step_boot now old (Unread fault) reply new step = ap (λ (s : Session). s.store.boot) step.1

pub step_sound : (now : ℕ) (old : Session) (event : Event) (reply : Option Reply) (new : Session)
    → IsEvent event → Step now old event reply new → Sound old.store → Sound new.store
step_sound now old (Boot boot) reply new is step sound =
    same_views_sound old.store new.store (ap (λ (s : Session). s.store.views) step.1)
    (step_valid now old (Boot boot) reply new is step sound.valid) sound
step_sound now old (Line command at heard) reply new is step sound =
    by (kept_or_effect now heard.texts old command step.answer new step.answers)
  where
    by : Kept command old step.answer new
        ⊎ (PassesAll (refusals now heard.texts (shape_of old) command)
        × effect now heard.texts command old step.answer new) → Sound new.store
    by (inl kept) =
        same_views_sound old.store new.store kept.views (kept.valid is.0 sound.valid) sound
    by (inr done) =
        (facts now heard.texts command).sound old step.answer new is.0
        (line_moment now at step.moment is.1) done.0 done.1 sound
step_sound now old (Unread fault) reply new is step sound = subst (λ (s : Session). Sound s.store) (sym step.1) sound

pub run_sound : (now : ℕ) (old : Session) (events : List Event) (replies : List (Option Reply))
    (new : Session) → All IsEvent events → Run now old events replies new → Sound old.store
    → Sound new.store
run_sound now old [] [] new each run sound = subst (λ (s : Session). Sound s.store) (sym run) sound
run_sound now old [] (reply ∷ replies) new each run sound = absurd run
run_sound now old (event ∷ events) [] new each run sound = absurd run
run_sound now old (event ∷ events) (reply ∷ replies) new each run sound =
    run_sound (moment_after now reply) run.0 events replies new (λ k d lt. each (suc k) d (omega arith)) run.2
    (step_sound now old event reply run.0 (each 0 event (omega arith)) run.1 sound)

-- ---- leases

step_leases : (now : ℕ) (old : Session) (event : Event) (reply : Option Reply) (new : Session)
    → Step now old event reply new → KeepsLeases old.store new.store
step_leases now old (Boot boot) reply new step =
    subst (λ (s : Session). KeepsLeases old.store s.store) (sym step.1) (booted_keeps boot old.store)
step_leases now old (Line command at heard) reply new step =
    by (kept_or_effect now heard.texts old command step.answer new step.answers)
  where
    by : Kept command old step.answer new
        ⊎ (PassesAll (refusals now heard.texts (shape_of old) command)
        × effect now heard.texts command old step.answer new) → KeepsLeases old.store new.store
    by (inl kept) = kept.leases
    by (inr done) = ((facts now heard.texts command).acts old step.answer new done.1).leases
step_leases now old (Unread fault) reply new step =
    subst (λ (s : Session). KeepsLeases old.store s.store) (sym step.1) (keeps_itself old.store)

pub run_leases : (now : ℕ) (old : Session) (events : List Event) (replies : List (Option Reply)) (new : Session)
    → Run now old events replies new → KeepsLeases old.store new.store
run_leases now old [] [] new run =
    subst (λ (s : Session). KeepsLeases old.store s.store) (sym run) (keeps_itself old.store)
run_leases now old [] (reply ∷ replies) new run = absurd run
run_leases now old (event ∷ events) [] new run = absurd run
run_leases now old (event ∷ events) (reply ∷ replies) new run =
    keeps_chain old.store run.0.store new.store (step_leases now old event reply run.0 run.1)
    (run_leases (moment_after now reply) run.0 events replies new run.2)
