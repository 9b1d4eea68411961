use Rattle.std.proofs.Common.{◌∙◌, inr, refl, sym, ap}
use Rattle.identity.specs.declared.key.Key.{Key}
use Rattle.store_state.specs.declared.change.Change.TheVariants as change
use Rattle.install_plan.proofs.KnownNotes.{checked_differs, checked_stays}
use Rattle.install_plan.proofs.check.unheard_change.Goals as goal

pub returns-then-app : goal.returns-then-app
returns-then-app c =
    inr (refl, λ missing. checked_stays c.args.app.now c.if-app.true)

pub returns-in-Ok : goal.returns-in-Ok
returns-in-Ok c = record {
  missing = sym c.is_missing.ensures ∙ c.if-not-is_missing.false;
  noted = record {
    change_is = ap (λ (key : Key). change.Unheard key) c.in-Ok.ensures;
    reply_is = refl;
    other = checked_differs c.args.app.now c.if-app.false;
  };
}
