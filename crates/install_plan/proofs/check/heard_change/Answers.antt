use Rattle.std.proofs.Common.{◌≡◌, inr, ap}
use Rattle.identity.specs.declared.key.Key.{Key}
use Rattle.store_state.specs.declared.change.Change.TheVariants as change
use Rattle.install_plan.specs.Checks.{heard_of}
use Rattle.install_plan.proofs.Judged.{not_so}
use Rattle.install_plan.proofs.check.heard_change.Goals as goal

pub returns-then-is_known : goal.returns-then-is_known
returns-then-is_known c =
    inr (c.checked_reply.ensures, c.is_known.ensures.0 c.if-is_known.true)

pub returns-in-Ok : goal.returns-in-Ok
returns-in-Ok c =
    let offered = c.args.offered in
    record {
      change_is = ap (λ (key : Key). change.Heard key offered.version offered.minimum offered.now)
          c.in-Ok.ensures;
      reply_is = c.checked_reply-in-Ok.ensures;
      other = not_so c.is_known.result (heard_of offered c.args.app.now ≡ c.args.app.now)
          c.is_known.ensures c.if-is_known.false;
    }
