use Rattle.std.proofs.Common.{◌≡◌, inr}
use Rattle.install_plan.proofs.Judged.{not_so}
use Rattle.install_plan.proofs.offers.hear_offer.Goals as goal

pub returns-then-not-is_key-clause-refused : goal.returns-then-not-is_key-clause-refused
returns-then-not-is_key-clause-refused g c = record {
  kept = c.hear_deployment.ensures.kept;
  why = inr (record {
    deployment = c.in-Ok.deployment;
    heard = c.in-Ok.ensures.told;
    other = not_so c.is_key.result (c.in-Ok.deployment.identity.key ≡ c.args.key.now)
        c.is_key.ensures c.if-not-is_key.true;
    replied = c.other_key-reply.ensures;
  });
}

pub returns-clause-told : goal.returns-clause-told
returns-clause-told g c = record {
  kept = c.hear_deployment.ensures.kept;
  heard = c.in-Ok.ensures.told;
  same = c.is_key.ensures.0 c.if-not-is_key.false;
}
