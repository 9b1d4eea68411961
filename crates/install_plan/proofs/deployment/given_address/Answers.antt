use Rattle.std.proofs.Common.{ℕ, List, Err, subst}
use Rattle.addresses.specs.Address.{Gives, target_of_text}
use Rattle.install_plan.proofs.deployment.given_address.Goals as goal

pub returns-in-Err-clause-judged : goal.returns-in-Err-clause-judged
returns-in-Err-clause-judged c =
    c.url_reply.ensures.judged (target_of_text c.args.url.now)
    (subst (λ (bytes : List ℕ). Gives (Err c.in-Err.fault) (target_of_text bytes)) c.as_slice.ensures c.in-Err.ensures.exact)
