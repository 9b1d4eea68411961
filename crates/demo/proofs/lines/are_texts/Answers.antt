use Rattle.std.proofs.Common.{rules, arith, ◌≡◌}
use Rattle.demo.proofs.Pairs.{two_of}
use Rattle.demo.proofs.lines.are_texts.Goals as goal

pub returns-then-eq : goal.returns-then-eq
returns-then-eq c = λ yes.
    let first : c.first-item.result ≡ c.args.deployment.now = search rules in
    let second : c.second-item.result ≡ c.args.application.now = search rules in
    two_of c.args.heard.now c.first-item.result c.second-item.result c.args.deployment.now
    c.args.application.now (omega arith) c.first-item.is c.second-item.is first second
