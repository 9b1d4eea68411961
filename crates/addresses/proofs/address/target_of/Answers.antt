use Rattle.std.proofs.Common.{◌≤◌, length, arith}
use Rattle.small_types.specs.declared.limits.TheConstants.{URL_LIMIT}
use Rattle.addresses.proofs.AddressLemmas.{other_text, gives_then}
use Rattle.addresses.proofs.address.target_of.Goals as goal

pub returns-in_default-clause-exact : goal.returns-in_default-clause-exact
returns-in_default-clause-exact c = other_text c.args.text.now c.in_default.ensures.cases.0

pub returns-clause-exact : goal.returns-clause-exact
returns-clause-exact c =
    let short : length c.args.text.now ≤ URL_LIMIT = omega arith in
    gives_then c.target_of_parsed.result c.args.text.now c.in-Ok.text.now c.in_ok-url.url short c.in-Ok.ensures.cases.0 c.in-Ok.ensures.cases.1 c.in_ok-url.ensures c.target_of_parsed.ensures.exact
