use Rattle.std.proofs.Common.{◌≡◌, false, sym, subst, ◌∙◌}
use Rattle.addresses.specs.Address.{http, is_refused, IsAddress}
use Rattle.addresses.proofs.AddressLemmas.{IsAddress-address, http_from_test, refused_host}
use Rattle.addresses.proofs.address.target_of_parsed.Goals as goal

pub returns-clause-address : goal.returns-clause-address
returns-clause-address c =
    let url = c.args.url.now in
    let kept : is_refused url ≡ false = sym c.is_bad.ensures ∙ c.if-is_bad.false in
    let scheme : url.scheme ≡ http = http_from_test url.scheme c.scheme.result.now c.scheme.ensures.value c.if-ne.ensures in
    subst IsAddress (sym c.in_ok-address_of.ensures) (IsAddress-address url c.scheme.ensures.valid (refused_host url kept) scheme)
