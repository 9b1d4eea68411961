use Rattle.std.proofs.Common.{sym, subst}
use Rattle.addresses.specs.Address.{IsAddress}
use Rattle.addresses.proofs.AddressLemmas.{IsAddress-valid}
use Rattle.addresses.proofs.join.short_address.Goals as goal

pub returns-clause-address : goal.returns-clause-address
returns-clause-address c =
    λ scheme. subst IsAddress (sym c.in_ok-address_of.ensures) (IsAddress-valid c.args.url.now c.is_too_long.ensures.valid scheme)
