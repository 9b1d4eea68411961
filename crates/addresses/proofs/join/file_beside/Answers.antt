use Rattle.addresses.specs.Join.{file_reference}
use Rattle.addresses.proofs.NameLemmas.{joined_http, resolved_beside}
use Rattle.addresses.proofs.join.file_beside.Goals as goal

pub returns-clause-address : goal.returns-clause-address
returns-clause-address c =
    λ base read is.
    c.short_address.ensures.address
    (joined_http base c.args.document.now c.args.mapped c.args.name.now c.in_ok-url.url read is
    (resolved_beside base c.args.document.now (file_reference c.args.mapped c.args.name.now) c.in_ok-url.url read c.in_ok-url.ensures))
