use Rattle.std.proofs.Common.{sym, subst}
use Rattle.small_types.specs.Name.{IsName}
use Rattle.addresses.specs.FileBase.{document_of}
use Rattle.addresses.proofs.NameLemmas.{beside_never}
use Rattle.addresses.proofs.file_base.FileBase.target.Goals as goal

pub returns-clause-address : goal.returns-clause-address
returns-clause-address c =
    λ base read.
    c.file_beside.ensures.address base read
    (subst IsName (sym c.as_bytes.ensures.value) c.as_bytes.ensures.name)

pub returns-clause-http : goal.returns-clause-http
returns-clause-http c =
    λ scheme.
    beside_never c.file_beside.result (document_of c.args.self.now) c.args.mapped c.as_bytes.result.now scheme c.file_beside.ensures.exact
