use Rattle.std.proofs.Common.{◌≡◌}
use Rattle.addresses.specs.declared.fault.UrlFault.TheVariants.{NotHttp}
use Rattle.addresses.proofs.NameLemmas.{read_never}
use Rattle.addresses.proofs.file_base.FileBase.read.Goals as goal

pub returns-in-Err-clause-http : goal.returns-in-Err-clause-http
returns-in-Err-clause-http c =
    λ scheme is.
    let same : c.in-Err.fault ≡ NotHttp scheme = cc in
    read_never c.in-Err.fault c.args.base.now scheme c.in-Err.ensures same
