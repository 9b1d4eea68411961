use Rattle.manifests.proofs.ReleaseLemmas.{bytes_refused, identity_refused, memory_handed_on}
use Rattle.manifests.proofs.releases.release.Goals as goal

pub returns-in_err-check_bytes-clause-refused : goal.returns-in_err-check_bytes-clause-refused
returns-in_err-check_bytes-clause-refused c = bytes_refused _ _ _ _ _ c.from_residual.ensures c.in_err-check_bytes.ensures.refused

pub returns-in_err-check_bytes-clause-each_release : goal.returns-in_err-check_bytes-clause-each_release
returns-in_err-check_bytes-clause-each_release c = λ is. memory_handed_on _ _ c.from_residual.ensures (c.in_err-check_bytes.ensures.accepted is.matching)

pub returns-in_err-check_identity-clause-refused : goal.returns-in_err-check_identity-clause-refused
returns-in_err-check_identity-clause-refused c =
    identity_refused _ _ _ _ _ c.from_residual-in_err-check_identity.ensures c.in_ok-check_bytes.ensures.listed c.in_err-check_identity.ensures.refused

pub returns-in_err-check_identity-clause-each_release : goal.returns-in_err-check_identity-clause-each_release
returns-in_err-check_identity-clause-each_release c =
    λ is. memory_handed_on _ _ c.from_residual-in_err-check_identity.ensures (c.in_err-check_identity.ensures.accepted is.key is.version)
