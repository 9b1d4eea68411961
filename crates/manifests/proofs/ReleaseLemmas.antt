-- Why a release is refused, by what its checks answer.
use Rattle.std.proofs.Common.{◌≡◌, ℕ, List, Result, Ok, Err, sym, subst, ◌∙◌}
use Rattle.std.specs.Result.{IsErr, IsErrAnd, IfErr}
use Rattle.digest_list.specs.Matches.{Matches}
use Rattle.manifests.specs.declared.facts.Application.{Application}
use Rattle.manifests.specs.declared.facts.Deployment.{Deployment}
use Rattle.manifests.specs.declared.facts.Release.{Release}
use Rattle.manifests.specs.declared.releases.ReleaseFault.{ReleaseFault}
use Rattle.manifests.specs.declared.releases.ReleaseFault.TheVariants.{Mismatch, IdentityDiffers, VersionDiffers, Memory}
use Rattle.manifests.specs.Releases.{Refuses, RefusesBytes, RefusesIdentity}

-- ---- refusals that are handed on

module _ (d : Deployment) (a : Application) (bytes : List ℕ) where
  by_bytes : (e : ReleaseFault) → RefusesBytes d bytes e → Refuses d a bytes e
  by_bytes (Mismatch difference) h = h
  by_bytes (IdentityDiffers listed found) h = absurd h
  by_bytes (VersionDiffers listed found) h = absurd h
  by_bytes Memory h = tt

  by_identity : (e : ReleaseFault) → Matches d.app_list d.app_size bytes → RefusesIdentity d a e → Refuses d a bytes e
  by_identity (Mismatch difference) matching h = absurd h
  by_identity (IdentityDiffers listed found) matching h = (matching, h)
  by_identity (VersionDiffers listed found) matching h = (matching, h)
  by_identity Memory matching h = tt

  pub bytes_refused : (r : Result Release ReleaseFault) (e : ReleaseFault) → IsErr r × IsErrAnd r (λ f. f ≡ e) → RefusesBytes d bytes e → IfErr r (Refuses d a bytes)
  bytes_refused (Ok x) e same h = absurd same.1
  bytes_refused (Err f) e same h = subst (Refuses d a bytes) (sym same.1) (by_bytes e h)

  pub identity_refused : (r : Result Release ReleaseFault) (e : ReleaseFault) → IsErr r × IsErrAnd r (λ f. f ≡ e) → Matches d.app_list d.app_size bytes → RefusesIdentity d a e
      → IfErr r (Refuses d a bytes)
  identity_refused (Ok x) e same matching h = absurd same.1
  identity_refused (Err f) e same matching h = subst (Refuses d a bytes) (sym same.1) (by_identity e matching h)

pub memory_handed_on : (r : Result Release ReleaseFault) (e : ReleaseFault) → IsErr r × IsErrAnd r (λ f. f ≡ e) → e ≡ Memory → IfErr r (λ f. f ≡ Memory)
memory_handed_on (Ok x) e same is = absurd same.1
memory_handed_on (Err f) e same is = same.1 ∙ is
