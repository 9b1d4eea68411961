use Rattle.std.proofs.Common.{List, Ok, refl, sym, ap, subst, ◌∙◌}
use Rattle.std.specs.Prelude.{IsSome, ◌↔◌}
use Rattle.digest_list.specs.Count.{IsCount}
use Rattle.digest_list.specs.declared.digest.Digest.{Digest}
use Rattle.manifest_parts.specs.declared.fault.ManifestFault.TheVariants.{NoDigest}
use Rattle.manifest_parts.proofs.Hashes.{some_is, none_is}
use Rattle.manifest_parts.proofs.Readings.{ok_at, refused}
use Rattle.manifest_parts.proofs.digests.some_digest.Goals as goal

pub returns-in-Some : goal.returns-in-Some
returns-in-Some c =
    some_is c.args.file.now c.args.digests.items (subst (λ (ds : List Digest). IsCount ds) c.from_vec.ensures (c.in-Some.ensures.some.0 refl))
    ∙ ap (ok_at {A = List Digest}) (sym (c.in-Some.ensures.value ∙ c.from_vec.ensures))

pub returns-in-None : goal.returns-in-None
returns-in-None c =
    refused (λ l. l) c.no_digest.result (NoDigest c.args.file.now) _ c.no_digest.ensures
    (none_is c.args.file.now c.args.digests.items c.from_list.result (subst (λ (ds : List Digest). IsSome c.from_list.result ↔ IsCount ds) c.from_vec.ensures c.from_list.ensures.some) c.in-None.is c.requires)
