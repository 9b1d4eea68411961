use Rattle.std.proofs.Common.{Err, refl, sym, ap, ◌∙◌}
use Rattle.std.proofs.lemmas.Result.{err_from_is_err_and}
use Rattle.std.specs.Prelude.{codes}
use Rattle.manifest_tree.specs.Tree.{tree_of}
use Rattle.manifest_parts.specs.declared.fault.ManifestFault.TheVariants.{BadValue}
use Rattle.manifest_parts.specs.Elements.{once}
use Rattle.manifest_parts.specs.Parts.{digest_by, hash_of}
use Rattle.manifest_parts.proofs.Lookups.{text_is}
use Rattle.manifest_parts.proofs.Hashes.{same_digest}
use Rattle.manifest_parts.proofs.Readings.{exits, refused, fails_then, gives_same}
use Rattle.manifest_parts.proofs.digests.hash_of.Goals as goal

pub returns-in_err-method : goal.returns-in_err-method
unfolding hash_of
returns-in_err-method c =
    let p = err_from_is_err_and c.from_residual.result c.from_residual.ensures.1 in
    exits (λ d. d) c.from_residual.result c.in_err-method.field-0.0 _ (p.1 ∙ ap Err p.2)
    (rw (sym c.is_plain.ensures ∙ c.if-not-is_plain.false) (fails_then c.in_err-method.field-0.0 (once (codes "DigestMethod") (tree_of c.args.hash.now)) _ c.in_err-method.ensures))

pub returns-in_err-value : goal.returns-in_err-value
unfolding hash_of
returns-in_err-value c =
    let p = err_from_is_err_and c.from_residual-in_err-value.result c.from_residual-in_err-value.ensures.1 in
    exits (λ d. d) c.from_residual-in_err-value.result c.in_err-value.field-0.0 _ (p.1 ∙ ap Err p.2)
    (rw (sym c.is_plain.ensures ∙ c.if-not-is_plain.false, c.in_ok-method.ensures) (fails_then c.in_err-value.field-0.0 (once (codes "DigestValue") (tree_of c.args.hash.now)) _ c.in_err-value.ensures))

pub returns : goal.returns
unfolding hash_of
returns c =
    gives_same (λ d. d) c.known_digest.result (digest_by c.method_of.result c.as_bytes.result.now) (hash_of (tree_of c.args.hash.now))
    (rw (sym c.is_plain.ensures ∙ c.if-not-is_plain.false, c.in_ok-method.ensures, c.in_ok-value.ensures)
    (same_digest _ _ _ _ (sym c.method_of.ensures) (text_is c.in_ok-value.value.now ∙ sym c.as_bytes.ensures.value)))
    c.known_digest.ensures

pub returns-then-not-is_plain : goal.returns-then-not-is_plain
unfolding hash_of
returns-then-not-is_plain c =
    refused (λ d. d) c.bad_value.result (BadValue (codes "Algorithm")) _ c.bad_value.ensures (rw (sym c.is_plain.ensures ∙ c.if-not-is_plain.true) refl)
