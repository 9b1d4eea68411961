use Rattle.std.proofs.Common.{Err, refl, ap, ◌∙◌}
use Rattle.std.proofs.lemmas.Result.{err_from_is_err_and}
use Rattle.std.specs.Prelude.{codes}
use Rattle.manifest_tree.specs.Tree.{tree_of}
use Rattle.manifest_parts.specs.Parts.{short_of, key_of}
use Rattle.manifest_parts.proofs.Readings.{exits, fails_then}
use Rattle.manifest_parts.proofs.identities.key_of.Goals as goal

pub returns-in_err-token : goal.returns-in_err-token
unfolding key_of
returns-in_err-token c =
    let p = err_from_is_err_and c.from_residual.result c.from_residual.ensures.1 in
    exits (λ k. k) c.from_residual.result c.in_err-token.field-0.0 _ (p.1 ∙ ap Err p.2)
    (fails_then c.in_err-token.field-0.0 (short_of (codes "publicKeyToken") (codes "0000000000000000") (tree_of c.args.node.now)) _ c.in_err-token.ensures)

pub returns-in_err-language : goal.returns-in_err-language
unfolding key_of
returns-in_err-language c =
    let p = err_from_is_err_and c.from_residual-in_err-language.result c.from_residual-in_err-language.ensures.1 in
    exits (λ k. k) c.from_residual-in_err-language.result c.in_err-language.field-0.0 _ (p.1 ∙ ap Err p.2)
    (rw (c.in_ok-token.ensures) (fails_then c.in_err-language.field-0.0 (short_of (codes "language") (codes "neutral") (tree_of c.args.node.now)) _ c.in_err-language.ensures))

pub returns-in_err-architecture : goal.returns-in_err-architecture
unfolding key_of
returns-in_err-architecture c =
    let p = err_from_is_err_and c.from_residual-in_err-architecture.result c.from_residual-in_err-architecture.ensures.1 in
    exits (λ k. k) c.from_residual-in_err-architecture.result c.in_err-architecture.field-0.0 _ (p.1 ∙ ap Err p.2)
    (rw (c.in_ok-token.ensures, c.in_ok-language.ensures) (fails_then c.in_err-architecture.field-0.0 (short_of (codes "processorArchitecture") (codes "msil") (tree_of c.args.node.now)) _ c.in_err-architecture.ensures))

pub returns : goal.returns
unfolding key_of
returns c = rw (c.in_ok-token.ensures, c.in_ok-language.ensures, c.in_ok-architecture.ensures) refl
