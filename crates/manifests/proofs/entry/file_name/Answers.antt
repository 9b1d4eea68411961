use Rattle.std.proofs.Common.{ℕ, List, sym, ◌∙◌}
use Rattle.manifest_parts.specs.declared.fault.ManifestFault.TheVariants.{TwiceNamed}
use Rattle.manifest_parts.proofs.Readings.{ok_at, fails_then, refused}
use Rattle.manifests.specs.Applications.{file_name}
use Rattle.manifests.proofs.Chains.{then_fails, then_gives, handed_on}
use Rattle.manifests.proofs.NameLemmas.{name_taken, name_new}
use Rattle.manifests.proofs.entry.file_name.Goals as goal

pub returns-in_err-value : goal.returns-in_err-value
unfolding file_name
returns-in_err-value c =
    handed_on _ _ _ _ c.from_residual.ensures
    (fails_then _ _ _ c.in_err-value.ensures)

pub returns-in_err-name : goal.returns-in_err-name
unfolding file_name
returns-in_err-name c =
    handed_on _ _ _ _ c.from_residual-in_err-name.ensures
    (then_fails _ _ _ _ c.in_ok-value.ensures
    (fails_then _ _ _ c.in_err-name.ensures))

pub returns-then-has : goal.returns-then-has
unfolding file_name
returns-then-has c =
    then_gives _ _ _ _ _ c.in_ok-value.ensures
    (then_gives _ _ _ _ _ c.in_ok-name.ensures
    (refused _ _ (TwiceNamed c.in_ok-name.name) _ (rw c.as_str.ensures.value at c.twice_named.ensures)
    (name_taken c.args.before.now c.in_ok-name.name (sym c.has.ensures ∙ c.if-has.true))))

pub returns : goal.returns
unfolding file_name
returns c =
    let name = c.in_ok-name.name in
    then_gives (λ (n : List ℕ). n) (ok_at name) _ _ _ c.in_ok-value.ensures
    (then_gives (λ (n : List ℕ). n) (ok_at name) _ _ _ c.in_ok-name.ensures
    (name_new c.args.before.now name (sym c.has.ensures ∙ c.if-has.false)))
