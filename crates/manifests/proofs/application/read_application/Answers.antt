use Rattle.manifest_parts.proofs.Manifests.{answered, answered_only, refused_root, refused_only}
use Rattle.manifests.specs.Applications.{application_facts, application_of}
use Rattle.manifests.proofs.Chains.{handed_on, answer_handed_on}
use Rattle.manifests.proofs.application.read_application.Goals as goal

pub returns-in_err-root-clause-answers : goal.returns-in_err-root-clause-answers
unfolding application_of
returns-in_err-root-clause-answers c =
    answer_handed_on _ _ _ _ c.from_residual.ensures (refused_root application_facts _ _ c.in_err-root.ensures.refused)

pub returns-in_err-root-clause-only : goal.returns-in_err-root-clause-only
unfolding application_of
returns-in_err-root-clause-only c = λ t spelled.
    handed_on _ _ _ _ c.from_residual.ensures (refused_only application_facts t _ (c.in_err-root.ensures.only t spelled))

pub returns-clause-answers : goal.returns-clause-answers
unfolding application_of
returns-clause-answers c = answered application_facts _ _ _ c.in_ok-root.ensures.spelled c.in_ok-root.ensures.root c.facts_of.ensures

pub returns-clause-only : goal.returns-clause-only
unfolding application_of
returns-clause-only c = λ t spelled. answered_only application_facts t _ _ (c.in_ok-root.ensures.only t spelled) c.facts_of.ensures
