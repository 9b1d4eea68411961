use Rattle.std.proofs.Common.{◌≡◌, ◌⊎◌, inl, inr, sym, ◌∙◌, subst, List, ℕ}
use Rattle.inspection.specs.declared.manifest.InspectionEnd.TheVariants as ends
use Rattle.inspection.specs.Inspection.{Says}
use Rattle.inspection.proofs.manifest.inspect.Goals as goal

not_whole : (ends.SinkFault ≡ ends.Done) ⊎ (ends.SinkFault ≡ ends.Refused) → ⊥
not_whole (inl same) = cc
not_whole (inr same) = cc

pub returns-in_default-clause-says : goal.returns-in_default-clause-says
returns-in_default-clause-says g c = record {
  whole = λ either. absurd (not_whole either);
  part = λ _. record {
    lines = c.as_slice-2.result.now;
    meant = c.in-Ok-lines_of.said.1;
    said = λ told. subst (λ (b : List ℕ). Says c.args.kind b c.as_slice-2.result.now c.in-Ok-lines_of.said.1) (c.as_slice.ensures.value ∙ c.in-Ok.ensures.bytes told)
        (subst (λ (l : List ℕ). Says c.args.kind c.as_slice.result.now l c.in-Ok-lines_of.said.1) (sym c.as_slice-2.ensures) c.in-Ok-lines_of.ensures);
    taken = λ told. c.in_default.ensures.part told;
  };
}
