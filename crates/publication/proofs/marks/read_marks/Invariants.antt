use Rattle.std.proofs.Common.{◌≡◌, ◌++◌, All, drop, map}
use Rattle.std.specs.Prelude.{option_map}
use Rattle.publish_plan.specs.declared.options.Mark.{Mark}
use Rattle.publisher.specs.Options.{IsKind}
use Rattle.publication.specs.Words.{marks_of}
use Rattle.publication.proofs.marks.read_marks.Given as goal

abbrev pub invariant-loop-word : goal.invariant-loop-word
invariant-loop-word l = record {
  rest : option_map (λ ms. l.marks.items ++ ms) (marks_of (map (λ s. s.now) (drop l.word-index l.words))) ≡ marks_of (map (λ s. s.now) l.words);
  fit : All (λ (m : Mark). IsKind m.kind) l.marks.items;
}
