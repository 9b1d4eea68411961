use Rattle.std.proofs.Common.{◌≡◌, ◌<◌, None, IfSome, drop}
use Rattle.publication.specs.Words.{last_colon_from}
use Rattle.publication.proofs.marks.last_colon.Given as goal

abbrev pub invariant-loop-place : goal.invariant-loop-place
invariant-loop-place l = record {
  rest : last_colon_from l.place l.found (drop l.place l.text) ≡ last_colon_from 0 None l.text;
  within : IfSome l.found (λ place. place < l.place);
}
