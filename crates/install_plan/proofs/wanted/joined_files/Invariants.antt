use Rattle.std.proofs.Common.{◌≡◌, ◌++◌, map, drop, Ok}
use Rattle.std.specs.Prelude.{slice_get}
use Rattle.install_plan.specs.WantedFiles.{joined_at}
use Rattle.install_plan.proofs.wanted.joined_files.Given as goal

abbrev pub invariant-loop-place : goal.invariant-loop-place
invariant-loop-place l = record {
  places : map (λ file. file.place) l.wanted.items ++ drop l.place-index l.places ≡ l.places;
  targets : map (λ file. Ok file.target) l.wanted.items ++ map (λ place. joined_at l.base l.mapped (slice_get l.files place)) (drop l.place-index l.places)
      ≡ map (λ place. joined_at l.base l.mapped (slice_get l.files place)) l.places;
}
