-- What open jobs count.
use Rattle.std.proofs.Common.{◌≡◌, ◌≤◌, ◌-◌, ◌++◌, ap, List, [], arith}
use Rattle.std.specs.Prelude.{flat_map}
use Rattle.std.proofs.lemmas.List.Sums.{sum_by-append}
use Rattle.manifests.specs.declared.facts.Application.{Application}
use Rattle.machine.specs.Blocks.{blocks_of, blocks_with, deployed_files, free_blocks, required_files, standing_files, used_blocks}
use Rattle.machine.specs.Shape.{BareData, BareView, Shape}
use Rattle.machine.proofs.GrownViews.{blocks_among}
use Rattle.machine.proofs.Members.{in_right}

pub counted_more : (views : List BareView) (jobs : List Application)
    → used_blocks views ≤ blocks_with views jobs
counted_more views jobs =
    let files = blocks_among (standing_files views) (required_files jobs ++ standing_files views)
    (λ entry there. in_right (required_files jobs) (standing_files views) entry there) in
    let joined = sum_by-append (λ (file : BareData). blocks_of file.length) (deployed_files jobs)
    (flat_map (λ (view : BareView). view.data_files) views) in
    omega (arith, files, joined)

pub counted_without_jobs : (shape : Shape) → shape.jobs ≡ []
    → free_blocks shape ≡ shape.room.blocks - used_blocks shape.views
counted_without_jobs shape none =
    ap (λ (jobs : List Application). shape.room.blocks - blocks_with shape.views jobs) none
