-- The blocks that an install needs, where its files may come.
use Rattle.std.proofs.Common.{◌≡◌, ◌+◌, ◌-◌, ◌^◌, ◌<◌, ◌≤◌, ℕ, Bool, true, false, cond, List, [], ◌∷◌, length, arith}
use Rattle.std.specs.Prelude.{min, sum_by}
use Rattle.small_types.specs.declared.limits.TheConstants.{FILE_COUNT_LIMIT}
use Rattle.manifests.specs.declared.facts.Application.{Application}
use Rattle.manifests.specs.declared.facts.Deployment.{Deployment}
use Rattle.manifests.specs.declared.facts.FileEntry.{FileEntry}
use Rattle.manifests.specs.Applications.{size_limit}
use Rattle.manifests.specs.Facts.{IsFile}
use Rattle.machine.specs.Blocks.{blocks_of, standing_files}
use Rattle.machine.specs.Current.{bare_data_of, current_bare}
use Rattle.machine.specs.Fields.{IsApplication}
use Rattle.machine.specs.InstallRow.{files_after}
use Rattle.machine.specs.Shape.{Shape}
use Rattle.machine.specs.Wanted.{copied_need, install_need, wanted, wanted_beside}
use Rattle.machine.proofs.Members.{all_in}
use Rattle.machine.proofs.WantedFiles.{are_wanted}
use Rattle.install_plan.proofs.InstallContents.{wanted_within}
use Rattle.install_plan.proofs.Wants.{sum_most}

-- ---- how many blocks a file takes at most

pub few_blocks : (local : Bool) (size : ℕ) → size ≤ size_limit local → blocks_of size ≤ 65536
few_blocks true size within = omega (arith, within)
few_blocks false size within = omega (arith, within)

-- no more files are wanted than are listed
fewer : (es held : List FileEntry) → length (wanted_beside held es) ≤ length es
fewer [] held = omega arith
fewer (e ∷ es) held = by e.local _ (fewer es held) (fewer es (e ∷ held))
  where
    by : (a b : Bool) → length (wanted_beside held es) ≤ length es → length (wanted_beside (e ∷ held) es) ≤ length es
        → length (cond a (e ∷ wanted_beside held es) (cond b (e ∷ wanted_beside (e ∷ held) es) (wanted_beside held es))) ≤ length (e ∷ es)
    by true b one two = omega (arith, one)
    by false true one two = omega (arith, two)
    by false false one two = omega (arith, one)

module _ (shape : Shape) (d : Deployment) (a : Application) (is : IsApplication a)
    (few : FILE_COUNT_LIMIT < files_after shape a → ⊥) where
  within : sum_by (λ (entry : FileEntry). blocks_of entry.size) (wanted shape.views a) ≤ 2 ^ 60
  within =
      let most = sum_most (λ (entry : FileEntry). blocks_of entry.size) (wanted shape.views a) 65536
      (λ entry there. few_blocks entry.local entry.size (all_in IsFile a.files entry is.facts.each (wanted_within a.files (standing_files shape.views) entry there)).size) in
      let count = fewer a.files (standing_files shape.views) in
      omega (arith, most, count, few)

  -- the blocks of the wanted files and those of the copied data files are what is needed
  pub need_is : (wants copied need : ℕ) → wants ≡ min (sum_by (λ (entry : FileEntry). blocks_of entry.size) (wanted shape.views a)) (2 ^ 64 - 1)
      → copied ≡ copied_need (bare_data_of (current_bare d.identity.key shape)) → copied ≤ 2 ^ 60 → need ≡ min (wants + copied) (2 ^ 64 - 1) → need ≡ install_need shape d a
  need_is wants copied need wants_are copied_is few same = omega (arith, wants_are, copied_is, few, same, within, (are_wanted shape.views a).blocks)
