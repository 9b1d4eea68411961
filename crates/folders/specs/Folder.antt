-- When the calls of a folder fail.
use Rattle.std.specs.Prelude.{◌≡◌, ◌≤◌, ℕ, Result, IfErr, OnOk}
use Rattle.folders.specs.declared.folder.FolderFault.{FolderFault}
use Rattle.folders.specs.declared.folder.FolderFault.TheVariants.{Failed, Memory}
use Rattle.outside.specs.Streams.{Rose}

-- a count of faults never falls; `Failed` comes only where it rose, and all else leaves it
pub record FailsCounted {T : Type 0} (old new : ℕ) (result : Result T FolderFault) : Type 0 where
  pub later : old ≤ new
  pub rose : IfErr result (λ e. e ≡ Failed → Rose old new)
  pub memory : IfErr result (λ e. e ≡ Memory → new ≡ old)
  pub quiet : OnOk result (new ≡ old)
