use Rattle.std.proofs.Common.{◌≡◌, ℕ, Err}
use Rattle.std.specs.Prelude.{slice_get}
use Rattle.addresses.specs.declared.fault.UrlFault.TheVariants.{BadUrl}
use Rattle.install_plan.specs.WantedFiles.{joined_at}
use Rattle.install_plan.proofs.Judged.{refused_at}
use Rattle.install_plan.proofs.wanted.joined_files.Goals as goal

pub returns-in-Err-clause-refused : goal.returns-in-Err-clause-refused
returns-in-Err-clause-refused c =
    refused_at c.in-Err.reply (λ (place : ℕ). joined_at c.args.base.now c.args.mapped (slice_get c.args.files.now place) ≡ Err BadUrl) c.args.places.now c.loop-place.place-index
    c.loop-place-test.true c.in-Err.ensures.refused
