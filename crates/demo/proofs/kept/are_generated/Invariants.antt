use Rattle.std.proofs.Common.{◌≡◌, ℕ, List, [], true, map, take, Ok}
use Rattle.generated_release.specs.Files.{files_to}
use Rattle.updater.specs.Updater.{tables_of}
use Rattle.demo.specs.Kept.{held_in, standing_of}
use Rattle.demo.specs.Parts.{Looks}
use Rattle.demo.proofs.kept.are_generated.Given as goal

abbrev pub invariant-loop-file : goal.invariant-loop-file
invariant-loop-file g l = Looks g.D.Disk (λ room image. (groups : List (List ℕ))
    → map (held_in room image (tables_of l.updater).contents) (standing_of groups (take l.file l.files))
    ≡ files_to [] l.seed l.version l.file) l.updater l.initial.disk (Ok true) l.disk
