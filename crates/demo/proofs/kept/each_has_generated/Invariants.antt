use Rattle.std.proofs.Common.{true, take, Ok}
use Rattle.std.specs.Prelude.{All}
use Rattle.updater.specs.Updater.{tables_of}
use Rattle.demo.specs.Kept.{HasGenerated}
use Rattle.demo.specs.Parts.{Looks}
use Rattle.demo.proofs.kept.each_has_generated.Given as goal

abbrev pub invariant-loop-view : goal.invariant-loop-view
invariant-loop-view g l = Looks g.D.Disk (λ room image. All (HasGenerated room image l.seed (tables_of l.updater).contents)
    (take l.view-index l.views)) l.updater l.initial.disk (Ok true) l.disk
