use Rattle.std.proofs.Common.{rules, ◌≡◌, List, subst}
use Rattle.std.specs.Prelude.{All}
use Rattle.store_state.specs.declared.view.View.{View}
use Rattle.updater.specs.Updater.{tables_of}
use Rattle.demo.specs.Kept.{HasGenerated}
use Rattle.demo.proofs.Looks.{looks_so}
use Rattle.demo.proofs.kept.keeps_generated.Goals as goal

pub returns : goal.returns
returns g c =
    let views : c.as_slice.result.now ≡ (tables_of c.args.updater.now).views = search rules in
    looks_so g.D.Disk c.args.updater.now _ _ c.args.disk.now c.each_has_generated.new.disk c.each_has_generated.result
    (λ room image each. subst (λ (vs : List View). All (HasGenerated room image c.args.seed (tables_of c.args.updater.now).contents) vs) views each)
    c.each_has_generated.ensures
