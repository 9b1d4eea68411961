use Rattle.std.proofs.Common.{rules, arith, List, IsTrue, subst}
use Rattle.std.specs.Prelude.{All}
use Rattle.std.proofs.lemmas.List.{take_all}
use Rattle.std.proofs.lemmas.List.Elements.{All-more, All-nil}
use Rattle.store_state.specs.declared.view.View.{View}
use Rattle.updater.specs.Updater.{tables_of}
use Rattle.demo.specs.Kept.{HasGenerated}
use Rattle.demo.proofs.Looks.{looks_fault, looks_no, looks_none, looks_so, looks_then}
use Rattle.demo.proofs.kept.each_has_generated.Goals as goal

pub loop-view-init : goal.loop-view-init
loop-view-init g c =
    looks_none g.D.Disk c.args.updater.now _ c.args.disk.now
    (λ room image. All-nil (HasGenerated room image c.args.seed (tables_of c.args.updater.now).contents))

pub loop-view-preserved : goal.loop-view-preserved
loop-view-preserved g c =
    let yes : IsTrue c.in-Ok-true.field-0 = search rules in
    looks_then g.D.Disk c.args.updater.now _ _ _ c.args.disk.now c.loop-view.disk c.has_generated.new.disk
    c.in-Ok-true.field-0 yes
    (λ room image before one.
    All-more (HasGenerated room image c.args.seed (tables_of c.args.updater.now).contents) c.args.views.now
    c.loop-view.view-index c.view-item.result (omega arith) before
    (subst (HasGenerated room image c.args.seed (tables_of c.args.updater.now).contents) c.view-item.is one))
    c.loop-view.invariant c.in-Ok-true.ensures

pub returns-in-Ok-false : goal.returns-in-Ok-false
returns-in-Ok-false g c =
    looks_no g.D.Disk c.args.updater.now _ _ _ c.args.disk.now c.loop-view.disk c.has_generated.new.disk _
    c.loop-view.invariant c.in-Ok-false.ensures

pub returns-in-Err : goal.returns-in-Err
returns-in-Err g c =
    looks_fault g.D.Disk c.args.updater.now _ _ _ c.args.disk.now c.loop-view.disk c.has_generated.new.disk c.in-Err.fault
    c.loop-view.invariant c.in-Err.ensures

pub returns : goal.returns
returns g c =
    looks_so g.D.Disk c.args.updater.now _ _ c.args.disk.now c.loop-view.disk _
    (λ room image looked. subst (λ (views : List View).
    All (HasGenerated room image c.args.seed (tables_of c.args.updater.now).contents) views)
    (take_all c.loop-view.view-index c.args.views.now (omega arith)) looked)
    c.loop-view.invariant
