use Rattle.std.proofs.Common.{◌∙◌, ◌+◌, ◌-◌, ◌++◌, List, Vec, Global, ap, subst, sym, arith}
use Rattle.std.specs.List.Sorted.{IsPermutation}
use Rattle.store_state.specs.declared.view.LocalFile.{LocalFile}
use Rattle.table_files.specs.Held.{held_for_locals}
use Rattle.install_plan.specs.Parts.{KeepBlocks}
use Rattle.install_plan.proofs.NewData.{as_kept, copied_to, ended, fetched_to, name_there}
use Rattle.install_plan.proofs.new_locals.new_locals.Goals as goal
use Rattle.install_plan.proofs.new_locals.new_locals.Goals.{in-Copy+in-Ok, in-Fresh}

pub take_fetched-file-requires : goal.take_fetched-file-requires
take_fetched-file-requires c = record {
  there = name_there c.args.old.now c.args.fetched.items c.args.copies.now c.args.plans.now c.loop-plan.locals.items c.loop-plan.left.items c.loop-plan.next c.loop-plan.plan-index c.loop-plan.invariant
      c.plan-item.result c.loop-plan-test.true c.plan-item.is c.in-Fresh.name c.in-Fresh.is;
}

pub loop-plan-preserved : goal.loop-plan-preserved
loop-plan-preserved c =
    let old = c.args.old.now in
    let fetched = c.args.fetched.items in
    let copies = c.args.copies.now in
    let plans = c.args.plans.now in
    let locals = c.loop-plan.locals.items in
    let left = c.loop-plan.left.items in
    let next = c.loop-plan.next in
    let at = c.loop-plan.plan-index in
    let to = c.loop-plan.invariant in
    let plan = c.plan-item.result in
    elim c.match-plan.branch [
      | in-Copy+in-Ok w ↦
          as_kept old fetched copies plans c.push.new.self.items left c.match-plan.left.items (next + 1) c.match-plan.next (at + 1) (ap (λ (v : Vec LocalFile Global). v.items) w.left-is) w.next-is
          (copied_to old fetched copies plans locals left next at to plan c.loop-plan-test.true c.plan-item.is w.in-Copy.from w.in-Copy.to w.in-Copy.is
          w.index-copies-next.result c.match-plan.file (next + 1 - 1) c.push.new.self.items (omega arith) w.index-copies-next.is (w.file-is ∙ w.in-Ok.ensures.made) c.in_default.ensures.items)
      | in-Fresh w ↦
          as_kept old fetched copies plans c.push.new.self.items w.take_fetched-file.new.fetched.items c.match-plan.left.items next c.match-plan.next (at + 1) (ap (λ (v : Vec LocalFile Global). v.items) w.left-is) w.next-is
          (fetched_to old fetched copies plans locals left next at to plan c.loop-plan-test.true c.plan-item.is w.in-Fresh.name w.in-Fresh.is
          c.match-plan.file w.take_fetched-file.new.fetched.items c.push.new.self.items (w.file-is ∙ w.take_fetched-file.ensures.taken)
          (subst (λ (f : LocalFile). IsPermutation (held_for_locals left) (f.held ++ held_for_locals w.take_fetched-file.new.fetched.items)) (sym w.file-is) w.take_fetched-file.ensures.blocks)
          w.take_fetched-file.ensures.others c.in_default.ensures.items)
    ]

pub returns-clause-blocks : goal.returns-clause-blocks
returns-clause-blocks c =
    subst (λ (ls : List LocalFile). KeepBlocks c.args.fetched.items c.args.copies.now ls c.loop-plan.left.items) (sym c.from_vec.ensures)
    (ended c.args.old.now c.args.fetched.items c.args.copies.now c.args.plans.now c.loop-plan.locals.items c.loop-plan.left.items c.loop-plan.next c.loop-plan.plan-index c.loop-plan.invariant c.loop-plan-test.false).1
