use Rattle.std.proofs.Common.{◌≡◌, ◌∙◌, List, ap, length, refl, arith}
use Rattle.std.specs.Option.{option_copied}
use Rattle.std.proofs.lemmas.Iterator.Adapters.{YieldsList-from_vec}
use Rattle.std.proofs.lemmas.Iterator.Consumers.{YieldsList-turn}
use Rattle.store_state.specs.declared.view.Content.{Content}
use Rattle.install_plan.proofs.FetchedSplit.{begun, split_more}
use Rattle.install_plan.proofs.fetched_parts.parts_of.Goals as goal

pub loop-content-init : goal.loop-content-init
loop-content-init c = begun c.args.files.now c.args.wanted.now c.new.result.items c.new-2.result.items c.new.ensures.items c.new-2.ensures.items

pub overflow_add-place : goal.overflow_add-place
overflow_add-place c =
    let made = c.into_vec-content-items.result in
    let gives = c.into_iter-content-iterator.ensures.into_iter_gives in
    let all : length made.items ≡ length c.args.contents = ap (λ (xs : List Content). length xs) c.into_vec-content-items.ensures in
    let yields = YieldsList-from_vec {s = c.into_iter-content-iterator.result} c.args.contents (gives.0 ∙ c.into_vec-content-items.ensures) (gives.1 ∙ made.ok.0 ∙ all) in
    let turn = YieldsList-turn yields c.loop-content.yielded _ c.loop-content.yielded_by c.next.result c.next.new.self c.in-Some.content c.in-Some.is c.next.ensures.steps in
    omega (arith, turn.0, c.loop-content.invariant.place_is, all, made.ok.0, made.ok.1, made.small)

pub loop-content-preserved : goal.loop-content-preserved
loop-content-preserved c =
    split_more c.args.files.now c.args.wanted.now c.loop-content.yielded c.loop-content.parts.programs.items c.loop-content.parts.locals.items c.loop-content.place
    c.loop-content.invariant (option_copied c.entry_for-entry.result) c.in-Some.content c.entry_for-entry.ensures
    c.add.new.self.programs.items c.add.new.self.locals.items _
    c.in_default.ensures.programs c.in_default.ensures.locals refl
