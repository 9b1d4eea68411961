use Rattle.std.proofs.Common.{◌≡◌, ◌∙◌, ◌<◌, Vec, Global, ap, length, sym, arith}
use Rattle.store_state.specs.declared.view.LocalFile.{LocalFile}
use Rattle.install_plan.proofs.NewData.{taken_at}
use Rattle.install_plan.proofs.new_locals.take_fetched.Goals as goal

pub index-requires : goal.index-requires
index-requires c =
    let all = c.args.fetched.now in
    let same : c.loop-place.fetched ≡ all = c.loop-place.invariant.same in
    omega (arith, c.loop-place-test.true, c.len-place-end.ensures, ap (λ (v : Vec LocalFile Global). length v.items) same, ap (λ (v : Vec LocalFile Global). v.len) same, all.ok.0, c.loop-place.fetched.ok.0)

pub returns-then-is_named-clause-taken : goal.returns-then-is_named-clause-taken
returns-then-is_named-clause-taken c =
    (taken_at c.args.name.now c.loop-place.fetched.items c.args.fetched.now.items c.remove.new.self.items c.loop-place.place c.index.result.now c.remove.result
    (ap (λ (v : Vec LocalFile Global). v.items) c.loop-place.invariant.same)
    (omega (arith, c.loop-place-test.true, c.len-place-end.ensures, ap (λ (v : Vec LocalFile Global). length v.items) c.loop-place.invariant.same, c.args.fetched.now.ok.0)) c.index.ensures c.remove.ensures.value c.loop-place.invariant.before
    (sym c.is_named.ensures ∙ c.if-is_named.true) c.remove.ensures.items).taken

pub returns-then-is_named-clause-blocks : goal.returns-then-is_named-clause-blocks
returns-then-is_named-clause-blocks c =
    (taken_at c.args.name.now c.loop-place.fetched.items c.args.fetched.now.items c.remove.new.self.items c.loop-place.place c.index.result.now c.remove.result
    (ap (λ (v : Vec LocalFile Global). v.items) c.loop-place.invariant.same)
    (omega (arith, c.loop-place-test.true, c.len-place-end.ensures, ap (λ (v : Vec LocalFile Global). length v.items) c.loop-place.invariant.same, c.args.fetched.now.ok.0)) c.index.ensures c.remove.ensures.value c.loop-place.invariant.before
    (sym c.is_named.ensures ∙ c.if-is_named.true) c.remove.ensures.items).blocks

pub returns-then-is_named-clause-others : goal.returns-then-is_named-clause-others
returns-then-is_named-clause-others c =
    (taken_at c.args.name.now c.loop-place.fetched.items c.args.fetched.now.items c.remove.new.self.items c.loop-place.place c.index.result.now c.remove.result
    (ap (λ (v : Vec LocalFile Global). v.items) c.loop-place.invariant.same)
    (omega (arith, c.loop-place-test.true, c.len-place-end.ensures, ap (λ (v : Vec LocalFile Global). length v.items) c.loop-place.invariant.same, c.args.fetched.now.ok.0)) c.index.ensures c.remove.ensures.value c.loop-place.invariant.before
    (sym c.is_named.ensures ∙ c.if-is_named.true) c.remove.ensures.items).others
