use Rattle.std.proofs.Common.{◌∙◌, ℕ, List, ap, arith, length}
use Rattle.store_state.specs.declared.view.Content.{Content}
use Rattle.store_state.specs.declared.change.Change.TheVariants as change
use Rattle.install_plan.specs.Changes.{contents_for, listed_at}
use Rattle.install_plan.proofs.GroupChange.{all_brought}
use Rattle.install_plan.proofs.group.drafted_group.Goals as goal

pub contents_of-requires-clause-each : goal.contents_of-requires-clause-each
contents_of-requires-clause-each c =
    let same = ap length c.as_slice.ensures in omega (arith, same, c.requires.each)

pub contents_of-requires-clause-within : goal.contents_of-requires-clause-within
contents_of-requires-clause-within c = c.requires.within

pub returns-clause-change : goal.returns-clause-change
returns-clause-change c =
    ap (λ (g : List ℕ). change.Group c.args.view g c.in-Ok.contents) c.in-Ok-copy.ensures
    ∙ ap (λ (cs : List Content). change.Group c.args.view c.args.group.now cs)
    (c.in-Ok.ensures.contents
    ∙ ap (contents_for (listed_at c.args.files.now c.args.wanted.now)) c.as_slice.ensures)

pub returns-clause-blocks : goal.returns-clause-blocks
returns-clause-blocks c =
    all_brought c.args.files.now c.args.wanted.now c.args.drafts.now c.in-Ok.contents
    c.in-Ok-all_blocks.taken c.from_vec.result c.requires.each c.requires.within
    (c.in-Ok.ensures.contents
    ∙ ap (contents_for (listed_at c.args.files.now c.args.wanted.now)) c.as_slice.ensures)
    c.in-Ok-all_blocks.ensures (c.from_vec.ensures ∙ c.new.ensures.items)
