use Rattle.std.proofs.Common.{◌∙◌, ◌++◌, ◌+◌, ◌∷◌, [], ap, arith, vec_len}
use Rattle.std.specs.Prelude.{is_ok}
use Rattle.std.proofs.lemmas.List.{replicate_more}
use Rattle.store_state.proofs.Places.{pushed}
use Rattle.store_state.proofs.marks.fill.Goals as goal

-- there was room for the mark
pub loop-preserved : goal.loop-preserved
loop-preserved c =
    let old = c.loop.marks in
    let new = c.push-added.new.self in
    let ok = c.push-added.ensures.succeeds
    (omega (arith, c.loop.invariant.room, c.loop.invariant.long, c.loop-test.true)) in
    let items = pushed (is_ok c.push-added.result) (old.items ++ c.args.mark ∷ []) old.items
    new.items ok c.push-added.ensures.items in
    let len = pushed (is_ok c.push-added.result) (vec_len old + 1) (vec_len old) (vec_len new) ok
    c.push-added.ensures.len in
    record {
      items =
          items ∙ ap (λ marks. marks ++ c.args.mark ∷ []) c.loop.invariant.items
          ∙ replicate_more c.loop.counter c.args.mark;
      long = omega (arith, len, c.loop.invariant.long);
      room = omega (arith, c.loop.invariant.room, c.push-added.ensures.capacity);
      more = omega (arith, c.loop.invariant.more, c.push-added.ensures.capacity);
    }
