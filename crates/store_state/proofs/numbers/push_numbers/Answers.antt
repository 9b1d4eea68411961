use Rattle.std.proofs.Common.{◌+◌, ◌-◌, ◌++◌, ◌∙◌, [], ◌∷◌, ap, arith, vec_len}
use Rattle.std.specs.Prelude.{is_ok}
use Rattle.std.specs.List.{range_with_len}
use Rattle.store_state.proofs.Places.{pushed, range_push}
use Rattle.store_state.proofs.numbers.push_numbers.Goals as goal

-- there was room for the number
pub loop-number-preserved : goal.loop-number-preserved
loop-number-preserved c =
    let number = c.loop-number.number in
    let end = c.args.end in
    let old = c.loop-number.numbers in
    let new = c.push-added.new.self in
    let ok = c.push-added.ensures.succeeds
    (omega (arith, c.loop-number.invariant.room, c.loop-number-test.true)) in
    let items = pushed (is_ok c.push-added.result) (old.items ++ number ∷ []) old.items new.items ok
    c.push-added.ensures.items in
    let len = pushed (is_ok c.push-added.result) (vec_len old + 1) (vec_len old) (vec_len new) ok
    c.push-added.ensures.len in
    record {
      items =
          ap (λ ns. ns ++ range_with_len (number + 1) (end - (number + 1))) items
          ∙ range_push old.items _ number end c.loop-number-test.true c.loop-number.invariant.items;
      room =
          omega (
            arith,
            len,
            c.loop-number.invariant.room,
            c.push-added.ensures.capacity,
            c.loop-number-test.true,
          );
    }
