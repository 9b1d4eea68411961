use Rattle.std.proofs.Common.{◌≡◌, ◌++◌, arith, drop, subst}
use Rattle.record_fields.proofs.Written.{then, at_front}
use Rattle.store_state.specs.Tables.{Tables}
use Rattle.table_codec.specs.Spelled.{lists_field, number_field, state_text}
use Rattle.table_codec.proofs.encoder.encode_state.Goals as goal

pub returns-clause-length : goal.returns-clause-length
unfolding state_text
returns-clause-length c =
    let whole =
    then c.write_u64-next.ensures
    (then c.write_u64-next-2.ensures
    (then c.write_u64-next-3.ensures c.write_lists.ensures))
    in
    let behind = whole.behind in
    omega arith

pub returns-clause-text : goal.returns-clause-text
unfolding state_text
returns-clause-text c =
    subst (λ (t : Tables). c.write_lists.new.out
    ≡ (number_field t.boot ++ (number_field t.next_view
    ++ (number_field t.next_lease ++ lists_field c.args.state.now)))
    ++ drop c.write_lists.result c.args.out.now) c.state.view_is
    (at_front (then c.write_u64-next.ensures
    (then c.write_u64-next-2.ensures
    (then c.write_u64-next-3.ensures c.write_lists.ensures))))
