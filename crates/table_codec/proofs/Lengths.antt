-- How long the encodings of tables are.
use Rattle.std.proofs.Common.{◌≡◌, ◌+◌, ◌++◌, length, arith}
use Rattle.std.proofs.lemmas.List.{length-append}
use Rattle.store_state.specs.Tables.{Tables}
use Rattle.table_codec.specs.Spelled.{lists_field, number_field, state_text}

pub length-state_text : (t : Tables) → length (state_text t) ≡ 24 + length (lists_field t)
unfolding state_text
length-state_text t =
    let a = number_field t.boot in
    let b = number_field t.next_view in
    let c = number_field t.next_lease in
    let l = lists_field t in
    omega (arith, length-append a (b ++ (c ++ l)), length-append b (c ++ l), length-append c l)
