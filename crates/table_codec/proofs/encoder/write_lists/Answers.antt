use Rattle.std.proofs.Common.{sym, subst}
use Rattle.std.specs.Prelude.{All}
use Rattle.record_fields.proofs.Written.{then}
use Rattle.store_state.specs.Tables.{Tables}
use Rattle.table_codec.specs.Spelled.{lists_field}
use Rattle.table_codec.specs.Values.{IsEncodableApp}
use Rattle.table_codec.proofs.encoder.write_lists.Goals as goal

pub write_list-next-requires-3-clause-fits : goal.write_list-next-requires-3-clause-fits
write_list-next-requires-3-clause-fits c =
    let fits = subst (λ (t : Tables). All IsEncodableApp t.apps) (sym c.state.view_is)
    c.requires.state.apps in
    rw c.as_slice-3.ensures fits

pub returns : goal.returns
unfolding lists_field
returns c =
    rw (
      ← c.state.view_is,
      ← c.as_slice.ensures,
      ← c.as_slice-2.ensures,
      ← c.as_slice-3.ensures,
      ← c.as_slice-4.ensures,
    )
    (then c.write_list-next.ensures
    (then c.write_list-next-2.ensures
    (then c.write_list-next-3.ensures c.write_list.ensures)))
