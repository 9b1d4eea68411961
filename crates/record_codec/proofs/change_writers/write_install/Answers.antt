use Rattle.record_codec.specs.Codec.{install_text}
use Rattle.record_fields.proofs.Written.{then}
use Rattle.record_codec.proofs.Records.{wider}
use Rattle.record_codec.proofs.change_writers.write_install.Goals as goal

pub write_view-next-requires-clause-view : goal.write_view-next-requires-clause-view
write_view-next-requires-clause-view c = wider c.args.view.now c.requires.install.view

pub returns : goal.returns
unfolding install_text
returns c =
    then c.write_u8-next.ensures
    (then c.write_view-next.ensures
    (then c.write_list-next.ensures
    (then c.write_target-next.ensures c.write_u64.ensures)))
