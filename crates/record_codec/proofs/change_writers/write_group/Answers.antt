use Rattle.record_codec.specs.Codec.{group_text}
use Rattle.record_fields.proofs.Written.{then}
use Rattle.record_codec.proofs.change_writers.write_group.Goals as goal

pub returns : goal.returns
unfolding group_text
returns c =
    then c.write_u8-next.ensures
    (then c.write_u64-next.ensures
    (then c.write_text-next.ensures c.write_list.ensures))
