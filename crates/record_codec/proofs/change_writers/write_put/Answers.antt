use Rattle.record_codec.specs.Codec.{put_text}
use Rattle.record_fields.proofs.Written.{then}
use Rattle.record_codec.proofs.change_writers.write_put.Goals as goal

pub returns : goal.returns
unfolding put_text
returns c =
    then c.write_u8-next.ensures
    (then c.write_u64-next.ensures c.write_local.ensures)
