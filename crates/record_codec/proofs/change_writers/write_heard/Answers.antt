use Rattle.record_codec.specs.Codec.{heard_text}
use Rattle.record_fields.proofs.Written.{then}
use Rattle.record_codec.proofs.change_writers.write_heard.Goals as goal

pub returns : goal.returns
unfolding heard_text
returns c =
    then c.write_u8-next.ensures
    (then c.write_key-next.ensures
    (then c.write_version-next.ensures
    (then c.write_option-next.ensures c.write_u64.ensures)))
