use Rattle.record_fields.specs.Spelled.{terms_field}
use Rattle.record_fields.proofs.Written.{then}
use Rattle.record_fields.proofs.manifest_writers.write_terms.Goals as goal

pub returns : goal.returns
unfolding terms_field
returns c =
    then c.write_identity-next.ensures
    (then c.write_truth-next.ensures
    (then c.write_option-next.ensures
    (then c.write_truth-next-2.ensures
    (then c.write_rule-next.ensures c.write_option.ensures))))
