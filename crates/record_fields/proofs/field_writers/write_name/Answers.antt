use Rattle.std.proofs.Common.{ℕ, length, ap, arith}
use Rattle.record_fields.proofs.Sizes.{name_le}
use Rattle.record_fields.proofs.field_writers.write_name.Goals as goal

pub write_bytes-requires-clause-size : goal.write_bytes-requires-clause-size
write_bytes-requires-clause-size c =
    let same = ap (length {A = ℕ}) c.as_bytes.ensures.value in
    omega (arith, name_le c.args.name.now c.requires.name)
