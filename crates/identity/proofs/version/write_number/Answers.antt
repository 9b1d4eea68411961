use Rattle.std.proofs.Common.{ℕ, ◌+◌, ◌-◌, length, ap, arith}
use Rattle.std.proofs.lemmas.Slice.{drop-put_mid}
use Rattle.identity.proofs.version.write_number.Goals as goal

pub returns-clause-rest : goal.returns-clause-rest
returns-clause-rest c =
    let end = c.args.place + length c.as_bytes-digits.result.now in
    drop-put_mid c.args.place (end - c.args.place) c.args.out.now c.copy_from_slice.new.self end (omega arith) (omega arith)
    (omega (arith, ap (length {A = ℕ}) c.copy_from_slice.ensures.after))
