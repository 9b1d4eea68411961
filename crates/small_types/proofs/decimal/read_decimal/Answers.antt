use Rattle.std.proofs.Common.{◌<◌, length, sym, ◌∙◌, arith, rules}
use Rattle.small_types.proofs.DecimalLemmas.{read_short}
use Rattle.small_types.proofs.decimal.read_decimal.Goals as goal

pub returns : goal.returns
returns c =
    let some : 0 < length c.args.bytes.now = search rules in
    read_short c.args.bytes.now c.parse_digits.result c.parse_digits.ensures (sym c.are_digits.ensures ∙ c.if-not-are_digits.false) some (omega arith)
