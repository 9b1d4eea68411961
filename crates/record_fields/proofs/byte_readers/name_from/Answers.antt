use Rattle.std.proofs.Common.{◌≡◌, true, false, sym, ◌∙◌}
use Rattle.std.specs.Cmp.Lexicographic.{bytes_decides}
use Rattle.record_fields.proofs.Names.{none_read, other_read}
use Rattle.record_fields.proofs.byte_readers.name_from.Goals as goal

pub returns-in-Err-Bad-clause-exact : goal.returns-in-Err-Bad-clause-exact
returns-in-Err-Bad-clause-exact c =
    rw c.bad.ensures (none_read c.args.text.now c.args.place c.args.next (rw c.in-Err-Bad.field-0-is at c.in-Err-Bad.ensures.exact))

pub returns-else-eq-clause-exact : goal.returns-else-eq-clause-exact
returns-else-eq-clause-exact c =
    rw c.bad-else-eq.ensures (other_read c.args.text.now c.in-Ok.name c.args.place c.args.next c.in-Ok.ensures.exact (λ is.
    let found = (bytes_decides c.as_bytes.result.now c.args.text.now).1 (c.as_bytes.ensures.value ∙ is) in
    let none : true ≡ false = sym found ∙ sym c.eq.ensures ∙ c.if-eq.false in cc))
