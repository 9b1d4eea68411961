use Rattle.std.proofs.Common.{◌≡◌, ◌+◌, ◌≤◌, length, drop}
use Rattle.http_plain.specs.Fields.{values_at}
use Rattle.http_plain.proofs.fields.count_named.Given as goal

abbrev pub invariant-loop-header : goal.invariant-loop-header
invariant-loop-header l =
    (l.count + length (values_at l.bytes (drop l.header-index l.headers) l.name) ≡ length (values_at l.bytes l.headers l.name))
    × (l.count ≤ l.header-index)
