use Rattle.std.proofs.Common.{◌≡◌, drop}
use Rattle.std.specs.List.{list_all}
use Rattle.std.specs.Str.{bytes_eq}
use Rattle.http_plain.specs.Fields.{values_at}
use Rattle.http_plain.proofs.fields.all_are.Given as goal

abbrev pub invariant-loop-header : goal.invariant-loop-header
invariant-loop-header l =
    list_all (λ given. bytes_eq given l.value) (values_at l.bytes (drop l.header-index l.headers) l.name)
    ≡ list_all (λ given. bytes_eq given l.value) (values_at l.bytes l.headers l.name)
