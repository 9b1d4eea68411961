-- The fields of a head, as names and values.
use Rattle.std.specs.Prelude.{ℕ, List, map, filter}
use Rattle.std.specs.Str.{str_eq_ignore_ascii_case}
use Rattle.httparse.specs.Grammar.{Field}
use Rattle.httparse.specs.declared.spans.HeaderSpan.{HeaderSpan}
use Rattle.httparse.specs.Spans.{name_and_value, header_bytes}

-- the names and the values of the fields, without the white space around a value
abbrev pub pairs_of : List Field → List (List ℕ × List ℕ)
pairs_of fields = map name_and_value fields

-- the values of the fields of a name, without regard to case, in their order
unfoldable pub values_of : List ℕ → List (List ℕ × List ℕ) → List (List ℕ)
values_of name pairs =
    map (λ pair. pair.1) (filter (λ pair. str_eq_ignore_ascii_case pair.0 name) pairs)

-- the same of the fields whose names and values the spans cover
abbrev pub values_at : List ℕ → List HeaderSpan → List ℕ → List (List ℕ)
values_at bytes headers name = values_of name (map (header_bytes bytes) headers)
