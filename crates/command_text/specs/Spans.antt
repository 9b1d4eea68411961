-- Which bytes of a file a line asks for.
use Rattle.std.specs.Prelude.{◌≤◌}
use Rattle.small_types.specs.Name.{IsName}
use Rattle.small_types.specs.declared.limits.TheConstants.{NUMBER_LIMIT, PIECE_LIMIT}
use Rattle.command_text.specs.declared.file_lines.Span.{Span}

-- its words have their forms
abbrev pub IsSpan : Span → Type 0
IsSpan span =
    (span.lease ≤ NUMBER_LIMIT) × IsName span.name × (span.from ≤ NUMBER_LIMIT)
    × (span.count ≤ PIECE_LIMIT)
