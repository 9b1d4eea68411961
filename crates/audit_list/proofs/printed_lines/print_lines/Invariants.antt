use Rattle.std.proofs.Common.{◌≡◌, ◌++◌, drop}
use Rattle.std.specs.List.{flat_map}
use Rattle.audit_list.specs.Text.{ended, line_text}
use Rattle.audit_list.proofs.printed_lines.print_lines.Given as goal

abbrev pub invariant-loop-line : goal.invariant-loop-line
invariant-loop-line l =
    l.out ++ flat_map (λ line. ended (line_text line)) (drop l.line-index l.lines)
    ≡ l.fn.out ++ flat_map (λ line. ended (line_text line)) l.lines
