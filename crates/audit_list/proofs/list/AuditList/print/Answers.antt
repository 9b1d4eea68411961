use Rattle.std.proofs.Common.{◌++◌, ◌∙◌, List, ℕ, length, ap}
use Rattle.audit_list.specs.Text.{ended, head_text}
use Rattle.audit_list.proofs.RawLines.{printed_text}
use Rattle.audit_list.proofs.list.AuditList.print.Goals as goal

pub returns : goal.returns
returns c =
    let lines = c.as_slice-lines.result.now in
    printed_text c.args.self.now lines c.print_head.new.out c.print_lines.new.out c.as_slice-lines.ensures
    (c.in_ok-print_head.ensures ∙ ap (λ (text : List ℕ). text ++ ended (head_text (length lines))) (c.from_vec-out.ensures ∙ c.new.ensures.items))
    c.in_ok-print_lines.ensures
