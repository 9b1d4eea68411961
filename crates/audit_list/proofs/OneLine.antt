-- That bytes are refused at one line at most.
use Rattle.std.proofs.Common.{◌≡◌, ◌⊎◌, ◌<◌, ◌≤◌, ◌+◌, ◌∙◌, ℕ, List, inl, inr, sym, ap, take, arith}
use Rattle.std.proofs.lemmas.Bool.{cases_order}
use Rattle.std.proofs.lemmas.List.{take-take}
use Rattle.audit_list.specs.declared.list.AuditList.{AuditList}
use Rattle.audit_list.specs.Text.{IsRefusedAt, OneRefusal, Share, audit_lines, lines_of}

share_fewer : (bytes : List ℕ) (list : AuditList) (few many : ℕ) → few ≤ many → Share many bytes list → Share few bytes list
share_fewer bytes list few many le share =
    sym (take-take few many (lines_of bytes) le) ∙ ap (take few) share ∙ take-take few many (audit_lines list) le

not_before : (bytes : List ℕ) (line other : ℕ) → IsRefusedAt bytes line → IsRefusedAt bytes other → line < other → ⊥
not_before bytes line other one two less =
    let le : line + 1 ≤ other = omega arith in
    one.no_more two.list two.is_list (share_fewer bytes two.list (line + 1) other le two.before)

one_of : (bytes : List ℕ) (line other : ℕ) → IsRefusedAt bytes line → IsRefusedAt bytes other → (line ≡ other) ⊎ ((line < other) ⊎ (other < line)) → line ≡ other
one_of bytes line other one two (inl same) = same
one_of bytes line other one two (inr (inl less)) = absurd (not_before bytes line other one two less)
one_of bytes line other one two (inr (inr greater)) = absurd (not_before bytes other line two one greater)

pub one_refusal : OneRefusal
one_refusal bytes line other one two = one_of bytes line other one two (cases_order line other)
