-- What reading bytes as a list answers.
use Rattle.std.specs.Prelude.{◌≡◌, ℕ, List, Result, Ok, Err}
use Rattle.audit_list.specs.declared.list.AuditList.{AuditList}
use Rattle.audit_list.specs.declared.fault.AuditTextFault.{AuditTextFault}
use Rattle.audit_list.specs.declared.fault.AuditTextFault.TheVariants.{Text, Memory}
use Rattle.audit_list.specs.Text.{IsAuditList, IsRefusedAt, audit_text}

-- the bytes are the text of the list
pub record IsTextOf (bytes : List ℕ) (list : AuditList) : Type 0 where
  pub is : IsAuditList list
  pub text : audit_text list ≡ bytes

-- The list of that text; the line at which the bytes are none's; or no memory.
abbrev pub Reads : List ℕ → Result AuditList AuditTextFault → Type 0
Reads bytes (Ok list) = IsTextOf bytes list
Reads bytes (Err (Text line)) = IsRefusedAt bytes line
Reads bytes (Err Memory) = Unit {0}
