use Rattle.std.specs.Prelude.{ℕ, List, unwrap_or}
use Rattle.disks.specs.declared.history.History.{History}

-- what a history began with: the bytes that were kept, or the present ones while no call was
-- recorded
abbrev pub first_of : History → List ℕ
first_of h = unwrap_or h.first h.bytes
