-- The numbers of views that applications name.
use Rattle.std.specs.Prelude.{ℕ, ◌++◌, List, option_to_list}
use Rattle.machine.specs.declared.app.AppState.{AppState}

-- those of the current and the previous view
abbrev pub named_numbers : AppState → List ℕ
named_numbers app = option_to_list app.current ++ option_to_list app.previous
