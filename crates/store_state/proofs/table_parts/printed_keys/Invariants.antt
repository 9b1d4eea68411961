use Rattle.std.proofs.Common.{◌≡◌, ◌++◌, drop, map}
use Rattle.identity.specs.Key.{key_text}
use Rattle.machine.specs.declared.app.AppState.{AppState}
use Rattle.store_state.proofs.table_parts.printed_keys.Given as goal

abbrev pub invariant-loop-app : goal.invariant-loop-app
invariant-loop-app l =
    l.keys.items ++ map (λ (app : AppState). key_text app.key) (drop l.app-index l.apps)
    ≡ map (λ (app : AppState). key_text app.key) l.apps
