use Rattle.std.proofs.Common.{ℕ, Some, rules}
use Rattle.std.specs.Prelude.{slice_get}
use Rattle.std.specs.Option.{option_cmp}
use Rattle.std.proofs.lemmas.Fn.{always_returns_same}
use Rattle.identity.specs.Printed.{text_cmp}
use Rattle.store_state.specs.Named.{names_of}
use Rattle.store_state.proofs.names.search_name.Goals as goal

-- the closure compares the name at a place with the name
pub returns-clause-found : goal.returns-clause-found
returns-clause-found c =
    c.binary_search_by.ensures.position
    (λ (place : ℕ). option_cmp text_cmp (slice_get (names_of c.args.files.now) place)
    (Some c.args.name.now)) (always_returns_same _ _ _ (λ a r f called. search rules))
