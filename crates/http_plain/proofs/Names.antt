-- When bytes spell a name.
use Rattle.std.proofs.Common.{◌≡◌, ◌<◌, ℕ, List, length, Option, Some, None, Result, Ok, Err, ap, sym, subst, refl, ◌∙◌, IsTrue}
use Rattle.std.specs.Option.{IsSome}
use Rattle.std.specs.Result.{result_ok}
use Rattle.std.proofs.lemmas.Bool.{cond-true, cond-false}
use Rattle.small_types.specs.declared.limits.TheConstants.{NAME_LIMIT}
use Rattle.small_types.specs.declared.name.NameFault.{NameFault}
use Rattle.small_types.specs.Name.{name_text, is_name, name_of}
use Rattle.small_types.proofs.Spelled.{no_long_name}

-- bytes that spell a name give it
pub name_known : (bytes : List ℕ) → IsTrue (is_name (name_text bytes)) → IsSome (result_ok (name_of bytes))
unfolding name_of
name_known bytes is =
    subst (λ (r : Result (List ℕ) NameFault). IsSome (result_ok r)) (sym (cond-true _ _ _ is)) refl

-- more bytes than a name has spell none
pub name_too_long : (bytes : List ℕ) → NAME_LIMIT < length bytes → None ≡ result_ok (name_of bytes)
unfolding name_of
name_too_long bytes long =
    sym (ap (λ (r : Result (List ℕ) NameFault). result_ok r) (cond-false _ _ _ (no_long_name bytes long)))
