-- When a word spells the name of a file.
use Rattle.std.proofs.Common.{◌≡◌, ◌<◌, ℕ, List, length, Result, Err, IsOk, IsTrue, refl, sym, subst}
use Rattle.std.proofs.lemmas.Bool.{cond-true, cond-false}
use Rattle.percent_encoding.specs.Percent.{percent_decode}
use Rattle.small_types.specs.declared.limits.TheConstants.{NAME_LIMIT}
use Rattle.small_types.specs.declared.name.NameFault.{NameFault}
use Rattle.small_types.specs.declared.name.NameFault.TheVariants.{Bad}
use Rattle.small_types.specs.Name.{is_name, name_of, name_text}
use Rattle.small_types.proofs.Spelled.{no_long_name}
use Rattle.command_text.specs.Lines.{file_of}

-- its bytes are those of a name
pub file_known : (word bytes : List ℕ) → bytes ≡ percent_decode word
    → IsTrue (is_name (name_text bytes)) → IsOk (file_of word)
unfolding name_of
file_known word bytes same is =
    subst (λ (b : List ℕ). IsOk (name_of b)) same
    (subst (λ (r : Result (List ℕ) NameFault). IsOk r) (sym (cond-true _ _ _ is)) refl)

-- they are more than a name has
pub file_too_long : (word : List ℕ) → NAME_LIMIT < length (percent_decode word)
    → file_of word ≡ Err Bad
unfolding name_of
file_too_long word long = cond-false _ _ _ (no_long_name (percent_decode word) long)
