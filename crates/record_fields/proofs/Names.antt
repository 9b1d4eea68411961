-- When a text is no name as it stands.
use Rattle.std.proofs.Common.{◌≡◌, ◌≢◌, ℕ, true, List, Ok, Err, sym, ◌∙◌}
use Rattle.std.proofs.lemmas.Bool.{cond-false, false_from_ne_true}
use Rattle.small_types.specs.declared.name.NameFault.TheVariants.{Bad as NoName}
use Rattle.small_types.specs.Name.{is_name, name_of as read_of}
use Rattle.small_types.proofs.Spelled.{read_again}
use Rattle.record_fields.specs.declared.fault.CodecFault.TheVariants.{Bad}
use Rattle.record_fields.specs.Parts.{name_of}

no_name : (text : List ℕ) (place next : ℕ) → is_name text ≢ true → name_of place text next ≡ Err (Bad place)
no_name text place next other = cond-false _ _ _ (false_from_ne_true (is_name text) other)

-- none is read of it
pub none_read : (text : List ℕ) (place next : ℕ) → read_of text ≡ Err NoName → name_of place text next ≡ Err (Bad place)
none_read text place next none =
    no_name text place next (λ is. let both : Ok text ≡ Err NoName = sym (read_again text is) ∙ none in cc)

-- another is read of it
pub other_read : (text name : List ℕ) (place next : ℕ) → read_of text ≡ Ok name → name ≢ text → name_of place text next ≡ Err (Bad place)
other_read text name place next read other =
    no_name text place next (λ is. let both : Ok name ≡ Ok text = sym read ∙ read_again text is in other cc)
