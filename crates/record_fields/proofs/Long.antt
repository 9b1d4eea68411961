-- How long fields are.
use Rattle.std.proofs.Common.{◌≡◌, ℕ, ◌+◌, ◌≤◌, Bool, true, false, List, ◌++◌, length, flat_map, refl, arith}
use Rattle.std.specs.Int.{w32, to_be_bytes}
use Rattle.std.proofs.lemmas.List.{length-append}
use Rattle.identity.specs.declared.version.Version.{Version}
use Rattle.identity.specs.declared.key.Key.{Key}
use Rattle.record_fields.specs.Fields.{text_field, key_field, version_field}
use Rattle.record_fields.specs.Spelled.{list_field, truth_field}

pub length-text_field : (text : List ℕ) → length (text_field text) ≡ 4 + length text
unfolding text_field
length-text_field text = length-append (to_be_bytes w32 (length text)) text

pub length-key_field : (key : Key) → length (key_field key)
    ≡ 16 + length key.name + length key.token + length key.language + length key.architecture
unfolding key_field
length-key_field key =
    let n = text_field key.name in
    let t = text_field key.token in
    let l = text_field key.language in
    let a = text_field key.architecture in
    omega (
      arith,
      length-append n (t ++ (l ++ a)),
      length-append t (l ++ a),
      length-append l a,
      length-text_field key.name,
      length-text_field key.token,
      length-text_field key.language,
      length-text_field key.architecture,
    )

pub length-version_field : (v : Version) → length (version_field v) ≡ 8
unfolding version_field
length-version_field v = refl

pub length-truth_field : (b : Bool) → length (truth_field b) ≡ 1
length-truth_field false = refl
length-truth_field true = refl

pub length-list_field : {X : Type 0} (field : X → List ℕ) (items : List X)
    → length (list_field field items) ≡ 4 + length (flat_map field items)
unfolding list_field
length-list_field field items =
    length-append (to_be_bytes w32 (length items)) (flat_map field items)

pub ruleset lengths = (length-append, length-text_field, length-version_field, length-truth_field)
