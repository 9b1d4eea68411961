-- Keys that compare as equal are one key.
use Rattle.std.proofs.Common.{◌≡◌, ◌∙◌, sym, ap, ℕ, true, List, [], ◌∷◌, get_or, bytes_eq}
use Rattle.std.specs.declared.cmp.Ordering.TheVariants.{Equal}
use Rattle.std.specs.Ordering.{is_eq}
use Rattle.std.proofs.lemmas.Map.Text.{is_eq-slice_cmp}
use Rattle.std.proofs.lemmas.Slice.Eq.{bytes_eq-Decides}
use Rattle.percent_encoding.specs.Percent.{percent_decode}
use Rattle.small_types.specs.Cuts.{parts_between}
use Rattle.identity.specs.declared.key.Key.{Key}
use Rattle.identity.specs.Key.{comma, key_text, part_text}
use Rattle.identity.specs.Printed.{text_cmp}
use Rattle.identity.proofs.KeyLemmas.{bytes_of_text, part_again, part_no_comma}
use Rattle.identity.proofs.PartsLemmas.{four_joined}
use Rattle.machine.specs.Entries.{key_cmp}
use Rattle.machine.specs.Fields.{IsShort, IsShortKey}

parts_of : Key → List (List ℕ)
parts_of key = part_text key.name ∷ part_text key.token ∷ part_text key.language ∷ part_text key.architecture ∷ []

text_parts : (key : Key) → parts_between comma (key_text key) ≡ parts_of key
unfolding key_text parts_of
text_parts key =
    four_joined comma (part_text key.name) (part_text key.token) (part_text key.language) (part_text key.architecture)
    (part_no_comma key.name) (part_no_comma key.token) (part_no_comma key.language) (part_no_comma key.architecture)

one_part : {limit : ℕ} (a b : List ℕ) → IsShort limit a → IsShort limit b → part_text a ≡ part_text b → a ≡ b
one_part a b is_a is_b same = sym (part_again a (bytes_of_text a is_a.utf8)) ∙ ap percent_decode same ∙ part_again b (bytes_of_text b is_b.utf8)

one_key : (a b : Key) → a.name ≡ b.name → a.token ≡ b.token → a.language ≡ b.language → a.architecture ≡ b.architecture → a ≡ b
one_key a b name token language architecture =
    ap (λ (x : List ℕ). record a { name = x }) name
    ∙ ap (λ (x : List ℕ). record a { name = b.name; token = x }) token
    ∙ ap (λ (x : List ℕ). record b { language = x; architecture = a.architecture }) language
    ∙ ap (λ (x : List ℕ). record b { architecture = x }) architecture

short_key_text_injective : (a b : Key) → IsShortKey a → IsShortKey b → key_text a ≡ key_text b → a ≡ b
unfolding parts_of
short_key_text_injective a b is_a is_b same =
    let parts : parts_of a ≡ parts_of b = sym (text_parts a) ∙ ap (λ (t : List ℕ). parts_between comma t) same ∙ text_parts b in
    one_key a b
    (one_part a.name b.name is_a.name is_b.name (ap (λ (ps : List (List ℕ)). get_or ps 0 []) parts))
    (one_part a.token b.token is_a.token is_b.token (ap (λ (ps : List (List ℕ)). get_or ps 1 []) parts))
    (one_part a.language b.language is_a.language is_b.language (ap (λ (ps : List (List ℕ)). get_or ps 2 []) parts))
    (one_part a.architecture b.architecture is_a.architecture is_b.architecture (ap (λ (ps : List (List ℕ)). get_or ps 3 []) parts))

-- texts that compare as equal are one text
pub equal_texts : (a b : List ℕ) → text_cmp a b ≡ Equal → a ≡ b
equal_texts a b equal =
    let tested : bytes_eq a b ≡ true = sym (is_eq-slice_cmp a b) ∙ ap is_eq equal in
    (bytes_eq-Decides a b).0 tested

pub equal_keys : (a b : Key) → IsShortKey a → IsShortKey b → key_cmp a b ≡ Equal → a ≡ b
equal_keys a b is_a is_b equal = short_key_text_injective a b is_a is_b (equal_texts (key_text a) (key_text b) equal)
