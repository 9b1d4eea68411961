-- A word that may be an address.
use Rattle.std.proofs.Common.{◌≡◌, ◌≤◌, ◌&&◌, ℕ, true, List, [], ◌∷◌, length, All, nat_le}
use Rattle.std.specs.List.{list_all}
use Rattle.std.proofs.lemmas.Bool.{and_parts, leb-true}
use Rattle.std.proofs.lemmas.List.Elements.{All-cons, All-nil}
use Rattle.small_types.specs.declared.limits.TheConstants.{URL_LIMIT}
use Rattle.machine.specs.Words.{IsUrl}
use Rattle.command_text.specs.Lines.{is_url, is_visible}

all_visible : (bytes : List ℕ) → list_all is_visible bytes ≡ true → All (λ (b : ℕ). (33 ≤ b) × (b ≤ 126)) bytes
all_visible [] each = All-nil (λ (b : ℕ). (33 ≤ b) × (b ≤ 126))
all_visible (byte ∷ bytes) each =
    let parts = and_parts (is_visible byte) (list_all is_visible bytes) each in
    let two = and_parts (nat_le 33 byte) (nat_le byte 126) parts.0 in
    All-cons (λ (b : ℕ). (33 ≤ b) × (b ≤ 126)) byte bytes (leb-true 33 byte two.0, leb-true byte 126 two.1) (all_visible bytes parts.1)

pub url_form : (word : List ℕ) → is_url word ≡ true → IsUrl word
unfolding is_url
url_form word is =
    let parts = and_parts (nat_le 1 (length word) && nat_le (length word) URL_LIMIT) (list_all is_visible word) is in
    let two = and_parts (nat_le 1 (length word)) (nat_le (length word) URL_LIMIT) parts.0 in
    record {
      some = leb-true 1 (length word) two.0;
      few = leb-true (length word) URL_LIMIT two.1;
      visible = all_visible word parts.1;
    }
