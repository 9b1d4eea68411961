-- The addresses of the releases are those of lines.
use Rattle.std.proofs.Common.{◌≡◌, ◌≤◌, ◌&&◌, ℕ, Bool, true, List, [], ◌∷◌, length, All, nat_le, refl}
use Rattle.std.specs.List.{list_all}
use Rattle.std.proofs.lemmas.Bool.{and_parts, leb-true}
use Rattle.std.proofs.lemmas.List.Elements.{All-cons, All-nil}
use Rattle.small_types.specs.declared.limits.TheConstants.{URL_LIMIT}
use Rattle.machine.specs.Words.{IsUrl}
use Rattle.generated_release.specs.declared.release.GeneratedRelease.{GeneratedRelease}
use Rattle.generated_release.specs.declared.release.GeneratedRelease.TheVariants.{One, Two, Three}
use Rattle.generated_release.specs.Options.{url_of}

abbrev is_visible : ℕ → Bool
is_visible byte = nat_le 33 byte && nat_le byte 126

all_visible : (bytes : List ℕ) → list_all is_visible bytes ≡ true
    → All (λ (b : ℕ). (33 ≤ b) × (b ≤ 126)) bytes
all_visible [] each = All-nil (λ (b : ℕ). (33 ≤ b) × (b ≤ 126))
all_visible (byte ∷ bytes) each =
    let parts = and_parts (is_visible byte) (list_all is_visible bytes) each in
    let two = and_parts (nat_le 33 byte) (nat_le byte 126) parts.0 in
    All-cons (λ (b : ℕ). (33 ≤ b) × (b ≤ 126)) byte bytes
    (leb-true 33 byte two.0, leb-true byte 126 two.1) (all_visible bytes parts.1)

url_by : (url : List ℕ) → nat_le 1 (length url) ≡ true → nat_le (length url) URL_LIMIT ≡ true
    → list_all is_visible url ≡ true → IsUrl url
url_by url some few each = record {
  some = leb-true 1 (length url) some;
  few = leb-true (length url) URL_LIMIT few;
  visible = all_visible url each;
}

pub is_url : (release : GeneratedRelease) → IsUrl (url_of release)
is_url One = url_by (url_of One) refl refl refl
is_url Two = url_by (url_of Two) refl refl refl
is_url Three = url_by (url_of Three) refl refl refl
