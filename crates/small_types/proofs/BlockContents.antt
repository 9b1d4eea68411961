-- A content in its blocks, whole and byte by byte.
use Rattle.std.proofs.Common.{◌≡◌, ◌⊎◌, ℕ, zero, suc, ◌+◌, ◌-◌, ◌*◌, ◌<◌, ◌≤◌, min, List, [], ◌∷◌, ◌++◌, length, take, drop, get_or, refl, sym, ◌∙◌, ap, subst, arith, inl, inr}
use Rattle.std.proofs.lemmas.List.{length-take, length-drop, length-append, get_or-take, get_or-drop, get_or_append_left, get_or-append_right, nil_from_length, same_lists, take-append-drop, get_or_default}
use Rattle.std.proofs.lemmas.Bool.{cases_lt}
use Rattle.small_types.specs.Blocks.{place_of, place_at, bytes_in, IsContent, Stands}
use Rattle.small_types.proofs.BlockPlaces.{place_first, place_next}

pub bytes_in-nil : (base n : ℕ) (image : List ℕ) → bytes_in base [] n image ≡ []
unfolding bytes_in
bytes_in-nil base n image = refl

pub bytes_in-cons : (base b : ℕ) (bs : List ℕ) (n : ℕ) (image : List ℕ) → bytes_in base (b ∷ bs) n image ≡ take (min 4096 n) (drop (place_of base b) image) ++ bytes_in base bs (n - 4096) image
unfolding bytes_in
bytes_in-cons base b bs n image = refl

-- no more than n
pub bytes_in-le : (base : ℕ) (blocks : List ℕ) (n : ℕ) (image : List ℕ) → length (bytes_in base blocks n image) ≤ n
bytes_in-le base [] n image = omega (arith, ap length (bytes_in-nil base n image))
bytes_in-le base (b ∷ bs) n image =
    let head = take (min 4096 n) (drop (place_of base b) image) in
    omega (arith, ap length (bytes_in-cons base b bs n image), length-append head (bytes_in base bs (n - 4096) image), length-take (min 4096 n) (drop (place_of base b) image), bytes_in-le base bs (n - 4096) image)

-- where there are n of them, each stands at its place
pub bytes_in-at : (base : ℕ) (blocks : List ℕ) (n : ℕ) (image : List ℕ) → length (bytes_in base blocks n image) ≡ n
    → (i : ℕ) → i < n → (place_at base blocks i < length image) × (get_or image (place_at base blocks i) 0 ≡ get_or (bytes_in base blocks n image) i 0)
bytes_in-at base [] n image whole i low = absurd (omega (arith, ap length (bytes_in-nil base n image)))
bytes_in-at base (b ∷ bs) n image whole i low = by (cases_lt i 4096) (λ j below. bytes_in-at base bs (n - 4096) image size_rest j below)
  where
    m : ℕ
    m = min 4096 n

    p : ℕ
    p = place_of base b

    head : List ℕ
    head = take (min 4096 n) (drop (place_of base b) image)

    rest : List ℕ
    rest = bytes_in base bs (n - 4096) image

    split : bytes_in base (b ∷ bs) n image ≡ take (min 4096 n) (drop (place_of base b) image) ++ bytes_in base bs (n - 4096) image
    split = bytes_in-cons base b bs n image

    size_head : length (take (min 4096 n) (drop (place_of base b) image)) ≡ min (min 4096 n) (length image - (base + 4096 * b))
    size_head = length-take (min 4096 n) (drop (place_of base b) image) ∙ ap (min (min 4096 n)) (length-drop (place_of base b) image)

    both : length (take (min 4096 n) (drop (place_of base b) image)) + length (bytes_in base bs (n - 4096) image) ≡ n
    both = sym (length-append (take (min 4096 n) (drop (place_of base b) image)) (bytes_in base bs (n - 4096) image)) ∙ sym (ap length split) ∙ whole

    size_rest : length (bytes_in base bs (n - 4096) image) ≡ n - 4096
    size_rest = omega (arith, both, size_head, bytes_in-le base bs (n - 4096) image)

    full : min 4096 n ≤ length image - (base + 4096 * b)
    full = omega (arith, both, size_head, size_rest)

    by : (i < 4096) ⊎ (4096 ≤ i)
        → ((j : ℕ) → j < n - 4096 → (place_at base bs j < length image) × (get_or image (place_at base bs j) 0 ≡ get_or (bytes_in base bs (n - 4096) image) j 0))
        → (place_at base (b ∷ bs) i < length image) × (get_or image (place_at base (b ∷ bs) i) 0 ≡ get_or (bytes_in base (b ∷ bs) n image) i 0)
    by (inl first) later =
        let at = place_first base b bs i first in
        let inside : i < min 4096 n = omega arith in (
          omega (arith, at, full),
          ap (λ (k : ℕ). get_or image k 0) at
              ∙ sym (get_or-drop (place_of base b) image i 0)
              ∙ sym (get_or-take (min 4096 n) (drop (place_of base b) image) i 0 inside)
              ∙ sym (get_or_append_left (take (min 4096 n) (drop (place_of base b) image)) (bytes_in base bs (n - 4096) image) 0 i (omega (arith, size_head, full)))
              ∙ ap (λ (l : List ℕ). get_or l i 0) (sym split),
        )
    by (inr next) later =
        let j = i - 4096 in
        let at = place_next base b bs i j (omega arith) in
        let there = later j (omega arith) in
        let size : length (take (min 4096 n) (drop (place_of base b) image)) ≡ 4096 = omega (arith, size_head, full) in (
          omega (arith, at, there.0),
          ap (λ (k : ℕ). get_or image k 0) at
              ∙ there.1
              ∙ sym (get_or-append_right (take (min 4096 n) (drop (place_of base b) image)) (bytes_in base bs (n - 4096) image) 4096 i 0 size next)
              ∙ ap (λ (l : List ℕ). get_or l i 0) (sym split),
        )

pub stands_from_content : (base : ℕ) (blocks content image : List ℕ) → IsContent base blocks content image → Stands base blocks content image
unfolding IsContent Stands
stands_from_content base blocks content image is i low =
    let there = bytes_in-at base blocks (length content) image (ap length is) i low in
    (there.0, there.1 ∙ ap (λ (l : List ℕ). get_or l i 0) is)

first_block : (m p : ℕ) (content image : List ℕ) → m ≤ length content → ((i : ℕ) → i < m → (p + i < length image) × (get_or image (p + i) 0 ≡ get_or content i 0)) → take m (drop p image) ≡ take m content
first_block m p content image within each =
    let enough : (m ≡ 0) ⊎ (p + m ≤ length image) = enough m each in
    same_lists (take m (drop p image)) (take m content) (size enough) same
  where
    enough : (m : ℕ) → ((i : ℕ) → i < m → (p + i < length image) × (get_or image (p + i) 0 ≡ get_or content i 0)) → (m ≡ 0) ⊎ (p + m ≤ length image)
    enough zero each = inl refl
    enough (suc k) each = inr (let last = (each k (omega arith)).0 in omega arith)

    size : (m ≡ 0) ⊎ (p + m ≤ length image) → length (take m (drop p image)) ≡ length (take m content)
    size (inl none) = omega (arith, length-take m (drop p image), length-take m content)
    size (inr long) = omega (arith, length-take m (drop p image), length-take m content, length-drop p image)

    same : (k d : ℕ) → k < length (take m (drop p image)) → get_or (take m (drop p image)) k d ≡ get_or (take m content) k d
    same k d low =
        let below : k < m = omega (arith, length-take m (drop p image)) in
        let there = each k below in
        get_or-take m (drop p image) k d below ∙ get_or-drop p image k d ∙ get_or_default image (p + k) d 0 there.0 ∙ there.1
        ∙ get_or_default content k 0 d (omega arith) ∙ sym (get_or-take m content k d below)

pub bytes_in-from_places : (base : ℕ) (blocks content image : List ℕ) → length content ≤ 4096 * length blocks
    → ((i : ℕ) → i < length content → (place_at base blocks i < length image) × (get_or image (place_at base blocks i) 0 ≡ get_or content i 0))
    → bytes_in base blocks (length content) image ≡ content
bytes_in-from_places base [] content image fits each = bytes_in-nil base (length content) image ∙ sym (nil_from_length content (omega arith))
bytes_in-from_places base (b ∷ bs) content image fits each =
    bytes_in-cons base b bs (length content) image
    ∙ ap (λ (l : List ℕ). l ++ bytes_in base bs (length content - 4096) image) head
    ∙ ap (λ (k : ℕ). take (min 4096 (length content)) content ++ bytes_in base bs k image) (sym size)
    ∙ ap (λ (l : List ℕ). take (min 4096 (length content)) content ++ l) (bytes_in-from_places base bs (drop (min 4096 (length content)) content) image (omega (arith, size)) later)
    ∙ take-append-drop (min 4096 (length content)) content
  where
    size : length (drop (min 4096 (length content)) content) ≡ length content - 4096
    size = omega (arith, length-drop (min 4096 (length content)) content)

    head : take (min 4096 (length content)) (drop (place_of base b) image) ≡ take (min 4096 (length content)) content
    head = first_block (min 4096 (length content)) (place_of base b) content image (omega arith)
        (λ i low. let at = place_first base b bs i (omega arith) in
        subst (λ (q : ℕ). (q < length image) × (get_or image q 0 ≡ get_or content i 0)) at (each i (omega arith)))

    later : (j : ℕ) → j < length (drop (min 4096 (length content)) content)
        → (place_at base bs j < length image) × (get_or image (place_at base bs j) 0 ≡ get_or (drop (min 4096 (length content)) content) j 0)
    later j low =
        let at = place_next base b bs (4096 + j) j refl in
        let there = each (4096 + j) (omega (arith, size)) in
        let full : min 4096 (length content) ≡ 4096 = omega (arith, size) in (
          omega (arith, at, there.0),
          ap (λ (q : ℕ). get_or image q 0) (sym at) ∙ there.1 ∙ ap (λ (k : ℕ). get_or content (k + j) 0) (sym full) ∙ sym (get_or-drop (min 4096 (length content)) content j 0),
        )

pub content_from_stands : (base : ℕ) (blocks content image : List ℕ) → length content ≤ 4096 * length blocks → Stands base blocks content image → IsContent base blocks content image
unfolding IsContent Stands
content_from_stands base blocks content image fits each = bytes_in-from_places base blocks content image fits each
