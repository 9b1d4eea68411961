-- What the layer above needs of journals: bytes are one journal at most, and what is written behind the halves changes none.
use Rattle.std.proofs.Common.{◌≡◌, ℕ, ◌+◌, ◌<◌, ◌≤◌, ◌^◌, Bool, true, false, List, [], ◌∷◌, ◌++◌, length, take, drop, sym, ◌∙◌, ap, subst, arith, length-append}
use Rattle.std.proofs.lemmas.List.{append-nil}
use Rattle.std.specs.List.{flat_map}
use Rattle.small_types.specs.declared.limits.TheConstants.{HALF_LIMIT}
use Rattle.journal.specs.declared.side.Side.{Side}
use Rattle.journal.specs.declared.side.Side.TheVariants.{First, Second}
use Rattle.journal.specs.Layout.{long_bytes, entry_of, head_of, AreLimits, AreSmall, ClosedAfter, IsHalf, OpensWith, IsNextSerial, IsOtherHalf, part_at, start_of, HalvesStand, IsHalvedJournal, NoJournal}
use Rattle.journal.specs.Steps.{FoundHalf, HalvesBegin}
use Rattle.journal.proofs.HeadBlock.{blocks_of_head, half_of_head}
use Rattle.journal.proofs.Halves.{half_size}
use Rattle.journal.proofs.Parse.{append_same, peel}
use Rattle.journal.proofs.Parts.{length-part_at}
use Rattle.journal.proofs.Tables.{length-long_bytes}
use Rattle.std.proofs.lemmas.Nat.{from_be_bytes-to_be_bytes_8}
use Rattle.std.specs.Int.{from_be_bytes, w64}

long_same : (n m : ℕ) → n < 2 ^ 64 → m < 2 ^ 64 → long_bytes n ≡ long_bytes m → n ≡ m
unfolding long_bytes
long_same n m small_n small_m is = sym (from_be_bytes-to_be_bytes_8 n small_n) ∙ ap (from_be_bytes w64) is ∙ from_be_bytes-to_be_bytes_8 m small_m

-- entries are read in one way
entries_same : (changes others : List (List ℕ)) (gate : ℕ) (rest : List ℕ) → (gate ≡ 1 → ⊥) → AreSmall changes → AreSmall others → ClosedAfter (flat_map entry_of others) (flat_map entry_of changes ++ gate ∷ rest) → changes ≡ others
entries_same changes others gate rest shut small small_others closed =
    let later = peel changes others (gate ∷ rest) small small_others closed in
    none later.0 later.2 later.3
  where
    none : (more : List (List ℕ)) → ClosedAfter (flat_map entry_of more) (gate ∷ rest) → others ≡ changes ++ more → changes ≡ others
    none [] closed is = sym (is ∙ append-nil changes)
    none (y ∷ more) closed is = let one : gate ≡ 1 = cc (closed.split) in absurd (shut one)

-- and halves too
pub half_same : (serial other : ℕ) (tables others : List ℕ) (changes more : List (List ℕ)) (part : List ℕ) → length part < 2 ^ 64 → IsHalf serial tables changes part → IsHalf other others more part → (tables ≡ others) × (changes ≡ more)
half_same serial other tables others changes more part short one two =
    let rest = flat_map entry_of changes ++ one.closed.gate ∷ one.closed.rest in
    let rest' = flat_map entry_of more ++ two.closed.gate ∷ two.closed.rest in
    let a = half_size serial tables changes part one in
    let b = half_size other others more part two in
    let small_a : length tables < 2 ^ 64 = omega (arith, short, ap length a, length-append (long_bytes (length tables)) (tables ++ rest), length-append tables rest) in
    let small_b : length others < 2 ^ 64 = omega (arith, short, ap length b, length-append (long_bytes (length others)) (others ++ rest'), length-append others rest') in
    let both : long_bytes (length tables) ++ (tables ++ rest) ≡ long_bytes (length others) ++ (others ++ rest') = ap (drop 2) (sym a ∙ b) in
    let parts = append_same (long_bytes (length tables)) (long_bytes (length others)) (tables ++ rest) (others ++ rest') (length-long_bytes (length tables) ∙ sym (length-long_bytes (length others))) both in
    let size = long_same (length tables) (length others) small_a small_b parts.0 in
    let same = append_same tables others rest rest' size parts.1 in
    (same.0, entries_same changes more one.closed.gate one.closed.rest one.closed.shut one.small two.small (record { gate = two.closed.gate; rest = two.closed.rest; shut = two.closed.shut; split = same.1 }))

-- an open half is no closed one, and it has one serial
pub opens_half : (serial : ℕ) (tables : List ℕ) (changes : List (List ℕ)) (part : List ℕ) → IsHalf serial tables changes part → OpensWith serial part
opens_half serial tables changes part log = record {
  rest = long_bytes (length tables) ++ (tables ++ (flat_map entry_of changes ++ log.closed.gate ∷ log.closed.rest));
  split = half_size serial tables changes part log;
}

next_of : (both : Bool) (serial other : ℕ) (part : List ℕ) → OpensWith serial part → IsOtherHalf both other part → IsNextSerial serial other
next_of true serial other part opens is =
    let same : 1 ∷ is.0 ∷ is.1.rest ≡ 1 ∷ serial ∷ opens.rest = sym is.1.split ∙ opens.split in
    let before : is.0 ≡ serial = cc in
    subst (λ (n : ℕ). IsNextSerial n other) before is.2
next_of false serial other part opens is =
    let same : is.gate ∷ is.rest ≡ 1 ∷ serial ∷ opens.rest = sym is.split ∙ opens.split in
    let one : is.gate ≡ 1 = cc in
    absurd (is.shut one)

no_both : (a b : ℕ) → IsNextSerial a b → IsNextSerial b a → ⊥
no_both a b next back = omega (arith, next.0, next.1, back.0, back.1)

short_part : (q half : ℕ) (image : List ℕ) → half ≤ HALF_LIMIT → length (part_at q half image) < 2 ^ 64
short_part q half image small = omega (arith, length-part_at q half image, small)

module _ (image : List ℕ) (half : ℕ) where
  sides : (side side' : Side) (serial serial' : ℕ) (both both' : Bool) (blocks blocks' : ℕ) (tables tables' : List ℕ) (changes changes' : List (List ℕ)) → HalvesStand side serial both blocks half tables changes image
      → HalvesStand side' serial' both' blocks' half tables' changes' image → (tables ≡ tables') × (changes ≡ changes')
  sides First First s s' b b' n n' t t' c c' one two = half_same s s' t t' c c' (part_at 4096 half image) (short_part 4096 half image one.limits.greatest) one.current two.current
  sides Second Second s s' b b' n n' t t' c c' one two = half_same s s' t t' c c' (part_at (4096 + half) half image) (short_part (4096 + half) half image one.limits.greatest) one.current two.current
  sides First Second s s' b b' n n' t t' c c' one two =
      absurd (no_both s s' (next_of b' s s' (part_at 4096 half image) (opens_half s t c (part_at 4096 half image) one.current) two.other)
      (next_of b s' s (part_at (4096 + half) half image) (opens_half s' t' c' (part_at (4096 + half) half image) two.current) one.other))
  sides Second First s s' b b' n n' t t' c c' one two =
      absurd (no_both s s' (next_of b' s s' (part_at (4096 + half) half image) (opens_half s t c (part_at (4096 + half) half image) one.current) two.other)
      (next_of b s' s (part_at 4096 half image) (opens_half s' t' c' (part_at 4096 half image) two.current) one.other))

-- bytes are one journal at most
pub unique : (image : List ℕ) (blocks blocks' half half' : ℕ) (tables tables' : List ℕ) (changes changes' : List (List ℕ)) → IsHalvedJournal blocks half tables changes image → IsHalvedJournal blocks' half' tables' changes' image
    → (blocks ≡ blocks') × (half ≡ half') × (tables ≡ tables') × (changes ≡ changes')
unique image blocks blocks' half half' tables tables' changes changes' one two =
    let a = one.stands in
    let b = two.stands in
    let same_blocks : blocks ≡ blocks' = sym (blocks_of_head blocks half (take 4096 image) a.limits a.head) ∙ blocks_of_head blocks' half' (take 4096 image) b.limits b.head in
    let same_half : half ≡ half' = sym (half_of_head blocks half (take 4096 image) a.limits a.head) ∙ half_of_head blocks' half' (take 4096 image) b.limits b.head in
    let same = sides image half one.side two.side one.serial two.serial one.both two.both blocks blocks' tables tables' changes changes' a
    (subst (λ (h : ℕ). HalvesStand two.side two.serial two.both blocks' h tables' changes' image) (sym same_half) b) in
    (same_blocks, same_half, same.0, same.1)

-- what was read is a journal
pub found_stands : (side : Side) (serial : ℕ) (both : Bool) (blocks half gate : ℕ) (tables : List ℕ) (changes : List (List ℕ)) (head image : List ℕ) → AreLimits blocks half → head ≡ part_at 0 4096 image → head ≡ head_of blocks half
    → HalvesBegin side serial both half image → FoundHalf serial tables changes gate (part_at (start_of side half) half image) → HalvesStand side serial both blocks half tables changes image
unfolding part_at
found_stands side serial both blocks half gate tables changes head image limits is is_head begins found = record {
  limits = limits;
  head = sym is ∙ is_head;
  is_serial = begins.is_serial;
  current = found.log;
  other = begins.other;
}

-- no head of one
pub no_journal_head : (head image : List ℕ) → head ≡ part_at 0 4096 image → ((blocks half : ℕ) → AreLimits blocks half → head ≡ head_of blocks half → ⊥) → NoJournal image
unfolding part_at
no_journal_head head image is none blocks half tables changes journal = none blocks half journal.stands.limits (is ∙ journal.stands.head)

module _ (head image : List ℕ) (blocks half : ℕ) (is : head ≡ part_at 0 4096 image) (limits : AreLimits blocks half) (is_head : head ≡ head_of blocks half) where
  same_half : (blocks' half' : ℕ) → AreLimits blocks' half' → take 4096 image ≡ head_of blocks' half' → half' ≡ half
  unfolding part_at
  same_half blocks' half' limits' is' = sym (half_of_head blocks' half' head limits' (is ∙ is')) ∙ half_of_head blocks half head limits is_head

  stands_begins : (side : Side) (serial : ℕ) (both : Bool) (n : ℕ) (tables : List ℕ) (changes : List (List ℕ)) → HalvesStand side serial both n half tables changes image → HalvesBegin side serial both half image
  stands_begins side serial both n tables changes stands = record {
    opens = opens_half serial tables changes (part_at (start_of side half) half image) stands.current;
    is_serial = stands.is_serial;
    other = stands.other;
  }

  here : (n h : ℕ) (tables : List ℕ) (changes : List (List ℕ)) → (journal : IsHalvedJournal n h tables changes image) → HalvesStand journal.side journal.serial journal.both n half tables changes image
  here n h tables changes journal = subst (λ (k : ℕ). HalvesStand journal.side journal.serial journal.both n k tables changes image) (same_half n h journal.stands.limits journal.stands.head) journal.stands

  -- no half of which is current
  pub no_journal_side : ((side : Side) (serial : ℕ) (both : Bool) → HalvesBegin side serial both half image → ⊥) → NoJournal image
  no_journal_side none n h tables changes journal =
      none journal.side journal.serial journal.both (stands_begins journal.side journal.serial journal.both n tables changes (here n h tables changes journal))

  -- whose current half is none
  pub no_journal_half : (side : Side) (serial : ℕ) (both : Bool) → HalvesBegin side serial both half image
      → ((serial : ℕ) (tables : List ℕ) (changes : List (List ℕ)) → IsHalf serial tables changes (part_at (start_of side half) half image) → ⊥) → NoJournal image
  no_journal_half side serial both begins none n h tables changes journal =
      let stands = here n h tables changes journal in
      by side journal.side journal.serial journal.both serial both begins none stands
    where
      by : (side side' : Side) (serial' : ℕ) (both' : Bool) (serial : ℕ) (both : Bool) → HalvesBegin side serial both half image
          → ((serial : ℕ) (tables : List ℕ) (changes : List (List ℕ)) → IsHalf serial tables changes (part_at (start_of side half) half image) → ⊥) → HalvesStand side' serial' both' n half tables changes image → ⊥
      by First First s' b' s b begins none stands = none s' tables changes stands.current
      by Second Second s' b' s b begins none stands = none s' tables changes stands.current
      by First Second s' b' s b begins none stands =
          no_both s s' (next_of b' s s' (part_at 4096 half image) begins.opens stands.other)
          (next_of b s' s (part_at (4096 + half) half image) (opens_half s' tables changes (part_at (4096 + half) half image) stands.current) begins.other)
      by Second First s' b' s b begins none stands =
          no_both s s' (next_of b' s s' (part_at (4096 + half) half image) begins.opens stands.other)
          (next_of b s' s (part_at 4096 half image) (opens_half s' tables changes (part_at 4096 half image) stands.current) begins.other)
