-- What the steps of an append and of a checkpoint make of a journal.
use Rattle.std.proofs.Common.{◌≡◌, ◌⊎◌, inl, inr, ℕ, ◌+◌, ◌<◌, ◌≤◌, ◌^◌, Bool, true, false, List, [], ◌∷◌, ◌++◌, length, take, refl, sym, ◌∙◌, ap, subst, arith, append_assoc}
use Rattle.std.proofs.lemmas.List.{append-nil}
use Rattle.std.proofs.lemmas.Bool.{cases_eq}
use Rattle.std.specs.List.{flat_map}
use Rattle.journal.specs.declared.side.Side.{Side}
use Rattle.journal.specs.declared.side.Side.TheVariants.{First, Second}
use Rattle.journal.specs.Layout.{size_bytes, long_bytes, entry_of, log_of, half_head, IsLog, IsNextSerial, IsOtherHalf, OpensWith, AreLimits, part_at, start_of, other_side, HalvesStand, IsHalvedJournal}
use Rattle.disks.specs.Outside.{AgreesOutside}
use Rattle.journal.specs.Steps.{OpenAfter, Commits, OpensGate}
use Rattle.journal.proofs.Parts.{length-part_at, same_front, same_before, same_behind, commit_within, opens_commits, open_part, OneByte, one_byte, one_front, one_before, one_behind, one_part}
use Rattle.small_types.specs.Bytes.{put}
use Rattle.disks.proofs.PieceLemmas.{put_over}
use Rattle.journal.proofs.Entries.{opens, either_log}
use Rattle.disks.proofs.OutsideLemmas.{agrees_same}

pub journal : (side : Side) (serial : ℕ) (both : Bool) (blocks half : ℕ) (tables : List ℕ) (changes : List (List ℕ)) (c : List ℕ) → HalvesStand side serial both blocks half tables changes c → IsHalvedJournal blocks half tables changes c
journal side serial both blocks half tables changes c stands = record { side = side; serial = serial; both = both; stands = stands }

pub starts_late : (side : Side) (half : ℕ) → 4096 ≤ start_of side half
starts_late First half = omega arith
starts_late Second half = omega arith

-- a step within one half leaves the other one
other_same : (side : Side) (half place : ℕ) (tail d c : List ℕ) → Commits place tail d c → start_of side half ≤ place → place + 1 + length tail ≤ start_of side half + half
    → part_at (start_of (other_side side) half) half c ≡ part_at (start_of (other_side side) half) half d
other_same First half place tail d c commits low high = same_behind place tail d c commits (4096 + half) half (omega (arith, high))
other_same Second half place tail d c commits low high = same_before place tail d c commits 4096 half (omega (arith, low))

back : (side : Side) → other_side (other_side side) ≡ side
back First = refl
back Second = refl

same_side : (side : Side) (half place : ℕ) (tail d c : List ℕ) → Commits place tail d c → start_of (other_side side) half ≤ place → place + 1 + length tail ≤ start_of (other_side side) half + half
    → part_at (start_of side half) half c ≡ part_at (start_of side half) half d
same_side side half place tail d c commits low high =
    subst (λ (s : Side). part_at (start_of s half) half c ≡ part_at (start_of s half) half d) (back side) (other_same (other_side side) half place tail d c commits low high)

module _ (side : Side) (serial : ℕ) (both : Bool) (blocks half : ℕ) (tables : List ℕ) (changes : List (List ℕ)) where
  -- the journal's other parts are as they were
  stands_with : (all : List (List ℕ)) (d c : List ℕ) → HalvesStand side serial both blocks half tables changes d → take 4096 c ≡ take 4096 d → IsLog (half_head serial tables) all (part_at (start_of side half) half c)
      → part_at (start_of (other_side side) half) half c ≡ part_at (start_of (other_side side) half) half d → HalvesStand side serial both blocks half tables all c
  stands_with all d c stands front log other = record {
    limits = stands.limits;
    head = front ∙ stands.head;
    is_serial = stands.is_serial;
    current = log;
    other = subst (λ (l : List ℕ). IsOtherHalf both serial l) (sym other) stands.other;
  }

  module _ (change tail : List ℕ) (gate : ℕ) (ends : gate ≡ length (log_of (half_head serial tables) changes)) (small : length change < 2 ^ 32)
      (is_tail : tail ≡ size_bytes (length change) ++ (change ++ 0 ∷ [])) (fits : gate + 1 + length tail ≤ half) where
    -- one entry more, or not
    pub appends : (d c : List ℕ) → HalvesStand side serial both blocks half tables changes d → Commits (start_of side half + gate) tail d c
        → HalvesStand side serial both blocks half tables changes c ⊎ HalvesStand side serial both blocks half tables (changes ++ change ∷ []) c
    appends d c stands commits =
        let start = start_of side half in
        let late = starts_late side half in
        let closed = stands.current.closed in
        let front = same_front (start + gate) tail d c commits 4096 (omega (arith, late)) in
        let other = other_same side half (start + gate) tail d c commits (omega arith) (omega (arith, fits)) in
        let part = commit_within (start + gate) tail d c commits start half (log_of (half_head serial tables) changes) (closed.gate ∷ closed.rest) closed.split (omega (arith, ends)) (omega (arith, ends, fits)) in
        elim (either_log (half_head serial tables) changes change tail (part_at start half c) stands.current.small small is_tail part) [
          | inl before ↦ inl (stands_with changes d c stands front before other)
          | inr after ↦ inr (stands_with (changes ++ change ∷ []) d c stands front after other)
        ]

    pub appended : (d c : List ℕ) → HalvesStand side serial both blocks half tables changes d → OpensGate (start_of side half + gate) tail d c → HalvesStand side serial both blocks half tables (changes ++ change ∷ []) c
    appended d c stands open_now =
        let start = start_of side half in
        let late = starts_late side half in
        let closed = stands.current.closed in
        let commits = opens_commits (start + gate) tail d c open_now in
        let front = same_front (start + gate) tail d c commits 4096 (omega (arith, late)) in
        let other = other_same side half (start + gate) tail d c commits (omega arith) (omega (arith, fits)) in
        let part = open_part (start + gate) tail d c open_now start half (log_of (half_head serial tables) changes) (closed.gate ∷ closed.rest) closed.split (omega (arith, ends)) (omega (arith, ends, fits)) in
        stands_with (changes ++ change ∷ []) d c stands front (opens (half_head serial tables) changes change tail (part_at start half c) stands.current.small small is_tail part) other

-- a half that begins with tables and no change
new_half : (serial : ℕ) (tables tail bytes : List ℕ) → tail ≡ serial ∷ (long_bytes (length tables) ++ (tables ++ 0 ∷ [])) → OpenAfter [] tail bytes → IsLog (half_head serial tables) [] bytes
new_half serial tables tail bytes is open_now =
    let front = long_bytes (length tables) ++ tables in
    record {
      closed = record {
        gate = 0;
        rest = open_now.rest;
        shut = omega arith;
        split = open_now.split
            ∙ ap (λ (l : List ℕ). 1 ∷ (l ++ open_now.rest)) (is ∙ ap (λ (l : List ℕ). serial ∷ l) (sym (append_assoc (long_bytes (length tables)) tables (0 ∷ []))))
            ∙ ap (λ (l : List ℕ). 1 ∷ serial ∷ l) (append_assoc front (0 ∷ []) open_now.rest)
            ∙ ap (λ (l : List ℕ). 1 ∷ serial ∷ (l ++ 0 ∷ open_now.rest)) (sym (append-nil front));
      };
      small = tt;
    }

open_with : (serial : ℕ) (tables : List ℕ) (changes : List (List ℕ)) (bytes : List ℕ) → IsLog (half_head serial tables) changes bytes → OpensWith serial bytes
open_with serial tables changes bytes log = record {
  rest = ((long_bytes (length tables) ++ tables) ++ flat_map entry_of changes) ++ log.closed.gate ∷ log.closed.rest;
  split = log.closed.split;
}

module _ (side : Side) (serial serial_new : ℕ) (next : IsNextSerial serial serial_new) (blocks half : ℕ) (tables : List ℕ) (changes : List (List ℕ)) (tables_new tail : List ℕ)
    (is_tail : tail ≡ serial_new ∷ (long_bytes (length tables_new) ++ (tables_new ++ 0 ∷ []))) (fits : 1 + length tail ≤ half) where
  abbrev place : ℕ
  place = start_of (other_side side) half

  turned : (d c : List ℕ) → HalvesStand side serial false blocks half tables changes d → take 4096 c ≡ take 4096 d → part_at (start_of side half) half c ≡ part_at (start_of side half) half d
      → OpenAfter [] tail (part_at place half c) → HalvesStand (other_side side) serial_new true blocks half tables_new [] c
  turned d c stands front same open_now = record {
    limits = stands.limits;
    head = front ∙ stands.head;
    is_serial = omega (arith, next.1);
    current = new_half serial_new tables_new tail (part_at place half c) is_tail open_now;
    other = subst (λ (s : Side). IsOtherHalf true serial_new (part_at (start_of s half) half c)) (sym (back side))
        (serial, open_with serial tables changes (part_at (start_of side half) half c) (subst (λ (l : List ℕ). IsLog (half_head serial tables) changes l) (sym same) stands.current), next);
  }

  -- the other half is still closed, or it is the current one
  pub turns : (d c : List ℕ) → HalvesStand side serial false blocks half tables changes d → Commits place tail d c
      → HalvesStand side serial false blocks half tables changes c ⊎ HalvesStand (other_side side) serial_new true blocks half tables_new [] c
  turns d c stands commits =
      let late = starts_late (other_side side) half in
      let closed = stands.other in
      let front = same_front place tail d c commits 4096 (omega (arith, late)) in
      let same = same_side side half place tail d c commits (omega arith) (omega (arith, fits)) in
      let part = commit_within place tail d c commits place half [] (closed.gate ∷ closed.rest) closed.split (omega arith) (omega (arith, fits)) in
      elim part [
        | inl shut ↦ inl (record {
          limits = stands.limits;
          head = front ∙ stands.head;
          is_serial = stands.is_serial;
          current = subst (λ (l : List ℕ). IsLog (half_head serial tables) changes l) (sym same) stands.current;
          other = shut;
        })
        | inr open_now ↦ inr (turned d c stands front same open_now)
      ]

  pub turned_over : (d c : List ℕ) → HalvesStand side serial false blocks half tables changes d → OpensGate place tail d c → HalvesStand (other_side side) serial_new true blocks half tables_new [] c
  turned_over d c stands open_now =
      let late = starts_late (other_side side) half in
      let closed = stands.other in
      let commits = opens_commits place tail d c open_now in
      let front = same_front place tail d c commits 4096 (omega (arith, late)) in
      let same = same_side side half place tail d c commits (omega arith) (omega (arith, fits)) in
      turned d c stands front same (open_part place tail d c open_now place half [] (closed.gate ∷ closed.rest) closed.split (omega arith) (omega (arith, fits)))

-- The other half's gate is written.
module _ (side : Side) (serial blocks half : ℕ) (tables : List ℕ) (changes : List (List ℕ)) where
  abbrev at_other : ℕ
  at_other = start_of (other_side side) half

  -- there are two bytes at least
  long_enough : (d : List ℕ) → HalvesStand side serial true blocks half tables changes d → at_other + 1 < length d
  long_enough d stands =
      let part = stands.other.1.split in
      omega (arith, ap length part, length-part_at at_other half d)

  one_same : (d c : List ℕ) → AreLimits blocks half → OneByte at_other d c → part_at (start_of side half) half c ≡ part_at (start_of side half) half d
  one_same = by side
    where
      by : (s : Side) (d c : List ℕ) → AreLimits blocks half → OneByte (start_of (other_side s) half) d c → part_at (start_of s half) half c ≡ part_at (start_of s half) half d
      by First d c limits one = one_before (4096 + half) d c one 4096 half (omega arith)
      by Second d c limits one = one_behind 4096 d c one (4096 + half) half (omega (arith, limits.least))

  -- with a closed gate there
  pub shut : (d c : List ℕ) → HalvesStand side serial true blocks half tables changes d → (one : OneByte at_other d c) → (one.gate_new ≡ 1 → ⊥) → HalvesStand side serial false blocks half tables changes c
  shut d c stands one closed =
      let late = starts_late (other_side side) half in
      let part = one_part at_other d c one half 1 stands.other.0 stands.other.1.rest (omega (arith, stands.limits.least)) stands.other.1.split in
      record {
        limits = stands.limits;
        head = one_front at_other d c one 4096 late ∙ stands.head;
        is_serial = stands.is_serial;
        current = subst (λ (l : List ℕ). IsLog (half_head serial tables) changes l) (sym (one_same d c stands.limits one)) stands.current;
        other = record { gate = one.gate_new; rest = stands.other.0 ∷ stands.other.1.rest; shut = closed; split = part };
      }

  -- with an open one
  still : (d c : List ℕ) → HalvesStand side serial true blocks half tables changes d → (one : OneByte at_other d c) → one.gate_new ≡ 1 → HalvesStand side serial true blocks half tables changes c
  still d c stands one is_open =
      let late = starts_late (other_side side) half in
      let part = one_part at_other d c one half 1 stands.other.0 stands.other.1.rest (omega (arith, stands.limits.least)) stands.other.1.split in
      record {
        limits = stands.limits;
        head = one_front at_other d c one 4096 late ∙ stands.head;
        is_serial = stands.is_serial;
        current = subst (λ (l : List ℕ). IsLog (half_head serial tables) changes l) (sym (one_same d c stands.limits one)) stands.current;
        other = (stands.other.0, record { rest = stands.other.1.rest; split = part ∙ ap (λ (k : ℕ). k ∷ stands.other.0 ∷ stands.other.1.rest) is_open }, stands.other.2);
      }

  pub closing : (d c : List ℕ) → HalvesStand side serial true blocks half tables changes d → AgreesOutside at_other 1 d c → IsHalvedJournal blocks half tables changes c
  closing d c stands agrees =
      let one = one_byte at_other d c (long_enough d stands) agrees in
      elim (cases_eq one.gate_new 1) [
        | inl is_open ↦ journal side serial true blocks half tables changes c (still d c stands one is_open)
        | inr closed ↦ journal side serial false blocks half tables changes c (shut d c stands one closed)
      ]

  pub shut_now : (d c : List ℕ) → HalvesStand side serial true blocks half tables changes d → c ≡ put at_other (0 ∷ []) d → HalvesStand side serial false blocks half tables changes c
  shut_now d c stands is =
      let same = one_byte at_other d d (long_enough d stands) (agrees_same at_other 1 d) in
      let one : OneByte at_other d c = record {
        base = same.base;
        at = same.at;
        gate = same.gate;
        gate_new = 0;
        back = same.back;
        was = same.was;
        is = is ∙ ap (put at_other (0 ∷ [])) same.was ∙ put_over same.base at_other same.at (0 ∷ []) (same.gate ∷ []) same.back (omega arith);
      } in
      shut d c stands one (omega arith)
