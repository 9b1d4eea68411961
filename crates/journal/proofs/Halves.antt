-- What the first bytes of halves say of whole ones, and how a half is read.
use Rattle.std.proofs.Common.{Option, Some, None, ◌≡◌, ◌⊎◌, ℕ, zero, suc, ◌+◌, ◌-◌, ◌<◌, ◌≤◌, ◌^◌, Bool, true, false, List, [], ◌∷◌, ◌++◌, length, get_or, take, drop, refl, sym, ◌∙◌, ap, subst, arith, append_assoc, length-append, length-take, length-drop, take-append-drop}
use Rattle.std.proofs.lemmas.List.{take_at, drop-drop, drop-append-le, take-append-le}
use Rattle.std.specs.List.{flat_map}
use Rattle.std.specs.Option.{IfNone}
use Rattle.std.specs.Int.{from_be_bytes, w64}
use Rattle.std.proofs.lemmas.Nat.{be_bytes_8, from_be_bytes-to_be_bytes_8}
use Rattle.journal.specs.declared.read.HalfStart.{HalfStart}
use Rattle.journal.specs.declared.read.HalfStart.TheVariants.{Closed, Opened}
use Rattle.journal.specs.declared.side.Side.{Side}
use Rattle.journal.specs.declared.side.Side.TheVariants.{First, Second}
use Rattle.journal.specs.Layout.{long_bytes, entry_of, log_of, half_head, ClosedAfter, IsHalf, OpensWith, IsOtherHalf, part_at}
use Rattle.journal.proofs.Tables.{length-long_bytes}
use Rattle.journal.specs.Steps.{StartsSo, IsOtherStart, IsChosen, HalvesBegin, AreFirstOf, TablesAt, NoTables}

-- two bytes of a half say how it begins
shut_longer : (k : ℕ) (l : List ℕ) → 2 ≤ k → ClosedAfter [] (take 2 l) → ClosedAfter [] (take k l)
shut_longer k [] two closed = absurd (omega (arith, ap length closed.split))
shut_longer k (x ∷ l) two closed =
    let more : k ≡ suc (k - 1) = omega (arith, two) in
    let gate : x ≡ closed.gate = cc (closed.split) in
    record { gate = x; rest = take (k - 1) l; shut = λ is. closed.shut (sym gate ∙ is); split = ap (λ (n : ℕ). take n (x ∷ l)) more }

shut_shorter : (k : ℕ) (l : List ℕ) → 2 ≤ k → ClosedAfter [] (take k l) → ClosedAfter [] (take 2 l)
shut_shorter k [] two closed =
    let size = ap length closed.split in
    absurd (omega (arith, size, length-take {A = ℕ} k []))
shut_shorter k (x ∷ l) two closed =
    let more : k ≡ suc (k - 1) = omega (arith, two) in
    let same : x ∷ take (k - 1) l ≡ closed.gate ∷ closed.rest = ap (λ (n : ℕ). take n (x ∷ l)) (sym more) ∙ closed.split in
    let gate : x ≡ closed.gate = cc in
    record { gate = x; rest = take 1 l; shut = λ is. closed.shut (sym gate ∙ is); split = refl }

open_longer : (serial k : ℕ) (l : List ℕ) → 2 ≤ k → OpensWith serial (take 2 l) → OpensWith serial (take k l)
open_longer serial k [] two opens = absurd (omega (arith, ap length opens.split))
open_longer serial k (x ∷ []) two opens = absurd (omega (arith, ap length opens.split))
open_longer serial k (x ∷ y ∷ l) two opens =
    let more : k ≡ suc (suc (k - 2)) = omega (arith, two) in
    let gate : x ≡ 1 = cc (opens.split) in
    let second : y ≡ serial = cc (opens.split) in
    record { rest = take (k - 2) l; split = ap (λ (n : ℕ). take n (x ∷ y ∷ l)) more ∙ ap (λ (n : ℕ). n ∷ y ∷ take (k - 2) l) gate ∙ ap (λ (n : ℕ). 1 ∷ n ∷ take (k - 2) l) second }

open_shorter : (serial k : ℕ) (l : List ℕ) → 2 ≤ k → OpensWith serial (take k l) → OpensWith serial (take 2 l)
open_shorter serial k [] two opens = absurd (omega (arith, ap length opens.split, length-take {A = ℕ} k []))
open_shorter serial k (x ∷ []) two opens = absurd (omega (arith, ap length opens.split, length-take {A = ℕ} k (x ∷ [])))
open_shorter serial k (x ∷ y ∷ l) two opens =
    let more : k ≡ suc (suc (k - 2)) = omega (arith, two) in
    let same : x ∷ y ∷ take (k - 2) l ≡ 1 ∷ serial ∷ opens.rest = ap (λ (n : ℕ). take n (x ∷ y ∷ l)) (sym more) ∙ opens.split in
    let gate : x ≡ 1 = cc in
    let second : y ≡ serial = cc in
    record { rest = []; split = ap (λ (n : ℕ). n ∷ y ∷ []) gate ∙ ap (λ (n : ℕ). 1 ∷ n ∷ []) second }

-- of a part's first two bytes
pub closed_part : (q k : ℕ) (image : List ℕ) → 2 ≤ k → ClosedAfter [] (part_at q 2 image) → ClosedAfter [] (part_at q k image)
unfolding part_at
closed_part q k image two closed = shut_longer k (drop q image) two closed

pub closed_two : (q k : ℕ) (image : List ℕ) → 2 ≤ k → ClosedAfter [] (part_at q k image) → ClosedAfter [] (part_at q 2 image)
unfolding part_at
closed_two q k image two closed = shut_shorter k (drop q image) two closed

pub opened_part : (serial q k : ℕ) (image : List ℕ) → 2 ≤ k → OpensWith serial (part_at q 2 image) → OpensWith serial (part_at q k image)
unfolding part_at
opened_part serial q k image two opens = open_longer serial k (drop q image) two opens

pub opened_two : (serial q k : ℕ) (image : List ℕ) → 2 ≤ k → OpensWith serial (part_at q k image) → OpensWith serial (part_at q 2 image)
unfolding part_at
opened_two serial q k image two opens = open_shorter serial k (drop q image) two opens

module _ (half : ℕ) (image : List ℕ) (two : 2 ≤ half) where
  -- the start of the half at a place, as two bytes have it
  is_opened : (q serial : ℕ) (start : HalfStart) → StartsSo start (part_at q 2 image) → start ≡ Opened serial → OpensWith serial (part_at q half image)
  is_opened q serial start starts is = opened_part serial q half image two (subst (λ (s : HalfStart). StartsSo s (part_at q 2 image)) is starts)

  is_other : (both : Bool) (q serial : ℕ) (start : HalfStart) → StartsSo start (part_at q 2 image) → IsOtherStart both serial start → IsOtherHalf both serial (part_at q half image)
  is_other true q serial start starts other = (other.0, is_opened q other.0 start starts other.1, other.2)
  is_other false q serial start starts other = closed_part q half image two (subst (λ (s : HalfStart). StartsSo s (part_at q 2 image)) other starts)

  pub begins : (side : Side) (serial : ℕ) (both : Bool) (first second : HalfStart) → StartsSo first (part_at 4096 2 image) → StartsSo second (part_at (4096 + half) 2 image) → IsChosen side serial both first second
      → HalvesBegin side serial both half image
  begins First serial both first second is_first is_second chosen = record {
    opens = is_opened 4096 serial first is_first chosen.0;
    is_serial = chosen.1;
    other = is_other both (4096 + half) serial second is_second chosen.2;
  }
  begins Second serial both first second is_first is_second chosen = record {
    opens = is_opened (4096 + half) serial second is_second chosen.0;
    is_serial = chosen.1;
    other = is_other both 4096 serial first is_first chosen.2;
  }

  -- two bytes begin in one way
  starts_open : (start : HalfStart) (serial : ℕ) (bytes : List ℕ) → StartsSo start bytes → OpensWith serial bytes → start ≡ Opened serial
  starts_open Closed serial bytes starts opens =
      let same : starts.gate ∷ starts.rest ≡ 1 ∷ serial ∷ opens.rest = sym starts.split ∙ opens.split in
      let gate : starts.gate ≡ 1 = cc in
      absurd (starts.shut gate)
  starts_open (Opened other) serial bytes starts opens =
      let same : 1 ∷ other ∷ starts.rest ≡ 1 ∷ serial ∷ opens.rest = sym starts.split ∙ opens.split in
      let both : other ≡ serial = cc in
      ap Opened both

  starts_shut : (start : HalfStart) (bytes : List ℕ) → StartsSo start bytes → ClosedAfter [] bytes → start ≡ Closed
  starts_shut Closed bytes starts closed = refl
  starts_shut (Opened other) bytes starts closed =
      let same : 1 ∷ other ∷ starts.rest ≡ closed.gate ∷ closed.rest = sym starts.split ∙ closed.split in
      let gate : closed.gate ≡ 1 = cc in
      absurd (closed.shut gate)

  other_start : (both : Bool) (q serial : ℕ) (start : HalfStart) → StartsSo start (part_at q 2 image) → IsOtherHalf both serial (part_at q half image) → IsOtherStart both serial start
  other_start true q serial start starts other = (other.0, starts_open start other.0 (part_at q 2 image) starts (opened_two other.0 q half image two other.1), other.2)
  other_start false q serial start starts other = starts_shut start (part_at q 2 image) starts (closed_two q half image two other)

  pub chosen : (side : Side) (serial : ℕ) (both : Bool) (first second : HalfStart) → StartsSo first (part_at 4096 2 image) → StartsSo second (part_at (4096 + half) 2 image) → HalvesBegin side serial both half image
      → IsChosen side serial both first second
  chosen First serial both first second is_first is_second b =
      (starts_open first serial (part_at 4096 2 image) is_first (opened_two serial 4096 half image two b.opens), b.is_serial, other_start both (4096 + half) serial second is_second b.other)
  chosen Second serial both first second is_first is_second b =
      (starts_open second serial (part_at (4096 + half) 2 image) is_second (opened_two serial (4096 + half) half image two b.opens), b.is_serial, other_start both 4096 serial first is_first b.other)

  -- a half that begins in no way is none of a journal
  other_starts : (both : Bool) (q serial : ℕ) → IsOtherHalf both serial (part_at q half image) → (start : HalfStart) × StartsSo start (part_at q 2 image)
  other_starts true q serial other = (Opened other.0, opened_two other.0 q half image two other.1)
  other_starts false q serial other = (Closed, closed_two q half image two other)

  pub first_starts : (side : Side) (serial : ℕ) (both : Bool) → HalvesBegin side serial both half image → (start : HalfStart) × StartsSo start (part_at 4096 2 image)
  first_starts First serial both b = (Opened serial, opened_two serial 4096 half image two b.opens)
  first_starts Second serial both b = other_starts both 4096 serial b.other

  pub second_starts : (side : Side) (serial : ℕ) (both : Bool) → HalvesBegin side serial both half image → (start : HalfStart) × StartsSo start (part_at (4096 + half) 2 image)
  second_starts First serial both b = other_starts both (4096 + half) serial b.other
  second_starts Second serial both b = (Opened serial, opened_two serial (4096 + half) half image two b.opens)

pub none_then : {X : Type 0} (o : Option X) {P Q : Type 0} → IfNone o P → (P → Q) → IfNone o Q
none_then (Some x) is then = tt
none_then None is then = then is

pub size_read : (bytes : List ℕ) (n : ℕ) → 10 ≤ length bytes → ((i : ℕ) → get_or bytes i 0 < 256)
    → n ≡ from_be_bytes w64 (get_or bytes 2 0 ∷ get_or bytes 3 0 ∷ get_or bytes 4 0 ∷ get_or bytes 5 0 ∷ get_or bytes 6 0 ∷ get_or bytes 7 0 ∷ get_or bytes 8 0 ∷ get_or bytes 9 0 ∷ []) → long_bytes n ≡ take 8 (drop 2 bytes)
unfolding long_bytes
size_read (x ∷ y ∷ a ∷ b ∷ c ∷ d ∷ e ∷ f ∷ g ∷ h ∷ rest) n long fits is = be_bytes_8 (a ∷ b ∷ c ∷ d ∷ e ∷ f ∷ g ∷ h ∷ []) n refl each is
  where
    each : (i : ℕ) → get_or (a ∷ b ∷ c ∷ d ∷ e ∷ f ∷ g ∷ h ∷ []) i 0 < 256
    each zero = fits 2
    each (suc zero) = fits 3
    each (suc (suc zero)) = fits 4
    each (suc (suc (suc zero))) = fits 5
    each (suc (suc (suc (suc zero)))) = fits 6
    each (suc (suc (suc (suc (suc zero))))) = fits 7
    each (suc (suc (suc (suc (suc (suc zero)))))) = fits 8
    each (suc (suc (suc (suc (suc (suc (suc zero))))))) = fits 9
    each (suc (suc (suc (suc (suc (suc (suc (suc i)))))))) = omega arith
size_read [] n long fits is = absurd (omega arith)
size_read (x ∷ []) n long fits is = absurd (omega arith)
size_read (x ∷ y ∷ []) n long fits is = absurd (omega arith)
size_read (x ∷ y ∷ a ∷ []) n long fits is = absurd (omega arith)
size_read (x ∷ y ∷ a ∷ b ∷ []) n long fits is = absurd (omega arith)
size_read (x ∷ y ∷ a ∷ b ∷ c ∷ []) n long fits is = absurd (omega arith)
size_read (x ∷ y ∷ a ∷ b ∷ c ∷ d ∷ []) n long fits is = absurd (omega arith)
size_read (x ∷ y ∷ a ∷ b ∷ c ∷ d ∷ e ∷ []) n long fits is = absurd (omega arith)
size_read (x ∷ y ∷ a ∷ b ∷ c ∷ d ∷ e ∷ f ∷ []) n long fits is = absurd (omega arith)
size_read (x ∷ y ∷ a ∷ b ∷ c ∷ d ∷ e ∷ f ∷ g ∷ []) n long fits is = absurd (omega arith)

pub first_drop : (bytes part : List ℕ) (n : ℕ) → (first : AreFirstOf bytes part) → n ≤ length bytes → drop n part ≡ drop n bytes ++ first.rest
first_drop bytes part n first within = ap (drop n) first.split ∙ drop-append-le n bytes first.rest within

-- The tables stand in what was read.
pub tables_at : (old bytes part tables : List ℕ) (n : ℕ) → AreFirstOf bytes part → AreFirstOf old part → 10 ≤ length old → long_bytes n ≡ take 8 (drop 2 old) → 10 + n ≤ length bytes → tables ≡ take n (drop 10 bytes) → TablesAt tables part
tables_at old bytes part tables n first was ten size within is =
    let count : length tables ≡ n = omega (arith, ap length is, length-take n (drop 10 bytes), length-drop 10 bytes, within) in
    let long : take 8 (drop 2 part) ≡ long_bytes (length tables) =
    ap (take 8) (first_drop old part 2 was (omega (arith, ten))) ∙ take-append-le 8 (drop 2 old) was.rest (omega (arith, length-drop 2 old, ten)) ∙ sym size ∙ ap long_bytes (sym count) in
    let here : drop 10 part ≡ tables ++ (drop n (drop 10 bytes) ++ first.rest) =
    first_drop bytes part 10 first (omega (arith, within)) ∙ ap (λ (l : List ℕ). l ++ first.rest) (sym (take-append-drop n (drop 10 bytes)) ∙ ap (λ (l : List ℕ). l ++ drop n (drop 10 bytes)) (sym is))
    ∙ append_assoc tables (drop n (drop 10 bytes)) first.rest in
    record {
      front = take 2 part;
      two = omega (arith, length-take 2 part, ap length first.split, length-append bytes first.rest, within);
      rest = drop n (drop 10 bytes) ++ first.rest;
      split = sym (take-append-drop 2 part) ∙ ap (λ (l : List ℕ). take 2 part ++ l) (sym (take-append-drop 8 (drop 2 part)) ∙ ap (λ (l : List ℕ). l ++ drop 8 (drop 2 part)) long
          ∙ ap (λ (l : List ℕ). long_bytes (length tables) ++ l) (drop-drop 8 2 part ∙ here));
    }

-- the length of the tables of a half
pub half_size : (serial : ℕ) (tables : List ℕ) (changes : List (List ℕ)) (part : List ℕ) → (log : IsHalf serial tables changes part)
    → part ≡ 1 ∷ serial ∷ (long_bytes (length tables) ++ (tables ++ (flat_map entry_of changes ++ log.closed.gate ∷ log.closed.rest)))
half_size serial tables changes part log =
    log.closed.split ∙ ap (λ (l : List ℕ). 1 ∷ serial ∷ l)
    (append_assoc (long_bytes (length tables) ++ tables) (flat_map entry_of changes) (log.closed.gate ∷ log.closed.rest) ∙ append_assoc (long_bytes (length tables)) tables (flat_map entry_of changes ++ log.closed.gate ∷ log.closed.rest))

half_long : (serial : ℕ) (tables : List ℕ) (changes : List (List ℕ)) (part : List ℕ) → IsHalf serial tables changes part → 10 + length tables < length part
half_long serial tables changes part log =
    omega (
      arith,
      ap length log.closed.split,
      length-append (log_of (half_head serial tables) changes) (log.closed.gate ∷ log.closed.rest),
      length-append (half_head serial tables) (flat_map entry_of changes),
      length-append (long_bytes (length tables)) tables,
      length-long_bytes (length tables),
    )

pub no_tables_short : (part : List ℕ) → length part < 10 → NoTables part
no_tables_short part short serial tables changes log = omega (arith, half_long serial tables changes part log, short)

-- the length that was read is that of the tables
pub size_same : (serial n : ℕ) (tables : List ℕ) (changes : List (List ℕ)) (part : List ℕ) → IsHalf serial tables changes part → n < 2 ^ 64 → length tables < 2 ^ 64 → long_bytes n ≡ take 8 (drop 2 part) → n ≡ length tables
unfolding long_bytes
size_same serial n tables changes part log small small_tables is =
    let whole = half_size serial tables changes part log in
    let same : long_bytes n ≡ long_bytes (length tables) = is ∙ ap (λ (l : List ℕ). take 8 (drop 2 l)) whole ∙ take_at (long_bytes (length tables)) (tables ++ (flat_map entry_of changes ++ log.closed.gate ∷ log.closed.rest)) 8 (length-long_bytes (length tables)) in
    sym (from_be_bytes-to_be_bytes_8 n small) ∙ ap (from_be_bytes w64) same ∙ from_be_bytes-to_be_bytes_8 (length tables) small_tables

-- tables that do not fit the part are none
pub no_tables_long : (old part : List ℕ) (n : ℕ) → AreFirstOf old part → 10 ≤ length old → long_bytes n ≡ take 8 (drop 2 old) → n < 2 ^ 64 → length part < 10 + n → length part < 2 ^ 64 → NoTables part
no_tables_long old part n was ten size small cut short serial tables changes log =
    let long = half_long serial tables changes part log in
    let is : long_bytes n ≡ take 8 (drop 2 part) = size ∙ sym (ap (take 8) (first_drop old part 2 was (omega (arith, ten))) ∙ take-append-le 8 (drop 2 old) was.rest (omega (arith, length-drop 2 old, ten))) in
    let same = size_same serial n tables changes part log small (omega (arith, long, short)) is in
    omega (arith, same, long, cut)

-- less was read than was wanted
pub cut_short : (bytes part : List ℕ) (want : ℕ) → length bytes < want → (want ≤ length bytes) ⊎ (length part ≤ length bytes) → length part < want
cut_short bytes part want few enough = grind (arith, few, enough)
