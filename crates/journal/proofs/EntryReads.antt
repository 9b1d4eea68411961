-- What was read at the place of an entry, and of a whole half.
use Rattle.std.proofs.Common.{◌≡◌, ◌≢◌, ◌⊎◌, inl, inr, ℕ, ◌+◌, ◌-◌, ◌<◌, ◌≤◌, ◌^◌, min, List, [], ◌∷◌, ◌++◌, length, get_or, take, drop, refl, sym, ◌∙◌, ap, subst, arith, append_assoc, length-append, length-take, length-drop}
use Rattle.std.proofs.lemmas.List.{take_at, drop_at, drop-drop, append-nil, nil_from_length, drop_all, take-append-le}
use Rattle.std.specs.List.{flat_map}
use Rattle.journal.specs.Layout.{long_bytes, entry_of, half_head, ClosedAfter, AreSmall, OpensWith}
use Rattle.journal.specs.declared.read.Step.{Step}
use Rattle.journal.specs.declared.read.Step.TheVariants.{Change, End, Broken}
use Rattle.journal.specs.Steps.{AreFirstOf, OpensSize, TablesAt, NoTables, AtGate, NoEntries, FoundHalf, IsStepAt, IsLastStep}
use Rattle.journal.proofs.Entries.{small_push, length-log_of-push}
use Rattle.journal.proofs.Halves.{first_drop, half_size, size_same}
use Rattle.journal.proofs.Parse.{append_same, opened_read, none_in_opened, none_at_end, none_in_empty, none_behind, read_more}
use Rattle.journal.proofs.Tables.{length-long_bytes}

-- bytes behind an open entry's size change nothing of it
opens_more : (bytes whole rest : List ℕ) (n : ℕ) → OpensSize n (drop 5 bytes) bytes → whole ≡ bytes ++ rest → OpensSize n (drop 5 whole) whole
opens_more bytes whole rest n opens is =
    let front = 1 ∷ opens.size in
    let after = drop 5 bytes in
    let made : whole ≡ front ++ (after ++ rest) = is ∙ ap (λ (l : List ℕ). l ++ rest) opens.split ∙ append_assoc front after rest in
    let five : length front ≡ 5 = omega (arith, opens.four) in
    let behind : drop 5 whole ≡ after ++ rest = ap (drop 5) made ∙ drop_at front (after ++ rest) 5 five in
    record { size = opens.size; four = opens.four; fits = opens.fits; value = opens.value; split = made ∙ ap (λ (l : List ℕ). front ++ l) (sym behind) }

module _ (bytes part : List ℕ) (gate : ℕ) (first : AreFirstOf bytes part) (within : gate ≤ length bytes) where
  whole : drop gate part ≡ drop gate bytes ++ first.rest
  whole = first_drop bytes part gate first within

  opens_part : (r : List ℕ) (n : ℕ) → r ≡ drop gate bytes → OpensSize n (drop 5 r) r → OpensSize n (drop 5 (drop gate part)) (drop gate part)
  opens_part r n is opens = opens_more r (drop gate part) first.rest n opens (whole ∙ ap (λ (l : List ℕ). l ++ first.rest) (sym is))

  -- a whole entry
  pub entry_step : (r more change : List ℕ) (n : ℕ) → r ≡ drop gate bytes → OpensSize n (drop 5 r) r → n < 2 ^ 32 → AreFirstOf more part → gate + 5 + n ≤ length more → change ≡ take n (drop (gate + 5) more)
      → (drop gate part ≡ entry_of change ++ drop (gate + 5 + length change) part) × (length change < 2 ^ 32)
  entry_step r more change n is_r opens small second fits is =
      let opened = opens_part r n is_r opens in
      let rest = drop (gate + 5) part in
      let behind : drop 5 (drop gate part) ≡ rest = drop-drop 5 gate part in
      let long : n ≤ length (drop 5 (drop gate part)) =
      omega (arith, ap length behind, length-drop (gate + 5) part, ap length second.split, length-append more second.rest, fits) in
      let same : take n (drop 5 (drop gate part)) ≡ change =
      ap (take n) (behind ∙ first_drop more part (gate + 5) second (omega (arith, fits))) ∙ take-append-le n (drop (gate + 5) more) second.rest (omega (arith, length-drop (gate + 5) more, fits)) ∙ sym is in
      let size : length change ≡ n = omega (arith, ap length same, length-take n (drop 5 (drop gate part)), long) in
      let after : drop n (drop 5 (drop gate part)) ≡ drop (gate + 5 + length change) part =
      ap (drop n) behind ∙ drop-drop n (gate + 5) part ∙ ap (λ (k : ℕ). drop (gate + 5 + k) part) (sym size) in (
        opened_read (drop gate part) n opened long ∙ ap (λ (l : List ℕ). entry_of l ++ drop n (drop 5 (drop gate part))) same ∙ ap (λ (l : List ℕ). entry_of change ++ l) after,
        omega (arith, size, small),
      )

  -- an entry that is cut off
  pub cut_step : (r : List ℕ) (n : ℕ) → r ≡ drop gate bytes → OpensSize n (drop 5 r) r → length part < gate + 5 + n → NoEntries (drop gate part)
  cut_step r n is_r opens cut =
      let opened = opens_part r n is_r opens in
      let long : 5 ≤ length (drop gate part) = omega (arith, ap length opened.split, length-append opened.size (drop 5 (drop gate part)), opened.four) in
      none_in_opened (drop gate part) n opened (omega (arith, length-drop 5 (drop gate part), length-drop gate part, cut, long))

  -- a closed gate
  pub end_step : (r : List ℕ) → r ≡ drop gate bytes → ClosedAfter [] r → ClosedAfter [] (drop gate part)
  end_step r is_r closed = record {
    gate = closed.gate;
    rest = closed.rest ++ first.rest;
    shut = closed.shut;
    split = whole ∙ ap (λ (l : List ℕ). l ++ first.rest) (sym is_r ∙ closed.split);
  }

  all_read : length part ≤ length bytes → drop gate part ≡ drop gate bytes
  all_read full =
      let none : first.rest ≡ [] = nil_from_length first.rest (omega (arith, full, ap length first.split, length-append bytes first.rest)) in
      whole ∙ ap (λ (l : List ℕ). drop gate bytes ++ l) none ∙ append-nil (drop gate bytes)

  -- no head of an entry
  pub broken_step : (r : List ℕ) (half : ℕ) → r ≡ drop gate bytes → length part ≤ half → (min (gate + 5) half ≤ length bytes) ⊎ (length part ≤ length bytes)
      → (length r < 5) ⊎ (get_or r 0 0 ≢ 1) → (length r ≡ 0) ⊎ (get_or r 0 0 ≡ 1) → NoEntries (drop gate part)
  broken_step r half is_r short enough none (inl empty) =
      let size : length r ≡ length bytes - gate = ap length is_r ∙ length-drop gate bytes in
      let past : length part ≤ gate = grind (arith, size, empty, within, short, enough) in
      subst NoEntries (sym (drop_all gate part past)) (none_in_empty [] refl)
  broken_step r half is_r short enough (inr shut) (inr one) = absurd (shut one)
  broken_step r half is_r short enough (inl few) (inr one) =
      let size : length r ≡ length bytes - gate = ap length is_r ∙ length-drop gate bytes in
      let full : length part ≤ length bytes = grind (arith, size, few, within, short, enough) in
      subst NoEntries (is_r ∙ sym (all_read full)) (none_at_end r (inl few) one)

-- the last step is one
pub last_step_is : (step : Step) (r part : List ℕ) (gate : ℕ) → IsLastStep step r → (ClosedAfter [] r → ClosedAfter [] (drop gate part)) → ((length r ≡ 0) ⊎ (get_or r 0 0 ≡ 1) → NoEntries (drop gate part)) → IsStepAt step gate part
last_step_is (Change change) r part gate last ends breaks = absurd last
last_step_is End r part gate last ends breaks = ends last
last_step_is Broken r part gate last ends breaks = breaks last

-- one entry more of those that were read
pub entries_more : (part : List ℕ) (from gate : ℕ) (changes grown : List (List ℕ)) (change : List ℕ)
    → (drop from part ≡ flat_map entry_of changes ++ drop gate part) × (gate ≡ from + length (flat_map entry_of changes)) × AreSmall changes
    → (drop gate part ≡ entry_of change ++ drop (gate + 5 + length change) part) × (length change < 2 ^ 32) → grown ≡ changes ++ change ∷ []
    → (drop from part ≡ flat_map entry_of grown ++ drop (gate + 5 + length change) part) × (gate + 5 + length change ≡ from + length (flat_map entry_of grown)) × AreSmall grown
entries_more part from gate changes grown change so_far step is = (
  read_more (drop from part) (drop gate part) (drop (gate + 5 + length change) part) changes change so_far.0 step.0 ∙ ap (λ (cs : List (List ℕ)). flat_map entry_of cs ++ drop (gate + 5 + length change) part) (sym is),
  omega (arith, so_far.1, length-log_of-push [] changes change) ∙ ap (λ (cs : List (List ℕ)). from + length (flat_map entry_of cs)) (sym is),
  subst AreSmall (sym is) (small_push changes change so_far.2 step.1),
)

pub entries_end : (part : List ℕ) (from gate : ℕ) (changes : List (List ℕ)) → (drop from part ≡ flat_map entry_of changes ++ drop gate part) × (gate ≡ from + length (flat_map entry_of changes)) × AreSmall changes
    → ClosedAfter [] (drop gate part) → AtGate changes (gate - from) (drop from part)
entries_end part from gate changes so_far closed = record {
  closed = record { gate = closed.gate; rest = closed.rest; shut = closed.shut; split = so_far.0 ∙ ap (λ (l : List ℕ). flat_map entry_of changes ++ l) closed.split };
  small = so_far.2;
  at = omega (arith, so_far.1);
}

pub entries_broken : (part : List ℕ) (from gate : ℕ) (changes : List (List ℕ)) → (drop from part ≡ flat_map entry_of changes ++ drop gate part) × (gate ≡ from + length (flat_map entry_of changes)) × AreSmall changes
    → NoEntries (drop gate part) → NoEntries (drop from part)
entries_broken part from gate changes so_far none = none_behind changes (drop gate part) (drop from part) so_far.0 so_far.2 none

-- a half whose gate is open and whose tables were found
half_front : (serial : ℕ) (tables part : List ℕ) → OpensWith serial part → TablesAt tables part → part ≡ half_head serial tables ++ drop (10 + length tables) part
half_front serial tables part opens at =
    let two : at.front ≡ 1 ∷ serial ∷ [] =
    sym (take_at at.front (long_bytes (length tables) ++ (tables ++ at.rest)) 2 at.two) ∙ ap (take 2) (sym at.split ∙ opens.split) in
    let made : part ≡ half_head serial tables ++ at.rest =
    at.split ∙ ap (λ (l : List ℕ). l ++ (long_bytes (length tables) ++ (tables ++ at.rest))) two ∙ ap (λ (l : List ℕ). 1 ∷ serial ∷ l) (sym (append_assoc (long_bytes (length tables)) tables at.rest)) in
    let size : length (half_head serial tables) ≡ 10 + length tables = omega (arith, length-append (long_bytes (length tables)) tables, length-long_bytes (length tables)) in
    made ∙ ap (λ (l : List ℕ). half_head serial tables ++ l) (sym (ap (drop (10 + length tables)) made ∙ drop_at (half_head serial tables) at.rest (10 + length tables) size))

pub found_half : (serial : ℕ) (tables part : List ℕ) (changes : List (List ℕ)) (from behind gate : ℕ) → OpensWith serial part → TablesAt tables part → from ≡ 10 + length tables → AtGate changes behind (drop from part) → gate ≡ from + behind
    → FoundHalf serial tables changes gate part
found_half serial tables part changes from behind gate opens at is_from entries is_gate =
    let head = half_head serial tables in
    let all = flat_map entry_of changes in
    let closed = entries.closed in
    let rest : drop (10 + length tables) part ≡ all ++ closed.gate ∷ closed.rest = ap (λ (n : ℕ). drop n part) (sym is_from) ∙ closed.split in
    record {
      log = record {
        closed = record {
          gate = closed.gate;
          rest = closed.rest;
          shut = closed.shut;
          split = half_front serial tables part opens at ∙ ap (λ (l : List ℕ). head ++ l) rest ∙ sym (append_assoc head all (closed.gate ∷ closed.rest));
        };
        small = entries.small;
      };
      at = omega (arith, is_gate, is_from, entries.at, length-append head all, length-append (long_bytes (length tables)) tables, length-long_bytes (length tables));
    }

-- a half with these tables and no entries is none
pub no_half : (tables part : List ℕ) (from : ℕ) → length part < 2 ^ 64 → TablesAt tables part → from ≡ 10 + length tables → NoEntries (drop from part) → NoTables part
no_half tables part from short at is_from none serial others changes log =
    let whole = half_size serial others changes part log in
    let behind = flat_map entry_of changes ++ log.closed.gate ∷ log.closed.rest in
    let long = ap length whole in
    let here : drop 2 part ≡ long_bytes (length tables) ++ (tables ++ at.rest) = ap (drop 2) at.split ∙ drop_at at.front (long_bytes (length tables) ++ (tables ++ at.rest)) 2 at.two in
    let small_tables : length tables < 2 ^ 64 = omega (arith, short, ap length at.split, length-append at.front (long_bytes (length tables) ++ (tables ++ at.rest)), length-append (long_bytes (length tables)) (tables ++ at.rest), length-append tables at.rest) in
    let small_others : length others < 2 ^ 64 = omega (arith, short, long, length-append (long_bytes (length others)) (others ++ behind), length-append others behind) in
    let is_long : long_bytes (length tables) ≡ take 8 (drop 2 part) = sym (ap (take 8) here ∙ take_at (long_bytes (length tables)) (tables ++ at.rest) 8 (length-long_bytes (length tables))) in
    let size = size_same serial (length tables) others changes part log small_tables small_others is_long in
    let there : long_bytes (length others) ++ (others ++ behind) ≡ long_bytes (length tables) ++ (tables ++ at.rest) = ap (drop 2) (sym whole) ∙ here in
    let parts = append_same (long_bytes (length others)) (long_bytes (length tables)) (others ++ behind) (tables ++ at.rest) (length-long_bytes (length others) ∙ sym (length-long_bytes (length tables))) there in
    let same = append_same others tables behind at.rest (sym size) parts.1 in
    let front : length (at.front ++ (long_bytes (length tables) ++ tables)) ≡ from = omega (arith, is_from, at.two, length-append at.front (long_bytes (length tables) ++ tables), length-append (long_bytes (length tables)) tables, length-long_bytes (length tables)) in
    let rest : drop from part ≡ at.rest =
    ap (drop from) (at.split ∙ ap (λ (l : List ℕ). at.front ++ l) (sym (append_assoc (long_bytes (length tables)) tables at.rest)) ∙ sym (append_assoc at.front (long_bytes (length tables) ++ tables) at.rest))
    ∙ drop_at (at.front ++ (long_bytes (length tables) ++ tables)) at.rest from front in
    none changes log.small (record { gate = log.closed.gate; rest = log.closed.rest; shut = log.closed.shut; split = rest ∙ sym same.1 })
