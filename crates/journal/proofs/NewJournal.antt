-- What stands while the head gate of a new journal is opened.
use Rattle.std.proofs.Common.{◌≡◌, ◌≢◌, inl, inr, ℕ, suc, ◌+◌, ◌-◌, ◌≤◌, false, List, [], ◌∷◌, ◌++◌, length, get_or, take, drop, replicate, sym, ◌∙◌, ap, subst, arith, append_assoc, length-append}
use Rattle.std.proofs.lemmas.List.{append-nil, get_or_at, get_or-take, drop_all, take_all, take_at, drop_at, length-replicate}
use Rattle.std.proofs.lemmas.Bool.{cases_eq}
use Rattle.std.specs.Int.{to_be_bytes, w64}
use Rattle.small_types.specs.Bytes.{put}
use Rattle.disks.specs.Disk.{Torn}
use Rattle.disks.proofs.PieceLemmas.{torn_around, put_over}
use Rattle.journal.specs.declared.side.Side.TheVariants.{First}
use Rattle.journal.specs.Layout.{zeros, head_of, head_front, head_with, half_head, long_bytes, ClosedAfter, IsLog, part_at, AreLimits, IsHalvedJournal, NoJournal}
use Rattle.journal.specs.Format.{front_with, new_with, IsNewOrNone}
use Rattle.journal.proofs.HeadBlock.{length-zeros, length-head_front}
use Rattle.journal.proofs.Tables.{length-long_bytes}
use Rattle.journal.proofs.Turns.{journal}

-- the bytes of a new journal's head and first half, as they are put together
pub front_made : (head tables a b c d e : List ℕ) → a ≡ head ++ 1 ∷ [] → b ≡ a ++ 0 ∷ [] → c ≡ b ++ to_be_bytes w64 (length tables) → d ≡ c ++ tables → e ≡ d ++ 0 ∷ [] → e ≡ head ++ (half_head 0 tables ++ 0 ∷ [])
unfolding long_bytes
front_made head tables a b c d e is_a is_b is_c is_d is_e =
    let size = long_bytes (length tables) in
    let two : b ≡ head ++ (1 ∷ 0 ∷ []) = is_b ∙ ap (λ (l : List ℕ). l ++ 0 ∷ []) is_a ∙ append_assoc head (1 ∷ []) (0 ∷ []) in
    let all : d ≡ head ++ half_head 0 tables =
    is_d ∙ ap (λ (l : List ℕ). l ++ tables) (is_c ∙ ap (λ (l : List ℕ). l ++ size) two) ∙ ap (λ (l : List ℕ). l ++ tables) (append_assoc head (1 ∷ 0 ∷ []) size) ∙ append_assoc head (1 ∷ 0 ∷ size) tables in
    is_e ∙ ap (λ (l : List ℕ). l ++ 0 ∷ []) all ∙ append_assoc head (half_head 0 tables) (0 ∷ [])

-- the gate of a journal's head
head_gate : (blocks half : ℕ) → get_or (head_of blocks half) 64 0 ≡ 1
unfolding head_of
head_gate blocks half = get_or_at (head_front blocks half) 1 (zeros 4031) 0 64 (length-head_front blocks half)

length-head_with : (blocks half gate : ℕ) → length (head_with blocks half gate) ≡ 4096
length-head_with blocks half gate = omega (arith, length-append (head_front blocks half) (gate ∷ zeros 4031), length-head_front blocks half, length-zeros 4031)

pub length-front : (blocks half gate : ℕ) (tables : List ℕ) → length (front_with blocks half gate tables) ≡ 4107 + length tables
length-front blocks half gate tables =
    omega (arith, length-append (head_with blocks half gate) (half_head 0 tables ++ 0 ∷ []), length-head_with blocks half gate, length-append (half_head 0 tables) (0 ∷ []), length-append (long_bytes (length tables)) tables, length-long_bytes (length tables))

module _ (blocks half : ℕ) (tables : List ℕ) (fits : length tables + 11 ≤ half) where
  -- behind the head
  abbrev behind : List ℕ
  behind = (half_head 0 tables ++ 0 ∷ []) ++ (replicate (4096 + half - (4107 + length tables)) 0 ++ 0 ∷ [])

  -- behind the head gate
  abbrev back : List ℕ
  back = zeros 4031 ++ behind

  new_is : (gate : ℕ) → new_with blocks half gate tables ≡ head_with blocks half gate ++ behind
  new_is gate =
      let front = front_with blocks half gate tables in
      let size = length-front blocks half gate tables in
      let kept : take (4096 + half) front ≡ front = take_all (4096 + half) front (omega (arith, size, fits)) in
      let none : drop (4096 + half + 1) front ≡ [] = drop_all (4096 + half + 1) front (omega (arith, size, fits)) in
      ap (λ (l : List ℕ). l ++ (replicate (4096 + half - length front) 0 ++ (0 ∷ drop (4096 + half + 1) front))) kept
      ∙ ap (λ (l : List ℕ). front ++ (replicate (4096 + half - length front) 0 ++ (0 ∷ l))) none
      ∙ ap (λ (n : ℕ). front ++ (replicate (4096 + half - n) 0 ++ (0 ∷ []))) size
      ∙ append_assoc (head_with blocks half gate) (half_head 0 tables ++ 0 ∷ []) (replicate (4096 + half - (4107 + length tables)) 0 ++ 0 ∷ [])

  pub new_split : (gate : ℕ) → new_with blocks half gate tables ≡ head_front blocks half ++ (gate ∷ back)
  new_split gate = new_is gate ∙ append_assoc (head_front blocks half) (gate ∷ zeros 4031) behind

  -- the two halves of a new journal
  first_half : (c : List ℕ) → c ≡ head_with blocks half 1 ++ behind → IsLog (half_head 0 tables) [] (part_at 4096 half c)
  unfolding part_at
  first_half c is =
      let n = 4096 + half - (4107 + length tables) in
      let head = half_head 0 tables in
      let front = (head ++ 0 ∷ []) ++ replicate n 0 in
      let here : drop 4096 c ≡ behind = ap (drop 4096) is ∙ drop_at (head_with blocks half 1) behind 4096 (length-head_with blocks half 1) in
      let size : length front ≡ half =
      omega (arith, fits, length-append (head ++ 0 ∷ []) (replicate n 0), length-append head (0 ∷ []), length-append (long_bytes (length tables)) tables, length-long_bytes (length tables), length-replicate {A = ℕ} n 0) in
      let part : take half (drop 4096 c) ≡ front =
      ap (take half) (here ∙ sym (append_assoc (head ++ 0 ∷ []) (replicate n 0) (0 ∷ []))) ∙ take_at front (0 ∷ []) half size in
      record {
        closed = record {
          gate = 0;
          rest = replicate n 0;
          shut = omega arith;
          split = part ∙ append_assoc head (0 ∷ []) (replicate n 0) ∙ ap (λ (l : List ℕ). l ++ 0 ∷ replicate n 0) (sym (append-nil head));
        };
        small = tt;
      }

  second_half : (c : List ℕ) → 1 ≤ half → c ≡ head_with blocks half 1 ++ behind → ClosedAfter [] (part_at (4096 + half) half c)
  unfolding part_at
  second_half c some is =
      let n = 4096 + half - (4107 + length tables) in
      let head = half_head 0 tables in
      let front = head_with blocks half 1 ++ ((head ++ 0 ∷ []) ++ replicate n 0) in
      let whole : c ≡ front ++ 0 ∷ [] =
      is ∙ ap (λ (l : List ℕ). head_with blocks half 1 ++ l) (sym (append_assoc (head ++ 0 ∷ []) (replicate n 0) (0 ∷ []))) ∙ sym (append_assoc (head_with blocks half 1) ((head ++ 0 ∷ []) ++ replicate n 0) (0 ∷ [])) in
      let size : length front ≡ 4096 + half =
      omega (arith, fits, length-append (head_with blocks half 1) ((head ++ 0 ∷ []) ++ replicate n 0), length-head_with blocks half 1, length-append (head ++ 0 ∷ []) (replicate n 0), length-append head (0 ∷ []), length-append (long_bytes (length tables)) tables, length-long_bytes (length tables), length-replicate {A = ℕ} n 0) in
      let more : half ≡ suc (half - 1) = omega (arith, some) in
      record {
        gate = 0;
        rest = take (half - 1) [];
        shut = omega arith;
        split = ap (take half) (ap (drop (4096 + half)) whole ∙ drop_at front (0 ∷ []) (4096 + half) size) ∙ ap (λ (k : ℕ). take k (0 ∷ [])) more;
      }

  pub new_journal : (c : List ℕ) → AreLimits blocks half → c ≡ new_with blocks half 1 tables → IsHalvedJournal blocks half tables [] c
  unfolding head_of
  new_journal c limits is =
      let whole = is ∙ new_is 1 in
      journal First 0 false blocks half tables [] c (record {
        limits = limits;
        head = ap (take 4096) whole ∙ take_at (head_with blocks half 1) behind 4096 (length-head_with blocks half 1);
        is_serial = omega arith;
        current = first_half c whole;
        other = second_half c (omega (arith, limits.least)) whole;
      })

  pub no_new : (gate : ℕ) (c : List ℕ) → gate ≢ 1 → c ≡ head_front blocks half ++ (gate ∷ back) → NoJournal c
  no_new gate c shut is n h others changes made =
      let one : get_or (take 4096 c) 64 0 ≡ 1 = ap (λ (l : List ℕ). get_or l 64 0) (made.stands.head) ∙ head_gate n h in
      let it : get_or (take 4096 c) 64 0 ≡ gate = get_or-take 4096 c 64 0 (omega arith) ∙ ap (λ (l : List ℕ). get_or l 64 0) is ∙ get_or_at (head_front blocks half) gate back 0 64 (length-head_front blocks half) in
      shut (sym it ∙ one)

  either : (middle c : List ℕ) → AreLimits blocks half → length middle ≡ 1 → c ≡ head_front blocks half ++ (middle ++ back) → IsNewOrNone blocks half tables c
  either [] c limits size is = absurd (omega arith)
  either (g ∷ h ∷ more) c limits size is = absurd (omega arith)
  either (g ∷ []) c limits size is = elim (cases_eq g 1) [
    | inl is_open ↦ inl (new_journal c limits (is ∙ ap (λ (k : ℕ). head_front blocks half ++ (k ∷ back)) is_open ∙ sym (new_split 1)))
    | inr shut ↦ inr (no_new g c shut is)
  ]

  pub torn_head : (d c : List ℕ) → AreLimits blocks half → d ≡ new_with blocks half 0 tables → Torn 64 1 d c → IsNewOrNone blocks half tables c
  torn_head d c limits is torn =
      let around = torn_around (head_front blocks half) 64 (sym (length-head_front blocks half)) (0 ∷ []) back c (subst (λ (l : List ℕ). Torn 64 1 l c) (is ∙ new_split 0) torn) in
      either around.middle c limits around.size around.split

  pub closed_new : (c : List ℕ) → c ≡ new_with blocks half 0 tables → NoJournal c
  closed_new c is = no_new 0 c (omega arith) (is ∙ new_split 0)

  pub opened_head : (d c : List ℕ) → AreLimits blocks half → d ≡ new_with blocks half 0 tables → c ≡ put 64 (1 ∷ []) d → IsHalvedJournal blocks half tables [] c
  opened_head d c limits is put_is =
      new_journal c limits (
      put_is ∙ ap (put 64 (1 ∷ [])) (is ∙ new_split 0)
      ∙ put_over (head_front blocks half) 64 (sym (length-head_front blocks half)) (1 ∷ []) (0 ∷ []) back (omega arith)
      ∙ sym (new_split 1))

-- what a write to an empty disk leaves
pub put_empty : (bytes : List ℕ) → put 0 bytes [] ≡ bytes
put_empty bytes = ap (λ (l : List ℕ). bytes ++ l) (drop_all (0 + length bytes) [] (omega arith)) ∙ append-nil bytes
