-- What a change of some bytes of an image leaves of its parts.
use Rattle.std.proofs.Common.{◌≡◌, inl, inr, ℕ, suc, ◌+◌, ◌-◌, ◌<◌, ◌≤◌, min, List, [], ◌∷◌, ◌++◌, length, get_or, take, drop, refl, sym, ◌∙◌, ap, arith, append_assoc, length-append, length-take, length-drop, take-append-drop}
use Rattle.std.proofs.lemmas.List.{take_at, drop_at, take-take, drop-take, drop-drop, take-append-le, drop-append-le, drop_more}
use Rattle.std.proofs.Math.Seq.{take-append-add}
use Rattle.journal.specs.Layout.{ClosedAfter, part_at}
use Rattle.disks.specs.Outside.{AgreesOutside}
use Rattle.journal.specs.Steps.{OpenAfter, IsBeforeOrAfter, ClosedAt, Commits, OpensGate}

pub part_before : (q k p : ℕ) (c d : List ℕ) → q + k ≤ p → take p c ≡ take p d → part_at q k c ≡ part_at q k d
unfolding part_at
part_before q k p c d low same =
    sym (drop-take q k c) ∙ ap (drop q) (sym (take-take (q + k) p c low) ∙ ap (take (q + k)) same ∙ take-take (q + k) p d low) ∙ drop-take q k d

pub part_behind : (q k m : ℕ) (c d : List ℕ) → m ≤ q → drop m c ≡ drop m d → part_at q k c ≡ part_at q k d
unfolding part_at
part_behind q k m c d high same =
    let whole : m + (q - m) ≡ q = omega (arith, high) in
    ap (take k) (ap (λ (n : ℕ). drop n c) (sym whole) ∙ sym (drop-drop (q - m) m c) ∙ ap (drop (q - m)) same ∙ drop-drop (q - m) m d ∙ ap (λ (n : ℕ). drop n d) whole)

pub length-part_at : (q k : ℕ) (c : List ℕ) → length (part_at q k c) ≡ min k (length c - q)
unfolding part_at
length-part_at q k c = length-take k (drop q c) ∙ ap (min k) (length-drop q c)

-- two images with the same first bytes
module _ (base x y c d : List ℕ) (place : ℕ) (at : place ≡ length base) (is : c ≡ base ++ x) (was : d ≡ base ++ y) where
  pub take_same : (p : ℕ) → p ≤ place → take p c ≡ take p d
  take_same p low =
      let le : p ≤ length base = omega (arith, low, at) in
      ap (take p) is ∙ take-append-le p base x le ∙ sym (ap (take p) was ∙ take-append-le p base y le)

  drop_base : (q : ℕ) → q ≤ place → drop q c ≡ drop q base ++ x
  drop_base q low = ap (drop q) is ∙ drop-append-le q base x (omega (arith, low, at))

  drop_old : (q : ℕ) → q ≤ place → drop q d ≡ drop q base ++ y
  drop_old q low = ap (drop q) was ∙ drop-append-le q base y (omega (arith, low, at))

  -- a part that begins in them
  pub part_within : (q k : ℕ) (h r : List ℕ) → part_at q k d ≡ h ++ r → place ≡ q + length h → length h ≤ k → part_at q k c ≡ h ++ take (k - length h) x
  unfolding part_at
  part_within q k h r part ends fits =
      let n = length h in
      let low : q ≤ place = omega (arith, ends) in
      let size : length (drop q base) ≡ n = omega (arith, length-drop q base, at, ends) in
      let front : drop q base ≡ h =
      sym (take_at (drop q base) y n size) ∙ ap (take n) (sym (drop_old q low)) ∙ sym (take-take n k (drop q d) fits) ∙ ap (take n) part ∙ take_at h r n refl in
      let whole : n + (k - n) ≡ k = omega (arith, fits) in
      ap (take k) (drop_base q low ∙ ap (λ (l : List ℕ). l ++ x) front) ∙ ap (λ (m : ℕ). take m (h ++ x)) (sym whole) ∙ take-append-add h x (k - n)

-- a closed gate in a part
closed_within : (h part rest : List ℕ) (gate k : ℕ) (shut : gate ≡ 1 → ⊥) → part ≡ h ++ take (k - length h) (gate ∷ rest) → length h < k → ClosedAfter h part
closed_within h part rest gate k shut is fits =
    let more : k - length h ≡ suc (k - length h - 1) = omega (arith, fits) in
    record { gate = gate; rest = take (k - length h - 1) rest; shut = shut; split = is ∙ ap (λ (n : ℕ). h ++ take n (gate ∷ rest)) more }

open_within : (h part tail rest : List ℕ) (k : ℕ) → part ≡ h ++ take (k - length h) (1 ∷ (tail ++ rest)) → length h + 1 + length tail ≤ k → OpenAfter h tail part
open_within h part tail rest k is fits =
    let j = k - length h - 1 - length tail in
    let more : k - length h ≡ suc (length tail + j) = omega (arith, fits) in
    record {
      rest = take j rest;
      split = is ∙ ap (λ (n : ℕ). h ++ take n (1 ∷ (tail ++ rest))) more ∙ ap (λ (l : List ℕ). h ++ 1 ∷ l) (take-append-add tail rest j);
    }

module _ (place : ℕ) (tail d c : List ℕ) (change : Commits place tail d c) where
  now : (x : List ℕ) × (c ≡ change.base ++ x)
  now = elim change.is [
    | inl closed ↦ (closed.gate ∷ closed.rest, closed.split)
    | inr opened ↦ (1 ∷ (tail ++ opened.rest), opened.split)
  ]

  pub same_front : (p : ℕ) → p ≤ place → take p c ≡ take p d
  same_front p low = take_same change.base now.0 change.rest c d place change.at now.1 change.was p low

  pub same_before : (q k : ℕ) → q + k ≤ place → part_at q k c ≡ part_at q k d
  same_before q k low = part_before q k place c d low (same_front place (omega arith))

  pub same_behind : (q k : ℕ) → place + 1 + length tail ≤ q → part_at q k c ≡ part_at q k d
  same_behind q k high = part_behind q k (place + 1 + length tail) c d high change.after

  pub commit_within : (q k : ℕ) (h r : List ℕ) → part_at q k d ≡ h ++ r → place ≡ q + length h → length h + 1 + length tail ≤ k → IsBeforeOrAfter h tail (part_at q k c)
  commit_within q k h r part ends fits = elim change.is [
    | inl closed ↦ inl (closed_within h (part_at q k c) closed.rest closed.gate k closed.shut
        (part_within change.base (closed.gate ∷ closed.rest) change.rest c d place change.at closed.split change.was q k h r part ends (omega (arith, fits))) (omega (arith, fits)))
    | inr opened ↦ inr (open_within h (part_at q k c) tail opened.rest k
        (part_within change.base (1 ∷ (tail ++ opened.rest)) change.rest c d place change.at opened.split change.was q k h r part ends (omega (arith, fits))) fits)
  ]

pub opens_commits : (place : ℕ) (tail d c : List ℕ) → OpensGate place tail d c → Commits place tail d c
opens_commits place tail d c o = record { base = o.base; at = o.at; rest = o.rest; was = o.was; is = inr o.is; after = o.after }

pub open_part : (place : ℕ) (tail d c : List ℕ) → OpensGate place tail d c → (q k : ℕ) (h r : List ℕ) → part_at q k d ≡ h ++ r → place ≡ q + length h → length h + 1 + length tail ≤ k → OpenAfter h tail (part_at q k c)
open_part place tail d c o q k h r part ends fits =
    open_within h (part_at q k c) tail o.is.rest k (part_within o.base (1 ∷ (tail ++ o.is.rest)) o.rest c d place o.at o.is.split o.was q k h r part ends (omega (arith, fits))) fits

-- a byte that may be another one, with what stands round it
pub record OneByte (place : ℕ) (old new : List ℕ) : Type 0 where
  pub base : List ℕ
  pub at : place ≡ length base
  pub gate : ℕ
  pub gate_new : ℕ
  pub back : List ℕ
  pub was : old ≡ base ++ gate ∷ back
  pub is : new ≡ base ++ gate_new ∷ back

pub one_byte : (place : ℕ) (d c : List ℕ) → place + 1 < length d → AgreesOutside place 1 d c → OneByte place d c
one_byte place d c long agrees =
    let few : min place (length d) ≡ place = omega (arith, long) in
    let front : take place c ≡ take place d = ap (λ (n : ℕ). take n c) (sym few) ∙ agrees.before in
    let size : length c - (place + 1) ≡ length d - (place + 1) = sym (length-drop (place + 1) c) ∙ ap length agrees.after ∙ length-drop (place + 1) d in
    let here : place < length c = omega (arith, size, long) in
    let there : place < length d = omega (arith, long) in
    record {
      base = take place d;
      at = sym (length-take place d ∙ few);
      gate = get_or d place 0;
      gate_new = get_or c place 0;
      back = drop (place + 1) d;
      was = sym (take-append-drop place d) ∙ ap (λ (l : List ℕ). take place d ++ l) (drop_more d place 0 there);
      is = sym (take-append-drop place c) ∙ ap (λ (l : List ℕ). l ++ drop place c) front
          ∙ ap (λ (l : List ℕ). take place d ++ l) (drop_more c place 0 here ∙ ap (λ (l : List ℕ). get_or c place 0 ∷ l) agrees.after);
    }

module _ (place : ℕ) (d c : List ℕ) (one : OneByte place d c) where
  pub one_front : (p : ℕ) → p ≤ place → take p c ≡ take p d
  one_front p low = take_same one.base (one.gate_new ∷ one.back) (one.gate ∷ one.back) c d place one.at one.is one.was p low

  pub one_before : (q k : ℕ) → q + k ≤ place → part_at q k c ≡ part_at q k d
  one_before q k low = part_before q k place c d low (one_front place (omega arith))

  behind : (l : List ℕ) (g : ℕ) → l ≡ one.base ++ g ∷ one.back → drop (place + 1) l ≡ one.back
  behind l g is =
      ap (drop (place + 1)) (is ∙ sym (append_assoc one.base (g ∷ []) one.back))
      ∙ drop_at (one.base ++ g ∷ []) one.back (place + 1) (omega (arith, length-append one.base (g ∷ []), one.at))

  pub one_behind : (q k : ℕ) → place + 1 ≤ q → part_at q k c ≡ part_at q k d
  one_behind q k high = part_behind q k (place + 1) c d high (behind c one.gate_new one.is ∙ sym (behind d one.gate one.was))

  -- the half whose gate that byte is
  pub one_part : (k : ℕ) (gate serial : ℕ) (rest : List ℕ) → 1 ≤ k → part_at place k d ≡ gate ∷ serial ∷ rest → part_at place k c ≡ one.gate_new ∷ serial ∷ rest
  one_part k gate serial rest some part =
      let more : k - 0 ≡ suc (k - 1) = omega (arith, some) in
      let old = part_within one.base (one.gate ∷ one.back) (one.gate ∷ one.back) d d place one.at one.was one.was place k [] (gate ∷ serial ∷ rest) part (omega arith) (omega arith) in
      let new = part_within one.base (one.gate_new ∷ one.back) (one.gate ∷ one.back) c d place one.at one.is one.was place k [] (gate ∷ serial ∷ rest) part (omega arith) (omega arith) in
      let both : take (k - 1) one.back ≡ serial ∷ rest =
      ap (drop 1) (ap (λ (n : ℕ). take n (one.gate ∷ one.back)) (sym more) ∙ sym old ∙ part) in
      new ∙ ap (λ (n : ℕ). take n (one.gate_new ∷ one.back)) more ∙ ap (λ (l : List ℕ). one.gate_new ∷ l) both

-- an image round the bytes that one of its parts begins with
pub part_split : (q k : ℕ) (h r d : List ℕ) → part_at q k d ≡ h ++ r → d ≡ (take q d ++ h) ++ (r ++ drop k (drop q d))
unfolding part_at
part_split q k h r d part =
    sym (take-append-drop q d)
    ∙ ap (λ (l : List ℕ). take q d ++ l) (sym (take-append-drop k (drop q d)) ∙ ap (λ (l : List ℕ). l ++ drop k (drop q d)) part ∙ append_assoc h r (drop k (drop q d)))
    ∙ sym (append_assoc (take q d) h (r ++ drop k (drop q d)))

pub closed_at : (q k end : ℕ) (h d : List ℕ) → ClosedAfter h (part_at q k d) → end ≡ q + length h → ClosedAt end d
closed_at q k end h d closed ends =
    let size = ap length closed.split ∙ length-append h (closed.gate ∷ closed.rest) in
    let long : q < length d = omega (arith, size, length-part_at q k d) in
    record {
      base = take q d ++ h;
      at = omega (arith, ends, length-append (take q d) h, length-take q d, long);
      closed = record { gate = closed.gate; rest = closed.rest ++ drop k (drop q d); shut = closed.shut; split = part_split q k h (closed.gate ∷ closed.rest) d closed.split };
    }
