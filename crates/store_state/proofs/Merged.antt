-- Places in order that are merged with others in order.
use Rattle.std.proofs.Common.{◌≡◌, ◌∙◌, ◌+◌, ◌-◌, ◌<◌, ◌≤◌, ◌++◌, refl, sym, ap, subst, append_assoc, ℕ, zero, suc, Bool, false, List, [], ◌∷◌, length, get_or, take, drop, arith}
use Rattle.std.specs.List.{insert}
use Rattle.std.specs.List.Sorted.{IsSortedBy}
use Rattle.std.proofs.lemmas.List.{drop-drop, drop_at, get_or_at, length-append, length-drop, length-take-le, take-append-drop, take_at}

-- ---- lists in order, by cases

module _ {X : Type 0} (lt : X → X → Bool) where
  -- no element is above the next
  abbrev Up : List X → Type 0
  Up [] = Unit {0}
  Up (x ∷ []) = Unit {0}
  Up (x ∷ y ∷ ys) = (lt y x ≡ false) × Up (y ∷ ys)

  next : (k : ℕ) → suc k + 1 ≡ suc (k + 1)
  next k = omega arith

  later : (x : X) (xs : List X) (k : ℕ) (d : X)
      → lt (get_or (x ∷ xs) (suc k + 1) d) (get_or (x ∷ xs) (suc k) d) ≡ false
      → lt (get_or xs (k + 1) d) (get_or xs k d) ≡ false
  later x xs k d fact = subst (λ n. lt (get_or (x ∷ xs) n d) (get_or xs k d) ≡ false) (next k) fact

  earlier : (x : X) (xs : List X) (k : ℕ) (d : X)
      → lt (get_or xs (k + 1) d) (get_or xs k d) ≡ false
      → lt (get_or (x ∷ xs) (suc k + 1) d) (get_or (x ∷ xs) (suc k) d) ≡ false
  earlier x xs k d fact =
      subst (λ n. lt (get_or (x ∷ xs) n d) (get_or xs k d) ≡ false) (sym (next k)) fact

  up_from : (xs : List X) → IsSortedBy lt xs → Up xs
  up_from [] sorted = tt
  up_from (x ∷ []) sorted = tt
  up_from (x ∷ y ∷ ys) sorted = (
    sorted 0 x (omega arith) (omega arith),
    up_from (y ∷ ys) (λ k d low high. later x (y ∷ ys) k d (sorted (suc k) d (omega arith) (omega arith))),
  )

  up_sorted : (xs : List X) → Up xs → IsSortedBy lt xs
  up_sorted [] up k d low high = absurd (omega arith)
  up_sorted (x ∷ []) up k d low high = absurd (omega arith)
  up_sorted (x ∷ y ∷ ys) up zero d low high = up.0
  up_sorted (x ∷ y ∷ ys) up (suc k) d low high =
      earlier x (y ∷ ys) k d (up_sorted (y ∷ ys) up.1 k d (omega arith) (omega arith))

  behind : (x : X) (ys : List X) → Up (x ∷ ys) → Up ys
  behind x [] up = tt
  behind x (y ∷ ys) up = up.1

  back : (xs ys : List X) → Up (xs ++ ys) → Up ys
  back [] ys up = up
  back (x ∷ xs) ys up = back xs ys (behind x (xs ++ ys) up)

  front : (xs ys : List X) → Up (xs ++ ys) → Up xs
  front [] ys up = tt
  front (x ∷ []) ys up = tt
  front (x ∷ y ∷ xs) ys up = (up.0, front (y ∷ xs) ys up.1)

  -- the first part of a list in order
  pub held_sorted : (xs ys : List X) → IsSortedBy lt (xs ++ ys) → IsSortedBy lt xs
  held_sorted xs ys sorted = up_sorted xs (front xs ys (up_from (xs ++ ys) sorted))

  -- two lists that meet at an element
  joined : (xs : List X) (x : X) (ys zs : List X) → Up (xs ++ x ∷ ys) → Up (x ∷ zs)
      → Up (xs ++ x ∷ zs)
  joined [] x ys zs first second = second
  joined (w ∷ []) x ys zs first second = (first.0, second)
  joined (w ∷ v ∷ xs) x ys zs first second = (first.0, joined (v ∷ xs) x ys zs first.1 second)

  -- a list between an element and another list
  between_up : (x : X) (ys zs : List X) → Up (x ∷ ys) → Up (ys ++ zs) → Up (x ∷ zs)
      → Up (x ∷ (ys ++ zs))
  between_up x [] zs first second third = third
  between_up x (y ∷ ys) zs first second third = (first.0, second)

  -- the last of the new ones goes before those of the old ones that are not below it
  module _ (below above fresh done : List X) (x : X) (slot : IsSortedBy lt (below ++ x ∷ above))
      (old : IsSortedBy lt ((below ++ above) ++ done)) (new : IsSortedBy lt (fresh ++ x ∷ done)) where
    high : Up (x ∷ (above ++ done))
    high =
        between_up x above done (back below (x ∷ above) (up_from _ slot))
        (back below (above ++ done) (subst Up (append_assoc below above done) (up_from _ old)))
        (back fresh (x ∷ done) (up_from _ new))

    pub low_sorted : IsSortedBy lt (below ++ x ∷ (above ++ done))
    low_sorted = up_sorted _ (joined below x above (above ++ done) (up_from _ slot) high)

    pub new_sorted : IsSortedBy lt (fresh ++ x ∷ (above ++ done))
    new_sorted = up_sorted _ (joined fresh x done (above ++ done) (up_from _ new) high)

-- ---- the parts of the places

-- those below the slot, the other old ones, the new ones, of which x is the last, and those done
record Parts (places : List ℕ) (slot held end : ℕ) : Type 0 where
  below : List ℕ
  above : List ℕ
  fresh : List ℕ
  done : List ℕ
  x : ℕ
  whole : places ≡ below ++ (above ++ (fresh ++ x ∷ done))
  low : length below ≡ slot
  old : slot + length above ≡ held
  new : held + (length fresh + 1) ≡ end

cut : (places : List ℕ) (slot held end : ℕ) → slot ≤ held → held < end → end ≤ length places
    → Parts places slot held end
cut places slot held end fewer some within =
    let rest = drop slot places in
    let more = drop (held - slot) rest in
    let left = drop (end - held - 1) more in
    let rest_long : length rest ≡ length places - slot = length-drop slot places in
    let more_long : length more ≡ length rest - (held - slot) = length-drop (held - slot) rest in
    let left_long : length left ≡ length more - (end - held - 1) = length-drop (end - held - 1) more in
    record {
      below = take slot places;
      above = take (held - slot) rest;
      fresh = take (end - held - 1) more;
      x = get_or left 0 0;
      done = drop 1 left;
      whole =
          sym (take-append-drop slot places)
          ∙ ap (λ l. take slot places ++ l) (sym (take-append-drop (held - slot) rest)
          ∙ ap (λ l. take (held - slot) rest ++ l) (sym (take-append-drop (end - held - 1) more)
          ∙ ap (λ l. take (end - held - 1) more ++ l) (begins left (omega arith))));
      low = length-take-le slot places (omega arith);
      old = let n : length (take (held - slot) rest) ≡ held - slot = length-take-le (held - slot) rest (omega arith) in omega arith;
      new = let n : length (take (end - held - 1) more) ≡ end - held - 1 = length-take-le (end - held - 1) more (omega arith) in omega arith;
    }
  where
    begins : (l : List ℕ) → 1 ≤ length l → l ≡ get_or l 0 0 ∷ drop 1 l
    begins [] one = absurd (omega arith)
    begins (y ∷ l) one = refl

pub held_long : (places : List ℕ) (held end : ℕ) → held < end → end ≤ length places
    → length (take held places) ≡ held
held_long places held end some within = length-take-le held places (omega arith)

-- the places once those between the slot and the end are turned
abbrev turned : List ℕ → ℕ → ℕ → ℕ → List ℕ
turned places slot held end =
    let part = take (end - slot) (drop slot places) in
    take slot places ++ ((drop (held - slot) part ++ take (held - slot) part)
    ++ drop (end - slot) (drop slot places))

module _ (below above fresh done : List ℕ) (x : ℕ) (slot held end : ℕ)
    (low : length below ≡ slot) (old : slot + length above ≡ held)
    (new : held + (length fresh + 1) ≡ end) where
  abbrev laid : List ℕ
  laid = below ++ (above ++ (fresh ++ x ∷ done))

  held_is : take held laid ≡ below ++ above
  held_is =
      ap (take held) (sym (append_assoc below above (fresh ++ x ∷ done)))
      ∙ take_at (below ++ above) (fresh ++ x ∷ done) held (omega (arith, length-append below above))

  behind_is : drop held laid ≡ fresh ++ x ∷ done
  behind_is =
      ap (drop held) (sym (append_assoc below above (fresh ++ x ∷ done)))
      ∙ drop_at (below ++ above) (fresh ++ x ∷ done) held (omega (arith, length-append below above))

  fresh_is : drop (length fresh + 1) (fresh ++ x ∷ done) ≡ done
  fresh_is =
      ap (drop (length fresh + 1)) (sym (append_assoc fresh (x ∷ []) done))
      ∙ drop_at (fresh ++ x ∷ []) done (length fresh + 1) (length-append fresh (x ∷ []))

  done_is : drop end laid ≡ done
  done_is =
      ap (λ n. drop n laid) (sym new) ∙ sym (drop-drop (length fresh + 1) held laid)
      ∙ ap (drop (length fresh + 1)) behind_is ∙ fresh_is

  last_is : (d : ℕ) → get_or laid (end - 1) d ≡ x
  last_is d =
      ap (λ l. get_or l (end - 1) d) (sym (append_assoc below above (fresh ++ x ∷ done))
      ∙ sym (append_assoc (below ++ above) fresh (x ∷ done)))
      ∙ get_or_at ((below ++ above) ++ fresh) x done d (end - 1)
      (omega (arith, length-append below above, length-append (below ++ above) fresh))

  inserted : (d : ℕ) → insert (take held laid) slot (get_or laid (end - 1) d) ≡ below ++ x ∷ above
  inserted d =
      ap (λ l. insert l slot (get_or laid (end - 1) d)) held_is
      ∙ ap (λ y. insert (below ++ above) slot y) (last_is d)
      ∙ ap (λ l. l ++ x ∷ drop slot (below ++ above)) (take_at below above slot low)
      ∙ ap (λ l. below ++ x ∷ l) (drop_at below above slot low)

  part_is : take (end - slot) (drop slot laid) ≡ above ++ (fresh ++ x ∷ [])
  part_is =
      ap (take (end - slot)) (drop_at below (above ++ (fresh ++ x ∷ done)) slot low
      ∙ ap (λ l. above ++ l) (sym (append_assoc fresh (x ∷ []) done))
      ∙ sym (append_assoc above (fresh ++ x ∷ []) done))
      ∙ take_at (above ++ (fresh ++ x ∷ [])) done (end - slot)
      (omega (arith, length-append above (fresh ++ x ∷ []), length-append fresh (x ∷ [])))

  end_is : drop (end - slot) (drop slot laid) ≡ done
  end_is =
      drop-drop (end - slot) slot laid
      ∙ ap (λ n. drop n laid) (let n : slot + (end - slot) ≡ end = omega arith in n) ∙ done_is

  abbrev after : List ℕ
  after = below ++ (fresh ++ x ∷ (above ++ done))

  turned_is : turned laid slot held end ≡ after
  turned_is =
      let count : length above ≡ held - slot = omega arith in
      let first : drop (held - slot) (take (end - slot) (drop slot laid)) ≡ fresh ++ x ∷ [] =
      ap (drop (held - slot)) part_is ∙ drop_at above (fresh ++ x ∷ []) (held - slot) count in
      let second : take (held - slot) (take (end - slot) (drop slot laid)) ≡ above =
      ap (take (held - slot)) part_is ∙ take_at above (fresh ++ x ∷ []) (held - slot) count in
      ap (λ l. l ++ ((drop (held - slot) (take (end - slot) (drop slot laid))
      ++ take (held - slot) (take (end - slot) (drop slot laid)))
      ++ drop (end - slot) (drop slot laid))) (take_at below (above ++ (fresh ++ x ∷ done)) slot low)
      ∙ ap (λ l. below ++ ((l ++ take (held - slot) (take (end - slot) (drop slot laid)))
      ++ drop (end - slot) (drop slot laid))) first
      ∙ ap (λ l. below ++ (((fresh ++ x ∷ []) ++ l) ++ drop (end - slot) (drop slot laid))) second
      ∙ ap (λ l. below ++ (((fresh ++ x ∷ []) ++ above) ++ l)) end_is
      ∙ ap (λ l. below ++ l) (append_assoc (fresh ++ x ∷ []) above done
      ∙ append_assoc fresh (x ∷ []) (above ++ done))

  after_low : take slot after ≡ below
  after_low = take_at below (fresh ++ x ∷ (above ++ done)) slot low

  after_behind : drop slot after ≡ fresh ++ x ∷ (above ++ done)
  after_behind = drop_at below (fresh ++ x ∷ (above ++ done)) slot low

  after_done : drop (slot + (end - held - 1)) after ≡ x ∷ (above ++ done)
  after_done =
      let count : length fresh ≡ end - held - 1 = omega arith in
      sym (drop-drop (end - held - 1) slot after) ∙ ap (drop (end - held - 1)) after_behind
      ∙ drop_at fresh (x ∷ (above ++ done)) (end - held - 1) count

  module _ (lt : ℕ → ℕ → Bool) (d : ℕ)
      (fits : IsSortedBy lt (insert (take held laid) slot (get_or laid (end - 1) d)))
      (first : IsSortedBy lt (take held laid ++ drop end laid))
      (last : IsSortedBy lt (drop held laid)) where
    at_slot : IsSortedBy lt (below ++ x ∷ above)
    at_slot = subst (IsSortedBy lt) (inserted d) fits

    without : IsSortedBy lt ((below ++ above) ++ done)
    without =
        subst (IsSortedBy lt) (ap (λ l. l ++ drop end laid) held_is
        ∙ ap (λ l. (below ++ above) ++ l) done_is) first

    alone : IsSortedBy lt (fresh ++ x ∷ done)
    alone = subst (IsSortedBy lt) behind_is last

    first_after : IsSortedBy lt (take slot after ++ drop (slot + (end - held - 1)) after)
    first_after =
        subst (IsSortedBy lt) (sym (ap (λ l. l ++ drop (slot + (end - held - 1)) after) after_low
        ∙ ap (λ l. below ++ l) after_done))
        (low_sorted lt below above fresh done x at_slot without alone)

    last_after : IsSortedBy lt (drop slot after)
    last_after =
        subst (IsSortedBy lt) (sym after_behind)
        (new_sorted lt below above fresh done x at_slot without alone)

-- ---- the last of the new places is brought to its slot

module _ (lt : ℕ → ℕ → Bool) (slot held end d : ℕ) where
  record Fits (places : List ℕ) : Type 0 where
    pub slot_sorted : IsSortedBy lt (insert (take held places) slot (get_or places (end - 1) d))
    pub first : IsSortedBy lt (take held places ++ drop end places)
    pub last : IsSortedBy lt (drop held places)

  pub record Brought (after : List ℕ) : Type 0 where
    pub first : IsSortedBy lt (take slot after ++ drop (slot + (end - held - 1)) after)
    pub last : IsSortedBy lt (drop slot after)

  brought_parts : (places : List ℕ) → Parts places slot held end → Fits places
      → Brought (turned places slot held end)
  brought_parts places p fits =
      let now = subst Fits p.whole fits in
      subst (λ l. Brought (turned l slot held end)) (sym p.whole)
      (subst Brought
      (sym (turned_is p.below p.above p.fresh p.done p.x slot held end p.low p.old p.new))
      (record {
        first = first_after p.below p.above p.fresh p.done p.x slot held end p.low p.old p.new lt d now.slot_sorted now.first now.last;
        last = last_after p.below p.above p.fresh p.done p.x slot held end p.low p.old p.new lt d now.slot_sorted now.first now.last;
      }))

  pub brought : (places part : List ℕ) → slot ≤ held → held < end → end ≤ length places
      → part ≡ drop (held - slot) (take (end - slot) (drop slot places)) ++ take (held - slot) (take (end - slot) (drop slot places))
      → IsSortedBy lt (insert (take held places) slot (get_or places (end - 1) d))
      → IsSortedBy lt (take held places ++ drop end places)
      → IsSortedBy lt (drop held places)
      → Brought (take slot places ++ (part ++ drop (end - slot) (drop slot places)))
  brought places part fewer some within is fits first last =
      subst (λ l. Brought (take slot places ++ (l ++ drop (end - slot) (drop slot places)))) (sym is)
      (brought_parts places (cut places slot held end fewer some within)
      (record { slot_sorted = fits; first = first; last = last }))

-- ---- none is new any more

module _ (lt : ℕ → ℕ → Bool) (places : List ℕ) where
  pub counted_so : (slot end other : ℕ) → end ≡ other
      → IsSortedBy lt (take slot places ++ drop end places)
      → IsSortedBy lt (take slot places ++ drop other places)
  counted_so slot end other is =
      subst (λ n. IsSortedBy lt (take slot places ++ drop n places)) is

  pub merged : (left end : ℕ) → end ≡ left → IsSortedBy lt (take left places ++ drop end places)
      → IsSortedBy lt places
  merged left end is sorted =
      subst (IsSortedBy lt) (take-append-drop left places) (counted_so left end left is sorted)
