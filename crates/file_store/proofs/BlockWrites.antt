-- Writes into the blocks of a content, one after another.
use Rattle.std.proofs.Common.{◌≡◌, ◌⊎◌, ℕ, ◌+◌, ◌-◌, ◌*◌, ◌<◌, ◌≤◌, max, List, [], ◌++◌, length, take, drop, get_or, refl, sym, ◌∙◌, ap, subst, arith, inl, inr, Result}
use Rattle.std.proofs.lemmas.Bool.{cases_lt}
use Rattle.std.proofs.lemmas.List.{append-nil, append_assoc, length-append, length-take, length-drop, get_or_append_left, get_or-append_right, take-append-drop}
use Rattle.std.proofs.Math.Seq.{take-append-add}
use Rattle.small_types.specs.Bytes.{put}
use Rattle.disks.specs.Disk.{Torn, Follows, Elapses, Ticks}
use Rattle.disks.specs.declared.disk.Disk.{Ghosts}
use Rattle.disks.proofs.MomentLemmas.{started, goes_on}
use Rattle.small_types.specs.Blocks.{AreApart, IsContent, KeepsOutside, Stands, place_at}
use Rattle.disks.specs.Spends.{HasNoNumber}
use Rattle.file_store.specs.Writes.{AddsPiece, IsOldOutsideBlocks, WritesOnly}
use Rattle.file_store.specs.Stretches.{IsStretch}
use Rattle.small_types.proofs.BlockContents.{content_from_stands, stands_from_content}
use Rattle.file_store.proofs.Fronts.{content_front}
use Rattle.file_store.proofs.Overwrites.{put_above, put_below, put_inside, put_long, torn_outside}
use Rattle.file_store.proofs.Places.{same_byte, stretch_inside}

module _ (base : ℕ) (blocks : List ℕ) where
  pub keeps_same : (image : List ℕ) → KeepsOutside base blocks image image
  unfolding KeepsOutside
  keeps_same image place within outside = (within, refl)

  pub keeps_then : (a b c : List ℕ) → KeepsOutside base blocks a b → KeepsOutside base blocks b c → KeepsOutside base blocks a c
  unfolding KeepsOutside
  keeps_then a b c first second place within outside =
      let one = first place within outside in
      let two = second place one.0 outside in
      (two.0, two.1 ∙ one.1)

  -- a write into a stretch
  pub torn_keeps : (from n at : ℕ) (a b : List ℕ) → at ≡ place_at base blocks from → IsStretch blocks from n → from + n ≤ 4096 * length blocks → Torn at n a b → KeepsOutside base blocks a b
  unfolding KeepsOutside
  torn_keeps from n at a b is_at stretch within torn place inside outside = torn_outside at n a b torn place inside (side (cases_lt place at) (cases_lt place (at + n)))
    where
      side : (place < at) ⊎ (at ≤ place) → (place < at + n) ⊎ (at + n ≤ place) → (place < at) ⊎ (at + n ≤ place)
      side (inl low) _ = inl low
      side (inr from_at) (inr high) = inr high
      side (inr from_at) (inl below) = absurd (stretch_inside base blocks from n stretch within place (omega arith) (omega arith) outside)

  -- what stands is kept, and the piece stands behind it
  pub stands_more : AreApart blocks → (from at : ℕ) (content piece image : List ℕ) → at ≡ place_at base blocks from → IsStretch blocks from (length piece) → from + length piece ≤ 4096 * length blocks
      → length content ≡ from → Stands base blocks content image → Stands base blocks (content ++ piece) (put at piece image)
  unfolding Stands IsStretch
  stands_more apart from at content piece image is_at stretch within size old i low = by (cases_lt i from)
    where
      long : length (put at piece image) ≡ max (length image) (at + length piece)
      long = put_long at piece image

      whole : length (content ++ piece) ≡ from + length piece
      whole = length-append content piece ∙ ap (λ (k : ℕ). k + length piece) size

      kept : i < from → (place_at base blocks i < at) ⊎ (at + length piece ≤ place_at base blocks i) → get_or (put at piece image) (place_at base blocks i) 0 ≡ get_or image (place_at base blocks i) 0
      kept before (inl below) = put_below at piece image (place_at base blocks i) below
      kept before (inr above) = put_above at piece image (place_at base blocks i) above

      side : i < from → (place_at base blocks i < at) ⊎ (at ≤ place_at base blocks i) → (place_at base blocks i < at + length piece) ⊎ (at + length piece ≤ place_at base blocks i) → (place_at base blocks i < at) ⊎ (at + length piece ≤ place_at base blocks i)
      side before (inl below) _ = inl below
      side before (inr from_at) (inr above) = inr above
      side before (inr from_at) (inl inside) =
          let j = place_at base blocks i - at in
          let small : j < length piece = omega arith in
          let there : place_at base blocks (from + j) ≡ place_at base blocks from + j = stretch base j small in
          let same : i ≡ from + j = same_byte base blocks apart i (from + j) (omega arith) (omega arith) (omega (arith, there)) in
          absurd (omega arith)

      by : (i < from) ⊎ (from ≤ i) → (place_at base blocks i < length (put at piece image)) × (get_or (put at piece image) (place_at base blocks i) 0 ≡ get_or (content ++ piece) i 0)
      by (inl before) =
          let there = old i (omega (arith, size)) in (
            omega (arith, long, there.0),
            kept before (side before (cases_lt (place_at base blocks i) at) (cases_lt (place_at base blocks i) (at + length piece)))
                ∙ there.1 ∙ sym (get_or_append_left content piece 0 i (omega (arith, size))),
          )
      by (inr behind) =
          let j = i - from in
          let small : j < length piece = omega (arith, whole) in
          let there : place_at base blocks (from + j) ≡ place_at base blocks from + j = stretch base j small in
          let index : i ≡ from + j = omega arith in
          let shifted : place_at base blocks from + j ≡ at + j = omega arith in
          let here : place_at base blocks i ≡ at + j = ap (place_at base blocks) index ∙ there ∙ shifted in (
            omega (arith, long, here),
            put_inside at piece image (place_at base blocks i) j here small ∙ sym (get_or-append_right content piece from i 0 size behind),
          )

  -- the bytes before a write are not touched by it, also where it fails
  pub stands_torn : AreApart blocks → (from n at : ℕ) (content a b : List ℕ) → at ≡ place_at base blocks from → IsStretch blocks from n → from + n ≤ 4096 * length blocks
      → length content ≡ from → Torn at n a b → Stands base blocks content a → Stands base blocks content b
  unfolding Stands IsStretch
  stands_torn apart from n at content a b is_at stretch within size torn old i low =
      let there = old i low in
      let kept = torn_outside at n a b torn (place_at base blocks i) there.0 (side (cases_lt (place_at base blocks i) at) (cases_lt (place_at base blocks i) (at + n))) in
      (kept.0, kept.1 ∙ there.1)
    where
      side : (place_at base blocks i < at) ⊎ (at ≤ place_at base blocks i) → (place_at base blocks i < at + n) ⊎ (at + n ≤ place_at base blocks i) → (place_at base blocks i < at) ⊎ (at + n ≤ place_at base blocks i)
      side (inl below) _ = inl below
      side (inr from_at) (inr above) = inr above
      side (inr from_at) (inl inside) =
          let j = place_at base blocks i - at in
          let small : j < n = omega arith in
          let there : place_at base blocks (from + j) ≡ place_at base blocks from + j = stretch base j small in
          let same : i ≡ from + j = same_byte base blocks apart i (from + j) (omega arith) (omega arith) (omega (arith, there)) in
          absurd (omega arith)

  pub content_torn : AreApart blocks → (from n at : ℕ) (content a b : List ℕ) → at ≡ place_at base blocks from → IsStretch blocks from n → from + n ≤ 4096 * length blocks
      → length content ≡ from → Torn at n a b → IsContent base blocks content a → IsContent base blocks content b
  content_torn apart from n at content a b is_at stretch within size torn old =
      content_from_stands base blocks content b (omega arith) (stands_torn apart from n at content a b is_at stretch within size torn (stands_from_content base blocks content a old))

  pub content_more : AreApart blocks → (from at : ℕ) (content piece image : List ℕ) → at ≡ place_at base blocks from → IsStretch blocks from (length piece) → from + length piece ≤ 4096 * length blocks
      → length content ≡ from → IsContent base blocks content image → IsContent base blocks (content ++ piece) (put at piece image)
  content_more apart from at content piece image is_at stretch within size old =
      content_from_stands base blocks (content ++ piece) (put at piece image) (omega (arith, length-append content piece))
      (stands_more apart from at content piece image is_at stretch within size (stands_from_content base blocks content image old))

module _ {D : Type 0} (on : Ghosts D) (base : ℕ) (blocks : List ℕ) where
  abbrev Now : D → List ℕ → Type 0
  Now d c = on.left_at d (on.moment d) c

  -- a call of the disk, as time sees it
  abbrev pub Call : D → D → Type 0
  Call old new = (on.moment old ≤ on.moment new) × (on.moment new ≤ on.moment old + 1) × Elapses (on.moment old) (on.left_at old) (on.left_at new)

  pub only_start : (d : D) → WritesOnly on base blocks d d
  only_start d = record {
    stops = started on d (IsOldOutsideBlocks base blocks (Now d)) (λ c left. (c, left, keeps_same base blocks c));
    reads = keeps_same base blocks (on.seen d);
  }

  now : (first mid : D) (c : List ℕ) → WritesOnly on base blocks first mid → Now mid c → IsOldOutsideBlocks base blocks (Now first) c
  now first mid c run left = run.stops.each (on.moment mid) c run.stops.later (omega arith) left

  -- one write more
  pub only_more : (first mid new : D) (from n at : ℕ) → at ≡ place_at base blocks from → IsStretch blocks from n → from + n ≤ 4096 * length blocks
      → WritesOnly on base blocks first mid → Torn at n (on.seen mid) (on.seen new) → Follows (Torn at n) (Now mid) (Now new) → Call mid new
      → WritesOnly on base blocks first new
  only_more first mid new from n at is_at stretch within run seen follows call = record {
    stops = goes_on on first mid new (IsOldOutsideBlocks base blocks (Now first)) run.stops call.0 call.1 call.2 (λ c left.
        let before = follows c left in
        let old = now first mid before.0 run before.1 in
        (old.0, old.1, keeps_then base blocks old.0 before.0 c old.2 (torn_keeps base blocks from n at before.0 c is_at stretch within before.2)));
    reads = keeps_then base blocks (on.seen first) (on.seen mid) (on.seen new) run.reads (torn_keeps base blocks from n at (on.seen mid) (on.seen new) is_at stretch within seen);
  }

  pub adds_start : (from : ℕ) (d : D) → AddsPiece on base blocks from [] d d
  adds_start from d content size is = subst (λ (l : List ℕ). IsContent base blocks l (on.seen d)) (sym (append-nil content)) is

  pub adds_more : AreApart blocks → (first mid new : D) (from at : ℕ) (done piece : List ℕ) → at ≡ place_at base blocks (from + length done) → IsStretch blocks (from + length done) (length piece)
      → from + length done + length piece ≤ 4096 * length blocks → AddsPiece on base blocks from done first mid → on.seen new ≡ put at piece (on.seen mid) → AddsPiece on base blocks from (done ++ piece) first new
  adds_more apart first mid new from at done piece is_at stretch within run written content size is =
      subst (λ (l : List ℕ). IsContent base blocks l (on.seen new)) (append_assoc content done piece)
      (subst (λ (l : List ℕ). IsContent base blocks ((content ++ done) ++ piece) l) (sym written)
      (content_more base blocks apart (from + length done) at (content ++ done) piece (on.seen mid) is_at stretch within (omega (arith, length-append content done)) (run content size is)))

  -- what stood stands, without the bytes that were added
  pub adds_none : (old new : D) (from : ℕ) (done : List ℕ) → from ≤ 4096 * length blocks → AddsPiece on base blocks from done old new → AddsPiece on base blocks from [] old new
  adds_none old new from done fits run content size is =
      subst (λ (l : List ℕ). IsContent base blocks l (on.seen new)) (sym (append-nil content)) (content_front base blocks content done (on.seen new) (omega arith) (run content size is))

  -- also where the next write fails
  pub adds_torn : AreApart blocks → (first mid new : D) (from n at : ℕ) (done : List ℕ) → at ≡ place_at base blocks (from + length done) → IsStretch blocks (from + length done) n
      → from + length done + n ≤ 4096 * length blocks → AddsPiece on base blocks from done first mid → Torn at n (on.seen mid) (on.seen new) → AddsPiece on base blocks from [] first new
  adds_torn apart first mid new from n at done is_at stretch within run torn =
      adds_none first new from done (omega arith) (λ content size is.
      content_torn base blocks apart (from + length done) n at (content ++ done) (on.seen mid) (on.seen new) is_at stretch within (omega (arith, length-append content done)) torn (run content size is))

-- the bytes that a step writes, behind those before it
pub slice_long : (bytes : List ℕ) (done n : ℕ) → done + n ≤ length bytes → length (take (done + n - done) (drop done bytes)) ≡ n
slice_long bytes done n within = omega (arith, length-take (done + n - done) (drop done bytes), length-drop done bytes)

pub slice_more : (bytes : List ℕ) (done n : ℕ) → done + n ≤ length bytes → take (done + n) bytes ≡ take done bytes ++ take (done + n - done) (drop done bytes)
slice_more bytes done n within =
    let size : length (take done bytes) ≡ done = omega (arith, length-take done bytes) in
    let count : done + n - done ≡ n = omega arith in
    let whole : length (take done bytes) + n ≡ done + n = omega (arith, size) in
    sym (ap (λ (k : ℕ). take k bytes) whole)
    ∙ sym (ap (take (length (take done bytes) + n)) (take-append-drop done bytes))
    ∙ take-append-add (take done bytes) (drop done bytes) n
    ∙ sym (ap (λ (k : ℕ). take done bytes ++ take k (drop done bytes)) count)

module _ {D : Type 0} (on : Ghosts D) (base : ℕ) (blocks bytes : List ℕ) (from done n at : ℕ) (first mid new : D) where
  piece : List ℕ
  piece = take (done + n - done) (drop done bytes)

  pub step_only : done + n ≤ length bytes → at ≡ place_at base blocks (from + done) → IsStretch blocks (from + done) n → from + length bytes ≤ 4096 * length blocks
      → WritesOnly on base blocks first mid → Torn at (length (take (done + n - done) (drop done bytes))) (on.seen mid) (on.seen new)
      → Follows (Torn at (length (take (done + n - done) (drop done bytes)))) (on.left_at mid (on.moment mid)) (on.left_at new (on.moment new))
      → Call on base blocks mid new
      → WritesOnly on base blocks first new
  step_only within is_at stretch fits run seen follows call =
      let size = slice_long bytes done n within in
      only_more on base blocks first mid new (from + done) (length (take (done + n - done) (drop done bytes))) at is_at
      (subst (IsStretch blocks (from + done)) (sym size) stretch) (omega (arith, size)) run seen follows call

  pub step_kept : AreApart blocks → done + n ≤ length bytes → at ≡ place_at base blocks (from + done) → IsStretch blocks (from + done) n → from + length bytes ≤ 4096 * length blocks
      → AddsPiece on base blocks from (take done bytes) first mid → Torn at (length (take (done + n - done) (drop done bytes))) (on.seen mid) (on.seen new)
      → AddsPiece on base blocks from [] first new
  step_kept apart within is_at stretch fits run torn =
      let size = slice_long bytes done n within in
      let before : length (take done bytes) ≡ done = omega (arith, length-take done bytes) in
      let there : from + done ≡ from + length (take done bytes) = omega (arith, before) in
      adds_torn on base blocks apart first mid new from (length (take (done + n - done) (drop done bytes))) at (take done bytes)
      (is_at ∙ ap (place_at base blocks) there)
      (subst (λ (k : ℕ). IsStretch blocks k (length (take (done + n - done) (drop done bytes)))) there (subst (IsStretch blocks (from + done)) (sym size) stretch))
      (omega (arith, size, before)) run torn

  pub step_adds : AreApart blocks → done + n ≤ length bytes → at ≡ place_at base blocks (from + done) → IsStretch blocks (from + done) n → from + length bytes ≤ 4096 * length blocks
      → AddsPiece on base blocks from (take done bytes) first mid → on.seen new ≡ put at (take (done + n - done) (drop done bytes)) (on.seen mid)
      → AddsPiece on base blocks from (take (done + n) bytes) first new
  step_adds apart within is_at stretch fits run written =
      let size = slice_long bytes done n within in
      let before : length (take done bytes) ≡ done = omega (arith, length-take done bytes) in
      let there : from + done ≡ from + length (take done bytes) = omega (arith, before) in
      subst (λ (l : List ℕ). AddsPiece on base blocks from l first new) (sym (slice_more bytes done n within))
      (adds_more on base blocks apart first mid new from at (take done bytes) (take (done + n - done) (drop done bytes))
      (is_at ∙ ap (place_at base blocks) there)
      (subst (λ (k : ℕ). IsStretch blocks k (length (take (done + n - done) (drop done bytes)))) there (subst (IsStretch blocks (from + done)) (sym size) stretch))
      (omega (arith, size, before)) run written)

-- a call that was counted handed on its bytes
pub total_more : {T E : Type 0} {old new total_old total_new n : ℕ} {result : Result T E} → Ticks old new total_old total_new n result → new ≡ old + 1 → total_new ≡ total_old + n
total_more ticks ok = elim ticks.exact [ inl counted ↦ counted.1 | inr full ↦ absurd (let same = full.0 in omega arith) ]

-- a call was counted, or there was no number left for it
pub counts : {T E : Type 0} {first old new total_old total_new n m : ℕ} {result : Result T E} → first ≤ old → n ≤ m → Ticks old new total_old total_new n result
    → (first + 1 ≤ new) ⊎ HasNoNumber new total_new m
counts later few ticks = elim ticks.exact [
  | inl counted ↦ inl (omega (arith, counted.0))
  | inr full ↦ inr (elim full.2 [
    | inl last ↦ inl (omega (arith, full.0, last))
    | inr much ↦ inr (omega (arith, full.1, much, few))
  ])
]

pub slice_few : (bytes : List ℕ) (done n : ℕ) → length (take (done + n - done) (drop done bytes)) ≤ length bytes
slice_few bytes done n = omega (arith, length-take (done + n - done) (drop done bytes), length-drop done bytes)
