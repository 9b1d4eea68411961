-- Reads of a content's blocks, one after another.
use Rattle.std.proofs.Common.{◌≡◌, ◌⊎◌, ℕ, ◌+◌, ◌-◌, ◌<◌, ◌≤◌, List, ◌++◌, length, take, drop, get_or, sym, ◌∙◌, ap, arith, inl, inr}
use Rattle.std.proofs.lemmas.Bool.{cases_lt}
use Rattle.std.proofs.lemmas.List.{length-append, length-take, length-drop, get_or-take, get_or-drop, get_or_append_left, get_or-append_right, get_or_default, same_lists}
use borrow.Rule.Slice.PartMut.{put_mid, post_of}
use Rattle.disks.specs.Disk.{Elapses, Gives, IsStill}
use Rattle.disks.specs.declared.disk.Disk.{Ghosts}
use Rattle.disks.specs.Moments.{Untouched}
use Rattle.disks.proofs.MomentLemmas.{untouched_more}
use Rattle.small_types.specs.Blocks.{IsContent, Stands, place_at}
use Rattle.file_store.specs.Stretches.{IsStretch}
use Rattle.small_types.proofs.BlockContents.{stands_from_content}

-- one read more
pub reads_more : {D : Type 0} (on : Ghosts D) (first mid new : D) → Untouched on first mid → IsStill (on.moment mid) (on.moment new) (on.total mid) (on.total new)
    → on.seen new ≡ on.seen mid → Elapses (on.moment mid) (on.left_at mid) (on.left_at new) → Untouched on first new
reads_more on first mid new before still seen time = untouched_more on first mid new before (record { no_tick = still.moment; same_reads = seen; time = time })

module _ (base : ℕ) (blocks content seen : List ℕ) (from room at : ℕ) where
  -- a stretch of a content stands whole
  pub stretch_stands : 0 < room → from + room ≤ length content → at ≡ place_at base blocks from → IsStretch blocks from room → Stands base blocks content seen → at + room ≤ length seen
  unfolding Stands IsStretch
  stretch_stands some within is_at stretch stands =
      let last : place_at base blocks (from + (room - 1)) ≡ place_at base blocks from + (room - 1) = stretch base (room - 1) (omega arith) in
      let there = (stands (from + (room - 1)) (omega arith)).0 in
      omega (arith, last, there)

  pub stretch_reads : (j : ℕ) → j < room → from + room ≤ length content → at ≡ place_at base blocks from → IsStretch blocks from room → Stands base blocks content seen → get_or seen (at + j) 0 ≡ get_or content (from + j) 0
  unfolding Stands IsStretch
  stretch_reads j low within is_at stretch stands =
      let there : place_at base blocks (from + j) ≡ at + j = stretch base j low ∙ ap (λ (k : ℕ). k + j) (sym is_at) in
      sym (ap (λ (k : ℕ). get_or seen k 0) there) ∙ (stands (from + j) (omega arith)).1

module _ (base : ℕ) (blocks content seen buf part : List ℕ) (from done room at n : ℕ)
    (within : done + room ≤ length buf) (fits : from + length buf ≤ length content) (some : 0 < room)
    (is_at : at ≡ place_at base blocks (from + done)) (stretch : IsStretch blocks (from + done) room) (is : IsContent base blocks content seen)
    (gives : Gives seen at (take (done + room - done) (drop done buf)) part n) where
  old : List ℕ
  old = take (done + room - done) (drop done buf)

  size : length (take (done + room - done) (drop done buf)) ≡ room
  size = omega (arith, within, length-take (done + room - done) (drop done buf), length-drop done buf)

  -- all that was asked for
  pub reads_all : n ≡ room
  reads_all =
      let long = stretch_stands base blocks content seen (from + done) room at some (omega (arith, within, fits)) is_at stretch (stands_from_content base blocks content seen is) in
      omega (arith, gives.0, size, long)

  pub reads_on : ((k : ℕ) → k < done → get_or buf k 0 ≡ get_or content (from + k) 0)
      → (k : ℕ) → k < done + n → get_or (put_mid done (done + room - done) buf part) k 0 ≡ get_or content (from + k) 0
  reads_on before k low = by (cases_lt k done)
    where
      rest : List ℕ
      rest = part ++ post_of done (done + room - done) buf

      front : length (take done buf) ≡ done
      front = omega (arith, within, length-take done buf)

      by : (k < done) ⊎ (done ≤ k) → get_or (put_mid done (done + room - done) buf part) k 0 ≡ get_or content (from + k) 0
      by (inl first) =
          get_or_append_left (take done buf) (part ++ post_of done (done + room - done) buf) 0 k (omega (arith, front))
          ∙ get_or-take done buf k 0 first ∙ before k first
      by (inr next) =
          let j = k - done in
          let small : j < n = omega arith in
          let within_room : j < room = omega (arith, reads_all) in
          let long = stretch_stands base blocks content seen (from + done) room at some (omega (arith, within, fits)) is_at stretch (stands_from_content base blocks content seen is) in
          let read : length (take n (drop at seen)) ≡ n = omega (arith, length-take n (drop at seen), length-drop at seen, reads_all, long) in
          let whole : length part ≡ n + length (drop n (take (done + room - done) (drop done buf))) = ap length gives.1 ∙ length-append (take n (drop at seen)) (drop n (take (done + room - done) (drop done buf))) ∙ ap (λ (m : ℕ). m + length (drop n (take (done + room - done) (drop done buf)))) read in
          let index : from + done + j ≡ from + k = omega arith in
          get_or-append_right (take done buf) (part ++ post_of done (done + room - done) buf) done k 0 front next
          ∙ get_or_append_left part (post_of done (done + room - done) buf) 0 j (omega (arith, whole))
          ∙ ap (λ (l : List ℕ). get_or l j 0) gives.1
          ∙ get_or_append_left (take n (drop at seen)) (drop n (take (done + room - done) (drop done buf))) 0 j (omega (arith, read))
          ∙ get_or-take n (drop at seen) j 0 small
          ∙ get_or-drop at seen j 0
          ∙ stretch_reads base blocks content seen (from + done) room at j within_room (omega (arith, within, fits)) is_at stretch (stands_from_content base blocks content seen is)
          ∙ ap (λ (m : ℕ). get_or content m 0) index

-- a buffer of which each byte is that of the content
pub all_read : (buf content : List ℕ) (from n : ℕ) → n ≡ length buf → from + n ≤ length content → ((k : ℕ) → k < n → get_or buf k 0 ≡ get_or content (from + k) 0) → buf ≡ take n (drop from content)
all_read buf content from n size fits each =
    same_lists buf (take n (drop from content)) (omega (arith, length-take n (drop from content), length-drop from content))
    (λ k d low. get_or_default buf k d 0 low ∙ each k (omega arith) ∙ get_or_default content (from + k) 0 d (omega arith) ∙ sym (get_or-drop from content k d) ∙ sym (get_or-take n (drop from content) k d (omega arith)))

-- a buffer keeps its length
pub mid_long : (buf part : List ℕ) (done room : ℕ) → done + room ≤ length buf → length part ≡ length (take (done + room - done) (drop done buf)) → length (put_mid done (done + room - done) buf part) ≡ length buf
mid_long buf part done room within same =
    omega (arith, within, same, length-append (take done buf) (part ++ post_of done (done + room - done) buf), length-append part (post_of done (done + room - done) buf), length-take done buf, length-take (done + room - done) (drop done buf), length-drop done buf, length-drop (done + room - done) (drop done buf))
