-- What the layers above need: a write behind the halves leaves the journal, and an append or a checkpoint what stands behind them.
use Rattle.std.proofs.Common.{◌≡◌, ℕ, ◌+◌, ◌-◌, ◌≤◌, min, Bool, true, false, List, [], ◌∷◌, sum_by, ◌++◌, length, take, drop, refl, sym, ◌∙◌, ap, subst, arith, append_assoc, length-append, length-take, take-append-drop, nat_le}
use Rattle.std.specs.List.{flat_map}
use Rattle.std.proofs.lemmas.List.{append-nil, take_all, take-take, take-append-le, drop-append-le, drop-drop}
use Rattle.std.proofs.lemmas.List.Sums.{sum_by-cons}
use Rattle.std.proofs.lemmas.Bool.Decides.{nat_tests}
use Rattle.std.proofs.Math.Seq.{take-append-add}
use Rattle.disks.specs.Moments.{LeavesOnly, Each, Untouched}
use Rattle.disks.proofs.MomentLemmas.{weaker, each_still}
use Rattle.disks.specs.declared.disk.Disk.{Ghosts}
use Rattle.journal.specs.declared.log.Log.{Log}
use Rattle.journal.specs.declared.side.Side.{Side}
use Rattle.journal.specs.declared.side.Side.TheVariants.{First, Second}
use Rattle.journal.specs.Layout.{size_bytes, long_bytes, entry_of, log_of, half_head, IsLog, IsOtherHalf, part_at, start_of, other_side, HalvesStand, IsHalvedJournal}
use Rattle.small_types.specs.Blocks.{blocks_start}
use Rattle.disks.specs.Outside.{AgreesOutside, IsOldOutside}
use Rattle.journal.specs.Laws.{IsOldBefore, StaysOpen, used_by}
use Rattle.journal.specs.Log.{IsOpen, half_of, used_of, end_of, other_half_start, need_of, room_left}
use Rattle.journal.proofs.Parts.{length-part_at, part_before, part_behind}
use Rattle.journal.proofs.Entries.{length-size_bytes}
use Rattle.journal.proofs.HeadBlock.{length-head_of}
use Rattle.journal.proofs.Tables.{length-long_bytes}
use Rattle.journal.proofs.Turns.{journal, starts_late}

take_over : (k : ℕ) (a b : List ℕ) (t : Bool) → nat_le k (length a) ≡ t → take k (a ++ b) ≡ take k a ++ take (k - length a) b
take_over k a b true is =
    let low : k ≤ length a = grind (arith, nat_tests, is) in
    let none : k - length a ≡ 0 = omega (arith, low) in
    take-append-le k a b low ∙ sym (ap (λ (n : ℕ). take k a ++ take n b) none ∙ append-nil (take k a))
take_over k a b false is =
    let high : length a ≤ k = grind (arith, nat_tests, is) in
    let whole : length a + (k - length a) ≡ k = omega (arith, high) in
    ap (λ (n : ℕ). take n (a ++ b)) (sym whole) ∙ take-append-add a b (k - length a) ∙ ap (λ (l : List ℕ). l ++ take (k - length a) b) (sym (take_all k a high))

-- a part of an image with more behind it
part_longer : (q k : ℕ) (d x : List ℕ) → q ≤ length d → part_at q k (d ++ x) ≡ part_at q k d ++ take (k - length (drop q d)) x
unfolding part_at
part_longer q k d x low = ap (take k) (drop-append-le q d x low) ∙ take_over k (drop q d) x (nat_le k (length (drop q d))) refl

log_longer : (head : List ℕ) (changes : List (List ℕ)) (part more : List ℕ) → IsLog head changes part → IsLog head changes (part ++ more)
log_longer head changes part more log = record {
  closed = record {
    gate = log.closed.gate;
    rest = log.closed.rest ++ more;
    shut = log.closed.shut;
    split = ap (λ (l : List ℕ). l ++ more) log.closed.split ∙ append_assoc (log_of head changes) (log.closed.gate ∷ log.closed.rest) more;
  };
  small = log.small;
}

other_longer : (both : Bool) (serial : ℕ) (part more : List ℕ) → IsOtherHalf both serial part → IsOtherHalf both serial (part ++ more)
other_longer true serial part more other = (other.0, record { rest = other.1.rest ++ more; split = ap (λ (l : List ℕ). l ++ more) other.1.split }, other.2)
other_longer false serial part more other = record { gate = other.gate; rest = other.rest ++ more; shut = other.shut; split = ap (λ (l : List ℕ). l ++ more) other.split }

some_in : (both : Bool) (serial : ℕ) (part : List ℕ) → IsOtherHalf both serial part → 1 ≤ length part
some_in true serial part other = omega (arith, ap length other.1.split)
some_in false serial part other = omega (arith, ap length other.split)

start_within : (side : Side) (half place : ℕ) → blocks_start half ≤ place → start_of side half + half ≤ place
start_within First half place late = omega (arith, late)
start_within Second half place late = omega (arith, late)

module _ (side : Side) (serial : ℕ) (both : Bool) (blocks half : ℕ) (tables : List ℕ) (changes : List (List ℕ)) where
  here : ℕ
  here = start_of side half

  long_log : (part : List ℕ) → IsLog (half_head serial tables) changes part → 1 ≤ length part
  long_log part log = omega (arith, ap length log.closed.split, length-append (log_of (half_head serial tables) changes) (log.closed.gate ∷ log.closed.rest))

  -- a longer image
  stands_longer : (d x : List ℕ) → HalvesStand side serial both blocks half tables changes d → HalvesStand side serial both blocks half tables changes (d ++ x)
  stands_longer d x stands =
      let a = start_of side half in
      let b = start_of (other_side side) half in
      let long_head : 4096 ≤ length d = omega (arith, ap length stands.head, length-take 4096 d, length-head_of blocks half) in
      let long_a : a ≤ length d = omega (arith, long_log (part_at a half d) stands.current, length-part_at a half d) in
      let long_b : b ≤ length d = omega (arith, some_in both serial (part_at b half d) stands.other, length-part_at b half d) in
      record {
        limits = stands.limits;
        head = take-append-le 4096 d x long_head ∙ stands.head;
        is_serial = stands.is_serial;
        current = subst (λ (l : List ℕ). IsLog (half_head serial tables) changes l) (sym (part_longer a half d x long_a)) (log_longer (half_head serial tables) changes (part_at a half d) (take (half - length (drop a d)) x) stands.current);
        other = subst (λ (l : List ℕ). IsOtherHalf both serial l) (sym (part_longer b half d x long_b)) (other_longer both serial (part_at b half d) (take (half - length (drop b d)) x) stands.other);
      }

  -- an image that begins alike
  stands_front : (place : ℕ) (d c : List ℕ) → blocks_start half ≤ place → take place c ≡ take place d → HalvesStand side serial both blocks half tables changes d → HalvesStand side serial both blocks half tables changes c
  stands_front place d c late same stands =
      let a = start_of side half in
      let b = start_of (other_side side) half in
      let parts_a = part_before a half place c d (start_within side half place late) same in
      let parts_b = part_before b half place c d (start_within (other_side side) half place late) same in
      let low : 4096 ≤ place = omega (arith, start_within side half place late, starts_late side half) in
      record {
        limits = stands.limits;
        head = sym (take-take 4096 place c low) ∙ ap (take 4096) same ∙ take-take 4096 place d low ∙ stands.head;
        is_serial = stands.is_serial;
        current = subst (λ (l : List ℕ). IsLog (half_head serial tables) changes l) (sym parts_a) stands.current;
        other = subst (λ (l : List ℕ). IsOtherHalf both serial l) (sym parts_b) stands.other;
      }

  before_by : (place : ℕ) (d c : List ℕ) → blocks_start half ≤ place → take (min place (length d)) c ≡ take place d → HalvesStand side serial both blocks half tables changes d → (t : Bool) → nat_le place (length d) ≡ t → HalvesStand side serial both blocks half tables changes c
  before_by place d c late same stands true is =
      let few : min place (length d) ≡ place = grind (arith, nat_tests, is) in
      stands_front place d c late (ap (λ (k : ℕ). take k c) (sym few) ∙ same) stands
  before_by place d c late same stands false is =
      let few : min place (length d) ≡ length d = grind (arith, nat_tests, is) in
      let short : length d ≤ place = grind (arith, nat_tests, is) in
      let front : take (length d) c ≡ d = ap (λ (k : ℕ). take k c) (sym few) ∙ same ∙ take_all place d short in
      subst (λ (l : List ℕ). HalvesStand side serial both blocks half tables changes l) (ap (λ (l : List ℕ). l ++ drop (length d) c) (sym front) ∙ take-append-drop (length d) c) (stands_longer d (drop (length d) c) stands)

  -- an image that begins with what stood before a place behind the halves
  pub stands_before : (place : ℕ) (d c : List ℕ) → blocks_start half ≤ place → take (min place (length d)) c ≡ take place d → HalvesStand side serial both blocks half tables changes d → HalvesStand side serial both blocks half tables changes c
  stands_before place d c late same stands = before_by place d c late same stands (nat_le place (length d)) refl

  -- an image that agrees outside a range behind the halves, as after the write of a block
  pub stands_outside : (place n : ℕ) (d c : List ℕ) → blocks_start half ≤ place → AgreesOutside place n d c → HalvesStand side serial both blocks half tables changes d → HalvesStand side serial both blocks half tables changes c
  stands_outside place n d c late agrees stands = stands_before place d c late agrees.before stands

pub journal_outside : (place n blocks half : ℕ) (tables : List ℕ) (changes : List (List ℕ)) (d c : List ℕ) → blocks_start half ≤ place → AgreesOutside place n d c → IsHalvedJournal blocks half tables changes d → IsHalvedJournal blocks half tables changes c
journal_outside place n blocks half tables changes d c late agrees made =
    journal made.side made.serial made.both blocks half tables changes c (stands_outside made.side made.serial made.both blocks half tables changes place n d c late agrees made.stands)

-- how long entries are together
length-entries : (changes : List (List ℕ)) → length (flat_map entry_of changes) ≡ sum_by (λ change. 5 + length change) changes
length-entries [] = refl
length-entries (change ∷ changes) =
    let rest = length-entries changes in
    let whole : sum_by (λ change. 5 + length change) (change ∷ changes) ≡ 5 + length change + sum_by (λ change. 5 + length change) changes = sum_by-cons (λ change. 5 + length change) change changes in
    let size : length (entry_of change) ≡ 5 + length change = omega (arith, length-append (size_bytes (length change)) change, length-size_bytes (length change)) in
    length-append (entry_of change) (flat_map entry_of changes) ∙ ap (λ (n : ℕ). n + length (flat_map entry_of changes)) size ∙ ap (λ (n : ℕ). 5 + length change + n) rest ∙ sym whole

length-log_of : (head : List ℕ) (changes : List (List ℕ)) → length (log_of head changes) ≡ length head + sum_by (λ change. 5 + length change) changes
length-log_of head changes = length-append head (flat_map entry_of changes) ∙ ap (λ (n : ℕ). length head + n) (length-entries changes)

module _ {D : Type 0} (on : Ghosts D) (log : Log) (blocks : ℕ) (tables : List ℕ) (changes : List (List ℕ)) where
  -- each image of an open log is that journal
  pub each_journal : (disk : D) → IsOpen on log blocks tables changes disk → Each on disk (IsHalvedJournal blocks (half_of log) tables changes)
  each_journal disk is_open c left = journal log.side log.serial log.both blocks log.half tables changes c (is_open.each c left)

  -- an open log stays open while the disk is only read
  pub still_open : (old new : D) → IsOpen on log blocks tables changes old → Untouched on old new → IsOpen on log blocks tables changes new
  still_open old new is_open still = record { at = is_open.at; each = each_still on old new (HalvesStand log.side log.serial log.both blocks log.half tables changes) is_open.each still }

  -- it uses what its half takes
  pub uses : (disk : D) → IsOpen on log blocks tables changes disk → used_of log ≡ used_by tables changes
  uses disk is_open =
      let size = length-log_of (half_head log.serial tables) changes in
      omega (arith, is_open.at, size, length-append (long_bytes (length tables)) tables, length-long_bytes (length tables))

  -- and while only what stands behind the halves is written
  pub open_outside : (old new : D) (place n : ℕ) → blocks_start (half_of log) ≤ place → LeavesOnly on old new (IsOldOutside place n (on.left_at old (on.moment old))) → IsOpen on log blocks tables changes old
      → IsOpen on log blocks tables changes new
  open_outside old new place n late run is_open = record {
    at = is_open.at;
    each = λ c left.
        let from = run.each (on.moment new) c run.later (omega arith) left in
        stands_outside log.side log.serial log.both blocks log.half tables changes place n from.0 c late from.2 (is_open.each from.0 from.1);
  }

  -- each image of such writes is the journal
  pub journal_stays : (old new : D) (place n : ℕ) → blocks_start (half_of log) ≤ place → LeavesOnly on old new (IsOldOutside place n (on.left_at old (on.moment old))) → IsOpen on log blocks tables changes old
      → LeavesOnly on old new (IsHalvedJournal blocks (half_of log) tables changes)
  journal_stays old new place n late run is_open = weaker on old new _ _
      (λ c from. journal_outside place n blocks (half_of log) tables changes from.0 c late from.2 (each_journal old is_open from.0 from.1)) run

  -- and while anything may be written behind a place that is not within the halves
  pub open_before : (old new : D) (place : ℕ) → blocks_start (half_of log) ≤ place → LeavesOnly on old new (IsOldBefore place (on.left_at old (on.moment old))) → IsOpen on log blocks tables changes old
      → StaysOpen on log blocks tables changes old new
  open_before old new place late run is_open =
      let stands = weaker on old new (IsOldBefore place (on.left_at old (on.moment old))) (HalvesStand log.side log.serial log.both blocks log.half tables changes)
      (λ c from. stands_before log.side log.serial log.both blocks log.half tables changes place from.0 c late from.2 (is_open.each from.0 from.1)) run in
      record {
        opened = record { at = is_open.at; each = λ c left. stands.each (on.moment new) c run.later (omega arith) left };
        each = weaker on old new (HalvesStand log.side log.serial log.both blocks log.half tables changes) (IsHalvedJournal blocks (half_of log) tables changes)
            (λ c made. journal log.side log.serial log.both blocks log.half tables changes c made) stands;
      }

-- what stands behind the halves is as it was, where only a range before it was written
pub behind_same : (place n half q k : ℕ) (d c : List ℕ) → place + n ≤ blocks_start half → blocks_start half ≤ q → AgreesOutside place n d c → part_at q k c ≡ part_at q k d
behind_same place n half q k d c before late agrees = part_behind q k (place + n) c d (omega (arith, before, late)) agrees.after

-- the ranges that an append and a checkpoint write lie within the halves
end_within : (side : Side) (half gate n : ℕ) → gate + n ≤ half → start_of side half + gate + n ≤ blocks_start half
end_within First half gate n fits = omega (arith, fits)
end_within Second half gate n fits = omega (arith, fits)

pub append_within : (log : Log) (piece : List ℕ) → 1 ≤ length piece → need_of piece ≤ room_left log → end_of log + length piece ≤ blocks_start (half_of log)
append_within log piece some fits = end_within log.side log.half log.gate (length piece) (omega (arith, some, fits, log.within))

pub checkpoint_within : (log : Log) (piece : List ℕ) → length piece ≤ half_of log → other_half_start log + length piece ≤ blocks_start (half_of log)
checkpoint_within log piece fits =
    let within = end_within (other_side log.side) log.half 0 (length piece) (omega (arith, fits)) in
    omega (arith, within)

drop_same : (place n q : ℕ) (d c : List ℕ) → place + n ≤ q → drop (place + n) c ≡ drop (place + n) d → drop q c ≡ drop q d
drop_same place n q d c before same =
    let whole : (place + n) + (q - (place + n)) ≡ q = omega (arith, before) in
    ap (λ (k : ℕ). drop k c) (sym whole) ∙ sym (drop-drop (q - (place + n)) (place + n) c) ∙ ap (drop (q - (place + n))) same ∙ drop-drop (q - (place + n)) (place + n) d ∙ ap (λ (k : ℕ). drop k d) whole

-- What a line carries through an append or a checkpoint: what holds of the bytes behind the halves in each image holds on, beside what the call makes of the
-- journal.
pub carries : {D : Type 0} (on : Ghosts D) (old new : D) (place n half : ℕ) (Made Behind : List ℕ → Type 0) → place + n ≤ blocks_start half → LeavesOnly on old new Made
    → LeavesOnly on old new (IsOldOutside place n (on.left_at old (on.moment old))) → Each on old (λ c. Behind (drop (blocks_start half) c)) → LeavesOnly on old new (λ c. Made c × Behind (drop (blocks_start half) c))
carries on old new place n half Made Behind before run outside each = record {
  later = run.later;
  past = run.past;
  each = λ t c from to left.
      let was = outside.each t c from to left in
      (run.each t c from to left, subst Behind (sym (drop_same place n (blocks_start half) was.0 c before was.2.after)) (each was.0 was.1));
}
