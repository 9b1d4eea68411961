-- What stops leave over a call of the disk and the sync behind it, and over a whole format.
use Rattle.std.proofs.Common.{◌≡◌, inl, inr, ℕ, ◌+◌, ◌≤◌, List, [], length, sym, ◌∙◌, ap, subst, arith}
use Rattle.disks.specs.Disk.{Torn, Follows, Only, Elapses}
use Rattle.disks.specs.ReadsLeft.{torn_same}
use Rattle.disks.specs.Moments.{LeavesOnly, Each}
use Rattle.disks.proofs.MomentLemmas.{started, goes_on}
use Rattle.disks.specs.declared.disk.Disk.{Ghosts}
use Rattle.journal.specs.Layout.{AreLimits}
use Rattle.journal.specs.Format.{IsNewOrNone, IsCutOrOld, IsFilled, Formats, front_with, new_with}
use Rattle.journal.proofs.NewJournal.{length-front, torn_head, closed_new}

module _ {D : Type 0} (on : Ghosts D) where
  abbrev Now : D → List ℕ → Type 0
  Now d c = on.left_at d (on.moment d) c

  -- a call of the disk, as time sees it
  abbrev Call : D → D → Type 0
  Call old new = (on.moment old ≤ on.moment new) × (on.moment new ≤ on.moment old + 1) × Elapses (on.moment old) (on.left_at old) (on.left_at new)

  pub one_call : (d0 d1 : D) (P : List ℕ → Type 0) → Each on d0 P → Each on d1 P → Call d0 d1 → LeavesOnly on d0 d1 P
  one_call d0 d1 P here there call = goes_on on d0 d0 d1 P (started on d0 P here) call.0 call.1 call.2 there

  -- another one
  pub more_calls : (d0 d1 d2 : D) (P : List ℕ → Type 0) → LeavesOnly on d0 d1 P → Each on d2 P → Call d1 d2 → LeavesOnly on d0 d2 P
  more_calls d0 d1 d2 P run there call = goes_on on d0 d1 d2 P run call.0 call.1 call.2 there

  pub fewer_left : (d1 d2 : D) (P : List ℕ → Type 0) → ((c : List ℕ) → Now d2 c → Now d1 c) → Each on d1 P → Each on d2 P
  fewer_left d1 d2 P fewer there c left = there c (fewer c left)

  pub fill_old : (d0 : D) (n place : ℕ) → Only [] (Now d0) → Each on d0 (IsFilled n place)
  fill_old d0 n place empty c left = inl (subst (λ (l : List ℕ). Torn 0 n [] l) (sym (empty c left)) (torn_same 0 n []))

  torn_first : (d0 d1 : D) (n : ℕ) → Only [] (Now d0) → Follows (Torn 0 n) (Now d0) (Now d1) → Each on d1 (Torn 0 n [])
  torn_first d0 d1 n empty follows c left = let from = follows c left in subst (λ (l : List ℕ). Torn 0 n l c) (empty from.0 from.1) from.2

  pub fill_first : (d0 d1 : D) (n place : ℕ) → Only [] (Now d0) → Follows (Torn 0 n) (Now d0) (Now d1) → Each on d1 (IsFilled n place)
  fill_first d0 d1 n place empty follows c left = inl (torn_first d0 d1 n empty follows c left)

  pub fill_second : (d0 d1 d2 : D) (n place : ℕ) → Only [] (Now d0) → Follows (Torn 0 n) (Now d0) (Now d1) → Follows (Torn place 1) (Now d1) (Now d2) → Each on d2 (IsFilled n place)
  fill_second d0 d1 d2 n place empty first second c left = let from = second c left in inr (from.0, torn_first d0 d1 n empty first from.0 from.1, from.2)

  pub head_old : (d0 : D) (blocks half : ℕ) (tables : List ℕ) → length tables + 11 ≤ half → Only (new_with blocks half 0 tables) (Now d0) → Each on d0 (IsNewOrNone blocks half tables)
  head_old d0 blocks half tables fits closed c left = inr (closed_new blocks half tables fits c (closed c left))

  pub head_new : (d0 d1 : D) (blocks half : ℕ) (tables : List ℕ) → AreLimits blocks half → length tables + 11 ≤ half → Only (new_with blocks half 0 tables) (Now d0) → Follows (Torn 64 1) (Now d0) (Now d1)
      → Each on d1 (IsNewOrNone blocks half tables)
  head_new d0 d1 blocks half tables limits fits closed follows c left = let from = follows c left in torn_head blocks half tables fits from.0 c limits (closed from.0 from.1) from.2

  -- what stands at a moment of a disk
  at : (d : D) (t : ℕ) (c : List ℕ) → t ≡ on.moment d → on.left_at d t c → Now d c
  at d t c is left = subst (λ (n : ℕ). on.left_at d n c) is left

  -- the write of a new journal
  pub written : (d0 d1 : D) (bytes : List ℕ) (blocks half : ℕ) (tables : List ℕ) → bytes ≡ front_with blocks half 0 tables → LeavesOnly on d0 d1 (IsFilled (length bytes) (4096 + half)) → LeavesOnly on d0 d1 (IsFilled (4107 + length tables) (4096 + half))
  written d0 d1 bytes blocks half tables is run =
      subst (λ (n : ℕ). LeavesOnly on d0 d1 (IsFilled n (4096 + half))) (ap length is ∙ length-front blocks half 0 tables) run

  module _ (blocks half : ℕ) (tables : List ℕ) where
    -- a format that ended before its first sync was done
    pub formats_cut : (old new : D) → LeavesOnly on old new (IsCutOrOld (Now old)) → on.moment new ≤ on.moment old + 2 → Formats on old new blocks half tables
    formats_cut old new run short = record {
      later = run.later;
      past = run.past;
      first = λ t c from to within left. run.each t c from to left;
      empty = λ c long left. absurd (omega arith);
      second = λ t c after to within left. absurd (omega arith);
      closed = λ c long left. absurd (omega arith);
      third = λ t c after to left. absurd (omega arith);
    }

    pub formats_none : (disk : D) → Formats on disk disk blocks half tables
    formats_none disk = formats_cut disk disk (started on disk (IsCutOrOld (Now disk)) (λ c left. inl left)) (omega arith)

    -- one that ended before its second sync was done
    pub formats_filled : (old mid new : D) → LeavesOnly on old mid (IsCutOrOld (Now old)) → on.moment mid ≡ on.moment old + 2 → Only [] (Now mid)
        → LeavesOnly on mid new (IsFilled (4107 + length tables) (4096 + half)) → on.moment new ≤ on.moment mid + 3 → Formats on old new blocks half tables
    formats_filled old mid new clear two empty fill short = record {
      later = omega (arith, clear.later, fill.later);
      past = λ t c le left. clear.past t c le (fill.past t c (omega (arith, clear.later)) left);
      first = λ t c from to within left. let by_mid : t ≤ on.moment mid = omega (arith, two) in clear.each t c from by_mid (fill.past t c by_mid left);
      empty = λ c long left. empty c (at mid (on.moment old + 2) c (sym two) (fill.past (on.moment old + 2) c (omega (arith, two)) left));
      second = λ t c after to within left. fill.each t c (omega (arith, two)) to left;
      closed = λ c long left. absurd (omega (arith, two));
      third = λ t c after to left. absurd (omega (arith, two));
    }

    -- one whose second sync was done
    pub formats_opened : (old mid end new : D) → length tables + 11 ≤ half → LeavesOnly on old mid (IsCutOrOld (Now old)) → on.moment mid ≡ on.moment old + 2 → Only [] (Now mid)
        → LeavesOnly on mid end (IsFilled (4107 + length tables) (4096 + half)) → on.moment end ≡ on.moment mid + 3 → Only (new_with blocks half 0 tables) (Now end)
        → LeavesOnly on end new (IsNewOrNone blocks half tables) → Formats on old new blocks half tables
    formats_opened old mid end new fits clear two empty fill three closed gate = record {
      later = omega (arith, so_far.later, gate.later);
      past = λ t c le left. so_far.past t c le (gate.past t c (omega (arith, so_far.later)) left);
      first = λ t c from to within left. let by_end : t ≤ on.moment end = omega (arith, two, three) in so_far.first t c from by_end within (gate.past t c by_end left);
      empty = λ c long left. so_far.empty c (omega (arith, two, three)) (gate.past (on.moment old + 2) c (omega (arith, two, three)) left);
      second = λ t c after to within left. let by_end : t ≤ on.moment end = omega (arith, two, three) in so_far.second t c after by_end within (gate.past t c by_end left);
      closed = λ c long left. closed_new blocks half tables fits c (closed c (at end (on.moment old + 5) c (omega (arith, two, three)) (gate.past (on.moment old + 5) c (omega (arith, two, three)) left)));
      third = λ t c after to left. gate.each t c (omega (arith, two, three)) to left;
    }
      where
        so_far : Formats on old end blocks half tables
        so_far = formats_filled old mid end clear two empty fill (omega (arith, three))
