-- What each of the four calls leaves that put bytes behind a closed gate and then open it.
use Rattle.std.proofs.Common.{◌≡◌, inl, inr, ℕ, ◌+◌, ◌≤◌, List, [], ◌∷◌, ◌++◌, length, drop, refl, sym, ◌∙◌, ap, subst, arith, append_assoc, length-append}
use Rattle.std.proofs.lemmas.Bool.{cases_eq}
use Rattle.std.proofs.lemmas.List.{drop_at, drop-drop}
use Rattle.small_types.specs.Bytes.{put}
use Rattle.disks.specs.Disk.{Torn, Follows, Only, Elapses}
use Rattle.disks.proofs.PieceLemmas.{torn_front, torn_around, put_behind, put_over}
use Rattle.disks.specs.Moments.{LeavesOnly, Each}
use Rattle.disks.proofs.MomentLemmas.{started, goes_on}
use Rattle.disks.specs.declared.disk.Disk.{Ghosts}
use Rattle.journal.specs.Layout.{ClosedAfter}
use Rattle.journal.specs.Steps.{OpenAfter, IsBeforeOrAfter, ClosedAt, Commits, OpensGate, ComesByStep}

-- the base, a gate that is not open yet, and the tail behind it
pub record StagedAfter (base tail bytes : List ℕ) : Type 0 where
  pub gate : ℕ
  pub rest : List ℕ
  pub split : bytes ≡ base ++ ((gate ∷ []) ++ (tail ++ rest))

module _ (base tail : List ℕ) (end : ℕ) (is_end : end ≡ length base) where
  behind : (gate : ℕ) → end + 1 ≡ length (base ++ gate ∷ [])
  behind gate = omega (arith, is_end, length-append base (gate ∷ []))

  -- nothing behind a closed gate counts
  pub torn_behind : (d c : List ℕ) → ClosedAfter base d → Torn (end + 1) (length tail) d c → ClosedAfter base c
  torn_behind d c closed torn =
      let split : d ≡ (base ++ closed.gate ∷ []) ++ closed.rest = closed.split ∙ sym (append_assoc base (closed.gate ∷ []) closed.rest) in
      let front = torn_front (base ++ closed.gate ∷ []) (end + 1) (behind closed.gate) closed.rest c (length tail) (subst (λ (l : List ℕ). Torn (end + 1) (length tail) l c) split torn) in
      record { gate = closed.gate; rest = front.back; shut = closed.shut; split = front.split ∙ append_assoc base (closed.gate ∷ []) front.back }

  pub staged : (d c : List ℕ) → ClosedAfter base d → c ≡ put (end + 1) tail d → StagedAfter base tail c
  staged d c closed is =
      let split : d ≡ (base ++ closed.gate ∷ []) ++ closed.rest = closed.split ∙ sym (append_assoc base (closed.gate ∷ []) closed.rest) in
      let rest = drop (length tail) closed.rest in
      record {
        gate = closed.gate;
        rest = rest;
        split = is ∙ ap (put (end + 1) tail) split ∙ put_behind (base ++ closed.gate ∷ []) (end + 1) (behind closed.gate) tail closed.rest ∙ append_assoc base (closed.gate ∷ []) (tail ++ rest);
      }

  -- what stands behind the range is as it was
  pub staged_after : (d c : List ℕ) → ClosedAfter base d → c ≡ put (end + 1) tail d → drop (end + 1 + length tail) c ≡ drop (end + 1 + length tail) d
  staged_after d c closed is =
      let front = base ++ closed.gate ∷ [] in
      let split : d ≡ front ++ closed.rest = closed.split ∙ sym (append_assoc base (closed.gate ∷ []) closed.rest) in
      let made : c ≡ front ++ (tail ++ drop (length tail) closed.rest) = is ∙ ap (put (end + 1) tail) split ∙ put_behind front (end + 1) (behind closed.gate) tail closed.rest in
      let new : drop (end + 1) c ≡ tail ++ drop (length tail) closed.rest = ap (drop (end + 1)) made ∙ drop_at front (tail ++ drop (length tail) closed.rest) (end + 1) (sym (behind closed.gate)) in
      let old : drop (end + 1) d ≡ closed.rest = ap (drop (end + 1)) split ∙ drop_at front closed.rest (end + 1) (sym (behind closed.gate)) in
      sym (drop-drop (length tail) (end + 1) c) ∙ ap (drop (length tail)) new ∙ drop_at tail (drop (length tail) closed.rest) (length tail) refl
      ∙ ap (drop (length tail)) (sym old) ∙ drop-drop (length tail) (end + 1) d

  -- a gate that is torn is open or it is not
  either : (middle rest c : List ℕ) → length middle ≡ 1 → c ≡ base ++ (middle ++ (tail ++ rest)) → IsBeforeOrAfter base tail c
  either [] rest c size is = absurd (omega arith)
  either (h ∷ g ∷ more) rest c size is = absurd (omega arith)
  either (h ∷ []) rest c size is = elim (cases_eq h 1) [
    | inl is_open ↦ inr (record { rest = rest; split = is ∙ ap (λ (k : ℕ). base ++ (k ∷ (tail ++ rest))) is_open })
    | inr shut ↦ inl (record { gate = h; rest = tail ++ rest; shut = shut; split = is })
  ]

  pub torn_gate : (d c : List ℕ) → StagedAfter base tail d → Torn end 1 d c → IsBeforeOrAfter base tail c
  torn_gate d c s torn =
      let around = torn_around base end is_end (s.gate ∷ []) (tail ++ s.rest) c (subst (λ (l : List ℕ). Torn end 1 l c) s.split torn) in
      either around.middle s.rest c around.size around.split

  pub opened : (d c : List ℕ) → StagedAfter base tail d → c ≡ put end (1 ∷ []) d → OpenAfter base tail c
  opened d c s is = record {
    rest = s.rest;
    split = is ∙ ap (put end (1 ∷ [])) s.split ∙ put_over base end is_end (1 ∷ []) (s.gate ∷ []) (tail ++ s.rest) (omega arith);
  }

  pub opened_after : (d c : List ℕ) → StagedAfter base tail d → c ≡ put end (1 ∷ []) d → drop (end + 1) c ≡ drop (end + 1) d
  unfolding opened
  opened_after d c s is =
      let made : c ≡ (base ++ 1 ∷ []) ++ (tail ++ s.rest) = (opened d c s is).split ∙ sym (append_assoc base (1 ∷ []) (tail ++ s.rest)) in
      let was : d ≡ (base ++ s.gate ∷ []) ++ (tail ++ s.rest) = s.split ∙ sym (append_assoc base (s.gate ∷ []) (tail ++ s.rest)) in
      ap (drop (end + 1)) made ∙ drop_at (base ++ 1 ∷ []) (tail ++ s.rest) (end + 1) (sym (behind 1))
      ∙ sym (ap (drop (end + 1)) was ∙ drop_at (base ++ s.gate ∷ []) (tail ++ s.rest) (end + 1) (sym (behind s.gate)))

-- an old image whose tail stands behind its gate now
pub record Staged (end : ℕ) (tail old new : List ℕ) : Type 0 where
  pub base : List ℕ
  pub at : end ≡ length base
  pub rest : List ℕ
  pub was : old ≡ base ++ rest
  pub is : StagedAfter base tail new
  pub after : drop (end + 1 + length tail) new ≡ drop (end + 1 + length tail) old

module _ (end : ℕ) (tail : List ℕ) where
  further : (a b : List ℕ) → drop (end + 1) a ≡ drop (end + 1) b → drop (end + 1 + length tail) a ≡ drop (end + 1 + length tail) b
  further a b same = sym (drop-drop (length tail) (end + 1) a) ∙ ap (drop (length tail)) same ∙ drop-drop (length tail) (end + 1) b

  commits_none : (d : List ℕ) → ClosedAt end d → Commits end tail d d
  commits_none d s = record { base = s.base; at = s.at; rest = s.closed.gate ∷ s.closed.rest; was = s.closed.split; is = inl s.closed; after = refl }

  commits_torn : (d c : List ℕ) → ClosedAt end d → Torn (end + 1) (length tail) d c → Commits end tail d c
  commits_torn d c s torn = record {
    base = s.base;
    at = s.at;
    rest = s.closed.gate ∷ s.closed.rest;
    was = s.closed.split;
    is = inl (torn_behind s.base tail end s.at d c s.closed torn);
    after = torn.after;
  }

  is_staged : (d c : List ℕ) → ClosedAt end d → c ≡ put (end + 1) tail d → Staged end tail d c
  is_staged d c s is = record {
    base = s.base;
    at = s.at;
    rest = s.closed.gate ∷ s.closed.rest;
    was = s.closed.split;
    is = staged s.base tail end s.at d c s.closed is;
    after = staged_after s.base tail end s.at d c s.closed is;
  }

  commits_gate : (d e c : List ℕ) → Staged end tail d e → Torn end 1 e c → Commits end tail d c
  commits_gate d e c s torn = record {
    base = s.base;
    at = s.at;
    rest = s.rest;
    was = s.was;
    is = torn_gate s.base tail end s.at e c s.is torn;
    after = further c e torn.after ∙ s.after;
  }

  opens_gate : (d e c : List ℕ) → Staged end tail d e → c ≡ put end (1 ∷ []) e → OpensGate end tail d c
  opens_gate d e c s is = record {
    base = s.base;
    at = s.at;
    rest = s.rest;
    was = s.was;
    is = opened s.base tail end s.at e c s.is is;
    after = further c e (opened_after s.base tail end s.at e c s.is is) ∙ s.after;
  }

  module _ {D : Type 0} (on : Ghosts D) (seen_left : (d : D) → on.left_at d (on.moment d) (on.seen d)) (d0 : D) (each0 : Each on d0 (ClosedAt end)) where
    abbrev Now : D → List ℕ → Type 0
    Now d c = on.left_at d (on.moment d) c

    abbrev Stepped : List ℕ → Type 0
    Stepped c = ComesByStep (Now d0) (Commits end tail) c

    abbrev Run : D → Type 0
    Run d = LeavesOnly on d0 d Stepped

    -- a call of the disk, as time sees it
    abbrev Call : D → D → Type 0
    Call old new = (on.moment old ≤ on.moment new) × (on.moment new ≤ on.moment old + 1) × Elapses (on.moment old) (on.left_at old) (on.left_at new)

    step : (old new : D) → Run old → Call old new → Each on new Stepped → Run new
    step old new run call here = goes_on on d0 old new Stepped run call.0 call.1 call.2 here

    each1 : (d1 : D) → Follows (Torn (end + 1) (length tail)) (Now d0) (Now d1) → Each on d1 Stepped
    each1 d1 follows c left = let from = follows c left in (from.0, from.1, commits_torn from.0 c (each0 from.0 from.1) from.2)

    pub run1 : (d1 : D) → Follows (Torn (end + 1) (length tail)) (Now d0) (Now d1) → Call d0 d1 → Run d1
    run1 d1 follows call =
        step d0 d1 (started on d0 Stepped (λ c left. (c, left, commits_none c (each0 c left)))) call (each1 d1 follows)

    pub run2 : (d1 d2 : D) → Follows (Torn (end + 1) (length tail)) (Now d0) (Now d1) → Run d1 → ((c : List ℕ) → Now d2 c → Now d1 c) → Call d1 d2 → Run d2
    run2 d1 d2 follows run fewer call = step d1 d2 run call (λ c left. each1 d1 follows c (fewer c left))

    -- after the first sync the tail stands behind the gate in each image
    abbrev pub AllStaged : D → Type 0
    AllStaged d2 = Each on d2 (λ c. Staged end tail (on.seen d0) c)

    pub staged2 : (d1 d2 : D) → on.seen d1 ≡ put (end + 1) tail (on.seen d0) → Only (on.seen d1) (Now d2) → AllStaged d2
    staged2 d1 d2 written only c left = is_staged (on.seen d0) c (each0 (on.seen d0) (seen_left d0)) (only c left ∙ written)

    each3 : (d2 d3 : D) → AllStaged d2 → Follows (Torn end 1) (Now d2) (Now d3) → Each on d3 Stepped
    each3 d2 d3 each2 follows c left = let from = follows c left in (on.seen d0, seen_left d0, commits_gate (on.seen d0) from.0 c (each2 from.0 from.1) from.2)

    pub run3 : (d2 d3 : D) → AllStaged d2 → Run d2 → Follows (Torn end 1) (Now d2) (Now d3) → Call d2 d3 → Run d3
    run3 d2 d3 each2 run follows call = step d2 d3 run call (each3 d2 d3 each2 follows)

    pub run4 : (d2 d3 d4 : D) → AllStaged d2 → Follows (Torn end 1) (Now d2) (Now d3) → Run d3 → ((c : List ℕ) → Now d4 c → Now d3 c) → Call d3 d4 → Run d4
    run4 d2 d3 d4 each2 follows run fewer call = step d3 d4 run call (λ c left. each3 d2 d3 each2 follows c (fewer c left))

    pub open4 : (d2 d3 d4 : D) → AllStaged d2 → on.seen d3 ≡ put end (1 ∷ []) (on.seen d2) → Only (on.seen d3) (Now d4) → Each on d4 (ComesByStep (Now d0) (OpensGate end tail))
    open4 d2 d3 d4 each2 written only c left = (on.seen d0, seen_left d0, opens_gate (on.seen d0) (on.seen d2) c (each2 (on.seen d2) (seen_left d2)) (only c left ∙ written))
