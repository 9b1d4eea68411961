-- What stops leave over a whole append and a whole checkpoint.
use Rattle.std.proofs.Common.{◌≡◌, inl, inr, ℕ, ◌+◌, ◌<◌, ◌≤◌, ◌^◌, Bool, true, false, List, [], ◌∷◌, ◌++◌, length, refl, sym, ◌∙◌, ap, subst, arith}
use Rattle.disks.specs.Disk.{Only}
use Rattle.disks.specs.Moments.{LeavesOnly, Each}
use Rattle.disks.specs.declared.disk.Disk.{Ghosts}
use Rattle.disks.proofs.MomentLemmas.{started, weaker, then_on}
use Rattle.small_types.specs.Bytes.{put}
use Rattle.journal.specs.declared.side.Side.{Side}
use Rattle.journal.specs.Layout.{size_bytes, long_bytes, log_of, half_head, IsNextSerial, start_of, other_side, HalvesStand, IsHalvedJournal}
use Rattle.disks.specs.Outside.{IsOldOutside}
use Rattle.journal.specs.Log.{IsEither}
use Rattle.journal.specs.Steps.{ClosedAt, Commits, OpensGate, ComesByStep}
use Rattle.journal.proofs.Parts.{closed_at}
use Rattle.journal.proofs.Turns.{journal, appends, appended, turns, turned_over, closing, shut_now}

module _ {D : Type 0} (on : Ghosts D) (old : D) where
  abbrev Now : D → List ℕ → Type 0
  Now d c = on.left_at d (on.moment d) c

  module _ (side : Side) (serial : ℕ) (both : Bool) (blocks half : ℕ) (tables : List ℕ) (changes : List (List ℕ)) (each : Each on old (HalvesStand side serial both blocks half tables changes)) where
    module _ (change tail : List ℕ) (gate end : ℕ) (ends : gate ≡ length (log_of (half_head serial tables) changes)) (is_end : end ≡ start_of side half + gate) (small : length change < 2 ^ 32)
        (is_tail : tail ≡ size_bytes (length change) ++ (change ++ 0 ∷ [])) (fits : gate + 1 + length tail ≤ half) where
      pub gate_shut : Each on old (ClosedAt end)
      gate_shut c left = closed_at (start_of side half) half end (log_of (half_head serial tables) changes) c (each c left).current.closed (omega (arith, ends, is_end))

      pub append_any : (new : D) → (Each on old (ClosedAt end) → LeavesOnly on old new (ComesByStep (Now old) (Commits end tail)))
          → LeavesOnly on old new (IsEither blocks half tables changes tables (changes ++ change ∷ []))
      append_any new run = weaker on old new _ _ (λ c from. either c from) (run gate_shut)
        where
          either : (c : List ℕ) → ComesByStep (Now old) (Commits end tail) c → IsEither blocks half tables changes tables (changes ++ change ∷ []) c
          either c from = elim (appends side serial both blocks half tables changes change tail gate ends small is_tail fits from.0 c (each from.0 from.1)
              (subst (λ (n : ℕ). Commits n tail from.0 c) is_end from.2)) [
                | inl before ↦ inl (journal side serial both blocks half tables changes c before)
                | inr after ↦ inr (journal side serial both blocks half tables (changes ++ change ∷ []) c after)
              ]

      pub append_ok : (new : D) → (Each on old (ClosedAt end) → Each on new (ComesByStep (Now old) (OpensGate end tail)))
          → Each on new (HalvesStand side serial both blocks half tables (changes ++ change ∷ []))
      append_ok new run c left =
          let from = run gate_shut c left in
          appended side serial both blocks half tables changes change tail gate ends small is_tail fits from.0 c (each from.0 from.1) (subst (λ (n : ℕ). OpensGate n tail from.0 c) is_end from.2)

-- the gate of the other half is closed, where it is open
module _ {D : Type 0} (on : Ghosts D) (seen_left : (d : D) → on.left_at d (on.moment d) (on.seen d)) (old mid : D) (side : Side) (serial blocks half : ℕ) (tables : List ℕ) (changes : List (List ℕ)) where
  pub shut_any : (both : Bool) → Each on old (HalvesStand side serial both blocks half tables changes) → (both ≡ false → mid ≡ old)
      → LeavesOnly on old mid (IsOldOutside (start_of (other_side side) half) 1 (Now on old old)) → LeavesOnly on old mid (IsHalvedJournal blocks half tables changes)
  shut_any true each none run = weaker on old mid _ _ (λ c from. closing side serial blocks half tables changes from.0 c (each from.0 from.1) from.2) run
  shut_any false each none run = subst (λ (d : D). LeavesOnly on old d (IsHalvedJournal blocks half tables changes)) (sym (none refl))
      (started on old _ (λ c left. journal side serial false blocks half tables changes c (each c left)))

  pub shut_each : (both : Bool) → Each on old (HalvesStand side serial both blocks half tables changes) → (both ≡ false → mid ≡ old)
      → (both ≡ true → Only (put (start_of (other_side side) half) (0 ∷ []) (on.seen old)) (Now on mid mid)) → Each on mid (HalvesStand side serial false blocks half tables changes)
  shut_each true each none only = λ c left. shut_now side serial blocks half tables changes (on.seen old) c (each (on.seen old) (seen_left old)) (only refl c left)
  shut_each false each none only = subst (λ (d : D). Each on d (HalvesStand side serial false blocks half tables changes)) (sym (none refl)) each

-- the other half is written behind its closed gate, which is then opened
module _ {D : Type 0} (on : Ghosts D) (mid new : D) (side : Side) (serial serial_new : ℕ) (next : IsNextSerial serial serial_new) (blocks half : ℕ) (tables : List ℕ) (changes : List (List ℕ))
    (tables_new tail : List ℕ) (is_tail : tail ≡ serial_new ∷ (long_bytes (length tables_new) ++ (tables_new ++ 0 ∷ []))) (fits : 1 + length tail ≤ half)
    (each : Each on mid (HalvesStand side serial false blocks half tables changes)) where
  abbrev place : ℕ
  place = start_of (other_side side) half

  other_shut : Each on mid (ClosedAt place)
  other_shut c left = closed_at place half place [] c (each c left).other (omega arith)

  pub turn_any : (Each on mid (ClosedAt place) → LeavesOnly on mid new (ComesByStep (Now on mid mid) (Commits place tail))) → LeavesOnly on mid new (IsEither blocks half tables changes tables_new [])
  turn_any run = weaker on mid new _ _ (λ c from. either c from) (run other_shut)
    where
      either : (c : List ℕ) → ComesByStep (Now on mid mid) (Commits place tail) c → IsEither blocks half tables changes tables_new [] c
      either c from = elim (turns side serial serial_new next blocks half tables changes tables_new tail is_tail fits from.0 c (each from.0 from.1) from.2) [
        | inl before ↦ inl (journal side serial false blocks half tables changes c before)
        | inr after ↦ inr (journal (other_side side) serial_new true blocks half tables_new [] c after)
      ]

  pub turn_ok : (Each on mid (ClosedAt place) → Each on new (ComesByStep (Now on mid mid) (OpensGate place tail))) → Each on new (HalvesStand (other_side side) serial_new true blocks half tables_new [])
  turn_ok run c left =
      let from = run other_shut c left in
      turned_over side serial serial_new next blocks half tables changes tables_new tail is_tail fits from.0 c (each from.0 from.1) from.2

pub first_either : {D : Type 0} (on : Ghosts D) (old mid : D) (blocks half : ℕ) (tables : List ℕ) (changes : List (List ℕ)) (tables_new : List ℕ) → LeavesOnly on old mid (IsHalvedJournal blocks half tables changes)
    → LeavesOnly on old mid (IsEither blocks half tables changes tables_new [])
first_either on old mid blocks half tables changes tables_new run = weaker on old mid _ _ (λ c is. inl is) run

-- a whole checkpoint, up to the end of its first part and to its end
module _ {D : Type 0} (on : Ghosts D) (seen_left : (d : D) → on.left_at d (on.moment d) (on.seen d)) (old mid : D) (side : Side) (serial : ℕ) (both : Bool) (blocks half : ℕ) (tables : List ℕ) (changes : List (List ℕ))
    (tables_new : List ℕ) (each : Each on old (HalvesStand side serial both blocks half tables changes)) (side_new : Side) (is_side : side_new ≡ other_side side) (place : ℕ) (is_place : place ≡ start_of side_new half)
    (none : both ≡ false → mid ≡ old) (closes : LeavesOnly on old mid (IsOldOutside place 1 (Now on old old))) where
  at_other : place ≡ start_of (other_side side) half
  at_other = is_place ∙ ap (λ (s : Side). start_of s half) is_side

  pub checkpoint_shut : LeavesOnly on old mid (IsEither blocks half tables changes tables_new [])
  checkpoint_shut = first_either on old mid blocks half tables changes tables_new
      (shut_any on seen_left old mid side serial blocks half tables changes both each none (subst (λ (n : ℕ). LeavesOnly on old mid (IsOldOutside n 1 (Now on old old))) at_other closes))

  module _ (closed : both ≡ true → Only (put place (0 ∷ []) (on.seen old)) (Now on mid mid)) (serial_new : ℕ) (next : IsNextSerial serial serial_new) (tail : List ℕ)
      (is_tail : tail ≡ serial_new ∷ (long_bytes (length tables_new) ++ (tables_new ++ 0 ∷ []))) (fits : 1 + length tail ≤ half) (new : D) where
    each_mid : Each on mid (HalvesStand side serial false blocks half tables changes)
    each_mid = shut_each on seen_left old mid side serial blocks half tables changes both each none
        (λ is. subst (λ (n : ℕ). Only (put n (0 ∷ []) (on.seen old)) (Now on mid mid)) at_other (closed is))

    pub checkpoint_any : (Each on mid (ClosedAt place) → LeavesOnly on mid new (ComesByStep (Now on mid mid) (Commits place tail))) → LeavesOnly on old new (IsEither blocks half tables changes tables_new [])
    checkpoint_any run = then_on on old mid new _ checkpoint_shut
        (turn_any on mid new side serial serial_new next blocks half tables changes tables_new tail is_tail fits each_mid
        (subst (λ (n : ℕ). Each on mid (ClosedAt n) → LeavesOnly on mid new (ComesByStep (Now on mid mid) (Commits n tail))) at_other run))

    pub checkpoint_ok : (Each on mid (ClosedAt place) → Each on new (ComesByStep (Now on mid mid) (OpensGate place tail))) → Each on new (HalvesStand side_new serial_new true blocks half tables_new [])
    checkpoint_ok run = subst (λ (s : Side). Each on new (HalvesStand s serial_new true blocks half tables_new [])) (sym is_side)
        (turn_ok on mid new side serial serial_new next blocks half tables changes tables_new tail is_tail fits each_mid
        (subst (λ (n : ℕ). Each on mid (ClosedAt n) → Each on new (ComesByStep (Now on mid mid) (OpensGate n tail))) at_other run))
