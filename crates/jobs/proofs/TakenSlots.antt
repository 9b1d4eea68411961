-- Entries come to need slots, one after the other.
use Rattle.std.proofs.Common.{◌≡◌, ◌⊎◌, ℕ, true, ◌-◌, ◌<◌, ◌≤◌, ◌==◌, List, [], ◌∷◌, ◌++◌, length, get_or, refl, sym, ◌∙◌, ap, subst, arith, inl, inr}
use Rattle.std.proofs.lemmas.Bool.{cases_lt}
use Rattle.std.proofs.lemmas.List.{get_or_past, get_or_append_left, get_or-append_right, length-append}
use Rattle.std.proofs.lemmas.List.Elements.{All-nil, All-push}
use Rattle.std.proofs.lemmas.List.Sums.{count_by-le-length}
use Rattle.jobs.specs.Balance.{times}
use Rattle.jobs.specs.NewJobs.{AllSuit, HasTaken, Refers}
use Rattle.jobs.specs.Slots.{Suits, is_fresh, no_slot, slot_at}
use Rattle.manifests.specs.declared.facts.FileEntry.{FileEntry}
use Rattle.jobs.specs.declared.held.Slot.{Slot}
use Rattle.jobs.proofs.ReferredSlots.{is_same}
use Rattle.jobs.proofs.Counts.{times-append, times-nil}

pub times_few : (b : ℕ) (xs : List ℕ) → times b xs ≤ length xs
unfolding times
times_few b xs = count_by-le-length (λ x. x == b) xs

pub taken_none : (slots : List Slot) → HasTaken slots slots []
taken_none slots = record {
  users = λ k. omega (arith, times-nil k);
  within = All-nil (λ at. at < length slots);
  longer = omega arith;
  same = λ k low. is_same (slot_at slots k);
  fresh = λ k past. ap (λ (s : Slot). is_fresh s.held) (get_or_past slots k no_slot past);
}

pub taken_more : (first slots new : List Slot) (needs : List ℕ) (entry : FileEntry) (at : ℕ) → HasTaken first slots needs → Refers slots new entry at → HasTaken first new (needs ++ at ∷ [])
taken_more first slots new needs entry at taken refers = record {
  users = λ k. omega (arith, taken.users k, refers.users k, times-append k needs (at ∷ []));
  within = All-push (λ n. n < length new) needs at (λ k d low. omega (arith, taken.within k d low, refers.longer)) refers.within;
  longer = omega (arith, taken.longer, refers.longer);
  same = λ k low. let one = taken.same k low in let two = refers.same k (omega (arith, low, taken.longer)) in record { key = two.key ∙ one.key; local = two.local ∙ one.local; held = two.held ∙ one.held };
  fresh = λ k past. fresh k past (cases_lt k (length slots));
}
  where
    fresh : (k : ℕ) → length first ≤ k → (k < length slots) ⊎ (length slots ≤ k) → is_fresh (slot_at new k).held ≡ true
    fresh k past (inl before) = ap is_fresh (refers.same k before).held ∙ taken.fresh k past
    fresh k past (inr after) = refers.fresh k after

pub suit_more : (first slots new : List Slot) (needs : List ℕ) (entries : List FileEntry) (entry : FileEntry) (at : ℕ) → HasTaken first slots needs → Refers slots new entry at
    → ((d : FileEntry) → get_or entries (length needs) d ≡ entry) → AllSuit slots needs entries → AllSuit new (needs ++ at ∷ []) entries
suit_more first slots new needs entries entry at taken refers is suits k d low = by (cases_lt k (length needs))
  where
    by : (k < length needs) ⊎ (length needs ≤ k) → Suits (get_or entries k d) (slot_at new (get_or (needs ++ at ∷ []) k 0))
    by (inl before) =
        let old = suits k d before in
        let same = refers.same (get_or needs k 0) (taken.within k 0 before) in
        subst (λ (n : ℕ). Suits (get_or entries k d) (slot_at new n)) (sym (get_or_append_left needs (at ∷ []) 0 k before))
        record { key = same.key ∙ old.key; local = same.local ∙ old.local }
    by (inr last) =
        let here : k ≡ length needs = omega (arith, length-append needs (at ∷ [])) in
        let none : length needs - length needs ≡ 0 = omega arith in
        let need : get_or (needs ++ at ∷ []) (length needs) 0 ≡ at = get_or-append_right needs (at ∷ []) (length needs) (length needs) 0 refl (omega arith) ∙ ap (λ (n : ℕ). get_or (at ∷ []) n 0) none in
        subst (λ (n : ℕ). Suits (get_or entries n d) (slot_at new (get_or (needs ++ at ∷ []) n 0))) (sym here)
        (subst (λ (n : ℕ). Suits (get_or entries (length needs) d) (slot_at new n)) (sym need)
        (subst (λ (e : FileEntry). Suits e (slot_at new at)) (sym (is d)) (record { key = refers.key; local = refers.local })))
