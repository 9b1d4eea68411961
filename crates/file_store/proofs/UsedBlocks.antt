-- The blocks in use, for the layer above: one list of all of them, through each call.
use Rattle.std.proofs.Common.{◌≡◌, ◌⊎◌, ℕ, ◌+◌, ◌<◌, List, ◌++◌, length, sym, ap, subst, arith, inl, inr, All, Contains}
use Rattle.std.proofs.lemmas.List.{append_assoc, get_or-append-add, get_or_append_left, length-append}
use Rattle.std.proofs.lemmas.List.Elements.{All-append, Contains-append_cases, Contains-append_left, Contains-append_right}
use Rattle.small_types.specs.Blocks.{AreApart}
use Rattle.file_store.specs.Stores.{AreUsed, SameRange, block_count, free_of}
use Rattle.file_store.specs.declared.store.FileStore.{FileStore}
use Rattle.file_store.proofs.Apart.{apart_back, apart_front, apart_join, apart_other}

all_front : (P : ℕ → Type 0) (xs ys : List ℕ) → All P (xs ++ ys) → All P xs
all_front P xs ys all k d low = subst P (get_or_append_left xs ys d k low) (all k d (omega (arith, length-append xs ys)))

all_back : (P : ℕ → Type 0) (xs ys : List ℕ) → All P (xs ++ ys) → All P ys
all_back P xs ys all k d low = subst P (get_or-append-add xs ys k d) (all (length xs + k) d (omega (arith, length-append xs ys)))

module _ (store : FileStore) (front blocks back : List ℕ) (used : AreUsed store (front ++ (blocks ++ back))) where
  listed : AreApart (front ++ (blocks ++ back))
  listed = apart_front (front ++ (blocks ++ back)) (free_of store) used.apart

  rest : AreApart (blocks ++ back)
  rest = apart_back front (blocks ++ back) listed

  frees : AreApart (free_of store)
  frees = apart_back (front ++ (blocks ++ back)) (free_of store) used.apart

  in_front : (x : ℕ) → Contains front x → Contains (front ++ (blocks ++ back)) x
  in_front x there = Contains-append_left front (blocks ++ back) x there

  in_blocks : (x : ℕ) → Contains blocks x → Contains (front ++ (blocks ++ back)) x
  in_blocks x there = Contains-append_right front (blocks ++ back) x (Contains-append_left blocks back x there)

  in_back : (x : ℕ) → Contains back x → Contains (front ++ (blocks ++ back)) x
  in_back x there = Contains-append_right front (blocks ++ back) x (Contains-append_right blocks back x there)

  not_free : (x : ℕ) → Contains (front ++ (blocks ++ back)) x → Contains (free_of store) x → ⊥
  not_free x there free = apart_other (front ++ (blocks ++ back)) (free_of store) x used.apart there free

  -- a part of the blocks in use
  pub used_part : AreUsed store blocks
  used_part = record {
    within = all_front (λ b. b < block_count store) blocks back (all_back (λ b. b < block_count store) front (blocks ++ back) used.within);
    apart = apart_join blocks (free_of store) (apart_front blocks back rest) frees (λ x there free. not_free x (in_blocks x there) free);
  }

  -- that part was given back
  pub used_less : (new : FileStore) → free_of new ≡ blocks ++ free_of store → SameRange store new → AreUsed new (front ++ back)
  used_less new freed same = record {
    within =
        subst (λ (n : ℕ). All (λ b. b < n) (front ++ back)) (sym same.number)
        (All-append (λ b. b < block_count store) front back (all_front (λ b. b < block_count store) front (blocks ++ back) used.within)
        (all_back (λ b. b < block_count store) blocks back (all_back (λ b. b < block_count store) front (blocks ++ back) used.within)));
    apart =
        subst (λ (l : List ℕ). AreApart ((front ++ back) ++ l)) (sym freed)
        (apart_join (front ++ back) (blocks ++ free_of store)
        (apart_join front back (apart_front front (blocks ++ back) listed) (apart_back blocks back rest) (λ x one two. apart_other front (blocks ++ back) x listed one (Contains-append_right blocks back x two)))
        (apart_join blocks (free_of store) (apart_front blocks back rest) frees (λ x there free. not_free x (in_blocks x there) free))
        (λ x one two. others x (Contains-append_cases front back x one) (Contains-append_cases blocks (free_of store) x two)));
  }
    where
      others : (x : ℕ) → Contains front x ⊎ Contains back x → Contains blocks x ⊎ Contains (free_of store) x → ⊥
      others x (inl one) (inl two) = apart_other front (blocks ++ back) x listed one (Contains-append_left blocks back x two)
      others x (inr one) (inl two) = apart_other blocks back x rest two one
      others x (inl one) (inr free) = not_free x (in_front x one) free
      others x (inr one) (inr free) = not_free x (in_back x one) free

-- blocks were handed out
pub used_more : (old new : FileStore) (used taken : List ℕ) → AreUsed old used → free_of old ≡ taken ++ free_of new → AreUsed new taken → SameRange old new → AreUsed new (used ++ taken)
used_more old new used taken before handed there same = record {
  within = All-append (λ b. b < block_count new) used taken (subst (λ (n : ℕ). All (λ b. b < n) used) (sym same.number) before.within) there.within;
  apart = subst AreApart (sym (append_assoc used taken (free_of new))) (subst (λ (l : List ℕ). AreApart (used ++ l)) handed before.apart);
}

-- so the count of free blocks is that of all less that of those in use, before and after
pub count_more : (old new : FileStore) (used taken : List ℕ) → length used + length (free_of old) ≡ block_count old → free_of old ≡ taken ++ free_of new → SameRange old new → length (used ++ taken) + length (free_of new) ≡ block_count new
count_more old new used taken count handed same = omega (arith, count, ap length handed, length-append taken (free_of new), length-append used taken, same.number)

pub count_less : (old new : FileStore) (front blocks back : List ℕ) → length (front ++ (blocks ++ back)) + length (free_of old) ≡ block_count old → free_of new ≡ blocks ++ free_of old → SameRange old new
    → length (front ++ back) + length (free_of new) ≡ block_count new
count_less old new front blocks back count freed same =
    omega (arith, count, ap length freed, length-append blocks (free_of old), length-append front (blocks ++ back), length-append blocks back, length-append front back, same.number)
