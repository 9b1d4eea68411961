-- Blocks whose numbers, and whose count, four bytes can say.
use Rattle.std.proofs.Common.{◌+◌, ◌≤◌, ◌<◌, ◌++◌, inl, inr, subst, ℕ, List, [], ◌∷◌, All, length, arith}
use Rattle.std.specs.Prelude.{flat_map}
use Rattle.std.specs.List.Sorted.{IsPermutation}
use Rattle.std.proofs.lemmas.List.{get_or-append-add, get_or_append_left, length-append}
use Rattle.std.proofs.lemmas.List.Sorted.{All-permutation, length_permutation}
use Rattle.small_types.specs.declared.limits.TheConstants.{BLOCK_LIMIT}
use Rattle.small_types.specs.declared.room.Room.{Room}
use Rattle.machine.proofs.Members.{In}
use Rattle.file_store.specs.Stores.{block_count}
use Rattle.file_store.specs.declared.store.FileStore.{FileStore}
use Rattle.record_codec.specs.declared.numbers.TheConstants.{COUNT_LIMIT}
use Rattle.record_codec.specs.Values.{IsBlock}
use Rattle.install_plan.specs.Blocks.{UsesBlocks}

pub record AreSmall (blocks : List ℕ) : Type 0 where
  pub few : length blocks ≤ COUNT_LIMIT
  pub all : All IsBlock blocks

all_front : (P : ℕ → Type 0) (xs ys : List ℕ) → All P (xs ++ ys) → All P xs
all_front P xs ys all k d low = subst P (get_or_append_left xs ys d k low) (all k d (omega (arith, low, length-append xs ys)))

all_back : (P : ℕ → Type 0) (xs ys : List ℕ) → All P (xs ++ ys) → All P ys
all_back P xs ys all k d low = subst P (get_or-append-add xs ys k d) (all (length xs + k) d (omega (arith, low, length-append xs ys)))

pub small_front : (xs ys : List ℕ) → AreSmall (xs ++ ys) → AreSmall xs
small_front xs ys small = record { few = omega (arith, small.few, length-append xs ys); all = all_front IsBlock xs ys small.all }

pub small_back : (xs ys : List ℕ) → AreSmall (xs ++ ys) → AreSmall ys
small_back xs ys small = record { few = omega (arith, small.few, length-append xs ys); all = all_back IsBlock xs ys small.all }

-- those of each of the values that hold them
pub small_each : {X : Type 0} (f : X → List ℕ) (xs : List X) → AreSmall (flat_map f xs) → (x : X) → In x xs → AreSmall (f x)
small_each f [] small y there = absurd there
small_each f (x ∷ xs) small y (inl same) = subst (λ z. AreSmall (f z)) same (small_front (f x) (flat_map f xs) small)
small_each f (x ∷ xs) small y (inr there) = small_each f xs (small_back (f x) (flat_map f xs) small) y there

-- those of a store that are in use
pub used_small : (files : FileStore) (room : Room) (held taken comes unused : List ℕ) → UsesBlocks files room (held ++ taken)
    → IsPermutation taken (comes ++ unused) → room.blocks ≤ BLOCK_LIMIT → AreSmall comes
used_small files room held taken comes unused uses same few = record {
  few = omega (arith, uses.all, length-append held taken, length_permutation taken (comes ++ unused) same, length-append comes unused, few);
  all = λ k d low.
      let below = all_front (λ b. b < block_count files) comes unused
      (All-permutation (λ b. b < block_count files) taken (comes ++ unused) same
      (all_back (λ b. b < block_count files) held taken uses.used.within)) k d low in
      omega (arith, below, uses.number, few);
}
