-- Hashes, gone through from the front.
use Rattle.std.proofs.Common.{◌≡◌, ℕ, suc, ◌+◌, ◌<◌, ◌≤◌, Bool, true, false, List, [], ◌∷◌, ◌++◌, length, drop, get_or, map, Option, Some, None, Result, Ok, Err, refl, sym, ap, subst, ◌∙◌, append_assoc, arith}
use Rattle.std.specs.Prelude.{filter, codes, ◌&&◌, ◌||◌, not, nat_lt, IfOk, IsSome, ◌↔◌, vec_len}
use Rattle.std.proofs.Common.{Vec, Global}
use Rattle.std.proofs.lemmas.Bool.{le-ltb, lt-ltb}
use Rattle.std.proofs.lemmas.List.{append-nil}
use Rattle.std.proofs.lemmas.List.Folds.{list_all-append}
use Rattle.digest_list.specs.declared.algorithm.Algorithm.{Algorithm}
use Rattle.digest_list.specs.Count.{IsCount}
use Rattle.manifest_tree.specs.declared.node.Node.{Node}
use Rattle.manifest_parts.specs.declared.fault.ManifestFault.TheVariants as fault
use Rattle.manifest_parts.specs.declared.fault.ManifestFault.TheVariants.{TooMany, NoDigest}
use Rattle.small_types.specs.declared.limit.Limit.TheVariants.{Hashes}
use Rattle.manifest_parts.proofs.Lookups.{filter_hits, filter_ends}
use Rattle.std.specs.List.{flat_map, list_all}
use Rattle.digest_list.specs.declared.digest.Digest.{Digest}
use Rattle.manifest_tree.specs.Tree.{Tree, tree_of}
use Rattle.manifest_parts.specs.declared.fault.ManifestFault.{ManifestFault}
use Rattle.manifest_parts.specs.Elements.{Read, attribute, called, children_called}
use Rattle.small_types.specs.Outcome.{◌>>=◌}
use Rattle.manifest_parts.specs.Outcome.{Fails, Gives}
use Rattle.manifest_parts.specs.Parts.{is_identity, all_plain, digest_by, added, some_digest, counted, hash_of, with_digest, and_digest, hashes}
use Rattle.manifest_parts.proofs.Readings.{fails_then, err_at}

-- the transforms of these elements
abbrev pub inner : List Tree → List Tree
inner = flat_map (children_called (codes "Transform"))

-- digests, and what is read behind them
abbrev pub behind : List Digest → Read (List Digest) → Read (List Digest)
behind digests read = read >>= λ more. Ok (digests ++ more)

pub behind_none : (read : Read (List Digest)) → behind [] read ≡ read
behind_none (Ok ds) = refl
behind_none (Err e) = refl

moved : (digests : List Digest) (found : Option Digest) (read : Read (List Digest)) → behind digests (read >>= λ ds. Ok (with_digest found ds)) ≡ behind (and_digest digests found) read
moved digests None (Ok ds) = refl
moved digests (Some d) (Ok ds) = ap (λ (xs : List Digest). Ok xs) (sym (append_assoc digests (d ∷ []) ds))
moved digests None (Err e) = refl
moved digests (Some d) (Err e) = refl

-- one hash more
pub behind_more : (digests : List Digest) (hash : Tree) (others : List Tree) (found : Option Digest) → hash_of hash ≡ Ok found
    → behind digests (hashes (hash ∷ others)) ≡ behind (and_digest digests found) (hashes others)
behind_more digests hash others found is =
    ap (λ (read : Read (Option Digest)). behind digests (read >>= λ d. hashes others >>= λ ds. Ok (with_digest d ds))) is ∙ moved digests found (hashes others)

pub behind_end : (digests : List Digest) → behind digests (hashes []) ≡ Ok digests
behind_end digests = ap (λ (xs : List Digest). Ok xs) (append-nil digests)

same_fault : (f e : ManifestFault) → err_at {A = List Digest} f ≡ err_at e → f ≡ e
same_fault f e h = cc

found_fails : (e : ManifestFault) (digests : List Digest) (found : Read (Option Digest)) → added digests found ≡ Err e → found ≡ Err e
found_fails e digests (Ok d) h = absurd cc
found_fails e digests (Err f) h = ap (err_at {A = Option Digest}) (same_fault f e h)

added_fails : (e : ManifestFault) (digests : List Digest) (found : Read (Option Digest)) → Fails e (added digests found) → Fails e found
added_fails fault.Memory digests found h = tt
added_fails (fault.Tree error) digests found h = h
added_fails e digests found h = found_fails e digests found h

-- a hash that fails
pub behind_fails : (e : ManifestFault) (digests : List Digest) (hash : Tree) (others : List Tree) → Fails e (added digests (hash_of hash)) → Fails e (behind digests (hashes (hash ∷ others)))
behind_fails e digests hash others h =
    fails_then e (hashes (hash ∷ others)) (λ (more : List Digest). Ok (digests ++ more))
    (fails_then e (hash_of hash) (λ (d : Option Digest). hashes others >>= λ ds. Ok (with_digest d ds)) (added_fails e digests (hash_of hash) h))

pub same_digest : (a b : Option Algorithm) (x y : List ℕ) → a ≡ b → x ≡ y → digest_by a x ≡ digest_by b y
same_digest a b x y first second = rw (first, second) refl

-- ---- transforms

abbrev pub plain : Tree → Bool
plain transform = is_identity (attribute (codes "Algorithm") transform)

abbrev pub inner_plain : Tree → Bool
inner_plain transforms = all_plain (children_called (codes "Transform") transforms)

pub all_inner : (ts : List Tree) → all_plain (inner ts) ≡ list_all inner_plain ts
all_inner [] = refl
all_inner (t ∷ ts) = list_all-append plain (children_called (codes "Transform") t) (inner ts) ∙ ap (λ (b : Bool). inner_plain t && b) (all_inner ts)

stop_parts : (a b : Bool) → (not a || b) ≡ false → (a ≡ true) × (b ≡ false)
stop_parts true true h = absurd cc
stop_parts true false h = (refl, refl)
stop_parts false b h = absurd cc

pub all_stops : (q : Tree → Bool) (wanted : List ℕ) (ns : List Node) (i : ℕ) (n : Node) → i < length ns → n ≡ get_or ns i n → (not (called wanted (tree_of n)) || q (tree_of n)) ≡ false
    → list_all q (filter (called wanted) (map tree_of (drop i ns))) ≡ false
all_stops q wanted ns i n lt is h =
    let parts = stop_parts (called wanted (tree_of n)) (q (tree_of n)) h in
    ap (list_all q) (filter_hits (called wanted) tree_of ns i n lt is parts.0) ∙ rw parts.1 refl

pub all_ends : (q : Tree → Bool) (wanted : List ℕ) (ns : List Node) (i : ℕ) → length ns ≤ i → list_all q (filter (called wanted) (map tree_of (drop i ns))) ≡ true
all_ends q wanted ns i le = ap (list_all q) (filter_ends (called wanted) tree_of ns i le)

-- ---- how many

pub all_counted : (count : ℕ) (rest whole found : List Tree) → count + length rest ≡ length whole → rest ≡ [] → whole ≡ found → count ≡ length found
all_counted count rest whole found sum none is = omega (arith, sum, ap (λ (ts : List Tree). length ts) none, ap (λ (ts : List Tree). length ts) is)

with_few : (found : Option Digest) (ds : List Digest) (n : ℕ) → length ds ≤ n → length (with_digest found ds) ≤ suc n
with_few None ds n le = omega (arith, le)
with_few (Some d) ds n le = omega (arith, le)

few_next : (found : Option Digest) (read : Read (List Digest)) (n : ℕ) → IfOk read (λ ds. length ds ≤ n) → IfOk (read >>= λ ds. Ok (with_digest found ds)) (λ ds. length ds ≤ suc n)
few_next found (Ok ds) n le = with_few found ds n le
few_next found (Err e) n le = tt

few_here : (found : Read (Option Digest)) (read : Read (List Digest)) (n : ℕ) → IfOk read (λ ds. length ds ≤ n) → IfOk (found >>= λ d. read >>= λ ds. Ok (with_digest d ds)) (λ ds. length ds ≤ suc n)
few_here (Ok d) read n le = few_next d read n le
few_here (Err e) read n le = tt

few : (ts : List Tree) → IfOk (hashes ts) (λ ds. length ds ≤ length ts)
few [] = omega arith
few (t ∷ ts) = few_here (hash_of t) (hashes ts) (length ts) (few ts)

pub few_of : (r : Read (Vec Digest Global)) (ts : List Tree) → Gives (λ v. v.items) r (hashes ts) → length ts ≤ 8 → IfOk r (λ v. length v.items ≤ 8)
few_of (Ok v) ts h le = let small = subst (λ (x : Read (List Digest)). IfOk x (λ ds. length ds ≤ length ts)) h (few ts) in omega (arith, small, le)
few_of (Err e) ts h le = tt

pub counted_all : (ts : List Tree) → length ts ≤ 8 → counted ts ≡ hashes ts
counted_all ts le = rw (le-ltb 8 (length ts) le) refl

pub counted_over : (ts : List Tree) → 8 < length ts → counted ts ≡ Err (TooMany Hashes)
counted_over ts lt = rw (lt-ltb 8 (length ts) lt) refl

pub some_is : (file : List ℕ) (ds : List Digest) → IsCount ds → some_digest file ds ≡ Ok ds
some_is file [] h = absurd (omega (arith, h.some))
some_is file (d ∷ ds) h = refl

pub none_is : {X : Type 0} (file : List ℕ) (ds : List Digest) (o : Option X) → (IsSome o ↔ IsCount ds) → o ≡ None → length ds ≤ 8 → some_digest file ds ≡ Err (NoDigest file)
none_is file [] o h is le = refl
none_is {X} file (d ∷ ds) o h is le = let never = subst (λ (x : Option X). IsSome x) is (h.1 (record { some = omega arith; within = le })) in absurd cc
