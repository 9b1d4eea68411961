-- What reads give is one of the things that a stop may leave.
use Rattle.std.specs.Prelude.{◌≡◌, ℕ, ◌+◌, ◌-◌, min, List, [], ◌∷◌, ◌++◌, length, take, drop, replicate, true, false, nat_le, refl}
use Rattle.std.proofs.Common.{sym, ◌∙◌, ap, subst, arith, inl, inr, length-take, length-drop, length-append}
use Rattle.std.proofs.lemmas.List.{take_min, take_all, take_at, drop_at, length-replicate, append_assoc}
use Rattle.std.proofs.lemmas.Bool.Decides.{nat_tests}
use Rattle.disks.specs.declared.call.Call.{Call}
use Rattle.disks.specs.declared.call.Move.{Move}
use Rattle.disks.specs.declared.call.Move.TheVariants.{Write, Cut, Sync}
use Rattle.small_types.specs.Bytes.{put}
use Rattle.disks.specs.Disk.{Torn, CutOff}
use Rattle.disks.specs.Moves.{reads_after, IsImage, acts, until, all_by}

pub until_all : (t : ℕ) (calls : List Call) → all_by t calls ≡ true → until t calls ≡ acts calls
until_all t [] all = refl
until_all t (x ∷ calls) all =
    let first : nat_le x.number t ≡ true = grind (arith, nat_tests) in
    let rest : all_by t calls ≡ true = grind (arith, nat_tests) in
    let later = until_all t calls rest in
    grind (arith, nat_tests, later)

pub torn_same : (place n : ℕ) (d : List ℕ) → Torn place n d d
torn_same place n d = record { before = take_min place d; after = refl; size = inl refl }

pub cut_same : (n : ℕ) (d : List ℕ) → CutOff n d d
cut_same n d = record { before = take_min n d; size = inl refl }

-- any bytes of the right number in the range are what a stop may leave of it
pub torn_with : (place n : ℕ) (d middle : List ℕ)
    → length (take place d) + length middle ≡ place + n
    → Torn place n d (take place d ++ (middle ++ drop (place + n) d))
torn_with place n d middle size =
    let c = take place d ++ (middle ++ drop (place + n) d) in
    let grouped : c ≡ (take place d ++ middle) ++ drop (place + n) d =
    sym (append_assoc (take place d) middle (drop (place + n) d)) in
    record {
      before = take_at (take place d) (middle ++ drop (place + n) d) (min place (length d))
          (length-take place d);
      after = ap (drop (place + n)) grouped
          ∙ drop_at (take place d
          ++ middle) (drop (place + n) d) (place + n) (length-append (take place d) middle ∙ size);
      size = inr (omega (
        arith,
        length-append (take place d) (middle
            ++ drop (place + n) d),
        length-append middle (drop (place + n) d),
        length-drop (place + n)
            d,
      ));
    }

pub torn_put : (place : ℕ) (bytes d : List ℕ) → Torn place (length bytes) d (put place bytes d)
torn_put place bytes d =
    let zeros = replicate (place - length d) 0 in
    let size : length (take place d) + length (zeros ++ bytes) ≡ place + length bytes =
    omega (
      arith,
      length-take place d,
      length-append zeros bytes,
      length-replicate {A = ℕ}
          (place - length d) 0,
    ) in
    subst (λ (m : List ℕ). Torn place (length bytes) d (take place d
    ++ m)) (append_assoc zeros bytes (drop (place + length bytes) d))
    (torn_with place (length bytes) d (zeros ++ bytes) size)

pub cut_take : (n : ℕ) (d : List ℕ) → CutOff n d (take n d)
cut_take n d = record {
  before = take_all (min n (length d)) (take n d) (omega (arith, length-take n d));
  size = grind (arith, length-take n d);
}

-- what reads give is what a stop may leave
pub reads_left : (reads : List ℕ) (moves : List Move)
    → IsImage reads reads moves (reads_after reads moves)
reads_left reads [] = refl
reads_left reads (Write place bytes true ∷ moves) =
    (put place bytes reads, torn_put place bytes reads, reads_left (put place bytes reads) moves)
reads_left reads (Write place bytes false ∷ moves) =
    (reads, torn_same place (length bytes) reads, reads_left reads moves)
reads_left reads (Cut n true ∷ moves) =
    (take n reads, cut_take n reads, reads_left (take n reads) moves)
reads_left reads (Cut n false ∷ moves) = (reads, cut_same n reads, reads_left reads moves)
reads_left reads (Sync true ∷ moves) = (reads, refl, reads_left reads moves)
reads_left reads (Sync false ∷ moves) = (reads, refl, reads_left reads moves)

pub reads_are_left : (first : List ℕ) (calls : List Call) (t : ℕ) (bytes : List ℕ)
    → bytes ≡ reads_after first (acts calls) → all_by t calls ≡ true
    → IsImage first first (until t calls) bytes
reads_are_left first calls t bytes is all =
    subst (λ (ms : List Move). IsImage first first ms bytes) (sym (until_all t calls all))
    (subst (λ (b : List ℕ). IsImage first first (acts calls) b) (sym is)
    (reads_left first (acts calls)))
