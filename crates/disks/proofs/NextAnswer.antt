-- A file whose bytes and images are told by its answers.
use Rattle.std.proofs.Common.{◌≡◌, ◌≤◌, ◌+◌, ◌-◌, ℕ, min, List, [], ◌∷◌, ◌++◌, length, take, drop, inr, true, refl, sym, ◌∙◌, ap, subst, arith, length-take, length-drop}
use Rattle.std.proofs.lemmas.List.{take_min, take_at, take-append-drop}
use Rattle.disks.specs.declared.call.Call.{Call}
use Rattle.disks.specs.declared.call.Move.{Move}
use Rattle.disks.specs.declared.answer.Answer.{Answer}
use Rattle.disks.specs.declared.answer.Answer.TheVariants.{Measured, Gave, Changed}
use Rattle.disks.specs.Disk.{Elapses, Gives}
use Rattle.disks.specs.Answers.{Agrees, after, seen_after, IsHonest, changes, LeftAfter}
use Rattle.disks.specs.Moves.{moved, reads_after, Leaves, IsImage, acts, until, all_by}
use Rattle.disks.specs.ReadsLeft.{reads_left, until_all}
use Rattle.disks.proofs.NextCall.{all_recorded, until_recorded, image_done}

seen_moved : (first : List ℕ) (answers : List Answer) → seen_after first answers ≡ reads_after first (acts (changes answers))
seen_moved first [] = refl
seen_moved first (Measured n ∷ answers) = seen_moved first answers
seen_moved first (Gave place room given ∷ answers) = seen_moved first answers
seen_moved first (Changed call ∷ answers) = seen_moved (moved call.act first) answers

pub seen_push : (first : List ℕ) (answers : List Answer) (e : Answer) → seen_after first (answers ++ e ∷ []) ≡ after e (seen_after first answers)
seen_push first [] e = refl
seen_push first (x ∷ answers) e = seen_push (after x first) answers e

pub change_push : (answers : List Answer) (x : Call) → changes (answers ++ Changed x ∷ []) ≡ changes answers ++ x ∷ []
change_push [] x = refl
change_push (Measured n ∷ answers) x = change_push answers x
change_push (Gave place room given ∷ answers) x = change_push answers x
change_push (Changed call ∷ answers) x = ap (λ (l : List Call). call ∷ l) (change_push answers x)

pub length_push : (answers : List Answer) (n : ℕ) → changes (answers ++ Measured n ∷ []) ≡ changes answers
length_push [] n = refl
length_push (Measured m ∷ answers) n = length_push answers n
length_push (Gave place room given ∷ answers) n = length_push answers n
length_push (Changed call ∷ answers) n = ap (λ (l : List Call). call ∷ l) (length_push answers n)

pub read_push : (answers : List Answer) (place room : ℕ) (given : List ℕ) → changes (answers ++ Gave place room given ∷ []) ≡ changes answers
read_push [] place room given = refl
read_push (Measured m ∷ answers) place room given = read_push answers place room given
read_push (Gave p r g ∷ answers) place room given = read_push answers place room given
read_push (Changed call ∷ answers) place room given = ap (λ (l : List Call). call ∷ l) (read_push answers place room given)

-- honest after an answer, honest before it
pub was_honest : (first : List ℕ) (answers : List Answer) (e : Answer) → IsHonest first (answers ++ e ∷ []) → IsHonest first answers
was_honest first [] e honest = tt
was_honest first (x ∷ answers) e honest = (honest.0, was_honest (after x first) answers e honest.1)

pub agreed : (first : List ℕ) (answers : List Answer) (e : Answer) → IsHonest first (answers ++ e ∷ []) → Agrees (seen_after first answers) e
agreed first [] e honest = honest.0
agreed first (x ∷ answers) e honest = agreed (after x first) answers e honest.1

pub stays_honest : (first : List ℕ) (answers : List Answer) (e : Answer) → IsHonest first answers → Agrees (seen_after first answers) e → IsHonest first (answers ++ e ∷ [])
stays_honest first [] e honest agrees = (agrees, tt)
stays_honest first (x ∷ answers) e honest agrees = (honest.0, stays_honest (after x first) answers e honest.1 agrees)

-- what reads give is what a stop may leave
pub seen_is_left : (first : List ℕ) (left : List ℕ → Type 0) (began : left first) (answers : List Answer) (t : ℕ) → all_by t (changes answers) ≡ true → LeftAfter first left answers t (seen_after first answers)
seen_is_left first left began answers t all =
    let whole : IsImage first first (acts (changes answers)) (seen_after first answers) =
    subst (λ (b : List ℕ). IsImage first first (acts (changes answers)) b) (sym (seen_moved first answers)) (reads_left first (acts (changes answers))) in
    (first, began, subst (λ (ms : List Move). IsImage first first ms (seen_after first answers)) (sym (until_all t (changes answers) all)) whole)

-- an answer that changes nothing
pub left_same : (first : List ℕ) (left : List ℕ → Type 0) (old new : List Answer) (t : ℕ) (c : List ℕ) → changes new ≡ changes old → LeftAfter first left new t c → LeftAfter first left old t c
left_same first left old new t c same is = (is.0, is.1, subst (λ (l : List Call). IsImage first is.0 (until t l) c) same is.2)

pub still : (first : List ℕ) (left : List ℕ → Type 0) (old new : List Answer) (now : ℕ) → changes new ≡ changes old → Elapses now (LeftAfter first left old) (LeftAfter first left new)
still first left old new now same = record {
  same = λ t c le is. left_same first left old new t c same is;
  keeps = λ t c le is. left_same first left new old t c (sym same) is;
}

-- an answer that may change it, at the next moment
module _ (first : List ℕ) (left : List ℕ → Type 0) (old new : List Answer) (x : Call) (noted : new ≡ old ++ Changed x ∷ []) (now later : ℕ) (tick : later ≡ now + 1) (next : x.number ≡ later) (all : all_by now (changes old) ≡ true) where
  grown : changes new ≡ changes old ++ x ∷ []
  grown = ap changes noted ∙ change_push old x

  pub all_numbered : all_by later (changes new) ≡ true
  all_numbered = all_recorded (changes old) (changes new) x now later tick next all (inr grown)

  pub passes : Elapses now (LeftAfter first left old) (LeftAfter first left new)
  passes =
      let same : (t : ℕ) → t ≤ now → until t (changes new) ≡ until t (changes old) = until_recorded (changes old) (changes new) x now later tick next all (inr grown) in
      record {
        same = λ t c le is. (is.0, is.1, subst (λ (ms : List Move). IsImage first is.0 ms c) (same t le) is.2);
        keeps = λ t c le is. (is.0, is.1, subst (λ (ms : List Move). IsImage first is.0 ms c) (sym (same t le)) is.2);
      }

  pub from : (c : List ℕ) → LeftAfter first left new later c → (d : List ℕ) × LeftAfter first left old now d × Leaves x.act (seen_after first old) d c
  from c is =
      let before = image_done (changes old) (changes new) x now later tick next all first is.0 grown c is.2 in
      (before.0, (is.0, is.1, before.1), subst (λ (b : List ℕ). Leaves x.act b before.0 c) (sym (seen_moved first old)) before.2)

  pub moved_on : seen_after first new ≡ moved x.act (seen_after first old)
  moved_on = ap (seen_after first) noted ∙ seen_push first old (Changed x)

-- a read of n bytes told what the file has there, as far as there was room
pub gave_true : (bytes : List ℕ) (place n : ℕ) (old new : List ℕ) → Gives bytes place old new n → take n new ≡ take (length old) (drop place bytes)
gave_true bytes place n old new gives =
    let there = drop place bytes in
    let size : length (take n there) ≡ n = omega (arith, gives.0, length-take n there, length-drop place bytes) in
    let least : n ≡ min (length old) (length there) = omega (arith, gives.0, length-drop place bytes) in
    ap (take n) gives.1 ∙ take_at (take n there) (drop n old) n size ∙ ap (λ (m : ℕ). take m there) least ∙ take_min (length old) there

pub gives_true : (bytes : List ℕ) (place n : ℕ) (old new : List ℕ) → n ≤ length old → length new ≡ length old → drop n new ≡ drop n old → take n new ≡ take (length old) (drop place bytes) → Gives bytes place old new n
gives_true bytes place n old new fits same rest given =
    let there = drop place bytes in
    let sizes : length (take n new) ≡ length (take (length old) there) = ap length given in
    let least : n ≡ min (length bytes - place) (length old) = omega (arith, fits, same, sizes, length-take n new, length-take (length old) there, length-drop place bytes) in
    let front : take n new ≡ take n there = given ∙ sym (take_min (length old) there) ∙ ap (λ (m : ℕ). take m there) (sym (omega (arith, least, length-drop place bytes))) in (
      least,
      sym (take-append-drop n new) ∙ ap (λ (l : List ℕ). l ++ drop n new) front ∙ ap (λ (l : List ℕ). take n there ++ l) rest,
    )
