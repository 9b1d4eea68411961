-- Fields that are written one behind another.
use Rattle.std.proofs.Common.{◌≡◌, ℕ, ◌+◌, ◌≤◌, List, [], ◌++◌, length, take, drop, sym, ap, ◌∙◌, append_assoc, arith}
use Rattle.std.proofs.lemmas.List.{take_at, drop_at, drop-drop, take-append-drop, length-append, length-take, length-drop}
use Rattle.record_fields.specs.Places.{written, WritesField}

length-written : (old a : List ℕ) (place : ℕ) → place + length a ≤ length old → length (written old place a) ≡ length old
length-written old a place room = omega (arith, length-append (take place old) (a ++ drop (place + length a) old), length-append a (drop (place + length a) old), length-take place old, length-drop (place + length a) old)

module _ (old a b : List ℕ) (place : ℕ) (room : place + length a + length b ≤ length old) where
  regrouped : written old place a ≡ (take place old ++ a) ++ drop (place + length a) old
  regrouped = sym (append_assoc (take place old) a (drop (place + length a) old))

  long : length (take place old ++ a) ≡ place + length a
  long = omega (arith, length-append (take place old) a, length-take place old)

  front : take (place + length a) (written old place a) ≡ take place old ++ a
  front = ap (take (place + length a)) regrouped ∙ take_at (take place old ++ a) (drop (place + length a) old) (place + length a) long

  rest : drop (place + length a) (written old place a) ≡ drop (place + length a) old
  rest = ap (drop (place + length a)) regrouped ∙ drop_at (take place old ++ a) (drop (place + length a) old) (place + length a) long

  behind : drop (place + length a + length b) (written old place a) ≡ drop (place + length a + length b) old
  behind = sym (drop-drop (length b) (place + length a) (written old place a)) ∙ ap (drop (length b)) rest ∙ drop-drop (length b) (place + length a) old

  pub written_written : written (written old place a) (place + length a) b ≡ written old place (a ++ b)
  written_written =
      let same : place + length a + length b ≡ place + length (a ++ b) = omega (arith, length-append a b) in
      rw (front, behind, same) (append_assoc (take place old) a (b ++ drop (place + length (a ++ b)) old) ∙ ap (λ (t : List ℕ). take place old ++ t) (sym (append_assoc a b (drop (place + length (a ++ b)) old))))

-- two fields
pub two_written : (old first second a b : List ℕ) (place mid : ℕ) → place + length (a ++ b) ≤ length old → first ≡ written old place a → mid ≡ place + length a → second ≡ written first mid b → second ≡ written old place (a ++ b)
two_written old first second a b place mid room one at two =
    let enough : place + length a + length b ≤ length old = omega (arith, length-append a b) in
    two ∙ ap (λ (xs : List ℕ). written xs mid b) one ∙ ap (λ (n : ℕ). written (written old place a) n b) at ∙ written_written old a b place enough

-- ---- fields that were written

pub length-Writes : {old a new : List ℕ} {place next : ℕ} → WritesField old place a new next
    → length new ≡ length old
length-Writes {old} {a} {new} {place} {next} w =
    let behind = w.behind in
    let within = w.within in
    ap (length {A = ℕ}) w.text ∙ length-written old a place (omega arith)

-- two fields are one
pub then : {old mid new a b : List ℕ} {place next last : ℕ} → WritesField old place a mid next
    → WritesField mid next b new last → WritesField old place (a ++ b) new last
then {old} {mid} {new} {a} {b} {place} {next} {last} first second =
    let at = first.behind in
    let end = second.behind in
    let long = length-Writes first in
    let both = length-append a b in
    let inside = second.within in
    record {
      text = two_written old mid new a b place next (omega arith) first.text at second.text;
      behind = omega arith;
      within = omega arith;
    }

pub at_front : {old new a : List ℕ} {next : ℕ} → WritesField old 0 a new next → new ≡ a ++ drop next old
at_front {old} {new} {a} {next} w =
    let behind = w.behind in
    let same : 0 + length a ≡ next = omega arith in
    w.text ∙ ap (λ (n : ℕ). a ++ drop n old) same

-- nothing is written
pub nothing : (out : List ℕ) (place : ℕ) → place ≤ length out → WritesField out place [] out place
nothing out place within =
    let same : place + 0 ≡ place = omega arith in
    let whole = ap (λ (n : ℕ). take place out ++ drop n out) same ∙ take-append-drop place out in
    record { text = sym whole; behind = omega arith; within = within }
