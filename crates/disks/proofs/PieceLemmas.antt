-- What writes and stops leave of bytes that are known in parts.
use Rattle.std.specs.Prelude.{◌≡◌, ℕ, ◌+◌, ◌-◌, min, List, ◌++◌, length, take, drop, replicate}
use Rattle.std.proofs.Common.{sym, ◌∙◌, ap, arith, length-append, length-take, length-drop, take-append-drop}
use Rattle.std.proofs.lemmas.List.{take_at, drop_at, drop-drop, append_assoc}
use Rattle.small_types.specs.Bytes.{put}
use Rattle.disks.specs.Disk.{Torn}
use Rattle.disks.specs.Pieces.{KeepsFront, KeepsAround}

module _ (front : List ℕ) (place : ℕ) (is_place : place ≡ length front) where
  pub torn_front : (back c : List ℕ) (n : ℕ) → Torn place n (front ++ back) c → KeepsFront front c
  torn_front back c n torn =
      let size : min place (length (front ++ back)) ≡ place = omega (arith, is_place, length-append front back) in
      let kept : take place c ≡ front =
      sym (ap (λ (k : ℕ). take k c) size) ∙ torn.before ∙ take_at front back place (sym is_place) in
      record { back = drop place c; split = sym (take-append-drop place c) ∙ ap (λ (l : List ℕ). l ++ drop place c) kept }

  pub torn_around : (middle back c : List ℕ) → Torn place (length middle) (front ++ (middle ++ back)) c → KeepsAround front back (length middle) c
  torn_around middle back c torn =
      let n = length middle in
      let d = front ++ (middle ++ back) in
      let long : length d ≡ place + n + length back = omega (arith, is_place, length-append front (middle ++ back), length-append middle back) in
      let grouped : d ≡ (front ++ middle) ++ back = sym (append_assoc front middle back) in
      let behind : drop (place + n) c ≡ back =
      torn.after ∙ ap (drop (place + n)) grouped ∙ drop_at (front ++ middle) back (place + n) (omega (arith, is_place, length-append front middle)) in
      let first = torn_front (middle ++ back) c n torn in
      let rest_is : first.back ≡ drop place c = sym (ap (drop place) first.split ∙ drop_at front first.back place (sym is_place)) in
      let long_c : length c ≡ place + n + length back = grind (arith, long, torn.size) in
      record {
        middle = take n (drop place c);
        size = omega (arith, length-take n (drop place c), length-drop place c, long_c);
        split = first.split ∙ ap (λ (l : List ℕ). front ++ l) (rest_is ∙ sym (take-append-drop n (drop place c)) ∙ ap (λ (l : List ℕ). take n (drop place c) ++ l) (drop-drop n place c ∙ behind));
      }

  pub put_behind : (bytes back : List ℕ) → put place bytes (front ++ back) ≡ front ++ (bytes ++ drop (length bytes) back)
  put_behind bytes back =
      let none : place - length (front ++ back) ≡ 0 = omega (arith, is_place, length-append front back) in
      let kept = take_at front back place (sym is_place) in
      let behind : drop (place + length bytes) (front ++ back) ≡ drop (length bytes) back =
      sym (drop-drop (length bytes) place (front ++ back)) ∙ ap (drop (length bytes)) (drop_at front back place (sym is_place)) in
      ap (λ (l : List ℕ). l ++ (replicate (place - length (front ++ back)) 0 ++ (bytes ++ drop (place + length bytes) (front ++ back)))) kept
      ∙ ap (λ (k : ℕ). front ++ (replicate k 0 ++ (bytes ++ drop (place + length bytes) (front ++ back)))) none
      ∙ ap (λ (l : List ℕ). front ++ (bytes ++ l)) behind

  pub put_over : (bytes middle back : List ℕ) → length middle ≡ length bytes → put place bytes (front ++ (middle ++ back)) ≡ front ++ (bytes ++ back)
  put_over bytes middle back same =
      put_behind bytes (middle ++ back) ∙ ap (λ (l : List ℕ). front ++ (bytes ++ l)) (drop_at middle back (length bytes) same)
