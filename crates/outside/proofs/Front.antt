-- What a copy to the front of a buffer leaves.
use Rattle.std.proofs.Common.{◌≡◌, ℕ, ◌+◌, ◌<◌, min, List, ◌++◌, length, take, drop, sym, ◌∙◌, arith, length-take, take-append-drop}
use Rattle.std.proofs.lemmas.List.{take_at, drop-drop, nil_from_length}
use Rattle.outside.specs.Streams.{Consumes}

pub consumes : (bytes rest buf new : List ℕ) (place n : ℕ) → rest ≡ drop place bytes → n ≡ min (length rest) (length buf) → new ≡ take n rest ++ drop n buf → 0 < length buf → Consumes (drop place bytes) (drop (place + n) bytes) new n
consumes bytes rest buf new place n is_rest is is_new room =
    let long : length (take n rest) ≡ n = omega (arith, length-take n rest) in
    let front = take_at (take n rest) (drop n buf) n long in
    let back = drop-drop n place bytes in
    let split = take-append-drop n rest in
    record {
      given = cc;
      end = λ none. sym is_rest ∙ nil_from_length rest (omega arith);
    }
