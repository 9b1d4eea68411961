-- Parts of contents, as runs read them.
use Rattle.std.proofs.Common.{◌≡◌, ℕ, ◌+◌, ◌-◌, ◌≤◌, min, List, ◌++◌, length, take, drop, sym, ◌∙◌, ap, arith}
use Rattle.std.proofs.lemmas.List.{length-take, take-append-drop, take_all, take_at}
use Rattle.std.proofs.Math.Seq.{take-append-add}

-- a run behind those before it
pub take_on : (bytes : List ℕ) (done n : ℕ) → done ≤ length bytes → take (done + n) bytes ≡ take done bytes ++ take n (drop done bytes)
take_on bytes done n within =
    let size : length (take done bytes) ≡ done = omega (arith, length-take done bytes) in
    let whole : length (take done bytes) + n ≡ done + n = omega (arith, size) in
    sym (ap (λ (k : ℕ). take k bytes) whole)
    ∙ sym (ap (take (length (take done bytes) + n)) (take-append-drop done bytes))
    ∙ take-append-add (take done bytes) (drop done bytes) n

-- two contents that are the same so far, and in a run more
pub same_on : (one other : List ℕ) (done n : ℕ) → done ≤ length one → done ≤ length other → take done one ≡ take done other → take n (drop done one) ≡ take n (drop done other)
    → take (done + n) one ≡ take (done + n) other
same_on one other done n fits fits_other before more =
    take_on one done n fits ∙ ap (λ (l : List ℕ). l ++ take n (drop done one)) before ∙ ap (λ (l : List ℕ). take done other ++ l) more ∙ sym (take_on other done n fits_other)

-- a buffer that was read as far as it goes has the content's bytes, whatever is put behind them
pub buffer_given : (content before after filled rest : List ℕ) (size from n : ℕ) → from + length before ≤ size → n ≡ min (size - from) (length before)
    → length after ≡ length before → take n after ≡ take n (drop from content) → filled ≡ take n after ++ rest → length filled ≡ length before → filled ≡ take (length before) (drop from content)
buffer_given content before after filled rest size from n fits whole same front is kept =
    let all : n ≡ length before = omega (arith, whole, fits) in
    let front_size : length (take n after) ≡ n = omega (arith, length-take n after, all, same) in
    let end : length filled ≤ n = omega (arith, kept, all) in
    sym (take_all n filled end) ∙ ap (take n) is ∙ take_at (take n after) rest n front_size ∙ front ∙ ap (λ (k : ℕ). take k (drop from content)) all
