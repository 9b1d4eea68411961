use Rattle.std.proofs.Common.{◌≡◌, ◌++◌, ◌∙◌, List, ℕ, [], ◌∷◌, codes, decimal, string_bytes, IfOk, append_assoc, ap}
use Rattle.std.specs.Prelude.{Result, Ok, Err}
use Rattle.demo.specs.declared.summary.Summary.{Summary}
use Rattle.demo.specs.Summary.{summary_line}
use Rattle.demo.proofs.summary.Summary.line.Goals as goal

spaced : (p q r rest : List ℕ)
    → (p ++ 32 ∷ (q ++ 32 ∷ r)) ++ rest ≡ p ++ 32 ∷ (q ++ 32 ∷ (r ++ rest))
spaced p q r rest =
    append_assoc p (32 ∷ (q ++ 32 ∷ r)) rest
    ∙ ap (λ (end : List ℕ). p ++ 32 ∷ end) (append_assoc q (32 ∷ r) rest)

-- three numbers, and what follows them
numbers_then : (a b c : ℕ) (text rest : List ℕ)
    → text ≡ decimal a ++ (codes " " ++ (decimal b ++ (codes " " ++ decimal c)))
    → text ++ rest ≡ decimal a ++ (codes " " ++ (decimal b ++ (codes " " ++ (decimal c ++ rest))))
numbers_then a b c text rest is =
    ap (λ (front : List ℕ). front ++ rest) is ∙ spaced (decimal a) (decimal b) (decimal c) rest

-- the line, by the texts of its numbers
line_of : (s : Summary) (asked used : List ℕ)
    → asked ≡ decimal s.one.asked ++ (codes " " ++ (decimal s.two.asked ++ (codes " "
    ++ decimal s.three.asked)))
    → used ≡ decimal s.one.blocks ++ (codes " " ++ (decimal s.two.blocks ++ (codes " "
    ++ decimal s.three.blocks)))
    → codes "demo " ++ (decimal s.seed ++ (codes " files 200 asked " ++ (asked
    ++ (codes " blocks " ++ (used ++ (codes " " ++ (decimal s.blocks ++ 10 ∷ [])))))))
    ≡ summary_line s
unfolding summary_line
line_of s asked used asked_is used_is =
    let end = codes " " ++ (decimal s.blocks ++ 10 ∷ []) in
    let behind = numbers_then s.one.blocks s.two.blocks s.three.blocks used end used_is in
    let front = numbers_then s.one.asked s.two.asked s.three.asked asked
    (codes " blocks " ++ (used ++ end)) asked_is in
    ap (λ (text : List ℕ). codes "demo " ++ (decimal s.seed ++ (codes " files 200 asked " ++ text))) front
    ∙ ap (λ (text : List ℕ). codes "demo " ++ (decimal s.seed ++ (codes " files 200 asked "
    ++ (decimal s.one.asked ++ (codes " " ++ (decimal s.two.asked ++ (codes " "
    ++ (decimal s.three.asked ++ (codes " blocks " ++ text))))))))) behind

made_so : {T E : Type 0} (bytes_of : T → List ℕ) (r : Result T E) (a b : List ℕ)
    → IfOk r (λ line. bytes_of line ≡ a) → a ≡ b → IfOk r (λ line. bytes_of line ≡ b)
made_so bytes_of (Ok line) a b made same = made ∙ same
made_so bytes_of (Err e) a b made same = tt

pub returns : goal.returns
returns c =
    let s = c.args.self.now in
    let asked = string_bytes c.in_ok-asked.asked in
    let used = string_bytes c.in_ok-used.used in
    made_so string_bytes c.format.result
    (codes "demo " ++ (decimal s.seed ++ (codes " files 200 asked " ++ (asked
    ++ (codes " blocks " ++ (used ++ (codes " " ++ (decimal s.blocks ++ 10 ∷ []))))))))
    (summary_line s) c.format.ensures.ok
    (line_of s asked used c.in_ok-asked.ensures c.in_ok-used.ensures)
