-- Files that share their bytes, as they stand in any list.
use Rattle.std.proofs.Common.{◌≡◌, ◌∙◌, inl, inr, refl, sym, ap, List, [], ◌∷◌, arith}
use Rattle.std.proofs.lemmas.List.Kept.{AllPairs-cons}
use Rattle.machine.specs.Sound.{ShareBytes}
use Rattle.machine.specs.Views.{ListedFile, content_key}
use Rattle.machine.proofs.Members.{In, all_in, in_all, pairs_head, pairs_tail}

-- two files with equal content keys have equal bytes
abbrev pub AreAlike : ListedFile → ListedFile → Type 0
AreAlike f g = content_key f.entry ≡ content_key g.entry → f.bytes ≡ g.bytes

pub each_alike : (files : List ListedFile) → ShareBytes files → (f g : ListedFile) → In f files
    → In g files → AreAlike f g
each_alike [] share f g a b = absurd a
each_alike (x ∷ xs) share f g (inl a) (inl b) = λ same. ap (λ (h : ListedFile). h.bytes) (sym a ∙ b)
each_alike (x ∷ xs) share f g (inl a) (inr b) = λ same.
    ap (λ (h : ListedFile). h.bytes) (sym a)
    ∙ all_in (AreAlike x) xs g (pairs_head AreAlike x xs share) b
    (ap (λ (h : ListedFile). content_key h.entry) a ∙ same)
each_alike (x ∷ xs) share f g (inr a) (inl b) = λ same.
    sym (ap (λ (h : ListedFile). h.bytes) (sym b)
    ∙ all_in (AreAlike x) xs f (pairs_head AreAlike x xs share) a
    (ap (λ (h : ListedFile). content_key h.entry) b ∙ sym same))
each_alike (x ∷ xs) share f g (inr a) (inr b) =
    each_alike xs (pairs_tail AreAlike x xs share) f g a b

pub alike_each : (files : List ListedFile)
    → ((f g : ListedFile) → In f files → In g files → AreAlike f g) → ShareBytes files
alike_each [] each = λ i j d lt within. absurd (omega arith)
alike_each (x ∷ xs) each =
    AllPairs-cons AreAlike x xs
    (in_all (AreAlike x) xs (λ g there. each x g (inl refl) (inr there)))
    (alike_each xs (λ f g a b. each f g (inr a) (inr b)))
