-- Where the end of a head is looked for.
use Rattle.std.proofs.Common.{◌≡◌, ◌≤◌, ◌<◌, ◌+◌, ◌-◌, ℕ, suc, zero, Bool, true, false, cond, List, [], ◌∷◌, ◌++◌, length, take, drop, get_or, nat_eq, Option, Some, None, refl, ap, sym, subst, ◌∙◌, arith, add-one, length-append}
use Rattle.std.specs.Option.{option_map, IfSome}
use Rattle.std.specs.List.{starts_with}
use Rattle.std.proofs.lemmas.List.{take-append-le, take-append-drop, drop_all, length-take}
use Rattle.std.specs.Cmp.Lexicographic.{same_text}
use Rattle.std.proofs.Math.Seq.{drop-cons, take-add}
use lib.Pointwise.{pointwise}
use Rattle.http_plain.specs.Head.{head_mark, head_end, IsNear}

abbrev pub later : ℕ → Option ℕ → Option ℕ
later n end = option_map (λ m. m + n) end

abbrev pub begins : List ℕ → Bool
begins text = starts_with nat_eq text head_mark

pub later_zero : (end : Option ℕ) → end ≡ later 0 end
later_zero None = refl
later_zero (Some n) = ap Some (omega arith)

pub later_later : (i : ℕ) (end : Option ℕ) → later 1 (later i end) ≡ later (i + 1) end
later_later i None = refl
later_later i (Some n) = ap Some (omega arith)

later_one : (i : ℕ) (end : Option ℕ) → later i (later 1 end) ≡ later (i + 1) end
later_one i None = refl
later_one i (Some n) = ap Some (omega arith)

-- where the first byte begins no mark, the end is that of the rest
pub past : (b : ℕ) (rest : List ℕ) → begins (b ∷ rest) ≡ false → head_end (b ∷ rest) ≡ later 1 (head_end rest)
unfolding head_end
past b rest e = ap (λ t. cond t (Some 4) (later 1 (head_end rest))) e

pub here : (b : ℕ) (rest : List ℕ) → begins (b ∷ rest) ≡ true → head_end (b ∷ rest) ≡ Some 4
unfolding head_end
here b rest e = ap (λ t. cond t (Some 4) (later 1 (head_end rest))) e

none_later : (end : Option ℕ) → later 1 end ≡ None → end ≡ None
none_later None e = refl
none_later (Some n) e = cc

none_both : (t : Bool) (end : Option ℕ) → cond t (Some 4) (later 1 end) ≡ None → (t ≡ false) × (end ≡ None)
none_both true end e = cc
none_both false end e = (refl, none_later end e)

-- a text without an end begins with no mark, and its rest has none
pub none_past : (b : ℕ) (rest : List ℕ) → head_end (b ∷ rest) ≡ None
    → (begins (b ∷ rest) ≡ false) × (head_end rest ≡ None)
unfolding head_end
none_past b rest e = none_both (begins (b ∷ rest)) (head_end rest) e

-- four bytes decide whether a mark begins
four : (b : ℕ) (rest : List ℕ) (i : ℕ) → begins (b ∷ take (suc (suc (suc i))) rest) ≡ begins (b ∷ rest)
four b [] i = refl
four b (c ∷ []) i = refl
four b (c ∷ d ∷ []) i = refl
four b (c ∷ d ∷ e ∷ rest) i = refl

pub no_end : head_end [] ≡ None
unfolding head_end
no_end = refl

no_end_later : (n : ℕ) → head_end [] ≡ later n (head_end [])
unfolding head_end
no_end_later n = refl

-- where the first bytes hold no end, the end is that of what begins three bytes before
pub skipped : (i : ℕ) (text : List ℕ) → head_end (take (suc (suc (suc i))) text) ≡ None
    → head_end text ≡ later i (head_end (drop i text))
skipped zero text none = later_zero (head_end text)
skipped (suc i) [] none = no_end_later (suc i)
skipped (suc i) (b ∷ rest) none =
    let parts = none_past b (take (suc (suc (suc i))) rest) none in
    past b rest (sym (four b rest i) ∙ parts.0)
    ∙ ap (later 1) (skipped i rest parts.1)
    ∙ later_later i (head_end (drop i rest))
    ∙ ap (λ n. later n (head_end (drop i rest))) (add-one i)

pub skipped_three : (i : ℕ) (text : List ℕ) → head_end (take (i + 3) text) ≡ None
    → head_end text ≡ later i (head_end (drop i text))
skipped_three i text none =
    let same : suc (suc (suc i)) ≡ i + 3 = omega arith in
    skipped i text (ap (λ n. head_end (take n text)) same ∙ none)

-- the step of the search: no mark begins at the place
pub onward : (text : List ℕ) (i : ℕ) → i < length text → begins (drop i text) ≡ false
    → head_end text ≡ later i (head_end (drop i text)) → head_end text ≡ later (i + 1) (head_end (drop (i + 1) text))
onward text i within none so_far =
    let split = drop-cons text i 0 within in
    let none_here : begins (get_or text i 0 ∷ drop (suc i) text) ≡ false = ap begins (sym split) ∙ none in
    so_far
    ∙ ap (λ rest. later i (head_end rest)) split
    ∙ ap (later i) (past (get_or text i 0) (drop (suc i) text) none_here)
    ∙ later_one i (head_end (drop (suc i) text))
    ∙ ap (λ n. later (i + 1) (head_end (drop n text))) (sym (add-one i))

-- a mark begins at the place
pub ended : (text : List ℕ) (i : ℕ) → i < length text → begins (drop i text) ≡ true
    → head_end text ≡ later i (head_end (drop i text)) → head_end text ≡ Some (i + 4)
ended text i within mark so_far =
    let split = drop-cons text i 0 within in
    let mark_here : begins (get_or text i 0 ∷ drop (suc i) text) ≡ true = ap begins (sym split) ∙ mark in
    so_far
    ∙ ap (λ rest. later i (head_end rest)) split
    ∙ ap (later i) (here (get_or text i 0) (drop (suc i) text) mark_here)
    ∙ ap Some (omega arith)

-- no place is left
pub unended : (text : List ℕ) (i : ℕ) → length text ≤ i → head_end text ≡ later i (head_end (drop i text)) → head_end text ≡ None
unended text i past_end so_far =
    so_far ∙ ap (λ rest. later i (head_end rest)) (drop_all i text past_end) ∙ sym (no_end_later i) ∙ no_end

-- ---- a longer text

none_is_some : (n : ℕ) → ◌≡◌ {A = Option ℕ} None (Some n) → ⊥
none_is_some n e = cc

some_same : (m n : ℕ) → Some m ≡ Some n → m ≡ n
some_same m n e = cc

-- a text that begins with the mark is the mark and its rest
marked : (text : List ℕ) → begins text ≡ true → text ≡ head_mark ++ drop 4 text
marked text mark =
    sym (take-append-drop 4 text) ∙ ap (λ front. front ++ drop 4 text) (sym (same_text head_mark (take 4 text) (sym mark)))

marked_longer : (text more : List ℕ) → begins text ≡ true → begins (text ++ more) ≡ true
marked_longer text more mark = ap (λ t. begins (t ++ more)) (marked text mark)

marked_length : (text : List ℕ) → begins text ≡ true → 4 ≤ length text
marked_length text mark = omega (arith, ap length (marked text mark))

unmarked_longer : (text more : List ℕ) → 4 ≤ length text → begins text ≡ false → begins (text ++ more) ≡ false
unmarked_longer text more fits none = ap (pointwise nat_eq head_mark) (take-append-le 4 text more fits) ∙ none

-- an end that stands a byte later
sooner : (end : Option ℕ) (n : ℕ) → later 1 end ≡ Some n → (m : ℕ) × (end ≡ Some m) × (n ≡ m + 1)
sooner None n e = cc
sooner (Some m) n e = (m, refl, sym (some_same _ _ e))

sooner_by : (b : ℕ) (rest : List ℕ) (n : ℕ) → begins (b ∷ rest) ≡ false → head_end (b ∷ rest) ≡ Some n
    → (m : ℕ) × (head_end rest ≡ Some m) × (n ≡ m + 1)
sooner_by b rest n none e = sooner (head_end rest) n (sym (past b rest none) ∙ e)

bounds_by : (b : ℕ) (rest : List ℕ) (n : ℕ) (mark : Bool) → begins (b ∷ rest) ≡ mark → head_end (b ∷ rest) ≡ Some n
    → ((m : ℕ) → head_end rest ≡ Some m → (4 ≤ m) × (m ≤ length rest))
    → (4 ≤ n) × (n ≤ length (b ∷ rest))
bounds_by b rest n true is e lower =
    let four : 4 ≡ n = some_same _ _ (sym (here b rest is) ∙ e) in
    let long : 4 ≤ length (b ∷ rest) = marked_length (b ∷ rest) is in
    (omega arith, omega arith)
bounds_by b rest n false is e lower =
    let found = sooner_by b rest n is e in
    let below = lower found.0 found.1 in
    (omega (arith, found.2, below.0), omega (arith, found.2, below.1))

-- an end lies within the text, and the mark before it
pub end_bounds : (text : List ℕ) (n : ℕ) → head_end text ≡ Some n → (4 ≤ n) × (n ≤ length text)
end_bounds [] n e = absurd (none_is_some n (sym no_end ∙ e))
end_bounds (b ∷ rest) n e = bounds_by b rest n (begins (b ∷ rest)) refl e (end_bounds rest)

longer_by : (b : ℕ) (rest more : List ℕ) (n : ℕ) (mark : Bool) → begins (b ∷ rest) ≡ mark → head_end (b ∷ rest) ≡ Some n
    → ((m : ℕ) → head_end rest ≡ Some m → head_end (rest ++ more) ≡ Some m)
    → head_end (b ∷ (rest ++ more)) ≡ Some n
longer_by b rest more n true is e lower =
    here b (rest ++ more) (marked_longer (b ∷ rest) more is) ∙ sym (here b rest is) ∙ e
longer_by b rest more n false is e lower =
    let found = sooner_by b rest n is e in
    let fits : 4 ≤ length (b ∷ rest) = omega (arith, end_bounds rest found.0 found.1) in
    past b (rest ++ more) (unmarked_longer (b ∷ rest) more fits is)
    ∙ ap (later 1) (lower found.0 found.1)
    ∙ ap Some (sym found.2)

-- bytes behind an end leave it
pub end_longer : (text more : List ℕ) (n : ℕ) → head_end text ≡ Some n → head_end (text ++ more) ≡ Some n
end_longer [] more n e = absurd (none_is_some n (sym no_end ∙ e))
end_longer (b ∷ rest) more n e = longer_by b rest more n (begins (b ∷ rest)) refl e (λ m. end_longer rest more m)

false_is_true : ◌≡◌ {A = Bool} false true → ⊥
false_is_true e = cc

-- a mark that bytes behind a text complete begins in its last three
short_front : (b : ℕ) (rest more : List ℕ) → begins (b ∷ rest) ≡ false → begins (b ∷ (rest ++ more)) ≡ true → length (b ∷ rest) < 4
short_front b [] more none mark = omega arith
short_front b (c ∷ []) more none mark = omega arith
short_front b (c ∷ d ∷ []) more none mark = omega arith
short_front b (c ∷ d ∷ e ∷ rest) more none mark =
    let long : 4 ≤ length (b ∷ c ∷ d ∷ e ∷ rest) = omega arith in
    absurd (false_is_true (sym (unmarked_longer (b ∷ c ∷ d ∷ e ∷ rest) more long none) ∙ mark))

behind_by : (b : ℕ) (rest more : List ℕ) (n : ℕ) (mark : Bool) → begins (b ∷ rest) ≡ false → begins (b ∷ (rest ++ more)) ≡ mark
    → head_end (b ∷ (rest ++ more)) ≡ Some n
    → ((m : ℕ) → head_end (rest ++ more) ≡ Some m → length rest < m)
    → length (b ∷ rest) < n
behind_by b rest more n true none is e lower =
    let four : 4 ≡ n = some_same _ _ (sym (here b (rest ++ more) is) ∙ e) in
    let short : length (b ∷ rest) < 4 = short_front b rest more none is in
    omega (arith, four, short)
behind_by b rest more n false none is e lower =
    let found = sooner_by b (rest ++ more) n is e in
    let below : length rest < found.0 = lower found.0 found.1 in
    omega (arith, found.2, below)

-- an end that came with more bytes lies behind the bytes before
pub end_behind : (text more : List ℕ) (n : ℕ) → head_end text ≡ None → head_end (text ++ more) ≡ Some n → length text < n
end_behind [] more n none e = omega (arith, end_bounds more n e)
end_behind (b ∷ rest) more n none e =
    let parts = none_past b rest none in
    behind_by b rest more n (begins (b ∷ (rest ++ more))) parts.0 refl e (λ m. end_behind rest more m parts.1)

-- ---- no piece behind the end of a head

near_by : (piece : ℕ) (text added : List ℕ) (end : Option ℕ) → head_end text ≡ None → length added ≤ piece → head_end (text ++ added) ≡ end
    → IfSome end (λ n. length (text ++ added) < n + piece)
near_by piece text added None none fits e = tt
near_by piece text added (Some n) none fits e = omega (arith, length-append text added, end_behind text added n none e)

-- a piece behind bytes without an end
pub near_piece : (piece : ℕ) (text added : List ℕ) → head_end text ≡ None → length added ≤ piece → IsNear piece (text ++ added)
near_piece piece text added none fits = near_by piece text added (head_end (text ++ added)) none fits refl

near_is : (piece : ℕ) (text : List ℕ) (end : Option ℕ) → end ≡ None → IfSome end (λ n. length text < n + piece)
near_is piece text None none = tt
near_is piece text (Some n) none = absurd (none_is_some n (sym none))

-- no end at all
pub near_none : (piece : ℕ) (text : List ℕ) → head_end text ≡ None → IsNear piece text
near_none piece text none = near_is piece text (head_end text) none

-- the same, of bytes that grew by a piece
pub near_grown : (piece n : ℕ) (old new : List ℕ) → head_end old ≡ None → length new ≡ length old + n → take (length old) new ≡ old → n ≤ piece → IsNear piece new
near_grown piece n old new none grows kept fits =
    let whole : old ++ drop (length old) new ≡ new = ap (λ l. l ++ drop (length old) new) (sym kept) ∙ take-append-drop (length old) new in
    let few : length (drop (length old) new) ≤ piece = omega (arith, length-append old (drop (length old) new), ap length whole) in
    subst (IsNear piece) whole (near_piece piece old (drop (length old) new) none few)

-- the same, of bytes at the front of a buffer
pub near_taken : (piece used n : ℕ) (old new : List ℕ) → head_end (take used old) ≡ None → take used new ≡ take used old → n ≤ piece
    → IsNear piece (take (used + n) new)
near_taken piece used n old new none kept few =
    let whole : take used new ++ take n (drop used new) ≡ take (used + n) new = sym (take-add used n new) in
    subst (IsNear piece) whole
    (near_piece piece (take used new) (take n (drop used new)) (ap head_end kept ∙ none) (omega (arith, length-take n (drop used new))))

whole_by : (piece : ℕ) (front left : List ℕ) (first second : Option ℕ) → head_end front ≡ first → head_end (front ++ left) ≡ second
    → IfSome first (λ n. length front < n + piece)
    → IfSome second (λ n. length (front ++ left) < length left + n + piece)
whole_by piece front left first None is e near = tt
whole_by piece front left None (Some n) is e near = omega (arith, length-append front left, end_behind front left n is e)
whole_by piece front left (Some m) (Some n) is e near =
    let same : m ≡ n = some_same m n (sym (end_longer front left m is) ∙ e) in
    let close : length front < m + piece = near in
    omega (arith, length-append front left, same, close)

-- what is left moves no end that the front holds, and an end in what is left lies behind the front
pub near_whole : (piece : ℕ) (front left : List ℕ) → IsNear piece front
    → IfSome (head_end (front ++ left)) (λ n. length (front ++ left) < length left + n + piece)
near_whole piece front left near = whole_by piece front left (head_end front) (head_end (front ++ left)) refl refl near

short_by : (text : List ℕ) (end : Option ℕ) → head_end text ≡ end → length text < 4 → head_end text ≡ None
short_by text None e short = e
short_by text (Some n) e short = absurd (omega (arith, end_bounds text n e))

-- three bytes hold no end
pub short_ends : (text : List ℕ) → length text < 4 → head_end text ≡ None
short_ends text short = short_by text (head_end text) refl short

front_short : (text : List ℕ) → head_end (take 3 text) ≡ None
front_short text = short_ends (take 3 text) (omega (arith, length-take 3 text))

-- three of the bytes that were looked at are looked at again
pub looked_again : (looked : ℕ) (text : List ℕ) → head_end (take looked text) ≡ None → head_end (take (looked - 3 + 3) text) ≡ None
looked_again zero text none = front_short text
looked_again (suc zero) text none = front_short text
looked_again (suc (suc zero)) text none = front_short text
looked_again (suc (suc (suc k))) text none =
    let same : suc (suc (suc k)) - 3 + 3 ≡ suc (suc (suc k)) = omega arith in
    ap (λ n. head_end (take n text)) same ∙ none
