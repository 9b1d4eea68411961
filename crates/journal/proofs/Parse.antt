-- Entries can be read back, in one way.
use Rattle.std.proofs.Common.{◌≡◌, ◌≢◌, ◌⊎◌, inl, inr, ℕ, zero, suc, ◌<◌, ◌≤◌, ◌^◌, List, [], ◌∷◌, ◌++◌, length, get_or, take, drop, refl, sym, ◌∙◌, ap, subst, arith, append_assoc, length-append, length-take, take-append-drop}
use Rattle.std.proofs.lemmas.List.{append-nil, take_at, drop_at}
use Rattle.std.proofs.lemmas.List.Concat.{flat_map-append}
use Rattle.std.proofs.lemmas.Nat.{be_bytes_4, from_be_bytes-to_be_bytes_4}
use Rattle.std.specs.List.{flat_map}
use Rattle.std.specs.Int.{from_be_bytes, w32}
use Rattle.journal.specs.Layout.{size_bytes, sized, entry_of, AreSmall, ClosedAfter}
use Rattle.journal.specs.Steps.{NoEntries, OpensSize}
use Rattle.journal.proofs.Entries.{length-size_bytes, small_push}

pub append_same : (a b x y : List ℕ) → length a ≡ length b → a ++ x ≡ b ++ y → (a ≡ b) × (x ≡ y)
append_same a b x y size same =
    let front = sym (take_at a x (length b) size) ∙ ap (take (length b)) same ∙ take_at b y (length b) refl in
    let back = sym (drop_at a x (length b) size) ∙ ap (drop (length b)) same ∙ drop_at b y (length b) refl in
    (front, back)

size_read : (n : ℕ) → n < 2 ^ 32 → from_be_bytes w32 (size_bytes n) ≡ n
unfolding size_bytes
size_read n small = from_be_bytes-to_be_bytes_4 n small

-- a size and what it counts are read in one way
sized_same : (x y more rest : List ℕ) → length x < 2 ^ 32 → length y < 2 ^ 32 → sized x ++ more ≡ sized y ++ rest → (x ≡ y) × (more ≡ rest)
sized_same x y more rest small_x small_y same =
    let grouped : size_bytes (length x) ++ (x ++ more) ≡ size_bytes (length y) ++ (y ++ rest) =
    sym (append_assoc (size_bytes (length x)) x more) ∙ same ∙ append_assoc (size_bytes (length y)) y rest in
    let sizes = append_same (size_bytes (length x)) (size_bytes (length y)) (x ++ more) (y ++ rest) (length-size_bytes (length x) ∙ sym (length-size_bytes (length y))) grouped in
    let lengths : length x ≡ length y = sym (size_read (length x) small_x) ∙ ap (from_be_bytes w32) sizes.0 ∙ size_read (length y) small_y in
    append_same x y more rest lengths sizes.1

-- what is read so far is the beginning
pub peel : (done changes : List (List ℕ)) (rest : List ℕ) → AreSmall done → AreSmall changes → ClosedAfter (flat_map entry_of changes) (flat_map entry_of done ++ rest)
    → (more : List (List ℕ)) × AreSmall more × ClosedAfter (flat_map entry_of more) rest × (changes ≡ done ++ more)
peel [] changes rest all small closed = (changes, small, closed, refl)
peel (x ∷ done) [] rest all small closed = let gate : 1 ≡ closed.gate = cc (closed.split) in absurd (closed.shut (sym gate))
peel (x ∷ done) (y ∷ changes) rest all small closed =
    let same : sized x ++ (flat_map entry_of done ++ rest) ≡ sized y ++ (flat_map entry_of changes ++ closed.gate ∷ closed.rest) =
    sym (append_assoc (sized x) (flat_map entry_of done) rest) ∙ ap (drop 1) closed.split ∙ append_assoc (sized y) (flat_map entry_of changes) (closed.gate ∷ closed.rest) in
    let parts = sized_same x y (flat_map entry_of done ++ rest) (flat_map entry_of changes ++ closed.gate ∷ closed.rest) all.0 small.0 same in
    let later = peel done changes rest all.1 small.1 (record { gate = closed.gate; rest = closed.rest; shut = closed.shut; split = parts.1 }) in
    (later.0, later.1, later.2, λ i. sym parts.0 i ∷ later.3 i)

pub none_behind : (done : List (List ℕ)) (rest bytes : List ℕ) → bytes ≡ flat_map entry_of done ++ rest → AreSmall done → NoEntries rest → NoEntries bytes
none_behind done rest bytes is all none changes small closed =
    let later = peel done changes rest all small (subst (λ (l : List ℕ). ClosedAfter (flat_map entry_of changes) l) is closed) in
    none later.0 later.1 later.2

-- no gate stands
pub none_in_nothing : NoEntries []
none_in_nothing changes small closed = omega (arith, ap length closed.split, length-append (flat_map entry_of changes) (closed.gate ∷ closed.rest))

-- an open gate with no whole size behind it
pub none_in_short : (rest : List ℕ) → length rest < 4 → NoEntries (1 ∷ rest)
none_in_short rest short [] small closed = closed.shut (sym (cc (closed.split)))
none_in_short rest short (y ∷ changes) small closed =
    omega (arith, ap length closed.split, length-append (entry_of y ++ flat_map entry_of changes) (closed.gate ∷ closed.rest), length-append (entry_of y) (flat_map entry_of changes), length-append (size_bytes (length y)) y, length-size_bytes (length y))

-- an open gate whose change is cut off
pub none_in_cut : (size after : List ℕ) (n : ℕ) → length size ≡ 4 → n ≡ from_be_bytes w32 size → length after < n → NoEntries (1 ∷ (size ++ after))
none_in_cut size after n four is cut [] small closed = closed.shut (sym (cc (closed.split)))
none_in_cut size after n four is cut (y ∷ changes) small closed =
    let rest = flat_map entry_of changes ++ closed.gate ∷ closed.rest in
    let same : size ++ after ≡ size_bytes (length y) ++ (y ++ rest) =
    ap (drop 1) closed.split ∙ append_assoc (sized y) (flat_map entry_of changes) (closed.gate ∷ closed.rest) ∙ append_assoc (size_bytes (length y)) y rest in
    let parts = append_same size (size_bytes (length y)) after (y ++ rest) (four ∙ sym (length-size_bytes (length y))) same in
    let counted : n ≡ length y = is ∙ ap (from_be_bytes w32) parts.0 ∙ size_read (length y) small.0 in
    omega (arith, counted, ap length parts.1, length-append y rest)

-- a whole entry
pub entry_read : (size after : List ℕ) (n : ℕ) → length size ≡ 4 → ((i : ℕ) → get_or size i 0 < 256) → n ≡ from_be_bytes w32 size → n ≤ length after → 1 ∷ (size ++ after) ≡ entry_of (take n after) ++ drop n after
unfolding size_bytes
entry_read size after n four fits is within =
    let long : length (take n after) ≡ n = omega (arith, length-take n after) in
    let same : size_bytes (length (take n after)) ≡ size = ap size_bytes long ∙ be_bytes_4 size n four fits is in
    ap (λ (l : List ℕ). 1 ∷ (size ++ l)) (sym (take-append-drop n after))
    ∙ ap (λ (l : List ℕ). 1 ∷ l) (sym (append_assoc size (take n after) (drop n after)))
    ∙ ap (λ (l : List ℕ). 1 ∷ ((l ++ take n after) ++ drop n after)) (sym same)

pub read_more : (bytes rest more : List ℕ) (changes : List (List ℕ)) (change : List ℕ) → bytes ≡ flat_map entry_of changes ++ rest → rest ≡ entry_of change ++ more
    → bytes ≡ flat_map entry_of (changes ++ change ∷ []) ++ more
read_more bytes rest more changes change is is_rest =
    is ∙ ap (λ (l : List ℕ). flat_map entry_of changes ++ l) is_rest ∙ sym (append_assoc (flat_map entry_of changes) (entry_of change) more)
    ∙ ap (λ (l : List ℕ). l ++ more) (ap (λ (l : List ℕ). flat_map entry_of changes ++ l) (sym (append-nil (entry_of change))) ∙ sym (flat_map-append entry_of changes (change ∷ [])))

-- five bytes, of which the first is 1
pub opens_size : (bytes : List ℕ) (n : ℕ) → 5 ≤ length bytes → get_or bytes 0 0 ≡ 1 → ((i : ℕ) → get_or bytes i 0 < 256) → n ≡ from_be_bytes w32 (get_or bytes 1 0 ∷ get_or bytes 2 0 ∷ get_or bytes 3 0 ∷ get_or bytes 4 0 ∷ []) → OpensSize n (drop 5 bytes) bytes
opens_size [] n long one fits is = absurd (omega arith)
opens_size (x ∷ []) n long one fits is = absurd (omega arith)
opens_size (x ∷ a ∷ []) n long one fits is = absurd (omega arith)
opens_size (x ∷ a ∷ b ∷ []) n long one fits is = absurd (omega arith)
opens_size (x ∷ a ∷ b ∷ c ∷ []) n long one fits is = absurd (omega arith)
opens_size (x ∷ a ∷ b ∷ c ∷ d ∷ after) n long one fits is = record {
  size = a ∷ b ∷ c ∷ d ∷ [];
  four = refl;
  fits = each;
  value = is;
  split = ap (λ (k : ℕ). k ∷ a ∷ b ∷ c ∷ d ∷ after) one;
}
  where
    each : (i : ℕ) → get_or (a ∷ b ∷ c ∷ d ∷ []) i 0 < 256
    each zero = fits 1
    each (suc zero) = fits 2
    each (suc (suc zero)) = fits 3
    each (suc (suc (suc zero))) = fits 4
    each (suc (suc (suc (suc i)))) = omega arith

pub none_in_opened : (bytes : List ℕ) (n : ℕ) → OpensSize n (drop 5 bytes) bytes → length (drop 5 bytes) < n → NoEntries bytes
none_in_opened bytes n opened cut changes small closed =
    none_in_cut opened.size (drop 5 bytes) n opened.four opened.value cut changes small (subst (λ (l : List ℕ). ClosedAfter (flat_map entry_of changes) l) opened.split closed)

pub opened_read : (bytes : List ℕ) (n : ℕ) → OpensSize n (drop 5 bytes) bytes → n ≤ length (drop 5 bytes) → bytes ≡ entry_of (take n (drop 5 bytes)) ++ drop n (drop 5 bytes)
opened_read bytes n opened within = opened.split ∙ entry_read opened.size (drop 5 bytes) n opened.four opened.fits opened.value within

pub opened_small : (bytes : List ℕ) (n : ℕ) → OpensSize n (drop 5 bytes) bytes → n ≤ length (drop 5 bytes) → n < 2 ^ 32 → length (take n (drop 5 bytes)) < 2 ^ 32
opened_small bytes n opened within fits = omega (arith, length-take n (drop 5 bytes))

-- the loop is over, and no closed gate stands
pub none_at_end : (bytes : List ℕ) → length bytes < 5 ⊎ (get_or bytes 0 0 ≢ 1) → get_or bytes 0 0 ≡ 1 → NoEntries bytes
none_at_end [] short one = none_in_nothing
none_at_end (x ∷ rest) (inl short) one = subst (λ (k : ℕ). NoEntries (k ∷ rest)) (sym one) (none_in_short rest (omega arith))
none_at_end (x ∷ rest) (inr shut) one = absurd (shut one)

pub none_in_empty : (bytes : List ℕ) → length bytes ≡ 0 → NoEntries bytes
none_in_empty [] none = none_in_nothing
none_in_empty (x ∷ bytes) none = absurd (omega arith)

pub loop_more : (bytes rest more : List ℕ) (changes grown : List (List ℕ)) (change : List ℕ) (n : ℕ) → bytes ≡ flat_map entry_of changes ++ rest → AreSmall changes → OpensSize n (drop 5 rest) rest
    → n ≤ length (drop 5 rest) → n < 2 ^ 32 → change ≡ take n (drop 5 rest) → more ≡ drop n (drop 5 rest) → grown ≡ changes ++ change ∷ []
    → (bytes ≡ flat_map entry_of grown ++ more) × AreSmall grown
loop_more bytes rest more changes grown change n is small opened within fits is_change is_more is_grown =
    let entry : rest ≡ entry_of change ++ more = opened_read rest n opened within ∙ ap (λ (l : List ℕ). entry_of l ++ drop n (drop 5 rest)) (sym is_change) ∙ ap (λ (l : List ℕ). entry_of change ++ l) (sym is_more) in
    let small_change : length change < 2 ^ 32 = omega (arith, ap length is_change, opened_small rest n opened within fits) in (
      read_more bytes rest more changes change is entry ∙ ap (λ (cs : List (List ℕ)). flat_map entry_of cs ++ more) (sym is_grown),
      subst AreSmall (sym is_grown) (small_push changes change small small_change),
    )
