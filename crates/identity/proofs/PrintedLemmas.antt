-- How a text that is known by its front compares, from piece to piece.
use Rattle.std.proofs.Common.{◌≡◌, ℕ, ◌<◌, ◌+◌, ◌==◌, true, false, List, [], ◌∷◌, ◌++◌, length, drop, get_or, Result, Ok, Err, refl, sym, ap, subst, ◌∙◌, append_assoc, add-one, drop-cons, arith}
use Rattle.std.specs.Borrow.{Bor}
use Rattle.std.specs.declared.cmp.Ordering.{Ordering}
use Rattle.std.specs.declared.cmp.Ordering.TheVariants.{Less, Equal}
use Rattle.std.specs.Cmp.{nat_cmp_is}
use Rattle.std.proofs.lemmas.Bool.{ne_eqb}
use Rattle.std.proofs.lemmas.List.{append-nil}
use Rattle.identity.specs.declared.key.Key.{Key}
use Rattle.identity.specs.Key.{comma, part_text, key_text}
use Rattle.identity.specs.Printed.{text_cmp, Follows}

-- each text that begins with the front compares so
abbrev pub Decides : List ℕ → List ℕ → Ordering → Type 0
Decides front text order = (more : List ℕ) → text_cmp (front ++ more) text ≡ order

-- bytes that both begin with
same_front : (piece xs ys : List ℕ) → text_cmp (piece ++ xs) (piece ++ ys) ≡ text_cmp xs ys
same_front [] xs ys = refl
same_front (p ∷ ps) xs ys = rw (sym (nat_cmp_is p p Equal refl)) (same_front ps xs ys)

-- what the first part decides
pub decides_front : (first second text : List ℕ) (order : Ordering) → Decides first text order → Decides (first ++ second) text order
decides_front first second text order decides = λ more. rw (append_assoc first second more) (decides (second ++ more))

-- what the second part decides, where the text begins with the first
pub decides_behind : (first second text rest : List ℕ) (order : Ordering) → text ≡ first ++ rest → Decides second rest order → Decides (first ++ second) text order
decides_behind first second text rest order is decides = λ more. rw (is, append_assoc first second more) (same_front first (second ++ more) rest ∙ decides more)

pub follows_err : (front text : List ℕ) (r : Result (Bor (List ℕ)) Ordering) (order : Ordering) → r ≡ Err order → Decides front text order → Follows front text r
follows_err front text r order is decides = subst (λ (x : Result (Bor (List ℕ)) Ordering). Follows front text x) (sym is) decides

pub follows_behind : (first second text rest : List ℕ) (r : Result (Bor (List ℕ)) Ordering) → text ≡ first ++ rest → Follows second rest r → Follows (first ++ second) text r
follows_behind first second text rest (Ok after) is follows = is ∙ ap (λ (l : List ℕ). first ++ l) follows ∙ sym (append_assoc first second after.now)
follows_behind first second text rest (Err order) is follows = decides_behind first second text rest order is follows

-- ---- piece by piece

-- where these are left of the front and of the text, what the one says of the other is said of the whole
pub record Carries (front text left rest : List ℕ) : Type 0 where
  pub goes : (after : List ℕ) → rest ≡ left ++ after → text ≡ front ++ after
  pub ends : (order : Ordering) → Decides left rest order → Decides front text order

pub carries_all : (front text : List ℕ) → Carries front text front text
carries_all front text = record { goes = λ after is. is; ends = λ order decides. decides }

pub carries_same : (front text left rest other : List ℕ) → left ≡ other → Carries front text left rest → Carries front text other rest
carries_same front text left rest other is h = subst (λ (l : List ℕ). Carries front text l rest) is h

-- past a piece
pub carries_past : (front text piece left rest after : List ℕ) → Carries front text (piece ++ left) rest → rest ≡ piece ++ after → Carries front text left after
carries_past front text piece left rest after h is = record {
  goes = λ end ends. h.goes end (is ∙ ap (λ (l : List ℕ). piece ++ l) ends ∙ sym (append_assoc piece left end));
  ends = λ order decides. h.ends order (decides_behind piece left rest after order is decides);
}

-- a piece decides
pub ends_at : (front text piece left rest : List ℕ) (order : Ordering) → Carries front text (piece ++ left) rest → Decides piece rest order → Decides front text order
ends_at front text piece left rest order h decides = h.ends order (decides_front piece left rest order decides)

-- the same byte by byte
byte_first : (bytes : List ℕ) (i : ℕ) → i < length bytes → drop i bytes ≡ (get_or bytes i 0 ∷ []) ++ drop (i + 1) bytes
byte_first bytes i inside = rw (add-one i) (drop-cons bytes i 0 inside)

pub carries_byte : (front text bytes rest after : List ℕ) (i : ℕ) → i < length bytes → Carries front text (drop i bytes) rest → rest ≡ get_or bytes i 0 ∷ after
    → Carries front text (drop (i + 1) bytes) after
carries_byte front text bytes rest after i inside h is =
    carries_past front text (get_or bytes i 0 ∷ []) (drop (i + 1) bytes) rest after (carries_same front text _ rest _ (byte_first bytes i inside) h) is

pub ends_byte : (front text bytes rest : List ℕ) (i : ℕ) (order : Ordering) → i < length bytes → Carries front text (drop i bytes) rest → Decides (get_or bytes i 0 ∷ []) rest order
    → Decides front text order
ends_byte front text bytes rest i order inside h decides =
    ends_at front text (get_or bytes i 0 ∷ []) (drop (i + 1) bytes) rest order (carries_same front text _ rest _ (byte_first bytes i inside) h) decides

-- ---- where the front ends

pub equal_at_end : (front text rest : List ℕ) → text ≡ front ++ rest → true ≡ (length rest == 0) → Equal ≡ text_cmp front text
equal_at_end front text [] is empty = sym (rw is (sym (ap (λ (l : List ℕ). text_cmp l (front ++ [])) (append-nil front)) ∙ same_front front [] []))
equal_at_end front text (r ∷ rs) is empty = absurd (let some : (length (r ∷ rs) == 0) ≡ false = ne_eqb (length (r ∷ rs)) 0 (λ e. omega (arith, e)) in let both : true ≡ false = empty ∙ some in cc)

pub less_before : (front text rest : List ℕ) → text ≡ front ++ rest → false ≡ (length rest == 0) → Less ≡ text_cmp front text
less_before front text [] is more = absurd cc
less_before front text (r ∷ rs) is more = sym (rw is (sym (ap (λ (l : List ℕ). text_cmp l (front ++ r ∷ rs)) (append-nil front)) ∙ same_front front [] (r ∷ rs)))

pub as_decided : (front text : List ℕ) (order : Ordering) → Decides front text order → order ≡ text_cmp front text
as_decided front text order decides = sym (decides []) ∙ ap (λ (l : List ℕ). text_cmp l text) (append-nil front)

-- ---- the text of a key

pub key_text-parts : (key : Key) → key_text key ≡ part_text key.name ++ ((comma ∷ part_text key.token) ++ ((comma ∷ part_text key.language) ++ (comma ∷ part_text key.architecture)))
unfolding key_text
key_text-parts key = refl
