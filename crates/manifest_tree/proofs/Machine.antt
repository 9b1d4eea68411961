-- A reader of loose texts that takes a byte at a time.
use Rattle.std.proofs.Common.{◌≡◌, ℕ, zero, suc, Bool, true, false, List, [], ◌∷◌, ◌++◌, length, Option, Some, None, refl, sym, ap, subst, ◌∙◌}
use Rattle.std.specs.Prelude.{◌==◌, ◌||◌, ◌&&◌, if◌then◌else◌}
use Rattle.std.specs.Str.{bytes_eq}
use Rattle.manifest_tree.specs.Lexis.{white, allowed, name_first, name_byte}
use Rattle.manifest_tree.specs.Loose.{data_byte, value_byte}

-- between the parts of a text: where a declaration may come, before the root, in an element with so many around it, behind the root
pub data Ground : Type 0 where
  opening : Ground
  ahead : Ground
  within : (around : ℕ) → Ground
  beyond : Ground

-- Where a text is cut: behind no byte, in the byte order mark, between parts, or in one. Of a tag it is known how many
-- elements are around it.
pub data State : Type 0 where
  fresh : State
  mark_one : State
  mark_two : State
  on : Ground → State
  angle : Ground → State
  bang : Ground → State
  bang_dash : Ground → State
  remark : Ground → State
  remark_dash : Ground → State
  remark_dashes : Ground → State
  asks : Ground → (name : List ℕ) → State
  tells : Ground → State
  tells_mark : Ground → State
  naming : ℕ → State
  tag : ℕ → State
  spaced_tag : ℕ → State
  slash : ℕ → State
  attribute_name : ℕ → State
  equals : ℕ → State
  quotes : ℕ → State
  value : ℕ → (quote : ℕ) → State
  end_mark : ℕ → State
  end_name : ℕ → State
  end_space : ℕ → State

-- behind a comment or an instruction
abbrev pub settled : Ground → Ground
settled opening = ahead
settled ahead = ahead
settled (within d) = within d
settled beyond = beyond

-- behind an element
abbrev pub out : ℕ → Ground
out zero = beyond
out (suc d) = within d

abbrev pub is_opening : Ground → Bool
is_opening opening = true
is_opening ahead = false
is_opening (within d) = false
is_opening beyond = false

abbrev pub is_end : State → Bool
is_end (on beyond) = true
is_end _ = false

-- ---- the moves

abbrev pub on_move : Ground → ℕ → Option State
on_move (within d) c = if c == 60 then Some (angle (within d)) else (if data_byte c then Some (on (within d)) else None)
on_move opening c = if white c then Some (on ahead) else (if c == 60 then Some (angle opening) else None)
on_move ahead c = if white c then Some (on ahead) else (if c == 60 then Some (angle ahead) else None)
on_move beyond c = if white c then Some (on beyond) else (if c == 60 then Some (angle beyond) else None)

-- what begins a tag behind its `<`
abbrev pub tag_move : Ground → ℕ → Option State
tag_move opening c = if name_first c then Some (naming 0) else None
tag_move ahead c = if name_first c then Some (naming 0) else None
tag_move (within d) c = if c == 47 then Some (end_mark d) else (if name_first c then Some (naming (suc d)) else None)
tag_move beyond c = None

abbrev pub angle_move : Ground → ℕ → Option State
angle_move g c = if c == 33 then Some (bang (settled g)) else (if c == 63 then Some (asks g []) else tag_move g c)

abbrev pub tells_move : Ground → ℕ → Option State
tells_move g c = if c == 63 then Some (tells_mark g) else (if allowed c then Some (tells g) else None)

-- behind a whole name of an instruction
abbrev pub told_move : Ground → List ℕ → ℕ → Option State
told_move g name c =
    if bytes_eq name (120 ∷ 109 ∷ 108 ∷ []) then (if is_opening g && white c then Some (tells ahead) else None) else tells_move (settled g) c

abbrev pub asks_move : Ground → List ℕ → ℕ → Option State
asks_move g [] c = if name_first c then Some (asks g (c ∷ [])) else None
asks_move g (x ∷ xs) c = if name_byte c then Some (asks g ((x ∷ xs) ++ c ∷ [])) else told_move g (x ∷ xs) c

abbrev pub in_tag_move : Bool → ℕ → ℕ → Option State
in_tag_move spaced d c =
    if white c then Some (spaced_tag d) else (if c == 62 then Some (on (within d)) else (if c == 47 then Some (slash d) else
    (if spaced && name_first c then Some (attribute_name d) else None)))

abbrev pub equals_move : ℕ → ℕ → Option State
equals_move d c = if white c then Some (equals d) else (if c == 61 then Some (quotes d) else None)

abbrev pub end_move : ℕ → ℕ → Option State
end_move d c = if white c then Some (end_space d) else (if c == 62 then Some (on (out d)) else None)

abbrev pub dash_move : State → State → ℕ → Option State
dash_move more other c = if c == 45 then Some more else (if allowed c then Some other else None)

abbrev pub move : State → ℕ → Option State
move fresh c = if c == 239 then Some mark_one else on_move opening c
move mark_one c = if c == 187 then Some mark_two else None
move mark_two c = if c == 191 then Some (on opening) else None
move (on g) c = on_move g c
move (angle g) c = angle_move g c
move (bang g) c = if c == 45 then Some (bang_dash g) else None
move (bang_dash g) c = if c == 45 then Some (remark g) else None
move (remark g) c = dash_move (remark_dash g) (remark g) c
move (remark_dash g) c = dash_move (remark_dashes g) (remark g) c
move (remark_dashes g) c = if c == 62 then Some (on g) else dash_move (remark_dashes g) (remark g) c
move (asks g name) c = asks_move g name c
move (tells g) c = tells_move g c
move (tells_mark g) c = if c == 62 then Some (on g) else tells_move g c
move (naming d) c = if name_byte c then Some (naming d) else in_tag_move false d c
move (tag d) c = in_tag_move false d c
move (spaced_tag d) c = in_tag_move true d c
move (slash d) c = if c == 62 then Some (on (out d)) else None
move (attribute_name d) c = if name_byte c then Some (attribute_name d) else equals_move d c
move (equals d) c = equals_move d c
move (quotes d) c = if white c then Some (quotes d) else (if c == 34 || c == 39 then Some (value d c) else None)
move (value d quote) c = if c == quote then Some (tag d) else (if value_byte quote c then Some (value d quote) else None)
move (end_mark d) c = if name_first c then Some (end_name d) else None
move (end_name d) c = if name_byte c then Some (end_name d) else end_move d c
move (end_space d) c = end_move d c

-- ---- runs

-- the bytes at the front lead to a state
pub data Goes : State → List ℕ → State → List ℕ → Type 0 where
  rests : {s : State} {bytes : List ℕ} → Goes s bytes s bytes
  moves : {s t u : State} {c : ℕ} {bytes rest : List ℕ} → move s c ≡ Some t → Goes t bytes u rest → Goes s (c ∷ bytes) u rest

-- no move on the first byte, or no end of a text
abbrev pub Stuck : State → List ℕ → Type 0
Stuck s [] = is_end s ≡ false
Stuck s (c ∷ bytes) = move s c ≡ None

-- it sticks where so many bytes are left
pub record Sticks (s : State) (bytes : List ℕ) (left : ℕ) : Type 0 where
  pub state : State
  pub rest : List ℕ
  pub goes : Goes s bytes state rest
  pub left_is : length rest ≡ left
  pub stuck : Stuck state rest

pub goes_join : {s t u : State} {a b c : List ℕ} → Goes s a t b → Goes t b u c → Goes s a u c
goes_join rests q = q
goes_join (moves e p) q = moves e (goes_join p q)

pub sticks_after : {s t : State} {a b : List ℕ} (left : ℕ) → Goes s a t b → Sticks t b left → Sticks s a left
sticks_after left p q = record { state = q.state; rest = q.rest; goes = goes_join p q.goes; left_is = q.left_is; stuck = q.stuck }

some_is : {A : Type 0} (x y : A) → Some x ≡ Some y → x ≡ y
some_is x y e = cc

some_none : {A : Type 0} (x : A) → Some x ≡ None → ⊥
some_none x e = cc

-- a run is on the way of each longer one
pub goes_on_from : {s t u : State} {a b : List ℕ} → Goes s a t b → Goes s a u [] → Goes t b u []
goes_on_from rests q = q
goes_on_from {u = u} (moves {t = t} {bytes = bytes} e p) (moves {t = w} g q) =
    goes_on_from p (subst (λ (x : State). Goes x bytes u []) (sym (some_is t w (sym e ∙ g))) q)

-- the bytes that a run has read
pub record Cut (s : State) (bytes : List ℕ) (t : State) (rest : List ℕ) : Type 0 where
  pub front : List ℕ
  pub is : bytes ≡ front ++ rest
  pub goes : (other : List ℕ) → Goes s (front ++ other) t other

pub cut : {s t : State} {a b : List ℕ} → Goes s a t b → Cut s a t b
cut rests = record { front = []; is = refl; goes = λ other. rests }
cut (moves {c = c} e p) =
    let q = cut p in
    record { front = c ∷ q.front; is = ap (λ (l : List ℕ). c ∷ l) q.is; goes = λ other. moves e (q.goes other) }

-- what sticks is read to no end
pub stuck_ends : (t : State) (rest : List ℕ) → Stuck t rest → Goes t rest (on beyond) [] → ⊥
stuck_ends t [] stuck rests = absurd cc
stuck_ends t (c ∷ bytes) stuck (moves {t = u} e p) = some_none u (sym e ∙ stuck)
