-- The reader's small parts, taken byte by byte.
use Rattle.std.proofs.Common.{◌≡◌, ℕ, zero, suc, ◌+◌, ◌≤◌, Bool, true, false, not, cond, eqb, List, [], ◌∷◌, ◌++◌, length, drop, Option, Some, None, Ok, Err, refl, sym, ap, subst, ◌∙◌, append_assoc, arith, inl, inr, ◌⊎◌}
use Rattle.std.specs.Prelude.{◌==◌, nat_eq, nat_le, ◌||◌, ◌&&◌, ◌-◌, ◌*◌, option_and_then}
use Rattle.std.specs.List.{starts_with, list_all}
use Rattle.std.specs.Str.{bytes_eq}
use Rattle.std.proofs.lemmas.Bool.{both_ways, cases_Bool, ne_eqb, eq-eqb, eqb-true, or_cases, or_parts, and_parts, leb-true, le-leb, not-true, not-false}
use Rattle.std.proofs.lemmas.List.{append-nil}
use Rattle.manifest_tree.specs.declared.fault.TreeKind.TheVariants.{Syntax, AttributeTwice, TagMismatch}
use Rattle.manifest_tree.specs.Lexis.{Read, white, allowed, name_first, name_byte, front, past, name_at, aside, comment, target, instruction, upto, expect, quote_in, quote_at, is_among, TagTurn, attribute, opens, closes, tag_turn, turn_at, attribute_at, end_at, digit_of, base_of, digits_on, number_at, character_of, numbered_at, named_at, reference_at, plain, past_line_feed, referred, unit_at, ◌>>=◌}
use Rattle.std.specs.Cmp.Lexicographic.{bytes_decides}
use Rattle.manifest_tree.proofs.Cuts.{chosen, starts_split, some_same, none_is, then_some, some_of, number_some}
use Rattle.manifest_tree.proofs.Runs.{front-past, past_shorter}
use Rattle.manifest_tree.proofs.Machine.{Ground, within, State, on, angle, bang, bang_dash, remark, remark_dash, remark_dashes, asks, tells, tells_mark, tag, spaced_tag, slash, attribute_name, equals, quotes, value, end_mark, end_name, end_space, settled, out, is_opening, is_end, move, in_tag_move, Goes, rests, moves, Stuck, Sticks, goes_join, sticks_after}

-- What a part gives is where the bytes lead; where it has a fault of form, they stick there.
abbrev pub Follows : {A : Type 0} → State → List ℕ → (A → State × List ℕ) → Read A → Type 0
Follows s bytes to (Ok x) = Goes s bytes (to x).0 (to x).1
Follows s bytes to (Err fault) = fault.0 ≡ Syntax → Sticks s bytes fault.1

-- what is left, in this state
abbrev pub left_in : State → List ℕ → State × List ℕ
left_in s rest = (s, rest)

pub stuck_here : (s : State) (bytes : List ℕ) → Stuck s bytes → Sticks s bytes (length bytes)
stuck_here s bytes stuck = record { state = s; rest = bytes; goes = rests; left_is = refl; stuck = stuck }

pub follows_after : {A : Type 0} (s t : State) (a b : List ℕ) (to : A → State × List ℕ) (r : Read A) → Goes s a t b → Follows t b to r → Follows s a to r
follows_after s t a b to (Ok x) p q = goes_join p q
follows_after s t a b to (Err fault) p q = λ e. sticks_after fault.1 p (q e)

pub follows_step : {A : Type 0} (s t : State) (c : ℕ) (cs : List ℕ) (to : A → State × List ℕ) (r : Read A) → move s c ≡ Some t → Follows t cs to r → Follows s (c ∷ cs) to r
follows_step s t c cs to r e q = follows_after s t (c ∷ cs) cs to r (moves e rests) q

pub follows_if : {A : Type 0} (s : State) (a : List ℕ) (to : A → State × List ℕ) (b : Bool) (x y : Read A) → (b ≡ true → Follows s a to x) → (b ≡ false → Follows s a to y) → Follows s a to (cond b x y)
follows_if s a to true x y p q = p refl
follows_if s a to false x y p q = q refl

pub follows_bind : {A B : Type 0} (s : State) (a : List ℕ) (mid : A → State × List ℕ) (to : B → State × List ℕ) (r : Read A) (f : A → Read B) → Follows s a mid r
    → ((x : A) → Follows (mid x).0 (mid x).1 to (f x)) → Follows s a to (r >>= f)
follows_bind s a mid to (Ok x) f p q = follows_after s (mid x).0 a (mid x).1 to (f x) p (q x)
follows_bind s a mid to (Err fault) f p q = p

-- ---- runs

pub past_goes : (p : ℕ → Bool) (s : State) → ((c : ℕ) → p c ≡ true → move s c ≡ Some s) → (bytes : List ℕ) → Goes s bytes s (past p bytes)
past_goes p s stays [] = rests
past_goes p s stays (c ∷ cs) =
    elim (cases_Bool (p c)) [
      | inl h ↦ rw h (moves (stays c h) (past_goes p s stays cs))
      | inr h ↦ rw h rests
    ]

pub past_stops : (p : ℕ → Bool) (bytes : List ℕ) (c : ℕ) (cs : List ℕ) → past p bytes ≡ c ∷ cs → p c ≡ false
past_stops p [] c cs e = absurd cc
past_stops p (b ∷ bs) c cs e =
    elim (cases_Bool (p b)) [
      | inl h ↦ past_stops p bs c cs (rw h at e)
      | inr h ↦ let same : b ∷ bs ≡ c ∷ cs = rw h at e in let first : b ≡ c = cc in ap p (sym first) ∙ h
    ]

-- two states that move alike on the first byte
abbrev pub Alike : State → State → List ℕ → Type 0
Alike s t [] = Unit {0}
Alike s t (c ∷ cs) = move s c ≡ move t c

pub alike_self : (s : State) (bytes : List ℕ) → Alike s s bytes
alike_self s [] = tt
alike_self s (c ∷ cs) = refl

-- a state, no end, that moves like another on what is left
pub record Like (s : State) (bytes : List ℕ) (t : State) (rest : List ℕ) : Type 0 where
  pub state : State
  pub goes : Goes s bytes state rest
  pub alike : Alike state t rest
  pub no_end : is_end state ≡ false

-- behind optional white space
pub white_from : (s t : State) (bytes : List ℕ) → Alike s t bytes → is_end s ≡ false → is_end t ≡ false → ((c : ℕ) → white c ≡ true → move t c ≡ Some t) → Like s bytes t (past white bytes)
white_from s t [] alike no_end no_end_too stays = record { state = s; goes = rests; alike = tt; no_end = no_end }
white_from s t (c ∷ cs) alike no_end no_end_too stays =
    elim (cases_Bool (white c)) [
      | inl h ↦ rw h (record { state = t; goes = moves (alike ∙ stays c h) (past_goes white t stays cs); alike = alike_self t (past white cs); no_end = no_end_too })
      | inr h ↦ rw h (record { state = s; goes = rests; alike = alike; no_end = no_end })
    ]

-- one byte that has to come
pub mark_from : (s t u : State) (k : ℕ) (bytes : List ℕ) → Alike s t bytes → is_end s ≡ false → ((c : ℕ) (cs : List ℕ) → bytes ≡ c ∷ cs → move t c ≡ cond (c == k) (Some u) None)
    → Follows s bytes (left_in u) (expect (k ∷ []) bytes)
mark_from s t u k [] alike no_end one = λ e. stuck_here s [] no_end
mark_from s t u k (c ∷ cs) alike no_end one =
    follows_if s (c ∷ cs) (left_in u) (c == k) (Ok cs) (Err (Syntax, length (c ∷ cs)))
    (λ h. moves (alike ∙ one c cs refl ∙ ap (λ (b : Bool). cond b (Some u) None) h) rests)
    (λ h e. stuck_here s (c ∷ cs) (alike ∙ one c cs refl ∙ ap (λ (b : Bool). cond b (Some u) None) h))

-- ---- comments

abbrev pub comment_end : List ℕ
comment_end = 45 ∷ 45 ∷ 62 ∷ []

abbrev pub instruction_end : List ℕ
instruction_end = 63 ∷ 62 ∷ []

pub other_way : (c k : ℕ) → eqb c k ≡ false → eqb k c ≡ false
other_way c k other = ne_eqb k c (λ e. both_ways (eqb c k) other (subst (λ (x : ℕ). eqb x k ≡ true) e (eqb_self k)))
  where
    eqb_self : (n : ℕ) → eqb n n ≡ true
    eqb_self n = eq-eqb n n refl

abbrev pub in_body : List ℕ → ℕ → List ℕ → Read (List ℕ)
in_body mark c cs = cond (allowed c) (upto mark cs) (Err (Syntax, length (c ∷ cs)))

pub comment_other : (c : ℕ) (cs : List ℕ) → eqb c 45 ≡ false → upto comment_end (c ∷ cs) ≡ in_body comment_end c cs
comment_other c cs h = rw (other_way c 45 h) refl

pub comment_dash_other : (c : ℕ) (cs : List ℕ) → eqb c 45 ≡ false → upto comment_end (45 ∷ c ∷ cs) ≡ in_body comment_end c cs
unfolding allowed
comment_dash_other c cs h = rw (other_way c 45 h) refl

pub comment_dashes_other : (c : ℕ) (cs : List ℕ) → eqb c 45 ≡ false → eqb c 62 ≡ false → upto comment_end (45 ∷ 45 ∷ c ∷ cs) ≡ in_body comment_end c cs
unfolding allowed
comment_dashes_other c cs h g = rw (other_way c 62 g, other_way c 45 h) refl

pub comment_dashes_dash : (cs : List ℕ) → upto comment_end (45 ∷ 45 ∷ 45 ∷ cs) ≡ upto comment_end (45 ∷ 45 ∷ cs)
unfolding allowed
comment_dashes_dash cs = refl

pub comment_dashes_end : (cs : List ℕ) → upto comment_end (45 ∷ 45 ∷ 62 ∷ cs) ≡ Ok cs
comment_dashes_end cs = refl

pub comment_cut : upto comment_end (45 ∷ []) ≡ Err (Syntax, 0)
unfolding allowed
comment_cut = refl

pub comment_cut_too : upto comment_end (45 ∷ 45 ∷ []) ≡ Err (Syntax, 0)
unfolding allowed
comment_cut_too = refl

pub instruction_other : (c : ℕ) (cs : List ℕ) → eqb c 63 ≡ false → upto instruction_end (c ∷ cs) ≡ in_body instruction_end c cs
instruction_other c cs h = rw (other_way c 63 h) refl

pub instruction_mark_other : (c : ℕ) (cs : List ℕ) → eqb c 63 ≡ false → eqb c 62 ≡ false → upto instruction_end (63 ∷ c ∷ cs) ≡ in_body instruction_end c cs
unfolding allowed
instruction_mark_other c cs h g = rw (other_way c 62 g, other_way c 63 h) refl

pub instruction_mark_mark : (cs : List ℕ) → upto instruction_end (63 ∷ 63 ∷ cs) ≡ upto instruction_end (63 ∷ cs)
unfolding allowed
instruction_mark_mark cs = refl

pub instruction_mark_end : (cs : List ℕ) → upto instruction_end (63 ∷ 62 ∷ cs) ≡ Ok cs
instruction_mark_end cs = refl

pub instruction_cut : upto instruction_end (63 ∷ []) ≡ Err (Syntax, 0)
unfolding allowed
instruction_cut = refl

-- in the body of a comment or an instruction, a byte that begins no mark
body_from : (s t : State) (g : Ground) (mark : List ℕ) (c : ℕ) (cs : List ℕ) → move s c ≡ cond (allowed c) (Some t) None → Follows t cs (left_in (on g)) (upto mark cs)
    → Follows s (c ∷ cs) (left_in (on g)) (in_body mark c cs)
body_from s t g mark c cs one on_it =
    follows_if s (c ∷ cs) (left_in (on g)) (allowed c) (upto mark cs) (Err (Syntax, length (c ∷ cs)))
    (λ h. follows_step s t c cs (left_in (on g)) (upto mark cs) (one ∙ ap (λ (b : Bool). cond b (Some t) None) h) on_it)
    (λ h e. stuck_here s (c ∷ cs) (one ∙ ap (λ (b : Bool). cond b (Some t) None) h))

abbrev EndsRemark : State → Ground → List ℕ → Read (List ℕ) → Type 0
EndsRemark s g bytes r = Follows s bytes (left_in (on g)) r

to_read : (s : State) (g : Ground) (bytes : List ℕ) (r q : Read (List ℕ)) → r ≡ q → EndsRemark s g bytes q → EndsRemark s g bytes r
to_read s g bytes r q is p = subst (EndsRemark s g bytes) (sym is) p

mutual
  pub remark_follows : (g : Ground) (bytes : List ℕ) → Follows (remark g) bytes (left_in (on g)) (upto comment_end bytes)
  remark_follows g [] = λ e. stuck_here (remark g) [] refl
  remark_follows g (c ∷ cs) =
      elim (cases_Bool (eqb c 45)) [
        | inl h ↦ subst (λ (x : ℕ). Follows (remark g) (x ∷ cs) (left_in (on g)) (upto comment_end (x ∷ cs))) (sym (eqb-true c 45 h))
            (follows_step (remark g) (remark_dash g) 45 cs (left_in (on g)) (upto comment_end (45 ∷ cs)) refl (remark_dash_follows g cs))
        | inr h ↦ to_read (remark g) g (c ∷ cs) (upto comment_end (c ∷ cs)) (in_body comment_end c cs) (comment_other c cs h)
            (body_from (remark g) (remark g) g comment_end c cs (rw h refl) (remark_follows g cs))
      ]

  pub remark_dash_follows : (g : Ground) (bytes : List ℕ) → Follows (remark_dash g) bytes (left_in (on g)) (upto comment_end (45 ∷ bytes))
  remark_dash_follows g [] = to_read (remark_dash g) g [] (upto comment_end (45 ∷ [])) (Err (Syntax, 0)) comment_cut (λ e. stuck_here (remark_dash g) [] refl)
  remark_dash_follows g (c ∷ cs) =
      elim (cases_Bool (eqb c 45)) [
        | inl h ↦ subst (λ (x : ℕ). Follows (remark_dash g) (x ∷ cs) (left_in (on g)) (upto comment_end (45 ∷ x ∷ cs))) (sym (eqb-true c 45 h))
            (follows_step (remark_dash g) (remark_dashes g) 45 cs (left_in (on g)) (upto comment_end (45 ∷ 45 ∷ cs)) refl (remark_dashes_follows g cs))
        | inr h ↦ to_read (remark_dash g) g (c ∷ cs) (upto comment_end (45 ∷ c ∷ cs)) (in_body comment_end c cs) (comment_dash_other c cs h)
            (body_from (remark_dash g) (remark g) g comment_end c cs (rw h refl) (remark_follows g cs))
      ]

  pub remark_dashes_follows : (g : Ground) (bytes : List ℕ) → Follows (remark_dashes g) bytes (left_in (on g)) (upto comment_end (45 ∷ 45 ∷ bytes))
  remark_dashes_follows g [] = to_read (remark_dashes g) g [] (upto comment_end (45 ∷ 45 ∷ [])) (Err (Syntax, 0)) comment_cut_too (λ e. stuck_here (remark_dashes g) [] refl)
  remark_dashes_follows g (c ∷ cs) =
      elim (cases_Bool (eqb c 45)) [
        | inl h ↦ subst (λ (x : ℕ). Follows (remark_dashes g) (x ∷ cs) (left_in (on g)) (upto comment_end (45 ∷ 45 ∷ x ∷ cs))) (sym (eqb-true c 45 h))
            (to_read (remark_dashes g) g (45 ∷ cs) (upto comment_end (45 ∷ 45 ∷ 45 ∷ cs)) (upto comment_end (45 ∷ 45 ∷ cs)) (comment_dashes_dash cs)
            (follows_step (remark_dashes g) (remark_dashes g) 45 cs (left_in (on g)) (upto comment_end (45 ∷ 45 ∷ cs)) refl (remark_dashes_follows g cs)))
        | inr h ↦ elim (cases_Bool (eqb c 62)) [
          | inl k ↦ subst (λ (x : ℕ). Follows (remark_dashes g) (x ∷ cs) (left_in (on g)) (upto comment_end (45 ∷ 45 ∷ x ∷ cs))) (sym (eqb-true c 62 k))
              (to_read (remark_dashes g) g (62 ∷ cs) (upto comment_end (45 ∷ 45 ∷ 62 ∷ cs)) (Ok cs) (comment_dashes_end cs) (moves refl rests))
          | inr k ↦ to_read (remark_dashes g) g (c ∷ cs) (upto comment_end (45 ∷ 45 ∷ c ∷ cs)) (in_body comment_end c cs) (comment_dashes_other c cs h k)
              (body_from (remark_dashes g) (remark g) g comment_end c cs (rw (k, h) refl) (remark_follows g cs))
        ]
      ]

mutual
  -- from a state that moves as the body of an instruction does
  pub told_follows : (s : State) (g : Ground) (bytes : List ℕ) → Alike s (tells g) bytes → is_end s ≡ false → Follows s bytes (left_in (on g)) (upto instruction_end bytes)
  told_follows s g [] alike no_end = λ e. stuck_here s [] no_end
  told_follows s g (c ∷ cs) alike no_end =
      elim (cases_Bool (eqb c 63)) [
        | inl h ↦
            let one : move s c ≡ Some (tells_mark g) = alike ∙ rw h refl in
            to_read s g (c ∷ cs) (upto instruction_end (c ∷ cs)) (upto instruction_end (63 ∷ cs)) (ap (λ (x : ℕ). upto instruction_end (x ∷ cs)) (eqb-true c 63 h))
            (follows_step s (tells_mark g) c cs (left_in (on g)) (upto instruction_end (63 ∷ cs)) one (told_mark_follows g cs))
        | inr h ↦ to_read s g (c ∷ cs) (upto instruction_end (c ∷ cs)) (in_body instruction_end c cs) (instruction_other c cs h)
            (body_from s (tells g) g instruction_end c cs (alike ∙ rw h refl) (told_follows (tells g) g cs (alike_self (tells g) cs) refl))
      ]

  pub told_mark_follows : (g : Ground) (bytes : List ℕ) → Follows (tells_mark g) bytes (left_in (on g)) (upto instruction_end (63 ∷ bytes))
  told_mark_follows g [] = to_read (tells_mark g) g [] (upto instruction_end (63 ∷ [])) (Err (Syntax, 0)) instruction_cut (λ e. stuck_here (tells_mark g) [] refl)
  told_mark_follows g (c ∷ cs) =
      elim (cases_Bool (eqb c 63)) [
        | inl h ↦ subst (λ (x : ℕ). Follows (tells_mark g) (x ∷ cs) (left_in (on g)) (upto instruction_end (63 ∷ x ∷ cs))) (sym (eqb-true c 63 h))
            (to_read (tells_mark g) g (63 ∷ cs) (upto instruction_end (63 ∷ 63 ∷ cs)) (upto instruction_end (63 ∷ cs)) (instruction_mark_mark cs)
            (follows_step (tells_mark g) (tells_mark g) 63 cs (left_in (on g)) (upto instruction_end (63 ∷ cs)) refl (told_mark_follows g cs)))
        | inr h ↦ elim (cases_Bool (eqb c 62)) [
          | inl k ↦ subst (λ (x : ℕ). Follows (tells_mark g) (x ∷ cs) (left_in (on g)) (upto instruction_end (63 ∷ x ∷ cs))) (sym (eqb-true c 62 k))
              (to_read (tells_mark g) g (62 ∷ cs) (upto instruction_end (63 ∷ 62 ∷ cs)) (Ok cs) (instruction_mark_end cs) (moves refl rests))
          | inr k ↦ to_read (tells_mark g) g (c ∷ cs) (upto instruction_end (63 ∷ c ∷ cs)) (in_body instruction_end c cs) (instruction_mark_other c cs h k)
              (body_from (tells_mark g) (tells g) g instruction_end c cs (rw (k, h) refl) (told_follows (tells g) g cs (alike_self (tells g) cs) refl))
        ]
      ]

pub comment_follows : (g : Ground) (bytes : List ℕ) → Follows (bang g) bytes (left_in (on g)) (expect (45 ∷ 45 ∷ []) bytes >>= upto comment_end)
comment_follows g bytes =
    follows_bind (bang g) bytes (left_in (remark g)) (left_in (on g)) (expect (45 ∷ 45 ∷ []) bytes) (upto comment_end) (dashes bytes) (remark_follows g)
  where
    second : (b : List ℕ) → Follows (bang_dash g) b (left_in (remark g)) (expect (45 ∷ []) b)
    second b = mark_from (bang_dash g) (bang_dash g) (remark g) 45 b (alike_self (bang_dash g) b) refl (λ c cs e. refl)

    dashes : (b : List ℕ) → Follows (bang g) b (left_in (remark g)) (expect (45 ∷ 45 ∷ []) b)
    dashes [] = λ e. stuck_here (bang g) [] refl
    dashes (c ∷ cs) =
        follows_if (bang g) (c ∷ cs) (left_in (remark g)) (eqb c 45) (expect (45 ∷ []) cs) (Err (Syntax, length (c ∷ cs)))
        (λ h. follows_step (bang g) (bang_dash g) c cs (left_in (remark g)) (expect (45 ∷ []) cs) (rw h refl) (second cs))
        (λ h e. stuck_here (bang g) (c ∷ cs) (rw h refl))

-- ---- instructions

-- a declaration does not begin here
abbrev pub NotDeclared : Ground → List ℕ → Type 0
NotDeclared g bytes = is_opening g ≡ true → (c : ℕ) (cs : List ℕ) → bytes ≡ 60 ∷ 63 ∷ 120 ∷ 109 ∷ 108 ∷ c ∷ cs → white c ≡ false

-- behind the whole name of an instruction
named_follows : (g : Ground) (x : ℕ) (xs rest : List ℕ) → ((c : ℕ) (cs : List ℕ) → rest ≡ c ∷ cs → name_byte c ≡ false)
    → (bytes_eq (x ∷ xs) (120 ∷ 109 ∷ 108 ∷ []) ≡ true → (c : ℕ) (cs : List ℕ) → rest ≡ c ∷ cs → (is_opening g && white c) ≡ false)
    → Follows (asks g (x ∷ xs)) rest (left_in (on (settled g))) (cond (bytes_eq (x ∷ xs) (120 ∷ 109 ∷ 108 ∷ [])) (Err (Syntax, length rest)) (Ok rest) >>= upto instruction_end)
named_follows g x xs rest ends undeclared =
    elim (cases_Bool (bytes_eq (x ∷ xs) (120 ∷ 109 ∷ 108 ∷ []))) [
      | inl h ↦ rw h (λ e. stuck_here (asks g (x ∷ xs)) rest (lost rest ends (undeclared h) h))
      | inr h ↦ rw h (told_follows (asks g (x ∷ xs)) (settled g) rest (alike rest ends h) refl)
    ]
  where
    lost : (r : List ℕ) → ((c : ℕ) (cs : List ℕ) → r ≡ c ∷ cs → name_byte c ≡ false) → ((c : ℕ) (cs : List ℕ) → r ≡ c ∷ cs → (is_opening g && white c) ≡ false)
        → bytes_eq (x ∷ xs) (120 ∷ 109 ∷ 108 ∷ []) ≡ true → Stuck (asks g (x ∷ xs)) r
    lost [] ends_here undeclared_here h = refl
    lost (c ∷ cs) ends_here undeclared_here h = rw (ends_here c cs refl, h, undeclared_here c cs refl) refl

    alike : (r : List ℕ) → ((c : ℕ) (cs : List ℕ) → r ≡ c ∷ cs → name_byte c ≡ false) → bytes_eq (x ∷ xs) (120 ∷ 109 ∷ 108 ∷ []) ≡ false → Alike (asks g (x ∷ xs)) (tells (settled g)) r
    alike [] ends_here h = tt
    alike (c ∷ cs) ends_here h = rw (ends_here c cs refl, h) refl

-- the rest of a name
name_goes : (g : Ground) (x : ℕ) (xs bytes : List ℕ) → Goes (asks g (x ∷ xs)) bytes (asks g ((x ∷ xs) ++ front name_byte bytes)) (past name_byte bytes)
name_goes g x xs [] = subst (λ (n : List ℕ). Goes (asks g (x ∷ xs)) [] (asks g (x ∷ n)) []) (sym (append-nil xs)) rests
name_goes g x xs (c ∷ cs) =
    elim (cases_Bool (name_byte c)) [
      | inl h ↦
          let one : move (asks g (x ∷ xs)) c ≡ Some (asks g (x ∷ (xs ++ c ∷ []))) = rw h refl in
          rw h (moves one (subst (λ (n : List ℕ). Goes (asks g (x ∷ (xs ++ c ∷ []))) cs (asks g (x ∷ n)) (past name_byte cs)) (append_assoc xs (c ∷ []) (front name_byte cs)) (name_goes g x (xs ++ c ∷ []) cs)))
      | inr h ↦ rw h (subst (λ (n : List ℕ). Goes (asks g (x ∷ xs)) (c ∷ cs) (asks g (x ∷ n)) (c ∷ cs)) (sym (append-nil xs)) rests)
    ]

pub first_is_name : (c : ℕ) → name_first c ≡ true → name_byte c ≡ true
unfolding name_byte
first_is_name c h = rw h refl

xml_is : (name : List ℕ) → bytes_eq name (120 ∷ 109 ∷ 108 ∷ []) ≡ true → name ≡ 120 ∷ 109 ∷ 108 ∷ []
xml_is name h = (bytes_decides name (120 ∷ 109 ∷ 108 ∷ [])).0 h

target_follows : (g : Ground) (bytes : List ℕ) → NotDeclared g (60 ∷ 63 ∷ bytes) → Follows (asks g []) bytes (left_in (on (settled g))) (target bytes >>= upto instruction_end)
unfolding target
target_follows g [] undeclared = λ e. stuck_here (asks g []) [] refl
target_follows g (c ∷ cs) undeclared =
    elim (cases_Bool (name_first c)) [
      | inl h ↦
          let b = first_is_name c h in
          rw (h, b) (follows_after (asks g []) (asks g (c ∷ front name_byte cs)) (c ∷ cs) (past name_byte cs) (left_in (on (settled g)))
          (cond (bytes_eq (c ∷ front name_byte cs) (120 ∷ 109 ∷ 108 ∷ [])) (Err (Syntax, length (past name_byte cs))) (Ok (past name_byte cs)) >>= upto instruction_end)
          (moves (rw h refl) (name_goes g c [] cs))
          (named_follows g c (front name_byte cs) (past name_byte cs) (past_stops name_byte cs) (λ is d ds rest_is. no_declaration (xml_is (c ∷ front name_byte cs) is) d ds rest_is)))
      | inr h ↦ rw h (λ e. stuck_here (asks g []) (c ∷ cs) (rw h refl))
    ]
  where
    and_not : (a b : Bool) → (a ≡ true → b ≡ false) → (a && b) ≡ false
    and_not true b h = h refl
    and_not false b h = refl

    no_declaration : c ∷ front name_byte cs ≡ 120 ∷ 109 ∷ 108 ∷ [] → (d : ℕ) (ds : List ℕ) → past name_byte cs ≡ d ∷ ds → (is_opening g && white d) ≡ false
    no_declaration is d ds rest_is =
        let all : 60 ∷ 63 ∷ c ∷ cs ≡ 60 ∷ 63 ∷ 120 ∷ 109 ∷ 108 ∷ d ∷ ds =
        ap (λ (l : List ℕ). 60 ∷ 63 ∷ c ∷ l) (sym (front-past name_byte cs)) ∙ ap (λ (l : List ℕ). 60 ∷ 63 ∷ c ∷ (front name_byte cs ++ l)) rest_is ∙ ap (λ (l : List ℕ). 60 ∷ 63 ∷ (l ++ d ∷ ds)) is in
        and_not (is_opening g) (white d) (λ o. undeclared o d ds all)

-- what follows a `<`: behind a comment or an instruction, or where neither begins
abbrev pub apart_to : Ground → List ℕ → Option (List ℕ) → State × List ℕ
apart_to g bytes (Some rest) = (on (settled g), rest)
apart_to g bytes None = (angle g, bytes)

apart_some : (s : State) (g : Ground) (bytes at : List ℕ) (r : Read (List ℕ)) → Follows s at (left_in (on (settled g))) r → Follows s at (apart_to g bytes) (r >>= λ rest. Ok (Some rest))
apart_some s g bytes at (Ok x) p = p
apart_some s g bytes at (Err e) p = p

comment_here : (g : Ground) (c : ℕ) (cs : List ℕ) → eqb c 33 ≡ true → Follows (angle g) (c ∷ cs) (left_in (on (settled g))) (comment (c ∷ cs))
unfolding comment
comment_here g c cs h =
    rw h (follows_step (angle g) (bang (settled g)) c cs (left_in (on (settled g))) (expect (45 ∷ 45 ∷ []) cs >>= upto comment_end) (rw h refl) (comment_follows (settled g) cs))

instruction_here : (g : Ground) (c : ℕ) (cs : List ℕ) → eqb c 33 ≡ false → eqb c 63 ≡ true → NotDeclared g (60 ∷ c ∷ cs) → Follows (angle g) (c ∷ cs) (left_in (on (settled g))) (instruction (c ∷ cs))
unfolding instruction
instruction_here g c cs h k undeclared =
    let none : NotDeclared g (60 ∷ 63 ∷ cs) = subst (λ (x : ℕ). NotDeclared g (60 ∷ x ∷ cs)) (eqb-true c 63 k) undeclared in
    rw k (follows_step (angle g) (asks g []) c cs (left_in (on (settled g))) (target cs >>= upto instruction_end) (rw (h, k) refl) (target_follows g cs none))

pub aside_follows : (g : Ground) (bytes : List ℕ) → NotDeclared g (60 ∷ bytes) → Follows (angle g) bytes (apart_to g bytes) (aside bytes)
aside_follows g [] undeclared = rests
aside_follows g (c ∷ cs) undeclared =
    elim (cases_Bool (eqb c 33)) [
      | inl h ↦ rw h (apart_some (angle g) g (c ∷ cs) (c ∷ cs) (comment (c ∷ cs)) (comment_here g c cs h))
      | inr h ↦ elim (cases_Bool (eqb c 63)) [
        | inl k ↦ rw (h, k) (apart_some (angle g) g (c ∷ cs) (c ∷ cs) (instruction (c ∷ cs)) (instruction_here g c cs h k undeclared))
        | inr k ↦ rw (h, k) rests
      ]
    ]

-- ---- tags

pub quote_follows : (d : ℕ) (s : State) (bytes : List ℕ) → Alike s (equals d) bytes → is_end s ≡ false → Follows s bytes (λ found. (value d found.0, found.1)) (quote_at bytes)
unfolding quote_at
quote_follows d s bytes alike no_end =
    let w = white_from s (equals d) bytes alike no_end refl (λ c h. rw h refl) in
    follows_after s w.state bytes (past white bytes) (λ found. (value d found.0, found.1)) (expect (61 ∷ []) (past white bytes) >>= λ rest. quote_in (past white rest)) w.goes
    (follows_bind w.state (past white bytes) (left_in (quotes d)) (λ found. (value d found.0, found.1)) (expect (61 ∷ []) (past white bytes)) (λ rest. quote_in (past white rest))
    (mark_from w.state (equals d) (quotes d) 61 (past white bytes) w.alike w.no_end (λ c cs is. rw (past_stops white bytes c cs is) refl)) in_quotes)
  where
    quote_here : (s : State) (w : List ℕ) → Alike s (quotes d) w → is_end s ≡ false → ((c : ℕ) (cs : List ℕ) → w ≡ c ∷ cs → white c ≡ false) → Follows s w (λ (found : ℕ × List ℕ). (value d found.0, found.1)) (quote_in w)
    quote_here s [] alike_here no_end_here solid = λ e. stuck_here s [] no_end_here
    quote_here s (c ∷ cs) alike_here no_end_here solid =
        follows_if s (c ∷ cs) (λ (found : ℕ × List ℕ). (value d found.0, found.1)) (eqb c 34 || eqb c 39) (Ok (c, cs)) (Err (Syntax, length (c ∷ cs)))
        (λ h. moves (alike_here ∙ rw (solid c cs refl, h) refl) rests) (λ h e. stuck_here s (c ∷ cs) (alike_here ∙ rw (solid c cs refl, h) refl))

    in_quotes : (rest : List ℕ) → Follows (quotes d) rest (λ (found : ℕ × List ℕ). (value d found.0, found.1)) (quote_in (past white rest))
    in_quotes rest =
        let w = white_from (quotes d) (quotes d) rest (alike_self (quotes d) rest) refl refl (λ c h. rw h refl) in
        follows_after (quotes d) w.state rest (past white rest) (λ (found : ℕ × List ℕ). (value d found.0, found.1)) (quote_in (past white rest)) w.goes (quote_here w.state (past white rest) w.alike w.no_end (past_stops white rest))

-- where what comes next in a start tag leads
abbrev pub turn_to : ℕ → TagTurn × List ℕ → State × List ℕ
turn_to d (attribute name quote, rest) = (value d quote, rest)
turn_to d (opens, rest) = (on (within d), rest)
turn_to d (closes, rest) = (on (out d), rest)

attribute_follows : (d : ℕ) (names : List (List ℕ)) (s : State) (bytes : List ℕ) → Alike s (spaced_tag d) bytes → is_end s ≡ false
    → ((c : ℕ) (cs : List ℕ) → bytes ≡ c ∷ cs → (white c ≡ false) × (eqb c 62 ≡ false) × (eqb c 47 ≡ false)) → Follows s bytes (turn_to d) (attribute_at names bytes)
unfolding attribute_at
attribute_follows d names s [] alike no_end other = λ e. stuck_here s [] no_end
attribute_follows d names s (c ∷ cs) alike no_end other =
    let name = name_at (c ∷ cs) in
    let rest = past name_byte (c ∷ cs) in
    let n = other c cs refl in
    elim (cases_Bool (name_first c)) [
      | inl h ↦
          let b = first_is_name c h in
          let begun : Goes s (c ∷ cs) (attribute_name d) (past name_byte cs) = moves (alike ∙ rw (n.0, n.1, n.2, h) refl) (past_goes name_byte (attribute_name d) (λ x k. rw k refl) cs) in
          rw (h, b) (follows_if s (c ∷ cs) (turn_to d) (is_among names (c ∷ front name_byte cs)) (Err (AttributeTwice, length (c ∷ cs))) (quote_at (past name_byte cs) >>= λ found. Ok (attribute (c ∷ front name_byte cs) found.0, found.1))
          (λ again e. absurd cc)
          (λ new. follows_after s (attribute_name d) (c ∷ cs) (past name_byte cs) (turn_to d) (quote_at (past name_byte cs) >>= λ found. Ok (attribute (c ∷ front name_byte cs) found.0, found.1)) begun
          (follows_bind (attribute_name d) (past name_byte cs) (λ found. (value d found.0, found.1)) (turn_to d) (quote_at (past name_byte cs)) (λ found. Ok (attribute (c ∷ front name_byte cs) found.0, found.1))
          (quote_follows d (attribute_name d) (past name_byte cs) (name_ended (past name_byte cs) (past_stops name_byte cs)) refl) (λ found. rests))))
      | inr h ↦ rw h (λ e. stuck_here s (c ∷ cs) (alike ∙ rw (n.0, n.1, n.2, h) refl))
    ]
  where
    name_ended : (r : List ℕ) → ((x : ℕ) (xs : List ℕ) → r ≡ x ∷ xs → name_byte x ≡ false) → Alike (attribute_name d) (equals d) r
    name_ended [] ends = tt
    name_ended (x ∷ xs) ends = rw (ends x xs refl) refl

-- behind the white space, if any stands there
turn_from : (d : ℕ) (names : List (List ℕ)) (bare : Bool) (s t : State) (w : List ℕ) → t ≡ cond bare (tag d) (spaced_tag d) → Alike s t w → is_end s ≡ false → ((c : ℕ) (cs : List ℕ) → w ≡ c ∷ cs → white c ≡ false)
    → Follows s w (turn_to d) (turn_at names bare w)
turn_from d names bare s t [] t_is alike no_end solid = λ e. stuck_here s [] no_end
turn_from d names bare s t (c ∷ cs) t_is alike no_end solid =
    let n = solid c cs refl in
    let at : move s c ≡ in_tag_move (not bare) d c = alike ∙ ap (λ (x : State). move x c) t_is ∙ chosen_move bare in
    let others = cond bare (Err (Syntax, length (c ∷ cs))) (attribute_at names (c ∷ cs)) in
    let closing = expect (62 ∷ []) cs >>= λ rest. Ok (closes, rest) in
    follows_if s (c ∷ cs) (turn_to d) (eqb c 62) (Ok (opens, cs)) (cond (eqb c 47) closing others)
    (λ h. moves (at ∙ rw (n, h) refl) rests)
    (λ h. follows_if s (c ∷ cs) (turn_to d) (eqb c 47) closing others
    (λ k. follows_step s (slash d) c cs (turn_to d) closing (at ∙ rw (n, h, k) refl)
    (follows_bind (slash d) cs (left_in (on (out d))) (turn_to d) (expect (62 ∷ []) cs) (λ rest. Ok (closes, rest)) (mark_from (slash d) (slash d) (on (out d)) 62 cs (alike_self (slash d) cs) refl (λ x xs e. refl)) (λ rest. rests)))
    (λ k. by_space bare at n h k))
  where
    chosen_move : (b : Bool) → move (cond b (tag d) (spaced_tag d)) c ≡ in_tag_move (not b) d c
    chosen_move true = refl
    chosen_move false = refl

    by_space : (b : Bool) → move s c ≡ in_tag_move (not b) d c → white c ≡ false → eqb c 62 ≡ false → eqb c 47 ≡ false → Follows s (c ∷ cs) (turn_to d) (cond b (Err (Syntax, length (c ∷ cs))) (attribute_at names (c ∷ cs)))
    by_space true at n h k = λ e. stuck_here s (c ∷ cs) (at ∙ rw (n, h, k) refl)
    by_space false at n h k = attribute_follows d names s (c ∷ cs) at no_end (λ x xs e. first_too x xs e)
      where
        first_too : (x : ℕ) (xs : List ℕ) → c ∷ cs ≡ x ∷ xs → (white x ≡ false) × (eqb x 62 ≡ false) × (eqb x 47 ≡ false)
        first_too x xs e = let same : c ≡ x = cc in subst (λ (y : ℕ). (white y ≡ false) × (eqb y 62 ≡ false) × (eqb y 47 ≡ false)) same (n, h, k)

pub past_short : (p : ℕ → Bool) (c : ℕ) (cs : List ℕ) → p c ≡ true → (length (past p (c ∷ cs)) == length (c ∷ cs)) ≡ false
past_short p c cs h = rw h (ne_eqb _ _ (λ e. omega (arith, e, past_shorter p cs)))

pub tag_follows : (d : ℕ) (names : List (List ℕ)) (s : State) (bytes : List ℕ) → Alike s (tag d) bytes → is_end s ≡ false → Follows s bytes (turn_to d) (tag_turn names bytes)
tag_follows d names s [] alike no_end = λ e. stuck_here s [] no_end
tag_follows d names s (c ∷ cs) alike no_end =
    elim (cases_Bool (white c)) [
      | inl h ↦
          subst (λ (b : Bool). Follows s (c ∷ cs) (turn_to d) (turn_at names b (past white (c ∷ cs)))) (sym (past_short white c cs h))
          (rw h (follows_after s (spaced_tag d) (c ∷ cs) (past white cs) (turn_to d) (turn_at names false (past white cs)) (moves (alike ∙ rw h refl) (past_goes white (spaced_tag d) (λ x k. rw k refl) cs))
          (turn_from d names false (spaced_tag d) (spaced_tag d) (past white cs) refl (alike_self (spaced_tag d) (past white cs)) refl (past_stops white cs))))
      | inr h ↦
          let stays : past white (c ∷ cs) ≡ c ∷ cs = rw h refl in
          let bare : (length (past white (c ∷ cs)) == length (c ∷ cs)) ≡ true = eq-eqb _ _ (ap length stays) in
          subst (λ (b : Bool). Follows s (c ∷ cs) (turn_to d) (turn_at names b (past white (c ∷ cs)))) (sym bare)
          (subst (λ (w : List ℕ). Follows s (c ∷ cs) (turn_to d) (turn_at names true w)) (sym stays)
          (turn_from d names true s (tag d) (c ∷ cs) refl alike no_end (λ x xs e. subst (λ (y : ℕ). white y ≡ false) (first_same c x cs xs e) h)))
    ]
  where
    first_same : (a b : ℕ) (l m : List ℕ) → a ∷ l ≡ b ∷ m → a ≡ b
    first_same a b l m e = cc

-- ---- end tags

pub end_follows : (d : ℕ) (name : List ℕ) (left : ℕ) (bytes : List ℕ) → Follows (end_mark d) bytes (left_in (on (out d))) (end_at name left bytes)
unfolding end_at
end_follows d name left [] = λ e. stuck_here (end_mark d) [] refl
end_follows d name left (c ∷ cs) =
    elim (cases_Bool (name_first c)) [
      | inl h ↦
          let b = first_is_name c h in
          rw (h, b) (follows_if (end_mark d) (c ∷ cs) (left_in (on (out d))) (bytes_eq (c ∷ front name_byte cs) name) (expect (62 ∷ []) (past white (past name_byte cs))) (Err (TagMismatch, left))
          (λ same. follows_after (end_mark d) (end_name d) (c ∷ cs) (past name_byte cs) (left_in (on (out d))) (expect (62 ∷ []) (past white (past name_byte cs))) (moves (rw h refl) (past_goes name_byte (end_name d) (λ x k. rw k refl) cs))
          (closing_follows (past name_byte cs) (past_stops name_byte cs)))
          (λ other e. absurd cc))
      | inr h ↦ rw h (λ e. stuck_here (end_mark d) (c ∷ cs) (rw h refl))
    ]
  where
    name_ended : (r : List ℕ) → ((x : ℕ) (xs : List ℕ) → r ≡ x ∷ xs → name_byte x ≡ false) → Alike (end_name d) (end_space d) r
    name_ended [] ends = tt
    name_ended (x ∷ xs) ends = rw (ends x xs refl) refl

    closing_follows : (r : List ℕ) → ((x : ℕ) (xs : List ℕ) → r ≡ x ∷ xs → name_byte x ≡ false) → Follows (end_name d) r (left_in (on (out d))) (expect (62 ∷ []) (past white r))
    closing_follows r ends =
        let w = white_from (end_name d) (end_space d) r (name_ended r ends) refl refl (λ x k. rw k refl) in
        follows_after (end_name d) w.state r (past white r) (left_in (on (out d))) (expect (62 ∷ []) (past white r)) w.goes
        (mark_from w.state (end_space d) (on (out d)) 62 (past white r) w.alike w.no_end (λ x xs is. rw (past_stops white r x xs is) refl))

-- ---- references

-- a byte of a reference behind its `&`
abbrev pub in_reference : ℕ → Bool
in_reference c = eqb c 35 || (nat_le 48 c && not (eqb c 60))

abbrev unit_of : List ℕ → List ℕ → Read (List ℕ × List ℕ)
unit_of piece rest = Ok (piece, rest)

pub record InReference (c : ℕ) : Type 0 where
  pub held : allowed c ≡ true
  pub no_markup : eqb c 60 ≡ false
  pub no_double : c ≡ 34 → ⊥
  pub no_single : c ≡ 39 → ⊥

pub reference_byte : (c : ℕ) → in_reference c ≡ true → InReference c
unfolding allowed
reference_byte c is =
    elim (or_cases (eqb c 35) (nat_le 48 c && not (eqb c 60)) is) [
      | inl h ↦
          let same = eqb-true c 35 h in
          record { held = ap allowed same; no_markup = ap (λ (x : ℕ). eqb x 60) same; no_double = λ e. omega (arith, same, e); no_single = λ e. omega (arith, same, e) }
      | inr h ↦
          let p = and_parts (nat_le 48 c) (not (eqb c 60)) h in
          let low = leb-true 48 c p.0 in
          record { held = rw (le-leb 32 c (omega arith)) refl; no_markup = not-true (eqb c 60) p.1; no_double = λ e. omega (arith, low, e); no_single = λ e. omega (arith, low, e) }
    ]

pub record Stays (s : State) : Type 0 where
  pub stays : (c : ℕ) → in_reference c ≡ true → move s c ≡ Some s

digit_in : (hexadecimal : Bool) (c d : ℕ) → digit_of hexadecimal c ≡ Some d → in_reference c ≡ true
unfolding digit_of
digit_in hexadecimal c d e =
    elim (chosen (nat_le 48 c && nat_le c 57) (some_of (c - 48)) (cond (hexadecimal && nat_le 97 c && nat_le c 102) (some_of (c - 87)) (cond (hexadecimal && nat_le 65 c && nat_le c 70) (some_of (c - 55)) None)) (some_of d) e) [
      | inl p ↦ let q = and_parts (nat_le 48 c) (nat_le c 57) p.0 in between (leb-true 48 c q.0) (λ is. omega (arith, is, leb-true c 57 q.1))
      | inr p ↦ elim (chosen (hexadecimal && nat_le 97 c && nat_le c 102) (some_of (c - 87)) (cond (hexadecimal && nat_le 65 c && nat_le c 70) (some_of (c - 55)) None) (some_of d) p.1) [
        | inl q ↦
            let r = and_parts (hexadecimal && nat_le 97 c) (nat_le c 102) q.0 in
            let t = leb-true 97 c (and_parts hexadecimal (nat_le 97 c) r.0).1 in
            between (omega arith) (λ is. omega arith)
        | inr q ↦ elim (chosen (hexadecimal && nat_le 65 c && nat_le c 70) (some_of (c - 55)) None (some_of d) q.1) [
          | inl r ↦
              let u = and_parts (hexadecimal && nat_le 65 c) (nat_le c 70) r.0 in
              let t = leb-true 65 c (and_parts hexadecimal (nat_le 65 c) u.0).1 in
              between (omega arith) (λ is. omega arith)
          | inr r ↦ absurd (none_is d r.1)
        ]
      ]
    ]
  where
    between : 48 ≤ c → (c ≡ 60 → ⊥) → in_reference c ≡ true
    between low other = rw (le-leb 48 c low, ne_eqb c 60 other) (or_true (eqb c 35))
      where
        or_true : (b : Bool) → (b || true) ≡ true
        or_true true = refl
        or_true false = refl

module _ (s : State) (here : Stays s) where
  stays_at : (k c : ℕ) (cs rest : List ℕ) → eqb c k ≡ true → in_reference k ≡ true → Goes s cs s rest → Goes s (c ∷ cs) s rest
  stays_at k c cs rest is held p = moves (here.stays c (ap in_reference (eqb-true c k is) ∙ held)) p

  digits_go : (hexadecimal : Bool) (more n : ℕ) (a : List ℕ) (found : ℕ × List ℕ) → digits_on hexadecimal more n a ≡ Some found → Goes s a s found.1
  digits_go hexadecimal zero n [] found e = absurd (none_is found e)
  digits_go hexadecimal zero n (c ∷ cs) found e =
      elim (chosen (eqb c 59) (number_some n cs) None (Some found) e) [
        | inl p ↦ subst (λ (f : ℕ × List ℕ). Goes s (c ∷ cs) s f.1) (some_same (n, cs) found p.1) (stays_at 59 c cs cs p.0 refl rests)
        | inr p ↦ absurd (none_is found p.1)
      ]
  digits_go hexadecimal (suc more) n [] found e = absurd (none_is found e)
  digits_go hexadecimal (suc more) n (c ∷ cs) found e =
      elim (chosen (eqb c 59) (number_some n cs) (option_and_then (λ d. digits_on hexadecimal more (n * base_of hexadecimal + d) cs) (digit_of hexadecimal c)) (Some found) e) [
        | inl p ↦ subst (λ (f : ℕ × List ℕ). Goes s (c ∷ cs) s f.1) (some_same (n, cs) found p.1) (stays_at 59 c cs cs p.0 refl rests)
        | inr p ↦
            let x = then_some (digit_of hexadecimal c) (λ d. digits_on hexadecimal more (n * base_of hexadecimal + d) cs) found p.1 in
            moves (here.stays c (digit_in hexadecimal c x.0 x.1)) (digits_go hexadecimal more (n * base_of hexadecimal + x.0) cs found x.2)
      ]

  number_goes : (hexadecimal : Bool) (a : List ℕ) (found : ℕ × List ℕ) → number_at hexadecimal a ≡ Some found → Goes s a s found.1
  number_goes hexadecimal [] found e = absurd (none_is found e)
  number_goes hexadecimal (c ∷ cs) found e =
      let x = then_some (digit_of hexadecimal c) (λ d. digits_on hexadecimal 7 d cs) found e in
      moves (here.stays c (digit_in hexadecimal c x.0 x.1)) (digits_go hexadecimal 7 x.0 cs found x.2)

  numbered_goes : (hexadecimal : Bool) (a : List ℕ) (found : ℕ × List ℕ) → numbered_at hexadecimal a ≡ Some found → Goes s a s found.1
  unfolding numbered_at
  numbered_goes hexadecimal a found e =
      let x = then_some (number_at hexadecimal a) (λ f. option_and_then (λ c. number_some c f.1) (character_of f.0)) found e in
      let y = then_some (character_of x.0.0) (λ c. number_some c x.0.1) found x.2 in
      subst (λ (f : ℕ × List ℕ). Goes s a s f.1) (some_same (y.0, x.0.1) found y.2) (number_goes hexadecimal a x.0 x.1)

  -- a fixed spelling of such bytes
  spelled_goes : (mark rest : List ℕ) → list_all in_reference mark ≡ true → Goes s (mark ++ rest) s rest
  spelled_goes [] rest all = rests
  spelled_goes (m ∷ ms) rest all = let p = and_parts (in_reference m) (list_all in_reference ms) all in moves (here.stays m p.0) (spelled_goes ms rest p.1)

  behind_spelled : (mark a : List ℕ) (code : ℕ) (found : ℕ × List ℕ) → list_all in_reference mark ≡ true → starts_with nat_eq a mark ≡ true → number_some code (drop (length mark) a) ≡ Some found → Goes s a s found.1
  behind_spelled mark a code found all starts e =
      subst (λ (l : List ℕ). Goes s l s found.1) (sym (starts_split a mark starts))
      (subst (λ (f : ℕ × List ℕ). Goes s (mark ++ drop (length mark) a) s f.1) (some_same (code, drop (length mark) a) found e) (spelled_goes mark (drop (length mark) a) all))

  named_goes : (a : List ℕ) (found : ℕ × List ℕ) → named_at a ≡ Some found → Goes s a s found.1
  unfolding named_at
  named_goes a found e =
      let apos = cond (starts_with nat_eq a (97 ∷ 112 ∷ 111 ∷ 115 ∷ 59 ∷ [])) (number_some 39 (drop 5 a)) None in
      let quot = cond (starts_with nat_eq a (113 ∷ 117 ∷ 111 ∷ 116 ∷ 59 ∷ [])) (number_some 34 (drop 5 a)) apos in
      let amp = cond (starts_with nat_eq a (97 ∷ 109 ∷ 112 ∷ 59 ∷ [])) (number_some 38 (drop 4 a)) quot in
      let gt = cond (starts_with nat_eq a (103 ∷ 116 ∷ 59 ∷ [])) (number_some 62 (drop 3 a)) amp in
      elim (chosen (starts_with nat_eq a (108 ∷ 116 ∷ 59 ∷ [])) (number_some 60 (drop 3 a)) gt (Some found) e) [
        | inl p ↦ behind_spelled (108 ∷ 116 ∷ 59 ∷ []) a 60 found refl p.0 p.1
        | inr p ↦ elim (chosen (starts_with nat_eq a (103 ∷ 116 ∷ 59 ∷ [])) (number_some 62 (drop 3 a)) amp (Some found) p.1) [
          | inl p2 ↦ behind_spelled (103 ∷ 116 ∷ 59 ∷ []) a 62 found refl p2.0 p2.1
          | inr p2 ↦ elim (chosen (starts_with nat_eq a (97 ∷ 109 ∷ 112 ∷ 59 ∷ [])) (number_some 38 (drop 4 a)) quot (Some found) p2.1) [
            | inl p3 ↦ behind_spelled (97 ∷ 109 ∷ 112 ∷ 59 ∷ []) a 38 found refl p3.0 p3.1
            | inr p3 ↦ elim (chosen (starts_with nat_eq a (113 ∷ 117 ∷ 111 ∷ 116 ∷ 59 ∷ [])) (number_some 34 (drop 5 a)) apos (Some found) p3.1) [
              | inl p4 ↦ behind_spelled (113 ∷ 117 ∷ 111 ∷ 116 ∷ 59 ∷ []) a 34 found refl p4.0 p4.1
              | inr p4 ↦ elim (chosen (starts_with nat_eq a (97 ∷ 112 ∷ 111 ∷ 115 ∷ 59 ∷ [])) (number_some 39 (drop 5 a)) None (Some found) p4.1) [
                | inl p5 ↦ behind_spelled (97 ∷ 112 ∷ 111 ∷ 115 ∷ 59 ∷ []) a 39 found refl p5.0 p5.1
                | inr p5 ↦ absurd (none_is found p5.1)
              ]
            ]
          ]
        ]
      ]

  reference_goes : (a : List ℕ) (found : ℕ × List ℕ) → reference_at a ≡ Some found → Goes s a s found.1
  unfolding reference_at
  reference_goes a found e =
      let decimal = cond (starts_with nat_eq a (35 ∷ [])) (numbered_at false (drop 1 a)) (named_at a) in
      elim (chosen (starts_with nat_eq a (35 ∷ 120 ∷ [])) (numbered_at true (drop 2 a)) decimal (Some found) e) [
        | inl p ↦ subst (λ (l : List ℕ). Goes s l s found.1) (sym (starts_split a (35 ∷ 120 ∷ []) p.0)) (goes_join (spelled_goes (35 ∷ 120 ∷ []) (drop 2 a) refl) (numbered_goes true (drop 2 a) found p.1))
        | inr p ↦ elim (chosen (starts_with nat_eq a (35 ∷ [])) (numbered_at false (drop 1 a)) (named_at a) (Some found) p.1) [
          | inl q ↦ subst (λ (l : List ℕ). Goes s l s found.1) (sym (starts_split a (35 ∷ []) q.0)) (goes_join (spelled_goes (35 ∷ []) (drop 1 a) refl) (numbered_goes false (drop 1 a) found q.1))
          | inr q ↦ named_goes a found q.1
        ]
      ]

  -- a unit whose first byte is no markup and, in a value, not its quote
  pub unit_here : (quoted : Bool) (c : ℕ) (cs : List ℕ) → ((x : ℕ) → allowed x ≡ true → eqb x 60 ≡ false → (eqb x c ≡ true) ⊎ (eqb x 10 ≡ true) → move s x ≡ Some s) → is_end s ≡ false
      → ((allowed c ≡ false) ⊎ (eqb c 60 ≡ true) → move s c ≡ None) → Follows s (c ∷ cs) (λ found. (s, found.1)) (unit_at quoted (c ∷ cs))
  unfolding allowed
  unit_here quoted c cs plain_goes no_end none =
      let others = cond (eqb c 60 || not (allowed c)) (Err (Syntax, length (c ∷ cs))) (unit_of (plain quoted c ∷ []) cs) in
      follows_if s (c ∷ cs) (λ found. (s, found.1)) (eqb c 38) (referred (length (c ∷ cs)) (reference_at cs)) (cond (eqb c 13) (unit_of (plain quoted 10 ∷ []) (past_line_feed cs)) others)
      (λ h. referred_goes h (reference_at cs) refl)
      (λ h. follows_if s (c ∷ cs) (λ found. (s, found.1)) (eqb c 13) (unit_of (plain quoted 10 ∷ []) (past_line_feed cs)) others
      (λ k. moves (plain_goes c (ap allowed (eqb-true c 13 k)) (ap (λ (x : ℕ). eqb x 60) (eqb-true c 13 k)) (inl (eq-eqb c c refl))) (line_feed cs))
      (λ k. follows_if s (c ∷ cs) (λ found. (s, found.1)) (eqb c 60 || not (allowed c)) (Err (Syntax, length (c ∷ cs))) (unit_of (plain quoted c ∷ []) cs)
      (λ m e. stuck_here s (c ∷ cs) (none (elim (or_cases (eqb c 60) (not (allowed c)) m) [ inl x ↦ inr x | inr x ↦ inl (not-true (allowed c) x) ])))
      (λ m. let p = or_parts (eqb c 60) (not (allowed c)) m in moves (plain_goes c (not-false (allowed c) p.1) p.0 (inl (eq-eqb c c refl))) rests)))
    where
      line_feed : (l : List ℕ) → Goes s l s (past_line_feed l)
      line_feed [] = rests
      line_feed (x ∷ xs) =
          elim (cases_Bool (eqb x 10)) [
            | inl f ↦ rw f (moves (plain_goes x (ap allowed (eqb-true x 10 f)) (ap (λ (y : ℕ). eqb y 60) (eqb-true x 10 f)) (inr f)) rests)
            | inr f ↦ rw f rests
          ]

      referred_goes : eqb c 38 ≡ true → (found : Option (ℕ × List ℕ)) → reference_at cs ≡ found → Follows s (c ∷ cs) (λ found. (s, found.1)) (referred (length (c ∷ cs)) found)
      referred_goes h None e = λ f. absurd cc
      referred_goes h (Some x) e = moves (plain_goes c (ap allowed (eqb-true c 38 h)) (ap (λ (y : ℕ). eqb y 60) (eqb-true c 38 h)) (inl (eq-eqb c c refl))) (reference_goes cs x e)
