-- The start of a text, and what comes before its root, taken byte by byte.
use Rattle.std.proofs.Common.{◌≡◌, ℕ, Bool, true, false, cond, eqb, List, [], ◌∷◌, length, drop, Option, Some, None, Ok, Err, refl, sym, ap, subst, ◌∙◌, inl, inr}
use Rattle.std.specs.Prelude.{nat_eq, ◌||◌}
use Rattle.std.specs.List.{starts_with}
use Rattle.std.proofs.lemmas.Bool.{both_ways, cases_Bool, eqb-true, or_cases}
use Rattle.manifest_tree.specs.declared.fault.TreeKind.TheVariants.{Syntax}
use Rattle.manifest_tree.specs.Lexis.{Read, white, name_first, name_byte, past, has_name, aside, begin, past_declaration, past_white_mark, upto, expect, ◌>>=◌}
use Rattle.manifest_tree.specs.Grammar.{Misc, nothing, space, note}
use Rattle.manifest_tree.proofs.Cuts.{starts_split}
use Rattle.manifest_tree.proofs.Flat.{not_first, bang, question}
use Rattle.manifest_tree.proofs.Machine.{Ground, opening, ahead, beyond, State, fresh, mark_one, mark_two, on, angle, asks, tells, naming, tag, settled, is_end, tag_move, move, Goes, rests, moves, Sticks, goes_join, sticks_after}
use Rattle.manifest_tree.proofs.Lexemes.{Follows, left_in, stuck_here, follows_step, follows_if, past_goes, past_stops, Alike, alike_self, mark_from, instruction_end, told_follows, first_is_name, NotDeclared, apart_to, aside_follows}

pub white_unnamed : (c : ℕ) → white c ≡ true → name_byte c ≡ false
unfolding white name_byte name_first
white_unnamed c h =
    elim (or_cases (eqb c 32 || eqb c 9 || eqb c 10) (eqb c 13) h) [
      | inl g ↦ elim (or_cases (eqb c 32 || eqb c 9) (eqb c 10) g) [
        | inl f ↦ elim (or_cases (eqb c 32) (eqb c 9) f) [ inl e ↦ ap name_byte (eqb-true c 32 e) | inr e ↦ ap name_byte (eqb-true c 9 e) ]
        | inr e ↦ ap name_byte (eqb-true c 10 e)
      ]
      | inr e ↦ ap name_byte (eqb-true c 13 e)
    ]

pub sixty_is_solid : white 60 ≡ false
unfolding white
sixty_is_solid = refl

-- before the root: behind the start, or where a declaration might have come and did not
pub data Ahead : State → List ℕ → Type 0 where
  past_start : {rest : List ℕ} → Ahead (on ahead) rest
  undeclared : {s : State} {rest : List ℕ} → Alike s (on opening) rest → is_end s ≡ false → NotDeclared opening rest → Ahead s rest

pub record Begun (bytes rest : List ℕ) : Type 0 where
  pub state : State
  pub goes : Goes fresh bytes state rest
  pub is_ahead : Ahead state rest

-- what the start gives, or where it sticks
abbrev pub StartFollows : List ℕ → Read (List ℕ) → Type 0
StartFollows bytes (Ok rest) = Begun bytes rest
StartFollows bytes (Err fault) = fault.0 ≡ Syntax → Sticks fresh bytes fault.1

abbrev behind_xml : List ℕ → List ℕ
behind_xml l = 60 ∷ 63 ∷ 120 ∷ 109 ∷ 108 ∷ l

nil_cons : (c : ℕ) (cs : List ℕ) → [] ≡ c ∷ cs → ⊥
nil_cons c cs e = cc

same_first : (a b : ℕ) (l m : List ℕ) → a ∷ l ≡ b ∷ m → a ≡ b
same_first a b l m e = cc

module _ (bytes rest : List ℕ) (s : State) (goes : Goes fresh bytes s rest) (alike : Alike s (on opening) rest) (no_end : is_end s ≡ false) where
  to_name : (l : List ℕ) → rest ≡ behind_xml l → Goes fresh bytes (asks opening (120 ∷ 109 ∷ 108 ∷ [])) l
  unfolding white name_first name_byte
  to_name l is =
      let first : move s 60 ≡ Some (angle opening) = subst (Alike s (on opening)) is alike in
      goes_join goes (subst (λ (x : List ℕ). Goes s x (asks opening (120 ∷ 109 ∷ 108 ∷ [])) l) (sym is) (moves first (moves refl (moves refl (moves refl (moves refl rests))))))

  to_body : (c : ℕ) (cs : List ℕ) → rest ≡ behind_xml (c ∷ cs) → white c ≡ true → Goes fresh bytes (tells ahead) cs
  to_body c cs is blank = goes_join (to_name (c ∷ cs) is) (moves (rw (white_unnamed c blank, blank) refl) rests)

  told : (c : ℕ) (cs : List ℕ) → rest ≡ behind_xml (c ∷ cs) → white c ≡ true → (q : Read (List ℕ)) → Follows (tells ahead) cs (left_in (on ahead)) q → StartFollows bytes q
  told c cs is blank (Ok x) f = record { state = on ahead; goes = goes_join (to_body c cs is blank) f; is_ahead = past_start }
  told c cs is blank (Err e) f = λ k. sticks_after e.1 (to_body c cs is blank) (f k)

  not_declared : ((c : ℕ) (cs : List ℕ) → rest ≡ behind_xml (c ∷ cs) → white c ≡ false) → StartFollows bytes (Ok rest)
  not_declared none = record { state = s; goes = goes; is_ahead = undeclared alike no_end (λ o. none) }

  by_first : (l : List ℕ) → drop 5 rest ≡ l → rest ≡ behind_xml (drop 5 rest) → StartFollows bytes (past_white_mark rest l)
  by_first [] l_is is = not_declared (λ c cs e. absurd (nil_cons c cs (sym l_is ∙ ap (drop 5) e)))
  by_first (c ∷ cs) l_is is =
      elim (cases_Bool (white c)) [
        | inl h ↦ rw h (told c cs (is ∙ ap behind_xml l_is) h (upto instruction_end cs) (told_follows (tells ahead) ahead cs (alike_self (tells ahead) cs) refl))
        | inr h ↦ rw h (not_declared (λ d ds e. subst (λ (x : ℕ). white x ≡ false) (same_first c d cs ds (sym l_is ∙ ap (drop 5) e)) h))
      ]

  start_from : StartFollows bytes (past_declaration rest)
  unfolding past_declaration
  start_from =
      elim (cases_Bool (starts_with nat_eq rest (60 ∷ 63 ∷ 120 ∷ 109 ∷ 108 ∷ []))) [
        | inl h ↦ rw h (by_first (drop 5 rest) refl (starts_split rest (60 ∷ 63 ∷ 120 ∷ 109 ∷ 108 ∷ []) h))
        | inr h ↦ rw h (not_declared (λ c cs e. absurd (both_ways _ h (subst (λ (l : List ℕ). starts_with nat_eq l (60 ∷ 63 ∷ 120 ∷ 109 ∷ 108 ∷ []) ≡ true) (sym e) refl))))
      ]

start_bind : (bytes : List ℕ) (r : Read (List ℕ)) → Follows fresh bytes (left_in (on opening)) r → StartFollows bytes (r >>= past_declaration)
start_bind bytes (Ok x) f = start_from bytes x (on opening) f (alike_self (on opening) x) refl
start_bind bytes (Err e) f = f

pub begin_follows : (bytes : List ℕ) → StartFollows bytes (begin bytes)
unfolding begin
begin_follows [] = start_from [] [] fresh rests tt refl
begin_follows (c ∷ cs) =
    elim (cases_Bool (eqb c 239)) [
      | inl h ↦ rw h (start_bind (c ∷ cs) (expect (187 ∷ 191 ∷ []) cs) (follows_step fresh mark_one c cs (left_in (on opening)) (expect (187 ∷ 191 ∷ []) cs) (rw h refl) (marks cs)))
      | inr h ↦ rw h (start_from (c ∷ cs) (c ∷ cs) fresh rests (rw h refl) refl)
    ]
  where
    marks : (l : List ℕ) → Follows mark_one l (left_in (on opening)) (expect (187 ∷ 191 ∷ []) l)
    marks [] = λ e. stuck_here mark_one [] refl
    marks (d ∷ ds) =
        follows_if mark_one (d ∷ ds) (left_in (on opening)) (eqb d 187) (expect (191 ∷ []) ds) (Err (Syntax, length (d ∷ ds)))
        (λ h. follows_step mark_one mark_two d ds (left_in (on opening)) (expect (191 ∷ []) ds) (rw h refl) (mark_from mark_two mark_two (on opening) 191 ds (alike_self mark_two ds) refl (λ x xs e. refl)))
        (λ h e. stuck_here mark_one (d ∷ ds) (rw h refl))

-- ---- before the root

pub ahead_white : {s : State} {l : List ℕ} → Ahead s l → (c : ℕ) (cs : List ℕ) → l ≡ c ∷ cs → white c ≡ true → move s c ≡ Some (on ahead)
ahead_white past_start c cs is blank = rw blank refl
ahead_white (undeclared {s = s} alike no_end none) c cs is blank = let at : move s c ≡ move (on opening) c = subst (Alike s (on opening)) is alike in at ∙ rw blank refl

-- behind a `<` there
pub record AtAngle (s : State) (cs : List ℕ) : Type 0 where
  pub ground : Ground
  pub one : move s 60 ≡ Some (angle ground)
  pub none : NotDeclared ground (60 ∷ cs)
  pub settles : settled ground ≡ ahead
  pub names : (c : ℕ) → tag_move ground c ≡ cond (name_first c) (Some (naming 0)) None

pub ahead_angle : {s : State} {l : List ℕ} → Ahead s l → (cs : List ℕ) → l ≡ 60 ∷ cs → AtAngle s cs
ahead_angle past_start cs is = record { ground = ahead; one = rw sixty_is_solid refl; none = λ o. absurd cc; settles = refl; names = λ c. refl }
ahead_angle (undeclared {s = s} alike no_end none) cs is =
    let at : move s 60 ≡ move (on opening) 60 = subst (Alike s (on opening)) is alike in
    record { ground = opening; one = at ∙ rw sixty_is_solid refl; none = subst (NotDeclared opening) is none; settles = refl; names = λ c. refl }

pub ahead_no_end : {s : State} {l : List ℕ} → Ahead s l → is_end s ≡ false
ahead_no_end past_start = refl
ahead_no_end (undeclared alike no_end none) = no_end

pub ahead_lost : {s : State} {l : List ℕ} → Ahead s l → (c : ℕ) (cs : List ℕ) → l ≡ c ∷ cs → white c ≡ false → eqb c 60 ≡ false → move s c ≡ None
ahead_lost past_start c cs is solid other = rw (solid, other) refl
ahead_lost (undeclared {s = s} alike no_end none) c cs is solid other = let at : move s c ≡ move (on opening) c = subst (Alike s (on opening)) is alike in at ∙ rw (solid, other) refl

-- a name behind a `<`
pub name_angle : (g : Ground) (d : ℕ) → ((c : ℕ) → name_first c ≡ true → tag_move g c ≡ Some (naming d)) → (bytes : List ℕ) → has_name bytes ≡ true → Goes (angle g) bytes (naming d) (past name_byte bytes)
name_angle g d names [] named = absurd (both_ways false refl named)
name_angle g d names (c ∷ cs) named =
    let one : move (angle g) c ≡ Some (naming d) = rw (not_first c 33 named bang, not_first c 63 named question) (names c named) in
    rw (first_is_name c named) (moves one (past_goes name_byte (naming d) (λ x k. rw k refl) cs))

pub root_names : (s : State) (cs : List ℕ) (a : AtAngle s cs) (c : ℕ) → name_first c ≡ true → tag_move a.ground c ≡ Some (naming 0)
root_names s cs a c named = a.names c ∙ ap (λ (b : Bool). cond b (Some (naming 0)) None) named

pub name_alike : (d : ℕ) (bytes : List ℕ) → Alike (naming d) (tag d) (past name_byte bytes)
name_alike d bytes = by_rest (past name_byte bytes) (past_stops name_byte bytes)
  where
    by_rest : (r : List ℕ) → ((c : ℕ) (cs : List ℕ) → r ≡ c ∷ cs → name_byte c ≡ false) → Alike (naming d) (tag d) r
    by_rest [] ends = tt
    by_rest (c ∷ cs) ends = rw (ends c cs refl) refl

abbrev some_read : List ℕ → Read (Option (List ℕ))
some_read rest = Ok (Some rest)

abbrev no_read : Read (Option (List ℕ))
no_read = Ok None

-- where `aside` finds neither, it is for the first byte
pub neither : (c : ℕ) (cs : List ℕ) → aside (c ∷ cs) ≡ Ok None → (eqb c 33 ≡ false) × (eqb c 63 ≡ false)
neither c cs is =
    elim (cases_Bool (eqb c 33)) [
      | inl h ↦ absurd (some_none _ (rw h at is))
      | inr h ↦ elim (cases_Bool (eqb c 63)) [
        | inl k ↦ absurd (some_none _ (rw (h, k) at is))
        | inr k ↦ (h, k)
      ]
    ]
  where
    some_none : (r : Read (List ℕ)) → (r >>= λ rest. some_read rest) ≡ no_read → ⊥
    some_none (Ok x) e = cc
    some_none (Err x) e = cc

-- white space, comments and instructions
pub record Behind (s : State) (a b : List ℕ) : Type 0 where
  pub state : State
  pub goes : Goes s a state b
  pub is_ahead : Ahead state b

pub aside_goes : (g : Ground) (bytes after : List ℕ) → NotDeclared g (60 ∷ bytes) → aside bytes ≡ Ok (Some after) → Goes (angle g) bytes (on (settled g)) after
aside_goes g bytes after none is = subst (Follows (angle g) bytes (apart_to g bytes)) is (aside_follows g bytes none)

pub misc_ahead : {a b : List ℕ} → Misc a b → (s : State) → Ahead s a → Behind s a b
misc_ahead nothing s h = record { state = s; goes = rests; is_ahead = h }
misc_ahead (space {c = c} {bytes = bytes} blank p) s h =
    let q = misc_ahead p (on ahead) past_start in
    record { state = q.state; goes = moves (ahead_white h c bytes refl blank) q.goes; is_ahead = q.is_ahead }
misc_ahead (note {bytes = bytes} {after = after} is p) s h =
    let a = ahead_angle h bytes refl in
    let q = misc_ahead p (on ahead) past_start in
    record { state = q.state; goes = moves a.one (goes_join (subst (λ (g : Ground). Goes (angle a.ground) bytes (on g) after) a.settles (aside_goes a.ground bytes after a.none is)) q.goes); is_ahead = q.is_ahead }

pub misc_beyond : {a b : List ℕ} → Misc a b → Goes (on beyond) a (on beyond) b
misc_beyond nothing = rests
misc_beyond (space {c = c} {bytes = bytes} blank p) = moves (rw blank refl) (misc_beyond p)
misc_beyond (note {bytes = bytes} {after = after} is p) = moves (rw sixty_is_solid refl) (goes_join (aside_goes beyond bytes after (λ o. absurd cc) is) (misc_beyond p))
