-- What completes a state is a part of a loose text.
use Rattle.std.proofs.Common.{◌≡◌, ℕ, zero, suc, Bool, true, false, cond, eqb, List, [], ◌∷◌, ◌++◌, length, drop, Option, Some, None, Ok, Err, refl, sym, ap, subst, ◌∙◌, append_assoc, inl, inr, ◌⊎◌}
use Rattle.std.specs.Prelude.{◌==◌, nat_eq, ◌||◌, ◌&&◌}
use Rattle.std.specs.List.{starts_with}
use Rattle.std.specs.Str.{bytes_eq}
use Rattle.std.specs.Cmp.Lexicographic.{bytes_decides}
use Rattle.std.proofs.lemmas.Bool.{both_ways, cases_Bool, eqb-true, and_parts, and_right}
use Rattle.std.proofs.lemmas.List.{append-nil}
use Rattle.manifest_tree.specs.declared.fault.TreeKind.TheVariants.{Syntax}
use Rattle.manifest_tree.specs.Lexis.{Read, white, allowed, name_first, name_byte, front, past, has_name, aside, comment, target, instruction, begin, past_declaration, past_white_mark, upto, expect, quote_in, quote_at, ◌>>=◌}
use Rattle.manifest_tree.specs.Grammar.{Misc, nothing, space, note}
use Rattle.manifest_tree.specs.Loose.{data_byte, value_byte, LooseAttribute, LooseAttributes, no_loose, one_loose, LooseStart, LooseEnd, LooseElement, loose_empty, loose_full, LooseContent, loose_nothing, loose_byte, loose_note, loose_child, LooseText}
use Rattle.manifest_tree.proofs.Cuts.{starts_split}
use Rattle.manifest_tree.proofs.Runs.{front-past}
use Rattle.manifest_tree.proofs.Machine.{Ground, opening, ahead, within, beyond, State, fresh, mark_one, mark_two, on, angle, bang, bang_dash, remark, remark_dash, remark_dashes, asks, tells, tells_mark, naming, tag, spaced_tag, slash, attribute_name, equals, quotes, value, end_mark, end_name, end_space, settled, out, is_opening, on_move, tag_move, angle_move, tells_move, told_move, in_tag_move, equals_move, end_move, move, Goes, rests, moves}
use Rattle.manifest_tree.proofs.Lexemes.{comment_end, instruction_end, comment_other, comment_dash_other, comment_dashes_other, comment_dashes_dash, comment_dashes_end, instruction_other, instruction_mark_other, instruction_mark_mark, instruction_mark_end, first_is_name, past_short, other_way}
use Rattle.manifest_tree.proofs.Starts.{sixty_is_solid, white_unnamed}

-- ---- what completes each state

-- the rest of so many open elements, and of the text
abbrev pub Nest : ℕ → List ℕ → Type 0
Nest zero bytes = Misc bytes []
Nest (suc d) bytes = (end : List ℕ) × (after : List ℕ) × LooseContent bytes (60 ∷ 47 ∷ end) × LooseEnd end after × Nest d after

-- the root, what may stand before it, and the rest of the text
pub record Rooted (bytes : List ℕ) : Type 0 where
  pub root : List ℕ
  pub end : List ℕ
  pub before : Misc bytes root
  pub element : LooseElement root end
  pub after : Misc end []

abbrev pub FitsOn : Ground → List ℕ → Type 0
FitsOn (within d) bytes = Nest (suc d) bytes
FitsOn beyond bytes = Misc bytes []
FitsOn ahead bytes = Rooted bytes
FitsOn opening bytes = (start : List ℕ) × (past_declaration bytes ≡ Ok start) × Rooted start

-- a part gives what completes this ground
pub record Told (g : Ground) (r : Read (List ℕ)) : Type 0 where
  pub after : List ℕ
  pub read : r ≡ Ok after
  pub fits : FitsOn g after

pub record Opens (d : ℕ) (after : List ℕ) : Type 0 where
  pub inside : List ℕ
  pub opened : past white after ≡ 62 ∷ inside
  pub nest : Nest (suc d) inside

pub record Closes (d : ℕ) (after : List ℕ) : Type 0 where
  pub rest : List ℕ
  pub closed : past white after ≡ 47 ∷ 62 ∷ rest
  pub nest : Nest d rest

-- the rest of a start tag with so many elements around it
pub record FitsTag (d : ℕ) (bytes : List ℕ) : Type 0 where
  pub after : List ℕ
  pub attributes : LooseAttributes bytes after
  pub ends : Opens d after ⊎ Closes d after

pub record FitsValue (d quote : ℕ) (bytes : List ℕ) : Type 0 where
  pub rest : List ℕ
  pub ended : past (value_byte quote) bytes ≡ quote ∷ rest
  pub tag_fits : FitsTag d rest

pub record Quoted (d : ℕ) (r : Read (ℕ × List ℕ)) : Type 0 where
  pub quote : ℕ
  pub inside : List ℕ
  pub read : r ≡ Ok (quote, inside)
  pub fits : FitsValue d quote inside

pub record Slashed (d : ℕ) (bytes : List ℕ) : Type 0 where
  pub rest : List ℕ
  pub is : bytes ≡ 62 ∷ rest
  pub nest : Nest d rest

pub record Ended (d : ℕ) (bytes : List ℕ) : Type 0 where
  pub after : List ℕ
  pub end : LooseEnd bytes after
  pub nest : Nest d after

pub record Closing (d : ℕ) (w : List ℕ) : Type 0 where
  pub after : List ℕ
  pub is : w ≡ 62 ∷ after
  pub nest : Nest d after

pub record Declared (g : Ground) (name rest : List ℕ) : Type 0 where
  pub opens : is_opening g ≡ true
  pub is_xml : bytes_eq name (120 ∷ 109 ∷ 108 ∷ []) ≡ true
  pub first : ℕ
  pub others : List ℕ
  pub rest_is : rest ≡ first ∷ others
  pub blank : white first ≡ true
  pub told : Told ahead (upto instruction_end others)

pub record Asked (g : Ground) (name rest : List ℕ) : Type 0 where
  pub no_xml : bytes_eq name (120 ∷ 109 ∷ 108 ∷ []) ≡ false
  pub told : Told (settled g) (upto instruction_end rest)

-- an instruction's name, and what follows it
abbrev pub Named : Ground → List ℕ → List ℕ → Type 0
Named g name rest = Asked g name rest ⊎ Declared g name rest

pub record Marked (r : Read (List ℕ)) : Type 0 where
  pub after : List ℕ
  pub read : r ≡ Ok after
  pub start : List ℕ
  pub begun : past_declaration after ≡ Ok start
  pub rooted : Rooted start

abbrev pub Fits : State → List ℕ → Type 0
Fits fresh bytes = LooseText bytes
Fits mark_one bytes = Marked (expect (187 ∷ 191 ∷ []) bytes)
Fits mark_two bytes = Marked (expect (191 ∷ []) bytes)
Fits (on g) bytes = FitsOn g bytes
Fits (angle g) bytes = FitsOn g (60 ∷ bytes)
Fits (bang g) bytes = Told g (expect (45 ∷ 45 ∷ []) bytes >>= upto comment_end)
Fits (bang_dash g) bytes = Told g (expect (45 ∷ []) bytes >>= upto comment_end)
Fits (remark g) bytes = Told g (upto comment_end bytes)
Fits (remark_dash g) bytes = Told g (upto comment_end (45 ∷ bytes))
Fits (remark_dashes g) bytes = Told g (upto comment_end (45 ∷ 45 ∷ bytes))
Fits (asks g []) bytes = (has_name bytes ≡ true) × Named g (front name_byte bytes) (past name_byte bytes)
Fits (asks g (x ∷ xs)) bytes = Named g ((x ∷ xs) ++ front name_byte bytes) (past name_byte bytes)
Fits (tells g) bytes = Told g (upto instruction_end bytes)
Fits (tells_mark g) bytes = Told g (upto instruction_end (63 ∷ bytes))
Fits (naming d) bytes = FitsTag d (past name_byte bytes)
Fits (tag d) bytes = FitsTag d bytes
Fits (spaced_tag d) bytes = FitsTag d (32 ∷ bytes)
Fits (slash d) bytes = Slashed d bytes
Fits (attribute_name d) bytes = Quoted d (quote_at (past name_byte bytes))
Fits (equals d) bytes = Quoted d (quote_at bytes)
Fits (quotes d) bytes = Quoted d (quote_in (past white bytes))
Fits (value d quote) bytes = FitsValue d quote bytes
Fits (end_mark d) bytes = Ended d bytes
Fits (end_name d) bytes = Closing d (past white (past name_byte bytes))
Fits (end_space d) bytes = Closing d (past white bytes)

abbrev pub FitsMaybe : Option State → List ℕ → Type 0
FitsMaybe None bytes = ⊥
FitsMaybe (Some s) bytes = Fits s bytes

fits_if : (P : Type 0) (b : Bool) (x y : Option State) (cs : List ℕ) → (b ≡ true → FitsMaybe x cs → P) → (b ≡ false → FitsMaybe y cs → P) → FitsMaybe (cond b x y) cs → P
fits_if P true x y cs p q f = p refl f
fits_if P false x y cs p q f = q refl f

told_is : (g : Ground) (r q : Read (List ℕ)) → r ≡ q → Told g q → Told g r
told_is g r q is f = record { after = f.after; read = is ∙ f.read; fits = f.fits }

-- ---- between parts

solid_first : (c : ℕ) → eqb c 60 ≡ false → (cs : List ℕ) → past_declaration (c ∷ cs) ≡ Ok (c ∷ cs)
unfolding past_declaration
solid_first c other cs = rw (other_way c 60 other) refl

white_other : (c : ℕ) → white c ≡ true → eqb c 60 ≡ false
white_other c blank =
    elim (cases_Bool (eqb c 60)) [
      | inl h ↦ absurd (both_ways (white 60) sixty_is_solid (ap white (sym (eqb-true c 60 h)) ∙ blank))
      | inr h ↦ h
    ]

space_before : (c : ℕ) (cs : List ℕ) → white c ≡ true → Rooted cs → Rooted (c ∷ cs)
space_before c cs blank f = record { root = f.root; end = f.end; before = space blank f.before; element = f.element; after = f.after }

at_less : (P : List ℕ → Type 0) (c : ℕ) (cs : List ℕ) → eqb c 60 ≡ true → P (60 ∷ cs) → P (c ∷ cs)
at_less P c cs h f = subst (λ (x : ℕ). P (x ∷ cs)) (sym (eqb-true c 60 h)) f

on_back : (g : Ground) (c : ℕ) (cs : List ℕ) → FitsMaybe (on_move g c) cs → FitsOn g (c ∷ cs)
on_back (within d) c cs =
    fits_if (Nest (suc d) (c ∷ cs)) (eqb c 60) (Some (angle (within d))) (cond (data_byte c) (Some (on (within d))) None) cs
    (λ h f. at_less (Nest (suc d)) c cs h f)
    (λ h. fits_if (Nest (suc d) (c ∷ cs)) (data_byte c) (Some (on (within d))) None cs (λ k f. (f.0, f.1, loose_byte k f.2, f.3, f.4)) (λ k f. absurd f))
on_back opening c cs =
    fits_if (FitsOn opening (c ∷ cs)) (white c) (Some (on ahead)) (cond (eqb c 60) (Some (angle opening)) None) cs
    (λ h f. (c ∷ cs, solid_first c (white_other c h) cs, space_before c cs h f))
    (λ h. fits_if (FitsOn opening (c ∷ cs)) (eqb c 60) (Some (angle opening)) None cs (λ k f. at_less (FitsOn opening) c cs k f) (λ k f. absurd f))
on_back ahead c cs =
    fits_if (Rooted (c ∷ cs)) (white c) (Some (on ahead)) (cond (eqb c 60) (Some (angle ahead)) None) cs
    (λ h f. space_before c cs h f)
    (λ h. fits_if (Rooted (c ∷ cs)) (eqb c 60) (Some (angle ahead)) None cs (λ k f. at_less Rooted c cs k f) (λ k f. absurd f))
on_back beyond c cs =
    fits_if (Misc (c ∷ cs) []) (white c) (Some (on beyond)) (cond (eqb c 60) (Some (angle beyond)) None) cs
    (λ h f. space h f)
    (λ h. fits_if (Misc (c ∷ cs) []) (eqb c 60) (Some (angle beyond)) None cs (λ k f. at_less (λ (l : List ℕ). Misc l []) c cs k f) (λ k f. absurd f))

-- ---- behind a `<`

note_back : (g : Ground) (bytes after : List ℕ) → aside bytes ≡ Ok (Some after) → past_declaration (60 ∷ bytes) ≡ Ok (60 ∷ bytes) → FitsOn (settled g) after → FitsOn g (60 ∷ bytes)
note_back (within d) bytes after is none f = (f.0, f.1, loose_note is f.2, f.3, f.4)
note_back beyond bytes after is none f = note is f
note_back ahead bytes after is none f = record { root = f.root; end = f.end; before = note is f.before; element = f.element; after = f.after }
note_back opening bytes after is none f = (60 ∷ bytes, none, record { root = f.root; end = f.end; before = note is f.before; element = f.element; after = f.after })

abbrev some_rest : List ℕ → Read (Option (List ℕ))
some_rest rest = Ok (Some rest)

other_second : (c : ℕ) (cs : List ℕ) → eqb c 63 ≡ false → past_declaration (60 ∷ c ∷ cs) ≡ Ok (60 ∷ c ∷ cs)
unfolding past_declaration
other_second c cs other = rw (other_way c 63 other) refl

remark_back : (g : Ground) (cs : List ℕ) → Told (settled g) (expect (45 ∷ 45 ∷ []) cs >>= upto comment_end) → FitsOn g (60 ∷ 33 ∷ cs)
unfolding comment
remark_back g cs f =
    let is : aside (33 ∷ cs) ≡ Ok (Some f.after) = ap (λ (r : Read (List ℕ)). r >>= some_rest) f.read in
    note_back g (33 ∷ cs) f.after is (other_second 33 cs refl) f.fits

-- no declaration begins with another name
xml_front : (c : ℕ) (l : List ℕ) → name_byte c ≡ false → front name_byte (120 ∷ 109 ∷ 108 ∷ c ∷ l) ≡ 120 ∷ 109 ∷ 108 ∷ []
unfolding name_byte name_first
xml_front c l other = rw other refl

undeclared_rest : (cs l : List ℕ) → bytes_eq (front name_byte cs) (120 ∷ 109 ∷ 108 ∷ []) ≡ false → cs ≡ 120 ∷ 109 ∷ 108 ∷ l → past_white_mark (60 ∷ 63 ∷ cs) l ≡ Ok (60 ∷ 63 ∷ cs)
undeclared_rest cs [] no_xml is = refl
undeclared_rest cs (c ∷ l) no_xml is =
    elim (cases_Bool (white c)) [
      | inl k ↦
          let name_is : front name_byte cs ≡ 120 ∷ 109 ∷ 108 ∷ [] = ap (front name_byte) is ∙ xml_front c l (white_unnamed c k) in
          absurd (both_ways _ no_xml (ap (λ (n : List ℕ). bytes_eq n (120 ∷ 109 ∷ 108 ∷ [])) name_is))
      | inr k ↦ rw k refl
    ]

undeclared_at : (cs : List ℕ) → bytes_eq (front name_byte cs) (120 ∷ 109 ∷ 108 ∷ []) ≡ false → past_declaration (60 ∷ 63 ∷ cs) ≡ Ok (60 ∷ 63 ∷ cs)
unfolding past_declaration
undeclared_at cs no_xml =
    elim (cases_Bool (starts_with nat_eq (60 ∷ 63 ∷ cs) (60 ∷ 63 ∷ 120 ∷ 109 ∷ 108 ∷ []))) [
      | inl h ↦ rw h (undeclared_rest cs (drop 5 (60 ∷ 63 ∷ cs)) no_xml (ap (drop 2) (starts_split (60 ∷ 63 ∷ cs) (60 ∷ 63 ∷ 120 ∷ 109 ∷ 108 ∷ []) h)))
      | inr h ↦ rw h refl
    ]

instruction_read : (cs after : List ℕ) → has_name cs ≡ true → bytes_eq (front name_byte cs) (120 ∷ 109 ∷ 108 ∷ []) ≡ false → upto instruction_end (past name_byte cs) ≡ Ok after → aside (63 ∷ cs) ≡ Ok (Some after)
unfolding instruction target
instruction_read cs after named no_xml read = rw (named, no_xml, read) refl

xml_declared : (c : ℕ) (l after : List ℕ) → white c ≡ true → upto instruction_end l ≡ Ok after → past_declaration (60 ∷ 63 ∷ 120 ∷ 109 ∷ 108 ∷ c ∷ l) ≡ Ok after
unfolding past_declaration
xml_declared c l after blank read = rw blank read

declared_back : (g : Ground) (cs : List ℕ) → Declared g (front name_byte cs) (past name_byte cs) → FitsOn g (60 ∷ 63 ∷ cs)
declared_back opening cs f =
    let name_is : front name_byte cs ≡ 120 ∷ 109 ∷ 108 ∷ [] = (bytes_decides (front name_byte cs) (120 ∷ 109 ∷ 108 ∷ [])).0 f.is_xml in
    let cs_is : cs ≡ 120 ∷ 109 ∷ 108 ∷ f.first ∷ f.others =
    sym (front-past name_byte cs) ∙ ap (λ (l : List ℕ). l ++ past name_byte cs) name_is ∙ ap (λ (l : List ℕ). 120 ∷ 109 ∷ 108 ∷ l) f.rest_is in
    subst (λ (l : List ℕ). FitsOn opening (60 ∷ 63 ∷ l)) (sym cs_is) (f.told.after, xml_declared f.first f.others f.told.after f.blank f.told.read, f.told.fits)
declared_back ahead cs f = absurd (both_ways false refl f.opens)
declared_back (within d) cs f = absurd (both_ways false refl f.opens)
declared_back beyond cs f = absurd (both_ways false refl f.opens)

asked_back : (g : Ground) (cs : List ℕ) → (has_name cs ≡ true) × Named g (front name_byte cs) (past name_byte cs) → FitsOn g (60 ∷ 63 ∷ cs)
asked_back g cs f =
    elim f.1 [
      | inl x ↦ note_back g (63 ∷ cs) x.told.after (instruction_read cs x.told.after f.0 x.no_xml x.told.read) (undeclared_at cs x.no_xml) x.told.fits
      | inr x ↦ declared_back g cs x
    ]

-- ---- elements

pub record Elements (d : ℕ) (bytes : List ℕ) : Type 0 where
  pub after : List ℕ
  pub element : LooseElement bytes after
  pub nest : Nest d after

element_back : (d : ℕ) (bytes : List ℕ) → has_name bytes ≡ true → FitsTag d (past name_byte bytes) → Elements d (60 ∷ bytes)
element_back d bytes named f =
    let begun : LooseStart bytes f.after = record { named = named; attributes = f.attributes } in
    elim f.ends [
      | inl x ↦ record { after = x.nest.1; element = loose_full begun x.opened x.nest.2 x.nest.3; nest = x.nest.4 }
      | inr x ↦ record { after = x.rest; element = loose_empty begun x.closed; nest = x.nest }
    ]

root_back : (bytes : List ℕ) → has_name bytes ≡ true → FitsTag 0 (past name_byte bytes) → Rooted (60 ∷ bytes)
root_back bytes named f =
    let e = element_back 0 bytes named f in
    record { root = 60 ∷ bytes; end = e.after; before = nothing; element = e.element; after = e.nest }

child_back : (d : ℕ) (bytes : List ℕ) → has_name bytes ≡ true → FitsTag (suc d) (past name_byte bytes) → Nest (suc d) (60 ∷ bytes)
child_back d bytes named f =
    let e = element_back (suc d) bytes named f in
    (e.nest.0, e.nest.1, loose_child e.element e.nest.2, e.nest.3, e.nest.4)

past_first : (c : ℕ) (cs : List ℕ) → name_first c ≡ true → past name_byte (c ∷ cs) ≡ past name_byte cs
past_first c cs named = rw (first_is_name c named) refl

tag_fits_first : (d c : ℕ) (cs : List ℕ) → name_first c ≡ true → FitsTag d (past name_byte cs) → FitsTag d (past name_byte (c ∷ cs))
tag_fits_first d c cs named f = subst (FitsTag d) (sym (past_first c cs named)) f

tag_back : (g : Ground) (c : ℕ) (cs : List ℕ) → eqb c 63 ≡ false → FitsMaybe (tag_move g c) cs → FitsOn g (60 ∷ c ∷ cs)
tag_back opening c cs other =
    fits_if (FitsOn opening (60 ∷ c ∷ cs)) (name_first c) (Some (naming 0)) None cs
    (λ h f. (60 ∷ c ∷ cs, other_second c cs other, root_back (c ∷ cs) h (tag_fits_first 0 c cs h f))) (λ h f. absurd f)
tag_back ahead c cs other =
    fits_if (Rooted (60 ∷ c ∷ cs)) (name_first c) (Some (naming 0)) None cs (λ h f. root_back (c ∷ cs) h (tag_fits_first 0 c cs h f)) (λ h f. absurd f)
tag_back (within d) c cs other =
    fits_if (Nest (suc d) (60 ∷ c ∷ cs)) (eqb c 47) (Some (end_mark d)) (cond (name_first c) (Some (naming (suc d))) None) cs
    (λ h f. subst (λ (x : ℕ). Nest (suc d) (60 ∷ x ∷ cs)) (sym (eqb-true c 47 h)) (cs, f.after, loose_nothing, f.end, f.nest))
    (λ h. fits_if (Nest (suc d) (60 ∷ c ∷ cs)) (name_first c) (Some (naming (suc d))) None cs (λ k f. child_back d (c ∷ cs) k (tag_fits_first (suc d) c cs k f)) (λ k f. absurd f))
tag_back beyond c cs other = λ f. absurd f

angle_back : (g : Ground) (c : ℕ) (cs : List ℕ) → FitsMaybe (angle_move g c) cs → FitsOn g (60 ∷ c ∷ cs)
angle_back g c cs =
    fits_if (FitsOn g (60 ∷ c ∷ cs)) (eqb c 33) (Some (bang (settled g))) (cond (eqb c 63) (Some (asks g [])) (tag_move g c)) cs
    (λ h f. subst (λ (x : ℕ). FitsOn g (60 ∷ x ∷ cs)) (sym (eqb-true c 33 h)) (remark_back g cs f))
    (λ h. fits_if (FitsOn g (60 ∷ c ∷ cs)) (eqb c 63) (Some (asks g [])) (tag_move g c) cs
    (λ k f. subst (λ (x : ℕ). FitsOn g (60 ∷ x ∷ cs)) (sym (eqb-true c 63 k)) (asked_back g cs f)) (λ k f. tag_back g c cs k f))

-- ---- comments and instructions

body_read : (mark : List ℕ) (c : ℕ) (cs after : List ℕ) → allowed c ≡ true → upto mark cs ≡ Ok after → cond (allowed c) (upto mark cs) (Err (Syntax, length (c ∷ cs))) ≡ Ok after
body_read mark c cs after held read = rw held read

body_told : (g : Ground) (mark : List ℕ) (c : ℕ) (cs : List ℕ) (r : Read (List ℕ)) → r ≡ cond (allowed c) (upto mark cs) (Err (Syntax, length (c ∷ cs))) → allowed c ≡ true → Told g (upto mark cs) → Told g r
body_told g mark c cs r is held f = record { after = f.after; read = is ∙ body_read mark c cs f.after held f.read; fits = f.fits }

remark_move_back : (g : Ground) (c : ℕ) (cs : List ℕ) → FitsMaybe (move (remark g) c) cs → Told g (upto comment_end (c ∷ cs))
remark_move_back g c cs =
    fits_if (Told g (upto comment_end (c ∷ cs))) (eqb c 45) (Some (remark_dash g)) (cond (allowed c) (Some (remark g)) None) cs
    (λ h f. subst (λ (x : ℕ). Told g (upto comment_end (x ∷ cs))) (sym (eqb-true c 45 h)) f)
    (λ h. fits_if (Told g (upto comment_end (c ∷ cs))) (allowed c) (Some (remark g)) None cs (λ k f. body_told g comment_end c cs (upto comment_end (c ∷ cs)) (comment_other c cs h) k f) (λ k f. absurd f))

dash_move_back : (g : Ground) (c : ℕ) (cs : List ℕ) → FitsMaybe (move (remark_dash g) c) cs → Told g (upto comment_end (45 ∷ c ∷ cs))
dash_move_back g c cs =
    fits_if (Told g (upto comment_end (45 ∷ c ∷ cs))) (eqb c 45) (Some (remark_dashes g)) (cond (allowed c) (Some (remark g)) None) cs
    (λ h f. subst (λ (x : ℕ). Told g (upto comment_end (45 ∷ x ∷ cs))) (sym (eqb-true c 45 h)) f)
    (λ h. fits_if (Told g (upto comment_end (45 ∷ c ∷ cs))) (allowed c) (Some (remark g)) None cs (λ k f. body_told g comment_end c cs (upto comment_end (45 ∷ c ∷ cs)) (comment_dash_other c cs h) k f) (λ k f. absurd f))

dashes_move_back : (g : Ground) (c : ℕ) (cs : List ℕ) → FitsMaybe (move (remark_dashes g) c) cs → Told g (upto comment_end (45 ∷ 45 ∷ c ∷ cs))
dashes_move_back g c cs =
    fits_if (Told g (upto comment_end (45 ∷ 45 ∷ c ∷ cs))) (eqb c 62) (Some (on g)) (cond (eqb c 45) (Some (remark_dashes g)) (cond (allowed c) (Some (remark g)) None)) cs
    (λ h f. subst (λ (x : ℕ). Told g (upto comment_end (45 ∷ 45 ∷ x ∷ cs))) (sym (eqb-true c 62 h)) (record { after = cs; read = comment_dashes_end cs; fits = f }))
    (λ h. fits_if (Told g (upto comment_end (45 ∷ 45 ∷ c ∷ cs))) (eqb c 45) (Some (remark_dashes g)) (cond (allowed c) (Some (remark g)) None) cs
    (λ k f. subst (λ (x : ℕ). Told g (upto comment_end (45 ∷ 45 ∷ x ∷ cs))) (sym (eqb-true c 45 k)) (told_is g (upto comment_end (45 ∷ 45 ∷ 45 ∷ cs)) (upto comment_end (45 ∷ 45 ∷ cs)) (comment_dashes_dash cs) f))
    (λ k. fits_if (Told g (upto comment_end (45 ∷ 45 ∷ c ∷ cs))) (allowed c) (Some (remark g)) None cs (λ m f. body_told g comment_end c cs (upto comment_end (45 ∷ 45 ∷ c ∷ cs)) (comment_dashes_other c cs k h) m f) (λ m f. absurd f)))

tells_back : (g : Ground) (c : ℕ) (cs : List ℕ) → FitsMaybe (tells_move g c) cs → Told g (upto instruction_end (c ∷ cs))
tells_back g c cs =
    fits_if (Told g (upto instruction_end (c ∷ cs))) (eqb c 63) (Some (tells_mark g)) (cond (allowed c) (Some (tells g)) None) cs
    (λ h f. subst (λ (x : ℕ). Told g (upto instruction_end (x ∷ cs))) (sym (eqb-true c 63 h)) f)
    (λ h. fits_if (Told g (upto instruction_end (c ∷ cs))) (allowed c) (Some (tells g)) None cs (λ k f. body_told g instruction_end c cs (upto instruction_end (c ∷ cs)) (instruction_other c cs h) k f) (λ k f. absurd f))

mark_move_back : (g : Ground) (c : ℕ) (cs : List ℕ) → FitsMaybe (move (tells_mark g) c) cs → Told g (upto instruction_end (63 ∷ c ∷ cs))
mark_move_back g c cs =
    fits_if (Told g (upto instruction_end (63 ∷ c ∷ cs))) (eqb c 62) (Some (on g)) (cond (eqb c 63) (Some (tells_mark g)) (cond (allowed c) (Some (tells g)) None)) cs
    (λ h f. subst (λ (x : ℕ). Told g (upto instruction_end (63 ∷ x ∷ cs))) (sym (eqb-true c 62 h)) (record { after = cs; read = instruction_mark_end cs; fits = f }))
    (λ h. fits_if (Told g (upto instruction_end (63 ∷ c ∷ cs))) (eqb c 63) (Some (tells_mark g)) (cond (allowed c) (Some (tells g)) None) cs
    (λ k f. subst (λ (x : ℕ). Told g (upto instruction_end (63 ∷ x ∷ cs))) (sym (eqb-true c 63 k)) (told_is g (upto instruction_end (63 ∷ 63 ∷ cs)) (upto instruction_end (63 ∷ cs)) (instruction_mark_mark cs) f))
    (λ k. fits_if (Told g (upto instruction_end (63 ∷ c ∷ cs))) (allowed c) (Some (tells g)) None cs (λ m f. body_told g instruction_end c cs (upto instruction_end (63 ∷ c ∷ cs)) (instruction_mark_other c cs k h) m f) (λ m f. absurd f)))

bang_back : (g : Ground) (c : ℕ) (cs : List ℕ) → FitsMaybe (move (bang g) c) cs → Told g (expect (45 ∷ 45 ∷ []) (c ∷ cs) >>= upto comment_end)
bang_back g c cs =
    fits_if (Told g (expect (45 ∷ 45 ∷ []) (c ∷ cs) >>= upto comment_end)) (eqb c 45) (Some (bang_dash g)) None cs
    (λ h f. rw h f) (λ h f. absurd f)

bang_dash_back : (g : Ground) (c : ℕ) (cs : List ℕ) → FitsMaybe (move (bang_dash g) c) cs → Told g (expect (45 ∷ []) (c ∷ cs) >>= upto comment_end)
bang_dash_back g c cs =
    fits_if (Told g (expect (45 ∷ []) (c ∷ cs) >>= upto comment_end)) (eqb c 45) (Some (remark g)) None cs
    (λ h f. rw h f) (λ h f. absurd f)

first_asked : (g : Ground) (c : ℕ) (cs : List ℕ) → FitsMaybe (move (asks g []) c) cs → (name_first c ≡ true) × Named g (front name_byte (c ∷ cs)) (past name_byte (c ∷ cs))
first_asked g c cs =
    fits_if ((name_first c ≡ true) × Named g (front name_byte (c ∷ cs)) (past name_byte (c ∷ cs))) (name_first c) (Some (asks g (c ∷ []))) None cs
    (λ h f. (h, rw (first_is_name c h) f)) (λ h f. absurd f)

and_split : (x y : Bool) → (x && y) ≡ true → (x ≡ true) × (y ≡ true)
and_split x y h = and_parts x y h

next_asked : (g : Ground) (x : ℕ) (xs : List ℕ) (c : ℕ) (cs : List ℕ) → FitsMaybe (move (asks g (x ∷ xs)) c) cs → Named g ((x ∷ xs) ++ front name_byte (c ∷ cs)) (past name_byte (c ∷ cs))
next_asked g x xs c cs =
    fits_if (Named g ((x ∷ xs) ++ front name_byte (c ∷ cs)) (past name_byte (c ∷ cs))) (name_byte c) (Some (asks g ((x ∷ xs) ++ c ∷ []))) (told_move g (x ∷ xs) c) cs
    (λ h f. rw h (subst (λ (n : List ℕ). Named g n (past name_byte cs)) (append_assoc (x ∷ xs) (c ∷ []) (front name_byte cs)) f))
    (λ h f. rw h (subst (λ (n : List ℕ). Named g n (c ∷ cs)) (sym (append-nil (x ∷ xs))) (name_ends f)))
  where
    name_ends : FitsMaybe (told_move g (x ∷ xs) c) cs → Named g (x ∷ xs) (c ∷ cs)
    name_ends =
        fits_if (Named g (x ∷ xs) (c ∷ cs)) (bytes_eq (x ∷ xs) (120 ∷ 109 ∷ 108 ∷ [])) (cond (is_opening g && white c) (Some (tells ahead)) None) (tells_move (settled g) c) cs
        (λ is. fits_if (Named g (x ∷ xs) (c ∷ cs)) (is_opening g && white c) (Some (tells ahead)) None cs
        (λ both f. let p = and_split (is_opening g) (white c) both in inr (record { opens = p.0; is_xml = is; first = c; others = cs; rest_is = refl; blank = p.1; told = f })) (λ both f. absurd f))
        (λ is f. inl (record { no_xml = is; told = tells_back (settled g) c cs f }))

-- ---- tags

out_back : (d : ℕ) (bytes : List ℕ) → FitsOn (out d) bytes → Nest d bytes
out_back zero bytes f = f
out_back (suc d) bytes f = f

ends_swap : (d : ℕ) (a b : List ℕ) → past white a ≡ past white b → Opens d a ⊎ Closes d a → Opens d b ⊎ Closes d b
ends_swap d a b same ends =
    elim ends [
      | inl x ↦ inl (record { inside = x.inside; opened = sym same ∙ x.opened; nest = x.nest })
      | inr x ↦ inr (record { rest = x.rest; closed = sym same ∙ x.closed; nest = x.nest })
    ]

attribute_swap : (a b rest : List ℕ) → past white a ≡ past white b → (length (past white b) == length b) ≡ false → LooseAttribute a rest → LooseAttribute b rest
attribute_swap a b rest same spaced x =
    record {
      spaced = spaced;
      named = subst (λ (w : List ℕ). has_name w ≡ true) same x.named;
      quote = x.quote;
      inside = x.inside;
      opened = subst (λ (w : List ℕ). quote_at (past name_byte w) ≡ Ok (x.quote, x.inside)) same x.opened;
      ended = x.ended;
    }

-- other white space before the rest of a tag
tag_swap : (d : ℕ) {a after : List ℕ} (b : List ℕ) → LooseAttributes a after → Opens d after ⊎ Closes d after → past white a ≡ past white b → (length (past white b) == length b) ≡ false → FitsTag d b
tag_swap d {a} b no_loose ends same spaced = record { after = b; attributes = no_loose; ends = ends_swap d a b same ends }
tag_swap d {a} {after = last} b (one_loose {after = middle} x more) ends same spaced = record { after = last; attributes = one_loose (attribute_swap a b middle same spaced x) more; ends = ends }

white_32 : white 32 ≡ true
unfolding white
white_32 = refl

past_blank : (c : ℕ) (cs : List ℕ) → white c ≡ true → past white (c ∷ cs) ≡ past white cs
past_blank c cs blank = rw blank refl

past_32 : (cs : List ℕ) → past white (32 ∷ cs) ≡ past white cs
past_32 cs = past_blank 32 cs white_32

-- the bytes with white space before them, where some was seen
abbrev spaced_out : Bool → List ℕ → List ℕ
spaced_out true bytes = 32 ∷ bytes
spaced_out false bytes = bytes

past_spaced : (spaced : Bool) (bytes : List ℕ) → past white (spaced_out spaced bytes) ≡ past white bytes
past_spaced true bytes = past_32 bytes
past_spaced false bytes = refl

solid_rest : (c : ℕ) (cs : List ℕ) → white c ≡ false → past white (c ∷ cs) ≡ c ∷ cs
solid_rest c cs solid = rw solid refl

space_back : (d : ℕ) (spaced : Bool) (c : ℕ) (cs : List ℕ) → white c ≡ true → FitsTag d (32 ∷ cs) → FitsTag d (spaced_out spaced (c ∷ cs))
space_back d spaced c cs blank f =
    tag_swap d (spaced_out spaced (c ∷ cs)) f.attributes f.ends (past_32 cs ∙ sym (past_spaced spaced (c ∷ cs) ∙ past_blank c cs blank)) (short spaced)
  where
    short : (b : Bool) → (length (past white (spaced_out b (c ∷ cs))) == length (spaced_out b (c ∷ cs))) ≡ false
    short true = past_short white 32 (c ∷ cs) white_32
    short false = past_short white c cs blank

attribute_back : (d c : ℕ) (cs : List ℕ) → white c ≡ false → name_first c ≡ true → Quoted d (quote_at (past name_byte cs)) → FitsTag d (32 ∷ c ∷ cs)
attribute_back d c cs solid named f =
    let w_is : past white (32 ∷ c ∷ cs) ≡ c ∷ cs = past_32 (c ∷ cs) ∙ solid_rest c cs solid in
    let x : LooseAttribute (32 ∷ c ∷ cs) f.fits.rest = record {
      spaced = past_short white 32 (c ∷ cs) white_32;
      named = subst (λ (w : List ℕ). has_name w ≡ true) (sym w_is) named;
      quote = f.quote;
      inside = f.inside;
      opened = subst (λ (w : List ℕ). quote_at (past name_byte w) ≡ Ok (f.quote, f.inside)) (sym w_is) (subst (λ (w : List ℕ). quote_at w ≡ Ok (f.quote, f.inside)) (sym (past_first c cs named)) f.read);
      ended = f.fits.ended;
    } in
    let t = f.fits.tag_fits in
    record { after = t.after; attributes = one_loose x t.attributes; ends = t.ends }

in_tag_back : (d : ℕ) (spaced : Bool) (c : ℕ) (cs : List ℕ) → FitsMaybe (in_tag_move spaced d c) cs → FitsTag d (spaced_out spaced (c ∷ cs))
in_tag_back d spaced c cs =
    let P = FitsTag d (spaced_out spaced (c ∷ cs)) in
    let by_name = cond (spaced && name_first c) (Some (attribute_name d)) None in
    fits_if P (white c) (Some (spaced_tag d)) (cond (eqb c 62) (Some (on (within d))) (cond (eqb c 47) (Some (slash d)) by_name)) cs
    (λ h f. space_back d spaced c cs h f)
    (λ h. fits_if P (eqb c 62) (Some (on (within d))) (cond (eqb c 47) (Some (slash d)) by_name) cs
    (λ k f. record { after = spaced_out spaced (c ∷ cs); attributes = no_loose; ends = inl (record { inside = cs; opened = past_spaced spaced (c ∷ cs) ∙ solid_rest c cs h ∙ ap (λ (x : ℕ). x ∷ cs) (eqb-true c 62 k); nest = f }) })
    (λ k. fits_if P (eqb c 47) (Some (slash d)) by_name cs
    (λ m f. record { after = spaced_out spaced (c ∷ cs); attributes = no_loose; ends = inr (record { rest = f.rest; closed = past_spaced spaced (c ∷ cs) ∙ solid_rest c cs h ∙ ap (λ (x : ℕ). x ∷ cs) (eqb-true c 47 m) ∙ ap (λ (l : List ℕ). 47 ∷ l) f.is; nest = f.nest }) })
    (λ m. by_space spaced h)))
  where
    by_space : (b : Bool) → white c ≡ false → FitsMaybe (cond (b && name_first c) (Some (attribute_name d)) None) cs → FitsTag d (spaced_out b (c ∷ cs))
    by_space true solid = fits_if (FitsTag d (32 ∷ c ∷ cs)) (name_first c) (Some (attribute_name d)) None cs (λ n f. attribute_back d c cs solid n f) (λ n f. absurd f)
    by_space false solid = λ f. absurd f

naming_back : (d c : ℕ) (cs : List ℕ) → FitsMaybe (move (naming d) c) cs → FitsTag d (past name_byte (c ∷ cs))
naming_back d c cs =
    fits_if (FitsTag d (past name_byte (c ∷ cs))) (name_byte c) (Some (naming d)) (in_tag_move false d c) cs (λ h f. rw h f) (λ h f. rw h (in_tag_back d false c cs f))

-- ---- attributes

equals_back : (d c : ℕ) (cs : List ℕ) → FitsMaybe (equals_move d c) cs → Quoted d (quote_at (c ∷ cs))
unfolding quote_at
equals_back d c cs =
    fits_if (Quoted d (quote_at (c ∷ cs))) (white c) (Some (equals d)) (cond (eqb c 61) (Some (quotes d)) None) cs
    (λ h f. rw h f) (λ h. fits_if (Quoted d (quote_at (c ∷ cs))) (eqb c 61) (Some (quotes d)) None cs (λ k f. rw (h, k) f) (λ k f. absurd f))

attribute_name_back : (d c : ℕ) (cs : List ℕ) → FitsMaybe (move (attribute_name d) c) cs → Quoted d (quote_at (past name_byte (c ∷ cs)))
attribute_name_back d c cs =
    fits_if (Quoted d (quote_at (past name_byte (c ∷ cs)))) (name_byte c) (Some (attribute_name d)) (equals_move d c) cs (λ h f. rw h f) (λ h f. rw h (equals_back d c cs f))

quotes_back : (d c : ℕ) (cs : List ℕ) → FitsMaybe (move (quotes d) c) cs → Quoted d (quote_in (past white (c ∷ cs)))
quotes_back d c cs =
    fits_if (Quoted d (quote_in (past white (c ∷ cs)))) (white c) (Some (quotes d)) (cond (eqb c 34 || eqb c 39) (Some (value d c)) None) cs
    (λ h f. rw h f)
    (λ h. fits_if (Quoted d (quote_in (past white (c ∷ cs)))) (eqb c 34 || eqb c 39) (Some (value d c)) None cs
    (λ k f. rw h (record { quote = c; inside = cs; read = rw k refl; fits = f })) (λ k f. absurd f))

quote_ends : (quote c : ℕ) → eqb c quote ≡ true → value_byte quote c ≡ false
unfolding value_byte
quote_ends quote c h = rw h (and_right (data_byte c) false refl)

value_back : (d quote c : ℕ) (cs : List ℕ) → FitsMaybe (move (value d quote) c) cs → FitsValue d quote (c ∷ cs)
value_back d quote c cs =
    fits_if (FitsValue d quote (c ∷ cs)) (eqb c quote) (Some (tag d)) (cond (value_byte quote c) (Some (value d quote)) None) cs
    (λ h f. record { rest = cs; ended = at_quote h; tag_fits = f })
    (λ h. fits_if (FitsValue d quote (c ∷ cs)) (value_byte quote c) (Some (value d quote)) None cs (λ k f. record { rest = f.rest; ended = rw k f.ended; tag_fits = f.tag_fits }) (λ k f. absurd f))
  where
    at_quote : eqb c quote ≡ true → past (value_byte quote) (c ∷ cs) ≡ quote ∷ cs
    at_quote h = rw (quote_ends quote c h) (ap (λ (x : ℕ). x ∷ cs) (eqb-true c quote h))

-- ---- end tags

end_back : (d c : ℕ) (cs : List ℕ) → FitsMaybe (end_move d c) cs → Closing d (past white (c ∷ cs))
end_back d c cs =
    fits_if (Closing d (past white (c ∷ cs))) (white c) (Some (end_space d)) (cond (eqb c 62) (Some (on (out d))) None) cs
    (λ h f. rw h f)
    (λ h. fits_if (Closing d (past white (c ∷ cs))) (eqb c 62) (Some (on (out d))) None cs
    (λ k f. rw h (record { after = cs; is = ap (λ (x : ℕ). x ∷ cs) (eqb-true c 62 k); nest = out_back d cs f })) (λ k f. absurd f))

end_name_back : (d c : ℕ) (cs : List ℕ) → FitsMaybe (move (end_name d) c) cs → Closing d (past white (past name_byte (c ∷ cs)))
end_name_back d c cs =
    fits_if (Closing d (past white (past name_byte (c ∷ cs)))) (name_byte c) (Some (end_name d)) (end_move d c) cs (λ h f. rw h f) (λ h f. rw h (end_back d c cs f))

end_mark_back : (d c : ℕ) (cs : List ℕ) → FitsMaybe (move (end_mark d) c) cs → Ended d (c ∷ cs)
end_mark_back d c cs =
    fits_if (Ended d (c ∷ cs)) (name_first c) (Some (end_name d)) None cs
    (λ h f. record { after = f.after; end = record { named = h; ended = subst (λ (l : List ℕ). past white l ≡ 62 ∷ f.after) (sym (past_first c cs h)) f.is }; nest = f.nest }) (λ h f. absurd f)

slash_back : (d c : ℕ) (cs : List ℕ) → FitsMaybe (move (slash d) c) cs → Slashed d (c ∷ cs)
slash_back d c cs =
    fits_if (Slashed d (c ∷ cs)) (eqb c 62) (Some (on (out d))) None cs
    (λ h f. record { rest = cs; is = ap (λ (x : ℕ). x ∷ cs) (eqb-true c 62 h); nest = out_back d cs f }) (λ h f. absurd f)

-- ---- the start

begun_back : (c : ℕ) (cs start : List ℕ) → begin (c ∷ cs) ≡ Ok start → Rooted start → LooseText (c ∷ cs)
begun_back c cs start is f = record { start = start; begun = is; root = f.root; before = f.before; end = f.end; element = f.element; after = f.after }

marked_begin : (c : ℕ) (cs after start : List ℕ) → eqb c 239 ≡ true → expect (187 ∷ 191 ∷ []) cs ≡ Ok after → past_declaration after ≡ Ok start → begin (c ∷ cs) ≡ Ok start
unfolding begin
marked_begin c cs after start h read begun = rw (h, read) begun

bare_begin : (c : ℕ) (cs start : List ℕ) → eqb c 239 ≡ false → past_declaration (c ∷ cs) ≡ Ok start → begin (c ∷ cs) ≡ Ok start
unfolding begin
bare_begin c cs start h begun = rw h begun

fresh_back : (c : ℕ) (cs : List ℕ) → FitsMaybe (move fresh c) cs → LooseText (c ∷ cs)
fresh_back c cs =
    fits_if (LooseText (c ∷ cs)) (eqb c 239) (Some mark_one) (on_move opening c) cs
    (λ h f. begun_back c cs f.start (marked_begin c cs f.after f.start h f.read f.begun) f.rooted)
    (λ h f. let g = on_back opening c cs f in begun_back c cs g.0 (bare_begin c cs g.0 h g.1) g.2)

mark_one_back : (c : ℕ) (cs : List ℕ) → FitsMaybe (move mark_one c) cs → Marked (expect (187 ∷ 191 ∷ []) (c ∷ cs))
mark_one_back c cs = fits_if (Marked (expect (187 ∷ 191 ∷ []) (c ∷ cs))) (eqb c 187) (Some mark_two) None cs (λ h f. rw h f) (λ h f. absurd f)

mark_two_back : (c : ℕ) (cs : List ℕ) → FitsMaybe (move mark_two c) cs → Marked (expect (191 ∷ []) (c ∷ cs))
mark_two_back c cs =
    fits_if (Marked (expect (191 ∷ []) (c ∷ cs))) (eqb c 191) (Some (on opening)) None cs
    (λ h f. rw h (record { after = cs; read = refl; start = f.0; begun = f.1; rooted = f.2 })) (λ h f. absurd f)

-- ---- all moves

back : (s : State) (c : ℕ) (cs : List ℕ) → FitsMaybe (move s c) cs → Fits s (c ∷ cs)
back fresh c cs f = fresh_back c cs f
back mark_one c cs f = mark_one_back c cs f
back mark_two c cs f = mark_two_back c cs f
back (on g) c cs f = on_back g c cs f
back (angle g) c cs f = angle_back g c cs f
back (bang g) c cs f = bang_back g c cs f
back (bang_dash g) c cs f = bang_dash_back g c cs f
back (remark g) c cs f = remark_move_back g c cs f
back (remark_dash g) c cs f = dash_move_back g c cs f
back (remark_dashes g) c cs f = dashes_move_back g c cs f
back (asks g []) c cs f = first_asked g c cs f
back (asks g (x ∷ xs)) c cs f = next_asked g x xs c cs f
back (tells g) c cs f = tells_back g c cs f
back (tells_mark g) c cs f = mark_move_back g c cs f
back (naming d) c cs f = naming_back d c cs f
back (tag d) c cs f = in_tag_back d false c cs f
back (spaced_tag d) c cs f = in_tag_back d true c cs f
back (slash d) c cs f = slash_back d c cs f
back (attribute_name d) c cs f = attribute_name_back d c cs f
back (equals d) c cs f = equals_back d c cs f
back (quotes d) c cs f = quotes_back d c cs f
back (value d quote) c cs f = value_back d quote c cs f
back (end_mark d) c cs f = end_mark_back d c cs f
back (end_name d) c cs f = end_name_back d c cs f
back (end_space d) c cs f = end_back d c cs f

completed : {s t : State} {a b : List ℕ} → Goes s a t b → t ≡ on beyond → b ≡ [] → Fits s a
completed {t = t} {b = b} rests t_is b_is = subst (λ (x : State). Fits x b) (sym t_is) (subst (λ (l : List ℕ). Misc l []) (sym b_is) nothing)
completed {s = s} (moves {t = u} {c = c} {bytes = bytes} e p) t_is b_is = back s c bytes (subst (λ (o : Option State). FitsMaybe o bytes) (sym e) (completed p t_is b_is))

-- what is read to an end is a loose text
pub goes_text : (bytes : List ℕ) → Goes fresh bytes (on beyond) [] → LooseText bytes
goes_text bytes p = completed p refl refl
