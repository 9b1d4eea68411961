-- Reading gets to where each fault stands, and stops there.
use Rattle.std.proofs.Common.{◌≡◌, ℕ, zero, suc, ◌≤◌, true, false, List, [], ◌∷◌, length, Option, None, Ok, Err, refl, ap, ◌∙◌, arith, inl, inr}
use Rattle.std.specs.Prelude.{◌==◌}
use Rattle.std.specs.Str.{bytes_eq}
use Rattle.std.proofs.lemmas.Bool.{both_ways, cases_Bool, le-ltb}
use Rattle.manifest_tree.specs.declared.fault.TreeKind.{TreeKind}
use Rattle.manifest_tree.specs.declared.fault.TreeKind.TheVariants.{Syntax, Entity, TagMismatch, AttributeTwice, TooDeep}
use Rattle.manifest_tree.specs.declared.node.Attribute.{Attribute}
use Rattle.manifest_tree.specs.Lexis.{Read, white, name_byte, past, has_name, name_at, is_among, reference_at, TagTurn, attribute, tag_turn, turn_at, attribute_at, end_at}
use Rattle.manifest_tree.specs.Refusals.{Stands, outside, within, InTag, InValue, IsFault, entity, entity_in_value, mismatch, twice, deep}
use Rattle.manifest_tree.specs.Spots.{Spot, start, before, inside, in_tag, in_value, stop, onward, OpenTree, opened, names_of, next, apart_step, inside_step, turned, value_step, Reads, Stops}
use Rattle.manifest_tree.proofs.Steps.{reads_join, goes_on, begun_goes, stops_then}
use Rattle.manifest_tree.proofs.Machine.{State, fresh, tag, spaced_tag, Goes, moves, goes_join}
use Rattle.manifest_tree.proofs.Lexemes.{Alike, past_goes}
use Rattle.manifest_tree.proofs.StuckReads.{lands}
use Rattle.manifest_tree.proofs.Flat.{misc_before, before_start, inside_start, inside_next, named_aside, not_first, slash, greater, named_turn, tag_next, tag_read, opens_read, content_read, units_read}

abbrev stands_at : List OpenTree → Spot
stands_at [] = before
stands_at (o ∷ around) = inside o around

tag_begins : (around : List OpenTree) (b : List ℕ) → has_name b ≡ true → suc (length around) ≤ 64 → Reads (stands_at around) (60 ∷ b) (in_tag (name_at b) [] around) (past name_byte b)
tag_begins [] b named shallow = before_start b named
tag_begins (o ∷ around) b named shallow = inside_start o around b named (omega arith)

module _ (whole : List ℕ) where
  pub stands_read : {around : List OpenTree} {rest : List ℕ} → Stands whole around rest → Reads start whole (stands_at around) rest
  stands_read (outside {b = b} begun p) = reads_join (begun_goes whole b begun) (misc_before p)
  stands_read (within {around = around} {b = b} {name = name} {after = after} {inner = inner} {attributes = attributes} p shallow is opens_here content) =
      reads_join (stands_read p) (reads_join (tag_begins around b is.named shallow) (reads_join (tag_read zero b name after attributes around is)
      (reads_join (opens_read name around attributes after inner opens_here) (content_read content (opened name attributes) around refl))))

  in_tag_read : (name : List ℕ) (attributes : List Attribute) (around : List OpenTree) (rest : List ℕ) → InTag whole name attributes around rest → Reads start whole (in_tag name attributes around) rest
  in_tag_read name attributes around rest h =
      reads_join (stands_read h.stands) (reads_join (tag_begins around h.tag h.start_is.named h.shallow) (tag_read zero h.tag name rest attributes around h.start_is))

  in_value_read : (name : List ℕ) (attributes : List Attribute) (of : List ℕ) (quote : ℕ) (value : List ℕ) (around : List OpenTree) (rest : List ℕ) → InValue whole name attributes of quote value around rest
      → Reads start whole (in_value name attributes of quote value around) rest
  in_value_read name attributes of quote value around rest h =
      let turn : tag_turn (names_of attributes) h.from ≡ Ok (attribute of quote, h.within_quotes) =
      rw h.spaced (named_turn (names_of attributes) (past white h.from) quote h.within_quotes of h.named h.of_is h.new h.quoted) in
      reads_join (goes_on (tag_turn (names_of attributes) h.from) (attribute of quote, h.within_quotes) (turned name attributes around) (in_tag_read name attributes around h.from h.in_tag_there) (tag_next name around attributes h.from) turn refl)
      (units_read name around attributes of [] h.so_far)

-- ---- each fault stops reading

entity_stops : (top : OpenTree) (around : List OpenTree) (rest : List ℕ) → reference_at rest ≡ None → next (inside top around) (38 ∷ rest) ≡ stop (Entity, length (38 ∷ rest))
unfolding inside_step
entity_stops top around rest none = rw none refl

value_entity_stops : (name of value rest : List ℕ) (attributes : List Attribute) (quote : ℕ) (around : List OpenTree) → (38 == quote) ≡ false → reference_at rest ≡ None
    → next (in_value name attributes of quote value around) (38 ∷ rest) ≡ stop (Entity, length (38 ∷ rest))
unfolding value_step
value_entity_stops name of value rest attributes quote around differs none = rw (differs, none) refl

mismatch_stops : (top : OpenTree) (around : List OpenTree) (rest : List ℕ) → has_name rest ≡ true → bytes_eq (name_at rest) top.name ≡ false → next (inside top around) (60 ∷ 47 ∷ rest) ≡ stop (TagMismatch, length (60 ∷ 47 ∷ rest))
unfolding inside_step end_at
mismatch_stops top around rest named differs = rw (named, differs) refl

deep_stops : (top : OpenTree) (around : List OpenTree) (rest : List ℕ) → has_name rest ≡ true → 63 ≤ length around → next (inside top around) (60 ∷ rest) ≡ stop (TooDeep, length (60 ∷ rest))
deep_stops top around [] named many = absurd (both_ways false refl named)
deep_stops top around (c ∷ cs) named many =
    inside_next top around (c ∷ cs) ∙ ap (λ (r : Read (Option (List ℕ))). onward r (apart_step top around (c ∷ cs))) (named_aside (c ∷ cs) named) ∙ rw (not_first c 47 named slash, named, le-ltb (length around) 63 many) refl

again_at : (names : List (List ℕ)) (w : List ℕ) → has_name w ≡ true → is_among names (name_at w) ≡ true → attribute_at names w ≡ Err (AttributeTwice, length w)
unfolding attribute_at
again_at names w named again = rw (named, again) refl

turn_again : (names : List (List ℕ)) (w : List ℕ) → has_name w ≡ true → is_among names (name_at w) ≡ true → turn_at names false w ≡ Err (AttributeTwice, length w)
turn_again names [] named again = absurd (both_ways false refl named)
turn_again names (c ∷ cs) named again = rw (not_first c 62 named greater, not_first c 47 named slash) (again_at names (c ∷ cs) named again)

twice_stops : (name : List ℕ) (attributes : List Attribute) (around : List OpenTree) (rest : List ℕ) → (length (past white rest) == length rest) ≡ false → has_name (past white rest) ≡ true
    → is_among (names_of attributes) (name_at (past white rest)) ≡ true → next (in_tag name attributes around) rest ≡ stop (AttributeTwice, length (past white rest))
twice_stops name attributes around rest spaced named again =
    let turn : tag_turn (names_of attributes) rest ≡ Err (AttributeTwice, length (past white rest)) = rw spaced (turn_again (names_of attributes) (past white rest) named again) in
    tag_next name around attributes rest ∙ ap (λ (r : Read (TagTurn × List ℕ)). onward r (turned name attributes around)) turn

pub fault_stops : (whole : List ℕ) {kind : TreeKind} {rest : List ℕ} → IsFault whole kind rest → Stops start whole (kind, length rest)
fault_stops whole (entity {top = top} {around = around} {rest = rest} p none) = stops_then (Entity, length (38 ∷ rest)) (stands_read whole p) (entity_stops top around rest none)
fault_stops whole (entity_in_value {name = name} {of = of} {value = value} {rest = rest} {attributes = attributes} {quote = quote} {around = around} p differs none) =
    stops_then (Entity, length (38 ∷ rest)) (in_value_read whole name attributes of quote value around (38 ∷ rest) p) (value_entity_stops name of value rest attributes quote around differs none)
fault_stops whole (mismatch {top = top} {around = around} {rest = rest} p named differs) =
    stops_then (TagMismatch, length (60 ∷ 47 ∷ rest)) (stands_read whole p) (mismatch_stops top around rest named differs)
fault_stops whole (twice {name = name} {rest = rest} {attributes = attributes} {around = around} p spaced named again) =
    stops_then (AttributeTwice, length (past white rest)) (in_tag_read whole name attributes around rest p) (twice_stops name attributes around rest spaced named again)
fault_stops whole (deep {around = []} {rest = rest} p named many) = absurd (omega arith)
fault_stops whole (deep {around = o ∷ around} {rest = rest} p named many) = stops_then (TooDeep, length (60 ∷ rest)) (stands_read whole p) (deep_stops o around rest named (omega arith))

-- a fault is none of form
pub fault_other : (whole : List ℕ) {kind : TreeKind} {rest : List ℕ} → IsFault whole kind rest → kind ≡ Syntax → ⊥
fault_other whole (entity p none) e = cc
fault_other whole (entity_in_value p differs none) e = cc
fault_other whole (mismatch p named differs) e = cc
fault_other whole (twice p spaced named again) e = cc
fault_other whole (deep p named many) e = cc

-- ---- byte by byte too

pub record Reached (whole rest : List ℕ) : Type 0 where
  pub state : State
  pub goes : Goes fresh whole state rest

reached : (whole rest : List ℕ) (s : Spot) → Reads start whole s rest → Reached whole rest
reached whole rest s p = let l = lands p fresh refl in record { state = l.state; goes = l.goes }

past_white_reached : (whole rest : List ℕ) (d : ℕ) (s : State) → Goes fresh whole s rest → Alike s (tag d) rest → Reached whole (past white rest)
past_white_reached whole [] d s p alike = record { state = s; goes = p }
past_white_reached whole (c ∷ cs) d s p alike =
    elim (cases_Bool (white c)) [
      | inl h ↦ rw h (record { state = spaced_tag d; goes = goes_join p (moves (alike ∙ rw h refl) (past_goes white (spaced_tag d) (λ x k. rw k refl) cs)) })
      | inr h ↦ rw h (record { state = s; goes = p })
    ]

-- the bytes before a fault are read
pub fault_goes : (whole : List ℕ) {kind : TreeKind} {rest : List ℕ} → IsFault whole kind rest → Reached whole rest
fault_goes whole (entity {top = top} {around = around} {rest = rest} p none) = reached whole (38 ∷ rest) (inside top around) (stands_read whole p)
fault_goes whole (entity_in_value {name = name} {of = of} {value = value} {rest = rest} {attributes = attributes} {quote = quote} {around = around} p differs none) =
    reached whole (38 ∷ rest) (in_value name attributes of quote value around) (in_value_read whole name attributes of quote value around (38 ∷ rest) p)
fault_goes whole (mismatch {top = top} {around = around} {rest = rest} p named differs) = reached whole (60 ∷ 47 ∷ rest) (inside top around) (stands_read whole p)
fault_goes whole (twice {name = name} {rest = rest} {attributes = attributes} {around = around} p spaced named again) =
    let l = lands (in_tag_read whole name attributes around rest p) fresh refl in
    past_white_reached whole rest (length around) l.state l.goes l.agrees.0
fault_goes whole (deep {around = around} {rest = rest} p named many) = reached whole (60 ∷ rest) (stands_at around) (stands_read whole p)
