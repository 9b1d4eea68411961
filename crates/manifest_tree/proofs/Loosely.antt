-- A loose text is read byte by byte to its end.
use Rattle.std.proofs.Common.{◌≡◌, ℕ, suc, true, false, not, eqb, List, [], ◌∷◌, Some, Ok, refl, subst}
use Rattle.std.specs.Cmp.Lexicographic.{bytes_decides}
use Rattle.std.proofs.lemmas.Bool.{eq-eqb, and_parts, not-true}
use Rattle.manifest_tree.specs.Lexis.{white, allowed, name_first, past, name_at, attribute, opens, closes, tag_turn, end_at}
use Rattle.manifest_tree.specs.Loose.{data_byte, value_byte, LooseAttribute, LooseAttributes, no_loose, one_loose, LooseStart, LooseEnd, LooseElement, loose_empty, loose_full, LooseContent, loose_nothing, loose_byte, loose_note, loose_child, LooseText}
use Rattle.manifest_tree.proofs.Flat.{named_turn, not_first, slash}
use Rattle.manifest_tree.proofs.Machine.{Ground, within, beyond, State, fresh, on, angle, naming, tag, value, end_mark, out, is_end, tag_move, move, Goes, rests, moves, goes_join}
use Rattle.manifest_tree.proofs.Lexemes.{Follows, left_in, past_goes, Alike, alike_self, Like, turn_to, tag_follows, end_follows}
use Rattle.manifest_tree.proofs.Starts.{Ahead, StartFollows, begin_follows, ahead_angle, name_angle, name_alike, root_names, aside_goes, misc_ahead, misc_beyond}

stays_in_value : (d quote c : ℕ) → value_byte quote c ≡ true → move (value d quote) c ≡ Some (value d quote)
unfolding value_byte
stays_in_value d quote c held =
    let p = and_parts (data_byte c) (not (eqb c quote)) held in
    rw (not-true (eqb c quote) p.1, p.0) refl

quote_closes : (d quote : ℕ) → move (value d quote) quote ≡ Some (tag d)
quote_closes d quote = rw (eq-eqb quote quote refl) refl

attribute_goes : (d : ℕ) (s : State) (a b : List ℕ) → Alike s (tag d) a → is_end s ≡ false → LooseAttribute a b → Goes s a (tag d) b
attribute_goes d s a b alike no_end x =
    let w = past white a in
    let turn : tag_turn [] a ≡ Ok (attribute (name_at w) x.quote, x.inside) = rw x.spaced (named_turn [] w x.quote x.inside (name_at w) x.named refl refl x.opened) in
    let to_value : Goes s a (value d x.quote) x.inside = subst (Follows s a (turn_to d)) turn (tag_follows d [] s a alike no_end) in
    let to_quote : Goes (value d x.quote) x.inside (value d x.quote) (x.quote ∷ b) =
    subst (Goes (value d x.quote) x.inside (value d x.quote)) x.ended (past_goes (value_byte x.quote) (value d x.quote) (stays_in_value d x.quote) x.inside) in
    goes_join to_value (goes_join to_quote (moves (quote_closes d x.quote) rests))

attributes_go : (d : ℕ) {a b : List ℕ} → LooseAttributes a b → (s : State) → Alike s (tag d) a → is_end s ≡ false → Like s a (tag d) b
attributes_go d no_loose s alike no_end = record { state = s; goes = rests; alike = alike; no_end = no_end }
attributes_go d {a} {b} (one_loose {after = after} x more) s alike no_end =
    let first = attribute_goes d s a after alike no_end x in
    let others = attributes_go d more (tag d) (alike_self (tag d) after) refl in
    record { state = others.state; goes = goes_join first others.goes; alike = others.alike; no_end = others.no_end }

-- a start tag behind its `<`, up to the white space before its end
start_goes : (g : Ground) (d : ℕ) → ((c : ℕ) → name_first c ≡ true → tag_move g c ≡ Some (naming d)) → (a b : List ℕ) → LooseStart a b → Like (angle g) a (tag d) b
start_goes g d names a b x =
    let named = name_angle g d names a x.named in
    let others = attributes_go d x.attributes (naming d) (name_alike d a) refl in
    record { state = others.state; goes = goes_join named others.goes; alike = others.alike; no_end = others.no_end }

closes_go : (d : ℕ) (s : State) (a b : List ℕ) → Alike s (tag d) a → is_end s ≡ false → past white a ≡ 47 ∷ 62 ∷ b → Goes s a (on (out d)) b
closes_go d s a b alike no_end is =
    let turn : tag_turn [] a ≡ Ok (closes, b) = rw is refl in
    subst (Follows s a (turn_to d)) turn (tag_follows d [] s a alike no_end)

opens_go : (d : ℕ) (s : State) (a b : List ℕ) → Alike s (tag d) a → is_end s ≡ false → past white a ≡ 62 ∷ b → Goes s a (on (within d)) b
opens_go d s a b alike no_end is =
    let turn : tag_turn [] a ≡ Ok (opens, b) = rw is refl in
    subst (Follows s a (turn_to d)) turn (tag_follows d [] s a alike no_end)

end_is : (a b : List ℕ) → LooseEnd a b → end_at (name_at a) 0 a ≡ Ok b
unfolding end_at
end_is a b x = rw (x.named, (bytes_decides (name_at a) (name_at a)).1 refl, x.ended) refl

end_goes : (d : ℕ) (a b : List ℕ) → LooseEnd a b → Goes (end_mark d) a (on (out d)) b
end_goes d a b x = subst (Follows (end_mark d) a (left_in (on (out d)))) (end_is a b x) (end_follows d (name_at a) 0 a)

byte_stays : (d c : ℕ) → data_byte c ≡ true → move (on (within d)) c ≡ Some (on (within d))
unfolding data_byte
byte_stays d c held =
    let p = and_parts (allowed c) (not (eqb c 60)) held in
    rw (not-true (eqb c 60) p.1, p.0) refl

child_names : (d c : ℕ) → name_first c ≡ true → tag_move (within d) c ≡ Some (naming (suc d))
child_names d c named = rw (not_first c 47 named slash, named) refl

mutual
  element_goes : {a b : List ℕ} → LooseElement a b → (s : State) (g : Ground) (d : ℕ) → move s 60 ≡ Some (angle g) → ((c : ℕ) → name_first c ≡ true → tag_move g c ≡ Some (naming d)) → Goes s a (on (out d)) b
  element_goes (loose_empty {bytes = bytes} {after = after} {rest = rest} x closed) s g d one names =
      let t = start_goes g d names bytes after x in
      moves one (goes_join t.goes (closes_go d t.state after rest t.alike t.no_end closed))
  element_goes (loose_full {bytes = bytes} {after = after} {inside = inside} {end = end} {rest = rest} x opened content ended) s g d one names =
      let t = start_goes g d names bytes after x in
      moves one (goes_join t.goes (goes_join (opens_go d t.state after inside t.alike t.no_end opened) (goes_join (content_goes content d) (moves refl (moves refl (end_goes d end rest ended))))))

  content_goes : {a b : List ℕ} → LooseContent a b → (d : ℕ) → Goes (on (within d)) a (on (within d)) b
  content_goes loose_nothing d = rests
  content_goes (loose_byte {c = c} held more) d = moves (byte_stays d c held) (content_goes more d)
  content_goes (loose_note {bytes = bytes} {after = after} is more) d = moves refl (goes_join (aside_goes (within d) bytes after (λ o. absurd cc) is) (content_goes more d))
  content_goes (loose_child x more) d = goes_join (element_goes x (on (within d)) (within d) (suc d) refl (child_names d)) (content_goes more d)

root_goes : {a b : List ℕ} → LooseElement a b → (s : State) → Ahead s a → Goes s a (on beyond) b
root_goes {a} {b} (loose_empty {bytes = bytes} x closed) s h = let at = ahead_angle h bytes refl in element_goes (loose_empty x closed) s at.ground 0 at.one (root_names s bytes at)
root_goes {a} {b} (loose_full {bytes = bytes} x opened content ended) s h = let at = ahead_angle h bytes refl in element_goes (loose_full x opened content ended) s at.ground 0 at.one (root_names s bytes at)

pub text_goes : (bytes : List ℕ) → LooseText bytes → Goes fresh bytes (on beyond) []
text_goes bytes t =
    let begun = subst (StartFollows bytes) t.begun (begin_follows bytes) in
    let misc = misc_ahead t.before begun.state begun.is_ahead in
    goes_join begun.goes (goes_join misc.goes (goes_join (root_goes t.element misc.state misc.is_ahead) (misc_beyond t.after)))
