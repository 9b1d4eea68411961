-- In a text that is UTF-8, names, values and character data are UTF-8.
use Rattle.std.proofs.Common.{◌≡◌, ℕ, ◌<◌, true, false, List, [], ◌∷◌, ◌++◌, refl, sym, ap, subst, ◌∙◌, append_assoc, arith}
use Rattle.std.specs.Str.{IsUtf8}
use Rattle.std.proofs.lemmas.List.{append-nil}
use Rattle.std.proofs.lemmas.Str.{IsUtf8-append}
use Rattle.manifest_tree.specs.declared.node.Attribute.{Attribute}
use Rattle.manifest_tree.specs.Lexis.{white, name_byte, past}
use Rattle.manifest_tree.specs.Tree.{Tree, Trees}
use Rattle.manifest_tree.specs.Grammar.{Misc, nothing, space, note, Units, no_unit, one_unit, IsAttribute, Attributes, no_attribute, one_attribute, IsStart, IsEnd, Element, empty, full, Content, no_content, data_unit, note_inside, child}
use Rattle.manifest_tree.specs.Refusals.{Stands, outside, within, InTag}
use Rattle.manifest_tree.specs.Spots.{Spot, start, before, inside, in_tag, in_value, behind, OpenTree}
use Rattle.manifest_tree.specs.Outcome.{TextsAt, NoText}
use Rattle.manifest_tree.proofs.Cuts.{utf8_front, utf8_tail, utf8_past, utf8_white, utf8_name, utf8_past_name, utf8_aside, utf8_begin, utf8_unit, opens_value, white_ascii}
use Rattle.manifest_tree.proofs.Nested.{Holds, steps_hold}

misc_utf8 : {a b : List ℕ} → Misc a b → IsUtf8 a → IsUtf8 b
misc_utf8 nothing u = u
misc_utf8 (space {c = c} {bytes = bytes} blank p) u = misc_utf8 p (utf8_tail bytes c (white_ascii c blank) u)
misc_utf8 (note {bytes = bytes} {after = after} is p) u = misc_utf8 p (utf8_aside bytes after is (utf8_tail bytes 60 (omega arith) u))

units_utf8 : {quote : ℕ} {a v b : List ℕ} (done : List ℕ) → Units quote a v b → IsUtf8 (done ++ a) → IsUtf8 ((done ++ v) ++ b)
units_utf8 {quote} {a} {v} {b} done no_unit u = subst (λ (l : List ℕ). IsUtf8 (l ++ a)) (sym (append-nil done)) u
units_utf8 {quote} {a} {v} {b} done (one_unit {c = c} {bytes = cs} {after = after} {piece = piece} {value = value} other read p is) u =
    subst (λ (l : List ℕ). IsUtf8 (l ++ b)) (append_assoc done piece value ∙ ap (λ (l : List ℕ). done ++ l) (sym is))
    (units_utf8 (done ++ piece) p (utf8_unit true done (c ∷ cs) (piece, after) read u))

value_utf8 : (quote : ℕ) (from v rest : List ℕ) → quote < 128 → Units quote from v (quote ∷ rest) → IsUtf8 from → IsUtf8 (v ++ quote ∷ rest)
value_utf8 quote from v rest ascii p u = units_utf8 [] p u

attribute_utf8 : (a b : List ℕ) (x : Attribute) → IsAttribute a x b → IsUtf8 a → IsUtf8 b
attribute_utf8 a b x is u =
    let o = opens_value (past name_byte (past white a)) is.quote is.inside is.opened (utf8_past_name (past white a) (utf8_white a u)) in
    utf8_past x.value b is.quote o.ascii (value_utf8 is.quote is.inside x.value b o.ascii is.value o.utf8)

attributes_utf8 : {names : List (List ℕ)} {a b : List ℕ} {others : List Attribute} → Attributes names a others b → IsUtf8 a → IsUtf8 b
attributes_utf8 no_attribute u = u
attributes_utf8 (one_attribute {bytes = a} {after = after} {a = x} is new p) u = attributes_utf8 p (attribute_utf8 a after x is u)

start_utf8 : (b name after : List ℕ) (attributes : List Attribute) → IsStart b name attributes after → IsUtf8 b → IsUtf8 after
start_utf8 b name after attributes is u = attributes_utf8 is.attributes_are (utf8_past_name b u)

opened_utf8 : (after inner : List ℕ) → past white after ≡ 62 ∷ inner → IsUtf8 after → IsUtf8 inner
opened_utf8 after inner is u = utf8_tail inner 62 (omega arith) (subst IsUtf8 is (utf8_white after u))

end_utf8 : (e name rest : List ℕ) → IsEnd e name rest → IsUtf8 e → IsUtf8 rest
end_utf8 e name rest is u = opened_utf8 (past name_byte e) rest is.ended (utf8_past_name e u)

mutual
  element_utf8 : {level : ℕ} {a b : List ℕ} {t : Tree} → Element level a t b → (done : List ℕ) → IsUtf8 (done ++ a) → IsUtf8 (done ++ b)
  element_utf8 (empty {bytes = bytes} {name = name} {after = after} {rest = rest} {attributes = attributes} shallow is closed) done u =
      let w = subst IsUtf8 closed (utf8_white after (start_utf8 bytes name after attributes is (utf8_past done bytes 60 (omega arith) u))) in
      IsUtf8-append done rest (utf8_front done bytes 60 (omega arith) u) (utf8_past (47 ∷ []) rest 62 (omega arith) w)
  element_utf8 (full {bytes = bytes} {name = name} {after = after} {inside = inner} {text = text} {end = end} {rest = rest} {attributes = attributes} shallow is opens_here content ends) done u =
      let i = opened_utf8 after inner opens_here (start_utf8 bytes name after attributes is (utf8_past done bytes 60 (omega arith) u)) in
      let c = content_utf8 content [] i in
      IsUtf8-append done rest (utf8_front done bytes 60 (omega arith) u) (end_utf8 end name rest ends (utf8_past (text ++ 60 ∷ []) end 47 (omega arith) (subst IsUtf8 (sym (append_assoc text (60 ∷ []) (47 ∷ end))) c)))

  content_utf8 : {level : ℕ} {a b text : List ℕ} {ts : Trees} → Content level a ts text b → (done : List ℕ) → IsUtf8 (done ++ a) → IsUtf8 ((done ++ text) ++ b)
  content_utf8 {level} {a} {b} no_content done u = subst (λ (l : List ℕ). IsUtf8 (l ++ a)) (sym (append-nil done)) u
  content_utf8 {level} {a} {b} (data_unit {bytes = bytes} {after = after} {piece = piece} {text = text} read p is) done u =
      subst (λ (l : List ℕ). IsUtf8 (l ++ b)) (append_assoc done piece text ∙ ap (λ (l : List ℕ). done ++ l) (sym is)) (content_utf8 p (done ++ piece) (utf8_unit false done bytes (piece, after) read u))
  content_utf8 (note_inside {bytes = bytes} {after = after} is p) done u =
      content_utf8 p done (IsUtf8-append done after (utf8_front done bytes 60 (omega arith) u) (utf8_aside bytes after is (utf8_past done bytes 60 (omega arith) u)))
  content_utf8 (child e p) done u = content_utf8 p done (element_utf8 e done u)

-- what is UTF-8 where reading stands
StandsText : List OpenTree → List ℕ → Type 0
StandsText [] rest = IsUtf8 rest
StandsText (o ∷ around) rest = IsUtf8 (o.text ++ rest)

tag_text : (around : List OpenTree) (tag : List ℕ) → StandsText around (60 ∷ tag) → IsUtf8 tag
unfolding StandsText
tag_text [] tag u = utf8_tail tag 60 (omega arith) u
tag_text (o ∷ around) tag u = utf8_past o.text tag 60 (omega arith) u

module _ (whole : List ℕ) (utf8 : IsUtf8 whole) where
  stands_utf8 : {around : List OpenTree} {rest : List ℕ} → Stands whole around rest → StandsText around rest
  unfolding StandsText
  stands_utf8 (outside {b = b} begun p) = misc_utf8 p (utf8_begin whole b begun utf8)
  stands_utf8 (within {around = around} {b = b} {name = name} {after = after} {inner = inner} {attributes = attributes} p shallow is opens_here content) =
      content_utf8 content [] (opened_utf8 after inner opens_here (start_utf8 b name after attributes is (tag_text around b (stands_utf8 p))))

  in_tag_utf8 : (name : List ℕ) (attributes : List Attribute) (around : List OpenTree) (rest : List ℕ) → InTag whole name attributes around rest → IsUtf8 name × IsUtf8 rest
  in_tag_utf8 name attributes around rest h =
      let u = tag_text around h.tag (stands_utf8 h.stands) in
      (subst IsUtf8 (sym h.start_is.name_is) (utf8_name h.tag u), start_utf8 h.tag name rest attributes h.start_is u)

  holds_texts : (s : Spot) (rest : List ℕ) → Holds whole s rest → TextsAt s rest
  unfolding StandsText
  holds_texts start rest h = tt
  holds_texts before rest h = tt
  holds_texts (inside o around) rest h = λ tail is. utf8_front o.text tail 60 (omega arith) (subst (λ (l : List ℕ). IsUtf8 (o.text ++ l)) is (stands_utf8 h))
  holds_texts (in_tag name attributes around) rest h = (in_tag_utf8 name attributes around rest h).0
  holds_texts (in_value name attributes of quote value around) rest h =
      let w = utf8_white h.from (in_tag_utf8 name attributes around h.from h.in_tag_there).1 in
      let o = opens_value (past name_byte (past white h.from)) quote h.within_quotes h.quoted (utf8_past_name (past white h.from) w) in
      let v : IsUtf8 (value ++ rest) = units_utf8 [] h.so_far o.utf8 in
      (subst IsUtf8 (sym h.of_is) (utf8_name (past white h.from) w), λ tail is. utf8_front value tail quote o.ascii (subst (λ (l : List ℕ). IsUtf8 (value ++ l)) is v))
  holds_texts (behind t) rest h = tt

  -- no step leads to a text that is not UTF-8
  pub texts_are : NoText start whole → ⊥
  texts_are p = p.bad (holds_texts p.spot p.rest (steps_hold whole {s = start} refl p.reads))
