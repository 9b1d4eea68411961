-- In a manifest, which is UTF-8, the values of all attributes are UTF-8.
use Rattle.std.proofs.Common.{◌≡◌, ℕ, true, false, List, [], ◌∷◌, ◌++◌, IsUtf8, sym, ap, subst, ◌∙◌, append_assoc, arith}
use Rattle.std.proofs.lemmas.List.{append-nil}
use Rattle.std.proofs.lemmas.Str.{IsUtf8-append}
use Rattle.manifest_tree.specs.declared.node.Attribute.{Attribute}
use Rattle.manifest_tree.specs.Lexis.{white, name_byte, past}
use Rattle.manifest_tree.specs.Tree.{Tree, Trees, tree, none, more}
use Rattle.manifest_tree.specs.Grammar.{Misc, nothing, space, note, Units, no_unit, one_unit, IsAttribute, Attributes, no_attribute, one_attribute, IsStart, IsEnd, Element, empty, full, Content, no_content, data_unit, note_inside, child, SpellsTree}
use Rattle.manifest_tree.proofs.Cuts.{utf8_front, utf8_tail, utf8_past, utf8_white, utf8_past_name, utf8_aside, utf8_begin, utf8_unit, opens_value, white_ascii}

abbrev pub AreTexts : List Attribute → Type 0
AreTexts [] = Unit {0}
AreTexts (a ∷ others) = IsUtf8 a.value × AreTexts others

-- the values of a tree's attributes are UTF-8
abbrev mutual
  pub HasTexts : Tree → Type 0
  HasTexts (tree name attributes children text) = AreTexts attributes × HaveTexts children

  pub HaveTexts : Trees → Type 0
  HaveTexts none = Unit {0}
  HaveTexts (more t ts) = HasTexts t × HaveTexts ts

misc_utf8 : {a b : List ℕ} → Misc a b → IsUtf8 a → IsUtf8 b
misc_utf8 nothing u = u
misc_utf8 (space {c = c} {bytes = bytes} blank p) u = misc_utf8 p (utf8_tail bytes c (white_ascii c blank) u)
misc_utf8 (note {bytes = bytes} {after = after} is p) u = misc_utf8 p (utf8_aside bytes after is (utf8_tail bytes 60 (omega arith) u))

units_utf8 : {quote : ℕ} {a v b : List ℕ} (done : List ℕ) → Units quote a v b → IsUtf8 (done ++ a) → IsUtf8 ((done ++ v) ++ b)
units_utf8 {quote} {a} {v} {b} done no_unit u = subst (λ (l : List ℕ). IsUtf8 (l ++ a)) (sym (append-nil done)) u
units_utf8 {quote} {a} {v} {b} done (one_unit {c = c} {bytes = cs} {after = after} {piece = piece} {value = value} other read p is) u =
    subst (λ (l : List ℕ). IsUtf8 (l ++ b)) (append_assoc done piece value ∙ ap (λ (l : List ℕ). done ++ l) (sym is))
    (units_utf8 (done ++ piece) p (utf8_unit true done (c ∷ cs) (piece, after) read u))

-- ---- attributes

attribute_texts : (a b : List ℕ) (x : Attribute) → IsAttribute a x b → IsUtf8 a → IsUtf8 x.value × IsUtf8 b
attribute_texts a b x is u =
    let o = opens_value (past name_byte (past white a)) is.quote is.inside is.opened (utf8_past_name (past white a) (utf8_white a u)) in
    let whole : IsUtf8 (x.value ++ is.quote ∷ b) = units_utf8 [] is.value o.utf8 in
    (utf8_front x.value b is.quote o.ascii whole, utf8_past x.value b is.quote o.ascii whole)

attributes_texts : {names : List (List ℕ)} {a b : List ℕ} {others : List Attribute} → Attributes names a others b → IsUtf8 a → AreTexts others × IsUtf8 b
attributes_texts no_attribute u = (tt, u)
attributes_texts (one_attribute {bytes = a} {after = after} {a = x} is new p) u =
    let here = attribute_texts a after x is u in
    let behind = attributes_texts p here.1 in
    ((here.0, behind.0), behind.1)

start_texts : (b name after : List ℕ) (attributes : List Attribute) → IsStart b name attributes after → IsUtf8 b → AreTexts attributes × IsUtf8 after
start_texts b name after attributes is u = attributes_texts is.attributes_are (utf8_past_name b u)

opened_utf8 : (after inner : List ℕ) → past white after ≡ 62 ∷ inner → IsUtf8 after → IsUtf8 inner
opened_utf8 after inner is u = utf8_tail inner 62 (omega arith) (subst IsUtf8 is (utf8_white after u))

end_utf8 : (e name rest : List ℕ) → IsEnd e name rest → IsUtf8 e → IsUtf8 rest
end_utf8 e name rest is u = opened_utf8 (past name_byte e) rest is.ended (utf8_past_name e u)

-- ---- elements

mutual
  element_texts : {level : ℕ} {a b : List ℕ} {t : Tree} → Element level a t b → (done : List ℕ) → IsUtf8 (done ++ a) → HasTexts t × IsUtf8 (done ++ b)
  element_texts (empty {bytes = bytes} {name = name} {after = after} {rest = rest} {attributes = attributes} shallow is closed) done u =
      let s = start_texts bytes name after attributes is (utf8_past done bytes 60 (omega arith) u) in
      let w = subst IsUtf8 closed (utf8_white after s.1) in
      ((s.0, tt), IsUtf8-append done rest (utf8_front done bytes 60 (omega arith) u) (utf8_past (47 ∷ []) rest 62 (omega arith) w))
  element_texts (full {bytes = bytes} {name = name} {after = after} {inside = inner} {text = text} {end = end} {rest = rest} {attributes = attributes} shallow is opens_here content ends) done u =
      let s = start_texts bytes name after attributes is (utf8_past done bytes 60 (omega arith) u) in
      let c = content_texts content [] (opened_utf8 after inner opens_here s.1) in
      let last = utf8_past (text ++ 60 ∷ []) end 47 (omega arith) (subst IsUtf8 (sym (append_assoc text (60 ∷ []) (47 ∷ end))) c.1) in
      ((s.0, c.0), IsUtf8-append done rest (utf8_front done bytes 60 (omega arith) u) (end_utf8 end name rest ends last))

  content_texts : {level : ℕ} {a b text : List ℕ} {ts : Trees} → Content level a ts text b → (done : List ℕ) → IsUtf8 (done ++ a) → HaveTexts ts × IsUtf8 ((done ++ text) ++ b)
  content_texts {level} {a} {b} no_content done u = (tt, subst (λ (l : List ℕ). IsUtf8 (l ++ a)) (sym (append-nil done)) u)
  content_texts {level} {a} {b} (data_unit {bytes = bytes} {after = after} {piece = piece} {text = text} read p is) done u =
      let inner = content_texts p (done ++ piece) (utf8_unit false done bytes (piece, after) read u) in
      (inner.0, subst (λ (l : List ℕ). IsUtf8 (l ++ b)) (append_assoc done piece text ∙ ap (λ (l : List ℕ). done ++ l) (sym is)) inner.1)
  content_texts {level} {a} {b} (note_inside {bytes = bytes} {after = after} is p) done u =
      content_texts p done (IsUtf8-append done after (utf8_front done bytes 60 (omega arith) u) (utf8_aside bytes after is (utf8_past done bytes 60 (omega arith) u)))
  content_texts (child e p) done u =
      let first = element_texts e done u in
      let others = content_texts p done first.1 in
      ((first.0, others.0), others.1)

pub tree_texts : (bytes : List ℕ) (t : Tree) → SpellsTree bytes t → HasTexts t
tree_texts bytes t spelled = (element_texts spelled.element [] (misc_utf8 spelled.before (utf8_begin bytes spelled.start spelled.begun spelled.utf8))).0
