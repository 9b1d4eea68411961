-- Bytes that stand for themselves are read one by one, whether or not they are taken in one go.
use Rattle.std.proofs.Common.{◌≡◌, ℕ, ◌-◌, ◌≤◌, Bool, true, false, cond, eqb, List, [], ◌∷◌, ◌++◌, length, take, Ok, refl, sym, ap, subst, ◌∙◌, append_assoc, arith}
use Rattle.std.specs.Prelude.{not, nat_le}
use Rattle.std.proofs.lemmas.Bool.{not-true, and_parts, leb-true, ne_eqb}
use Rattle.std.proofs.lemmas.List.{append-nil}
use Rattle.manifest_tree.specs.declared.node.Attribute.{Attribute}
use Rattle.manifest_tree.specs.Lexis.{Read, allowed, plain, unit_at, front, past}
use Rattle.manifest_tree.specs.Pieces.{itself}
use Rattle.manifest_tree.specs.Spots.{Spot, go, onward, next, OpenTree, with_text, inside, in_value, inside_step, value_step, Reads, here}
use Rattle.manifest_tree.proofs.Runs.{take_front}
use Rattle.manifest_tree.proofs.Steps.{reads_join, goes_on}

record IsItself (quoted : Bool) (until c : ℕ) (cs : List ℕ) : Type 0 where
  pub goes_on_here : eqb c until ≡ false
  pub no_markup : eqb c 60 ≡ false
  pub is_unit : unit_at quoted (c ∷ cs) ≡ Ok (c ∷ [], cs)

itself_is : (quoted : Bool) (until c : ℕ) (cs : List ℕ) → itself until c ≡ true → IsItself quoted until c cs
unfolding itself allowed plain
itself_is quoted until c cs is =
    let p = and_parts _ (not (eqb c until)) is in
    let q = and_parts _ (not (eqb c 38)) p.0 in
    let r = and_parts (nat_le 32 c) (not (eqb c 60)) q.0 in
    let at_least : 32 ≤ c = leb-true 32 c r.0 in
    let less = not-true (eqb c 60) r.1 in
    let and = not-true (eqb c 38) q.1 in
    let n9 : eqb c 9 ≡ false = ne_eqb c 9 (λ e. omega arith) in
    let n10 : eqb c 10 ≡ false = ne_eqb c 10 (λ e. omega arith) in
    let n13 : eqb c 13 ≡ false = ne_eqb c 13 (λ e. omega arith) in
    record {
      goes_on_here = not-true (eqb c until) p.1;
      no_markup = less;
      is_unit = elim quoted as (λ b. unit_at b (c ∷ cs) ≡ Ok (c ∷ [], cs)) [
        | true ↦ rw (and, n13, less, r.0, n9, n10) refl
        | false ↦ rw (and, n13, less, r.0) refl
      ];
    }

module _ (name : List ℕ) (attributes : List Attribute) (of : List ℕ) (quote : ℕ) (around : List OpenTree) where
  abbrev at_value : List ℕ → Spot
  at_value value = in_value name attributes of quote value around

  value_byte : (value : List ℕ) (c : ℕ) (cs : List ℕ) → itself quote c ≡ true → Reads (at_value value) (c ∷ cs) (at_value (value ++ c ∷ [])) cs
  unfolding value_step
  value_byte value c cs is =
      let i = itself_is true quote c cs is in
      let e : next (at_value value) (c ∷ cs) ≡ onward (unit_at true (c ∷ cs)) (λ found. go (at_value (value ++ found.0)) found.1) = rw i.goes_on_here refl in
      goes_on (unit_at true (c ∷ cs)) (c ∷ [], cs) (λ found. go (at_value (value ++ found.0)) found.1) here e i.is_unit refl

  value_span : (value bytes : List ℕ) → Reads (at_value value) bytes (at_value (value ++ front (itself quote) bytes)) (past (itself quote) bytes)
  value_span value [] = subst (λ (v : List ℕ). Reads (at_value value) [] (at_value v) []) (sym (append-nil value)) here
  value_span value (c ∷ cs) =
      let more : itself quote c ≡ true → Reads (at_value value) (c ∷ cs) (at_value (value ++ c ∷ front (itself quote) cs)) (past (itself quote) cs) =
      λ is. reads_join (value_byte value c cs is)
      (subst (λ (v : List ℕ). Reads (at_value (value ++ c ∷ [])) cs (at_value v) (past (itself quote) cs)) (append_assoc value (c ∷ []) (front (itself quote) cs)) (value_span (value ++ c ∷ []) cs)) in
      let stay : Reads (at_value value) (c ∷ cs) (at_value (value ++ [])) (c ∷ cs) = subst (λ (v : List ℕ). Reads (at_value value) (c ∷ cs) (at_value v) (c ∷ cs)) (sym (append-nil value)) here in
      (elim (itself quote c) as (λ b. (b ≡ true → Reads (at_value value) (c ∷ cs) (at_value (value ++ c ∷ front (itself quote) cs)) (past (itself quote) cs))
      → Reads (at_value value) (c ∷ cs) (at_value (value ++ cond b (c ∷ front (itself quote) cs) [])) (cond b (past (itself quote) cs) (c ∷ cs))) [
        | true ↦ λ m. m refl
        | false ↦ λ m. stay
      ]) more

  pub no_value : (bytes made : List ℕ) → made ≡ [] → Reads (at_value []) bytes (at_value made) bytes
  no_value bytes made empty = subst (λ (v : List ℕ). Reads (at_value []) bytes (at_value v) bytes) (sym empty) here

  pub value_run : {s : Spot} {a : List ℕ} (value bytes rest made : List ℕ) → Reads s a (at_value value) bytes → made ≡ value ++ front (itself quote) bytes → rest ≡ past (itself quote) bytes
      → Reads s a (at_value made) rest
  value_run {s} {a} value bytes rest made p made_is rest_is =
      subst (λ (v : List ℕ). Reads s a (at_value v) rest) (sym made_is)
      (subst (λ (r : List ℕ). Reads s a (at_value (value ++ front (itself quote) bytes)) r) (sym rest_is) (reads_join p (value_span value bytes)))

module _ (top : OpenTree) (around : List OpenTree) where
  abbrev at_text : List ℕ → Spot
  at_text text = inside (record { name = top.name; attributes = top.attributes; children = top.children; text = text }) around

  text_byte : (text : List ℕ) (c : ℕ) (cs : List ℕ) → itself 60 c ≡ true → Reads (at_text text) (c ∷ cs) (at_text (text ++ c ∷ [])) cs
  unfolding inside_step
  text_byte text c cs is =
      let i = itself_is false 60 c cs is in
      let e : next (at_text text) (c ∷ cs) ≡ onward (unit_at false (c ∷ cs)) (λ found. go (at_text (text ++ found.0)) found.1) = rw i.no_markup refl in
      goes_on (unit_at false (c ∷ cs)) (c ∷ [], cs) (λ found. go (at_text (text ++ found.0)) found.1) here e i.is_unit refl

  text_span : (text bytes : List ℕ) → Reads (at_text text) bytes (at_text (text ++ front (itself 60) bytes)) (past (itself 60) bytes)
  text_span text [] = subst (λ (v : List ℕ). Reads (at_text text) [] (at_text v) []) (sym (append-nil text)) here
  text_span text (c ∷ cs) =
      let more : itself 60 c ≡ true → Reads (at_text text) (c ∷ cs) (at_text (text ++ c ∷ front (itself 60) cs)) (past (itself 60) cs) =
      λ is. reads_join (text_byte text c cs is)
      (subst (λ (v : List ℕ). Reads (at_text (text ++ c ∷ [])) cs (at_text v) (past (itself 60) cs)) (append_assoc text (c ∷ []) (front (itself 60) cs)) (text_span (text ++ c ∷ []) cs)) in
      let stay : Reads (at_text text) (c ∷ cs) (at_text (text ++ [])) (c ∷ cs) = subst (λ (v : List ℕ). Reads (at_text text) (c ∷ cs) (at_text v) (c ∷ cs)) (sym (append-nil text)) here in
      (elim (itself 60 c) as (λ b. (b ≡ true → Reads (at_text text) (c ∷ cs) (at_text (text ++ c ∷ front (itself 60) cs)) (past (itself 60) cs))
      → Reads (at_text text) (c ∷ cs) (at_text (text ++ cond b (c ∷ front (itself 60) cs) [])) (cond b (past (itself 60) cs) (c ∷ cs))) [
        | true ↦ λ m. m refl
        | false ↦ λ m. stay
      ]) more

  pub text_run : {s : Spot} {a : List ℕ} (value bytes rest made : List ℕ) → Reads s a (inside (with_text top value) around) bytes → made ≡ value ++ front (itself 60) bytes → rest ≡ past (itself 60) bytes
      → Reads s a (inside (with_text top made) around) rest
  text_run {s} {a} value bytes rest made p made_is rest_is =
      let grouped : (top.text ++ value) ++ front (itself 60) bytes ≡ top.text ++ made = append_assoc top.text value (front (itself 60) bytes) ∙ ap (λ (v : List ℕ). top.text ++ v) (sym made_is) in
      subst (λ (v : List ℕ). Reads s a (at_text v) rest) grouped
      (subst (λ (r : List ℕ). Reads s a (at_text ((top.text ++ value) ++ front (itself 60) bytes)) r) (sym rest_is) (reads_join p (text_span (top.text ++ value) bytes)))

abbrev read_all : List ℕ → Read (List ℕ)
read_all x = Ok x

pub run_ok : (until : ℕ) (out all bytes rest taken : List ℕ) → all ≡ out ++ taken → taken ≡ take (length bytes - length rest) bytes → rest ≡ past (itself until) bytes → read_all (out ++ front (itself until) bytes) ≡ read_all all
run_ok until out all bytes rest taken all_is taken_is rest_is =
    ap read_all (ap (λ (l : List ℕ). out ++ l) (sym (taken_is ∙ take_front (itself until) bytes rest rest_is)) ∙ sym all_is)
