-- No text has two refusals, and one that spells a tree has none.
use Rattle.std.proofs.Common.{◌≡◌, ℕ, suc, ◌-◌, ◌<◌, ◌≤◌, List, [], ◌∷◌, ◌++◌, length, take, drop, refl, sym, ap, subst, ◌∙◌, append_assoc, arith, length-append}
use Rattle.std.specs.Str.{IsUtf8, IsValidUpTo}
use Rattle.std.proofs.lemmas.List.{append-nil, take_at, take-append-drop, take-take}
use Rattle.std.proofs.lemmas.Str.{utf8_valid_len-IsValidUpTo}
use Rattle.manifest_tree.specs.declared.fault.TreeKind.{TreeKind}
use Rattle.manifest_tree.specs.declared.fault.TreeKind.TheVariants.{NotUtf8, Syntax, TooLong}
use Rattle.manifest_tree.specs.Lexis.{Fault}
use Rattle.manifest_tree.specs.Tree.{Tree}
use Rattle.manifest_tree.specs.Grammar.{SpellsTree}
use Rattle.manifest_tree.specs.Loose.{LooseText, Begins, IsLost, at_byte, at_end}
use Rattle.manifest_tree.specs.Refusals.{IsFault, IsRefusal, too_long, not_utf8, other, syntax}
use Rattle.manifest_tree.proofs.Flat.{spelled_read, one_fault, read_stops}
use Rattle.manifest_tree.proofs.Machine.{fresh, State, Goes, cut}
use Rattle.manifest_tree.proofs.Completed.{goes_text}
use Rattle.manifest_tree.proofs.Fronts.{goes_begins}
use Rattle.manifest_tree.proofs.StuckReads.{lands}
use Rattle.manifest_tree.proofs.FaultStops.{fault_stops, fault_goes}

-- ---- the bytes before a place

begins_front : (a b : List ℕ) → Begins (a ++ b) → Begins a
begins_front a b p = record { more = b ++ p.more; text = subst LooseText (append_assoc a b p.more) p.text }

begins_shorter : (bytes : List ℕ) (k n : ℕ) → k ≤ n → Begins (take n bytes) → Begins (take k bytes)
begins_shorter bytes k n le p =
    let parts : take n bytes ≡ take k bytes ++ drop k (take n bytes) = sym (take-append-drop k (take n bytes)) ∙ ap (λ (l : List ℕ). l ++ drop k (take n bytes)) (take-take k n bytes le) in
    begins_front (take k bytes) (drop k (take n bytes)) (subst Begins parts p)

lost_bound : (bytes : List ℕ) (place : ℕ) → IsLost bytes place → place ≤ length bytes
lost_bound bytes place (at_byte before c after is begins no_more place_is) = omega (arith, ap length is, length-append before (c ∷ after), place_is)
lost_bound bytes place (at_end begins no_text place_is) = omega arith

lost_begins : (bytes : List ℕ) (place : ℕ) → IsLost bytes place → Begins (take place bytes)
lost_begins bytes place (at_byte before c after is begins no_more place_is) =
    subst Begins (sym (ap (take place) is ∙ take_at before (c ∷ after) place (sym place_is))) begins
lost_begins bytes place (at_end begins no_text place_is) =
    subst Begins (sym (ap (take place) (sym (append-nil bytes)) ∙ take_at bytes [] place (sym place_is))) begins

lost_next : (bytes : List ℕ) (place : ℕ) → IsLost bytes place → place < length bytes → Begins (take (suc place) bytes) → ⊥
lost_next bytes place (at_byte before c after is begins no_more place_is) within p =
    let long : length (before ++ c ∷ []) ≡ suc place = omega (arith, length-append before (c ∷ []), place_is) in
    let whole : bytes ≡ (before ++ c ∷ []) ++ after = is ∙ sym (append_assoc before (c ∷ []) after) in
    no_more (subst Begins (ap (take (suc place)) whole ∙ take_at (before ++ c ∷ []) after (suc place) long) p)
lost_next bytes place (at_end begins no_text place_is) within p = absurd (omega arith)

lost_order : (bytes : List ℕ) (m n : ℕ) → IsLost bytes m → IsLost bytes n → m < n → ⊥
lost_order bytes m n p q before = lost_next bytes m p (omega (arith, lost_bound bytes n q)) (begins_shorter bytes (suc m) n before (lost_begins bytes n q))

lost_same : (bytes : List ℕ) (m n : ℕ) → IsLost bytes m → IsLost bytes n → m ≡ n
lost_same bytes m n p q =
    let not_before : ¬ (m < n) = lost_order bytes m n p q in
    let not_behind : ¬ (n < m) = lost_order bytes n m q p in
    omega arith

-- what stands before a fault begins a text
fault_begins : (bytes : List ℕ) (kind : TreeKind) (rest : List ℕ) → IsFault bytes kind rest → Begins (take (length bytes - length rest) bytes)
fault_begins bytes kind rest p =
    let r = fault_goes bytes p in
    let k = cut r.goes in
    let long : length k.front ≡ length bytes - length rest = omega (arith, ap length k.is, length-append k.front rest) in
    subst Begins (sym (ap (take (length bytes - length rest)) k.is ∙ take_at k.front rest (length bytes - length rest) long)) (goes_begins k.front r.state k.goes)

lost_behind : (bytes : List ℕ) (place : ℕ) (kind : TreeKind) (rest : List ℕ) → IsLost bytes place → IsFault bytes kind rest → place < length bytes - length rest → ⊥
lost_behind bytes place kind rest p q before =
    lost_next bytes place p (omega arith) (begins_shorter bytes (suc place) (length bytes - length rest) before (fault_begins bytes kind rest q))

-- what spells a tree is a loose text
spelled_loose : (bytes : List ℕ) (t : Tree) → SpellsTree bytes t → LooseText bytes
spelled_loose bytes t p =
    let l = lands (spelled_read bytes t p) fresh refl in
    goes_text bytes (subst (λ (s : State). Goes fresh bytes s []) l.agrees l.goes)

lost_unspelled : (bytes : List ℕ) (place : ℕ) → IsLost bytes place → LooseText bytes → ⊥
lost_unspelled bytes place (at_byte before c after is begins no_more place_is) text =
    no_more (record { more = after; text = subst LooseText (is ∙ sym (append_assoc before (c ∷ []) after)) text })
lost_unspelled bytes place (at_end begins no_text place_is) text = no_text text

-- ---- what a refusal says of the text

data Says (bytes : List ℕ) (kind : TreeKind) (place : ℕ) : Type 0 where
  long : 4194304 < length bytes → kind ≡ TooLong → place ≡ 4194304 → Says bytes kind place
  bad : length bytes ≤ 4194304 → (IsUtf8 bytes → ⊥) → kind ≡ NotUtf8 → IsValidUpTo bytes place → Says bytes kind place
  faulty : (rest : List ℕ) → length bytes ≤ 4194304 → IsUtf8 bytes → IsFault bytes kind rest → place ≡ length bytes - length rest → Says bytes kind place
  lost : length bytes ≤ 4194304 → IsUtf8 bytes → IsLost bytes place → ((k : TreeKind) (rest : List ℕ) → IsFault bytes k rest → place < length bytes - length rest) → kind ≡ Syntax → Says bytes kind place

says : (bytes : List ℕ) {kind : TreeKind} {place : ℕ} → IsRefusal bytes kind place → Says bytes kind place
says bytes (too_long many) = long many refl refl
says bytes (not_utf8 few none at) = bad few none refl at
says bytes (other {rest = rest} few utf8 p place_is) = faulty rest few utf8 p place_is
says bytes (syntax few utf8 p first) = lost few utf8 p first refl

same_says : (bytes : List ℕ) (k l : TreeKind) (m n : ℕ) → Says bytes k m → Says bytes l n → (k ≡ l) × (m ≡ n)
same_says bytes k l m n (long many k_is m_is) (long too l_is n_is) = (k_is ∙ sym l_is, m_is ∙ sym n_is)
same_says bytes k l m n (long many k_is m_is) (bad few none l_is at) = absurd (omega arith)
same_says bytes k l m n (long many k_is m_is) (faulty rest few utf8 p n_is) = absurd (omega (arith, many, few))
same_says bytes k l m n (long many k_is m_is) (lost few utf8 p first l_is) = absurd (omega (arith, many, few))
same_says bytes k l m n (bad few none k_is at) (long many l_is n_is) = absurd (omega arith)
same_says bytes k l m n (bad few none k_is at) (bad also none_too l_is at_too) = (k_is ∙ sym l_is, sym (utf8_valid_len-IsValidUpTo bytes m at) ∙ utf8_valid_len-IsValidUpTo bytes n at_too)
same_says bytes k l m n (bad few none k_is at) (faulty rest also utf8 p n_is) = absurd (none utf8)
same_says bytes k l m n (bad few none k_is at) (lost also utf8 p first l_is) = absurd (none utf8)
same_says bytes k l m n (faulty rest few utf8 p m_is) (long many l_is n_is) = absurd (omega (arith, many, few))
same_says bytes k l m n (faulty rest few utf8 p m_is) (bad also none l_is at) = absurd (none utf8)
same_says bytes k l m n (faulty rest few utf8 p m_is) (faulty tail also utf8_too q n_is) =
    let same = one_fault bytes (k, length rest) (l, length tail) (fault_stops bytes p) (fault_stops bytes q) in
    (ap (λ (f : Fault). f.0) same, m_is ∙ ap (λ (f : Fault). length bytes - f.1) same ∙ sym n_is)
same_says bytes k l m n (faulty rest few utf8 p m_is) (lost also utf8_too q first l_is) = absurd (lost_behind bytes n k rest q p (first k rest p))
same_says bytes k l m n (lost few utf8 p first k_is) (long many l_is n_is) = absurd (omega (arith, many, few))
same_says bytes k l m n (lost few utf8 p first k_is) (bad also none l_is at) = absurd (none utf8)
same_says bytes k l m n (lost few utf8 p first k_is) (faulty rest also utf8_too q n_is) = absurd (lost_behind bytes m l rest p q (first l rest q))
same_says bytes k l m n (lost few utf8 p first k_is) (lost also utf8_too q first_too l_is) = (k_is ∙ sym l_is, lost_same bytes m n p q)

pub one_refusal_lem : (bytes : List ℕ) (k l : TreeKind) (m n : ℕ) → IsRefusal bytes k m → IsRefusal bytes l n → (k ≡ l) × (m ≡ n)
one_refusal_lem bytes k l m n p q = same_says bytes k l m n (says bytes p) (says bytes q)

pub spelled_unrefused : (bytes : List ℕ) (t : Tree) (kind : TreeKind) (place : ℕ) → SpellsTree bytes t → IsRefusal bytes kind place → ⊥
spelled_unrefused bytes t kind place p q =
    elim (says bytes q) [
      | long many kind_is place_is ↦ omega (arith, p.short, many)
      | bad few none kind_is at ↦ none p.utf8
      | faulty rest few utf8 r place_is ↦ read_stops bytes t (kind, length rest) (spelled_read bytes t p) (fault_stops bytes r)
      | lost few utf8 r first kind_is ↦ lost_unspelled bytes place r (spelled_loose bytes t p)
    ]
