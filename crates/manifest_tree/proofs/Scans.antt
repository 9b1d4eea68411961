-- Parts that hold no value.
use Rattle.std.proofs.Common.{◌≡◌, ℕ, zero, suc, ◌+◌, ◌<◌, Bool, true, List, [], ◌∷◌, length, drop, get_or, Result, Err, refl, sym, ap, subst, ◌∙◌, arith}
use Rattle.std.specs.Prelude.{◌||◌}
use Rattle.std.specs.Str.{bytes_eq}
use Rattle.std.proofs.lemmas.List.{nil_from_length, at_drop_more}
use Rattle.manifest_tree.specs.declared.fault.Stop.{Stop}
use Rattle.manifest_tree.specs.declared.fault.Stop.TheVariants as stops
use Rattle.manifest_tree.specs.declared.fault.TreeKind.{TreeKind}
use Rattle.manifest_tree.specs.declared.fault.TreeKind.TheVariants.{Syntax}
use Rattle.manifest_tree.specs.declared.node.Attribute.{Attribute}
use Rattle.manifest_tree.specs.Lexis.{Read, expect, is_among}
use Rattle.manifest_tree.specs.Outcome.{Gives}
use Rattle.manifest_tree.specs.Spots.{names_of}

-- a spelling that goes on past the end
pub expect_cut : (mark : List ℕ) (i : ℕ) (rest : List ℕ) → i < length mark → length rest ≡ 0 → expect (drop i mark) rest ≡ Err (Syntax, length rest)
expect_cut [] i rest lt none = absurd (omega arith)
expect_cut (m ∷ ms) zero rest lt none = rw (nil_from_length rest none) refl
expect_cut (m ∷ ms) (suc i) rest lt none = expect_cut ms i rest (omega arith) none

-- one name more of those that are looked through
pub among_more : (seen : List Attribute) (name : List ℕ) (i : ℕ) (a : Attribute) → i < length seen → a ≡ get_or seen i a
    → is_among (names_of (drop i seen)) name ≡ (bytes_eq a.name name || is_among (names_of (drop (i + 1) seen)) name)
among_more seen name i a lt is = at_drop_more (λ (rest : List Attribute). is_among (names_of rest) name) seen i a lt ∙ ap (λ (b : Attribute). bytes_eq b.name name || is_among (names_of (drop (i + 1) seen)) name) (sym is)

pub among_found : (seen : List Attribute) (name : List ℕ) (i : ℕ) (a : Attribute) (held : List ℕ) → i < length seen → a ≡ get_or seen i a → held ≡ a.name → bytes_eq held name ≡ true
    → is_among (names_of (drop i seen)) name ≡ true
among_found seen name i a held lt is held_is same =
    among_more seen name i a lt is ∙ ap (λ (h : List ℕ). bytes_eq h name || is_among (names_of (drop (i + 1) seen)) name) (sym held_is) ∙ ap (λ (b : Bool). b || is_among (names_of (drop (i + 1) seen)) name) same

pub gives_err : {X Y : Type 0} (view : X → Y) (r : Result X Stop) (kind : TreeKind) (left : ℕ) (read : Read Y) → r ≡ Err (stops.Fault kind left) → read ≡ Err (kind, left) → Gives view r read
gives_err {X = X} view r kind left read is fails = subst (λ (x : Result X Stop). Gives view x read) (sym is) fails
