-- Names of data files that are kept aside.
use Rattle.std.proofs.Common.{◌≡◌, ◌∙◌, ◌≤◌, ◌+◌, ◌&&◌, refl, sym, ap, ℕ, true, false, List, [], length, Option, Some, None, IsUtf8, codes, arith, length-append}
use Rattle.std.specs.Prelude.{nat_le, nat_lt, slice_get}
use Rattle.std.specs.List.{list_all}
use Rattle.std.specs.Str.{is_utf8}
use Rattle.std.proofs.lemmas.Bool.{and_from, and_parts, false_from_ne_true, le-leb, lt-ltb}
use Rattle.std.proofs.lemmas.Slice.Eq.{bytes_eq-Decides}
use Rattle.std.proofs.lemmas.Str.{IsUtf8-append, IsUtf8-from_ascii, IsUtf8-from_is_utf8, is_utf8-from_IsUtf8}
use Rattle.std.proofs.lemmas.Str.Ascii.{IsAscii-cons, IsAscii-nil}
use Rattle.small_types.specs.declared.limits.TheConstants.{LOCAL_NAME_LIMIT, NAME_LIMIT}
use Rattle.small_types.specs.Name.{IsBelowPre, IsName, is_name, is_name_byte, is_name_part, name_parts}
use Rattle.manifests.specs.Applications.{is_below_pre, is_pre}
use Rattle.machine.specs.Migrated.{aside}

-- ---- below `.pre`, as a test

pre_is : (first : Option (List ℕ)) → is_pre first ≡ true → first ≡ Some (codes ".pre")
pre_is None e = absurd cc
pre_is (Some part) e = ap (λ (p : List ℕ). Some p) ((bytes_eq-Decides part (codes ".pre")).0 e)

pub below_from : (name : List ℕ) → is_below_pre name ≡ true → IsBelowPre name
unfolding is_below_pre
below_from name e = pre_is (slice_get (name_parts name) 0) e

pub below_test : (name : List ℕ) → IsBelowPre name → is_below_pre name ≡ true
unfolding is_below_pre
below_test name below = ap is_pre below

pub outside_test : (name : List ℕ) → ¬ IsBelowPre name → is_below_pre name ≡ false
outside_test name outside = false_from_ne_true (is_below_pre name) (λ e. outside (below_from name e))

pub test_outside : (name : List ℕ) → is_below_pre name ≡ false → ¬ IsBelowPre name
test_outside name e below = apart (sym (below_test name below) ∙ e)
  where
    apart : true ≡ false → ⊥
    apart h = cc

-- ---- kept aside

pub aside_below : (name : List ℕ) → IsBelowPre (aside name)
aside_below name = refl

prefix_is_utf8 : IsUtf8 (codes ".pre/")
prefix_is_utf8 = IsUtf8-from_ascii (codes ".pre/") (IsAscii-cons 46 (codes "pre/") (omega arith) (IsAscii-cons 112 (codes "re/") (omega arith) (IsAscii-cons 114 (codes "e/") (omega arith) (IsAscii-cons 101 (codes "/") (omega arith) (IsAscii-cons 47 [] (omega arith) IsAscii-nil)))))

pub aside_is_name : (name : List ℕ) → IsName name → length name ≤ LOCAL_NAME_LIMIT → IsName (aside name)
unfolding is_name
aside_is_name name is short =
    let text = aside name in
    let a = nat_lt 0 (length name) in
    let b = nat_le (length name) NAME_LIMIT in
    let c = list_all is_name_byte name in
    let d = list_all is_name_part (name_parts name) in
    let first = and_parts (a && b && c && d) (is_utf8 name) is in
    let second = and_parts (a && b && c) d first.0 in
    let third = and_parts (a && b) c second.0 in
    let long : length text ≡ length (codes ".pre/") + length name = length-append (codes ".pre/") name in
    let e = nat_lt 0 (length text) in
    let f = nat_le (length text) NAME_LIMIT in
    let g = list_all is_name_byte text in
    let h = list_all is_name_part (name_parts text) in
    and_from (e && f && g && h) (is_utf8 text)
    (and_from (e && f && g) h
    (and_from (e && f) g
    (and_from e f (lt-ltb 0 (length text) (omega arith)) (le-leb (length text) NAME_LIMIT (omega arith)))
    third.1)
    second.1)
    (is_utf8-from_IsUtf8 text (IsUtf8-append (codes ".pre/") name prefix_is_utf8 (IsUtf8-from_is_utf8 name first.1)))
