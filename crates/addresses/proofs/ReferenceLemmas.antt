-- A name is joined to the URL of an address.
use Rattle.std.proofs.Common.{◌≡◌, ◌≢◌, ℕ, ◌<◌, ◌-◌, Bool, true, false, cond, not, ◌&&◌, ◌||◌, ◌==◌, nat_lt, ◌⊎◌, inl, inr, ⊎_elim, List, [], ◌∷◌, ◌++◌, length, get_or, take_all, Some, None, Ok, All, append_assoc, refl, ap, ◌∙◌, arith}
use Rattle.std.specs.Prelude.{codes, reverse}
use Rattle.std.specs.List.{prefix_len}
use Rattle.std.proofs.lemmas.Bool.{cond_both, cond-false, cases_lt, ne_eqb, and_right, lt-leb}
use Rattle.std.proofs.lemmas.Bool.Decides.{nat_tests}
use Rattle.std.proofs.lemmas.List.{length-reverse, get_or-reverse, get_or_past}
use Rattle.std.proofs.lemmas.List.Elements.{All-nil, All-cons, All-head, All-append, All-weaker, All-get_or}
use Rattle.std.proofs.Math.Nat.{sub-zero}
use Rattle.percent_encoding.specs.Percent.{percent_encode_byte}
use Rattle.percent_encoding.proofs.PercentLemmas.{IsEscapeByte, All-percent_encode_byte}
use Rattle.identity.specs.Key.{is_unreserved, word_text}
use Rattle.url.specs.declared.scheme.SchemeType.{SchemeType}
use Rattle.url.specs.declared.scheme.SchemeType.TheVariants.{SpecialNotFile}
use Rattle.url.specs.Input.{is_empty, is_c0_control_or_space, trim_c0_control_and_space, strip_tabs_and_new_lines, is_tab_or_new_line}
use Rattle.url.specs.Scheme.{scheme_type, default_port, scheme_len, is_special, is_file, is_slash}
use Rattle.url.specs.Path.{parse_path, escape_end}
use Rattle.url.specs.Parts.{Parts, kind_of, HasSameHost}
use Rattle.url.specs.Parser.{Parsed, with_path, inherit, with_tail, before_tail, parse_body, parse_parts, parse_relative, leading_slashes, split_scheme, parse_url}
use Rattle.url.proofs.InputLemmas.{IsNot, Passes, split_once_none, filter_all, All_from_list_all}
use Rattle.addresses.specs.Address.{http}
use Rattle.addresses.specs.Join.{file_reference}
use Rattle.addresses.proofs.BaseLemmas.{IsHttp}

-- ---- the bytes of a reference

-- a visible byte that begins no scheme, query, fragment or backslash
abbrev is_plain : ℕ → Bool
is_plain b = nat_lt 32 b && not (b == 35) && not (b == 58) && not (b == 63) && not (b == 92)

abbrev pub IsPlain : ℕ → Type 0
IsPlain b = Passes is_plain b

kept_plain : (b : ℕ) → (is_unreserved b || b == 47) ≡ true → IsPlain b
kept_plain b kept = grind (arith, nat_tests)

escape_plain : (b : ℕ) → IsEscapeByte b → IsPlain b
escape_plain b is = grind (arith, nat_tests)

byte_plain : (b : ℕ) → All IsPlain (cond (is_unreserved b || b == 47) (b ∷ []) (percent_encode_byte b))
byte_plain b =
    cond_both (is_unreserved b || b == 47) (b ∷ []) (percent_encode_byte b) (All IsPlain) (λ kept. All-cons IsPlain b [] (kept_plain b kept) (All-nil IsPlain))
    (λ _. All-weaker IsEscapeByte IsPlain escape_plain (percent_encode_byte b) (All-percent_encode_byte b))

word_plain : (bytes : List ℕ) → All IsPlain (word_text bytes)
unfolding word_text
word_plain [] = All-nil IsPlain
word_plain (b ∷ bytes) =
    All-append IsPlain (cond (is_unreserved b || b == 47) (b ∷ []) (percent_encode_byte b)) (word_text bytes) (byte_plain b) (word_plain bytes)

deploy_plain : All IsPlain (codes ".deploy")
deploy_plain = All_from_list_all is_plain (codes ".deploy") refl

pub reference_plain : (mapped : Bool) (name : List ℕ) → All IsPlain (file_reference mapped name)
unfolding file_reference
reference_plain mapped name =
    All-append IsPlain (word_text name) (cond mapped (codes ".deploy") []) (word_plain name) (cond_both mapped (codes ".deploy") [] (All IsPlain) (λ _. deploy_plain) (λ _. All-nil IsPlain))

-- ---- nothing of it is cut off

plain_visible : (b : ℕ) → IsPlain b → 32 < b
plain_visible b is = grind (arith, nat_tests)

plain_not : (mark : ℕ) → (mark ≡ 35) ⊎ ((mark ≡ 58) ⊎ (mark ≡ 63)) → (b : ℕ) → IsPlain b → b ≢ mark
plain_not mark is b plain same = grind (arith, nat_tests)

none_trimmed : (bytes : List ℕ) → (0 < length bytes → 32 < get_or bytes 0 0) → prefix_len is_c0_control_or_space bytes ≡ 0
none_trimmed [] first = refl
none_trimmed (x ∷ xs) first = cond-false _ _ _ (lt-leb x 32 (first (omega arith)))

plain_kept : (bytes : List ℕ) → All IsPlain bytes → strip_tabs_and_new_lines (trim_c0_control_and_space bytes) ≡ bytes
unfolding strip_tabs_and_new_lines trim_c0_control_and_space
plain_kept bytes plain =
    let at = λ (i : ℕ) (inside : i < length bytes). plain_visible (get_or bytes i 0) (All-get_or IsPlain bytes i 0 inside plain) in
    let len = length-reverse bytes in
    let start = none_trimmed bytes (λ inside. at 0 inside) in
    let end = none_trimmed (reverse bytes) (λ inside. rw (get_or-reverse bytes 0 0 (omega arith), sub-zero) (at (length bytes - 1) (omega arith))) in
    rw (start, end, take_all (length bytes - 0) bytes (omega arith))
    (filter_all (λ b. not (is_tab_or_new_line b)) bytes (All-weaker IsPlain (Passes (λ b. not (is_tab_or_new_line b))) (λ b is. let above = plain_visible b is in grind (arith, nat_tests)) bytes plain))

-- ---- it has no scheme

no_colon_at : (bytes : List ℕ) (i : ℕ) → All IsPlain bytes → get_or bytes i 0 ≢ 58
no_colon_at bytes i plain =
    ⊎_elim (λ inside. plain_not 58 (inr (inl refl)) (get_or bytes i 0) (All-get_or IsPlain bytes i 0 inside plain))
    (λ outside same. let none = get_or_past bytes i 0 outside in omega arith) (cases_lt i (length bytes))

plain_no_scheme : (bytes : List ℕ) → All IsPlain bytes → split_scheme bytes ≡ None
unfolding split_scheme
plain_no_scheme bytes plain =
    let other : (get_or bytes (scheme_len bytes) 0 == 58) ≡ false = ne_eqb _ 58 (no_colon_at bytes (scheme_len bytes) plain) in
    cond-false _ _ _ (and_right (nat_lt 0 (scheme_len bytes)) (get_or bytes (scheme_len bytes) 0 == 58) other)

-- ---- it begins with no slash

-- nothing, or a first byte that is no slash
abbrev pub IsRelative : List ℕ → Type 0
IsRelative [] = Unit {0}
IsRelative (b ∷ bytes) = b ≢ 47

relative_slashes : (bytes : List ℕ) → All IsPlain bytes → IsRelative bytes → leading_slashes SpecialNotFile bytes ≡ 0
unfolding leading_slashes
relative_slashes [] plain relative = refl
relative_slashes (b ∷ bytes) plain relative =
    let is : IsPlain b = All-head IsPlain b bytes plain in
    let other : is_slash SpecialNotFile b ≡ false = grind (arith, nat_tests) in
    cond-false _ _ _ other

-- a name whose first byte is no slash is such a reference
escape_relative : (b : ℕ) (more : List ℕ) → IsRelative (percent_encode_byte b ++ more)
unfolding percent_encode_byte
escape_relative b more = omega arith

word_relative : (b : ℕ) (bytes more : List ℕ) → b ≢ 47 → IsRelative (word_text (b ∷ bytes) ++ more)
unfolding word_text
word_relative b bytes more other =
    let rest = word_text bytes ++ more in
    rw (append_assoc)
    (cond_both (is_unreserved b || b == 47) (b ∷ []) (percent_encode_byte b) (λ (first : List ℕ). IsRelative (first ++ rest)) (λ _. other) (λ _. escape_relative b rest))

pub reference_relative : (mapped : Bool) (name : List ℕ) → 0 < length name → IsRelative name → IsRelative (file_reference mapped name)
unfolding file_reference
reference_relative mapped [] some relative = absurd (omega arith)
reference_relative mapped (b ∷ name) some relative = word_relative b name (cond mapped (codes ".deploy") []) relative

-- ---- the join

http_not_file : is_file (scheme_type http) ≡ false
unfolding scheme_type default_port
http_not_file = refl

http_kind : scheme_type http ≡ SpecialNotFile
unfolding scheme_type default_port
http_kind = refl

-- the directory of the base, and the reference in it
abbrev beside : Parts → List ℕ → Parts
beside base bytes = with_path (inherit base true) (parse_path (kind_of base) (inherit base true).path bytes)

relative_joined : (base : Parts) (bytes : List ℕ) → base.scheme ≡ http → All IsPlain bytes → IsRelative bytes → parse_relative base bytes ≡ Ok (beside base bytes)
unfolding parse_relative
relative_joined base bytes scheme plain relative =
    let kind : kind_of base ≡ SpecialNotFile = ap scheme_type scheme ∙ http_kind in
    let none : leading_slashes (kind_of base) bytes ≡ 0 = ap (λ (k : SchemeType). leading_slashes k bytes) kind ∙ relative_slashes bytes plain relative in
    rw none refl

body_joined : (base : Parts) (bytes : List ℕ) → base.scheme ≡ http → All IsPlain bytes → IsRelative bytes → parse_body base.scheme (Some base) bytes ≡ Ok (beside base bytes)
unfolding parse_body
body_joined base bytes scheme plain relative =
    cond-false _ _ _ (ap (λ (s : List ℕ). is_file (scheme_type s)) scheme ∙ http_not_file) ∙ relative_joined base bytes scheme plain relative

-- it is on the same host
abbrev IsJoined : Parts → Parsed Parts → Type 0
IsJoined base r = (url : Parts) × (r ≡ Ok url) × HasSameHost base url

tail_joined : (base url : Parts) → HasSameHost base url → HasSameHost base (with_tail (before_tail url None None) None None)
tail_joined base url same =
    cond_both (not (is_special (kind_of url)) && false) (with_path url (escape_end url.path)) url (λ (u : Parts). HasSameHost base (with_tail u None None)) (λ _. same) (λ _. same)

parts_joined : (base : Parts) (bytes : List ℕ) → base.scheme ≡ http → All IsPlain bytes → IsRelative bytes → IsJoined base (parse_parts base.scheme (Some base) bytes None None)
unfolding parse_parts
parts_joined base bytes scheme plain relative =
    cond_both (is_empty bytes) _ _ (IsJoined base) (λ _. (_, refl, (refl, refl, refl)))
    (λ _. rw (body_joined base bytes scheme plain relative) (_, refl, tail_joined base (beside base bytes) (refl, refl, refl)))

pub reference_joined : (base : Parts) (bytes : List ℕ) → IsHttp base → All IsPlain bytes → IsRelative bytes → IsJoined base (parse_url (Some base) bytes)
unfolding parse_url
reference_joined base bytes is plain relative =
    let hash = split_once_none 35 bytes (All-weaker IsPlain (IsNot 35) (plain_not 35 (inl refl)) bytes plain) in
    let question = split_once_none 63 bytes (All-weaker IsPlain (IsNot 63) (plain_not 63 (inr (inr refl))) bytes plain) in
    rw (plain_kept bytes plain, hash, question, plain_no_scheme bytes plain, is.1)
    (parts_joined base bytes is.0 plain relative)
