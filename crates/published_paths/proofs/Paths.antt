-- What the parts of a reference become behind a path.
use Rattle.std.proofs.Common.{◌≡◌, ◌≢◌, ℕ, ◌<◌, Bool, true, false, ◌==◌, List, [], ◌∷◌, ◌++◌, length, All, refl, sym, ap, subst, ◌∙◌, ⊎_elim, inl, inr, append_assoc, arith, lit<}
use Rattle.std.specs.List.{list_all, onto_first, join_with_byte}
use Rattle.std.proofs.lemmas.Bool.{cond-true, cond-false, cases_Bool, both_ways, and_parts, eq-eqb}
use Rattle.std.proofs.lemmas.Bool.Decides.{nat_tests}
use Rattle.std.proofs.lemmas.Grind.{flat_map-append}
use Rattle.std.proofs.lemmas.List.Elements.{All-nil, All-cons, All-head, All-tail, All-weaker}
use Rattle.std.proofs.lemmas.List.Splits.{length-slice_split, join_with_byte-slice_split}
use Rattle.percent_encoding.specs.Percent.{IsKept, percent_encode}
use Rattle.percent_encoding.proofs.AsciiSetLemmas.{kept_from_outside, escaped_from_inside}
use Rattle.percent_encoding.proofs.PercentLemmas.{IsByte, percent_encode_unchanged}
use Rattle.url.specs.declared.sets.TheConstants.{PATH}
use Rattle.url.specs.declared.scheme.SchemeType.TheVariants.{SpecialNotFile}
use Rattle.url.specs.Scheme.{is_slash}
use Rattle.url.specs.Path.{dot_count, push_segment, parse_path}
use Rattle.url.proofs.SetLemmas.{encoded_is_kept, kept_differs}
use Rattle.url.proofs.PathLemmas.{IsNoSlash, IsDots, parse_path_last, parse_path_more, dots_from_encoded, encoded_no_slash}
use Rattle.small_types.specs.Name.{is_name_part, name_parts}
use Rattle.percent_encoding.specs.declared.ascii_set.AsciiSet.{AsciiSet}
use Rattle.percent_encoding.specs.AsciiSet.{contains}
use Rattle.identity.specs.Key.{word_text}
use Rattle.identity.proofs.KeyLemmas.{word_encoded}

-- a part that is no dot segment is put behind the path, with its escapes
pub push_plain : (path part : List ℕ) (is_last : Bool) → dot_count part ≡ 0 → push_segment SpecialNotFile path part is_last ≡ path ++ 47 ∷ percent_encode PATH part
unfolding push_segment
push_plain path part is_last none = rw none refl

-- ---- the parts of a name

-- a part of a name
pub record IsPart (part : List ℕ) : Type 0 where
  pub bytes : All (λ b. (b ≢ 47) × IsByte b) part
  pub kept : is_name_part part ≡ true

no_dots : (part : List ℕ) → is_name_part part ≡ true → ¬ (IsDots part)
no_dots part is (inl one) = both_ways (is_name_part part) (ap is_name_part one) is
no_dots part is (inr two) = both_ways (is_name_part part) (ap is_name_part two) is

-- ---- their words

word_kept : (bytes : List ℕ) → All (IsKept PATH) (word_text bytes)
word_kept bytes = subst (All (IsKept PATH)) (word_encoded bytes) (encoded_is_kept _ PATH refl refl bytes)

pub encoded_whole : (set : AsciiSet) (part : List ℕ) → contains set 92 ≡ true → IsPart part → All (IsNoSlash SpecialNotFile) (percent_encode set part)
encoded_whole set part escapes is =
    encoded_no_slash SpecialNotFile set part (All-weaker (λ b. (b ≢ 47) × IsByte b) (λ b. IsKept set b → IsNoSlash SpecialNotFile b)
    (λ b known kept. let other = kept_differs set 92 escapes b kept in let first = known.0 in grind (arith, nat_tests)) part is.bytes)

word_whole : (part : List ℕ) → IsPart part → All (IsNoSlash SpecialNotFile) (word_text part)
word_whole part is = subst (All (IsNoSlash SpecialNotFile)) (word_encoded part) (encoded_whole _ part refl is)

encoded_resolved : (set : AsciiSet) (part : List ℕ) → contains set 46 ≡ false → contains set 37 ≡ true → IsPart part → dot_count (percent_encode set part) ≡ 0
encoded_resolved set part dot percent is =
    ⊎_elim (λ none. none) (λ some. absurd (⊎_elim (λ kept. both_ways _ kept (escaped_from_inside set 37 percent)) (no_dots part is.kept) some.1))
    (dots_from_encoded set part (kept_from_outside set 46 (lit< tt) dot) (All-weaker (λ b. (b ≢ 47) × IsByte b) IsByte (λ b known. known.1) part is.bytes))

word_resolved : (part : List ℕ) → IsPart part → dot_count (word_text part) ≡ 0
word_resolved part is = subst (λ (t : List ℕ). dot_count t ≡ 0) (word_encoded part) (encoded_resolved _ part refl refl is)

word_pushed : (path part : List ℕ) (is_last : Bool) → IsPart part → push_segment SpecialNotFile path (word_text part) is_last ≡ path ++ 47 ∷ word_text part
word_pushed path part is_last is =
    push_plain path (word_text part) is_last (word_resolved part is) ∙ ap (λ (t : List ℕ). path ++ 47 ∷ t) (percent_encode_unchanged PATH (word_text part) (word_kept part))

pub word_joined : (xs ys : List ℕ) → word_text (xs ++ 47 ∷ ys) ≡ word_text xs ++ 47 ∷ word_text ys
unfolding word_text
word_joined xs ys = flat_map-append _ xs (47 ∷ ys)

words_parsed : (path part : List ℕ) (parts : List (List ℕ)) → IsPart part → All IsPart parts → parse_path SpecialNotFile path (word_text (join_with_byte 47 (part ∷ parts))) ≡ path ++ 47 ∷ word_text (join_with_byte 47 (part ∷ parts))
words_parsed path part [] is others = parse_path_last SpecialNotFile path (word_text part) (word_whole part is) ∙ word_pushed path part true is
words_parsed path part (next ∷ parts) is others =
    let rest = join_with_byte 47 (next ∷ parts) in
    ap (parse_path SpecialNotFile path) (word_joined part rest)
    ∙ parse_path_more SpecialNotFile path (word_text part) 47 (word_text rest) (word_whole part is) refl
    ∙ ap (λ (p : List ℕ). parse_path SpecialNotFile p (word_text rest)) (word_pushed path part false is)
    ∙ words_parsed (path ++ 47 ∷ word_text part) next parts (All-head IsPart next parts others) (All-tail IsPart next parts others)
    ∙ append_assoc path (47 ∷ word_text part) (47 ∷ word_text rest)
    ∙ ap (λ (t : List ℕ). path ++ 47 ∷ t) (sym (word_joined part rest))

-- ---- a name's parts

first_part : (P : ℕ → Type 0) (b : ℕ) (parts : List (List ℕ)) → P b → All (All P) parts → All (All P) (onto_first b parts)
first_part P b [] here others = All-cons (All P) (b ∷ []) [] (All-cons P b [] here (All-nil P)) (All-nil (All P))
first_part P b (part ∷ parts) here others =
    All-cons (All P) (b ∷ part) parts (All-cons P b part here (All-head (All P) part parts others)) (All-tail (All P) part parts others)

parts_hold : (P : ℕ → Type 0) (bytes : List ℕ) → All (λ b. b ≢ 47 → P b) bytes → All (All P) (name_parts bytes)
parts_hold P [] all = All-cons (All P) [] [] (All-nil P) (All-nil (All P))
parts_hold P (b ∷ bytes) all =
    let rest = parts_hold P bytes (All-tail (λ x. x ≢ 47 → P x) b bytes all) in
    elim (cases_Bool (b == 47)) [
      | inl slash ↦ subst (All (All P)) (sym (cond-true _ _ _ slash)) (All-cons (All P) [] (name_parts bytes) (All-nil P) rest)
      | inr other ↦ subst (All (All P)) (sym (cond-false _ _ _ other)) (first_part P b (name_parts bytes) (All-head (λ x. x ≢ 47 → P x) b bytes all (λ same. let is = eq-eqb b 47 same in both_ways _ other is)) rest)
    ]

each_part : (parts : List (List ℕ)) → All (All (λ b. (b ≢ 47) × IsByte b)) parts → list_all is_name_part parts ≡ true → All IsPart parts
each_part [] bytes are = All-nil IsPart
each_part (part ∷ parts) bytes are =
    let known = and_parts _ _ are in
    let Bytes : List ℕ → Type 0 = All (λ b. (b ≢ 47) × IsByte b) in
    All-cons IsPart part parts (record { bytes = All-head Bytes part parts bytes; kept = known.0 }) (each_part parts (All-tail Bytes part parts bytes) known.1)

pub name_each : (name : List ℕ) → All IsByte name → list_all is_name_part (name_parts name) ≡ true → All IsPart (name_parts name)
name_each name bytes are =
    each_part (name_parts name) (parts_hold (λ b. (b ≢ 47) × IsByte b) name (All-weaker IsByte (λ b. b ≢ 47 → (b ≢ 47) × IsByte b) (λ b small other. (other, small)) name bytes)) are

joined_parsed : (path : List ℕ) (parts : List (List ℕ)) → 0 < length parts → All IsPart parts → parse_path SpecialNotFile path (word_text (join_with_byte 47 parts)) ≡ path ++ 47 ∷ word_text (join_with_byte 47 parts)
joined_parsed path [] some each = absurd (omega arith)
joined_parsed path (part ∷ parts) some each = words_parsed path part parts (All-head IsPart part parts each) (All-tail IsPart part parts each)

some_parts : (name : List ℕ) → 0 < length (name_parts name)
some_parts name = let count = length-slice_split (λ b. b == 47) name in omega arith

-- the word of a name stands behind the path as it is
pub name_parsed : (path name : List ℕ) → All IsByte name → list_all is_name_part (name_parts name) ≡ true → parse_path SpecialNotFile path (word_text name) ≡ path ++ 47 ∷ word_text name
name_parsed path name bytes are =
    subst (λ (n : List ℕ). parse_path SpecialNotFile path (word_text n) ≡ path ++ 47 ∷ word_text n) (join_with_byte-slice_split 47 name) (joined_parsed path (name_parts name) (some_parts name) (name_each name bytes are))

-- ---- parts that need no word

-- bytes of a part that holds no separator and no escape
abbrev pub IsFree : ℕ → Type 0
IsFree b = ((b == 37) ≡ false) × (is_slash SpecialNotFile b ≡ false)

pub free_resolved : (part : List ℕ) → All IsFree part → is_name_part part ≡ true → dot_count part ≡ 0
unfolding dot_count
free_resolved [] free is = refl
free_resolved (a ∷ []) free is = let first = All-head IsFree a [] free in grind (arith, nat_tests)
free_resolved (a ∷ b ∷ []) free is = let first = All-head IsFree a (b ∷ []) free in let second = All-head IsFree b [] (All-tail IsFree a (b ∷ []) free) in grind (arith, nat_tests)
free_resolved (a ∷ b ∷ c ∷ rest) free is = let first = All-head IsFree a (b ∷ c ∷ rest) free in let second = All-head IsFree b (c ∷ rest) (All-tail IsFree a (b ∷ c ∷ rest) free) in grind (arith, nat_tests)

free_whole : (part : List ℕ) → All IsFree part → All (IsNoSlash SpecialNotFile) part
free_whole part free = All-weaker IsFree (IsNoSlash SpecialNotFile) (λ b known. known.1) part free

-- three parts with backslashes between them
pub three_parsed : (path a b c : List ℕ) → All IsFree a → All IsFree b → All IsFree c → is_name_part a ≡ true → is_name_part b ≡ true → is_name_part c ≡ true → parse_path SpecialNotFile path (a ++ 92 ∷ (b ++ 92 ∷ c)) ≡ ((path ++ 47 ∷ percent_encode PATH a) ++ 47 ∷ percent_encode PATH b) ++ 47 ∷ percent_encode PATH c
three_parsed path a b c free_a free_b free_c is_a is_b is_c =
    let first = path ++ 47 ∷ percent_encode PATH a in
    let second = first ++ 47 ∷ percent_encode PATH b in
    parse_path_more SpecialNotFile path a 92 (b ++ 92 ∷ c) (free_whole a free_a) refl
    ∙ ap (λ (p : List ℕ). parse_path SpecialNotFile p (b ++ 92 ∷ c)) (push_plain path a false (free_resolved a free_a is_a))
    ∙ parse_path_more SpecialNotFile first b 92 c (free_whole b free_b) refl
    ∙ ap (λ (p : List ℕ). parse_path SpecialNotFile p c) (push_plain first b false (free_resolved b free_b is_b))
    ∙ parse_path_last SpecialNotFile second c (free_whole c free_c)
    ∙ push_plain second c true (free_resolved c free_c is_c)
