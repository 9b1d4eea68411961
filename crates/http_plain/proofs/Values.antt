-- The values of the fields of a name.
use Rattle.std.proofs.Common.{◌≡◌, ◌<◌, ◌≤◌, ◌+◌, ◌-◌, ◌&&◌, not, ℕ, suc, Bool, true, false, cond, List, [], ◌∷◌, length, drop, get_or, map, refl, ap, sym, ◌∙◌, arith, add-one}
use Rattle.std.specs.List.{filter, list_all}
use Rattle.std.specs.Str.{bytes_eq, str_eq_ignore_ascii_case}
use Rattle.std.proofs.Math.Seq.{drop-cons}
use Rattle.std.proofs.lemmas.List.{drop_all}
use Rattle.httparse.specs.declared.spans.HeaderSpan.{HeaderSpan}
use Rattle.httparse.specs.Spans.{header_bytes}
use Rattle.http_plain.specs.declared.lengths.Named.{Named}
use Rattle.http_plain.specs.declared.lengths.Named.TheVariants.{Nothing}
use Rattle.http_plain.specs.Exchange.{joined, named_by}
use Rattle.small_types.specs.Decimal.{decimal_of}
use Rattle.http_plain.specs.Fields.{values_of, values_at}

-- whether a field has the name
abbrev pub named : List ℕ → HeaderSpan → List ℕ → Bool
named bytes header name = str_eq_ignore_ascii_case (header_bytes bytes header).0 name

abbrev pub with_field : Bool → List ℕ → List (List ℕ) → List (List ℕ)
with_field is value values = cond is (value ∷ values) values

map_second : {A B : Type 0} (is : Bool) (x : A) (xs : List A) (f : A → B) → map f (cond is (x ∷ xs) xs) ≡ cond is (f x ∷ map f xs) (map f xs)
map_second true x xs f = refl
map_second false x xs f = refl

-- one field, and those behind it
pub values_cons : (name value other : List ℕ) (pairs : List (List ℕ × List ℕ))
    → values_of name ((other, value) ∷ pairs) ≡ with_field (str_eq_ignore_ascii_case other name) value (values_of name pairs)
unfolding values_of
values_cons name value other pairs =
    map_second (str_eq_ignore_ascii_case other name) (other, value)
    (filter (λ (pair : List ℕ × List ℕ). str_eq_ignore_ascii_case pair.0 name) pairs) (λ (pair : List ℕ × List ℕ). pair.1)

pub values_nil : (name : List ℕ) → values_of name [] ≡ []
unfolding values_of
values_nil name = refl

-- the field at a place, and those behind it
pub values_step : (bytes : List ℕ) (headers : List HeaderSpan) (name : List ℕ) (i : ℕ) (d : HeaderSpan) → i < length headers
    → values_at bytes (drop i headers) name
    ≡ with_field (named bytes (get_or headers i d) name) (header_bytes bytes (get_or headers i d)).1 (values_at bytes (drop (i + 1) headers) name)
values_step bytes headers name i d within =
    let header : HeaderSpan = get_or headers i d in
    ap (λ rest. values_at bytes rest name) (drop-cons headers i d within)
    ∙ values_cons name (header_bytes bytes header).1 (header_bytes bytes header).0 (map (header_bytes bytes) (drop (suc i) headers))
    ∙ ap (λ n. with_field (named bytes header name) (header_bytes bytes header).1 (values_at bytes (drop n headers) name)) (sym (add-one i))

pub values_done : (bytes : List ℕ) (headers : List HeaderSpan) (name : List ℕ) (i : ℕ) → length headers ≤ i
    → values_at bytes (drop i headers) name ≡ []
values_done bytes headers name i done = ap (λ rest. values_at bytes rest name) (drop_all i headers done) ∙ values_nil name

-- ---- how many there are

count_with : (is : Bool) (value : List ℕ) (values : List (List ℕ)) → length (with_field is value values) ≡ cond is 1 0 + length values
count_with true value values = omega arith
count_with false value values = omega arith

pub count_step : (bytes : List ℕ) (headers : List HeaderSpan) (name : List ℕ) (i : ℕ) (d : HeaderSpan) (count one total : ℕ) → i < length headers
    → one ≡ cond (named bytes (get_or headers i d) name) 1 0
    → count + length (values_at bytes (drop i headers) name) ≡ total
    → (count + one) + length (values_at bytes (drop (i + 1) headers) name) ≡ total
count_step bytes headers name i d count one total within is so_far =
    let header : HeaderSpan = get_or headers i d in
    let rest : List (List ℕ) = values_at bytes (drop (i + 1) headers) name in
    let step : length (values_at bytes (drop i headers) name) ≡ cond (named bytes header name) 1 0 + length rest =
    ap length (values_step bytes headers name i d within) ∙ count_with (named bytes header name) (header_bytes bytes header).1 rest in
    omega arith

pub one_most : (is : Bool) (one : ℕ) → one ≡ cond is 1 0 → one ≤ 1
one_most true one e = omega arith
one_most false one e = omega arith

pub count_done : (bytes : List ℕ) (headers : List HeaderSpan) (name : List ℕ) (i count total : ℕ) → length headers ≤ i
    → count + length (values_at bytes (drop i headers) name) ≡ total → count ≡ total
count_done bytes headers name i count total done so_far =
    let none : length (values_at bytes (drop i headers) name) ≡ 0 = ap length (values_done bytes headers name i done) in
    omega arith

-- ---- whether all are one value

all_same : (is equal : Bool) (f : List ℕ → Bool) (value : List ℕ) (values : List (List ℕ)) → f value ≡ equal → is && not equal ≡ false
    → list_all f (with_field is value values) ≡ list_all f values
all_same true true f value values e none = ap (λ t. t && list_all f values) e
all_same true false f value values e none = cc
all_same false equal f value values e none = refl

one_other : (is equal : Bool) (f : List ℕ → Bool) (value : List ℕ) (values : List (List ℕ)) → f value ≡ equal → is && not equal ≡ true
    → list_all f (with_field is value values) ≡ false
one_other true true f value values e other = cc
one_other true false f value values e other = ap (λ t. t && list_all f values) e
one_other false equal f value values e other = cc

abbrev pub equals : List ℕ → List ℕ → Bool
equals value given = bytes_eq given value

abbrev pub differing : List ℕ → HeaderSpan → List ℕ → List ℕ → Bool
differing bytes header name value = named bytes header name && not (equals value (header_bytes bytes header).1)

pub all_step : (bytes : List ℕ) (headers : List HeaderSpan) (name value : List ℕ) (i : ℕ) (d : HeaderSpan) (t all : Bool) → i < length headers
    → t ≡ differing bytes (get_or headers i d) name value → t ≡ false
    → list_all (equals value) (values_at bytes (drop i headers) name) ≡ all
    → list_all (equals value) (values_at bytes (drop (i + 1) headers) name) ≡ all
all_step bytes headers name value i d t all within is none so_far =
    let header : HeaderSpan = get_or headers i d in
    sym (all_same (named bytes header name) _ (equals value) (header_bytes bytes header).1 (values_at bytes (drop (i + 1) headers) name) refl (sym is ∙ none))
    ∙ ap (list_all (equals value)) (sym (values_step bytes headers name i d within))
    ∙ so_far

pub all_stop : (bytes : List ℕ) (headers : List HeaderSpan) (name value : List ℕ) (i : ℕ) (d : HeaderSpan) (t all : Bool) → i < length headers
    → t ≡ differing bytes (get_or headers i d) name value → t ≡ true
    → list_all (equals value) (values_at bytes (drop i headers) name) ≡ all
    → false ≡ all
all_stop bytes headers name value i d t all within is other so_far =
    let header : HeaderSpan = get_or headers i d in
    sym (one_other (named bytes header name) _ (equals value) (header_bytes bytes header).1 (values_at bytes (drop (i + 1) headers) name) refl (sym is ∙ other))
    ∙ ap (list_all (equals value)) (sym (values_step bytes headers name i d within))
    ∙ so_far

pub all_done : (bytes : List ℕ) (headers : List HeaderSpan) (name value : List ℕ) (i : ℕ) (all : Bool) → length headers ≤ i
    → list_all (equals value) (values_at bytes (drop i headers) name) ≡ all → true ≡ all
all_done bytes headers name value i all done so_far =
    sym (ap (list_all (equals value)) (values_done bytes headers name i done)) ∙ so_far

-- ---- the length that they name

abbrev pub step_named : Bool → List ℕ → Named → Named
step_named is value later = cond is (joined (decimal_of value) later) later

named_with : (is : Bool) (value : List ℕ) (values : List (List ℕ)) → named_by (with_field is value values) ≡ step_named is value (named_by values)
named_with true value values = refl
named_with false value values = refl

pub named_step : (bytes : List ℕ) (headers : List HeaderSpan) (name : List ℕ) (i : ℕ) (d : HeaderSpan) (one later : Named)
    → 0 < i → i ≤ length headers
    → one ≡ step_named (named bytes (get_or headers (i - 1) d) name) (header_bytes bytes (get_or headers (i - 1) d)).1 later
    → later ≡ named_by (values_at bytes (drop i headers) name)
    → one ≡ named_by (values_at bytes (drop (i - 1) headers) name)
named_step bytes headers name i d one later some within is so_far =
    let header : HeaderSpan = get_or headers (i - 1) d in
    let back : i ≡ i - 1 + 1 = omega arith in
    let below : i - 1 < length headers = omega arith in
    let known : later ≡ named_by (values_at bytes (drop (i - 1 + 1) headers) name) = so_far ∙ ap (λ n. named_by (values_at bytes (drop n headers) name)) back in
    is
    ∙ ap (step_named (named bytes header name) (header_bytes bytes header).1) known
    ∙ sym (named_with (named bytes header name) (header_bytes bytes header).1 (values_at bytes (drop (i - 1 + 1) headers) name))
    ∙ ap named_by (sym (values_step bytes headers name (i - 1) d below))

pub named_first : (bytes : List ℕ) (headers : List HeaderSpan) (name : List ℕ)
    → Nothing ≡ named_by (values_at bytes (drop (length headers) headers) name)
named_first bytes headers name = sym (ap named_by (values_done bytes headers name (length headers) (omega arith)))
