-- The parts of a URL of the scheme of addresses are bytes below 128, and its port has 16 bits.
use Rattle.std.proofs.Common.{◌≡◌, ◌≢◌, ◌∙◌, ◌⊎◌, inl, inr, ℕ, ◌-◌, ◌^◌, ◌<◌, Bool, true, false, cond, not, List, [], ◌∷◌, ◌++◌, length, take, drop, IfSome, IfOk, Option, Some, None, Result, Ok, Err, refl, sym, ap, subst, arith, codes, bytes_eq}
use Rattle.std.specs.Prelude.{◌&&◌, ◌||◌, ◌==◌, is_some, nat_eq, nat_lt, option_map, slice_index, unwrap_or}
use Rattle.std.specs.Char.{is_ascii_digit}
use Rattle.std.specs.List.{list_all}
use Rattle.std.specs.Option.{option_eq, option_or}
use Rattle.std.specs.Str.Parse.{digits_value}
use Rattle.std.proofs.lemmas.Bool.{and_parts, ltb-true, cases_Bool}
use Rattle.std.proofs.lemmas.List.Elements.{All-nil, All-cons, All-append, All-head, All-tail, All-take}
use lib.Pointwise.{bytes_decides}
use Rattle.percent_encoding.specs.declared.ascii_set.AsciiSet.{AsciiSet}
use Rattle.percent_encoding.specs.Percent.{percent_encode}
use Rattle.percent_encoding.proofs.AsciiSetLemmas.{ascii_from_kept}
use Rattle.percent_encoding.proofs.PercentLemmas.{All-percent_encode, IsEscapeByte}
use Rattle.url.specs.declared.error.ParseError.{ParseError}
use Rattle.url.specs.declared.error.ParseError.TheVariants.{EmptyHost, InvalidPort, RelativeUrlWithCannotBeABaseBase, RelativeUrlWithoutBase}
use Rattle.url.specs.declared.host.Host.{Host}
use Rattle.url.specs.declared.host.Host.TheVariants.{Domain}
use Rattle.url.specs.declared.scheme.SchemeType.TheVariants.{File, SpecialNotFile, NotSpecial}
use Rattle.url.specs.declared.sets.TheConstants.{OPAQUE_PATH, PATH}
use Rattle.url.specs.Head.{scheme_only}
use Rattle.url.specs.Host.{parse_file_host, parse_host, parse_special_host}
use Rattle.url.specs.Input.{is_empty, lowercase, rsplit_once, rsplit_step, split_once, strip_tabs_and_new_lines, trim_c0_control_and_space, when}
use Rattle.url.specs.Parser.{Parsed, after_double_slash, after_file_double_slash, and_then, before_tail, file_with_host, is_fragment_only, lacks_host, leading_slashes, parse_all, parse_authority, parse_body, parse_by_scheme, parse_file, parse_non_special, parse_parts, parse_port, parse_relative, parse_url, parse_without_scheme, skip_slashes, split_port, split_scheme, with_path, with_tail, without_default_port}
use Rattle.url.specs.Parts.{Parts, cannot_be_a_base, kind_of, query_set}
use Rattle.url.specs.Path.{dot_count, ends_in_space, escape_end, is_windows_drive_letter, parse_path, parse_path_start, parse_segments, push_segment, segment_len, shorten_path, without_last_segment}
use Rattle.url.specs.Scheme.{default_port, is_file, is_slash, is_special, scheme_type}
use Rattle.addresses.specs.Address.{http}
use Rattle.machine.proofs.UrlHosts.{HostSmall, Small, special_host_small}

abbrev Is128 : ℕ → Type 0
Is128 b = b < 128

-- ---- escapes

escape_small : (b : ℕ) → IsEscapeByte b → b < 128
escape_small b is = grind arith

encoded_small : (set : AsciiSet) (bytes : List ℕ) → Small (percent_encode set bytes)
encoded_small set bytes = All-percent_encode Is128 set bytes (λ b kept. ascii_from_kept set b kept) escape_small

option_small : (set : AsciiSet) (part : Option (List ℕ)) → IfSome (option_map (percent_encode set) part) Small
option_small set None = tt
option_small set (Some bytes) = encoded_small set bytes

either_small : (b : Bool) (x y : List ℕ) → Small x → Small y → Small (cond b x y)
either_small true x y p q = p
either_small false x y p q = q

when_small : (b : Bool) (bytes : List ℕ) → Small bytes → Small (when b bytes)
when_small b bytes small = either_small b bytes [] small (All-nil Is128)

slash_small : Small (47 ∷ [])
slash_small = All-cons Is128 47 [] (omega arith) (All-nil Is128)

-- ---- paths

step_small : (s b : ℕ) (front : Option (List ℕ)) (back : List ℕ) → b < 128 → IfSome front Small → Small back → IfSome (rsplit_step s b front back).0 Small × Small (rsplit_step s b front back).1
step_small s b (Some front) back is p q = (All-cons Is128 b front is p, q)
step_small s b None back is p q = by_test (b == s)
  where
    by_test : (same : Bool) → IfSome (cond {A = Option (List ℕ) × List ℕ} same (Some [], back) (None, b ∷ back)).0 Small × Small (cond {A = Option (List ℕ) × List ℕ} same (Some [], back) (None, b ∷ back)).1
    by_test true = (All-nil Is128, q)
    by_test false = (tt, All-cons Is128 b back is q)

split_small : (s : ℕ) (bytes : List ℕ) → Small bytes → IfSome (rsplit_once s bytes).0 Small × Small (rsplit_once s bytes).1
unfolding rsplit_once
split_small s [] small = (tt, small)
split_small s (b ∷ bytes) small =
    let later = split_small s bytes (All-tail Is128 b bytes small) in
    step_small s b (rsplit_once s bytes).0 (rsplit_once s bytes).1 (All-head Is128 b bytes small) later.0 later.1

unwrapped : (o : Option (List ℕ)) → IfSome o Small → Small (unwrap_or o [])
unwrapped None h = All-nil Is128
unwrapped (Some bytes) h = h

last_small : (path : List ℕ) → Small path → Small (without_last_segment path)
last_small path small = unwrapped (rsplit_once 47 path).0 (split_small 47 path small).0

shorten_small : (path : List ℕ) → Small path → Small (shorten_path SpecialNotFile path)
unfolding shorten_path
shorten_small path small = last_small path small

push_small : (path segment : List ℕ) (is_last : Bool) → Small path → Small (push_segment SpecialNotFile path segment is_last)
unfolding push_segment
push_small path segment is_last small =
    either_small (dot_count segment == 2) (shorten_path SpecialNotFile path ++ when is_last (47 ∷ [])) _
    (All-append Is128 (shorten_path SpecialNotFile path) (when is_last (47 ∷ [])) (shorten_small path small) (when_small is_last (47 ∷ []) slash_small))
    (either_small (dot_count segment == 1) (path ++ when is_last (47 ∷ [])) (path ++ 47 ∷ percent_encode PATH segment)
    (All-append Is128 path (when is_last (47 ∷ [])) small (when_small is_last (47 ∷ []) slash_small))
    (All-append Is128 path (47 ∷ percent_encode PATH segment) small (All-cons Is128 47 (percent_encode PATH segment) (omega arith) (encoded_small PATH segment))))

segments_small : (path segment bytes : List ℕ) → Small path → Small (parse_segments SpecialNotFile path segment bytes)
unfolding parse_segments
segments_small path segment [] small = push_small path segment true small
segments_small path segment (b ∷ bytes) small =
    either_small (is_slash SpecialNotFile b) (parse_segments SpecialNotFile (push_segment SpecialNotFile path segment false) [] bytes) (parse_segments SpecialNotFile path (segment ++ b ∷ []) bytes)
    (segments_small (push_segment SpecialNotFile path segment false) [] bytes (push_small path segment false small))
    (segments_small path (segment ++ b ∷ []) bytes small)

start_small : (path bytes : List ℕ) → Small path → Small (parse_path_start SpecialNotFile path bytes)
unfolding parse_path_start
start_small path bytes small =
    either_small (is_empty bytes && false) path _ small
    (either_small _ (parse_path SpecialNotFile path (drop 1 bytes)) (parse_path SpecialNotFile path bytes) (segments_small path [] (drop 1 bytes) small) (segments_small path [] bytes small))

end_small : (path : List ℕ) → Small path → Small (escape_end path)
end_small path small =
    either_small (ends_in_space path) (take (length path - 1) path ++ codes "%20") path
    (All-append Is128 (take (length path - 1) path) (codes "%20") (All-take Is128 (length path - 1) path small)
    (All-cons Is128 37 (50 ∷ 48 ∷ []) (omega arith) (All-cons Is128 50 (48 ∷ []) (omega arith) (All-cons Is128 48 [] (omega arith) (All-nil Is128))))) small

-- ---- URLs

-- host, port, path and query are so
pub record Plain (url : Parts) : Type 0 where
  pub host : IfSome url.host HostSmall
  pub port : IfSome url.port (λ n. n < 2 ^ 16)
  pub path : Small url.path
  pub query : IfSome url.query Small

parsed_then : {A B : Type 0} (P : A → Type 0) (Q : B → Type 0) (r : Parsed A) (f : A → Parsed B) → IfOk r P → ((x : A) → P x → IfOk (f x) Q) → IfOk (and_then r f) Q
parsed_then P Q (Ok x) f p q = q x p
parsed_then P Q (Err e) f p q = tt

either_parsed : {A : Type 0} (P : A → Type 0) (b : Bool) (x y : Parsed A) → IfOk x P → IfOk y P → IfOk (cond b x y) P
either_parsed P true x y p q = p
either_parsed P false x y p q = q

abbrev PortFits : Option ℕ → Type 0
PortFits port = IfSome port (λ n. n < 2 ^ 16)

either_port : (b : Bool) (port : Option ℕ) → PortFits port → PortFits (cond b None port)
either_port true port p = tt
either_port false port p = p

passes : {A : Type 0} (P : A → Type 0) (b : Bool) (x : A) (e : ParseError) → (b ≡ true → P x) → IfOk (cond b (Ok x) (Err e)) P
passes P true x e p = p refl
passes P false x e p = tt

port_fits : (scheme digits : List ℕ) → IfOk (parse_port scheme digits) PortFits
unfolding parse_port
port_fits scheme digits =
    let n = digits_value 10 digits in
    either_parsed PortFits (is_empty digits) (Ok None) _ tt
    (passes PortFits (list_all is_ascii_digit digits && nat_lt n (2 ^ 16)) (without_default_port scheme (Some n)) InvalidPort
    (λ is. either_port (option_eq nat_eq (Some n) (default_port scheme)) (Some n) (ltb-true n (2 ^ 16) (and_parts (list_all is_ascii_digit digits) (nat_lt n (2 ^ 16)) is).1)))

-- ---- the scheme of addresses

abbrev HostParsed : Result (Host (List ℕ)) ParseError → Type 0
HostParsed r = IfOk r HostSmall

authority_plain : (bytes : List ℕ) → IfOk (parse_authority http bytes) Plain
unfolding parse_authority scheme_type default_port
authority_plain bytes =
    let at = rsplit_once 64 bytes in
    let host_port = split_port at.1 in
    let userinfo = split_once 58 (unwrap_or at.0 []) in
    either_parsed Plain (lacks_host at.0 host_port.0 host_port.1) (Err EmptyHost) _ tt
    (parsed_then HostSmall Plain (parse_special_host host_port.0) _ (special_host_small host_port.0) (λ host h.
    parsed_then PortFits Plain (parse_port http (unwrap_or host_port.1 [])) _ (port_fits http (unwrap_or host_port.1 [])) (λ port p.
    record { host = h; port = p; path = All-nil Is128; query = tt })))

double_slash_plain : (bytes : List ℕ) → IfOk (after_double_slash http bytes) Plain
unfolding after_double_slash scheme_type default_port
double_slash_plain bytes =
    let len = segment_len SpecialNotFile bytes in
    parsed_then Plain Plain (parse_authority http (take len bytes)) _ (authority_plain (take len bytes)) (λ head h.
    record { host = h.host; port = h.port; path = start_small [] (drop len bytes) (All-nil Is128); query = h.query })

-- a base of this scheme
abbrev of_http : Parts → Parts
of_http base = record base { scheme = http }

relative_plain : (base : Parts) (body : List ℕ) → Plain base → IfOk (parse_relative (of_http base) body) Plain
unfolding parse_relative scheme_type default_port
relative_plain base body h =
    let slashes = leading_slashes SpecialNotFile body in
    let path = cond (slashes == 0) (shorten_path SpecialNotFile base.path) [] in
    let small : Small path = either_small (slashes == 0) (shorten_path SpecialNotFile base.path) [] (shorten_small base.path h.path) (All-nil Is128) in
    either_parsed Plain (slashes == 2) (after_double_slash http (skip_slashes body)) _ (double_slash_plain (skip_slashes body))
    (record { host = h.host; port = h.port; path = segments_small path [] (drop slashes body) small; query = tt })

body_plain : (body : List ℕ) → IfOk (parse_body http None body) Plain
unfolding parse_body scheme_type default_port
body_plain body = double_slash_plain (skip_slashes body)

body_plain_beside : (base : Parts) (body : List ℕ) → Plain base → IfOk (parse_body http (Some (of_http base)) body) Plain
unfolding parse_body scheme_type default_port
body_plain_beside base body h = relative_plain base body h

end_plain : (b : Bool) (url : Parts) → Plain url → Plain (cond b (with_path url (escape_end url.path)) url)
end_plain true url h = record { host = h.host; port = h.port; path = end_small url.path h.path; query = h.query }
end_plain false url h = h

tail_plain : (url : Parts) (query fragment : Option (List ℕ)) → Plain url → Plain (with_tail url query fragment)
tail_plain url query fragment h = record { host = h.host; port = h.port; path = h.path; query = option_small (query_set (kind_of url)) query }

all_plain : (base : Option Parts) (body : List ℕ) (query fragment : Option (List ℕ)) → IfOk (parse_body http base body) Plain → IfOk (parse_all http base body query fragment) Plain
all_plain base body query fragment h =
    parsed_then Plain Plain (parse_body http base body) _ h (λ url plain.
    tail_plain (before_tail url query fragment) query fragment (end_plain (not (is_special (kind_of url)) && (is_some query || is_some fragment)) url plain))

parts_plain : (body : List ℕ) (query fragment : Option (List ℕ)) → IfOk (parse_parts http None body query fragment) Plain
unfolding parse_parts
parts_plain body query fragment = all_plain None body query fragment (body_plain body)

parts_plain_beside : (base : Parts) (body : List ℕ) (query fragment : Option (List ℕ)) → Plain base → IfOk (parse_parts http (Some (of_http base)) body query fragment) Plain
unfolding parse_parts
parts_plain_beside base body query fragment h =
    either_parsed Plain (is_empty body) (Ok (with_tail (of_http base) (option_or query base.query) fragment)) _
    (tail_plain (of_http base) (option_or query base.query) fragment (record { host = h.host; port = h.port; path = h.path; query = h.query }))
    (all_plain (Some (of_http base)) body query fragment (body_plain_beside base body h))

-- ---- other schemes

abbrev IsOf : List ℕ → Parts → Type 0
IsOf scheme url = url.scheme ≡ scheme

abbrev IsOfOrFile : List ℕ → Parts → Type 0
IsOfOrFile scheme url = (url.scheme ≡ scheme) ⊎ (url.scheme ≡ codes "file")

any_ok : {A : Type 0} (r : Parsed A) → IfOk r (λ x. Unit {0})
any_ok (Ok x) = tt
any_ok (Err e) = tt

authority_scheme : (scheme bytes : List ℕ) → IfOk (parse_authority scheme bytes) (IsOf scheme)
unfolding parse_authority
authority_scheme scheme bytes =
    let at = rsplit_once 64 bytes in
    let host_port = split_port at.1 in
    either_parsed (IsOf scheme) (lacks_host at.0 host_port.0 host_port.1) (Err EmptyHost) _ tt
    (parsed_then (λ x. Unit {0}) (IsOf scheme) (parse_host (scheme_type scheme) host_port.0) _ (any_ok (parse_host (scheme_type scheme) host_port.0)) (λ host h.
    parsed_then (λ x. Unit {0}) (IsOf scheme) (parse_port scheme (unwrap_or host_port.1 [])) _ (any_ok (parse_port scheme (unwrap_or host_port.1 []))) (λ port p. refl)))

double_slash_scheme : (scheme bytes : List ℕ) → IfOk (after_double_slash scheme bytes) (IsOf scheme)
unfolding after_double_slash
double_slash_scheme scheme bytes =
    let len = segment_len (scheme_type scheme) bytes in
    parsed_then (IsOf scheme) (IsOf scheme) (parse_authority scheme (take len bytes)) _ (authority_scheme scheme (take len bytes)) (λ head is. is)

plain_scheme : (scheme body : List ℕ) → IfOk (parse_non_special scheme body) (IsOf scheme)
unfolding parse_non_special
plain_scheme scheme body =
    let slashes = leading_slashes NotSpecial body in
    either_parsed (IsOf scheme) (slashes == 2) (after_double_slash scheme (drop 2 body)) _ (double_slash_scheme scheme (drop 2 body))
    (either_parsed (IsOf scheme) (slashes == 1) (Ok (with_path (scheme_only scheme) (parse_path NotSpecial [] (drop 1 body)))) (Ok (with_path (scheme_only scheme) (percent_encode OPAQUE_PATH body))) refl refl)

abbrev IsFileUrl : Parts → Type 0
IsFileUrl = IsOf (codes "file")

file_slashes : (bytes : List ℕ) → IfOk (after_file_double_slash bytes) IsFileUrl
unfolding after_file_double_slash
file_slashes bytes =
    let len = segment_len File bytes in
    either_parsed IsFileUrl (is_windows_drive_letter (take len bytes)) (Ok (with_path (file_with_host (Domain [])) (parse_path File [] bytes))) _ refl
    (parsed_then (λ x. Unit {0}) IsFileUrl (parse_file_host (take len bytes)) _ (any_ok (parse_file_host (take len bytes))) (λ host h. refl))

file_scheme : (body : List ℕ) → IfOk (parse_file None body) IsFileUrl
unfolding parse_file
file_scheme body =
    let slashes = leading_slashes File body in
    let rest = drop slashes body in
    either_parsed IsFileUrl (slashes == 2) (after_file_double_slash rest) _ (file_slashes rest) refl

weaken : {A : Type 0} (P Q : A → Type 0) (r : Parsed A) → ((x : A) → P x → Q x) → IfOk r P → IfOk r Q
weaken P Q (Ok x) f p = f x p
weaken P Q (Err e) f p = tt

body_scheme : (scheme body : List ℕ) → IfOk (parse_body scheme None body) (IsOfOrFile scheme)
unfolding parse_body
body_scheme scheme body =
    either_parsed (IsOfOrFile scheme) (is_file (scheme_type scheme)) (parse_file None body) _ (weaken IsFileUrl (IsOfOrFile scheme) (parse_file None body) (λ url is. inr is) (file_scheme body))
    (either_parsed (IsOfOrFile scheme) (is_special (scheme_type scheme)) (after_double_slash scheme (skip_slashes body)) (parse_non_special scheme body)
    (weaken (IsOf scheme) (IsOfOrFile scheme) (after_double_slash scheme (skip_slashes body)) (λ url is. inl is) (double_slash_scheme scheme (skip_slashes body)))
    (weaken (IsOf scheme) (IsOfOrFile scheme) (parse_non_special scheme body) (λ url is. inl is) (plain_scheme scheme body)))

end_scheme : (b : Bool) (scheme : List ℕ) (url : Parts) → IsOfOrFile scheme url → IsOfOrFile scheme (cond b (with_path url (escape_end url.path)) url)
end_scheme true scheme url h = h
end_scheme false scheme url h = h

parts_scheme : (scheme body : List ℕ) (query fragment : Option (List ℕ)) → IfOk (parse_parts scheme None body query fragment) (IsOfOrFile scheme)
unfolding parse_parts
parts_scheme scheme body query fragment =
    parsed_then (IsOfOrFile scheme) (IsOfOrFile scheme) (parse_body scheme None body) _ (body_scheme scheme body) (λ url is.
    end_scheme (not (is_special (kind_of url)) && (is_some query || is_some fragment)) scheme url is)

file_is_not_http : codes "file" ≡ http → ⊥
file_is_not_http e = apart (ap (λ (xs : List ℕ). slice_index xs 0) e)
  where
    apart : ◌≡◌ {A = ℕ} 102 104 → ⊥
    apart e = omega (arith, e)

ok_holds : {A : Type 0} (P : A → Type 0) (r : Parsed A) (x : A) → r ≡ Ok x → IfOk r P → P x
ok_holds P r x is h = subst (λ (r : Parsed _). IfOk r P) is h

-- a URL of another scheme that stands alone has another scheme
other_scheme : {P : Type 0} (scheme body : List ℕ) (query fragment : Option (List ℕ)) (url : Parts) → scheme ≢ http → parse_parts scheme None body query fragment ≡ Ok url → url.scheme ≡ http → P
other_scheme {P} scheme body query fragment url other read is = by (ok_holds (IsOfOrFile scheme) (parse_parts scheme None body query fragment) url read (parts_scheme scheme body query fragment))
  where
    by : (url.scheme ≡ scheme) ⊎ (url.scheme ≡ codes "file") → P
    by (inl same) = absurd (other (sym same ∙ is))
    by (inr file) = absurd (file_is_not_http (sym file ∙ is))

-- ---- the whole

same_or_other : (scheme : List ℕ) → (scheme ≡ http) ⊎ (scheme ≢ http)
same_or_other scheme = by (cases_Bool (bytes_eq scheme http))
  where
    clash : {P : Type 0} → false ≡ true → P
    clash e = absurd cc

    by : (bytes_eq scheme http ≡ true) ⊎ (bytes_eq scheme http ≡ false) → (scheme ≡ http) ⊎ (scheme ≢ http)
    by (inl same) = inl ((bytes_decides scheme http).0 same)
    by (inr other) = inr (λ e. clash (sym other ∙ (bytes_decides scheme http).1 e))

err_not_ok : {A P : Type 0} (e : ParseError) (x : A) → ◌≡◌ {A = Parsed A} (Err e) (Ok x) → P
err_not_ok e x is = absurd cc

-- it stands alone
by_scheme_plain : (split : Option (List ℕ × List ℕ)) (body : List ℕ) (query fragment : Option (List ℕ)) (url : Parts) → parse_by_scheme split None body query fragment ≡ Ok url → url.scheme ≡ http → Plain url
by_scheme_plain None body query fragment url read is = err_not_ok RelativeUrlWithoutBase url read
by_scheme_plain (Some split) body query fragment url read is = by (same_or_other (lowercase split.0))
  where
    by : (lowercase split.0 ≡ http) ⊎ (lowercase split.0 ≢ http) → Plain url
    by (inl same) = ok_holds Plain (parse_parts http None split.1 query fragment) url (ap (λ (s : List ℕ). parse_parts s None split.1 query fragment) (sym same) ∙ read) (parts_plain split.1 query fragment)
    by (inr other) = other_scheme (lowercase split.0) split.1 query fragment url other read is

-- it stands beside another
chosen_plain : (b : Bool) (scheme : List ℕ) (base : Parts) (body : List ℕ) (query fragment : Option (List ℕ)) (url : Parts) → (b ≡ true → http ≡ scheme) → Plain base
    → parse_parts scheme (cond b (Some (of_http base)) None) body query fragment ≡ Ok url → url.scheme ≡ http → Plain url
chosen_plain true scheme base body query fragment url same h read is =
    ok_holds Plain (parse_parts http (Some (of_http base)) body query fragment) url (ap (λ (s : List ℕ). parse_parts s (Some (of_http base)) body query fragment) (same refl) ∙ read) (parts_plain_beside base body query fragment h)
chosen_plain false scheme base body query fragment url same h read is = by (same_or_other scheme)
  where
    by : (scheme ≡ http) ⊎ (scheme ≢ http) → Plain url
    by (inl e) = ok_holds Plain (parse_parts http None body query fragment) url (ap (λ (s : List ℕ). parse_parts s None body query fragment) (sym e) ∙ read) (parts_plain body query fragment)
    by (inr other) = other_scheme scheme body query fragment url other read is

by_scheme_beside : (split : Option (List ℕ × List ℕ)) (base : Parts) (body : List ℕ) (query fragment : Option (List ℕ)) (url : Parts) → Plain base → parse_by_scheme split (Some (of_http base)) body query fragment ≡ Ok url → url.scheme ≡ http → Plain url
by_scheme_beside None base body query fragment url h read is =
    ok_holds Plain (parse_without_scheme (Some (of_http base)) body query fragment) url read
    (either_parsed Plain (cannot_be_a_base (of_http base) && not (is_fragment_only body query fragment)) (Err RelativeUrlWithCannotBeABaseBase) (parse_parts http (Some (of_http base)) body query fragment) tt (parts_plain_beside base body query fragment h))
by_scheme_beside (Some split) base body query fragment url h read is =
    chosen_plain (is_special (kind_of (of_http base)) && bytes_eq http (lowercase split.0)) (lowercase split.0) base split.1 query fragment url
    (λ t. (bytes_decides http (lowercase split.0)).0 (and_parts (is_special (kind_of (of_http base))) (bytes_eq http (lowercase split.0)) t).1) h read is

pub alone_is_plain : (text : List ℕ) (url : Parts) → parse_url None text ≡ Ok url → url.scheme ≡ http → Plain url
unfolding parse_url
alone_is_plain text url read is =
    let hash = split_once 35 (strip_tabs_and_new_lines (trim_c0_control_and_space text)) in
    let question = split_once 63 hash.0 in
    by_scheme_plain (split_scheme question.0) question.0 question.1 hash.1 url read is

beside_http : (base : Parts) (text : List ℕ) (url : Parts) → Plain base → parse_url (Some (of_http base)) text ≡ Ok url → url.scheme ≡ http → Plain url
unfolding parse_url
beside_http base text url h read is =
    let hash = split_once 35 (strip_tabs_and_new_lines (trim_c0_control_and_space text)) in
    let question = split_once 63 hash.0 in
    by_scheme_beside (split_scheme question.0) base question.0 question.1 hash.1 url h read is

pub beside_is_plain : (base : Parts) (text : List ℕ) (url : Parts) → Plain base → base.scheme ≡ http → parse_url (Some base) text ≡ Ok url → url.scheme ≡ http → Plain url
beside_is_plain base text url h scheme read is =
    let same : of_http base ≡ base = ap (λ (s : List ℕ). record base { scheme = s }) (sym scheme) in
    beside_http base text url h (ap (λ (b : Parts). parse_url (Some b) text) same ∙ read) is
