-- Addresses are within the limit of a URL.
use Rattle.std.proofs.Common.{◌≡◌, ◌+◌, ◌<◌, ◌≤◌, ◌^◌, ◌++◌, ◌||◌, Bool, true, false, not, cond, List, [], ◌∷◌, ℕ, length, Option, Some, None, Result, Ok, Err, bytes_eq, codes, IfSome, IsUtf8, refl, sym, ap, subst, arith, length-append, is_some, is_none, option_map}
use Rattle.std.specs.Prelude.{nat_lt, unwrap_or}
use Rattle.std.specs.List.{concat}
use Rattle.std.specs.Str.{is_utf8}
use Rattle.std.proofs.lemmas.Bool.{ltb-false}
use Rattle.std.proofs.lemmas.List.Elements.{All-append, All-cons, All-nil}
use Rattle.std.proofs.lemmas.Str.{IsUtf8-from_ascii}
use Rattle.std.proofs.lemmas.Str.Ascii.{IsAscii-from_all}
use lib.Pointwise.{bytes_decides}
use Rattle.url.specs.declared.host.Host.{Host}
use Rattle.url.specs.declared.host.Host.TheVariants.{Domain}
use Rattle.url.specs.Host.{host_text}
use Rattle.url.specs.Input.{when}
use Rattle.url.specs.Parser.{Parsed, parse_url}
use Rattle.url.specs.Parts.{Parts, has_credentials, has_host, pieces, serialize}
use Rattle.small_types.specs.declared.limits.TheConstants.{URL_LIMIT}
use Rattle.small_types.specs.declared.target.Target.{Target}
use Rattle.small_types.specs.Outcome.{◌>>=◌}
use Rattle.addresses.specs.declared.fault.UrlFault.{UrlFault}
use Rattle.addresses.specs.declared.fault.UrlFault.TheVariants.{BadUrl, NotHttp}
use Rattle.addresses.specs.Address.{address, host_of, http, http_port, is_refused, is_too_long, query_text, target_of_text, target_of_url, url_of}
use Rattle.addresses.specs.Join.{app_target_of, base_of, resolved, target_text}
use Rattle.addresses.proofs.NameLemmas.{base_http}
use Rattle.machine.specs.Fields.{IsTarget}
use Rattle.machine.proofs.UrlHosts.{HostSmall, Small}
use Rattle.machine.proofs.UrlTexts.{Plain, alone_is_plain, beside_is_plain}

-- host and path together
abbrev pub size_of : Target → ℕ
size_of target = length target.host + length target.path

-- ---- what a URL's text has of them

total : List (List ℕ) → ℕ
total [] = 0
total (x ∷ xs) = length x + total xs

length-concat : (xs : List (List ℕ)) → length (concat xs) ≡ total xs
unfolding total
length-concat [] = refl
length-concat (x ∷ xs) = omega (arith, length-append x (concat xs), length-concat xs)

host_part : (there : Bool) (host : Option (Host (List ℕ))) (empty : Host (List ℕ)) → length (unwrap_or (option_map host_text (cond there host None)) []) ≤ length (host_text (unwrap_or host empty))
host_part true None empty = omega arith
host_part true (Some host) empty = omega arith
host_part false host empty = omega arith

query_part : (query : Option (List ℕ)) → length (query_text query) ≡ length (when (is_some query) (codes "?")) + length (unwrap_or query [])
query_part None = refl
query_part (Some query) = omega (arith, length-append (codes "?") query)

parts_fit : (url : Parts) → size_of (address url) ≤ length (serialize url)
unfolding address total
parts_fit url = omega (arith, length-concat (pieces url), host_part (has_host url) url.host (Domain []), query_part url.query, length-append url.path (query_text url.query))

-- ---- what an address is read from

first_false : (a b : Bool) → (a || b) ≡ false → a ≡ false
first_false true b e = e
first_false false b e = refl

err_is_not_ok : {P : Type 0} (fault : UrlFault) (target : Target) → ◌≡◌ {A = Result Target UrlFault} (Err fault) (Ok target) → P
err_is_not_ok fault target e = absurd cc

one_target : (a b : Target) → ◌≡◌ {A = Result Target UrlFault} (Ok a) (Ok b) → a ≡ b
one_target a b e = cc

-- neither refusal came
picked : (refused other : Bool) (first second : UrlFault) (found target : Target) → cond refused (Err first) (cond other (Err second) (Ok found)) ≡ Ok target → (refused ≡ false) × (found ≡ target)
picked true other first second found target e = err_is_not_ok first target e
picked false true first second found target e = err_is_not_ok second target e
picked false false first second found target e = (refl, one_target found target e)

short_unless_too_long : (url : Parts) → is_too_long url ≡ false → length (serialize url) ≤ URL_LIMIT
unfolding is_too_long
short_unless_too_long url e = ltb-false URL_LIMIT (length (serialize url)) e

too_long_is_refused : (url : Parts) → is_refused url ≡ false → is_too_long url ≡ false
unfolding is_refused
too_long_is_refused url e = first_false (is_too_long url) (has_credentials url) (first_false (is_too_long url || has_credentials url) (is_none (host_of url)) e)

url_is_short : (url : Parts) (target : Target) → target_of_url url ≡ Ok target → size_of target ≤ URL_LIMIT
unfolding target_of_url
url_is_short url target e =
    let found = picked (is_refused url) (not (bytes_eq url.scheme http)) BadUrl (NotHttp url.scheme) (address url) target e in
    let short = short_unless_too_long url (too_long_is_refused url found.0) in
    subst (λ (t : Target). size_of t ≤ URL_LIMIT) found.1 (omega (arith, parts_fit url, short))

parsed_is_short : (url : Result Parts UrlFault) (target : Target) → (url >>= target_of_url) ≡ Ok target → size_of target ≤ URL_LIMIT
parsed_is_short (Ok url) target e = url_is_short url target e
parsed_is_short (Err fault) target e = err_is_not_ok fault target e

after_test : (refused : Bool) (fault : UrlFault) (read : Result Target UrlFault) (target : Target) → cond refused (Err fault) read ≡ Ok target → read ≡ Ok target
after_test true fault read target e = err_is_not_ok fault target e
after_test false fault read target e = e

pub text_is_short : (text : List ℕ) (target : Target) → target_of_text text ≡ Ok target → size_of target ≤ URL_LIMIT
unfolding target_of_text
text_is_short text target e =
    parsed_is_short (url_of (parse_url None text)) target
    (after_test (nat_lt URL_LIMIT (length text) || not (is_utf8 text)) BadUrl (url_of (parse_url None text) >>= target_of_url) target e)

pub codebase_is_short : (base : Target) (codebase : List ℕ) (target : Target) → app_target_of base codebase ≡ Ok target → size_of target ≤ URL_LIMIT
unfolding app_target_of
codebase_is_short base codebase target e = parsed_is_short (resolved base codebase) target e

-- ---- what a store may hold

ascii_utf8 : (bytes : List ℕ) → Small bytes → IsUtf8 bytes
ascii_utf8 bytes small = IsUtf8-from_ascii bytes (IsAscii-from_all bytes small)

host_small : (there : Bool) (host : Option (Host (List ℕ))) → IfSome host HostSmall → Small (unwrap_or (option_map host_text (cond there host None)) [])
host_small true None h = All-nil _
host_small true (Some host) h = h
host_small false host h = All-nil _

query_small : (query : Option (List ℕ)) → IfSome query Small → Small (query_text query)
query_small None h = All-nil _
query_small (Some query) h = All-cons (λ b. b < 128) 63 query (omega arith) h

port_fits : (port : Option ℕ) → IfSome port (λ n. n < 2 ^ 16) → unwrap_or port http_port < 2 ^ 16
port_fits None h = omega arith
port_fits (Some n) h = h

address_held : (url : Parts) → Plain url → size_of (address url) ≤ URL_LIMIT → IsTarget (address url)
unfolding address
address_held url plain few = record {
  host = record { within = omega (arith, few); utf8 = ascii_utf8 (unwrap_or (host_of url) []) (host_small (has_host url) url.host plain.host) };
  port = port_fits url.port plain.port;
  path = record {
    within = omega (arith, few);
    utf8 = ascii_utf8 (url.path ++ query_text url.query) (All-append (λ b. b < 128) url.path (query_text url.query) plain.path (query_small url.query plain.query));
  };
}

not_other : (b : Bool) → not b ≡ false → b ≡ true
not_other true e = refl
not_other false e = absurd cc

-- neither refusal came, and what is found
both_picked : (refused other : Bool) (first second : UrlFault) (found target : Target) → cond refused (Err first) (cond other (Err second) (Ok found)) ≡ Ok target → other ≡ false
both_picked true other first second found target e = err_is_not_ok first target e
both_picked false true first second found target e = err_is_not_ok second target e
both_picked false false first second found target e = refl

url_held : (url : Parts) (target : Target) → target_of_url url ≡ Ok target → (url.scheme ≡ http → Plain url) → IsTarget target
unfolding target_of_url
url_held url target e plain =
    let found = picked (is_refused url) (not (bytes_eq url.scheme http)) BadUrl (NotHttp url.scheme) (address url) target e in
    let other = both_picked (is_refused url) (not (bytes_eq url.scheme http)) BadUrl (NotHttp url.scheme) (address url) target e in
    let scheme : url.scheme ≡ http = (bytes_decides url.scheme http).0 (not_other (bytes_eq url.scheme http) other) in
    let few : size_of (address url) ≤ URL_LIMIT = subst (λ (t : Target). size_of t ≤ URL_LIMIT) (sym found.1) (url_is_short url target e) in
    subst IsTarget found.1 (address_held url (plain scheme) few)

read_held : (url : Result Parts UrlFault) (target : Target) → (url >>= target_of_url) ≡ Ok target → ((u : Parts) → url ≡ Ok u → u.scheme ≡ http → Plain u) → IsTarget target
read_held (Ok url) target e plain = url_held url target e (plain url refl)
read_held (Err fault) target e plain = err_is_not_ok fault target e

parsed_ok : (r : Parsed Parts) (url : Parts) → url_of r ≡ Ok url → r ≡ Ok url
parsed_ok (Ok found) url e = ap Ok (same found url e)
  where
    same : (a b : Parts) → ◌≡◌ {A = Result Parts UrlFault} (Ok a) (Ok b) → a ≡ b
    same a b e = cc
parsed_ok (Err fault) url e = absurd (clash e)
  where
    clash : ◌≡◌ {A = Result Parts UrlFault} (Err BadUrl) (Ok url) → ⊥
    clash e = cc

pub text_is_held : (text : List ℕ) (target : Target) → target_of_text text ≡ Ok target → IsTarget target
unfolding target_of_text
text_is_held text target e =
    read_held (url_of (parse_url None text)) target
    (after_test (nat_lt URL_LIMIT (length text) || not (is_utf8 text)) BadUrl (url_of (parse_url None text) >>= target_of_url) target e)
    (λ url read scheme. alone_is_plain text url (parsed_ok (parse_url None text) url read) scheme)

-- the URL of a reference in a document at a base
reference_plain : (base : Target) (document : Result Parts UrlFault) (reference : List ℕ) (url : Parts) → base_of base ≡ document → (document >>= (λ d. url_of (parse_url (Some d) reference))) ≡ Ok url → url.scheme ≡ http → Plain url
reference_plain base (Ok document) reference url is read scheme =
    let base_is : document.scheme ≡ http = (base_http base document is).0 in
    beside_is_plain document reference url (alone_is_plain (target_text base) document (parsed_ok (parse_url None (target_text base)) document is) base_is) base_is
    (parsed_ok (parse_url (Some document) reference) url read) scheme
reference_plain base (Err fault) reference url is read scheme = absurd (clash read)
  where
    clash : ◌≡◌ {A = Result Parts UrlFault} (Err fault) (Ok url) → ⊥
    clash e = cc

pub codebase_is_held : (base : Target) (codebase : List ℕ) (target : Target) → app_target_of base codebase ≡ Ok target → IsTarget target
unfolding app_target_of resolved
codebase_is_held base codebase target e =
    read_held (resolved base codebase) target e (λ url read scheme. reference_plain base (base_of base) codebase url refl read scheme)
