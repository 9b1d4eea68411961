-- What every address has.
use Rattle.std.proofs.Common.{◌≡◌, ℕ, ◌<◌, ◌≤◌, ◌⊎◌, true, false, cond, not, ◌||◌, List, [], ◌∷◌, ◌++◌, length, get_or, Option, Some, None, Result, Ok, Err, IsUtf8, refl, sym, ap, subst, ◌∙◌, ⊎_elim, inl, inr, arith}
use Rattle.std.specs.Prelude.{MatchOption, is_none, unwrap_or, option_map, codes}
use Rattle.std.specs.Str.{bytes_eq, is_utf8}
use Rattle.std.specs.Net.Text.{dotted_text}
use Rattle.std.proofs.lemmas.Bool.{both_ways, cases_Bool, or_parts, false_from_ne_true}
use Rattle.std.proofs.lemmas.Bool.Decides.{nat_tests}
use Rattle.std.proofs.lemmas.List.{length-append}
use Rattle.std.proofs.lemmas.Slice.Eq.{bytes_eq-Decides}
use Rattle.std.proofs.lemmas.Str.{IsUtf8-from_is_utf8, is_utf8-from_IsUtf8}
use Rattle.url.specs.declared.host.Host.{Host}
use Rattle.url.specs.declared.host.Host.TheVariants.{Domain, Ipv4, Ipv6}
use Rattle.url.specs.declared.scheme.SchemeType.{SchemeType}
use Rattle.url.specs.declared.scheme.SchemeType.TheVariants.{SpecialNotFile}
use Rattle.url.specs.Scheme.{scheme_type, default_port, is_special}
use Rattle.url.specs.Host.{host_text, IsHostOf, is_empty_host}
use Rattle.url.specs.Parts.{Parts, kind_of, has_credentials, IsValid, IsHierarchicalPath}
use Rattle.url.specs.Parser.{parse_url}
use Rattle.url.proofs.ValidLemmas.{hierarchical, special_has_authority, base_from_authority}
use Rattle.url.proofs.PathLemmas.{rooted}
use Rattle.small_types.specs.declared.limits.TheConstants.{URL_LIMIT}
use Rattle.small_types.specs.declared.target.Target.{Target}
use Rattle.small_types.specs.Outcome.{◌>>=◌}
use Rattle.addresses.specs.declared.fault.UrlFault.{UrlFault}
use Rattle.addresses.specs.declared.fault.UrlFault.TheVariants.{BadUrl}
use Rattle.addresses.specs.Address.{http, host_of, query_text, address, is_too_long, is_refused, target_of_url, url_of, target_of_text, IsAddress, Gives}

-- ---- the host

-- the text of a host, unless it is missing or empty
abbrev shown : Option (Host (List ℕ)) → Option (List ℕ)
shown host = option_map host_text (cond (not (is_empty_host (unwrap_or host (Domain [])))) host None)

dotted_some : (a b c d : ℕ) → 0 < length (dotted_text a b c d)
dotted_some a b c d = simp length-append (omega arith)

bracketed_some : (text : List ℕ) → 0 < length (codes "[" ++ text ++ codes "]")
bracketed_some text = simp length-append (omega arith)

domain_some : (domain : List ℕ) → is_none (shown (Some (Domain domain))) ≡ false → 0 < length (unwrap_or (shown (Some (Domain domain))) [])
domain_some domain some = grind (arith, nat_tests)

host_some : (host : Option (Host (List ℕ))) → is_none (shown host) ≡ false → 0 < length (unwrap_or (shown host) [])
host_some None some = absurd cc
host_some (Some (Domain domain)) some = domain_some domain some
host_some (Some (Ipv4 a)) some = dotted_some _ _ _ _
host_some (Some (Ipv6 a)) some = bracketed_some _

-- ---- the path

-- a path that begins with a slash does so with what stands behind it
slash_first : (path more : List ℕ) → 0 < length path → (path ≡ []) ⊎ (get_or path 0 0 ≡ 47) → (rest : List ℕ) × (path ++ more ≡ codes "/" ++ rest)
slash_first [] more some root = absurd (omega arith)
slash_first (x ∷ xs) more some (inl none) = absurd cc
slash_first (x ∷ xs) more some (inr slash) = (xs ++ more, ap (λ (v : ℕ). v ∷ (xs ++ more)) slash)

-- the scheme of an address is special
http_special : is_special (scheme_type http) ≡ true
unfolding scheme_type default_port
http_special = refl

http_path : (url : Parts) → IsValid url → is_special (kind_of url) ≡ true → IsHierarchicalPath (kind_of url) url.path
http_path url valid special =
    hierarchical url valid.path (base_from_authority url (special_has_authority url valid.head special))

-- a scheme that passes the test is that of addresses
pub http_from_test : (scheme text : List ℕ) → text ≡ scheme → false ≡ not (bytes_eq text http) → scheme ≡ http
http_from_test scheme text same passed =
    sym same ∙ (bytes_eq-Decides text http).0 (⊎_elim (λ yes. yes) (λ no. absurd (both_ways (not (bytes_eq text http)) (sym passed) (ap not no))) (cases_Bool (bytes_eq text http)))

http_kind : scheme_type http ≡ SpecialNotFile
unfolding scheme_type default_port
http_kind = refl

domain_shown : (domain : List ℕ) → 0 < length domain → is_none (shown (Some (Domain domain))) ≡ false
domain_shown domain some = grind (arith, nat_tests)

special_shown : (host : Option (Host (List ℕ))) → MatchOption host (is_special SpecialNotFile ≡ false) (IsHostOf SpecialNotFile) → is_none (shown host) ≡ false
special_shown None valid = absurd cc
special_shown (Some (Domain domain)) valid = domain_shown domain valid.1
special_shown (Some (Ipv4 a)) valid = refl
special_shown (Some (Ipv6 a)) valid = refl

-- every URL with that scheme has a host
http_host : (url : Parts) → IsValid url → url.scheme ≡ http → is_none (host_of url) ≡ false
http_host url valid scheme =
    let kind : kind_of url ≡ SpecialNotFile = ap scheme_type scheme ∙ http_kind in
    special_shown url.host (subst (λ (k : SchemeType). MatchOption url.host (is_special k ≡ false) (IsHostOf k)) kind valid.head.host)

-- ---- an address

-- a URL of that scheme that is not refused is an address
pub IsAddress-address : (url : Parts) → IsValid url → is_none (host_of url) ≡ false → url.scheme ≡ http → IsAddress (address url)
unfolding address
IsAddress-address url valid some scheme =
    let special : is_special (kind_of url) ≡ true = ap (λ (s : List ℕ). is_special (scheme_type s)) scheme ∙ http_special in
    let path = http_path url valid special in
    record {
      host = host_some url.host some;
      path = slash_first url.path (query_text url.query) (path.1 special) (rooted (kind_of url) url.path path.0);
    }

-- and so it is where it is valid at all
pub IsAddress-valid : (url : Parts) → IsValid url → url.scheme ≡ http → IsAddress (address url)
IsAddress-valid url valid scheme = IsAddress-address url valid (http_host url valid scheme) scheme

-- what is not refused has a host
pub refused_host : (url : Parts) → is_refused url ≡ false → is_none (host_of url) ≡ false
unfolding is_refused
refused_host url kept = (or_parts (is_too_long url || has_credentials url) (is_none (host_of url)) kept).1

-- ---- texts

-- no text in UTF-8
pub other_text : (text : List ℕ) → ¬ (IsUtf8 text) → target_of_text text ≡ Err BadUrl
unfolding target_of_text
other_text text other =
    let fails = false_from_ne_true (is_utf8 text) (λ is. other (IsUtf8-from_is_utf8 text is)) in
    grind (arith, nat_tests)

-- a text within the limit is read by the standard
pub short_text : (text : List ℕ) → length text ≤ URL_LIMIT → IsUtf8 text → target_of_text text ≡ (url_of (parse_url None text) >>= target_of_url)
unfolding target_of_text
short_text text short utf8 =
    let is = is_utf8-from_IsUtf8 text utf8 in
    grind (arith, nat_tests)

-- and then by the URL that it gives
pub gives_then : (r : Result Target UrlFault) (bytes text : List ℕ) (url : Parts) → length bytes ≤ URL_LIMIT → text ≡ bytes → IsUtf8 bytes → url_of (parse_url None text) ≡ Ok url → Gives r (target_of_url url) → Gives r (target_of_text bytes)
gives_then r bytes text url short same utf8 parsed gives =
    let whole : target_of_text bytes ≡ target_of_url url = short_text bytes short utf8 ∙ ap (λ (t : List ℕ). url_of (parse_url None t) >>= target_of_url) (sym same) ∙ ap (λ (p : Result Parts UrlFault). p >>= target_of_url) parsed in
    subst (Gives r) (sym whole) gives
