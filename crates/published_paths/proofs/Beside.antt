-- What a reference leads to from a sound URL, and from an address.
use Rattle.std.proofs.Common.{true, ◌≡◌, ◌≢◌, ℕ, ◌<◌, Bool, not, ◌||◌, ◌==◌, nat_lt, inl, inr, ⊎_elim, List, length, get_or, Some, None, Ok, Err, IfOk, All, refl, sym, ap, subst, ◌∙◌, arith}
use Rattle.std.specs.Prelude.{bytes_eq}
use Rattle.std.specs.Str.{is_utf8}
use Rattle.std.proofs.lemmas.Bool.{cond-false, cases_Bool, cases_lt, ne_eqb, and_right, or_parts, not-false}
use Rattle.std.proofs.lemmas.List.{get_or_past}
use Rattle.std.proofs.lemmas.List.Elements.{All-nil, All-get_or}
use Rattle.std.proofs.lemmas.Slice.Eq.{bytes_eq-Decides}
use Rattle.std.proofs.lemmas.Str.{IsUtf8-from_is_utf8}
use Rattle.percent_encoding.proofs.PercentLemmas.{IsByte}
use Rattle.url.specs.declared.scheme.SchemeType.TheVariants.{SpecialNotFile}
use Rattle.url.specs.Input.{trim_c0_control_and_space, strip_tabs_and_new_lines}
use Rattle.url.specs.Scheme.{scheme_type, scheme_len, is_special, is_file}
use Rattle.url.specs.Path.{without_last_segment, shorten_path, parse_path}
use Rattle.url.specs.Parts.{Parts}
use Rattle.url.specs.Parser.{Parsed, and_then, leading_slashes, parse_relative, parse_body, with_tail, before_tail, parse_parts, split_scheme, parse_url}
use Rattle.url.proofs.InputLemmas.{IsNot, Passes, split_once_none}
use Rattle.url.proofs.PathLemmas.{without_last_valid}
use Rattle.url.proofs.TextLemmas.{is_query_byte}
use Rattle.url.proofs.ParsedCanonical.{before_special}
use Rattle.small_types.specs.declared.target.Target.{Target}
use Rattle.small_types.specs.Outcome.{◌>>=◌}
use Rattle.identity.proofs.KeyLemmas.{bytes_of_text}
use Rattle.small_types.specs.declared.limits.TheConstants.{URL_LIMIT}
use Rattle.addresses.specs.Address.{http, is_refused, is_too_long, address, target_of_url, target_of_text, url_of}
use Rattle.addresses.specs.Join.{target_text, resolved, short_address, app_target_of, file_target_of, file_reference}
use Rattle.published_paths.proofs.Sound.{IsSound, http_kind, path_sound, read_sound, Holds}
use Rattle.published_paths.proofs.Again.{SoundAt, address_again}

-- a relative path, with nothing else in it
pub record IsReference (reference : List ℕ) : Type 0 where
  pub clean : strip_tabs_and_new_lines (trim_c0_control_and_space reference) ≡ reference
  pub hash : All (IsNot 35) reference
  pub question : All (IsNot 63) reference
  pub colon : All (IsNot 58) reference
  pub relative : leading_slashes SpecialNotFile reference ≡ 0
  pub some : 0 < length reference
  pub bytes : All IsByte reference

-- the path of the base, with the reference in place of its last part
abbrev pub beside : Parts → List ℕ → Parts
beside base reference = record base { path = parse_path SpecialNotFile (without_last_segment base.path) reference; query = None; fragment = None }

kind_is : (base : Parts) → IsSound base → scheme_type base.scheme ≡ SpecialNotFile
kind_is base is = ap scheme_type is.head.scheme ∙ http_kind

relative_read : (base : Parts) (reference : List ℕ) → IsSound base → IsReference reference → parse_relative base reference ≡ Ok (beside base reference)
unfolding parse_relative shorten_path
relative_read base reference is plain =
    let kind = kind_is base is in
    let none = plain.relative in
    rw (kind, none) refl

body_read : (base : Parts) (reference : List ℕ) → IsSound base → IsReference reference → parse_body base.scheme (Some base) reference ≡ Ok (beside base reference)
unfolding parse_body
body_read base reference is plain = cond-false _ _ _ (ap is_file (kind_is base is)) ∙ relative_read base reference is plain

parts_read : (base : Parts) (reference : List ℕ) → IsSound base → IsReference reference → parse_parts base.scheme (Some base) reference None None ≡ Ok (beside base reference)
unfolding parse_parts
parts_read base reference is plain =
    cond-false _ _ _ (ne_eqb (length reference) 0 (λ none. let some = plain.some in omega arith))
    ∙ ap (λ (r : Parsed Parts). and_then r (λ url. Ok (with_tail (before_tail url None None) None None))) (body_read base reference is plain)
    ∙ ap (λ (u : Parts). Ok (with_tail u None None)) (before_special (beside base reference) None None (ap is_special (kind_is base is)))

no_scheme : (reference : List ℕ) → All (IsNot 58) reference → split_scheme reference ≡ None
unfolding split_scheme
no_scheme reference none =
    let len = scheme_len reference in
    let other : get_or reference len 0 ≢ 58 = ⊎_elim (λ inside. All-get_or (IsNot 58) reference len 0 inside none) (λ outside same. let past = get_or_past reference len 0 outside in omega arith) (cases_lt len (length reference)) in
    cond-false _ _ _ (and_right (nat_lt 0 len) (get_or reference len 0 == 58) (ne_eqb _ 58 other))

pub reference_read : (base : Parts) (reference : List ℕ) → IsSound base → IsReference reference → parse_url (Some base) reference ≡ Ok (beside base reference)
unfolding parse_url
reference_read base reference is plain =
    let clean = plain.clean in
    let hash = split_once_none 35 reference plain.hash in
    let question = split_once_none 63 reference plain.question in
    rw (clean, hash, question, no_scheme reference plain.colon, is.head.authority) (parts_read base reference is plain)

pub beside_sound : (base : Parts) (reference : List ℕ) → IsSound base → IsReference reference → IsSound (beside base reference)
beside_sound base reference is plain = record {
  head = record { scheme = is.head.scheme; authority = is.head.authority; host = is.head.host; port = is.head.port };
  path = path_sound (without_last_segment base.path) reference plain.bytes (without_last_valid SpecialNotFile base.path is.path.0);
  query = All-nil (Passes is_query_byte);
}

-- ---- addresses

-- the address of a sound URL
pub record IsAddressOf (target : Target) (url : Parts) : Type 0 where
  pub sound : IsSound url
  pub is : target ≡ address url

url_target : (url : Parts) (target : Target) → target_of_url url ≡ Ok target → (url.scheme ≡ http) × (target ≡ address url)
unfolding target_of_url
url_target url target read =
    elim (cases_Bool (is_refused url)) [
      | inl refused ↦ let shown = rw refused at read in absurd cc
      | inr passed ↦ elim (cases_Bool (bytes_eq url.scheme http)) [
        | inl same ↦ let shown = rw (passed, same) at read in ((bytes_eq-Decides url.scheme http).0 same, cc)
        | inr other ↦ let shown = rw (passed, other) at read in absurd cc
      ]
    ]

read_target : (r : Parsed Parts) (target : Target) → IfOk r Holds → (url_of r >>= target_of_url) ≡ Ok target → (url : Parts) × IsAddressOf target url
read_target (Ok url) target holds read = let known = url_target url target read in (url, record { sound = holds known.0; is = known.1 })
read_target (Err e) target holds read = absurd cc

-- the text is read by the standard
text_passes : (text : List ℕ) (target : Target) → target_of_text text ≡ Ok target → (is_utf8 text ≡ true) × ((url_of (parse_url None text) >>= target_of_url) ≡ Ok target)
unfolding target_of_text
text_passes text target read =
    elim (cases_Bool (nat_lt URL_LIMIT (length text) || not (is_utf8 text))) [
      | inl refused ↦ let shown = rw refused at read in absurd cc
      | inr passed ↦ (not-false (is_utf8 text) (or_parts (nat_lt URL_LIMIT (length text)) (not (is_utf8 text)) passed).1, rw passed at read)
    ]

-- an address that is read from a text is that of a sound URL
pub text_target : (text : List ℕ) (target : Target) → target_of_text text ≡ Ok target → (url : Parts) × IsAddressOf target url
text_target text target read =
    let passes = text_passes text target read in
    read_target (parse_url None text) target (read_sound text (bytes_of_text text (IsUtf8-from_is_utf8 text passes.0))) passes.1

target_at : (r : Parsed Parts) (path : List ℕ) (target : Target) → IfOk r (SoundAt path) → (url_of r >>= target_of_url) ≡ Ok target → (url : Parts) × IsAddressOf target url × (url.path ≡ path)
target_at (Ok url) path target is read = (url, record { sound = is.0; is = (url_target url target read).1 }, is.1)
target_at (Err e) path target is read = absurd cc

-- and has the path that the parser gives
pub text_at : (text path : List ℕ) (target : Target) → IfOk (parse_url None text) (SoundAt path) → target_of_text text ≡ Ok target → (url : Parts) × IsAddressOf target url × (url.path ≡ path)
text_at text path target is read = target_at (parse_url None text) path target is (text_passes text target read).1

-- the address of what a reference leads to from this path
pub record IsJoined (target : Target) (from reference : List ℕ) : Type 0 where
  pub url : Parts
  pub at : IsAddressOf target url
  pub path : url.path ≡ parse_path SpecialNotFile (without_last_segment from) reference

joined_of : (document : Parts) (from reference : List ℕ) (target : Target) → SoundAt from document → IsReference reference → target ≡ address (beside document reference) → IsJoined target from reference
joined_of document from reference target is plain same = record {
  url = beside document reference;
  at = record { sound = beside_sound document reference is.0 plain; is = same };
  path = ap (λ (p : List ℕ). parse_path SpecialNotFile (without_last_segment p) reference) is.1;
}

app_from : (r : Parsed Parts) (from reference : List ℕ) (target : Target) → IfOk r (SoundAt from) → IsReference reference → ((url_of r >>= (λ d. url_of (parse_url (Some d) reference))) >>= target_of_url) ≡ Ok target → IsJoined target from reference
app_from (Ok document) from reference target is plain read =
    let there : target_of_url (beside document reference) ≡ Ok target = ap (λ (r : Parsed Parts). url_of r >>= target_of_url) (sym (reference_read document reference is.0 plain)) ∙ read in
    joined_of document from reference target is plain (url_target (beside document reference) target there).1
app_from (Err e) from reference target is plain read = absurd cc

-- a codebase beside a sound address
pub app_joined : (base target : Target) (url : Parts) (reference : List ℕ) → IsAddressOf base url → IsReference reference → app_target_of base reference ≡ Ok target → IsJoined target url.path reference
unfolding app_target_of resolved
app_joined base target url reference of plain read =
    let again = subst (λ (t : Target). IfOk (parse_url None (target_text t)) (SoundAt url.path)) (sym of.is) (address_again url of.sound) in
    app_from (parse_url None (target_text base)) url.path reference target again plain read

short_target : (url : Parts) (target : Target) → short_address url ≡ Ok target → target ≡ address url
unfolding short_address
short_target url target read =
    elim (cases_Bool (is_too_long url)) [
      | inl long ↦ let shown = rw long at read in absurd cc
      | inr short ↦ let shown = rw short at read in cc
    ]

file_from : (r : Parsed Parts) (from reference : List ℕ) (target : Target) → IfOk r (SoundAt from) → IsReference reference → ((url_of r >>= (λ d. url_of (parse_url (Some d) reference))) >>= short_address) ≡ Ok target → IsJoined target from reference
file_from (Ok document) from reference target is plain read =
    let there : short_address (beside document reference) ≡ Ok target = ap (λ (r : Parsed Parts). url_of r >>= short_address) (sym (reference_read document reference is.0 plain)) ∙ read in
    joined_of document from reference target is plain (short_target (beside document reference) target there)
file_from (Err e) from reference target is plain read = absurd cc

-- a file's name beside a sound address
pub file_joined : (base target : Target) (url : Parts) (mapped : Bool) (name reference : List ℕ) → IsAddressOf base url → file_reference mapped name ≡ reference → IsReference reference → file_target_of base mapped name ≡ Ok target → IsJoined target url.path reference
unfolding file_target_of resolved
file_joined base target url mapped name reference of same plain read =
    let again = subst (λ (t : Target). IfOk (parse_url None (target_text t)) (SoundAt url.path)) (sym of.is) (address_again url of.sound) in
    file_from (parse_url None (target_text base)) url.path reference target again plain (subst (λ (t : List ℕ). ((url_of (parse_url None (target_text base)) >>= (λ d. url_of (parse_url (Some d) t))) >>= short_address) ≡ Ok target) same read)
