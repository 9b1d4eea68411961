-- Every name is joined to every base that is a URL.
use Rattle.std.proofs.Common.{◌≡◌, ◌≢◌, ℕ, ◌<◌, Bool, true, nat_lt, nat_le, ◌⊎◌, inl, inr, ⊎_elim, List, [], ◌∷◌, ◌++◌, length, Some, None, Result, Ok, Err, IfOk, refl, sym, ap, subst, ◌∙◌}
use Rattle.std.specs.Prelude.{codes, decimal}
use Rattle.std.specs.List.{list_all}
use Rattle.std.specs.Str.{is_utf8}
use Rattle.std.proofs.lemmas.Bool.{cond-true, cond-false, cond_both, cases_Bool, both_ways, and_parts, eq-eqb, lt-ltb, ltb-true}
use Rattle.small_types.specs.declared.limits.TheConstants.{NAME_LIMIT, URL_LIMIT}
use Rattle.small_types.specs.declared.target.Target.{Target}
use Rattle.small_types.specs.Name.{name_parts, is_name_byte, is_name_part, is_name, IsName}
use Rattle.small_types.specs.Outcome.{◌>>=◌, FailsBut}
use Rattle.url.specs.Parts.{Parts, HasSameHost, serialize}
use Rattle.url.specs.Parser.{Parsed, parse_url}
use Rattle.addresses.specs.declared.fault.UrlFault.{UrlFault}
use Rattle.addresses.specs.declared.fault.UrlFault.TheVariants.{BadUrl, NotHttp, Memory}
use Rattle.addresses.specs.Address.{http, url_of, is_too_long, is_memory, address, Gives}
use Rattle.addresses.specs.Join.{target_text, base_of, resolved, file_reference, file_target_beside, file_target_of, short_address, IsUnreachable, NamesAreJoined}
use Rattle.addresses.proofs.BaseLemmas.{IsHttp, front_http}
use Rattle.addresses.proofs.ReferenceLemmas.{IsRelative, reference_plain, reference_relative, reference_joined}

-- ---- the base

http_from_ok : (r : Parsed Parts) (document : Parts) → IfOk r IsHttp → url_of r ≡ Ok document → IsHttp document
http_from_ok (Ok url) document is same = let e : url ≡ document = cc in subst IsHttp e is
http_from_ok (Err e) document is same = absurd cc

pub base_http : (base : Target) (document : Parts) → base_of base ≡ Ok document → IsHttp document
unfolding target_text
base_http base document read =
    http_from_ok (parse_url None (target_text base)) document (front_http (base.host ++ codes ":" ++ decimal base.port ++ base.path)) read

-- ---- the name

part_relative : (b : ℕ) (bytes : List ℕ) → list_all is_name_part (name_parts (b ∷ bytes)) ≡ true → b ≢ 47
part_relative b bytes are slash =
    let first : name_parts (b ∷ bytes) ≡ [] ∷ name_parts bytes = cond-true _ _ _ (eq-eqb b 47 slash) in
    absurd (both_ways (list_all is_name_part (name_parts (b ∷ bytes))) (ap (list_all is_name_part) first) are)

name_relative_by : (name : List ℕ) → 0 < length name → list_all is_name_part (name_parts name) ≡ true → IsRelative name
name_relative_by [] some are = tt
name_relative_by (b ∷ bytes) some are = part_relative b bytes are

name_parts_of : (name : List ℕ) → IsName name → (0 < length name) × (list_all is_name_part (name_parts name) ≡ true)
unfolding is_name
name_parts_of name is =
    let all = and_parts _ (is_utf8 name) is in
    let parts = and_parts _ (list_all is_name_part (name_parts name)) all.0 in
    let bytes = and_parts _ (list_all is_name_byte name) parts.0 in
    let lengths = and_parts (nat_lt 0 (length name)) (nat_le (length name) NAME_LIMIT) bytes.0 in
    (ltb-true 0 (length name) lengths.0, parts.1)

-- ---- the join

joined_of : (document : Parts) (r : Parsed Parts) → ((url : Parts) × (r ≡ Ok url) × HasSameHost document url) → (url : Parts) × (url_of r ≡ Ok url) × HasSameHost document url
joined_of document r joined = (joined.0, ap url_of joined.1, joined.2)

pub names_joined : NamesAreJoined
unfolding resolved
names_joined base document mapped name read is =
    let known = name_parts_of name is in
    let reference = file_reference mapped name in
    let joined = reference_joined document reference (base_http base document read) (reference_plain mapped name) (reference_relative mapped name known.0 (name_relative_by name known.0 known.1)) in
    let url = joined_of document (parse_url (Some document) reference) joined in
    (url.0, ap (λ (r : Result Parts UrlFault). r >>= (λ d. url_of (parse_url (Some d) reference))) read ∙ url.1, url.2)

-- what is joined is there once
same_url : (r : Result Parts UrlFault) (a b : Parts) → r ≡ Ok a → r ≡ Ok b → a ≡ b
same_url r a b first second = cc

pub joined_http : (base : Target) (document : Parts) (mapped : Bool) (name : List ℕ) (url : Parts) → base_of base ≡ Ok document → IsName name → resolved base (file_reference mapped name) ≡ Ok url → url.scheme ≡ http
joined_http base document mapped name url read is joined =
    let known = names_joined base document mapped name read is in
    let same = same_url (resolved base (file_reference mapped name)) known.0 url known.1 joined in
    ap (λ (u : Parts). u.scheme) (sym same) ∙ sym known.2.0 ∙ (base_http base document read).0

-- ---- where there is none

url_cases : (r : Parsed Parts) → ((document : Parts) × (url_of r ≡ Ok document)) ⊎ (url_of r ≡ Err BadUrl)
url_cases (Ok url) = inl (url, refl)
url_cases (Err e) = inr refl

pub base_cases : (base : Target) → ((document : Parts) × (base_of base ≡ Ok document)) ⊎ (base_of base ≡ Err BadUrl)
base_cases base = url_cases (parse_url None (target_text base))

abbrev refusal : Result Parts UrlFault
refusal = Err BadUrl

-- a URL is one only where its base is
pub resolved_http : (base : Target) (mapped : Bool) (name : List ℕ) (url : Parts) → IsName name → resolved base (file_reference mapped name) ≡ Ok url → url.scheme ≡ http
unfolding resolved
resolved_http base mapped name url is joined =
    ⊎_elim (λ read. joined_http base read.0 mapped name url read.1 is joined)
    (λ none. let failed : refusal ≡ Ok url = sym (ap (λ (r : Result Parts UrlFault). r >>= (λ d. url_of (parse_url (Some d) (file_reference mapped name)))) none) ∙ joined in absurd cc)
    (base_cases base)

-- ---- beside the document of the base

-- what is joined to the document is joined to the base
pub resolved_beside : (base : Target) (document : Parts) (reference : List ℕ) (url : Parts) → base_of base ≡ Ok document
    → url_of (parse_url (Some document) reference) ≡ Ok url → resolved base reference ≡ Ok url
unfolding resolved
resolved_beside base document reference url read joined =
    ap (λ (r : Result Parts UrlFault). r >>= (λ d. url_of (parse_url (Some d) reference))) read ∙ joined

-- a file has the address that it has beside the document
pub target_beside : (base : Target) (document : Parts) (mapped : Bool) (name : List ℕ) → base_of base ≡ Ok document
    → file_target_of base mapped name ≡ file_target_beside document mapped name
unfolding file_target_of resolved file_target_beside
target_beside base document mapped name read =
    ap (λ (r : Result Parts UrlFault). (r >>= (λ d. url_of (parse_url (Some d) (file_reference mapped name)))) >>= short_address) read

-- where the base is no URL no file has one
pub none_beside : (base : Target) (mapped : Bool) (name : List ℕ) (fault : UrlFault) → base_of base ≡ Err fault → file_target_of base mapped name ≡ Err fault
unfolding file_target_of resolved
none_beside base mapped name fault none =
    ap (λ (r : Result Parts UrlFault). (r >>= (λ d. url_of (parse_url (Some d) (file_reference mapped name)))) >>= short_address) none

-- so a call that does not read the base fails as each name does
pub fails_beside : (fault : UrlFault) (base : Target) (mapped : Bool) (name : List ℕ) → FailsBut is_memory fault (base_of base) → FailsBut is_memory fault (file_target_of base mapped name)
fails_beside Memory base mapped name none = tt
fails_beside BadUrl base mapped name none = none_beside base mapped name BadUrl none
fails_beside (NotHttp scheme) base mapped name none = none_beside base mapped name (NotHttp scheme) none

-- the base is refused for no scheme
parsed_never : (r : Parsed Parts) (scheme : List ℕ) → url_of r ≢ Err (NotHttp scheme)
parsed_never (Ok url) scheme is = absurd cc
parsed_never (Err e) scheme is = absurd cc

pub read_never : (fault : UrlFault) (base : Target) (scheme : List ℕ) → FailsBut is_memory fault (base_of base) → fault ≢ NotHttp scheme
read_never fault base scheme fails is =
    parsed_never (parse_url None (target_text base)) scheme (subst (λ (f : UrlFault). FailsBut is_memory f (base_of base)) is fails)

abbrev refused_target : Result Target UrlFault
refused_target = Err BadUrl

abbrev found : Parts → Result Target UrlFault
found url = Ok (address url)

short_refused : (url : Parts) → short_address url ≡ Err BadUrl → URL_LIMIT < length (serialize url)
unfolding short_address is_too_long
short_refused url refused =
    ⊎_elim (λ long. ltb-true URL_LIMIT (length (serialize url)) long)
    (λ short. absurd (let failed : found url ≡ Err BadUrl = sym (cond-false _ _ _ short) ∙ refused in cc))
    (cases_Bool (nat_lt URL_LIMIT (length (serialize url))))

unreachable_beside : (base : Target) (mapped : Bool) (name : List ℕ) (url : Parts) → resolved base (file_reference mapped name) ≡ Ok url → file_target_of base mapped name ≡ Err BadUrl → IsUnreachable base mapped name
unfolding file_target_of
unreachable_beside base mapped name url joined refused =
    inr (url, joined, short_refused url (sym (ap (λ (r : Result Parts UrlFault). r >>= short_address) joined) ∙ refused))

unreachable : (base : Target) (mapped : Bool) (name : List ℕ) → IsName name → file_target_of base mapped name ≡ Err BadUrl → IsUnreachable base mapped name
unreachable base mapped name is refused =
    ⊎_elim (λ read. let joined = names_joined base read.0 mapped name read.1 is in unreachable_beside base mapped name joined.0 joined.1 refused) (λ none. inl none) (base_cases base)

-- a call that answers so has no other reason
pub refused_from_gives : (r : Result Target UrlFault) (base : Target) (mapped : Bool) (name : List ℕ) → IsName name → Gives r (file_target_of base mapped name) → r ≡ Err BadUrl → IsUnreachable base mapped name
refused_from_gives r base mapped name is gives refused =
    unreachable base mapped name is (subst (λ (x : Result Target UrlFault). Gives x (file_target_of base mapped name)) refused gives)

-- ---- what a call answers there

too_long_refused : (url : Parts) → URL_LIMIT < length (serialize url) → short_address url ≡ Err BadUrl
unfolding short_address is_too_long
too_long_refused url long = cond-true _ _ _ (lt-ltb URL_LIMIT (length (serialize url)) long)

refused_where : (base : Target) (mapped : Bool) (name : List ℕ) → IsUnreachable base mapped name → file_target_of base mapped name ≡ Err BadUrl
unfolding file_target_of resolved
refused_where base mapped name (inl none) =
    ap (λ (r : Result Parts UrlFault). (r >>= (λ d. url_of (parse_url (Some d) (file_reference mapped name)))) >>= short_address) none
refused_where base mapped name (inr found) =
    ap (λ (r : Result Parts UrlFault). r >>= short_address) found.1 ∙ too_long_refused found.0 found.2

bad_from_gives : (r read : Result Target UrlFault) → Gives r read → read ≡ Err BadUrl → (r ≡ Err BadUrl) ⊎ (r ≡ Err Memory)
bad_from_gives (Ok t) read gives bad = absurd cc
bad_from_gives (Err BadUrl) read gives bad = inl refl
bad_from_gives (Err (NotHttp scheme)) read gives bad = absurd cc
bad_from_gives (Err Memory) read gives bad = inr refl

-- a call refuses what is out of reach, if there is memory
pub unreachable_from_gives : (r : Result Target UrlFault) (base : Target) (mapped : Bool) (name : List ℕ) → Gives r (file_target_of base mapped name) → IsUnreachable base mapped name → (r ≡ Err BadUrl) ⊎ (r ≡ Err Memory)
unreachable_from_gives r base mapped name gives is = bad_from_gives r (file_target_of base mapped name) gives (refused_where base mapped name is)

-- no scheme is refused
short_never : (url : Parts) (scheme : List ℕ) → short_address url ≢ Err (NotHttp scheme)
unfolding short_address
short_never url scheme =
    cond_both (is_too_long url) refused_target (found url) (λ (r : Result Target UrlFault). r ≢ Err (NotHttp scheme)) (λ _ is. absurd cc) (λ _ is. absurd cc)

url_never : (r : Parsed Parts) (scheme : List ℕ) → (url_of r >>= short_address) ≢ Err (NotHttp scheme)
url_never (Ok url) scheme = short_never url scheme
url_never (Err e) scheme = λ is. absurd cc

base_never : (r : Parsed Parts) (reference scheme : List ℕ) → ((url_of r >>= (λ d. url_of (parse_url (Some d) reference))) >>= short_address) ≢ Err (NotHttp scheme)
base_never (Ok document) reference scheme = url_never (parse_url (Some document) reference) scheme
base_never (Err e) reference scheme = λ is. absurd cc

pub beside_never : (r : Result Target UrlFault) (document : Parts) (mapped : Bool) (name scheme : List ℕ) → Gives r (file_target_beside document mapped name) → r ≢ Err (NotHttp scheme)
unfolding file_target_beside
beside_never r document mapped name scheme gives is =
    url_never (parse_url (Some document) (file_reference mapped name)) scheme
    (subst (λ (x : Result Target UrlFault). Gives x (file_target_beside document mapped name)) is gives)

file_never : (base : Target) (mapped : Bool) (name scheme : List ℕ) → file_target_of base mapped name ≢ Err (NotHttp scheme)
unfolding file_target_of resolved
file_never base mapped name scheme = base_never (parse_url None (target_text base)) (file_reference mapped name) scheme

pub never_from_gives : (r : Result Target UrlFault) (base : Target) (mapped : Bool) (name scheme : List ℕ) → Gives r (file_target_of base mapped name) → r ≢ Err (NotHttp scheme)
never_from_gives r base mapped name scheme gives is =
    file_never base mapped name scheme (subst (λ (x : Result Target UrlFault). Gives x (file_target_of base mapped name)) is gives)
