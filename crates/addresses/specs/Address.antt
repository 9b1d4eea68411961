-- Network addresses: which URLs are one, and what is asked of which host.
use Rattle.std.specs.Prelude.{◌≡◌, ℕ, ◌<◌, Bool, true, false, not, ◌||◌, nat_lt, List, [], ◌++◌, length, codes, bytes_eq, Option, Some, None, is_none, unwrap_or, option_map, Result, Ok, Err, if◌then◌else◌}
use Rattle.std.specs.Str.{is_utf8}
use Rattle.url.specs.Host.{host_text}
use Rattle.url.specs.Parts.{Parts, has_credentials, nonempty_host, serialize}
use Rattle.url.specs.Parser.{Parsed, parse_url}
use Rattle.small_types.specs.declared.limits.TheConstants.{URL_LIMIT}
use Rattle.small_types.specs.declared.target.Target.{Target}
use Rattle.small_types.specs.Outcome.{◌>>=◌, GivesBut}
use Rattle.addresses.specs.declared.address.TheConstants.{HTTP_PORT}
use Rattle.addresses.specs.declared.fault.UrlFault.{UrlFault}
use Rattle.addresses.specs.declared.fault.UrlFault.TheVariants.{BadUrl, NotHttp, Memory}

-- the scheme of an address, and the port where it names none
abbrev pub http : List ℕ
http = codes "http"

abbrev pub http_port : ℕ
http_port = HTTP_PORT

-- the text of the host; a URL may have none, and an empty one is none
abbrev pub host_of : Parts → Option (List ℕ)
host_of url = option_map host_text (nonempty_host url)

-- `?` and the query, where there is one
abbrev pub query_text : Option (List ℕ) → List ℕ
query_text None = []
query_text (Some query) = codes "?" ++ query

-- the host, the port, and the path with the query; the fragment is not sent
unfoldable pub address : Parts → Target
address url = record {
  host = unwrap_or (host_of url) [];
  port = unwrap_or url.port http_port;
  path = url.path ++ query_text url.query;
}

-- the URL, as it is written with its fragment, is over the limit
unfoldable pub is_too_long : Parts → Bool
is_too_long url = nat_lt URL_LIMIT (length (serialize url))

-- it is refused whatever its scheme
unfoldable pub is_refused : Parts → Bool
is_refused url = is_too_long url || has_credentials url || is_none (host_of url)

-- the address that a URL stands for
unfoldable pub target_of_url : Parts → Result Target UrlFault
target_of_url url =
    if is_refused url then Err BadUrl
    else if not (bytes_eq url.scheme http) then Err (NotHttp url.scheme)
    else Ok (address url)

-- the URL, where the standard's parser gives one
abbrev pub url_of : Parsed Parts → Result Parts UrlFault
url_of (Ok url) = Ok url
url_of (Err e) = Err BadUrl

-- the address that the bytes spell
unfoldable pub target_of_text : List ℕ → Result Target UrlFault
target_of_text text =
    if nat_lt URL_LIMIT (length text) || not (is_utf8 text) then Err BadUrl
    else url_of (parse_url None text) >>= target_of_url

-- there is a host, and the path begins with `/`
pub record IsAddress (target : Target) : Type 0 where
  pub host : 0 < length target.host
  pub path : (rest : List ℕ) × (target.path ≡ codes "/" ++ rest)

-- want of memory is no fault of the text
abbrev pub is_memory : UrlFault → Bool
is_memory Memory = true
is_memory BadUrl = false
is_memory (NotHttp scheme) = false

-- a call gives what the reading gives, unless memory ran out
abbrev pub Gives : {X : Type 0} → Result X UrlFault → Result X UrlFault → Type 0
Gives {X} result read = GivesBut is_memory (λ (x : X). x) result read
