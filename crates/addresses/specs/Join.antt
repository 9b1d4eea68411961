-- Addresses beside another one: those of an application manifest and of its files.
use Rattle.std.specs.Prelude.{◌≡◌, ◌<◌, ◌⊎◌, ℕ, Bool, List, length, [], ◌++◌, codes, decimal, Some, None, Result, Ok, Err, if◌then◌else◌}
use Rattle.url.specs.Parts.{Parts, HasSameHost, serialize}
use Rattle.url.specs.Parser.{parse_url}
use Rattle.small_types.specs.declared.limits.TheConstants.{URL_LIMIT}
use Rattle.small_types.specs.declared.target.Target.{Target}
use Rattle.small_types.specs.Name.{IsName}
use Rattle.identity.specs.Key.{word_text}
use Rattle.small_types.specs.Outcome.{◌>>=◌}
use Rattle.addresses.specs.declared.fault.UrlFault.{UrlFault}
use Rattle.addresses.specs.declared.fault.UrlFault.TheVariants.{BadUrl}
use Rattle.addresses.specs.Address.{address, http, is_too_long, target_of_url, url_of}

-- `http://HOST:PORT` and the path
unfoldable pub target_text : Target → List ℕ
target_text target = codes "http://" ++ target.host ++ codes ":" ++ decimal target.port
    ++ target.path

-- the URL of an address
abbrev pub base_of : Target → Result Parts UrlFault
base_of target = url_of (parse_url None (target_text target))

-- the URL of a reference that stands in a document at the base
unfoldable pub resolved : Target → List ℕ → Result Parts UrlFault
resolved base reference =
    base_of base >>= (λ document. url_of (parse_url (Some document) reference))

-- the address of the codebase that stands in a deployment manifest at the base
unfoldable pub app_target_of : Target → List ℕ → Result Target UrlFault
app_target_of base codebase = resolved base codebase >>= target_of_url

-- the name as a relative address, with `.deploy` behind it where files are mapped
unfoldable pub file_reference : Bool → List ℕ → List ℕ
file_reference mapped name = word_text name ++ (if mapped then codes ".deploy" else [])

-- a URL within the limit is an address, whatever its scheme
unfoldable pub short_address : Parts → Result Target UrlFault
short_address url = if is_too_long url then Err BadUrl else Ok (address url)

-- the address of a file of the application whose manifest is at the base
unfoldable pub file_target_of : Target → Bool → List ℕ → Result Target UrlFault
file_target_of base mapped name = resolved base (file_reference mapped name) >>= short_address

-- the same where the URL of the base is this document's
unfoldable pub file_target_beside : Parts → Bool → List ℕ → Result Target UrlFault
file_target_beside document mapped name =
    url_of (parse_url (Some document) (file_reference mapped name)) >>= short_address

-- the base is no URL, or that of the file is too long
abbrev pub IsUnreachable : Target → Bool → List ℕ → Type 0
IsUnreachable base mapped name =
    (base_of base ≡ Err BadUrl)
    ⊎ ((url : Parts) × (resolved base (file_reference mapped name) ≡ Ok url)
    × (URL_LIMIT < length (serialize url)))

-- each name is joined to every base that is a URL, and stays on its host
abbrev pub NamesAreJoined : Type 0
NamesAreJoined =
    (base : Target) (document : Parts) (mapped : Bool) (name : List ℕ) → base_of base ≡ Ok document
    → IsName name
    → (url : Parts) × (resolved base (file_reference mapped name) ≡ Ok url)
    × HasSameHost document url

-- the URL of an address has the scheme of addresses
abbrev pub BasesAreHttp : Type 0
BasesAreHttp = (base : Target) (document : Parts) → base_of base ≡ Ok document
    → document.scheme ≡ http
