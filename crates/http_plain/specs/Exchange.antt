-- What a client asks, and what an answer gives it.
use Rattle.std.specs.Prelude.{◌≡◌, ◌≤◌, ℕ, ◌==◌, ◌||◌, Bool, not, List, [], ◌∷◌, ◌++◌, length, codes, decimal, nat_lt, Option, Some, None, Result, Ok, Err, if◌then◌else◌}
use Rattle.std.specs.List.{list_all}
use Rattle.std.specs.Str.{bytes_eq}
use Rattle.httparse.specs.Grammar.{ResponseHead, ReadsResponse, status_code}
use Rattle.small_types.specs.Decimal.{decimal_of}
use Rattle.small_types.specs.declared.target.Target.{Target}
use Rattle.http_plain.specs.declared.exchange.TheConstants.{HTTP_PORT}
use Rattle.http_plain.specs.declared.fault.ExchangeFault.{ExchangeFault}
use Rattle.http_plain.specs.declared.fault.ExchangeFault.TheVariants.{Cut, HeadTooLong, Malformed, Missing, Status, Encoded, NoLength}
use Rattle.http_plain.specs.declared.head.TheConstants.{FIELD_LIMIT}
use Rattle.http_plain.specs.declared.lengths.Named.{Named}
use Rattle.http_plain.specs.declared.lengths.Named.TheVariants.{Nothing, Unclear, Length}
use Rattle.http_plain.specs.declared.status.TheConstants.{STATUS_OK, STATUS_NOT_FOUND}
use Rattle.http_plain.specs.Fields.{pairs_of, values_of}
use Rattle.http_plain.specs.Head.{Front, Whole, TooLong, Short, front_of}
use Rattle.http_plain.specs.Served.{head_text}

-- ---- the request

-- the host, with the port where it is not 80
abbrev pub host_value : Target → List ℕ
host_value target =
    target.host ++ (if target.port == HTTP_PORT then [] else codes ":" ++ decimal target.port)

-- the whole request for a target
unfoldable pub request_text : Target → List ℕ
request_text target = head_text (
    (codes "GET " ++ target.path ++ codes " HTTP/1.1")
    ∷ (codes "Host: " ++ host_value target)
    ∷ codes "Accept-Encoding: identity"
    ∷ codes "Connection: close"
    ∷ [])

-- ---- the answer

-- the bytes are one response head
pub record IsResponse (bytes : List ℕ) (h : ResponseHead) : Type 0 where
  pub reads : ReadsResponse bytes h []
  pub few : length h.fields ≤ FIELD_LIMIT

-- the bytes are no response head
abbrev pub IsNoResponse : List ℕ → Type 0
IsNoResponse bytes = (h : ResponseHead) → ¬ IsResponse bytes h

-- the head that the bytes are, if they are one
abbrev pub IsHeadBy : List ℕ → Option ResponseHead → Type 0
IsHeadBy bytes None = IsNoResponse bytes
IsHeadBy bytes (Some h) = IsResponse bytes h

-- the length that values name: none, one, or none that can be told, since one of them is no number
-- or two differ
abbrev pub joined : Option ℕ → Named → Named
joined None named = Unclear
joined (Some n) Nothing = Length n
joined (Some n) Unclear = Unclear
joined (Some n) (Length m) = if n == m then Length m else Unclear

abbrev pub named_by : List (List ℕ) → Named
named_by [] = Nothing
named_by (value ∷ values) = joined (decimal_of value) (named_by values)

-- there is a `Transfer-Encoding`, or a `Content-Encoding` other than `identity`
unfoldable pub is_encoded : List (List ℕ × List ℕ) → Bool
is_encoded pairs =
    nat_lt 0 (length (values_of (codes "transfer-encoding") pairs))
    || not (list_all (λ value. bytes_eq value (codes "identity"))
    (values_of (codes "content-encoding") pairs))

-- what an answer with this code, encoded or not, gives by the length that it names
abbrev pub given : ℕ → Bool → Named → Result ℕ ExchangeFault
given code encoded Unclear = Err Malformed
given code encoded Nothing =
    if code == STATUS_NOT_FOUND then Err Missing
    else if not (code == STATUS_OK) then Err (Status code)
    else if encoded then Err Encoded else Err NoLength
given code encoded (Length n) =
    if code == STATUS_NOT_FOUND then Err Missing
    else if not (code == STATUS_OK) then Err (Status code)
    else if encoded then Err Encoded else Ok n

-- the length of the body behind a head, or why there is none
unfoldable pub length_in : ResponseHead → Result ℕ ExchangeFault
length_in h =
    given (status_code h) (is_encoded (pairs_of h.fields))
    (named_by (values_of (codes "content-length") (pairs_of h.fields)))

abbrev pub length_by : Option ResponseHead → Result ℕ ExchangeFault
length_by None = Err Malformed
length_by (Some h) = length_in h

-- what an answer gives, by its front
abbrev pub GivesBy : Front → Result ℕ ExchangeFault → Type 0
GivesBy Short result = result ≡ Err Cut
GivesBy TooLong result = result ≡ Err HeadTooLong
GivesBy (Whole head) result = (h : Option ResponseHead) × IsHeadBy head h × (result ≡ length_by h)

-- what an answer gives: the length of its body, or why it has none that can be used
abbrev pub Gives : List ℕ → Result ℕ ExchangeFault → Type 0
Gives answer result = GivesBy (front_of answer) result
