-- What a host answers to a request.
use Rattle.std.specs.Prelude.{◌≡◌, ℕ, ◌==◌, ◌&&◌, ◌||◌, Bool, not, List, [], ◌∷◌, ◌++◌, length, codes, decimal, nat_eq, Option, Some, None, if◌then◌else◌}
use Rattle.std.specs.List.{ends_with, flat_map}
use Rattle.std.specs.Str.{bytes_eq}
use Rattle.httparse.specs.Ascii.{crlf_bytes}
use Rattle.folders.specs.declared.folder.Held.{Held}
use Rattle.folders.specs.Files.{file_in}
use Rattle.http_plain.specs.declared.demand.Demand.{Demand}
use Rattle.http_plain.specs.declared.demand.Demand.TheVariants.{Silent, Refused, File}
use Rattle.http_plain.specs.declared.refusals.Refusal.{Refusal}
use Rattle.http_plain.specs.declared.refusals.Refusal.TheVariants.{BadRequest, NotFound, MethodNotAllowed, FieldsTooLarge}
use Rattle.http_plain.specs.declared.request.Asked.{Asked}
use Rattle.http_plain.specs.declared.status.TheConstants.{STATUS_OK, STATUS_BAD_REQUEST, STATUS_NOT_FOUND, STATUS_METHOD_NOT_ALLOWED, STATUS_FIELDS_TOO_LARGE}
use Rattle.http_plain.specs.Asked.{AsksBy}
use Rattle.http_plain.specs.Head.{Front, Whole, TooLong, Short, front_of}
use Rattle.http_plain.specs.Path.{name_in_path}

-- ---- what a request asks for

abbrev pub is_get : List ℕ → Bool
is_get method = bytes_eq method (codes "GET")

abbrev pub is_served : List ℕ → Bool
is_served method = is_get method || bytes_eq method (codes "HEAD")

-- a request of HTTP/1.1 has one `Host`
abbrev pub lacks_host : Asked → Bool
lacks_host asked = asked.version == 1 && not (asked.hosts == 1)

-- the file of that name; a target that names none is refused
abbrev pub file_demand : Bool → Option (List ℕ) → Demand
file_demand whole None = Refused BadRequest
file_demand whole (Some name) = File name whole

-- what a whole head asks for: the file with its bytes for GET, and without them for HEAD
unfoldable pub demand_of : Asked → Demand
demand_of asked =
    if lacks_host asked then Refused BadRequest
    else if not (is_served asked.method) then Refused MethodNotAllowed
    else file_demand (is_get asked.method) (name_in_path asked.target)

-- bytes that are no head are refused
abbrev pub demand_by : Option Asked → Demand
demand_by None = Refused BadRequest
demand_by (Some asked) = demand_of asked

-- what a request of one byte or more asks for, by its front
abbrev pub Demands : Front → Demand → Type 0
Demands TooLong demand = demand ≡ Refused FieldsTooLarge
Demands Short demand = demand ≡ Refused BadRequest
Demands (Whole head) demand =
    (asked : Option Asked) × AsksBy head asked × (demand ≡ demand_by asked)

-- what a request asks for
abbrev pub Asks : List ℕ → Demand → Type 0
Asks [] demand = demand ≡ Silent
Asks (b ∷ bytes) demand = Demands (front_of (b ∷ bytes)) demand

-- a file is asked for
pub record IsFile (demand : Demand) : Type 0 where
  pub name : List ℕ
  pub whole : Bool
  pub is : demand ≡ File name whole

-- a request with this front asks for a file
pub record DemandsFile (front : Front) : Type 0 where
  pub demand : Demand
  pub demands : Demands front demand
  pub file : IsFile demand

-- the request asks for a file
pub record AsksForFile (request : List ℕ) : Type 0 where
  pub demand : Demand
  pub asks : Asks request demand
  pub file : IsFile demand

-- ---- the answer

-- lines, and an empty line behind them
abbrev pub head_text : List (List ℕ) → List ℕ
head_text lines = flat_map (λ line. line ++ crlf_bytes) lines ++ crlf_bytes

abbrev pub status_line : ℕ → List ℕ → List ℕ
status_line code reason = codes "HTTP/1.1 " ++ decimal code ++ codes " " ++ reason

abbrev pub length_line : ℕ → List ℕ
length_line count = codes "Content-Length: " ++ decimal count

-- the head of an answer: its code and the reason, the lines of its own, and how many bytes of a
-- file there are
unfoldable pub answer_head : ℕ → List ℕ → List (List ℕ) → ℕ → List ℕ
answer_head code reason own count =
    head_text (
    (status_line code reason ∷ []) ++ own
    ++ length_line count ∷ codes "Connection: close" ∷ [])

-- by the end of the name
unfoldable pub type_of : List ℕ → List ℕ
type_of name =
    if ends_with nat_eq name (codes ".application") then codes "application/x-ms-application"
    else if ends_with nat_eq name (codes ".manifest") then codes "application/x-ms-manifest"
    else codes "application/octet-stream"

abbrev pub type_line : List ℕ → List ℕ
type_line name = codes "Content-Type: " ++ type_of name

-- the answer with a file, whose bytes follow where they are wanted
abbrev pub file_answer : List ℕ → Bool → List ℕ → List ℕ
file_answer name whole bytes =
    answer_head STATUS_OK (codes "OK") (type_line name ∷ []) (length bytes)
    ++ (if whole then bytes else [])

-- the code of a refusal, its reason, and the lines of its own
abbrev pub refusal_code : Refusal → ℕ
refusal_code BadRequest = STATUS_BAD_REQUEST
refusal_code NotFound = STATUS_NOT_FOUND
refusal_code MethodNotAllowed = STATUS_METHOD_NOT_ALLOWED
refusal_code FieldsTooLarge = STATUS_FIELDS_TOO_LARGE

abbrev pub refusal_reason : Refusal → List ℕ
refusal_reason BadRequest = codes "Bad Request"
refusal_reason NotFound = codes "Not Found"
refusal_reason MethodNotAllowed = codes "Method Not Allowed"
refusal_reason FieldsTooLarge = codes "Request Header Fields Too Large"

abbrev pub refusal_lines : Refusal → List (List ℕ)
refusal_lines MethodNotAllowed = codes "Allow: GET, HEAD" ∷ []
refusal_lines BadRequest = []
refusal_lines NotFound = []
refusal_lines FieldsTooLarge = []

-- the answer to a refusal, which has no body
abbrev pub refusal : Refusal → List ℕ
refusal why = answer_head (refusal_code why) (refusal_reason why) (refusal_lines why) 0

-- the code of an answer, and its bytes; without a code there is no answer
pub record Answer : Type 0 where
  pub code : Option ℕ
  pub bytes : List ℕ

abbrev pub refused_answer : Refusal → Answer
refused_answer why = record { code = Some (refusal_code why); bytes = refusal why }

abbrev pub found_answer : List ℕ → Bool → Option (List ℕ) → Answer
found_answer name whole None = refused_answer NotFound
found_answer name whole (Some bytes) =
    record { code = Some STATUS_OK; bytes = file_answer name whole bytes }

-- what a host of these files answers
abbrev pub answer_of : List Held → Demand → Answer
answer_of files Silent = record { code = None; bytes = [] }
answer_of files (Refused why) = refused_answer why
answer_of files (File name whole) = found_answer name whole (file_in name files)

-- the answer of a host of these files to a request
pub record Serves (files : List Held) (request : List ℕ) (answer : Answer) : Type 0 where
  pub demand : Demand
  pub asks : Asks request demand
  pub answers : answer ≡ answer_of files demand
