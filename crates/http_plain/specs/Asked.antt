-- What the head of a request says.
use Rattle.std.specs.Prelude.{◌≡◌, ◌≤◌, ℕ, List, [], length, codes, Option, Some, None}
use Rattle.httparse.specs.Grammar.{RequestHead, ReadsRequest}
use Rattle.http_plain.specs.declared.head.TheConstants.{FIELD_LIMIT}
use Rattle.http_plain.specs.declared.request.Asked.{Asked}
use Rattle.http_plain.specs.Fields.{pairs_of, values_of}

-- the method, the target, the minor version and how many `Host` fields there are
abbrev pub asked_parts : List ℕ → List ℕ → ℕ → ℕ → Asked
asked_parts method target version hosts =
    record { method = method; target = target; version = version; hosts = hosts }

-- the bytes are one request head
pub record IsRequest (bytes : List ℕ) (h : RequestHead) : Type 0 where
  pub reads : ReadsRequest bytes h []
  pub few : length h.fields ≤ FIELD_LIMIT

-- the bytes are no request head
abbrev pub IsNoRequest : List ℕ → Type 0
IsNoRequest bytes = (h : RequestHead) → ¬ IsRequest bytes h

-- what a head says
abbrev pub asked_of : RequestHead → Asked
asked_of h =
    asked_parts h.method h.target h.minor (length (values_of (codes "host") (pairs_of h.fields)))

-- what the head says that the bytes are, if they are one
abbrev pub AsksBy : List ℕ → Option Asked → Type 0
AsksBy bytes None = IsNoRequest bytes
AsksBy bytes (Some asked) = (h : RequestHead) × IsRequest bytes h × (asked ≡ asked_of h)
