-- A run: what becomes of its connections.
use Rattle.std.specs.Prelude.{◌≡◌, ◌<◌, ◌≤◌, ◌⊎◌, ℕ, ◌+◌, ◌-◌, List, [], ◌∷◌, ◌++◌, length, Option}
use Rattle.outside.specs.Streams.{Rose}
use Rattle.connections.specs.Door.{Accepted}
use Rattle.folders.specs.declared.folder.Held.{Held}
use Rattle.http_plain.specs.Head.{IsEnough, IsNear}
use Rattle.http_plain.specs.declared.head.TheConstants.{HEAD_LIMIT}
use Rattle.http_plain.specs.Served.{Answer, AsksForFile, Serves}
use Rattle.plain_host.specs.declared.request.TheConstants.{REQUEST_PIECE}

-- at most n of the items are none that P holds for
abbrev pub AllBut : {A : Type 0} → (A → Type 0) → List A → ℕ → Type 0
AllBut P [] n = Unit {0}
AllBut P (x ∷ xs) n = (P x × AllBut P xs n) ⊎ ((m : ℕ) × (n ≡ m + 1) × AllBut P xs m)

-- of the connection's request no more was received than a head may have, and no piece once the end
-- of its head had come
pub record IsHeardWithin (connection : Accepted) : Type 0 where
  pub front : List ℕ
  pub heard : connection.request ≡ front ++ connection.left
  pub few : length front ≤ HEAD_LIMIT
  pub near : IsNear REQUEST_PIECE front

-- what was sent on the connection is what a host of these files answers to its request, and no
-- more; enough of the request was received to know the answer
pub record HasAnswer (files : List Held) (connection : Accepted) : Type 0 where
  pub front : List ℕ
  pub heard : connection.request ≡ front ++ connection.left
  pub enough : IsEnough front connection.left
  pub code : Option ℕ
  pub serves : Serves files connection.request (record { code = code; bytes = connection.sent })

-- what was sent on the connection is a first part of what a host of these files answers to its
-- request, of which enough was received to know the answer
pub record HasPart (files : List Held) (connection : Accepted) : Type 0 where
  pub front : List ℕ
  pub heard : connection.request ≡ front ++ connection.left
  pub enough : IsEnough front connection.left
  pub answer : Answer
  pub rest : List ℕ
  pub part : answer.bytes ≡ connection.sent ++ rest
  pub serves : Serves files connection.request answer

-- nothing was sent on the connection, or a first part of its answer
abbrev pub HasPartAtMost : List Held → Accepted → Type 0
HasPartAtMost files connection = (connection.sent ≡ []) ⊎ HasPart files connection

-- one more connection was accepted
pub record AcceptsOne (old new : List Accepted) : Type 0 where
  pub connection : Accepted
  pub after : new ≡ old ++ connection ∷ []

-- one more connection was accepted, whose request asks for a file, and nothing was sent on it; its
-- request was received as far as a host may
pub record AcceptsAsking (old new : List Accepted) : Type 0 where
  pub connection : Accepted
  pub after : new ≡ old ++ connection ∷ []
  pub unsent : connection.sent ≡ []
  pub asks : AsksForFile connection.request
  pub heard : IsHeardWithin connection

-- one more connection was accepted, and it was served where neither count of faults rose; nothing
-- but a first part of its answer was sent, and its request was received as far as a host may
pub record HostsOne (files : List Held) (old new : List Accepted)
    (door_old door_new folder_old folder_new : ℕ) : Type 0 where
  pub connection : Accepted
  pub after : new ≡ old ++ connection ∷ []
  pub fate : HasAnswer files connection ⊎ (Rose door_old door_new ⊎ Rose folder_old folder_new)
  pub begun : HasPartAtMost files connection
  pub heard : IsHeardWithin connection

-- connections were accepted, of which at most n were not served, and on each nothing but a first
-- part of its answer was sent; the request of each was received as far as a host may
pub record HostsBut (files : List Held) (old new : List Accepted) (n : ℕ) : Type 0 where
  pub made : List Accepted
  pub after : new ≡ old ++ made
  pub served : AllBut (HasAnswer files) made n
  pub begun : AllBut (HasPartAtMost files) made 0
  pub heard : AllBut IsHeardWithin made 0

-- connections were accepted, of which, without the last, at most n were not served, and on each of
-- those nothing but a first part of its answer was sent; the last asks for a file, and nothing was
-- sent on it; the request of each was received as far as a host may
pub record HostsButLast (files : List Held) (old new : List Accepted) (n : ℕ) : Type 0 where
  pub made : List Accepted
  pub last : Accepted
  pub after : new ≡ old ++ made ++ last ∷ []
  pub unsent : last.sent ≡ []
  pub asks : AsksForFile last.request
  pub served : AllBut (HasAnswer files) made n
  pub begun : AllBut (HasPartAtMost files) made 0
  pub heard : AllBut IsHeardWithin made 0
  pub last_heard : IsHeardWithin last

-- how far two counts rose
abbrev pub rises : ℕ → ℕ → ℕ → ℕ → ℕ
rises door_old door_new folder_old folder_new = (door_new - door_old) + (folder_new - folder_old)

-- a count that has not ended at its greatest number
abbrev pub IsBelowEnd : ℕ → Type 0
IsBelowEnd count = count < 0xffff_ffff_ffff_ffff

-- No count falls. That of misses rises where an accept was missed, and else stays.
pub record CountsRun (missed : Type 0)
    (misses_old misses_new door_old door_new folder_old folder_new : ℕ) : Type 0 where
  pub misses_later : misses_old ≤ misses_new
  pub door_later : door_old ≤ door_new
  pub folder_later : folder_old ≤ folder_new
  pub rose : missed → Rose misses_old misses_new
  pub quiet : ¬ missed → misses_new ≡ misses_old
