-- What becomes of the last connection while it is served.
use Rattle.std.specs.Prelude.{◌≡◌, ◌≢◌, ◌<◌, ◌≤◌, ◌↔◌, ℕ, Bool, List, [], ◌∷◌, ◌++◌, length, Option, Some, None, Result, Err}
use Rattle.outside.specs.Streams.{Rose}
use Rattle.connections.specs.Door.{Accepted}
use Rattle.folders.specs.declared.folder.FolderFault.{FolderFault as ReadingFault}
use Rattle.folders.specs.declared.folder.FolderFault.TheVariants.{Failed, Memory}
use Rattle.folders.specs.declared.folder.Held.{Held}
use Rattle.http_plain.specs.declared.demand.Demand.TheVariants.{File}
use Rattle.http_plain.specs.Head.{IsEnough, IsNear, head_end}
use Rattle.http_plain.specs.declared.head.TheConstants.{HEAD_LIMIT}
use Rattle.http_plain.specs.Served.{Answer, Asks, Serves}
use Rattle.plain_host.specs.declared.fault.ServeFault.{ServeFault}
use Rattle.plain_host.specs.declared.fault.ServeFault.TheVariants.{ReadFault, WriteFault, FolderFault, Memory as no_memory}
use Rattle.plain_host.specs.declared.fault.Served.{Served}
use Rattle.plain_host.specs.declared.fault.Served.TheVariants.{Answered, Silent}
use Rattle.plain_host.specs.declared.request.TheConstants.{REQUEST_PIECE}

-- bytes of the last connection's request were taken, bytes were sent on it, and the others are as
-- they were
pub record Serving (old new : List Accepted) (taken sent : List ℕ) : Type 0 where
  pub earlier : List Accepted
  pub last : Accepted
  pub left : List ℕ
  pub before : old ≡ earlier ++ last ∷ []
  pub after : new ≡ earlier ++ record last { left = left; sent = last.sent ++ sent } ∷ []
  pub split : last.left ≡ taken ++ left

-- a first part of the bytes was sent on the last connection, and the rest was not
pub record SendsFront (old new : List Accepted) (bytes rest : List ℕ) : Type 0 where
  pub done : List ℕ
  pub given : bytes ≡ done ++ rest
  pub sent : Serving old new [] done

-- a first part of the bytes was sent on the last connection, and not all
pub record SendsPart (old new : List Accepted) (bytes : List ℕ) : Type 0 where
  pub rest : List ℕ
  pub some : 0 < length rest
  pub front : SendsFront old new bytes rest

-- the whole request of the last connection was taken, and nothing was sent
pub record TakesAll (old new : List Accepted) (front : List ℕ) : Type 0 where
  pub taken : Serving old new front []
  pub all : taken.left ≡ []

-- enough of the last connection's request was taken to know what it asks for, and no piece once the
-- end of its head had come
pub record TakesFront (old new : List Accepted) (front : List ℕ) : Type 0 where
  pub taken : Serving old new front []
  pub enough : IsEnough front taken.left
  pub near : IsNear REQUEST_PIECE front

-- no more of the last connection's request was taken than a head may have, and no piece once the
-- end of its head had come; nothing was sent
pub record SendsNothing (old new : List Accepted) : Type 0 where
  pub front : List ℕ
  pub few : length front ≤ HEAD_LIMIT
  pub near : IsNear REQUEST_PIECE front
  pub taken : Serving old new front []

-- what was taken of the last connection's request is shorter than a head may be and has no end of
-- one, and nothing was sent
pub record BreaksOff (old new : List Accepted) : Type 0 where
  pub front : List ℕ
  pub few : length front < HEAD_LIMIT
  pub none : head_end front ≡ None
  pub taken : Serving old new front []

-- what was left of the last connection's request asks for a file, and nothing was sent; no more of
-- it was taken than a head may have, and no piece once the end of the head had come
pub record AsksFile (old new : List Accepted) : Type 0 where
  pub front : List ℕ
  pub few : length front ≤ HEAD_LIMIT
  pub near : IsNear REQUEST_PIECE front
  pub taken : Serving old new front []
  pub name : List ℕ
  pub whole : Bool
  pub asks : Asks taken.last.left (File name whole)

-- what a fault of the folder is to a connection
abbrev pub fault_by : ReadingFault → ServeFault
fault_by Failed = FolderFault
fault_by Memory = no_memory

-- The counts of the door and the folder never fall. Each fault of theirs comes only where its count
-- rose, and any other result leaves that count.
pub record FaultsCounted {T : Type 0} (door_old door_new folder_old folder_new : ℕ)
    (result : Result T ServeFault) : Type 0 where
  pub door_later : door_old ≤ door_new
  pub folder_later : folder_old ≤ folder_new
  pub read : result ≡ Err ReadFault → Rose door_old door_new
  pub write : result ≡ Err WriteFault → Rose door_old door_new
  pub folder : result ≡ Err FolderFault → Rose folder_old folder_new
  pub quiet_door : result ≢ Err ReadFault → result ≢ Err WriteFault → door_new ≡ door_old
  pub quiet_folder : result ≢ Err FolderFault → folder_new ≡ folder_old

-- the code that was answered
abbrev pub answered_code : Served → Option ℕ
answered_code (Answered code) = Some code
answered_code Silent = None

-- what was left of the last connection's request was answered as a host of these files answers it:
-- with these bytes and no others; enough of it was taken to know what it asks for, no more than a
-- head may have, and no piece once the end of the head had come
pub record ServesLast (files : List Held) (old new : List Accepted) (code : Option ℕ) : Type 0 where
  pub front : List ℕ
  pub few : length front ≤ HEAD_LIMIT
  pub near : IsNear REQUEST_PIECE front
  pub bytes : List ℕ
  pub sent : Serving old new front bytes
  pub enough : IsEnough front sent.left
  pub serves : Serves files sent.last.left (record { code = code; bytes = bytes })

-- the same, but that a first part of the answer was sent, and not all
pub record ServesPart (files : List Held) (old new : List Accepted) : Type 0 where
  pub front : List ℕ
  pub few : length front ≤ HEAD_LIMIT
  pub near : IsNear REQUEST_PIECE front
  pub answer : Answer
  pub done : List ℕ
  pub rest : List ℕ
  pub given : answer.bytes ≡ done ++ rest
  pub some : 0 < length rest
  pub sent : Serving old new front done
  pub enough : IsEnough front sent.left
  pub serves : Serves files sent.last.left answer

-- the connection was left without an answer exactly where nothing was left of its request
pub record SilentAtEnd (old : List Accepted) (served : Served) : Type 0 where
  pub earlier : List Accepted
  pub last : Accepted
  pub before : old ≡ earlier ++ last ∷ []
  pub exact : (served ≡ Silent) ↔ (last.left ≡ [])

-- a host of these files answers a request so
pub record ServesSome (files : List Held) (code : Option ℕ) : Type 0 where
  pub request : List ℕ
  pub bytes : List ℕ
  pub serves : Serves files request (record { code = code; bytes = bytes })
