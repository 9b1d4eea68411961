-- What a client reads of a host's answer.
use Rattle.std.specs.Prelude.{◌≡◌, ◌<◌, ◌^◌, ◌&&◌, ℕ, Bool, true, IsTrue, List, length, nat_le, Option, Some, Ok}
use Rattle.std.specs.List.{list_all}
use Rattle.small_types.specs.declared.limits.TheConstants.{DIGIT_LIMIT}
use Rattle.small_types.specs.declared.target.Target.{Target}
use Rattle.folders.specs.declared.folder.Held.{Held}
use Rattle.folders.specs.Files.{file_in}
use Rattle.http_plain.specs.declared.status.TheConstants.{STATUS_OK}
use Rattle.http_plain.specs.Exchange.{Gives, request_text}
use Rattle.http_plain.specs.Head.{behind_head}
use Rattle.http_plain.specs.Path.{name_in_path}
use Rattle.http_plain.specs.Served.{file_answer, Serves}

-- the answer gives the length of the bytes, and they stand behind its head
pub record ReadsAs (answer bytes : List ℕ) : Type 0 where
  pub gives : Gives answer (Ok (length bytes))
  pub body : behind_head answer ≡ bytes

-- a file that is answered is read as it stands
abbrev pub FilesAreRead : Type 0
FilesAreRead = (name bytes : List ℕ) → length bytes < 10 ^ DIGIT_LIMIT
    → ReadsAs (file_answer name true bytes) bytes

-- a byte of visible ASCII
abbrev pub is_visible : ℕ → Bool
is_visible b = nat_le 33 b && nat_le b 126

-- the host and the path hold visible bytes alone, and there is a path
pub record IsPlain (target : Target) : Type 0 where
  pub host : IsTrue (list_all is_visible target.host)
  pub port : target.port < 2 ^ 16
  pub path : IsTrue (list_all is_visible target.path)
  pub some : 0 < length target.path

-- the path names a file of these, and the answer is read as its bytes
pub record Fetches (files : List Held) (target : Target) (answer : List ℕ) : Type 0 where
  pub name : List ℕ
  pub bytes : List ℕ
  pub named : name_in_path target.path ≡ Some name
  pub held : file_in name files ≡ Some bytes
  pub read : length bytes < 10 ^ DIGIT_LIMIT → ReadsAs answer bytes

-- an answer of status 200 of a host of these files to a client's request is read as the file that
-- the path names
abbrev pub HostsAreFolders : Type 0
HostsAreFolders = (files : List Held) (target : Target) (answer : List ℕ) → IsPlain target
    → Serves files (request_text target) (record { code = Some STATUS_OK; bytes = answer })
    → Fetches files target answer
