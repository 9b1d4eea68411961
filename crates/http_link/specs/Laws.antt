-- What holds of every link over HTTP.
use Rattle.std.specs.Prelude.{◌≡◌, ◌<◌, ◌^◌, ℕ, List, length, Some, Result, Ok}
use Rattle.small_types.specs.declared.limits.TheConstants.{DIGIT_LIMIT}
use Rattle.small_types.specs.declared.target.Target.{Target}
use Rattle.connections.specs.Wire.{Made}
use Rattle.folders.specs.declared.folder.Held.{Held}
use Rattle.http_plain.specs.declared.fault.ExchangeFault.{ExchangeFault}
use Rattle.http_plain.specs.declared.status.TheConstants.{STATUS_OK}
use Rattle.http_plain.specs.Exchange.{Gives}
use Rattle.http_plain.specs.HostsAreFolders.{IsPlain}
use Rattle.http_plain.specs.Served.{Serves}
use Rattle.http_plain.specs.Sites.{served}
use Rattle.links.specs.declared.link.LinkFault.{LinkFault}
use Rattle.http_link.specs.WireAsks.{IsHeard, heard}

-- what the answer gives is what the link answers
abbrev pub AnswersAreHeard : Type 0
AnswersAreHeard = (target : Target) (rest : List ℕ) (result : Result ℕ LinkFault) (made : Made)
    (outcome : Result ℕ ExchangeFault)
    → IsHeard target rest result made → Gives made.answer outcome → result ≡ heard outcome

-- the link answers the length of these bytes, and they are its rest
pub record GivesBytes (rest : List ℕ) (result : Result ℕ LinkFault) (bytes : List ℕ) : Type 0 where
  pub sized : result ≡ Ok (length bytes)
  pub same : rest ≡ bytes

-- the site of a link to the folder of these files has bytes for the target, and the link gives them
pub record GivesFile (files : List Held) (target : Target) (rest : List ℕ)
    (result : Result ℕ LinkFault) : Type 0 where
  pub bytes : List ℕ
  pub there : served files target ≡ Some bytes
  pub gives : length bytes < 10 ^ DIGIT_LIMIT → GivesBytes rest result bytes

-- where a host of these files answers 200 to the request on the connection, the link that heard it
-- gives the file
abbrev pub HttpIsFolder : Type 0
HttpIsFolder = (files : List Held) (target : Target) (rest : List ℕ) (result : Result ℕ LinkFault)
    (made : Made) → IsPlain target → IsHeard target rest result made
    → Serves files made.sent (record { code = Some STATUS_OK; bytes = made.answer })
    → GivesFile files target rest result
