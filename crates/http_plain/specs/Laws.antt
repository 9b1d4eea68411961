-- What the definitions determine.
use Rattle.std.specs.Prelude.{◌≡◌, ℕ, List, Result}
use Rattle.folders.specs.declared.folder.Held.{Held}
use Rattle.http_plain.specs.declared.demand.Demand.{Demand}
use Rattle.http_plain.specs.declared.fault.ExchangeFault.{ExchangeFault}
use Rattle.http_plain.specs.Exchange.{Gives}
use Rattle.http_plain.specs.Served.{Asks, Answer, Serves}

-- a request asks for one thing
abbrev pub OneDemand : Type 0
OneDemand = (request : List ℕ) (one other : Demand)
    → Asks request one → Asks request other → one ≡ other

-- files and a request determine the answer
abbrev pub OneAnswer : Type 0
OneAnswer = (files : List Held) (request : List ℕ) (one other : Answer)
    → Serves files request one → Serves files request other → one ≡ other

-- an answer gives one outcome
abbrev pub OneOutcome : Type 0
OneOutcome = (answer : List ℕ) (one other : Result ℕ ExchangeFault)
    → Gives answer one → Gives answer other → one ≡ other
