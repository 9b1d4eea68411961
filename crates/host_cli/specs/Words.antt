-- What the words of the command line ask for.
use Rattle.std.specs.Prelude.{ℕ, List, [], ◌∷◌, ◌&&◌, nat_le, if◌then◌else◌, Option, Some, None}
use Rattle.small_types.specs.Decimal.{at_most, decimal_of}
use Rattle.host_cli.specs.declared.words.TheConstants.{CONNECTION_LIMIT, PORT_LEAST, PORT_LIMIT}

-- a port that a host may have
abbrev pub port_in : Option ℕ → Option ℕ
port_in None = None
port_in (Some port) = if nat_le PORT_LEAST port && nat_le port PORT_LIMIT then Some port else None

-- the port that a word gives
abbrev pub port_of : List ℕ → Option ℕ
port_of word = port_in (decimal_of word)

-- how many connections a run has, by its port and its count
abbrev pub count_by : Option ℕ → Option ℕ → Option ℕ
count_by None count = None
count_by (Some port) count = count

-- how many connections a run has
abbrev pub count_of : List (List ℕ) → Option ℕ
count_of [] = None
count_of (port ∷ []) = None
count_of (port ∷ count ∷ []) =
    count_by (port_of port) (at_most CONNECTION_LIMIT (decimal_of count))
count_of (port ∷ count ∷ more ∷ words) = None
