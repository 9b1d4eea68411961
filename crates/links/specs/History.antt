-- What was asked of a link, and what it gave.
use Rattle.std.specs.Prelude.{ℕ, List, take, Result, Ok, Err}
use Rattle.links.specs.declared.history.History.{History}
use Rattle.links.specs.declared.history.LinkCall.{LinkCall}
use Rattle.links.specs.declared.history.LinkCall.TheVariants.{Gave, Broke}
use Rattle.links.specs.declared.link.LinkFault.{LinkFault}

abbrev pub calls_of : History → List LinkCall
calls_of history = history.calls.noted

-- a call for a piece, by the buffer afterwards and the answer
abbrev pub piece_call : List ℕ → Result ℕ LinkFault → LinkCall
piece_call buf (Ok n) = Gave (take n buf)
piece_call buf (Err fault) = Broke
