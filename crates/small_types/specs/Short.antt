-- Texts and addresses as the code's types hold them: a text is UTF-8, and a port has 16 bits.
use Rattle.std.specs.Prelude.{◌<◌, ◌≤◌, ◌^◌, ℕ, List, length, IsUtf8}
use Rattle.small_types.specs.declared.limits.TheConstants.{URL_LIMIT}
use Rattle.small_types.specs.declared.target.Target.{Target}

-- a text of at most so many bytes; there may be none
pub record IsShort (limit : ℕ) (text : List ℕ) : Type 0 where
  pub within : length text ≤ limit
  pub utf8 : IsUtf8 text

-- The host and the path of an address are each within the limit of a URL. Each may be empty: a
-- journal can hold such an address, though none is read from a text.
pub record IsTarget (target : Target) : Type 0 where
  pub host : IsShort URL_LIMIT target.host
  pub port : target.port < 2 ^ 16
  pub path : IsShort URL_LIMIT target.path
