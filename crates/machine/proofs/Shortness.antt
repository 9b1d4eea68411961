-- What is read as a key is within the limits of one.
use Rattle.std.proofs.Common.{ℕ, List}
use Rattle.identity.specs.declared.key.Key.{Key}
use Rattle.identity.specs.Key.{IsKey, IsPart}
use Rattle.machine.specs.Fields.{IsShort, IsShortKey}

pub short_part : {limit : ℕ} {text : List ℕ} → IsPart limit text → IsShort limit text
short_part part = record { within = part.within; utf8 = part.utf8 }

pub short_key : {key : Key} → IsKey key → IsShortKey key
short_key is = record {
  name = short_part is.name;
  token = short_part is.token;
  language = short_part is.language;
  architecture = short_part is.architecture;
}
