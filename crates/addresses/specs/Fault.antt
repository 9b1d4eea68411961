-- What an error of the parser is to an address.
use Rattle.url.specs.declared.error.ParseError.{ParseError}
use Rattle.url.specs.declared.error.ParseError.TheVariants.{Overflow, OutOfMemory}
use Rattle.addresses.specs.declared.fault.UrlFault.{UrlFault}
use Rattle.addresses.specs.declared.fault.UrlFault.TheVariants.{BadUrl, Memory}

-- the parser had no room, or the text is no URL
abbrev pub fault_of : ParseError → UrlFault
fault_of OutOfMemory = Memory
fault_of Overflow = Memory
fault_of _ = BadUrl
