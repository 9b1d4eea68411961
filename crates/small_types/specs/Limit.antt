-- What there may be too many of, as it is written.
use Rattle.std.specs.Prelude.{ℕ, List, codes}
use Rattle.small_types.specs.declared.limit.Limit.{Limit}
use Rattle.small_types.specs.declared.limit.Limit.TheVariants.{Applications, Views, Files, Locals, Hashes, Links, Jobs}

-- its word
abbrev pub limit_text : Limit → List ℕ
limit_text Applications = codes "applications"
limit_text Views = codes "views"
limit_text Files = codes "files"
limit_text Locals = codes "locals"
limit_text Hashes = codes "hashes"
limit_text Links = codes "links"
limit_text Jobs = codes "jobs"
