-- What links gave for a target, or why they did not, from the beginning of a line to its end.
use Rattle.std.specs.Prelude.{ℕ, Bool, List, Some, None}
use Rattle.small_types.specs.declared.target.Target.{Target}
use Rattle.causes.specs.declared.cause.Cause.{Cause}
use Rattle.links.specs.Link.{LinkState}
use Rattle.links.specs.Links.{LinksState}
use Rattle.fetcher.specs.Causes.{AreCauses}
use Rattle.fetcher.specs.Fetched.{AllTell, AreGiven, AreQuiet, Kept}
use Rattle.fetcher.specs.Given.{Given, IsOfSite}

-- Bytes that fit were got at the target. Over links that tell they are those of one link's site,
-- and where no link failed those of the first link whose bytes fit. For the latter it is enough
-- that the links up to that one tell and did not fail.
pub record IsFrom (Fits : List ℕ → Type 0) (target : Target) (before after : LinksState)
    (bytes : List ℕ) : Type 0 where
  pub fits : Fits bytes
  pub enough : AreGiven Fits target before after bytes
  pub site : AllTell before → IsOfSite before target bytes
  pub given : AreQuiet before after → Given Fits before target (Some bytes)

-- of the links these are left
abbrev pub narrowed : LinksState → List Bool → LinksState
narrowed links left = record links { there = left }

-- The same of a file, for which those links were asked that were left by then. Where no link went
-- they are those from before.
pub record IsFromLeft (Fits : List ℕ → Type 0) (target : Target) (before after : LinksState)
    (bytes : List ℕ) : Type 0 where
  pub left : List Bool
  pub earlier : Kept before (narrowed before left)
  pub later : Kept (narrowed before left) after
  pub from : IsFrom Fits target (narrowed before left) after bytes

-- No link gave the target, each for its cause. Where no link failed, none of these has bytes that
-- fit.
pub record IsUngiven (IsCause : LinkState → LinkState → Cause → Type 0) (Fits : List ℕ → Type 0)
    (target : Target) (before after links : LinksState) (reasons : List Cause) : Type 0 where
  pub causes : AreCauses IsCause before after reasons
  pub none : AreQuiet before after → Given Fits links target None
