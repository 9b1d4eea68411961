-- What links have for a target.
use Rattle.std.specs.Prelude.{◌≡◌, ◌<◌, ◌≤◌, ℕ, List, length, Option, Some, None, IfSome}
use Rattle.small_types.specs.declared.target.Target.{Target}
use Rattle.digest_list.specs.declared.digest.Digest.{Digest}
use Rattle.digest_list.specs.Matches.{Matches}
use Rattle.links.specs.Links.{IsLeft, LinksState, link_at, sources_of}

-- the bytes of the first link whose site has bytes that fit
pub record IsFirst (Fits : List ℕ → Type 0) (links : LinksState) (target : Target) (bytes : List ℕ)
    : Type 0 where
  pub place : ℕ
  pub within : place < sources_of links
  pub there : (link_at links place).site target ≡ Some bytes
  pub fits : Fits bytes
  pub first : (k : ℕ) → k < place → IfSome ((link_at links k).site target) (λ other. ¬ Fits other)

-- the bytes that links give for a target: those of the first that has bytes that fit, or none where
-- no link has such
abbrev pub Given : (List ℕ → Type 0) → LinksState → Target → Option (List ℕ) → Type 0
Given Fits links target None =
    (k : ℕ) → k < sources_of links → IfSome ((link_at links k).site target) (λ bytes. ¬ Fits bytes)
Given Fits links target (Some bytes) = IsFirst Fits links target bytes

-- a text has at most so many bytes
abbrev pub FitsText : ℕ → List ℕ → Type 0
FitsText limit bytes = length bytes ≤ limit

-- as a text, and as a file of that size and list
abbrev pub GivenText : ℕ → LinksState → Target → Option (List ℕ) → Type 0
GivenText limit = Given (FitsText limit)

abbrev pub GivenFile : List Digest → ℕ → LinksState → Target → Option (List ℕ) → Type 0
GivenFile list size = Given (Matches list size)

-- the bytes are those of the site of a link that is left
pub record IsOfSite (links : LinksState) (target : Target) (bytes : List ℕ) : Type 0 where
  pub number : ℕ
  pub left : IsLeft links number
  pub there : (links.link number).site target ≡ Some bytes
