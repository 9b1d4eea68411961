-- Why a link did not serve.
use Rattle.std.specs.Prelude.{◌≡◌, ◌<◌, ℕ, List, length, slice_get, Some, IfSome, option_map}
use Rattle.outside.specs.Streams.{Rose}
use Rattle.small_types.specs.declared.target.Target.{Target}
use Rattle.digest_list.specs.declared.difference.Difference.{Difference}
use Rattle.digest_list.specs.declared.difference.Difference.TheVariants.{Size}
use Rattle.digest_list.specs.declared.digest.Digest.{Digest}
use Rattle.digest_list.specs.Difference.{AreDistinct, difference_of}
use Rattle.links.specs.Link.{LinkState, Lacks}
use Rattle.links.specs.Links.{LinksState, link_at, number_at, sources_of}
use Rattle.causes.specs.declared.cause.Cause.{Cause}
use Rattle.causes.specs.declared.cause.Cause.TheVariants.{Down, Missing, TooLong, Differs}

-- a length above the limit; over a link that tells it is that of its site's bytes, of which none
-- was taken
pub record IsTooLong (limit : ℕ) (target : Target) (old new : LinkState)
    (length_shown limit_shown : ℕ) : Type 0 where
  pub limited : limit_shown ≡ limit
  pub above : limit < length_shown
  pub told : old.tells → option_map length (old.site target) ≡ Some length_shown
  pub untaken : old.tells → old.site target ≡ Some new.rest

-- bytes differ so from what is listed; over a link that tells, so do those of its site, and of
-- bytes of another size none was taken
pub record IsOther (list : List Digest) (size : ℕ) (target : Target) (old new : LinkState)
    (difference : Difference) : Type 0 where
  pub bytes : List ℕ
  pub differ : difference_of list size bytes ≡ Some difference
  pub distinct : AreDistinct difference
  pub told : old.tells
      → option_map (difference_of list size) (old.site target) ≡ Some (Some difference)
  pub untaken : (listed found : ℕ) → difference ≡ Size listed found → old.tells
      → old.site target ≡ Some new.rest

-- why a link gave no text, by what it was before the fetch and after
abbrev pub IsTextCause : ℕ → Target → LinkState → LinkState → Cause → Type 0
IsTextCause limit target old new Down = Rose old.count new.count
IsTextCause limit target old new Missing = Lacks target old new
IsTextCause limit target old new (TooLong shown most) =
    IsTooLong limit target old new shown most
IsTextCause limit target old new (Differs difference) = ⊥

-- why it gave no file
abbrev pub IsFileCause : List Digest → ℕ → Target → LinkState → LinkState → Cause → Type 0
IsFileCause list size target old new Down = Rose old.count new.count
IsFileCause list size target old new Missing = Lacks target old new
IsFileCause list size target old new (TooLong shown most) = ⊥
IsFileCause list size target old new (Differs difference) =
    IsOther list size target old new difference

-- what the link at a place was before
abbrev pub came : LinksState → LinksState → ℕ → LinkState
came old new place = old.link (number_at new.there place)

-- one cause for each link that is left, in their order, each its own
pub record AreCauses (IsCause : LinkState → LinkState → Cause → Type 0) (old new : LinksState)
    (causes : List Cause) : Type 0 where
  pub count : length causes ≡ sources_of new
  pub each : (k : ℕ) → k < sources_of new
      → IfSome (slice_get causes k) (IsCause (came old new k) (link_at new k))
