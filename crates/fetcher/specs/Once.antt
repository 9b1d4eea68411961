-- What each link is asked by a fetch, over every link, also over one that tells nothing.
use Rattle.std.specs.Prelude.{◌≡◌, ◌≢◌, ◌⊎◌, ◌+◌, ◌<◌, ◌≤◌, ℕ, List, [], ◌∷◌, ◌++◌, length, Some, Result, Ok, IfOk, OnErr, MatchResult}
use Rattle.small_types.specs.declared.target.Target.{Target}
use Rattle.digest_list.specs.declared.difference.Difference.{Difference}
use Rattle.digest_list.specs.declared.difference.Difference.TheVariants.{Size}
use Rattle.digest_list.specs.declared.digest.Digest.{Digest}
use Rattle.digest_list.specs.Difference.{difference_of}
use Rattle.digest_list.specs.Matches.{Matches}
use Rattle.links.specs.declared.history.LinkCall.{LinkCall}
use Rattle.links.specs.declared.history.LinkCall.TheVariants.{Gave}
use Rattle.links.specs.declared.link.LinkFault.{LinkFault}
use Rattle.links.specs.Asked.{AskedOnce, Calls, StopAtEnd, bytes_given, targets_in}
use Rattle.links.specs.Link.{LinkState}
use Rattle.links.specs.Links.{IsLeft, LinksState, link_at, sources_of}
use Rattle.causes.specs.declared.cause.Cause.{Cause}
use Rattle.causes.specs.declared.cause.Cause.TheVariants.{TooLong, Differs}
use Rattle.fetcher.specs.declared.fault.FetchFault.{FetchFault}
use Rattle.fetcher.specs.declared.fault.FetchFault.TheVariants.{AllLinks, BasketFault, Memory}
use Rattle.fetcher.specs.Causes.{AreCauses}
use Rattle.fetcher.specs.Fetched.{IsFile, IsText, became}

-- ---- one link

-- Whatever it answered, the link was asked for the target once, and then for pieces alone, which
-- stopped at the end of the body or at a failure and gave at most so many bytes. None was asked for
-- where it failed, or where the length that it answered does not serve.
pub record IsAsked (Serves : ℕ → Type 0) (most : ℕ) (target : Target) (old new : LinkState) : Type 0
  where
    pub answer : Result ℕ LinkFault
    pub pieces : List LinkCall
    pub once : AskedOnce target old new answer pieces
    pub failed : OnErr answer (pieces ≡ [])
    pub unfit : IfOk answer (λ n. ¬ Serves n → pieces ≡ [])
    pub ends : StopAtEnd pieces
    pub within : length (bytes_given pieces) ≤ most

-- it was asked so, answered a length that serves, and gave these bytes in its pieces
pub record HasServed (Serves : ℕ → Type 0) (target : Target) (old new : LinkState) (bytes : List ℕ)
    : Type 0 where
  pub answered : ℕ
  pub serves : Serves answered
  pub pieces : List LinkCall
  pub once : AskedOnce target old new (Ok answered) pieces
  pub ends : StopAtEnd pieces
  pub given : bytes_given pieces ≡ bytes

-- ---- the links in their order

-- The first ones of the links that were left were each asked once, and no link behind them was.
pub record AskedFirst (Serves : ℕ → Type 0) (most : ℕ) (target : Target) (old new : LinksState)
    (many : ℕ) : Type 0 where
  pub within : many ≤ sources_of old
  pub each : (k : ℕ) → k < many → IsAsked Serves most target (link_at old k) (became old new k)
  pub behind : (k : ℕ) → many ≤ k → k < sources_of old
      → (became old new k).history ≡ (link_at old k).history

-- they are those up to the one at the place, which gave these bytes
pub record AskedUpTo (Serves : ℕ → Type 0) (most : ℕ) (target : Target) (old new : LinksState)
    (place : ℕ) (bytes : List ℕ) : Type 0 where
  pub first : AskedFirst Serves most target old new (place + 1)
  pub served : HasServed Serves target (link_at old place) (became old new place) bytes

-- None gave what was asked for: each was asked once, or, where memory or the basket failed, the
-- first ones.
abbrev pub AskedInVain : (ℕ → Type 0) → ℕ → Target → LinksState → LinksState → FetchFault → Type 0
AskedInVain Serves most target old new (AllLinks shown causes) =
    AskedFirst Serves most target old new (sources_of old)
AskedInVain Serves most target old new BasketFault =
    (many : ℕ) × AskedFirst Serves most target old new many
AskedInVain Serves most target old new Memory =
    (many : ℕ) × AskedFirst Serves most target old new many

-- ---- texts and files

-- The link that served is the last one that was asked, and what was fetched is what it gave.
pub record AskedUpToText (limit : ℕ) (target : Target) (old new : LinksState) (bytes : List ℕ)
    : Type 0 where
  pub text : IsText limit target old new bytes
  pub up_to : AskedUpTo (λ n. n ≤ limit) limit target old new text.served.place bytes

pub record AskedUpToFile (list : List Digest) (size : ℕ) (target : Target) (old new : LinksState)
    (tells : Type 0) (held : List ℕ) : Type 0 where
  pub file : IsFile list size target old new tells held
  pub up_to : AskedUpTo (λ n. n ≡ size) size target old new file.served.place file.bytes

-- a length serves for a text that is not above the limit, and for a file the listed size alone
abbrev pub AskedForText : ℕ → Target → LinksState → LinksState → Result (List ℕ) FetchFault → Type 0
AskedForText limit target old new result =
    MatchResult result (AskedUpToText limit target old new)
    (AskedInVain (λ n. n ≤ limit) limit target old new)

abbrev pub AskedForFile : List Digest → ℕ → Target → LinksState → LinksState → Type 0 → List ℕ
    → Result (Unit {0}) FetchFault → Type 0
AskedForFile list size target old new tells held result =
    MatchResult result (λ _. AskedUpToFile list size target old new tells held)
    (AskedInVain (λ n. n ≡ size) size target old new)

-- ---- what a link showed of itself

-- the last of the pieces gave nothing, so the body was at its end
pub record EndsEmpty (pieces : List LinkCall) : Type 0 where
  pub earlier : List LinkCall
  pub is : pieces ≡ earlier ++ Gave [] ∷ []

-- all was taken that was wanted: so many bytes, or as many as there were
abbrev pub AreAll : ℕ → List LinkCall → Type 0
AreAll size pieces = (length (bytes_given pieces) ≡ size) ⊎ EndsEmpty pieces

-- It was asked for the target once, and did not fail. It answered another length than the listed
-- one, and the difference says so, or the listed one, and then gave bytes that differ so.
pub record ShowsOther (list : List Digest) (size : ℕ) (target : Target) (old new : LinkState)
    (difference : Difference) : Type 0 where
  pub answered : ℕ
  pub pieces : List LinkCall
  pub once : AskedOnce target old new (Ok answered) pieces
  pub sound : new.count ≡ old.count
  pub differs : ((answered ≢ size) × (difference ≡ Size size answered))
      ⊎ ((answered ≡ size) × AreAll size pieces
      × (difference_of list size (bytes_given pieces) ≡ Some difference))

-- it was asked for the target once, did not fail, and answered this length, and no piece was taken
pub record ShowsLong (target : Target) (old new : LinkState) (shown : ℕ) : Type 0 where
  pub once : AskedOnce target old new (Ok shown) []
  pub sound : new.count ≡ old.count

-- what a cause says that names a difference, or a length; the count of the link tells the others
abbrev pub ShowsFileCause : List Digest → ℕ → Target → LinkState → LinkState → Cause → Type 0
ShowsFileCause list size target old new (Differs difference) =
    ShowsOther list size target old new difference
ShowsFileCause list size target old new _ = Unit {0}

abbrev pub ShowsTextCause : Target → LinkState → LinkState → Cause → Type 0
ShowsTextCause target old new (TooLong shown most) = ShowsLong target old new shown
ShowsTextCause target old new _ = Unit {0}

-- each cause that is told is what its link showed
abbrev pub CausesAreShown : (LinkState → LinkState → Cause → Type 0) → LinksState → LinksState
    → FetchFault → Type 0
CausesAreShown Shows old new (AllLinks shown causes) = AreCauses Shows old new causes
CausesAreShown Shows old new _ = Unit {0}

-- It was asked for the target once, did not fail, and answered another length than the listed one,
-- or gave bytes that do not match.
pub record ShowsLie (list : List Digest) (size : ℕ) (target : Target) (old new : LinkState)
    : Type 0 where
  pub answered : ℕ
  pub pieces : List LinkCall
  pub once : AskedOnce target old new (Ok answered) pieces
  pub sound : new.count ≡ old.count
  pub other : (answered ≢ size)
      ⊎ (AreAll size pieces × ¬ (Matches list size (bytes_given pieces)))

-- each link that went did so
abbrev pub OnlyShownLiarsWent : List Digest → ℕ → Target → LinksState → LinksState → Type 0
OnlyShownLiarsWent list size target old new = (n : ℕ) → IsLeft old n → ¬ (IsLeft new n)
    → ShowsLie list size target (old.link n) (new.link n)

-- ---- pieces

-- pieces of a link were taken, which gave these bytes; the calls are as it says
pub record Took (Ends : List LinkCall → Type 0) (old new : LinkState) (bytes : List ℕ) : Type 0
  where
    pub pieces : List LinkCall
    pub only : targets_in pieces ≡ []
    pub calls : Calls old new pieces
    pub ends : Ends pieces
    pub given : bytes_given pieces ≡ bytes

-- they gave at most so many
pub record TookAtMost (most : ℕ) (old new : LinkState) : Type 0 where
  pub bytes : List ℕ
  pub within : length bytes ≤ most
  pub took : Took StopAtEnd old new bytes

-- one piece was taken, which gave at most so many bytes
pub record TookPiece (most : ℕ) (old new : LinkState) : Type 0 where
  pub call : LinkCall
  pub only : targets_in (call ∷ []) ≡ []
  pub calls : Calls old new (call ∷ [])
  pub within : length (bytes_given (call ∷ [])) ≤ most
