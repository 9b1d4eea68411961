-- What a fetch gives, and what it leaves of the links.
use Rattle.std.specs.Prelude.{◌≡◌, ◌⊎◌, ◌<◌, ◌≤◌, ℕ, Bool, true, false, List, [], ◌∷◌, ◌++◌, length, slice_get, Some, None, IfSome}
use Rattle.outside.specs.Streams.{Rose}
use Rattle.small_types.specs.declared.target.Target.{Target}
use Rattle.digest_list.specs.declared.digest.Digest.{Digest}
use Rattle.digest_list.specs.Matches.{Matches}
use Rattle.links.specs.Link.{LinkState, KeepsSite, Stays}
use Rattle.links.specs.Links.{IsLeft, LinksState, Remain, link_at, number_at, sources_of}
use Rattle.causes.specs.declared.cause.Cause.{Cause}
use Rattle.causes.specs.declared.cause.Cause.TheVariants.{Differs}
use Rattle.fetcher.specs.declared.fault.FetchFault.{FetchFault}
use Rattle.fetcher.specs.declared.fault.FetchFault.TheVariants.{AllLinks, BasketFault, Memory}
use Rattle.fetcher.specs.Causes.{AreCauses, IsTextCause, IsFileCause}
use Rattle.fetcher.specs.Given.{FitsText, Given, GivenText, GivenFile, IsFirst, IsOfSite}

-- Those that are left were left before. Every site stays, and no count falls, of those that are
-- gone too. More targets may have been asked for.
pub record Kept (old new : LinksState) : Type 0 where
  pub all : length new.there ≡ length old.there
  pub left : (n : ℕ) → IsLeft new n → IsLeft old n
  pub more : List Target
  pub grown : new.asked ≡ old.asked ++ more
  pub sites : (n : ℕ) → n < length old.there → KeepsSite (old.link n) (new.link n)
  pub later : (n : ℕ) → n < length old.there → (old.link n).count ≤ (new.link n).count

-- what became of the link at a place
abbrev pub became : LinksState → LinksState → ℕ → LinkState
became old new place = new.link (number_at old.there place)

-- each link that is left tells
abbrev pub AllTell : LinksState → Type 0
AllTell links = (n : ℕ) → IsLeft links n → (links.link n).tells

-- each link tells, and the count of none rose, of one that went since neither
pub record AreQuiet (old new : LinksState) : Type 0 where
  pub tell : AllTell old
  pub quiet : (n : ℕ) → IsLeft old n → ¬ (Rose (old.link n).count (new.link n).count)

-- the links up to this place tell, and the count of none of them rose
pub record AreQuietTo (place : ℕ) (old new : LinksState) : Type 0 where
  pub tell : (k : ℕ) → k ≤ place → (link_at old k).tells
  pub quiet : (k : ℕ) → k ≤ place → ¬ (Rose (link_at old k).count (became old new k).count)

-- the target was asked for once
abbrev pub WasAsked : Target → LinksState → LinksState → Type 0
WasAsked target old new = new.asked ≡ old.asked ++ target ∷ []

-- or, for want of memory, not at all
abbrev pub MayAsk : Target → LinksState → LinksState → Type 0
MayAsk target old new = (new.asked ≡ old.asked) ⊎ WasAsked target old new

-- the target was asked for since
pub record IsAskedSince (target : Target) (old new : LinksState) : Type 0 where
  pub earlier : List Target
  pub later : List Target
  pub is : new.asked ≡ old.asked ++ (earlier ++ target ∷ later)

-- the bytes are those of the link at a place, which did not fail; each before it has its cause, and
-- none behind it was asked
pub record IsOfLink (IsCause : LinkState → LinkState → Cause → Type 0) (target : Target)
    (old new : LinksState) (bytes : List ℕ) : Type 0 where
  pub place : ℕ
  pub within : place < sources_of old
  pub told : (link_at old place).tells → (link_at old place).site target ≡ Some bytes
  pub sound : (became old new place).count ≡ (link_at old place).count
  pub causes : List Cause
  pub count : length causes ≡ place
  pub before : (k : ℕ) → k < place
      → IfSome (slice_get causes k) (IsCause (link_at old k) (became old new k))
  pub behind : (k : ℕ) → place < k → k < sources_of old → Stays (link_at old k) (became old new k)

-- ---- links that lie

-- a link goes that gave other bytes than are listed, and no other does
abbrev pub stays_for : Cause → Bool
stays_for (Differs difference) = false
stays_for _ = true

-- which links are left, where the first ones did not serve for these causes, and then one did
abbrev pub without_liars : List Cause → List Bool → List Bool
without_liars [] there = there
without_liars (cause ∷ causes) [] = []
without_liars (cause ∷ causes) (true ∷ there) = stays_for cause ∷ without_liars causes there
without_liars (cause ∷ causes) (false ∷ there) = false ∷ without_liars (cause ∷ causes) there

-- At a target that was asked for since, the link's site has bytes that do not match what is listed
-- there.
pub record HasLied (IsListed : Target → List Digest → ℕ → Type 0) (old new : LinksState)
    (link : LinkState) : Type 0 where
  pub target : Target
  pub asked : IsAskedSince target old new
  pub list : List Digest
  pub size : ℕ
  pub listed : IsListed target list size
  pub bytes : List ℕ
  pub there : link.site target ≡ Some bytes
  pub other : ¬ (Matches list size bytes)

-- Of the links that tell only those went that lied.
abbrev pub OnlyLiarsWent : (Target → List Digest → ℕ → Type 0) → LinksState → LinksState → Type 0
OnlyLiarsWent IsListed old new = (n : ℕ) → IsLeft old n → ¬ (IsLeft new n) → (old.link n).tells
    → HasLied IsListed old new (old.link n)

-- the links are kept, and none is gone
pub record KeptAll (old new : LinksState) : Type 0 where
  pub kept : Kept old new
  pub remain : Remain old new

-- they are kept, but for those that lied
pub record KeptBut (IsListed : Target → List Digest → ℕ → Type 0) (old new : LinksState)
    : Type 0 where
  pub kept : Kept old new
  pub went : OnlyLiarsWent IsListed old new

-- what is listed there is this
abbrev pub IsThis : Target → List Digest → ℕ → Target → List Digest → ℕ → Type 0
IsThis target list size t l s = (t ≡ target) × (l ≡ list) × (s ≡ size)

-- ---- what is given

-- where bytes are given by links of which those up to the one that has them are quiet, they are
-- these
abbrev pub AreGiven : (List ℕ → Type 0) → Target → LinksState → LinksState → List ℕ → Type 0
AreGiven Fits target old new bytes =
    (given : List ℕ) (first : IsFirst Fits old target given) → AreQuietTo first.place old new
    → bytes ≡ given

-- a text that was fetched; no link goes for it
pub record IsText (limit : ℕ) (target : Target) (old new : LinksState) (bytes : List ℕ)
    : Type 0 where
  pub asked : WasAsked target old new
  pub within : length bytes ≤ limit
  pub served : IsOfLink (IsTextCause limit target) target old new bytes
  pub enough : AreGiven (FitsText limit) target old new bytes
  pub site : AllTell old → IsOfSite old target bytes
  pub given : AreQuiet old new → GivenText limit old target (Some bytes)

-- A file that was fetched into a basket, which may tell what it holds. The links that were asked
-- before and gave other bytes are gone, and no other is.
pub record IsFile (list : List Digest) (size : ℕ) (target : Target) (old new : LinksState)
    (tells : Type 0) (held : List ℕ) : Type 0 where
  pub asked : WasAsked target old new
  pub bytes : List ℕ
  pub taken : tells → held ≡ bytes
  pub matches : Matches list size bytes
  pub served : IsOfLink (IsFileCause list size target) target old new bytes
  pub left : new.there ≡ without_liars served.causes old.there
  pub enough : AreGiven (Matches list size) target old new bytes
  pub site : AllTell old → IsOfSite old target bytes
  pub given : AreQuiet old new → GivenFile list size old target (Some bytes)

-- No link gave it, each for its cause, and none is gone. Where they are quiet none has it, and a
-- link that has it is not quiet or is behind one that is not.
pub record NoneGave (IsCause : LinkState → LinkState → Cause → Type 0) (Fits : List ℕ → Type 0)
    (target : Target) (old new : LinksState) (named : Target) (reasons : List Cause) : Type 0 where
  pub asked : WasAsked target old new
  pub shown : named ≡ target
  pub remain : Remain old new
  pub causes : AreCauses IsCause old new reasons
  pub enough : (given : List ℕ) (first : IsFirst Fits old target given)
      → ¬ (AreQuietTo first.place old new)
  pub none : AreQuiet old new → Given Fits old target None

-- why no text was fetched
abbrev pub IsTextFault : ℕ → Target → LinksState → LinksState → FetchFault → Type 0
IsTextFault limit target old new (AllLinks shown causes) =
    NoneGave (IsTextCause limit target) (λ bytes. length bytes ≤ limit) target old new shown causes
IsTextFault limit target old new BasketFault = ⊥
IsTextFault limit target old new Memory = MayAsk target old new

-- the count of the basket rose
pub record BasketFailed (target : Target) (old new : LinksState) (before after : ℕ) : Type 0 where
  pub asked : WasAsked target old new
  pub rose : Rose before after

-- why no file was fetched, by the counts of the basket before and after
abbrev pub IsFileFault : List Digest → ℕ → Target → LinksState → LinksState → ℕ → ℕ → FetchFault
    → Type 0
IsFileFault list size target old new before after (AllLinks shown causes) =
    NoneGave (IsFileCause list size target) (Matches list size) target old new shown causes
IsFileFault list size target old new before after BasketFault =
    BasketFailed target old new before after
IsFileFault list size target old new before after Memory = MayAsk target old new
