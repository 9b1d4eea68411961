-- What is done with one link.
use Rattle.std.specs.Prelude.{◌≡◌, ◌≢◌, ◌+◌, ◌<◌, ◌≤◌, ℕ, List, [], ◌∷◌, ◌++◌, length, take, Some, Result, Err}
use Rattle.outside.specs.Streams.{Rose}
use Rattle.small_types.specs.declared.target.Target.{Target}
use Rattle.digest_list.specs.declared.checker.Checker.{Checker}
use Rattle.digest_list.specs.declared.digest.Digest.{Digest}
use Rattle.digest_list.specs.Checker.{IsFed}
use Rattle.digest_list.specs.Matches.{Matches}
use Rattle.links.specs.declared.basket.BasketFault.{BasketFault}
use Rattle.links.specs.declared.basket.BasketFault.TheVariants.{Failed, Memory as NoRoom}
use Rattle.links.specs.declared.link.LinkFault.{LinkFault}
use Rattle.links.specs.declared.link.LinkFault.TheVariants.{Missing as IsMissing, Down as IsDown, Memory as NoMemory}
use Rattle.links.specs.Asked.{StopAtEnd}
use Rattle.links.specs.Link.{LinkState, KeepsSite, Stays}
use Rattle.links.specs.Links.{LinksState, ChangesOnly, Retires, link_at}
use Rattle.causes.specs.declared.cause.Cause.{Cause}
use Rattle.causes.specs.declared.cause.Cause.TheVariants.{Down, Missing, Differs}
use Rattle.fetcher.specs.declared.fault.FetchFault.{FetchFault}
use Rattle.fetcher.specs.declared.fault.FetchFault.TheVariants.{AllLinks, BasketFault as BasketFailed, Memory as OutOfMemory}
use Rattle.fetcher.specs.declared.stopped.Stopped.{Stopped}
use Rattle.fetcher.specs.declared.stopped.Stopped.TheVariants.{By, Basket, Memory}
use Rattle.fetcher.specs.Causes.{IsTextCause, IsFileCause}
use Rattle.fetcher.specs.Fetched.{without_liars}
use Rattle.fetcher.specs.Once.{AreAll, HasServed, Took}

-- nothing changed but the link at the place, whose site stays and whose count did not fall
pub record Moves (place : ℕ) (old new : LinksState) : Type 0 where
  pub only : ChangesOnly place old new
  pub site : KeepsSite (link_at old place) (link_at new place)
  pub later : (link_at old place).count ≤ (link_at new place).count

-- nothing changed
pub record StaysAll (old new : LinksState) : Type 0 where
  pub there : new.there ≡ old.there
  pub asked : new.asked ≡ old.asked
  pub links : (n : ℕ) → n < length old.there → Stays (old.link n) (new.link n)

-- Of the first links, which did not serve for these causes, those are gone that gave other bytes,
-- and nothing else changed.
pub record DropsLiars (causes : List Cause) (old new : LinksState) : Type 0 where
  pub there : new.there ≡ without_liars causes old.there
  pub asked : new.asked ≡ old.asked
  pub links : (n : ℕ) → n < length old.there → Stays (old.link n) (new.link n)

-- the place of the next link behind one that did not serve for this cause, once a link that gave
-- other bytes is gone
abbrev pub next_place : Cause → ℕ → ℕ
next_place (Differs difference) place = place
next_place _ place = place + 1

-- a link that gave other bytes is gone, and nothing else changed
abbrev pub DropsLiar : Cause → ℕ → LinksState → LinksState → Type 0
DropsLiar (Differs difference) place old new = Retires place old new
DropsLiar _ place old new = StaysAll old new

-- a text that one link gave
pub record IsTextOf (limit : ℕ) (target : Target) (old new : LinkState) (bytes : List ℕ)
    : Type 0 where
  pub within : length bytes ≤ limit
  pub told : old.tells → old.site target ≡ Some bytes
  pub sound : new.count ≡ old.count

-- a file that one link gave into a basket
pub record IsFileOf (list : List Digest) (size : ℕ) (target : Target) (old new : LinkState)
    (tells : Type 0) (held : List ℕ) : Type 0 where
  pub bytes : List ℕ
  pub taken : tells → held ≡ bytes
  pub matches : Matches list size bytes
  pub told : old.tells → old.site target ≡ Some bytes
  pub sound : new.count ≡ old.count
  pub served : HasServed (λ n. n ≡ size) target old new bytes

-- why one link gave no text
abbrev pub IsTextStop : ℕ → Target → LinkState → LinkState → Stopped → Type 0
IsTextStop limit target old new (By cause) = IsTextCause limit target old new cause
IsTextStop limit target old new Basket = ⊥
IsTextStop limit target old new Memory = Unit {0}

-- why one link gave no file, by the counts of the basket before and after
abbrev pub IsFileStop : List Digest → ℕ → Target → LinkState → LinkState → ℕ → ℕ → Stopped → Type 0
IsFileStop list size target old new before after (By cause) =
    IsFileCause list size target old new cause
IsFileStop list size target old new before after Basket = Rose before after
IsFileStop list size target old new before after Memory = Unit {0}

-- a cause to stop is what the link showed
abbrev pub ShowsStop : (LinkState → LinkState → Cause → Type 0) → LinkState → LinkState → Stopped
    → Type 0
ShowsStop Shows old new (By cause) = Shows old new cause
ShowsStop Shows old new Basket = Unit {0}
ShowsStop Shows old new Memory = Unit {0}

-- how a fault of a link stops a fetch
abbrev pub stop_of : LinkFault → Stopped
stop_of IsMissing = By Missing
stop_of IsDown = By Down
stop_of NoMemory = Memory

-- how a fault of a basket stops it
abbrev pub basket_stop : BasketFault → Stopped
basket_stop Failed = Basket
basket_stop NoRoom = Memory

-- these causes for the target, unless there was no memory to tell them
abbrev pub TellsCauses : Target → List Cause → FetchFault → Type 0
TellsCauses target causes (AllLinks shown told) = (shown ≡ target) × (told ≡ causes)
TellsCauses target causes BasketFailed = ⊥
TellsCauses target causes OutOfMemory = Unit {0}

-- the cause of the link was added to those before
abbrev pub AddsCause : Stopped → List Cause → List Cause → Type 0
AddsCause (By cause) old new = new ≡ old ++ cause ∷ []
AddsCause Basket old new = ⊥
AddsCause Memory old new = ⊥

-- how a fetch ends that does not ask the next link: there was no memory to note the cause, or else
-- what stopped it
abbrev pub end_of_fetch : Stopped → FetchFault
end_of_fetch (By cause) = OutOfMemory
end_of_fetch Basket = BasketFailed
end_of_fetch Memory = OutOfMemory

-- why no more pieces came, by the counts of the link and of the basket
abbrev pub IsPourStop : LinkState → LinkState → ℕ → ℕ → Stopped → Type 0
IsPourStop old new before after (By cause) = (cause ≡ Down) × Rose old.count new.count
IsPourStop old new before after Basket = Rose before after
IsPourStop old new before after Memory = Unit {0}

-- the count of a basket never falls, and it rose only where the basket failed
pub record KeepsBasket {T : Type 0} (before after : ℕ) (result : Result T Stopped) : Type 0 where
  pub later : before ≤ after
  pub quiet : result ≢ Err Basket → after ≡ before

-- bytes of a link were checked and taken: at most so many, and fewer only where no more were left
pub record Pours (most : ℕ) (link now : LinkState) (old new : Checker) (tells : Type 0)
    (before after : List ℕ) : Type 0 where
  pub bytes : List ℕ
  pub fed : (list : List Digest) (size : ℕ) (m : List ℕ) → IsFed old list size m
      → IsFed new list size (m ++ bytes)
  pub taken : tells → after ≡ before ++ bytes
  pub told : link.tells → bytes ≡ take most link.rest
  pub took : Took StopAtEnd link now bytes
  pub all : AreAll most took.pieces

-- these bytes were checked and taken
pub record PoursPiece (old new : Checker) (tells : Type 0) (before after bytes : List ℕ)
    : Type 0 where
  pub fed : (list : List Digest) (size : ℕ) (m : List ℕ) → IsFed old list size m
      → IsFed new list size (m ++ bytes)
  pub taken : tells → after ≡ before ++ bytes
