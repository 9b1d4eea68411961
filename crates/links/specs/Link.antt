-- What a link is, and what its calls do.
use Rattle.std.specs.Prelude.{◌≡◌, ◌↔◌, ◌⊎◌, ◌≤◌, ℕ, List, [], length, Option, Some, None, Result, Err, IfOk, OnOk, OnErr}
use Rattle.outside.specs.Streams.{Consumes, Rose}
use Rattle.small_types.specs.declared.target.Target.{Target}
use Rattle.links.specs.declared.history.LinkCall.{LinkCall}
use Rattle.links.specs.declared.link.LinkFault.{LinkFault}
use Rattle.links.specs.declared.link.LinkFault.TheVariants.{Missing, Down, Memory}

-- a link: whether it tells its site, the bytes that its site has for each target, what is left of
-- the body that was asked for last, how often it failed, and what it was asked so far
pub record LinkState : Type 1 where
  pub tells : Type 0
  pub site : Target → Option (List ℕ)
  pub rest : List ℕ
  pub count : ℕ
  pub history : List LinkCall

-- whether it tells stays, and so does what it tells
pub record KeepsSite (old new : LinkState) : Type 0 where
  pub tells : old.tells ↔ new.tells
  pub same : old.tells → (target : Target) → new.site target ≡ old.site target

-- nothing of it changed
pub record Stays (old new : LinkState) : Type 0 where
  pub site : KeepsSite old new
  pub rest : new.rest ≡ old.rest
  pub count : new.count ≡ old.count
  pub history : new.history ≡ old.history

-- the count never falls; `Down` comes only where it rose, and an answer and want of memory leave it
pub record Counts {T : Type 0} (old new : LinkState) (result : Result T LinkFault) : Type 0 where
  pub later : old.count ≤ new.count
  pub down : result ≡ Err Down → Rose old.count new.count
  pub quiet : OnOk result (new.count ≡ old.count)
  pub memory : result ≡ Err Memory → new.count ≡ old.count

-- the site has bytes for the target, which are now the rest, and n is their length
pub record Opens (target : Target) (old new : LinkState) (n : ℕ) : Type 0 where
  pub found : old.site target ≡ Some new.rest
  pub sized : n ≡ length new.rest

-- the site has nothing for the target; a link that tells no site counted it
pub record Lacks (target : Target) (old new : LinkState) : Type 0 where
  pub lacks : old.tells → old.site target ≡ None
  pub shown : old.tells ⊎ Rose old.count new.count

-- a target was asked for
pub record Asks (target : Target) (old new : LinkState) (result : Result ℕ LinkFault) : Type 0 where
  pub opens : old.tells → IfOk result (Opens target old new)
  pub missing : result ≡ Err Missing → Lacks target old new
  pub missed : result ≡ Err Missing → new.rest ≡ []
  pub down : result ≡ Err Down → new.rest ≡ []
  pub memory : result ≡ Err Memory → new.rest ≡ old.rest
  pub counts : Counts old new result
  pub site : KeepsSite old new

-- a piece of the rest was taken into the buffer
pub record Takes (old new : LinkState) (before after : List ℕ) (result : Result ℕ LinkFault)
    : Type 0 where
  pub within : IfOk result (λ n. n ≤ length before)
  pub bytes : old.tells → IfOk result (Consumes old.rest new.rest after)
  pub down : OnErr result (result ≡ Err Down)
  pub closed : OnErr result (new.rest ≡ [])
  pub counts : Counts old new result
  pub site : KeepsSite old new
