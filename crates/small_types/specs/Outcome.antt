-- What a call answers, against what is read by a definition.
use Rattle.std.specs.Prelude.{◌≡◌, Bool, true, false, Result, Ok, Err}

-- the first fault ends the reading
infixl 10 ◌>>=◌
abbrev pub ◌>>=◌ : {A B F : Type 0} → Result A F → (A → Result B F) → Result B F
(Ok x) >>= f = f x
(Err e) >>= f = Err e

-- an error that may come at any time, as want of memory, or else that of the reading
abbrev pub FailsFree : {B F : Type 0} → Bool → F → Result B F → Type 0
FailsFree true e read = Unit {0}
FailsFree false e read = read ≡ Err e

-- an error of a call: one that is free, or that of the reading
abbrev pub FailsBut : {B F : Type 0} → (F → Bool) → F → Result B F → Type 0
FailsBut is_free e read = FailsFree (is_free e) e read

-- a call gives what the reading gives, as the view shows it, or fails as it does, or with an error
-- that is free
abbrev pub GivesBut : {A B F : Type 0} → (F → Bool) → (A → B) → Result A F → Result B F → Type 0
GivesBut is_free view (Ok x) read = read ≡ Ok (view x)
GivesBut is_free view (Err e) read = FailsBut is_free e read
