-- What a call answers, against what is read by a definition.
use Rattle.std.proofs.Common.{◌≡◌, Bool, true, false, Result, Ok, Err, sym, ap, subst}
use Rattle.small_types.specs.Outcome.{◌>>=◌, FailsFree, FailsBut, GivesBut}

module _ {F : Type 0} (is_free : F → Bool) where
  failed_as : {B : Type 0} (free : Bool) (e : F) (read : Result B F) → read ≡ Err e → FailsFree free e read
  failed_as true e read is = tt
  failed_as false e read is = is

  -- a call that fails as the reading does
  pub fails_so : {B : Type 0} (e : F) (read : Result B F) → read ≡ Err e → FailsBut is_free e read
  fails_so e read is = failed_as (is_free e) e read is

  fails_free_then : {A B : Type 0} (free : Bool) (e : F) (read : Result A F) (next : A → Result B F) → FailsFree free e read → FailsFree free e (read >>= next)
  fails_free_then true e read next h = tt
  fails_free_then {A} false e read next h = ap (λ (r : Result A F). r >>= next) h

  -- what fails first fails the whole
  pub fails_then : {A B : Type 0} (e : F) (read : Result A F) (next : A → Result B F) → FailsBut is_free e read → FailsBut is_free e (read >>= next)
  fails_then e read next h = fails_free_then (is_free e) e read next h

  -- the same reading under another name
  pub fails_same : {A : Type 0} (e : F) (read other : Result A F) → other ≡ read → FailsBut is_free e read → FailsBut is_free e other
  fails_same {A} e read other is h = subst (λ (r : Result A F). FailsBut is_free e r) (sym is) h

  pub gives_same : {A B : Type 0} (view : A → B) (r : Result A F) (read other : Result B F) → other ≡ read → GivesBut is_free view r read → GivesBut is_free view r other
  gives_same {B = B} view r read other is h = subst (λ (x : Result B F). GivesBut is_free view r x) (sym is) h

  pub gives_at : {A B : Type 0} (view : A → B) (r s : Result A F) (read : Result B F) → r ≡ s → GivesBut is_free view s read → GivesBut is_free view r read
  gives_at {A} view r s read is h = subst (λ (x : Result A F). GivesBut is_free view x read) (sym is) h

  -- what fails after a part that was read
  pub fails_after : {A B : Type 0} (e : F) (read : Result A F) (x : A) (next : A → Result B F) → read ≡ Ok x → FailsBut is_free e (next x) → FailsBut is_free e (read >>= next)
  fails_after {A} e read x next is h = fails_same e (next x) (read >>= next) (ap (λ (r : Result A F). r >>= next) is) h

  -- a call that ends where a part of it fails
  pub exits : {A B : Type 0} (view : A → B) (r : Result A F) (e : F) (read : Result B F) → r ≡ Err e → FailsBut is_free e read → GivesBut is_free view r read
  exits {A} view r e read is h = subst (λ (x : Result A F). GivesBut is_free view x read) (sym is) h
