-- How a reading fails that fails at one of its fields.
use Rattle.std.proofs.Common.{◌≡◌, ℕ, Result, Ok, Err, sym, ap, subst}
use Rattle.std.specs.Prelude.{IfErr, IsErr, IsErrAnd}
use Rattle.small_types.specs.Outcome.{◌>>=◌}
use Rattle.record_fields.specs.declared.fault.CodecFault.{CodecFault}
use Rattle.record_fields.specs.declared.fault.CodecFault.TheVariants.{Bad, Memory}
use Rattle.record_fields.specs.Readers.{Fails, Gives, IsFaultWithin}

-- the field that cannot be read
pub fails_here : {A B : Type 0} (r : Result A CodecFault) (f : A → Result B CodecFault) (e : CodecFault) → Fails e r → Fails e (r >>= f)
fails_here r f Memory fails = tt
fails_here r f (Bad place) fails = ap (λ x. x >>= f) fails

-- a field that was read, and one behind it that cannot be read
pub fails_behind : {A B : Type 0} (r : Result A CodecFault) (f : A → Result B CodecFault) (x : A) (e : CodecFault) → r ≡ Ok x → Fails e (f x) → Fails e (r >>= f)
fails_behind r f x e read fails = subst (λ s. Fails e (s >>= f)) (sym read) fails

-- ---- at the exit of a `?`, which hands the fault on

-- the result is just that fault
abbrev pub IsFault : {X : Type 0} → Result X CodecFault → CodecFault → Type 0
IsFault r e = IsErr r × IsErrAnd r (λ d. d ≡ e)

pub exit_gives : {X : Type 0} (r : Result X CodecFault) (e : CodecFault) (read : Result X CodecFault) → IsFault r e → Fails e read → Gives r read
exit_gives (Ok x) e read is fails = absurd (let no = is.0 in cc)
exit_gives (Err d) e read is fails = subst (λ (f : CodecFault). Fails f read) (sym is.1) fails

pub exit_within : {X : Type 0} (r : Result X CodecFault) (e : CodecFault) (n : ℕ) → IsFault r e → IsFaultWithin n e → IfErr r (IsFaultWithin n)
exit_within (Ok x) e n is within = absurd (let no = is.0 in cc)
exit_within (Err d) e n is within = subst (IsFaultWithin n) (sym is.1) within
