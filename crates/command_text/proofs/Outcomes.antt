-- What is asked for with what was read, and why nothing is.
use Rattle.std.proofs.Common.{◌≡◌, Result, Ok, Err, IsOk, ap, subst, ◌∙◌}
use Rattle.small_types.specs.Outcome.{◌>>=◌}
use Rattle.machine.specs.declared.command.LineFault.{LineFault}
use Rattle.machine.specs.declared.command.LineFault.TheVariants.{LineTooLong, NoSuchCommand, WordCount, BadWord, Memory}
use Rattle.command_text.specs.Lines.{Fails, Gives}

fails_on : {A B : Type 0} (read : Result A LineFault) (f : A → Result B LineFault) (e : LineFault)
    → Fails e read → Fails e (read >>= f)
fails_on read f LineTooLong fails = ap (λ r. r >>= f) fails
fails_on read f NoSuchCommand fails = ap (λ r. r >>= f) fails
fails_on read f WordCount fails = ap (λ r. r >>= f) fails
fails_on read f (BadWord place) fails = ap (λ r. r >>= f) fails
fails_on read f Memory fails = tt

ok_on : {A B : Type 0} (read : Result A LineFault) (f : A → Result B LineFault)
    → ((x : A) → IsOk (f x)) → IsOk read → IsOk (read >>= f)
ok_on (Ok x) f each is = each x
ok_on (Err e) f each is = absurd (let no = is in cc)

-- what could not be read
pub refused : {A B : Type 0} (r read : Result A LineFault) (f : A → Result B LineFault) (e : LineFault)
    → r ≡ Err e → Gives r read → Fails e (read >>= f)
refused {A} r read f e is given =
    fails_on read f e (subst (λ (s : Result A LineFault). Gives s read) is given)

-- where memory lacked, it could have been read
pub lacked : {A B : Type 0} (r read : Result A LineFault) (f : A → Result B LineFault) (e : LineFault)
    → r ≡ Err e → ((x : A) → IsOk (f x)) → (r ≡ Err Memory → IsOk read)
    → ◌≡◌ {A = Result B LineFault} (Err e) (Err Memory) → IsOk (read >>= f)
lacked r read f e is each memory none =
    let same : e ≡ Memory = cc in
    ok_on read f each (memory (is ∙ ap Err same))
