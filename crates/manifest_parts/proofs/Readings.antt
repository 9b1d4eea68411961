-- What a call gives, against the reading that the definitions give.
use Rattle.std.proofs.Common.{◌≡◌, ℕ, Bool, true, false, List, [], ◌∷◌, length, Option, Some, None, Result, Ok, Err, refl, sym, ap, subst, ◌∙◌, arith}
use Rattle.manifest_parts.specs.declared.fault.ManifestFault.{ManifestFault}
use Rattle.manifest_parts.specs.declared.fault.ManifestFault.TheVariants as fault
use Rattle.manifest_parts.specs.Elements.{Read}
use Rattle.small_types.specs.Outcome.{◌>>=◌}
use Rattle.manifest_parts.specs.Outcome.{Fails, Gives, Refused, refusal}

-- a refusal, of whatever is read
abbrev pub err_at : {A : Type 0} → ManifestFault → Read A
err_at e = Err e

abbrev pub ok_at : {A : Type 0} → A → Read A
ok_at x = Ok x

same_refusal : (e f : ManifestFault) → refusal e ≡ refusal f → e ≡ f
same_refusal e f h = cc

fails_so : {B : Type 0} (f e : ManifestFault) (read : Read B) → Fails f (refusal e) → read ≡ Err e → Fails f read
fails_so fault.Memory e read h is = tt
fails_so (fault.Tree x) e read h is = absurd h
fails_so {B} f e read h is = is ∙ ap (err_at {A = B}) (same_refusal e f h)

-- a call that is refused as the reading is
pub refused : {A B : Type 0} (view : A → B) (r : Read A) (e : ManifestFault) (read : Read B) → Refused e r → read ≡ Err e → Gives view r read
refused view (Ok x) e read h is = absurd h
refused view (Err f) e read h is = fails_so f e read h is

-- what fails first fails the whole
pub fails_then : {A B : Type 0} (e : ManifestFault) (read : Read A) (next : A → Read B) → Fails e read → Fails e (read >>= next)
fails_then fault.Memory read next h = tt
fails_then (fault.Tree x) read next h = h
fails_then {A} e read next h = ap (λ (r : Read A). r >>= next) h

-- the same reading under another name
pub fails_same : {A : Type 0} (e : ManifestFault) (read other : Read A) → other ≡ read → Fails e read → Fails e other
fails_same {A} e read other is h = subst (λ (r : Read A). Fails e r) (sym is) h

pub gives_same : {A B : Type 0} (view : A → B) (r : Read A) (read other : Read B) → other ≡ read → Gives view r read → Gives view r other
gives_same {B = B} view r read other is h = subst (λ (x : Read B). Gives view r x) (sym is) h

pub gives_at : {A B : Type 0} (view : A → B) (r s : Read A) (read : Read B) → r ≡ s → Gives view s read → Gives view r read
gives_at {A} view r s read is h = subst (λ (x : Read A). Gives view x read) (sym is) h

pub fails_after : {A B : Type 0} (e : ManifestFault) (read : Read A) (x : A) (next : A → Read B) → read ≡ Ok x → Fails e (next x) → Fails e (read >>= next)
fails_after {A} e read x next is h = fails_same e (next x) (read >>= next) (ap (λ (r : Read A). r >>= next) is) h

-- a call that ends where a part of it fails
pub exits : {A B : Type 0} (view : A → B) (r : Read A) (e : ManifestFault) (read : Read B) → r ≡ Err e → Fails e read → Gives view r read
exits {A} view r e read is h = subst (λ (x : Read A). Gives view x read) (sym is) h
