-- What a call gives whose steps end at the first refusal.
use Rattle.std.proofs.Common.{◌≡◌, ℕ, List, Ok, Err, sym, subst}
use Rattle.std.specs.Result.{IsErr, IsErrAnd, IfErr}
use Rattle.manifest_tree.specs.Tree.{Tree}
use Rattle.manifest_parts.specs.declared.fault.ManifestFault.{ManifestFault}
use Rattle.manifest_parts.specs.Elements.{Read}
use Rattle.small_types.specs.Outcome.{◌>>=◌}
use Rattle.manifest_parts.specs.Outcome.{Fails, Gives}
use Rattle.manifest_parts.specs.Parts.{RefusesBytes, Answers}

abbrev ok_at : {A : Type 0} → A → Read A
ok_at x = Ok x

-- behind a step that is read, the whole gives what the rest gives
pub then_gives : {A B X : Type 0} (view : X → B) (r : Read X) (read : Read A) (x : A) (next : A → Read B) → read ≡ Ok x → Gives view r (next x) → Gives view r (read >>= next)
then_gives {A} view r read x next is h = subst (λ (s : Read A). Gives view r (s >>= next)) (sym is) h

pub then_fails : {A B : Type 0} (e : ManifestFault) (read : Read A) (x : A) (next : A → Read B) → read ≡ Ok x → Fails e (next x) → Fails e (read >>= next)
then_fails {A} e read x next is h = subst (λ (s : Read A). Fails e (s >>= next)) (sym is) h

-- an error that is handed on
pub handed_on : {A B : Type 0} (view : A → B) (r : Read A) (e : ManifestFault) (read : Read B) → IsErr r × IsErrAnd r (λ f. f ≡ e) → Fails e read → Gives view r read
handed_on view (Ok x) e read is h = absurd is.1
handed_on view (Err f) e read is h = subst (λ (g : ManifestFault). Fails g read) (sym is.1) h

pub ok_same : {A : Type 0} (x y : A) → ok_at x ≡ ok_at y → x ≡ y
ok_same x y h = cc

pub answer_handed_on : {A : Type 0} (facts : Tree → Read A) (bytes : List ℕ) (r : Read A) (e : ManifestFault) → IsErr r × IsErrAnd r (λ f. f ≡ e) → RefusesBytes facts bytes e → Answers facts bytes r
answer_handed_on facts bytes (Ok x) e is h = absurd is.1
answer_handed_on facts bytes (Err f) e is h = subst (λ (g : ManifestFault). RefusesBytes facts bytes g) (sym is.1) h

-- a fact of an error that is handed on
pub err_handed_on : {A : Type 0} (r : Read A) (P : ManifestFault → Type 0) (e : ManifestFault) → IsErr r × IsErrAnd r (λ f. f ≡ e) → P e → IfErr r P
err_handed_on (Ok x) P e is h = absurd is.1
err_handed_on (Err f) P e is h = subst P (sym is.1) h
