-- What a call gives whose steps end at the first refusal.
use Rattle.std.proofs.Common.{◌≡◌, Ok, Err, sym, subst}
use Rattle.std.specs.Result.{IsErr, IsErrAnd}
use Rattle.small_types.specs.Outcome.{◌>>=◌}
use Rattle.publish_plan.specs.declared.fault.PlanFault.{PlanFault}
use Rattle.small_types.proofs.OutcomeLemmas as reading
use Rattle.publish_plan.specs.Outcome.{Read, Fails, Gives, is_memory}

-- a call that fails as is wanted
pub fails_so : {A : Type 0} (e : PlanFault) (wanted : Read A) → wanted ≡ Err e → Fails e wanted
fails_so e wanted is = reading.fails_so is_memory e wanted is

-- what fails first fails the whole
pub fails_then : {A B : Type 0} (e : PlanFault) (wanted : Read A) (next : A → Read B) → Fails e wanted → Fails e (wanted >>= next)
fails_then e wanted next h = reading.fails_then is_memory e wanted next h

-- behind a step that is taken, the whole fails where the rest does
pub then_fails : {A B : Type 0} (e : PlanFault) (wanted : Read A) (x : A) (next : A → Read B) → wanted ≡ Ok x → Fails e (next x) → Fails e (wanted >>= next)
then_fails e wanted x next is h = reading.fails_after is_memory e wanted x next is h

pub fails_same : {A : Type 0} (e : PlanFault) (wanted other : Read A) → wanted ≡ other → Fails e wanted → Fails e other
fails_same e wanted other is h = reading.fails_same is_memory e wanted other (sym is) h

-- an error that is handed on
pub handed_on : {A : Type 0} (r : Read A) (e : PlanFault) (wanted : Read A) → IsErr r × IsErrAnd r (λ f. f ≡ e) → Fails e wanted → Gives r wanted
handed_on (Ok x) e wanted is h = absurd is.1
handed_on (Err f) e wanted is h = subst (λ (g : PlanFault). Fails g wanted) (sym is.1) h

-- a call that answers what is wanted
pub gives_so : {A : Type 0} (r wanted : Read A) → wanted ≡ r → Gives r wanted
gives_so (Ok x) wanted is = is
gives_so (Err e) wanted is = fails_so e wanted is
