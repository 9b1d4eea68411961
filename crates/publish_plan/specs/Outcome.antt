-- What a call gives, against what the definitions give. Memory may always run out.
use Rattle.std.specs.Prelude.{Bool, true, false, Option, Some, None, Result, Ok, Err}
use Rattle.small_types.specs.Outcome.{FailsBut, GivesBut}
use Rattle.publish_plan.specs.declared.fault.PlanFault.{PlanFault}
use Rattle.publish_plan.specs.declared.fault.PlanFault.TheVariants.{Memory}

abbrev pub Read : Type 0 → Type 0
Read A = Result A PlanFault

-- a refusal, if there is one
abbrev pub unless : Option PlanFault → Read (Unit {0})
unless None = Ok tt
unless (Some refusal) = Err refusal

-- want of memory may come at any time
abbrev pub is_memory : PlanFault → Bool
is_memory Memory = true
is_memory e = false

-- an error of a call is the refusal, unless memory ran out
abbrev pub Fails : {A : Type 0} → PlanFault → Read A → Type 0
Fails e wanted = FailsBut is_memory e wanted

-- a call gives what is wanted, unless memory ran out
abbrev pub Gives : {A : Type 0} → Read A → Read A → Type 0
Gives {A} result wanted = GivesBut is_memory (λ (x : A). x) result wanted
