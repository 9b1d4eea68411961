-- A publish over a folder that never fails is refused, or memory runs out.
use Rattle.std.proofs.Common.{◌≡◌, List, Err, inl, inr, refl, arith}
use Rattle.outside.specs.Streams.{Rose}
use Rattle.folders.specs.declared.folder.Held.{Held}
use Rattle.publisher.specs.declared.fault.PublishFault.{PublishFault}
use Rattle.publisher.specs.declared.fault.PublishFault.TheVariants.{ReadFault, WriteFault, Changed, Memory}
use Rattle.publisher.specs.Outcome.{Refuses}
use Rattle.publisher.specs.Publication.{Outcome}
use Rattle.generated_release.specs.declared.fault.GenerationFault.TheVariants.{Refused}
use Rattle.generated_release.specs.Faults.{IsSure, fault_of}

not_rose : Rose 0 0 → ⊥
not_rose (inl less) = omega arith
not_rose (inr full) = omega arith

pub is_sure : (e : PublishFault) (r : Outcome (List Held)) → (e ≡ ReadFault → Rose 0 0) → (e ≡ WriteFault → Rose 0 0) → Refuses e r → IsSure e
is_sure ReadFault r read write refuses = not_rose (read refl)
is_sure WriteFault r read write refuses = not_rose (write refl)
is_sure (Changed file difference) r read write refuses = refuses
is_sure e r read write refuses = tt

pub by_refusal : (e : PublishFault) (r : Outcome (List Held)) → IsSure e → Refuses e r → fault_of e ≡ Refused → r ≡ Err e
by_refusal Memory r sure refuses is = absurd cc
by_refusal ReadFault r sure refuses is = absurd sure
by_refusal WriteFault r sure refuses is = absurd sure
by_refusal (Changed file difference) r sure refuses is = absurd sure
by_refusal e r sure refuses is = refuses
