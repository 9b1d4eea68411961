use Rattle.std.proofs.Common.{List, ℕ, Option, subst}
use Rattle.std.specs.Prelude.{IfSome}
use Rattle.manifests.specs.Facts.{IsProvider}
use Rattle.install_plan.proofs.Judged.{only_memory}
use Rattle.install_plan.proofs.release_plan.provider_of.Goals as goal

pub memory_reply-requires : goal.memory_reply-requires
memory_reply-requires c =
    only_memory c.in-Some.text c.as_bytes.result.now c.in-Err.fault c.as_bytes.ensures.value
    (subst (λ (o : Option (List ℕ)). IfSome o IsProvider) c.in-Some.is c.requires.read) c.in-Err.ensures.exact
