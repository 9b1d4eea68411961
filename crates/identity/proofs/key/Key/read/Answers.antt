use Rattle.std.proofs.Common.{◌≡◌, ℕ, List, Err, IsOk, sym, subst}
use Rattle.identity.specs.declared.key.KeyFault.TheVariants.{Memory}
use Rattle.identity.specs.Key.{Gives, key_of, key_of_parts}
use Rattle.identity.proofs.KeyLemmas.{key_of_parts-count, IsKey-from_gives}
use Rattle.identity.proofs.key.Key.read.Goals as goal

pub returns-in_default-clause-exact : goal.returns-in_default-clause-exact
unfolding key_of
returns-in_default-clause-exact c = key_of_parts-count _ c.in_default.ensures.count

pub returns-clause-exact : goal.returns-clause-exact
unfolding key_of
returns-clause-exact c = subst (λ (ps : List (List ℕ)). Gives c.read_parts.result (key_of_parts ps)) (sym c.in-Some.ensures.parts) c.read_parts.ensures.exact

pub returns-clause-key : goal.returns-clause-key
returns-clause-key c = IsKey-from_gives c.read_parts.result c.args.word.now (returns-clause-exact c)

pub returns-clause-memory : goal.returns-clause-memory
unfolding key_of
returns-clause-memory c = subst (λ (ps : List (List ℕ)). c.read_parts.result ≡ Err Memory → IsOk (key_of_parts ps)) (sym c.in-Some.ensures.parts) c.read_parts.ensures.memory
