use Rattle.std.proofs.Common.{ℕ, List, sym, subst}
use Rattle.small_types.specs.Name.{IsName}
use Rattle.addresses.specs.Join.{file_target_of}
use Rattle.addresses.specs.Address.{Gives}
use Rattle.addresses.proofs.NameLemmas.{refused_from_gives, unreachable_from_gives, never_from_gives}
use Rattle.addresses.proofs.join.file_target.Goals as goal

pub returns-clause-address : goal.returns-clause-address
returns-clause-address c = c.file_address.ensures.address (subst IsName (sym c.as_bytes.ensures.value) c.as_bytes.ensures.name)

given : (c : goal.After-file_address) → Gives c.file_address.result (file_target_of c.args.base.now c.args.mapped c.args.name.now)
given c = subst (λ (name : List ℕ). Gives c.file_address.result (file_target_of c.args.base.now c.args.mapped name)) c.as_bytes.ensures.value c.file_address.ensures.exact

pub returns-clause-refused : goal.returns-clause-refused
returns-clause-refused c =
    refused_from_gives c.file_address.result c.args.base.now c.args.mapped c.args.name.now c.as_bytes.ensures.name (given c)

pub returns-clause-unreachable : goal.returns-clause-unreachable
returns-clause-unreachable c = unreachable_from_gives c.file_address.result c.args.base.now c.args.mapped c.args.name.now (given c)

pub returns-clause-http : goal.returns-clause-http
returns-clause-http c = λ scheme. never_from_gives c.file_address.result c.args.base.now c.args.mapped c.args.name.now scheme (given c)
