use Rattle.std.proofs.Common.{rules, sym, subst}
use Rattle.small_types.specs.Name.{IsName}
use Rattle.generated_release.proofs.Publishable.{are_publishable}
use Rattle.generated_release.proofs.Spelled.{entry_named, folder_named, in_named}
use Rattle.generated_release.proofs.options.options_of.Goals as goal

pub name_of-requires : goal.name_of-requires
name_of-requires c = entry_named

pub name_of-requires-2 : goal.name_of-requires-2
name_of-requires-2 c = in_named

pub name_of-requires-3 : goal.name_of-requires-3
name_of-requires-3 c = subst IsName (sym c.folder.ensures) (folder_named c.args.release)

pub returns-clause-publishable : goal.returns-clause-publishable
returns-clause-publishable c = are_publishable c.args.release _ (search rules)
