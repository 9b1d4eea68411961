use Rattle.std.proofs.Common.{rules, subst}
use Rattle.small_types.specs.Name.{IsName}
use Rattle.generated_release.proofs.Spelled.{input_named}
use Rattle.generated_release.proofs.files.input_file.Goals as goal

pub name_of-requires : goal.name_of-requires
name_of-requires c = subst IsName (search rules) (input_named c.args.file c.requires)
