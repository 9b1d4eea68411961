use Rattle.std.proofs.Common.{rules, not}
use Rattle.std.proofs.lemmas.Fn.{filter_same}
use Rattle.folders.specs.declared.folder.Held.{Held}
use Rattle.folders.specs.Files.{is_named}
use Rattle.folders.proofs.mem_folder.drop_file.Goals as goal

pub returns-clause-items : goal.returns-clause-items
returns-clause-items c = filter_same _ (λ (file : Held). not (is_named c.args.name.now file)) _ (λ x b f' t. search rules) _ _ c.retain.ensures.filtered
