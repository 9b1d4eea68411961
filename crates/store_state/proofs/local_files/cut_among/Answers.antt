use Rattle.std.proofs.Common.{◌∙◌, List, ap, bytes_eq, not, rules}
use Rattle.std.proofs.lemmas.Fn.{filter_same}
use Rattle.machine.specs.DataFiles.{without_named}
use Rattle.store_state.specs.declared.view.LocalFile.{LocalFile}
use Rattle.store_state.specs.Locals.{local_name}
use Rattle.store_state.proofs.local_files.cut_among.Goals as goal

-- the closure keeps each data file of another name
pub returns : goal.returns
returns c =
    c.from_vec-2.ensures
    ∙ filter_same _ (λ (file : LocalFile). not (bytes_eq file.name c.args.name.now)) _
    (λ x b f called. search rules) _ _ c.retain.ensures.filtered
    ∙ ap (λ (files : List LocalFile). without_named local_name c.args.name.now files)
    (c.into_vec-items.ensures ∙ c.replace.ensures.value)
