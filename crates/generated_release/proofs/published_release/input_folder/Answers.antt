use Rattle.std.proofs.Common.{◌≡◌, ◌∙◌, ℕ, true, List, sym, ap, subst}
use Rattle.folders.specs.declared.folder.Held.{Held}
use Rattle.folders.specs.Files.{distinct}
use Rattle.generated_release.specs.declared.files.TheConstants.{FILE_COUNT}
use Rattle.generated_release.specs.Files.{input_files}
use Rattle.generated_release.specs.Options.{number_of}
use Rattle.generated_release.proofs.Apart.{all_differ}
use Rattle.generated_release.proofs.published_release.input_folder.Goals as goal

pub new-requires : goal.new-requires
new-requires c =
    subst (λ (files : List Held). distinct files ≡ true)
    (sym (c.in_ok-files.ensures ∙ ap (λ (version : ℕ). input_files c.args.seed version) c.number.ensures))
    (all_differ c.args.seed (number_of c.args.release) FILE_COUNT)
