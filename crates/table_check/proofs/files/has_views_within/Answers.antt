use Rattle.std.proofs.Common.{◌∙◌, ap, All}
use Rattle.store_state.specs.declared.view.LocalFile.{LocalFile}
use Rattle.store_state.specs.declared.view.View.{View}
use Rattle.store_state.specs.Tables.{Tables}
use Rattle.table_check.specs.Files.{EndsWithin}
use Rattle.table_check.proofs.EqualLists.{told_of}
use Rattle.table_check.proofs.files.has_views_within.Goals as goal

pub returns : goal.returns
returns c =
    told_of (λ (view : View). All (λ (file : LocalFile).
    EndsWithin c.args.start c.args.disk_length file.length file.held) view.locals)
    c.as_slice.result.now c.args.state.now.views c.views_end_within.result
    (c.as_slice.ensures ∙ ap (λ (t : Tables). t.views) c.state.view_is)
    c.views_end_within.ensures
