use Rattle.std.proofs.Common.{◌∙◌, ap}
use Rattle.store_state.specs.declared.view.Content.{Content}
use Rattle.store_state.specs.Tables.{Tables}
use Rattle.table_check.specs.Files.{EndsWithin}
use Rattle.table_check.proofs.EqualLists.{told_of}
use Rattle.table_check.proofs.files.has_contents_within.Goals as goal

pub returns : goal.returns
returns c =
    told_of (λ (content : Content).
    EndsWithin c.args.start c.args.disk_length content.size content.held)
    c.as_slice.result.now c.args.state.now.contents c.contents_end_within.result
    (c.as_slice.ensures ∙ ap (λ (t : Tables). t.contents) c.state.view_is)
    c.contents_end_within.ensures
