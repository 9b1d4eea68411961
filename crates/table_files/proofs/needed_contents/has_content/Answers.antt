use Rattle.std.proofs.Common.{Bor, rules}
use Rattle.std.proofs.lemmas.Fn.{always_returns_same}
use Rattle.manifests.specs.declared.facts.FileEntry.{FileEntry}
use Rattle.machine.specs.Views.{content_key}
use Rattle.store_state.specs.ContentKeys.{content_key_cmp}
use Rattle.store_state.specs.Contents.{held_key}
use Rattle.table_files.proofs.ContentSearch.{needed_found}
use Rattle.table_files.proofs.needed_contents.has_content.Goals as goal

-- the closure compares the content key of a file with that of the content
pub returns : goal.returns
returns c =
    rw c.is_ok.ensures.value (needed_found (λ (file : Bor FileEntry). file.now)
    c.args.content.now c.args.files.now c.requires c.binary_search_by.result
    c.binary_search_by.ensures.bound
    (c.binary_search_by.ensures.position
    (λ (file : Bor FileEntry). content_key_cmp (content_key file.now) (held_key c.args.content.now))
    (always_returns_same _ _ _ (λ a r f called. search rules))))
