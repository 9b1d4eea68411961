-- How views and their files are spelled as bytes: each field behind the one before it, in the
-- order of its type.
use Rattle.std.specs.Prelude.{ℕ, List, ◌++◌}
use Rattle.std.specs.Int.{to_be_bytes, w32, w64}
use Rattle.store_state.specs.declared.view.Content.{Content}
use Rattle.store_state.specs.declared.view.LocalFile.{LocalFile}
use Rattle.store_state.specs.declared.view.View.{View}
use Rattle.record_fields.specs.Fields.{text_field}
use Rattle.record_fields.specs.Spelled.{application_field, deployment_field, digest_field, list_field, target_field}

-- the number of a block has four bytes
abbrev pub block_field : ℕ → List ℕ
block_field block = to_be_bytes w32 block

unfoldable pub content_field : Content → List ℕ
content_field c =
    to_be_bytes w64 c.size ++ (list_field digest_field c.list ++ list_field block_field c.held)

unfoldable pub local_field : LocalFile → List ℕ
local_field f = text_field f.name ++ (to_be_bytes w64 f.length ++ list_field block_field f.held)

unfoldable pub view_field : View → List ℕ
view_field v =
    to_be_bytes w64 v.number ++ (deployment_field v.deployment ++ (application_field v.application
    ++ (target_field v.base ++ (list_field text_field v.groups
    ++ list_field local_field v.locals))))
