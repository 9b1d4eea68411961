-- How much tables weigh, with all that is held in them.
use Rattle.std.specs.Prelude.{ℕ, ◌+◌, ◌*◌, List, length, sum_by}
use Rattle.machine.specs.declared.weights.TheConstants.{BLOCK_WEIGHT, CONTENT_WEIGHT, LOCAL_WEIGHT, STATE_WEIGHT, VIEW_WEIGHT}
use Rattle.machine.specs.Blocks.{blocks_of}
use Rattle.machine.specs.Weight.{app_weight, application_bytes, deployment_bytes, digests_weight, file_weight, group_weight, target_bytes}
use Rattle.store_state.specs.declared.view.Content.{Content}
use Rattle.store_state.specs.declared.view.LocalFile.{LocalFile}
use Rattle.store_state.specs.declared.view.View.{View}
use Rattle.store_state.specs.Tables.{Tables}

-- Where a file of so many bytes that is held so counts this much, the weight of a data file, of a
-- content, of a view, and of all tables.
module _ (cost : ℕ → List ℕ → ℕ) where
  unfoldable pub local_weight : LocalFile → ℕ
  local_weight file = LOCAL_WEIGHT + length file.name + cost file.length file.held

  unfoldable pub content_weight : Content → ℕ
  content_weight content =
      CONTENT_WEIGHT + digests_weight content.list + cost content.size content.held

  unfoldable pub view_weight : View → ℕ
  view_weight view =
      VIEW_WEIGHT + deployment_bytes view.deployment + application_bytes view.application
      + target_bytes view.base + digests_weight view.deployment.app_list
      + sum_by group_weight view.groups + sum_by file_weight view.application.files
      + sum_by local_weight view.locals

  unfoldable pub weight_with : Tables → ℕ
  weight_with tables =
      STATE_WEIGHT + sum_by app_weight tables.apps + sum_by view_weight tables.views
      + sum_by content_weight tables.contents

-- a file counts so much for each of its blocks
abbrev pub block_cost : ℕ → List ℕ → ℕ
block_cost size held = BLOCK_WEIGHT * blocks_of size

-- a file counts what is spelled of the numbers of its blocks, but for how many they are
abbrev pub spelled_cost : ℕ → List ℕ → ℕ
spelled_cost size held = 4 * length held

-- each file counts its blocks: so it is that tables are judged by
abbrev pub tables_weight : Tables → ℕ
tables_weight tables = weight_with block_cost tables
