-- What changes bring: whether nothing comes, and whether a file that is put is short.
use Rattle.std.proofs.Common.{◌≡◌, ◌≤◌, ℕ, List, length, subst, sym}
use Rattle.small_types.specs.declared.limits.TheConstants.{PIECE_LIMIT}
use Rattle.identity.specs.declared.key.Key.{Key}
use Rattle.store_state.specs.declared.change.Change.{Change}
use Rattle.store_state.specs.declared.change.Change.TheVariants.{Group, Heard, Install, Put, Unheard}
use Rattle.store_state.specs.declared.view.LocalFile.{LocalFile}
use Rattle.store_state.specs.Tables.{Tables}
use Rattle.table_codec.specs.Laws.{IsShortPut}
use Rattle.table_weight.specs.Laws.{BringsNothing}
use Rattle.install_plan.specs.Checks.{IsOfCheck}
use Rattle.install_plan.specs.GroupReady.{IsOfGroup}
use Rattle.install_plan.specs.Ready.{HasFew}
use Rattle.updater.specs.PutStep.{file_of}

-- nothing comes by what a check notes
pub check_brings : (tables : Tables) (key : Key) (change : Change) → IsOfCheck key change → BringsNothing tables change
check_brings tables key (Heard other version minimum now) is = tt
check_brings tables key (Unheard other) is = tt
check_brings tables key _ is = absurd is

-- where nothing comes, no file is put
pub nothing_short : (tables : Tables) (change : Change) → BringsNothing tables change → IsShortPut change
nothing_short tables (Put view file) nothing = absurd nothing
nothing_short tables _ nothing = tt

-- nor by an install, or a group
pub install_short : (change : Change) → HasFew change → IsShortPut change
install_short (Install view contents provider now) few = tt
install_short _ few = absurd few

pub group_short : (group : List ℕ) (change : Change) → IsOfGroup group change → IsShortPut change
group_short group (Group view other contents) is = tt
group_short group _ is = absurd is

-- a file of the bytes of a line is short
pub file_short : (name bytes blocks : List ℕ) (view : ℕ) (file : LocalFile) → length bytes ≤ PIECE_LIMIT
    → file ≡ file_of name (length bytes) blocks → IsShortPut (Put view file)
file_short name bytes blocks view file few is = subst (λ (f : LocalFile). IsShortPut (Put view f)) (sym is) few
