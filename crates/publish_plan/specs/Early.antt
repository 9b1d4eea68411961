-- The refusals of options alone.
use Rattle.std.specs.Prelude.{ℕ, Bool, List, length, codes, ◌&&◌, ◌||◌, not, nat_lt, Option, Some, None, if◌then◌else◌}
use Rattle.std.specs.Ordering.{is_lt}
use Rattle.std.specs.Str.{bytes_eq}
use Rattle.identity.specs.declared.version.Version.{Version}
use Rattle.identity.specs.Version.{version_cmp}
use Rattle.small_types.specs.declared.limits.TheConstants.{NAME_LIMIT}
use Rattle.publish_plan.specs.declared.fault.PlanFault.{PlanFault}
use Rattle.publish_plan.specs.declared.fault.PlanFault.TheVariants.{BadName, MinimumAbove}
use Rattle.publish_plan.specs.declared.options.Options.{Options}
use Rattle.publish_plan.specs.Places.{is_plain_name, lies_below, manifest_name}

-- the folders are one, or one lies below the other
abbrev pub overlap : List ℕ → List ℕ → Bool
overlap from to = bytes_eq from to || lies_below from to || lies_below to from

-- the minimum, where it is above the version
abbrev pub above : Version → Option Version → Option PlanFault
above version None = None
above version (Some minimum) =
    if is_lt (version_cmp version minimum) then Some (MinimumAbove minimum) else None

-- the first refusal of the options
unfoldable pub early_of : Options → Option PlanFault
early_of o =
    if not (is_plain_name o.name) then Some (BadName (codes "name")) else
    if not (is_plain_name o.entry) then Some (BadName (codes "entry")) else
    if overlap o.from o.to then Some (BadName (codes "to")) else
    if nat_lt NAME_LIMIT (length (manifest_name o)) then Some (BadName (codes "entry")) else
    above o.version o.minimum
