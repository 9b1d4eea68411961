-- The options whose manifests can be written.
use Rattle.std.specs.Prelude.{All, IfSome}
use Rattle.small_types.specs.declared.limits.TheConstants.{NAME_LIMIT}
use Rattle.manifests.specs.Facts.{IsProvider, IsRule, IsValue}
use Rattle.publish_plan.specs.declared.options.Mark.{Mark}
use Rattle.publish_plan.specs.declared.options.MarkKind.{MarkKind}
use Rattle.publish_plan.specs.declared.options.MarkKind.TheVariants.{Local, Group}
use Rattle.publish_plan.specs.declared.options.Options.{Options}

-- a group has 1 to 240 bytes that a manifest may hold
abbrev pub IsKind : MarkKind → Type 0
IsKind Local = Unit {0}
IsKind (Group group) = IsValue 1 NAME_LIMIT group

-- The publisher has at most 240 bytes. Texts have no byte below 32 but tab, line feed and carriage
-- return. An age is a number of whole hours that takes at most nine digits in its unit, and the
-- provider is an address.
pub record IsPublishable (o : Options) : Type 0 where
  pub publisher : IsValue 0 NAME_LIMIT o.publisher
  pub rule : IsRule o.rule
  pub provider : IfSome o.provider IsProvider
  pub marks : All (λ (mark : Mark). IsKind mark.kind) o.marks
