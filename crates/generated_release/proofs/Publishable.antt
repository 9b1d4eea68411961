-- The releases can be published by their options.
use Rattle.std.proofs.Common.{◌≡◌, refl, sym, subst, lit≤}
use Rattle.std.proofs.lemmas.List.Elements.{All-nil}
use Rattle.manifest_tree.specs.Lexis.{allowed}
use Rattle.manifests.specs.Facts.{IsValue}
use Rattle.publish_plan.specs.declared.options.Mark.{Mark}
use Rattle.publish_plan.specs.declared.options.Options.{Options}
use Rattle.publisher.specs.Options.{IsKind, IsPublishable}
use Rattle.generated_release.specs.declared.release.GeneratedRelease.{GeneratedRelease}
use Rattle.generated_release.specs.Options.{name_text, options_of}

named : IsValue 0 240 name_text
unfolding allowed
named = record { some = lit≤ tt; few = lit≤ tt; allowed = refl }

pub publishable : (release : GeneratedRelease) → IsPublishable (options_of release)
publishable release = record {
  publisher = named;
  rule = tt;
  provider = tt;
  marks = All-nil (λ (mark : Mark). IsKind mark.kind);
}

pub are_publishable : (release : GeneratedRelease) (o : Options) → o ≡ options_of release → IsPublishable o
are_publishable release o is = subst IsPublishable (sym is) (publishable release)
