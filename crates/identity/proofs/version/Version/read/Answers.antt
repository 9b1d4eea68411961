use Rattle.std.proofs.Common.{sym, ap, ◌∙◌}
use Rattle.identity.specs.Version.{version_of, version_of_parts}
use Rattle.identity.proofs.VersionLemmas.{version_of_parts-count}
use Rattle.identity.proofs.version.Version.read.Goals as goal

pub returns-in_default : goal.returns-in_default
unfolding version_of
returns-in_default c = sym (version_of_parts-count _ c.in_default.ensures.count)

pub returns : goal.returns
unfolding version_of
returns c = c.read_parts.ensures ∙ ap version_of_parts (sym c.in-Some.ensures.parts)
