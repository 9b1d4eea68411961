use Rattle.std.proofs.Common.{◌∙◌, ap, arith}
use Rattle.identity.specs.Version.{version_of, version_text}
use Rattle.identity.proofs.VersionLemmas.{version_read-version_text}
use Rattle.identity.proofs.version.Version.print.Goals as goal

pub returns-clause-again : goal.returns-clause-again
unfolding version_text
returns-clause-again c =
    ap version_of (c.from_string.ensures ∙ c.in_ok-text.ensures.ok)
    ∙ version_read-version_text c.args.self.now (record { a = omega arith; b = omega arith; c = omega arith; d = omega arith })
