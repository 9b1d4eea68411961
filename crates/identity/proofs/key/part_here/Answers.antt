use Rattle.std.proofs.Common.{IsUtf8, sym, subst}
use Rattle.identity.proofs.KeyLemmas.{part_from_passes}
use Rattle.identity.proofs.key.part_here.Goals as goal

pub returns-in-Some-clause-utf8 : goal.returns-in-Some-clause-utf8
returns-in-Some-clause-utf8 c =
    subst IsUtf8 c.deref.ensures.0 (part_from_passes c.args.limit c.deref.result.now (sym c.if-is_part.ensures)).utf8
