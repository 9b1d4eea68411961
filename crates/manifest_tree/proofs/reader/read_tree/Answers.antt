use Rattle.std.proofs.Common.{sym, subst}
use Rattle.std.specs.Str.{IsValidUpTo}
use Rattle.manifest_tree.specs.declared.fault.TreeKind.TheVariants.{NotUtf8, TooLong}
use Rattle.manifest_tree.specs.Refusals.{too_long, not_utf8}
use Rattle.manifest_tree.proofs.Faults.{refuses}
use Rattle.manifest_tree.proofs.reader.read_tree.Goals as goal

pub returns-then-bytes-gt-MANIFEST_LIMIT-clause-refused : goal.returns-then-bytes-gt-MANIFEST_LIMIT-clause-refused
returns-then-bytes-gt-MANIFEST_LIMIT-clause-refused c = refuses c.args.bytes.now c.refusal.result TooLong 4194304 c.refusal.ensures (too_long c.if-bytes-gt-MANIFEST_LIMIT.true)

pub returns-in-Err-clause-refused : goal.returns-in-Err-clause-refused
returns-in-Err-clause-refused c =
    refuses c.args.bytes.now c.refusal-in-Err.result NotUtf8 c.valid_up_to.result c.refusal-in-Err.ensures
    (not_utf8 c.if-bytes-gt-MANIFEST_LIMIT.false c.in-Err.ensures.cases.0 (subst (IsValidUpTo c.args.bytes.now) (sym c.valid_up_to.ensures) c.in-Err.ensures.cases.1))
