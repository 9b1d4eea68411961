use Rattle.std.proofs.Common.{◌≡◌, false}
use Rattle.std.specs.Prelude.{nat_lt}
use Rattle.std.proofs.lemmas.Bool.{le-ltb}
use Rattle.manifest_tree.proofs.LateNames.{late_more}
use Rattle.manifest_tree.proofs.tag.keep.Goals as goal

pub returns-clause-kept : goal.returns-clause-kept
returns-clause-kept c = λ q.
    let many : nat_lt c.args.place 8 ≡ false = le-ltb _ _ c.if-place-lt-FEW.false in
    rw many (late_more c.args.late.now c.insert.new.self c.args.name.now _ c.in_ok-insert.ensures.updates q)
