use Rattle.std.proofs.Common.{rules, ℕ, List, arith}
use Rattle.std.specs.Prelude.{Option, Some, None}
use Rattle.std.specs.Borrow.{Bor}
use lib.Utf8.{encode}
use Rattle.std.proofs.lemmas.Str.Pattern.{split_parts}
use Rattle.manifest_writer.proofs.Slashes.{part_turned, last_turned}
use Rattle.manifest_writer.proofs.files.with_backslashes.Goals as goal

pub loop-part-preserved : goal.loop-part-preserved
unfolding encode
loop-part-preserved c =
    let cut = split_parts 47 c.loop-part.rest.now (Some (c.in-Some.part, c.in-Some.others)) c.in-Some.ensures.cases (omega arith) in
    (search rules, part_turned _ _ _ _ _ _ _ c.loop-part.invariant.1 cut.0 cut.1 c.in_ok-push_str.ensures.bytes c.in_ok-push.ensures.bytes)

abbrev nothing : Option (Bor (List ℕ) × Bor (List ℕ))
nothing = None

pub returns : goal.returns
returns c =
    let none = split_parts 47 c.loop-part.rest.now nothing c.in_default.ensures.cases (omega arith) in
    last_turned _ _ _ _ c.loop-part.invariant.1 none c.in_ok-push_str-2.ensures.bytes
