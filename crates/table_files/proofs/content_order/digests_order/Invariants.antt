use Rattle.std.proofs.Common.{◌≡◌, drop}
use Rattle.std.specs.Cmp.Lexicographic.{slice_cmp}
use Rattle.store_state.specs.ContentKeys.{digest_cmp}
use Rattle.table_files.proofs.content_order.digests_order.Given as goal

abbrev pub invariant-loop-place : goal.invariant-loop-place
invariant-loop-place l =
    slice_cmp digest_cmp (drop l.place l.a) (drop l.place l.b) ≡ slice_cmp digest_cmp l.a l.b
