use Rattle.std.proofs.Common.{◌∙◌}
use Rattle.device_tests.proofs.DraftPairs.{two_used}
use Rattle.device_tests.proofs.file_store_tests.sealed.Goals as goal

pub seal_both-requires-clause-used : goal.seal_both-requires-clause-used
seal_both-requires-clause-used c =
    two_used c.begin.new.self c.begin-2.new.self c.store_piece-2.new.self c.in_ok-first.first c.in_ok-second.second c.store_piece.new.draft c.store_piece-2.new.draft
    c.in_ok-first.ensures.used c.in_ok-second.ensures.takes c.in_ok-second.ensures.used c.begin-2.ensures.range
    (c.store_piece-2.ensures.store ∙ c.store_piece.ensures.store) c.store_piece.ensures.blocks c.store_piece-2.ensures.blocks
