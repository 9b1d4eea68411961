use Rattle.device_tests.proofs.DraftPairs.{both_used, both_whole}
use Rattle.device_tests.proofs.file_store_tests.seal_both.Goals as goal

pub seal_all-result-requires : goal.seal_all-result-requires
seal_all-result-requires c = record {
  whole = both_whole c.in_ok-drafts.drafts c.args.first c.args.second c.in_ok-drafts.ensures c.requires.first c.requires.second;
  used = both_used c.args.store.now c.in_ok-drafts.drafts c.args.first c.args.second c.in_ok-drafts.ensures c.requires.used;
}
