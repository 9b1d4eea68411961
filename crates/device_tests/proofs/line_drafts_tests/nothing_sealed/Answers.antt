use Rattle.device_tests.proofs.line_drafts_tests.nothing_sealed.Goals as goal

pub seal-requires : goal.seal-requires
seal-requires c = c.new.ensures.used c.in_ok-files.files
