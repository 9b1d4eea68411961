use Rattle.device_tests.proofs.line_drafts_tests.copied.Goals as goal

pub write_twice-made-requires : goal.write_twice-made-requires
write_twice-made-requires c = c.new-drafts.ensures.used c.args.files.now
