use Rattle.device_tests.proofs.line_drafts_tests.line.Goals as goal

pub fill-requires : goal.fill-requires
fill-requires g c = c.new-drafts.ensures.used c.args.files.now
