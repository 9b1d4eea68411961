use Rattle.table_check.proofs.BlockEnds.{files_where}
use Rattle.table_check.proofs.files.has_files.Goals as goal

pub returns-then-has_contents_within : goal.returns-then-has_contents_within
returns-then-has_contents_within c image long =
    let exact = files_where c.args.room image c.args.state.now c.requires.measured
    c.blocks_start-start.result c.args.disk_length c.blocks_start-start.ensures long in (
      λ yes. exact.0 (
        c.has_contents_within.ensures.0 c.if-has_contents_within.true,
        c.has_views_within.ensures.0 yes,
      ),
      λ has. c.has_views_within.ensures.1 (exact.1 has).1,
    )

pub returns-else-has_contents_within : goal.returns-else-has_contents_within
returns-else-has_contents_within c image long =
    let exact = files_where c.args.room image c.args.state.now c.requires.measured
    c.blocks_start-start.result c.args.disk_length c.blocks_start-start.ensures long in (
      λ yes. absurd cc,
      λ has. c.has_contents_within.ensures.1 (exact.1 has).0,
    )
