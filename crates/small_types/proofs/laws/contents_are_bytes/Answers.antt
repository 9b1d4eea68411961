use Rattle.small_types.proofs.BlockContents.{content_from_stands, stands_from_content}
use Rattle.small_types.proofs.KeptBlocks.{bytes_content, one_content}
use Rattle.small_types.proofs.laws.contents_are_bytes.Goals as goal

pub returns-clause-one : goal.returns-clause-one
returns-clause-one c = one_content

pub returns-clause-whole : goal.returns-clause-whole
returns-clause-whole c = bytes_content

pub returns-clause-places : goal.returns-clause-places
returns-clause-places c = stands_from_content

pub returns-clause-placed : goal.returns-clause-placed
returns-clause-placed c = content_from_stands
