use Rattle.small_types.proofs.KeptBlocks.{content_stays}
use Rattle.file_store.proofs.KeptContents.{used_not_free}
use Rattle.file_store.proofs.laws.freed_contents_stay.Goals as goal

pub returns : goal.returns
returns c = λ store base blocks written content old new fits used free keeps is. content_stays base blocks content old new fits is written (used_not_free store written blocks used free) keeps
