use Rattle.file_store.proofs.KeptContents.{content_kept, fronts_kept}
use Rattle.file_store.proofs.laws.images_stay.Goals as goal

pub returns-clause-contents : goal.returns-clause-contents
returns-clause-contents g c = λ base blocks written content old new fits none each writes. content_kept g.D.Disk base blocks written content old new fits none each writes

pub returns-clause-fronts : goal.returns-clause-fronts
returns-clause-fronts g c = λ base written old new writes. fronts_kept g.D.Disk base written old new writes
