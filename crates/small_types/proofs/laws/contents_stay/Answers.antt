use Rattle.small_types.proofs.KeptBlocks.{content_stays, content_stays_behind, front_stays}
use Rattle.small_types.proofs.laws.contents_stay.Goals as goal

pub returns-clause-others : goal.returns-clause-others
returns-clause-others c = λ base blocks written content old new fits none keeps is. content_stays base blocks content old new fits is written none keeps

pub returns-clause-behind : goal.returns-clause-behind
returns-clause-behind c = λ base place blocks content old new before fits same is. content_stays_behind base blocks content old new fits is place before same

pub returns-clause-front : goal.returns-clause-front
returns-clause-front c = front_stays
