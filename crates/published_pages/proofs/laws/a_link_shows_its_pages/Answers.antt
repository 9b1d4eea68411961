use Rattle.std.proofs.Common.{refl}
use Rattle.published_pages.proofs.laws.a_link_shows_its_pages.Goals as goal

pub returns : goal.returns
returns c = record { one = refl; tells = λ n. tt; shows = λ n target. refl }
