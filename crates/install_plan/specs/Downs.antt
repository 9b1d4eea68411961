-- That a link failed is said only where its failure was counted.
use Rattle.std.specs.Prelude.{Contains}
use Rattle.outside.specs.Streams.{Rose}
use Rattle.causes.specs.declared.cause.Cause.TheVariants.{Down}
use Rattle.machine.specs.declared.reply.Reply.{Reply}
use Rattle.machine.specs.declared.reply.Reply.TheVariants.{AllLinks}
use Rattle.links.specs.Links.{LinksState, failures_of}

-- it says of a link that it failed
abbrev pub SaysDown : Reply → Type 0
SaysDown (AllLinks target reasons) = Contains reasons Down
SaysDown _ = ⊥

-- Where the reply says so, the number of failures of the links rose. At its type's end the number
-- stands still and counts as risen.
pub record CountsDowns (before after : LinksState) (reply : Reply) : Type 0 where
  pub rose : SaysDown reply → Rose (failures_of before) (failures_of after)
