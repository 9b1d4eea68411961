use Rattle.std.proofs.Common.{◌↔◌, IsTrue, map, subst}
use Rattle.store_state.specs.ContentKeys.{Agree}
use Rattle.store_state.specs.Contents.{held_key}
use Rattle.store_state.specs.Tables.{Tables}
use Rattle.store_state.proofs.table_parts.agree_alone.Goals as goal

pub returns : goal.returns
returns c =
    subst (λ (t : Tables). IsTrue c.agree-answer.result
    ↔ Agree (map held_key t.contents) c.args.standing.now c.args.there.now)
    c.in_ok-none.ensures c.agree-answer.ensures
