use Rattle.std.proofs.Common.{sym, ◌∙◌}
use Rattle.http_plain.proofs.Enough.{asks_in, asks_nothing, file_in_front}
use Rattle.http_plain.proofs.demand.demand_in.Goals as goal

pub returns-then-is_empty : goal.returns-then-is_empty
returns-then-is_empty c = record {
  demand = λ left enough. asks_nothing c.args.front.now left (sym c.is_empty.ensures ∙ c.if-is_empty.true) enough;
  memory = tt;
}

pub returns : goal.returns
returns c = record {
  demand = asks_in c.args.front.now c.demand_of_front.result (sym c.is_empty.ensures ∙ c.if-is_empty.false) c.demand_of_front.ensures.demand;
  memory = file_in_front c.args.front.now c.demand_of_front.result (sym c.is_empty.ensures ∙ c.if-is_empty.false) c.demand_of_front.ensures.memory;
}
