use Rattle.std.proofs.Common.{sym, ◌∙◌}
use Rattle.http_plain.proofs.Enough.{head_demands, head_file, unended_demands}
use Rattle.http_plain.proofs.demand.demand_of_front.Goals as goal

pub returns-in-Some : goal.returns-in-Some
returns-in-Some c = record {
  demand = head_demands c.args.front.now c.in-Some.end c.demand_of_head.result (sym c.in-Some.is ∙ c.end_within.ensures.end) c.demand_of_head.ensures.demand;
  memory = head_file c.args.front.now c.in-Some.end c.demand_of_head.result (sym c.in-Some.is ∙ c.end_within.ensures.end) c.demand_of_head.ensures.memory;
}

pub returns-in-None : goal.returns-in-None
returns-in-None c = record {
  demand = unended_demands c.args.front.now c.unended.result (sym c.in-None.is ∙ c.end_within.ensures.end) c.unended.ensures;
  memory = tt;
}
