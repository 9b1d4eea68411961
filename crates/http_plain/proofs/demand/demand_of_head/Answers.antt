use Rattle.http_plain.proofs.Enough.{asked_demands, asked_file}
use Rattle.http_plain.proofs.demand.demand_of_head.Goals as goal

pub returns-in-Some : goal.returns-in-Some
returns-in-Some c = record {
  demand = asked_demands c.args.head.now c.in-Some.asked c.demand_of.result c.in-Some.ensures c.demand_of.ensures.demand;
  memory = asked_file c.args.head.now c.in-Some.asked c.demand_of.result c.in-Some.ensures c.demand_of.ensures.memory;
}
