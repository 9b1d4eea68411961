use Rattle.std.proofs.Common.{refl}
use Rattle.install_plan.proofs.Planned.{movable, plans_at}
use Rattle.install_plan.proofs.local_plans.plans_of.Goals as goal

pub migrate-requires : goal.migrate-requires
migrate-requires c = movable c.args.key.now c.args.state.now _ c.in-Some.view.now c.in-Some.ensures.row refl c.are_tables.ensures

pub returns-in-Ok-clause-plans : goal.returns-in-Ok-clause-plans
returns-in-Ok-clause-plans c = plans_at c.args.key.now c.args.state.now c.args.files.now c.in-Some.view.now c.in-Some.ensures.row c.in-Ok.plans c.in-Ok.ensures.migrated c.in-Ok.ensures.names c.in-Ok.ensures.once c.in-Ok.ensures.sources c.in-Ok.ensures.planned
