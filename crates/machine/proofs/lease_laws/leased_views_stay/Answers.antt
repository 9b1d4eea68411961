use Rattle.machine.proofs.LeasesKept.{keeps_leased}
use Rattle.machine.proofs.KeptSteps.{run_leases}
use Rattle.machine.proofs.lease_laws.leased_views_stay.Goals as goal

pub returns-clause-new : goal.returns-clause-new
returns-clause-new c = λ now old events replies new number run.
    (run_leases now old events replies new run).alone number

pub returns-clause-views : goal.returns-clause-views
returns-clause-views c = λ now old events replies new number valid run.
    keeps_leased number old.store new.store valid.ordered (run_leases now old events replies new run)
