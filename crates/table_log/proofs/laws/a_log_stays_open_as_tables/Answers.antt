use Rattle.table_log.proofs.Images.{reads_each, stays_behind, stays_front, stays_read}
use Rattle.table_log.proofs.laws.a_log_stays_open_as_tables.Goals as goal

pub returns-clause-each : goal.returns-clause-each
returns-clause-each g c = λ log room tables disk is. reads_each g.D.Disk log room tables disk is

pub returns-clause-read : goal.returns-clause-read
returns-clause-read g c = λ log room tables old new is still. stays_read g.D.Disk log room tables old new is still

pub returns-clause-behind : goal.returns-clause-behind
returns-clause-behind g c = λ log room tables old new place n late run is. stays_behind g.D.Disk log room tables old new place n late run is

pub returns-clause-front : goal.returns-clause-front
returns-clause-front g c = λ log room tables old new place late run is. stays_front g.D.Disk log room tables old new place late run is
