use Rattle.journal.proofs.Blocks.{each_journal, still_open, open_before, open_outside, journal_stays, uses}
use Rattle.journal.proofs.laws.an_open_log_stays_open.Goals as goal

pub returns-clause-used : goal.returns-clause-used
returns-clause-used g c = λ log blocks tables changes disk is_open. uses g.D.Disk log blocks tables changes disk is_open

pub returns-clause-each : goal.returns-clause-each
returns-clause-each g c = λ log blocks tables changes disk is_open. each_journal g.D.Disk log blocks tables changes disk is_open

pub returns-clause-read : goal.returns-clause-read
returns-clause-read g c = λ log blocks tables changes old new is_open still. still_open g.D.Disk log blocks tables changes old new is_open still

pub returns-clause-behind : goal.returns-clause-behind
returns-clause-behind g c = λ log blocks tables changes old new place n late run is_open. record {
  opened = open_outside g.D.Disk log blocks tables changes old new place n late run is_open;
  each = journal_stays g.D.Disk log blocks tables changes old new place n late run is_open;
}

pub returns-clause-front : goal.returns-clause-front
returns-clause-front g c = λ log blocks tables changes old new place late run is_open. open_before g.D.Disk log blocks tables changes old new place late run is_open
