use Rattle.table_weight.proofs.ChangedTables.{weigh_as_installed, weigh_with_data, weigh_with_group, weigh_with_key, weigh_with_release}
use Rattle.table_weight.proofs.LighterTables.{lighten_others}
use Rattle.table_weight.proofs.laws.changed_tables_weigh.Goals as goal

pub returns-clause-with_key : goal.returns-clause-with_key
returns-clause-with_key c = weigh_with_key

pub returns-clause-with_data : goal.returns-clause-with_data
returns-clause-with_data c = weigh_with_data

pub returns-clause-with_group : goal.returns-clause-with_group
returns-clause-with_group c = weigh_with_group

pub returns-clause-with_release : goal.returns-clause-with_release
returns-clause-with_release c = weigh_with_release

pub returns-clause-as_installed : goal.returns-clause-as_installed
returns-clause-as_installed c = weigh_as_installed

pub returns-clause-others : goal.returns-clause-others
returns-clause-others c = lighten_others
