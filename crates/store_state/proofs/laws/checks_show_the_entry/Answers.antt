use Rattle.store_state.proofs.CheckedApps.{shows_heard, shows_unheard}
use Rattle.store_state.proofs.laws.checks_show_the_entry.Goals as goal

pub returns-clause-heard : goal.returns-clause-heard
returns-clause-heard c =
    λ room tables key have d now image later store shows same current. shows_heard room tables key
    have d.identity.version d.minimum now image later store shows same current

pub returns-clause-unheard : goal.returns-clause-unheard
returns-clause-unheard c = shows_unheard
