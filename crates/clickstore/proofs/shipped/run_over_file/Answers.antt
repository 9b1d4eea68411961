use Rattle.clickstore.proofs.shipped.run_over_file.Goals as goal

pub returns-clause-headline_stop : goal.returns-clause-headline_stop
returns-clause-headline_stop g c = λ boot now asked honest. (c.run.ensures.headline boot now asked).stop honest

pub returns-clause-headline_views : goal.returns-clause-headline_views
returns-clause-headline_views g c = λ boot now asked honest. (c.run.ensures.headline boot now asked).views honest

pub returns-clause-headline_launch : goal.returns-clause-headline_launch
returns-clause-headline_launch g c = λ boot now asked honest. (c.run.ensures.headline boot now asked).launch honest

pub returns-clause-headline_leased : goal.returns-clause-headline_leased
returns-clause-headline_leased g c = λ boot now asked honest. (c.run.ensures.headline boot now asked).leased honest
