use Rattle.std.proofs.Common.{sym, subst, ℕ, List}
use Rattle.journal.specs.Layout.{IsHalvedJournal, NoJournal}
use Rattle.journal.specs.Found.{Finds}
use Rattle.journal.proofs.Store.{unique}
use Rattle.journal.proofs.Turns.{journal}
use Rattle.journal.proofs.log.Log.recover.Goals as goal

pub returns-in-None-clause-not_a_log : goal.returns-in-None-clause-not_a_log
returns-in-None-clause-not_a_log g c = λ told _. subst NoJournal c.sync.ensures.seen (rw c.in-None.is at (c.in_ok-read_journal.ensures.none told))

pub returns-in-Some-clause-same : goal.returns-in-Some-clause-same
returns-in-Some-clause-same g c = λ told blocks half tables changes made.
    let seen = g.D.Disk.seen c.sync.new.self in
    let found = c.in-Some.found in
    let finds : Finds found seen = rw c.in-Some.is at (c.in_ok-read_journal.ensures.found told) in
    unique seen found.blocks blocks found.half half found.tables tables found.changes changes
    (journal found.side found.serial found.both found.blocks found.half found.tables found.changes seen finds.stands)
    (subst (λ (l : List ℕ). IsHalvedJournal blocks half tables changes l) (sym c.sync.ensures.seen) made)
