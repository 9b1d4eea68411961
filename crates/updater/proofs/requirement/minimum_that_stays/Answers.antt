use Rattle.std.proofs.Common.{◌≡◌, Some, None, sym, ◌∙◌, rules}
use Rattle.machine.specs.Entries.{entry_of}
use Rattle.updater.proofs.RequireChange.{new_raises, known_bare_raises, known_raises, known_stays}
use Rattle.updater.proofs.requirement.minimum_that_stays.Goals as goal

pub returns-in_default-clause-none : goal.returns-in_default-clause-none
returns-in_default-clause-none c = λ none.
    let is : None ≡ entry_of c.args.key.now c.args.state.now.apps = rw c.in_default.is at c.entry.ensures in
    new_raises c.args.key.now c.args.version c.args.state.now.apps is

pub returns-in_default-minimum-clause-none : goal.returns-in_default-minimum-clause-none
returns-in_default-minimum-clause-none c = λ none.
    let is : Some c.in-Some.app.now ≡ entry_of c.args.key.now c.args.state.now.apps = rw c.in-Some.is at c.entry.ensures in
    known_bare_raises c.args.key.now c.args.version c.args.state.now.apps c.in-Some.app.now is c.in_default-minimum.is

pub returns-then-is_below-clause-none : goal.returns-then-is_below-clause-none
returns-then-is_below-clause-none c = λ none.
    let is : Some c.in-Some.app.now ≡ entry_of c.args.key.now c.args.state.now.apps = rw c.in-Some.is at c.entry.ensures in
    known_raises c.args.key.now c.args.version c.in-Some-minimum.minimum c.args.state.now.apps c.in-Some.app.now is c.in-Some-minimum.is
    (search rules) (sym c.is_below.ensures.compared ∙ c.if-is_below.true)

pub returns-clause-some : goal.returns-clause-some
returns-clause-some c =
    let is : Some c.in-Some.app.now ≡ entry_of c.args.key.now c.args.state.now.apps = rw c.in-Some.is at c.entry.ensures in
    known_stays c.args.key.now c.args.version c.in-Some-minimum.minimum c.args.state.now.apps c.in-Some.app.now is c.in-Some-minimum.is
    (sym c.is_below.ensures.compared ∙ c.if-is_below.false)
