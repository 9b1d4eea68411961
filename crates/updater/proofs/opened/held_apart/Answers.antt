use Rattle.std.proofs.Common.{◌∙◌, subst, sym}
use Rattle.std.proofs.lemmas.Bool.{false≢true}
use Rattle.updater.specs.StandsFor.{ArePlaced}
use Rattle.updater.proofs.opened.held_apart.Goals as goal

pub returns-in-Ok-true-clause-placed : goal.returns-in-Ok-true-clause-placed
returns-in-Ok-true-clause-placed c =
    let is = c.in-Ok-true.ensures.0 c.in-Ok-true.field-0-test in
    subst (ArePlaced c.args.room) c.in-Ok.ensures (record { within = is.0; apart = is.1 })

pub returns-in-Ok-false-clause-not_a_store : goal.returns-in-Ok-false-clause-not_a_store
returns-in-Ok-false-clause-not_a_store c = λ e placed.
    let there = subst (ArePlaced c.args.room) (sym c.in-Ok.ensures) placed in
    absurd (false≢true (sym c.in-Ok-false.field-0-test ∙ c.in-Ok-false.ensures.1 (there.within, there.apart)))
