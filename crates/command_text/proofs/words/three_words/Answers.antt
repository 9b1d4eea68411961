use Rattle.std.proofs.Common.{ap}
use Rattle.std.specs.Option.{option_copied}
use Rattle.command_text.proofs.WordLemmas.{behind, four_words}
use Rattle.command_text.proofs.words.three_words.Goals as goal

pub returns-in-Some-clause-count : goal.returns-in-Some-clause-count
returns-in-Some-clause-count c =
    let line = c.args.line.now in
    let second = c.in_ok-rest.field-0.now in
    let third = c.in_ok-rest-2.field-0.now in
    let more = c.in-Some.field-0.now in
    four_words line second third more
    (behind line c.first_word.result.0.now second (option_copied c.first_word.result.1)
    c.first_word.ensures (ap option_copied c.in_ok-rest.was))
    (behind second c.first_word-2.result.0.now third (option_copied c.first_word-2.result.1)
    c.first_word-2.ensures (ap option_copied c.in_ok-rest-2.was))
    (behind third c.first_word-3.result.0.now more (option_copied c.first_word-3.result.1)
    c.first_word-3.ensures (ap option_copied c.in-Some.is))
