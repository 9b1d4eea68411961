use Rattle.std.proofs.Common.{◌∷◌, ◌∙◌, ap}
use Rattle.std.specs.Option.{option_copied}
use Rattle.command_text.specs.Lines.{words_behind}
use Rattle.command_text.proofs.WordLemmas.{more_words}
use Rattle.command_text.proofs.words.one_word.Goals as goal

pub returns-in-Some-clause-count : goal.returns-in-Some-clause-count
returns-in-Some-clause-count c =
    more_words c.args.line.now c.in-Some.field-0.now
    (c.first_word.ensures ∙ ap (λ rest. c.first_word.result.0.now ∷ words_behind (option_copied rest)) c.in-Some.is)
