use Rattle.std.proofs.Common.{◌≡◌, ◌∷◌, ◌∙◌, ap}
use Rattle.std.specs.Option.{option_copied}
use Rattle.command_text.specs.Lines.{words_of, words_behind}
use Rattle.command_text.proofs.WordLemmas.{three_words}
use Rattle.command_text.proofs.words.two_words.Goals as goal

pub returns-in-Some-clause-count : goal.returns-in-Some-clause-count
returns-in-Some-clause-count c =
    let first : words_of c.args.line.now ≡ c.first_word.result.0.now ∷ words_of c.in_ok-rest.field-0.now =
    c.first_word.ensures ∙ ap (λ rest. c.first_word.result.0.now ∷ words_behind (option_copied rest)) c.in_ok-rest.was in
    let second : words_of c.in_ok-rest.field-0.now ≡ c.first_word-2.result.0.now ∷ words_of c.in-Some.field-0.now =
    c.first_word-2.ensures ∙ ap (λ rest. c.first_word-2.result.0.now ∷ words_behind (option_copied rest)) c.in-Some.is in
    three_words c.args.line.now c.in_ok-rest.field-0.now c.in-Some.field-0.now first second
