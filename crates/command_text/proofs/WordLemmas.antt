-- Cutting a line at its spaces.
use Rattle.std.proofs.Common.{◌≡◌, ◌≢◌, ◌<◌, ℕ, List, [], ◌∷◌, length, Option, Some, Result, Err, refl, ap, ◌∙◌, sym, arith}
use Rattle.small_types.proofs.CutLemmas.{some_part}
use Rattle.machine.specs.declared.command.Command.{Command}
use Rattle.machine.specs.declared.command.LineFault.{LineFault}
use Rattle.machine.specs.declared.command.LineFault.TheVariants.{WordCount}
use Rattle.command_text.specs.Lines.{no_words, words_behind, words_of}

-- what stands behind a word that a space follows
pub behind : (line word rest : List ℕ) (more : Option (List ℕ))
    → words_of line ≡ word ∷ words_behind more → more ≡ Some rest
    → words_of line ≡ word ∷ words_of rest
behind line word rest more first is =
    first ∙ ap (λ (next : Option (List ℕ)). word ∷ words_behind next) is

-- a line that is cut has not one word
pub more_words : {a : List ℕ} (line rest : List ℕ) → words_of line ≡ a ∷ words_of rest → length (words_of line) ≢ 1
more_words line rest first one =
    let some = some_part 32 rest in
    omega (arith, ap (length {A = List ℕ}) first)

-- a line that is cut twice has not two words
pub three_words : {a b : List ℕ} (line rest more : List ℕ) → words_of line ≡ a ∷ words_of rest → words_of rest ≡ b ∷ words_of more → length (words_of line) ≢ 2
three_words line rest more first second two =
    let some = some_part 32 more in
    omega (arith, ap (length {A = List ℕ}) first, ap (length {A = List ℕ}) second)

-- a line that is cut three times has not three words
pub four_words : {a b c : List ℕ} (line second third more : List ℕ)
    → words_of line ≡ a ∷ words_of second → words_of second ≡ b ∷ words_of third
    → words_of third ≡ c ∷ words_of more → length (words_of line) ≢ 3
four_words line second third more cut cut_second cut_third three =
    let some = some_part 32 more in
    let count : List (List ℕ) → ℕ = length {A = List ℕ} in
    omega (arith, ap count cut, ap count cut_second, ap count cut_third)

-- a line that is cut four times has not four words
pub five_words : {a b c d : List ℕ} (line second third fourth more : List ℕ)
    → words_of line ≡ a ∷ words_of second → words_of second ≡ b ∷ words_of third
    → words_of third ≡ c ∷ words_of fourth → words_of fourth ≡ d ∷ words_of more
    → length (words_of line) ≢ 4
five_words line second third fourth more cut cut_second cut_third cut_fourth four =
    let some = some_part 32 more in
    let count : List (List ℕ) → ℕ = length {A = List ℕ} in
    omega (arith, ap count cut, ap count cut_second, ap count cut_third, ap count cut_fourth)

too_many : (command : Command) (words : List (List ℕ)) → 0 < length words → no_words command words ≡ Err WordCount
too_many command [] some = absurd (omega arith)
too_many command (word ∷ words) some = refl

-- where a space follows, a word does, if only an empty one
pub word_follows : (command : Command) (line : List ℕ) (more : Option (List ℕ)) → more ≡ Some line
    → ◌≡◌ {A = Result Command LineFault} (Err WordCount) (no_words command (words_behind more))
word_follows command line more is =
    sym (ap (λ (next : Option (List ℕ)). no_words command (words_behind next)) is ∙ too_many command (words_of line) (some_part 32 line))
