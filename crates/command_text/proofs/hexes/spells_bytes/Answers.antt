use Rattle.std.proofs.Common.{◌∙◌, refl, sym}
use Rattle.command_text.proofs.HexWords.{not_long, spells}
use Rattle.command_text.proofs.hexes.spells_bytes.Goals as goal

pub returns-then-not-has_length : goal.returns-then-not-has_length
returns-then-not-has_length c =
    sym (not_long c.args.word.now (λ long. (let no = c.if-not-has_length.ensures.1 long in cc no)))

pub returns : goal.returns
returns c = c.are_digits.ensures ∙ spells c.args.word.now (c.if-not-has_length.ensures.0 refl)
