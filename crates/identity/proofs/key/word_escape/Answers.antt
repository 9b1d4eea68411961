use Rattle.std.proofs.Common.{◌∙◌, ap, arith}
use Rattle.std.proofs.lemmas.List.Elements.{All-from_get_or}
use Rattle.percent_encoding.specs.Percent.{percent_decode}
use Rattle.percent_encoding.proofs.PercentLemmas.{IsByte}
use Rattle.identity.proofs.KeyLemmas.{word_encoded, word_again}
use Rattle.identity.proofs.key.word_escape.Goals as goal

pub returns-clause-text : goal.returns-clause-text
returns-clause-text c =
    rw (c.from_string.ensures, c.in_ok-append_to.ensures.ok, c.new-text.ensures.bytes, c.percent_encode.ensures.text) (word_encoded c.args.word.now)

pub returns-clause-again : goal.returns-clause-again
returns-clause-again c =
    let small = All-from_get_or IsByte c.args.word.now 0 (λ i within. omega (arith, c.type_inv.word i)) in
    ap percent_decode (returns-clause-text c) ∙ word_again c.args.word.now small
