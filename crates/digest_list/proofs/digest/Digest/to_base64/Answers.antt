use Rattle.std.proofs.Common.{ap, refl, ◌∙◌}
use Rattle.base64.specs.Engines.{standard}
use Rattle.base64.specs.GeneralPurpose.{encode_of}
use Rattle.digest_list.proofs.TextLemmas.{digest_of-encode_of}
use Rattle.digest_list.proofs.digest.Digest.to_base64.Goals as goal

pub returns-clause-again : goal.returns-clause-again
returns-clause-again c sized =
    let value = c.args.self.now.value in
    let is = c.from_string.ensures ∙ (c.in_ok-text.ensures.text ∙ ap (encode_of standard) c.as_slice.ensures) in
    let decoded = c.in_ok-text.ensures.round_trip refl in
    rw is (digest_of-encode_of c.args.self.now (rw (c.in_ok-text.ensures.text, c.as_slice.ensures) at decoded) sized)
