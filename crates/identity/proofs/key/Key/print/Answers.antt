use Rattle.std.proofs.Common.{◌∙◌, ap, append_assoc}
use Rattle.identity.specs.Key.{key_of, key_text}
use Rattle.identity.proofs.KeyLemmas.{key_read-key_text}
use Rattle.identity.proofs.key.Key.print.Goals as goal

pub returns-clause-text : goal.returns-clause-text
unfolding key_text
returns-clause-text c =
    let first = c.in_ok-print_part.ensures in
    let second = c.in_ok-print_next.ensures in
    let third = c.in_ok-print_next-2.ensures in
    let fourth = c.in_ok-print_next-3.ensures in
    let is = c.from_string.ensures in
    let empty = c.new-text.ensures.bytes in
    rw (is, fourth, third, second, first, empty) (simp append_assoc)

pub returns-clause-again : goal.returns-clause-again
returns-clause-again c key = ap key_of (returns-clause-text c) ∙ key_read-key_text c.args.self.now key
