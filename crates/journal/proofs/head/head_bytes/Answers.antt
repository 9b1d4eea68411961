use Rattle.std.proofs.Common.{◌≡◌, ◌∙◌, ◌++◌, [], ◌∷◌, ap, List, ℕ, rules}
use Rattle.journal.proofs.HeadBlock.{head_made}
use Rattle.journal.proofs.head.head_bytes.Goals as goal

pub returns : goal.returns
returns c =
    let magic : c.in_ok-head.head.items ≡ 67 ∷ 76 ∷ 75 ∷ 83 ∷ 84 ∷ 79 ∷ 82 ∷ 49 ∷ [] = search rules in
    let number = c.in_ok-extend_from_slice.ensures.items ∙ ap (λ (l : List ℕ). c.in_ok-head.head.items ++ l) c.to_be_bytes.ensures in
    let half = c.in_ok-extend_from_slice-2.ensures.items ∙ ap (λ (l : List ℕ). c.extend_from_slice.new.self.items ++ l) c.to_be_bytes-2.ensures in
    head_made c.args.blocks c.args.half c.args.gate c.in_ok-head.head.items c.extend_from_slice.new.self.items c.extend_from_slice-2.new.self.items c.push_zeros.new.bytes.items c.push.new.self.items c.push_zeros-2.new.bytes.items
    magic number half c.in_ok-push_zeros.ensures c.in_ok-push.ensures.items c.in_ok-push_zeros-2.ensures
