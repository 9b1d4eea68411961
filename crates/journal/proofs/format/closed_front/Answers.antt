use Rattle.std.proofs.Common.{◌∙◌, ◌++◌, [], ◌∷◌, ap, List, ℕ}
use Rattle.journal.specs.Layout.{half_head}
use Rattle.journal.proofs.NewJournal.{front_made}
use Rattle.journal.proofs.format.closed_front.Goals as goal

pub returns : goal.returns
returns c =
    front_made c.in_ok-bytes.bytes.items c.args.tables.now c.push.new.self.items c.push-2.new.self.items c.extend_from_slice.new.self.items c.extend_from_slice-2.new.self.items c.push-3.new.self.items
    c.in_ok-push.ensures.items c.in_ok-push-2.ensures.items (c.in_ok-extend_from_slice.ensures.items ∙ ap (λ (l : List ℕ). c.push-2.new.self.items ++ l) c.to_be_bytes.ensures)
    c.in_ok-extend_from_slice-2.ensures.items c.in_ok-push-3.ensures.items
    ∙ ap (λ (l : List ℕ). l ++ (half_head 0 c.args.tables.now ++ 0 ∷ [])) c.in_ok-bytes.ensures
