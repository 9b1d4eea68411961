use Rattle.std.proofs.Common.{◌≡◌, false, true, List, [], ◌∷◌, ◌++◌, refl, sym, ◌∙◌, ap, subst}
use Rattle.machine.specs.Views.{ContentKey}
use Rattle.jobs.specs.Balance.{Balanced}
use Rattle.jobs.specs.NewJobs.{has_blocks_for, slot_with}
use Rattle.jobs.specs.declared.held.Held.TheVariants.{Coming, Nothing}
use Rattle.jobs.specs.declared.held.Slot.{Slot}
use Rattle.jobs.proofs.ReferredSlots.{kept_where, listed_kept, listed_new, not_kept}
use Rattle.jobs.proofs.slots.enlist.Goals as goal

pub returns-then-kept-clause-balanced : goal.returns-then-kept-clause-balanced
returns-then-kept-clause-balanced c = λ tables tells balanced.
    let has : has_blocks_for tables c.args.entry.now ≡ true = sym tells ∙ c.if-kept.true in
    let both = kept_where tables c.args.entry.now has in
    let items = c.push_reserved.ensures.items ∙ ap (λ (l : List Slot). l ++ slot_with c.in-Ok.key c.args.entry.now.local Nothing ∷ []) c.reserve.ensures.items ∙ ap (λ (k : ContentKey). c.args.slots.now.items ++ slot_with k c.args.entry.now.local Nothing ∷ []) c.in-Ok.ensures in
    subst (λ (l : List Slot). Balanced tables l [] c.args.store.now) (sym items)
    (listed_kept tables c.args.slots.now.items c.args.entry.now c.args.store.now both.0 (c.requires.new both.0) both.1 balanced)

pub returns-then-kept-clause-ok : goal.returns-then-kept-clause-ok
returns-then-kept-clause-ok c =
    (Nothing, refl, c.push_reserved.ensures.items ∙ ap (λ (l : List Slot). l ++ slot_with c.in-Ok.key c.args.entry.now.local Nothing ∷ []) c.reserve.ensures.items ∙ ap (λ (k : ContentKey). c.args.slots.now.items ++ slot_with k c.args.entry.now.local Nothing ∷ []) c.in-Ok.ensures)

pub returns-in-Ok-begin-clause-balanced : goal.returns-in-Ok-begin-clause-balanced
returns-in-Ok-begin-clause-balanced c = λ tables tells balanced.
    let has : has_blocks_for tables c.args.entry.now ≡ false = sym tells ∙ c.if-kept.false in
    let items = c.push_reserved-in-Ok-begin.ensures.items ∙ ap (λ (l : List Slot). l ++ slot_with c.in-Ok.key c.args.entry.now.local (Coming c.in-Ok-begin.draft) ∷ []) c.reserve.ensures.items ∙ ap (λ (k : ContentKey). c.args.slots.now.items ++ slot_with k c.args.entry.now.local (Coming c.in-Ok-begin.draft) ∷ []) c.in-Ok.ensures in
    subst (λ (l : List Slot). Balanced tables l [] c.begin.new.self) (sym items)
    (listed_new tables c.args.slots.now.items c.args.entry.now c.in-Ok-begin.draft c.args.store.now c.begin.new.self
    (λ program. (c.requires.new program, not_kept tables c.args.entry.now has program))
    balanced c.in-Ok-begin.ensures.takes c.begin.ensures.range c.in-Ok-begin.ensures.size)

pub returns-in-Ok-begin-clause-ok : goal.returns-in-Ok-begin-clause-ok
returns-in-Ok-begin-clause-ok c =
    (Coming c.in-Ok-begin.draft, refl, c.push_reserved-in-Ok-begin.ensures.items ∙ ap (λ (l : List Slot). l ++ slot_with c.in-Ok.key c.args.entry.now.local (Coming c.in-Ok-begin.draft) ∷ []) c.reserve.ensures.items ∙ ap (λ (k : ContentKey). c.args.slots.now.items ++ slot_with k c.args.entry.now.local (Coming c.in-Ok-begin.draft) ∷ []) c.in-Ok.ensures)
