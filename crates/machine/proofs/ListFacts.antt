-- The row of `list`.
use Rattle.std.proofs.Common.{◌≢◌, ◌∙◌, inl, inr, refl, sym, ap, subst, ℕ, List, map, Some}
use Rattle.machine.specs.declared.command.Command.TheVariants as asks
use Rattle.machine.specs.declared.reply.Reply.{Reply}
use Rattle.machine.specs.declared.reply.Reply.TheVariants as says
use Rattle.machine.specs.declared.rows.ListRow.{ListRow}
use Rattle.machine.specs.ListRow.{list_row}
use Rattle.machine.specs.Machine.{moment_set}
use Rattle.machine.specs.Shape.{shape_of}
use Rattle.machine.specs.Sound.{Sound}
use Rattle.machine.specs.Store.{Session}
use Rattle.machine.specs.Valid.{Valid}
use Rattle.machine.proofs.RowFacts.{RowFacts, acts_not}

listed_is_other : (rows : List ListRow) → says.Listed rows ≢ says.Memory
listed_is_other rows e = cc

pub list_facts : (now : ℕ) (heard : List (List ℕ)) → RowFacts now heard asks.List
list_facts now heard = record {
  refused = λ old reply new given. absurd given;
  set_none = λ shape. tt;
  acts = λ old reply new done.
      acts_not asks.List old reply new done.1 (λ e. listed_is_other _ (sym done.0 ∙ e))
      (ap (λ (r : Reply). moment_set (Some r)) done.0);
  valid = λ old reply new is few passes done valid. subst (λ (s : Session). Valid s.store)
      (sym done.1) valid;
  sound = λ old reply new is few passes done sound. subst (λ (s : Session). Sound s.store)
      (sym done.1) sound;
  views = λ old reply new at with_texts none valid passes done. inl (ap (λ (s : Session). s.store.views) done.1);
  answered = λ old valid none. record {
    reply = says.Listed (map (list_row (shape_of old)) old.store.apps);
    new = old;
    answers = inr ((tt, tt), (refl, refl));
    other = listed_is_other _;
  };
}
