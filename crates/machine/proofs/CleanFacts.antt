-- The row of `clean`.
use Rattle.std.proofs.Common.{◌≢◌, ◌∙◌, inl, inr, refl, sym, ap, subst, ℕ, List, length, Some, arith}
use Rattle.machine.specs.declared.command.Command.TheVariants.{Clean}
use Rattle.machine.specs.declared.reply.Reply.{Reply}
use Rattle.machine.specs.declared.reply.Reply.TheVariants as says
use Rattle.machine.specs.CleanRow.{cleaned, removable}
use Rattle.machine.specs.Machine.{moment_set}
use Rattle.machine.specs.Shape.{shape_of}
use Rattle.machine.specs.Sound.{Sound}
use Rattle.machine.specs.Store.{Session}
use Rattle.machine.specs.Valid.{Valid}
use Rattle.machine.proofs.CleanedStores.{cleaned_keeps, cleaned_sound, cleaned_takes, cleaned_valid}
use Rattle.machine.proofs.RowFacts.{RowFacts, TakesMore, acts_on, rises_as}

cleaned_is_other : (gone : ℕ) → says.Cleaned gone ≢ says.Memory
cleaned_is_other gone e = cc

pub clean_facts : (now : ℕ) (heard : List (List ℕ)) → RowFacts now heard Clean
clean_facts now heard = record {
  refused = λ old reply new given. absurd given;
  set_none = λ shape. tt;
  acts = λ old reply new done.
      acts_on Clean old reply new (cleaned old.store) done.1
      (λ e. cleaned_is_other _ (sym done.0 ∙ e)) (ap (λ (r : Reply). moment_set (Some r)) done.0)
      refl refl (rises_as old.store.apps old.store.apps (λ key. refl)) (cleaned_keeps old.store);
  valid = λ old reply new is few passes done valid. subst (λ (s : Session). Valid s.store)
      (sym done.1) (cleaned_valid old.store valid);
  sound = λ old reply new is few passes done sound. subst (λ (s : Session). Sound s.store)
      (sym done.1) (cleaned_sound old.store sound);
  views = λ old reply new at with_texts none valid passes done. inr (inl (
    0,
    omega arith,
    subst (λ (s : Session). TakesMore 0 old.store s.store) (sym done.1) (cleaned_takes old.store),
  ));
  answered = λ old valid none. record {
    reply = says.Cleaned (length (removable (shape_of old)));
    new = record old { store = cleaned old.store };
    answers = inr ((tt, tt), (refl, refl));
    other = cleaned_is_other _;
  };
}
