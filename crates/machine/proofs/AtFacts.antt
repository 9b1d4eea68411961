-- The row of `at`.
use Rattle.std.proofs.Common.{◌≢◌, ◌∙◌, inl, inr, refl, sym, ap, subst, ℕ, List, Some}
use Rattle.machine.specs.declared.command.Command.TheVariants.{At}
use Rattle.machine.specs.declared.reply.Reply.{Reply}
use Rattle.machine.specs.declared.reply.Reply.TheVariants as says
use Rattle.machine.specs.Machine.{moment_set}
use Rattle.machine.specs.Sound.{Sound}
use Rattle.machine.specs.Store.{Session}
use Rattle.machine.specs.Valid.{Valid}
use Rattle.machine.proofs.RowFacts.{RowFacts, acts_not}

at_is_other : (next : ℕ) → says.At next ≢ says.Memory
at_is_other next e = cc

pub at_facts : (now : ℕ) (heard : List (List ℕ)) (next : ℕ) → RowFacts now heard (At next)
at_facts now heard next = record {
  refused = λ old reply new given. absurd given;
  set_none = λ shape. tt;
  acts = λ old reply new done.
      acts_not (At next) old reply new done.1 (λ e. at_is_other next (sym done.0 ∙ e))
      (ap (λ (r : Reply). moment_set (Some r)) done.0);
  valid = λ old reply new is few passes done valid. subst (λ (s : Session). Valid s.store)
      (sym done.1) valid;
  sound = λ old reply new is few passes done sound. subst (λ (s : Session). Sound s.store)
      (sym done.1) sound;
  views = λ old reply new at with_texts none valid passes done. inl (ap (λ (s : Session). s.store.views) done.1);
  answered = λ old valid none. record {
    reply = says.At next;
    new = old;
    answers = inr ((tt, tt), (refl, refl));
    other = at_is_other next;
  };
}
