-- The row of `show`.
use Rattle.std.proofs.Common.{◌≡◌, ◌≢◌, ◌∙◌, inl, inr, refl, sym, ap, subst, ℕ, List, Option, Some, None}
use Rattle.std.proofs.lemmas.Option.{none-some}
use Rattle.identity.specs.declared.key.Key.{Key}
use Rattle.machine.specs.declared.app.AppState.{AppState}
use Rattle.machine.specs.declared.command.Command.TheVariants.{Show}
use Rattle.machine.specs.declared.reply.Reply.{Reply}
use Rattle.machine.specs.declared.reply.Reply.TheVariants as says
use Rattle.machine.specs.declared.rows.ShowRow.{ShowRow}
use Rattle.machine.specs.Entries.{entry_of}
use Rattle.machine.specs.Laws.{IsAnswered}
use Rattle.machine.specs.Machine.{moment_set}
use Rattle.machine.specs.Rows.{AreExact}
use Rattle.machine.specs.Shape.{Shape, shape_of}
use Rattle.machine.specs.ShowRow.{show_refusals, show_row}
use Rattle.machine.specs.Sound.{Sound}
use Rattle.machine.specs.Store.{Session}
use Rattle.machine.specs.Valid.{Valid}
use Rattle.machine.proofs.FirstRefusal.{exactly-exact}
use Rattle.machine.proofs.OtherReplies.{not_installed_is_other}
use Rattle.machine.proofs.RowFacts.{RowFacts, acts_not, kept_unchanged}

shown_is_other : (row : ShowRow) → says.Shown row ≢ says.Memory
shown_is_other row e = cc

-- its refusals are exact
pub show_exact : (key : Key) (shape : Shape) → AreExact (show_refusals key shape)
show_exact key shape = (exactly-exact _ _, tt)

module _ (now : ℕ) (heard : List (List ℕ)) (key : Key) where
  by_entry : (old : Session) (entry : Option AppState) → entry_of key old.store.apps ≡ entry
      → IsAnswered now heard old (Show key)
  by_entry old None none = record {
    reply = says.NotInstalled;
    new = old;
    answers = inl (inr (tt, inl ((none, refl), refl)));
    other = not_installed_is_other;
  }
  by_entry old (Some app) is = record {
    reply = says.Shown (show_row (shape_of old) app);
    new = old;
    answers = inr (
      (tt, ((λ none. none-some app (sym none ∙ is)), tt)),
      record { app = app; known = is; replied = refl; is = refl },
    );
    other = shown_is_other _;
  }

  pub show_facts : RowFacts now heard (Show key)
  show_facts = record {
    refused = λ old reply new given.
        kept_unchanged (Show key) (show_refusals key (shape_of old)) old reply new
        ((λ s. refl), tt) given;
    set_none = λ shape. ((λ reply given. ap (λ (r : Reply). moment_set (Some r)) given.1), tt);
    acts = λ old reply new done.
        acts_not (Show key) old reply new done.is (λ e. shown_is_other _ (sym done.replied ∙ e))
        (ap (λ (r : Reply). moment_set (Some r)) done.replied);
    valid = λ old reply new is few passes done valid. subst (λ (s : Session). Valid s.store)
        (sym done.is) valid;
    sound = λ old reply new is few passes done sound. subst (λ (s : Session). Sound s.store)
        (sym done.is) sound;
    views = λ old reply new at with_texts none valid passes done. inl
        (ap (λ (s : Session). s.store.views) done.is);
    answered = λ old valid none. by_entry old (entry_of key old.store.apps) refl;
  }
