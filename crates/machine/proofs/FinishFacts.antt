-- The row of `finish`.
use Rattle.std.proofs.Common.{◌≡◌, ◌≢◌, ◌∙◌, inl, inr, refl, sym, ap, subst, ℕ, List, Option, Some, None}
use Rattle.std.proofs.lemmas.Option.{none-some}
use Rattle.machine.specs.declared.command.Command.TheVariants.{Finish}
use Rattle.machine.specs.declared.lease.Lease.{Lease}
use Rattle.machine.specs.declared.reply.Reply.{Reply}
use Rattle.machine.specs.declared.reply.Reply.TheVariants as says
use Rattle.machine.specs.FinishRow.{finish_refusals, finished}
use Rattle.machine.specs.Laws.{IsAnswered}
use Rattle.machine.specs.Leases.{lease_of}
use Rattle.machine.specs.Machine.{moment_set}
use Rattle.machine.specs.Rows.{AreExact}
use Rattle.machine.specs.Shape.{Shape, shape_of}
use Rattle.machine.specs.Store.{Session}
use Rattle.machine.specs.Valid.{Valid}
use Rattle.machine.proofs.FirstRefusal.{exactly-exact}
use Rattle.machine.proofs.KeptStores.{same_views_sound}
use Rattle.machine.proofs.LeasesKept.{finished_keeps}
use Rattle.machine.proofs.LeaseLists.{finished_valid}
use Rattle.machine.proofs.OtherReplies.{no_lease_is_other}
use Rattle.machine.proofs.RowFacts.{RowFacts, acts_on, kept_unchanged, rises_as}

finished_is_other : (lease : ℕ) → says.Finished lease ≢ says.Memory
finished_is_other lease e = cc

-- its refusals are exact
pub finish_exact : (lease : ℕ) (shape : Shape) → AreExact (finish_refusals lease shape)
finish_exact lease shape = (exactly-exact _ _, tt)

module _ (now : ℕ) (heard : List (List ℕ)) (lease : ℕ) where
  by_lease : (old : Session) (found : Option Lease) → lease_of lease old.store.leases ≡ found
      → IsAnswered now heard old (Finish lease)
  by_lease old None none = record {
    reply = says.NoLease;
    new = old;
    answers = inl (inr (tt, inl ((none, refl), refl)));
    other = no_lease_is_other;
  }
  by_lease old (Some l) is = record {
    reply = says.Finished lease;
    new = record old { store = finished lease old.store };
    answers = inr ((tt, ((λ none. none-some l (sym none ∙ is)), tt)), (refl, refl));
    other = finished_is_other lease;
  }

  pub finish_facts : RowFacts now heard (Finish lease)
  finish_facts = record {
    refused = λ old reply new given.
        kept_unchanged (Finish lease) (finish_refusals lease (shape_of old)) old reply new
        ((λ s. refl), tt) given;
    set_none = λ shape. ((λ reply given. ap (λ (r : Reply). moment_set (Some r)) given.1), tt);
    acts = λ old reply new done.
        acts_on (Finish lease) old reply new (finished lease old.store) done.1
        (λ e. finished_is_other lease (sym done.0 ∙ e))
        (ap (λ (r : Reply). moment_set (Some r)) done.0)
        refl refl (rises_as old.store.apps old.store.apps (λ key. refl))
        (finished_keeps lease old.store);
    valid = λ old reply new is few passes done valid.
        subst (λ (s : Session). Valid s.store) (sym done.1) (finished_valid lease old.store valid);
    sound = λ old reply new is few passes done sound.
        same_views_sound old.store new.store (ap (λ (s : Session). s.store.views) done.1)
        (subst (λ (s : Session). Valid s.store) (sym done.1)
        (finished_valid lease old.store sound.valid)) sound;
    views = λ old reply new at with_texts none valid passes done. inl
        (ap (λ (s : Session). s.store.views) done.1);
    answered = λ old valid none. by_lease old (lease_of lease old.store.leases) refl;
  }
