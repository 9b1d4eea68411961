-- The row of `read`.
use Rattle.std.proofs.Common.{◌≡◌, ◌∙◌, inl, inr, refl, sym, ap, subst, ℕ, List, length, Option, Some, None}
use Rattle.std.specs.Prelude.{option_map}
use Rattle.std.proofs.lemmas.Option.{none-some, same_Some}
use Rattle.manifests.specs.declared.facts.FileEntry.{FileEntry}
use Rattle.machine.specs.declared.command.Command.TheVariants.{Read}
use Rattle.machine.specs.declared.lease.Lease.{Lease}
use Rattle.machine.specs.declared.reply.Reply.{Reply}
use Rattle.machine.specs.declared.reply.Reply.TheVariants as says
use Rattle.machine.specs.Laws.{IsAnswered}
use Rattle.machine.specs.Leases.{lease_of, leased_bare, leased_view}
use Rattle.machine.specs.Machine.{moment_set}
use Rattle.machine.specs.ReadRow.{LacksFile, entry_named, file_named, part, read_refusals}
use Rattle.machine.specs.Rows.{AreExact}
use Rattle.machine.specs.Shape.{BareView, Shape, bare_view, shape_of}
use Rattle.machine.specs.Sound.{Sound}
use Rattle.machine.specs.Store.{Session}
use Rattle.machine.specs.Valid.{Ordered, Valid}
use Rattle.machine.specs.Views.{ListedFile, View, standing_entries}
use Rattle.machine.proofs.FirstRefusal.{exactly-exact}
use Rattle.machine.proofs.FirstFound.{some_there}
use Rattle.machine.proofs.Leased.{leased_bare_kept, leased_valid, named_entry}
use Rattle.machine.proofs.OtherReplies.{no_file_is_other, no_lease_is_other, read_is_other}
use Rattle.machine.proofs.RowFacts.{RowFacts, acts_not, kept_unchanged}

-- its refusals are exact
pub read_exact : (lease : ℕ) (name : List ℕ) (shape : Shape)
    → AreExact (read_refusals lease name shape)
read_exact lease name shape = (exactly-exact _ _, (exactly-exact _ _, tt))

-- a view lacks a file where none of that name stands in it, and else it does not
module _ (lease : ℕ) (name : List ℕ) (shape : Shape) (view : BareView)
    (leased : leased_bare lease shape ≡ Some view) where
  lacks : entry_named name (standing_entries view.groups view.application) ≡ None
      → LacksFile lease name shape
  lacks none = (view, leased, none)

  has : (entry : FileEntry)
      → entry_named name (standing_entries view.groups view.application) ≡ Some entry
      → LacksFile lease name shape → ⊥
  has entry is lacking =
      let same : lacking.0 ≡ view = same_Some lacking.0 view (sym lacking.1 ∙ leased) in
      none-some entry
      (sym (subst (λ (v : BareView). entry_named name (standing_entries v.groups v.application)
      ≡ None) same lacking.2)
      ∙ is)

module _ (now : ℕ) (heard : List (List ℕ)) (lease : ℕ) (name : List ℕ) (from count : ℕ) where
  module _ (old : Session) where
    no_lease : lease_of lease old.store.leases ≡ None
        → IsAnswered now heard old (Read lease name from count)
    no_lease none = record {
      reply = says.NoLease;
      new = old;
      answers = inl (inr (tt, inl ((none, refl), refl)));
      other = no_lease_is_other;
    }

    module _ (lives : lease_of lease old.store.leases ≡ None → ⊥) (view : View)
        (leased : leased_view lease old.store ≡ Some view)
        (bare : leased_bare lease (shape_of old) ≡ Some (bare_view view))
        (named : entry_named name (standing_entries view.groups view.application)
        ≡ option_map (λ (file : ListedFile). file.entry) (file_named name view.program_files)) where
      by_file : (file : Option ListedFile) → file_named name view.program_files ≡ file
          → IsAnswered now heard old (Read lease name from count)
      by_file None none = record {
        reply = says.NoFile;
        new = old;
        answers = inl (inr (
          tt,
          inr (
            lives,
            inl (
              (
                lacks lease name (shape_of old) (bare_view view) bare
                    (named ∙ ap (option_map (λ (file : ListedFile). file.entry)) none),
                refl,
              ),
              refl,
            ),
          ),
        ));
        other = no_file_is_other;
      }
      by_file (Some file) is = record {
        reply = says.Read (length file.bytes) (part from count file.bytes);
        new = old;
        answers = inr (
          (
            tt,
            (
              lives,
              (
                has lease name (shape_of old) (bare_view view) bare file.entry
                    (named ∙ ap (option_map (λ (file : ListedFile). file.entry)) is),
                tt,
              ),
            ),
          ),
          record {
            view = view;
            leased = leased;
            file = file;
            found = is;
            replied = refl;
            is = refl;
          },
        );
        other = read_is_other (length file.bytes) (part from count file.bytes);
      }

    by_lease : (found : Option Lease) → lease_of lease old.store.leases ≡ found → Ordered old.store
        → IsAnswered now heard old (Read lease name from count)
    by_lease None none was = no_lease none
    by_lease (Some l) is was =
        let kept = leased_bare_kept lease old.store was
        (some_there (lease_of lease old.store.leases) l is) in
        by_file (λ none. none-some l (sym none ∙ is)) kept.0 kept.1 kept.2
        (named_entry name kept.0 (leased_valid lease old.store kept.0 was kept.1))
        (file_named name kept.0.program_files) refl

  pub read_facts : RowFacts now heard (Read lease name from count)
  read_facts = record {
    refused = λ old reply new given.
        kept_unchanged (Read lease name from count) (read_refusals lease name (shape_of old))
        old reply new ((λ s. refl), ((λ s. refl), tt)) given;
    set_none = λ shape. (
      (λ reply given. ap (λ (r : Reply). moment_set (Some r)) given.1),
      ((λ reply given. ap (λ (r : Reply). moment_set (Some r)) given.1), tt),
    );
    acts = λ old reply new done.
        acts_not (Read lease name from count) old reply new done.is
        (λ e. read_is_other (length done.file.bytes) (part from count done.file.bytes)
        (sym done.replied ∙ e))
        (ap (λ (r : Reply). moment_set (Some r)) done.replied);
    valid = λ old reply new is few passes done valid. subst (λ (s : Session). Valid s.store)
        (sym done.is) valid;
    sound = λ old reply new is few passes done sound. subst (λ (s : Session). Sound s.store)
        (sym done.is) sound;
    views = λ old reply new at with_texts none valid passes done. inl
        (ap (λ (s : Session). s.store.views) done.is);
    answered = λ old valid none. by_lease old (lease_of lease old.store.leases) refl valid.ordered;
  }
