-- The row of `data`.
use Rattle.std.proofs.Common.{◌≡◌, ◌∙◌, inl, inr, refl, sym, ap, subst, ℕ, List, length, map, Option, Some, None, bytes_eq}
use Rattle.std.specs.Prelude.{option_map}
use Rattle.std.proofs.lemmas.Option.{none-some, same_Some}
use Rattle.machine.specs.declared.command.Command.TheVariants.{Local}
use Rattle.machine.specs.declared.lease.Lease.{Lease}
use Rattle.machine.specs.declared.reply.Reply.{Reply}
use Rattle.machine.specs.declared.reply.Reply.TheVariants as says
use Rattle.machine.specs.DataFiles.{bare_data_named, data_named}
use Rattle.machine.specs.Laws.{IsAnswered}
use Rattle.machine.specs.Leases.{lease_of, leased_bare, leased_view}
use Rattle.machine.specs.LocalRow.{LacksData, local_refusals}
use Rattle.machine.specs.Machine.{moment_set}
use Rattle.machine.specs.ReadRow.{part}
use Rattle.machine.specs.Rows.{AreExact, ChangeNothing}
use Rattle.machine.specs.Shape.{BareData, BareView, Shape, bare_data, bare_view, shape_of}
use Rattle.machine.specs.Sound.{Sound}
use Rattle.machine.specs.Store.{Session}
use Rattle.machine.specs.Valid.{Ordered, Valid}
use Rattle.machine.specs.Views.{DataFile, View}
use Rattle.machine.proofs.FirstRefusal.{AllGive, exactly-exact}
use Rattle.machine.proofs.FirstFound.{find-map, some_there}
use Rattle.machine.proofs.Leased.{leased_bare_kept}
use Rattle.machine.proofs.Moments.{SetsNone}
use Rattle.machine.proofs.OtherReplies.{no_file_is_other, no_lease_is_other, read_is_other}
use Rattle.machine.proofs.RowFacts.{RowFacts, acts_not, kept_unchanged}

-- ---- its refusals

module _ (lease : ℕ) (name : List ℕ) (shape : Shape) where
  -- they are exact
  pub local_exact : AreExact (local_refusals lease name shape)
  local_exact = (exactly-exact _ _, (exactly-exact _ _, tt))

  pub local_unchanged : ChangeNothing (local_refusals lease name shape)
  local_unchanged = ((λ s. refl), ((λ s. refl), tt))

  pub local_none : AllGive SetsNone (local_refusals lease name shape)
  local_none = (
    (λ reply given. ap (λ (r : Reply). moment_set (Some r)) given.1),
    ((λ reply given. ap (λ (r : Reply). moment_set (Some r)) given.1), tt),
  )

-- ---- data files of a view and of its shape

pub bare_found : (name : List ℕ) (files : List DataFile)
    → bare_data_named name (map bare_data files) ≡ option_map bare_data (data_named name files)
bare_found name files = find-map bare_data (λ (file : BareData). bytes_eq file.name name) files

-- a view lacks a file where none of that name is in it, and else it does not
module _ (lease : ℕ) (name : List ℕ) (shape : Shape) (view : View)
    (bare : leased_bare lease shape ≡ Some (bare_view view)) where
  pub lacks : data_named name view.data_files ≡ None → LacksData lease name shape
  lacks none = (
    bare_view view,
    bare,
    bare_found name view.data_files ∙ ap (option_map bare_data) none,
  )

  pub has : (file : DataFile) → data_named name view.data_files ≡ Some file
      → LacksData lease name shape → ⊥
  has file is lacking =
      let same : lacking.0 ≡ bare_view view =
      same_Some lacking.0 (bare_view view) (sym lacking.1 ∙ bare) in
      none-some (bare_data file)
      (sym (subst (λ (v : BareView). bare_data_named name v.data_files ≡ None) same lacking.2)
      ∙ bare_found name view.data_files ∙ ap (option_map bare_data) is)

module _ (now : ℕ) (heard : List (List ℕ)) (lease : ℕ) (name : List ℕ) (from count : ℕ) where
  module _ (old : Session) where
    no_lease : lease_of lease old.store.leases ≡ None
        → IsAnswered now heard old (Local lease name from count)
    no_lease none = record {
      reply = says.NoLease;
      new = old;
      answers = inl (inr (tt, inl ((none, refl), refl)));
      other = no_lease_is_other;
    }

    module _ (lives : lease_of lease old.store.leases ≡ None → ⊥) (view : View)
        (leased : leased_view lease old.store ≡ Some view)
        (bare : leased_bare lease (shape_of old) ≡ Some (bare_view view)) where
      by_file : (file : Option DataFile) → data_named name view.data_files ≡ file
          → IsAnswered now heard old (Local lease name from count)
      by_file None none = record {
        reply = says.NoFile;
        new = old;
        answers = inl (inr (
          tt,
          inr (lives, inl ((lacks lease name (shape_of old) view bare none, refl), refl)),
        ));
        other = no_file_is_other;
      }
      by_file (Some file) is = record {
        reply = says.Read (length file.bytes) (part from count file.bytes);
        new = old;
        answers = inr (
          (tt, (lives, (has lease name (shape_of old) view bare file is, tt))),
          record {
            view = view;
            leased = leased;
            file = file;
            found = is;
            replied = refl;
            is = refl;
          },
        );
        other = read_is_other (length file.bytes) (part from count file.bytes);
      }

    by_lease : (found : Option Lease) → lease_of lease old.store.leases ≡ found → Ordered old.store
        → IsAnswered now heard old (Local lease name from count)
    by_lease None none was = no_lease none
    by_lease (Some l) is was =
        let kept = leased_bare_kept lease old.store was
        (some_there (lease_of lease old.store.leases) l is) in
        by_file (λ none. none-some l (sym none ∙ is)) kept.0 kept.1 kept.2
        (data_named name kept.0.data_files) refl

  pub local_facts : RowFacts now heard (Local lease name from count)
  local_facts = record {
    refused = λ old reply new given.
        kept_unchanged (Local lease name from count) (local_refusals lease name (shape_of old))
        old reply new (local_unchanged lease name (shape_of old)) given;
    set_none = λ shape. local_none lease name shape;
    acts = λ old reply new done.
        acts_not (Local lease name from count) old reply new done.is
        (λ e. read_is_other (length done.file.bytes) (part from count done.file.bytes)
        (sym done.replied ∙ e))
        (ap (λ (r : Reply). moment_set (Some r)) done.replied);
    valid = λ old reply new is few passes done valid. subst (λ (s : Session). Valid s.store)
        (sym done.is) valid;
    sound = λ old reply new is few passes done sound. subst (λ (s : Session). Sound s.store)
        (sym done.is) sound;
    views = λ old reply new at with_texts none valid passes done. inl
        (ap (λ (s : Session). s.store.views) done.is);
    answered = λ old valid none. by_lease old (lease_of lease old.store.leases) refl valid.ordered;
  }
