-- The row of `remove`.
use Rattle.std.proofs.Common.{◌≡◌, ◌≢◌, ◌∙◌, ◌≤◌, inl, inr, refl, sym, ap, subst, ℕ, List, map, Option, Some, None, cond, not, arith}
use Rattle.std.specs.Prelude.{sum_by}
use Rattle.std.proofs.lemmas.Option.{none-some}
use Rattle.manifests.specs.declared.facts.FileEntry.{FileEntry}
use Rattle.manifests.specs.Applications.{is_below_pre}
use Rattle.machine.specs.declared.command.Command.TheVariants.{Remove}
use Rattle.machine.specs.declared.lease.Lease.{Lease}
use Rattle.machine.specs.declared.reply.Reply.{Reply}
use Rattle.machine.specs.declared.reply.Reply.TheVariants as says
use Rattle.machine.specs.DataFiles.{data_name, data_named, removed_in, without_data, without_named}
use Rattle.machine.specs.Laws.{IsAnswered}
use Rattle.machine.specs.Leases.{lease_of, leased_bare, leased_view}
use Rattle.machine.specs.Machine.{moment_set}
use Rattle.machine.specs.RemoveRow.{RemoveEffect, remove_refusals}
use Rattle.machine.specs.Shape.{bare_data, bare_view, shape_of}
use Rattle.machine.specs.Sound.{Sound}
use Rattle.machine.specs.Store.{Session, Store}
use Rattle.machine.specs.Valid.{IsDataFile, IsView, Ordered, Valid}
use Rattle.machine.specs.Views.{DataFile, ListedFile, View}
use Rattle.machine.specs.Weight.{data_weight, weight_of}
use Rattle.machine.proofs.DataViews.{changed_keeps, changed_ordered, changed_sound, no_more, room_within, same_programs, same_standing, file_blocks}
use Rattle.machine.proofs.FirstFound.{some_there}
use Rattle.machine.proofs.GroupStands.{leased_number}
use Rattle.machine.proofs.Leased.{leased_bare_kept, leased_valid}
use Rattle.machine.proofs.Lightness.{lighter}
use Rattle.machine.proofs.LocalFacts.{has, lacks, local_none, local_unchanged}
use Rattle.machine.proofs.LowerWeights.{lower_data}
use Rattle.machine.proofs.Members.{In, sum_map}
use Rattle.machine.proofs.NamedItems.{all_without_named, order-without_named, sum-without_named}
use Rattle.machine.proofs.OtherReplies.{no_file_is_other, no_lease_is_other}
use Rattle.machine.proofs.RowFacts.{Acts, RowFacts, TakesMore, acts_on, kept_unchanged, rises_as}

removed_is_other : says.Removed ≢ says.Memory
removed_is_other e = cc

-- the data files without that of a name
abbrev rest : List ℕ → List DataFile → List DataFile
rest name files = without_named data_name name files

-- ---- a view without it

without_is : (name : List ℕ) (view : View) → IsView view → IsView (without_data name view)
without_is name view is =
    let fewer = sum-without_named data_name name (λ (file : DataFile). cond (not (is_below_pre file.name)) 1 0)
    view.data_files in
    let few = is.few_data in
    record {
      deployment = is.deployment;
      application = is.application;
      base = is.base;
      groups = is.groups;
      files = is.files;
      data_order = order-without_named data_name name view.data_files is.data_order;
      data_files = all_without_named data_name name IsDataFile view.data_files is.data_files;
      few_data = omega (arith, fewer, few);
    }

no_heavier : (name : List ℕ) (files : List DataFile)
    → sum_by file_blocks (rest name files) ≤ sum_by file_blocks files
no_heavier name files = sum-without_named data_name name file_blocks files

weighs_less : (name : List ℕ) (files : List DataFile)
    → sum_by data_weight (map bare_data (rest name files)) ≤ sum_by data_weight (map bare_data files)
weighs_less name files =
    omega (
      arith,
      sum-without_named data_name name (λ (file : DataFile). data_weight (bare_data file)) files,
      sum_map bare_data data_weight (rest name files),
      sum_map bare_data data_weight files,
    )

module _ (lease : ℕ) (name : List ℕ) (old : Store) (view : View)
    (leased : leased_view lease old ≡ Some view) where
  removed_ordered : Ordered old → Ordered (removed_in view.number name old)
  removed_ordered was =
      changed_ordered view.number (rest name) old view (leased_number lease old view leased)
      (without_is name view (leased_valid lease old view was leased)) was

  pub removed_valid : Valid old → Valid (removed_in view.number name old)
  removed_valid valid = record {
    ordered = removed_ordered valid.ordered;
    room = (let room = valid.room in
        let within = room_within view.number (rest name) old (no_heavier name) in
        omega (arith, room, within));
    light = lighter old.room
        (weight_of (map bare_view (removed_in view.number name old).views) old.apps)
        (weight_of (map bare_view old.views) old.apps)
        (lower_data view.number (rest name) old (weighs_less name)) valid.light;
  }

  pub removed_sound : Sound old → Sound (removed_in view.number name old)
  removed_sound sound =
      changed_sound view.number (rest name) old view (leased_number lease old view leased)
      (without_is name view (leased_valid lease old view sound.valid.ordered leased))
      (removed_valid sound.valid) sound

removed_takes : (number : ℕ) (name : List ℕ) (old : Store)
    → TakesMore 0 old (removed_in number name old)
removed_takes number name old = record {
  programs = λ file there. subst (λ (fs : List ListedFile). In file fs)
      (same_programs number (rest name) old) there;
  standing = λ entry there. subst (λ (es : List FileEntry). In entry es)
      (same_standing number (rest name) old) there;
  data_blocks = omega (arith, no_more number (rest name) old (no_heavier name));
}

-- ---- the row

module _ (now : ℕ) (heard : List (List ℕ)) (lease : ℕ) (name : List ℕ) where
  module _ (old : Session) where
    no_lease : lease_of lease old.store.leases ≡ None → IsAnswered now heard old (Remove lease name)
    no_lease none = record {
      reply = says.NoLease;
      new = old;
      answers = inl (inr (tt, inl ((none, refl), refl)));
      other = no_lease_is_other;
    }

    module _ (lives : lease_of lease old.store.leases ≡ None → ⊥) (view : View)
        (leased : leased_view lease old.store ≡ Some view)
        (bare : leased_bare lease (shape_of old) ≡ Some (bare_view view)) where
      by_file : (file : Option DataFile) → data_named name view.data_files ≡ file
          → IsAnswered now heard old (Remove lease name)
      by_file None none = record {
        reply = says.NoFile;
        new = old;
        answers = inl (inr (
          tt,
          inr (lives, inl ((lacks lease name (shape_of old) view bare none, refl), refl)),
        ));
        other = no_file_is_other;
      }
      by_file (Some file) is = record {
        reply = says.Removed;
        new = record old { store = removed_in view.number name old.store };
        answers = inr (
          (tt, (lives, (has lease name (shape_of old) view bare file is, tt))),
          record { view = view; leased = leased; replied = refl; is = refl },
        );
        other = removed_is_other;
      }

    by_lease : (found : Option Lease) → lease_of lease old.store.leases ≡ found → Ordered old.store
        → IsAnswered now heard old (Remove lease name)
    by_lease None none was = no_lease none
    by_lease (Some l) is was =
        let kept = leased_bare_kept lease old.store was
        (some_there (lease_of lease old.store.leases) l is) in
        by_file (λ none. none-some l (sym none ∙ is)) kept.0 kept.1 kept.2
        (data_named name kept.0.data_files) refl

  remove_acts : (old : Session) (reply : Reply) (new : Session)
      → RemoveEffect lease name old reply new → Acts (Remove lease name) old reply new
  remove_acts old reply new done =
      acts_on (Remove lease name) old reply new (removed_in done.view.number name old.store) done.is
      (λ e. removed_is_other (sym done.replied ∙ e))
      (ap (λ (r : Reply). moment_set (Some r)) done.replied)
      refl refl (rises_as old.store.apps old.store.apps (λ key. refl))
      (changed_keeps done.view.number (rest name) old.store)

  pub remove_facts : RowFacts now heard (Remove lease name)
  remove_facts = record {
    refused = λ old reply new given.
        kept_unchanged (Remove lease name) (remove_refusals lease name (shape_of old))
        old reply new (local_unchanged lease name (shape_of old)) given;
    set_none = λ shape. local_none lease name shape;
    acts = remove_acts;
    valid = λ old reply new is few passes done valid. subst (λ (s : Session). Valid s.store)
        (sym done.is) (removed_valid lease name old.store done.view done.leased valid);
    sound = λ old reply new is few passes done sound. subst (λ (s : Session). Sound s.store)
        (sym done.is) (removed_sound lease name old.store done.view done.leased sound);
    views = λ old reply new at with_texts none valid passes done. inr (inl (
      0,
      omega arith,
      subst (λ (s : Session). TakesMore 0 old.store s.store) (sym done.is)
          (removed_takes done.view.number name old.store),
    ));
    answered = λ old valid none. by_lease old (lease_of lease old.store.leases) refl valid.ordered;
  }
