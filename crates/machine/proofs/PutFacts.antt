-- The row of `put`.
use Rattle.std.proofs.Common.{◌≡◌, ◌≢◌, ◌∙◌, ◌⊎◌, ◌≤◌, ◌<◌, inl, inr, refl, sym, ap, subst, ℕ, Bool, true, false, List, length, map, Option, Some, None, cond, not, arith}
use Rattle.std.specs.Prelude.{option_map, sum_by}
use Rattle.std.proofs.lemmas.Bool.{cases_lt}
use Rattle.std.proofs.lemmas.Option.{none-some, same_Some}
use Rattle.small_types.specs.declared.limit.Limit.TheVariants.{Locals}
use Rattle.small_types.specs.declared.limits.TheConstants.{LOCAL_COUNT_LIMIT, LOCAL_NAME_LIMIT}
use Rattle.small_types.specs.Name.{IsName}
use Rattle.manifests.specs.declared.facts.FileEntry.{FileEntry}
use Rattle.manifests.specs.Applications.{is_below_pre}
use Rattle.machine.specs.declared.command.Command.TheVariants.{Put}
use Rattle.machine.specs.declared.lease.Lease.{Lease}
use Rattle.machine.specs.declared.reply.Reply.{Reply}
use Rattle.machine.specs.declared.reply.Reply.TheVariants as says
use Rattle.machine.specs.Blocks.{blocks_of, free_blocks}
use Rattle.machine.specs.DataFiles.{bare_data_named, data_name, data_named, put_in, with_data, with_named}
use Rattle.machine.specs.Laws.{IsAnswered}
use Rattle.machine.specs.Leases.{lease_of, leased_bare, leased_view}
use Rattle.machine.specs.Machine.{moment_set}
use Rattle.machine.specs.PutRow.{IsBadName, IsOneTooMany, PutEffect, outside_count, put_refusals, weight_put}
use Rattle.machine.specs.Rows.{AreExact, ChangeNothing, PassesAll}
use Rattle.machine.specs.Shape.{BareData, BareView, Shape, bare_data, bare_view, shape_of}
use Rattle.machine.specs.Sound.{Sound}
use Rattle.machine.specs.Store.{Session, Store}
use Rattle.machine.specs.Valid.{IsDataFile, IsView, Ordered, Valid}
use Rattle.machine.specs.Views.{DataFile, ListedFile, View}
use Rattle.machine.specs.Weight.{IsLight, IsTooHeavy, table_room, told_weight, weight_of}
use Rattle.machine.proofs.FirstRefusal.{AllGive, exactly-exact, exactly_with-exact}
use Rattle.machine.proofs.CountedBlocks.{counted_more}
use Rattle.machine.proofs.DataViews.{changed_keeps, changed_ordered, changed_sound, data_with, room_with, same_programs, same_standing, file_blocks}
use Rattle.machine.proofs.FirstFound.{some_there}
use Rattle.machine.proofs.GroupStands.{leased_number}
use Rattle.machine.proofs.Leased.{leased_bare_kept, leased_shape, leased_valid}
use Rattle.machine.proofs.Lightness.{heavy_or_light, is_light}
use Rattle.machine.proofs.LocalFacts.{bare_found}
use Rattle.machine.proofs.Members.{In, sum_map}
use Rattle.machine.proofs.Moments.{SetsNone}
use Rattle.machine.proofs.Names.{below_from, test_outside}
use Rattle.machine.proofs.NamedItems.{all_with_named, order-with_named, sum-with_known, sum-with_named}
use Rattle.machine.proofs.OtherReplies.{full_is_other, no_lease_is_other, table_full_is_other}
use Rattle.machine.proofs.RowFacts.{Acts, RowFacts, TakesMore, acts_on, kept_unchanged, rises_as}
use Rattle.machine.proofs.ViewWeights.{bare_put}

-- ---- replies

put_is_other : says.Put ≢ says.Memory
put_is_other e = cc

bad_name_is_other : says.BadName ≢ says.Memory
bad_name_is_other e = cc

too_many_is_other : says.TooMany Locals LOCAL_COUNT_LIMIT ≢ says.Memory
too_many_is_other e = cc

-- ---- its refusals

module _ (lease : ℕ) (name bytes : List ℕ) (shape : Shape) where
  -- they are exact
  pub put_exact : AreExact (put_refusals lease name bytes shape)
  put_exact = (
    exactly-exact _ _,
    (
      exactly-exact _ _,
      (
        exactly-exact _ _,
        (
          exactly_with-exact _ _ (λ x y a b.
              ap (λ (n : ℕ). says.Full n (free_blocks shape)) (a.0 ∙ sym b.0)),
          (
            exactly_with-exact _ _ (λ x y a b.
                ap (λ (n : ℕ). says.TableFull (told_weight n) (table_room shape.room))
                (a.2 ∙ ap (λ (v : BareView). weight_put v.number (record { name = name; length = length bytes }) shape)
                (same_Some a.0 b.0 (sym a.1 ∙ b.1)) ∙ sym b.2)),
            tt,
          ),
        ),
      ),
    ),
  )

  pub put_unchanged : ChangeNothing (put_refusals lease name bytes shape)
  put_unchanged = ((λ s. refl), ((λ s. refl), ((λ s. refl), ((λ s. refl), ((λ s. refl), tt)))))

  abbrev set : Reply → Option ℕ
  set reply = moment_set (Some reply)

  put_none : AllGive SetsNone (put_refusals lease name bytes shape)
  put_none = (
    (λ r given. ap set given.1),
    (
      (λ r given. ap set given.1),
      (
        (λ r given. ap set given.1),
        ((λ r given. ap set given.2), ((λ r given. ap set given.2), tt)),
      ),
    ),
  )

-- ---- a view with one data file more, or another

-- how many outside `.pre` one data file is
abbrev counts : DataFile → ℕ
counts file = cond (not (is_below_pre file.name)) 1 0

at_most_one : (b : Bool) → cond b 1 0 ≤ 1
at_most_one true = omega arith
at_most_one false = omega arith

abbrev among : DataFile → List DataFile → List DataFile
among file files = with_named data_name file files

outside_is : (files : List DataFile) → outside_count (map bare_data files) ≡ sum_by counts files
outside_is files =
    sum_map bare_data (λ (file : BareData). cond (not (is_below_pre file.name)) 1 0) files

module _ (file : DataFile) (view : View) (is : IsView view) (fits : IsDataFile file)
    (few : data_named file.name view.data_files ≡ None
    → outside_count (map bare_data view.data_files) < LOCAL_COUNT_LIMIT) where
  few_then : (found : Option DataFile) → data_named file.name view.data_files ≡ found
      → sum_by counts (with_named data_name file view.data_files) ≤ LOCAL_COUNT_LIMIT
  few_then None none =
      let less = few none in
      let more = sum-with_named data_name file counts view.data_files in
      let one = at_most_one (not (is_below_pre file.name)) in
      omega (arith, less, more, one, outside_is view.data_files)
  few_then (Some found) there =
      let same = sum-with_known data_name file counts
      (λ x named. ap (λ (n : List ℕ). cond (not (is_below_pre n)) 1 0) named) view.data_files
      is.data_order found there in
      let was = is.few_data in
      omega (arith, same, was)

  with_is : IsView (with_data file view)
  with_is = record {
    deployment = is.deployment;
    application = is.application;
    base = is.base;
    groups = is.groups;
    files = is.files;
    data_order = order-with_named data_name file view.data_files is.data_order;
    data_files = all_with_named data_name file IsDataFile view.data_files fits is.data_files;
    few_data = few_then (data_named file.name view.data_files) refl;
  }

-- ---- blocks

module _ (lease : ℕ) (name bytes : List ℕ) (old : Session)
    (passes : PassesAll (put_refusals lease name bytes (shape_of old))) where
  has_room : blocks_of (length bytes) ≤ free_blocks (shape_of old)
  has_room = by (cases_lt (free_blocks (shape_of old)) (blocks_of (length bytes)))
    where
      by : (free_blocks (shape_of old) < blocks_of (length bytes))
          ⊎ (blocks_of (length bytes) ≤ free_blocks (shape_of old))
          → blocks_of (length bytes) ≤ free_blocks (shape_of old)
      by (inl less) = absurd (passes.1.1.1.0 (blocks_of (length bytes)) (refl, less))
      by (inr le) = le

put_takes : (number : ℕ) (name bytes : List ℕ) (old : Store) → Ordered old
    → TakesMore (blocks_of (length bytes)) old
    (put_in number (record { name = name; bytes = bytes }) old)
put_takes number name bytes old was =
    let file : DataFile = record { name = name; bytes = bytes } in
    record {
      programs = λ f there. subst (λ (fs : List ListedFile). In f fs)
          (same_programs number (among file) old) there;
      standing = λ entry there. subst (λ (es : List FileEntry). In entry es)
          (same_standing number (among file) old) there;
      data_blocks = data_with number (among file) old (blocks_of (length bytes))
          (λ files. sum-with_named data_name file file_blocks files) was;
    }

-- ---- its effect

module _ (lease : ℕ) (name bytes : List ℕ) (old : Session) (is_name : IsName name)
    (passes : PassesAll (put_refusals lease name bytes (shape_of old))) (view : View)
    (leased : leased_view lease old.store ≡ Some view) where
  abbrev file : DataFile
  file = record { name = name; bytes = bytes }

  bare : leased_bare lease (shape_of old) ≡ Some (bare_view view)
  bare = leased_shape lease old.store ∙ ap (option_map bare_view) leased

  short : length name ≤ LOCAL_NAME_LIMIT
  short = by (cases_lt LOCAL_NAME_LIMIT (length name))
    where
      by : (LOCAL_NAME_LIMIT < length name) ⊎ (length name ≤ LOCAL_NAME_LIMIT)
          → length name ≤ LOCAL_NAME_LIMIT
      by (inl long) = absurd (passes.1.0 (inr long))
      by (inr le) = le

  few : data_named name view.data_files ≡ None
      → outside_count (map bare_data view.data_files) < LOCAL_COUNT_LIMIT
  few none = by (cases_lt (outside_count (map bare_data view.data_files)) LOCAL_COUNT_LIMIT)
    where
      by : (outside_count (map bare_data view.data_files) < LOCAL_COUNT_LIMIT)
          ⊎ (LOCAL_COUNT_LIMIT ≤ outside_count (map bare_data view.data_files))
          → outside_count (map bare_data view.data_files) < LOCAL_COUNT_LIMIT
      by (inl less) = less
      by (inr many) =
          absurd (passes.1.1.0 (
            bare_view view,
            bare,
            bare_found name view.data_files ∙ ap (option_map bare_data) none,
            many,
          ))

  view_with : Ordered old.store → IsView (with_data file view)
  view_with was =
      with_is file view (leased_valid lease old.store view was leased)
      (record { name = is_name; short = λ outside. short }) few

  -- the tables have room for it
  put_light : IsLight old.store.room
      (weight_of (map bare_view (put_in view.number file old.store).views) old.store.apps)
  put_light =
      subst (λ (bares : List BareView). IsLight old.store.room (weight_of bares old.store.apps))
      (sym (bare_put file view.number old.store.views))
      (is_light old.store.room (weight_put view.number (bare_data file) (shape_of old))
      (λ heavy. passes.1.1.1.1.0 (weight_put view.number (bare_data file) (shape_of old))
      (bare_view view, bare, refl, heavy)))

  pub put_valid : Valid old.store → Valid (put_in view.number file old.store)
  put_valid valid = record {
    ordered = changed_ordered view.number (among file) old.store view
        (leased_number lease old.store view leased) (view_with valid.ordered) valid.ordered;
    room = (let room = valid.room in
        let more = room_with view.number (among file) old.store (blocks_of (length bytes))
        (λ files. sum-with_named data_name file file_blocks files) valid.ordered in
        let counted = counted_more (shape_of old).views (shape_of old).jobs in
        omega (arith, room, more, has_room lease name bytes old passes, counted));
    light = put_light;
  }

  pub put_sound : Sound old.store → Sound (put_in view.number file old.store)
  put_sound sound =
      changed_sound view.number (among file) old.store view
      (leased_number lease old.store view leased)
      (view_with sound.valid.ordered) (put_valid sound.valid) sound

put_acts : (lease : ℕ) (name bytes : List ℕ) (old : Session) (reply : Reply) (new : Session)
    → PutEffect lease name bytes old reply new → Acts (Put lease name bytes) old reply new
put_acts lease name bytes old reply new done =
    let file : DataFile = record { name = name; bytes = bytes } in
    acts_on (Put lease name bytes) old reply new (put_in done.view.number file old.store) done.is
    (λ e. put_is_other (sym done.replied ∙ e))
    (ap (λ (r : Reply). moment_set (Some r)) done.replied)
    refl refl (rises_as old.store.apps old.store.apps (λ key. refl))
    (changed_keeps done.view.number (among file) old.store)

-- ---- there is an answer

bad_or_good : (name : List ℕ) → IsBadName name ⊎ (IsBadName name → ⊥)
bad_or_good name = by (is_below_pre name) refl (cases_lt LOCAL_NAME_LIMIT (length name))
  where
    by : (b : Bool) → is_below_pre name ≡ b
        → (LOCAL_NAME_LIMIT < length name) ⊎ (length name ≤ LOCAL_NAME_LIMIT)
        → IsBadName name ⊎ (IsBadName name → ⊥)
    by true is size = inl (inl (below_from name is))
    by false is (inl long) = inl (inr long)
    by false is (inr le) = inr neither
      where
        neither : IsBadName name → ⊥
        neither (inl below) = test_outside name is below
        neither (inr long) = absurd (omega (arith, long, le))

module _ (now : ℕ) (heard : List (List ℕ)) (lease : ℕ) (name bytes : List ℕ) (old : Session) where
  abbrev shape : Shape
  shape = shape_of old

  no_lease : lease_of lease old.store.leases ≡ None
      → IsAnswered now heard old (Put lease name bytes)
  no_lease none = record {
    reply = says.NoLease;
    new = old;
    answers = inl (inr (tt, inl ((none, refl), refl)));
    other = no_lease_is_other;
  }

  module _ (lives : lease_of lease old.store.leases ≡ None → ⊥) (view : View)
      (leased : leased_view lease old.store ≡ Some view)
      (bare : leased_bare lease (shape_of old) ≡ Some (bare_view view)) where
    bad : IsBadName name → IsAnswered now heard old (Put lease name bytes)
    bad is = record {
      reply = says.BadName;
      new = old;
      answers = inl (inr (tt, inr (lives, inl ((is, refl), refl))));
      other = bad_name_is_other;
    }

    module _ (good : IsBadName name → ⊥) where
      too_many : IsOneTooMany lease name (shape_of old)
          → IsAnswered now heard old (Put lease name bytes)
      too_many many = record {
        reply = says.TooMany Locals LOCAL_COUNT_LIMIT;
        new = old;
        answers = inl (inr (tt, inr (lives, inr (good, inl ((many, refl), refl)))));
        other = too_many_is_other;
      }

      module _ (few : IsOneTooMany lease name (shape_of old) → ⊥) where
        abbrev new_file : BareData
        new_file = record { name = name; length = length bytes }

        abbrev new_weight : ℕ
        new_weight = weight_put view.number new_file (shape_of old)

        has_weight : (IsTooHeavy old.store.room new_weight → ⊥) → (n : ℕ)
            → ((v : BareView) × (leased_bare lease (shape_of old) ≡ Some v)
            × (n ≡ weight_put v.number new_file (shape_of old)) × IsTooHeavy old.store.room n) → ⊥
        has_weight light n over =
            light (subst (IsTooHeavy old.store.room)
            (over.2 ∙ ap (λ (v : BareView). weight_put v.number new_file (shape_of old))
            (same_Some over.0 (bare_view view) (sym over.1 ∙ bare))) over.3)

        by_room : (free_blocks (shape_of old) < blocks_of (length bytes))
            ⊎ (blocks_of (length bytes) ≤ free_blocks (shape_of old))
            → IsAnswered now heard old (Put lease name bytes)
        by_room (inl less) = record {
          reply = says.Full (blocks_of (length bytes)) (free_blocks (shape_of old));
          new = old;
          answers = inl (inr (
            tt,
            inr (
              lives,
              inr (
                good,
                inr (few, inl ((blocks_of (length bytes), (refl, less), refl), refl)),
              ),
            ),
          ));
          other = full_is_other (blocks_of (length bytes)) (free_blocks (shape_of old));
        }
        by_room (inr room) = by_weight (heavy_or_light old.store.room new_weight)
          where
            fits : (need : ℕ)
                → (need ≡ blocks_of (length bytes)) × (free_blocks (shape_of old) < need) → ⊥
            fits need over =
                let same = over.0 in let less = over.1 in absurd (omega (arith, same, less, room))

            by_weight : IsTooHeavy old.store.room new_weight ⊎ (IsTooHeavy old.store.room new_weight → ⊥)
                → IsAnswered now heard old (Put lease name bytes)
            by_weight (inl heavy) = record {
              reply = says.TableFull (told_weight new_weight) (table_room old.store.room);
              new = old;
              answers = inl (inr (
                tt,
                inr (
                  lives,
                  inr (
                    good,
                    inr (
                      few,
                      inr (
                        fits,
                        inl ((new_weight, (bare_view view, bare, refl, heavy), refl), refl),
                      ),
                    ),
                  ),
                ),
              ));
              other = table_full_is_other (told_weight new_weight) (table_room old.store.room);
            }
            by_weight (inr light) = record {
              reply = says.Put;
              new = record old {
                store = put_in view.number (record { name = name; bytes = bytes }) old.store;
              };
              answers = inr (
                (tt, (lives, (good, (few, (fits, (has_weight light, tt)))))),
                record { view = view; leased = leased; replied = refl; is = refl },
              );
              other = put_is_other;
            }

      by_file : (found : Option DataFile) → data_named name view.data_files ≡ found
          → (outside_count (map bare_data view.data_files) < LOCAL_COUNT_LIMIT)
          ⊎ (LOCAL_COUNT_LIMIT ≤ outside_count (map bare_data view.data_files))
          → IsAnswered now heard old (Put lease name bytes)
      by_file None none (inr many) =
          too_many (
            bare_view view,
            bare,
            bare_found name view.data_files ∙ ap (option_map bare_data) none,
            many,
          )
      by_file None none (inl less) =
          by_room (λ over.
          let same = same_Some over.0 (bare_view view) (sym over.1 ∙ bare) in
          let count = ap (λ (v : BareView). outside_count v.data_files) same in
          let many = over.3 in
          absurd (omega (arith, less, count, many)))
          (cases_lt (free_blocks (shape_of old)) (blocks_of (length bytes)))
      by_file (Some file) is size =
          by_room (λ over.
          let same = same_Some over.0 (bare_view view) (sym over.1 ∙ bare) in
          none-some (bare_data file)
          (sym (subst (λ (v : BareView). bare_data_named name v.data_files ≡ None) same over.2)
          ∙ bare_found name view.data_files ∙ ap (option_map bare_data) is))
          (cases_lt (free_blocks (shape_of old)) (blocks_of (length bytes)))

    by_name : IsBadName name ⊎ (IsBadName name → ⊥)
        → IsAnswered now heard old (Put lease name bytes)
    by_name (inl is) = bad is
    by_name (inr good) =
        by_file good (data_named name view.data_files) refl
        (cases_lt (outside_count (map bare_data view.data_files)) LOCAL_COUNT_LIMIT)

  by_lease : (found : Option Lease) → lease_of lease old.store.leases ≡ found → Ordered old.store
      → IsAnswered now heard old (Put lease name bytes)
  by_lease None none was = no_lease none
  by_lease (Some l) is was =
      let kept = leased_bare_kept lease old.store was
      (some_there (lease_of lease old.store.leases) l is) in
      by_name (λ none. none-some l (sym none ∙ is)) kept.0 kept.1 kept.2 (bad_or_good name)

-- ---- the row

pub put_facts : (now : ℕ) (heard : List (List ℕ)) (lease : ℕ) (name bytes : List ℕ)
    → RowFacts now heard (Put lease name bytes)
put_facts now heard lease name bytes = record {
  refused = λ old reply new given.
      kept_unchanged (Put lease name bytes) (put_refusals lease name bytes (shape_of old)) old
      reply new (put_unchanged lease name bytes (shape_of old)) given;
  set_none = λ shape. put_none lease name bytes shape;
  acts = put_acts lease name bytes;
  valid = λ old reply new is few passes done valid. subst (λ (s : Session). Valid s.store)
      (sym done.is)
      (put_valid lease name bytes old is.1 passes done.view done.leased valid);
  sound = λ old reply new is few passes done sound. subst (λ (s : Session). Sound s.store)
      (sym done.is)
      (put_sound lease name bytes old is.1 passes done.view done.leased sound);
  views = λ old reply new at with_texts none valid passes done. inr (inl (
    blocks_of (length bytes),
    has_room lease name bytes old passes,
    subst (λ (s : Session). TakesMore (blocks_of (length bytes)) old.store s.store) (sym done.is)
        (put_takes done.view.number name bytes old.store valid.ordered),
  ));
  answered = λ old valid none.
      by_lease now heard lease name bytes old (lease_of lease old.store.leases) refl valid.ordered;
}
