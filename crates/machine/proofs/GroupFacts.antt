-- The row of `group`.
use Rattle.std.proofs.Common.{◌≡◌, ◌≢◌, ◌∙◌, ◌⊎◌, ◌<◌, ◌≤◌, inl, inr, refl, sym, ap, subst, ℕ, Bool, true, false, List, [], ◌∷◌, length, map, Option, Some, None, Result, Ok, Err, arith}
use Rattle.std.specs.Prelude.{Any, option_map}
use Rattle.std.proofs.lemmas.Bool.{cases_lt, false≢true}
use Rattle.std.proofs.lemmas.Option.{none-some, same_Some}
use Rattle.small_types.specs.declared.target.Target.{Target}
use Rattle.addresses.specs.declared.fault.UrlFault.{UrlFault}
use Rattle.addresses.specs.declared.fault.UrlFault.TheVariants.{BadUrl}
use Rattle.addresses.specs.Join.{file_target_of}
use Rattle.manifests.specs.declared.facts.FileEntry.{FileEntry}
use Rattle.machine.specs.declared.command.Command.TheVariants.{Group}
use Rattle.machine.specs.declared.lease.Lease.{Lease}
use Rattle.machine.specs.declared.reply.Reply.{Reply}
use Rattle.machine.specs.declared.reply.Reply.TheVariants as says
use Rattle.machine.specs.Blocks.{free_blocks, standing_files}
use Rattle.machine.specs.GroupRow.{Comes, GroupEffect, LacksGroup, OfComing, OfMissing, group_refusals, room_refusals, weight_grown}
use Rattle.machine.specs.Grouped.{grouped}
use Rattle.machine.specs.Groups.{group_files, group_need, group_stands, group_wanted}
use Rattle.machine.specs.Laws.{IsAnswered}
use Rattle.machine.specs.Leases.{lease_of, leased_bare, leased_view}
use Rattle.machine.specs.Machine.{moment_set}
use Rattle.machine.specs.Minimums.{minimum_of}
use Rattle.machine.specs.Rows.{AreExact, ChangeNothing, PassesAll}
use Rattle.machine.specs.Shape.{BareView, Shape, bare_view, shape_of}
use Rattle.machine.specs.Sound.{Sound}
use Rattle.machine.specs.Store.{Session, Store}
use Rattle.machine.specs.Valid.{Valid}
use Rattle.machine.specs.Views.{ListedFile, View}
use Rattle.machine.specs.Weight.{IsLight, IsTooHeavy, table_room, told_weight, weight_of}
use Rattle.machine.specs.Words.{IsGroup}
use Rattle.machine.proofs.FirstRefusal.{AllGive, exactly-exact, exactly_with-exact}
use Rattle.machine.proofs.CountedBlocks.{counted_more}
use Rattle.machine.proofs.FileAddresses.{IsReached, bad_or_none, file_reached}
use Rattle.machine.proofs.FirstFound.{some_there}
use Rattle.machine.proofs.GroupAnswers.{taken_group}
use Rattle.machine.proofs.GroupKept.{grouped_keeps}
use Rattle.machine.proofs.GroupStands.{leased_number}
use Rattle.machine.proofs.GrownViews.{grouped_ordered, grouped_sound, room_after}
use Rattle.machine.proofs.Leased.{leased_bare_kept, leased_shape, leased_valid}
use Rattle.machine.proofs.LeasesKept.{KeepsLeases}
use Rattle.machine.proofs.Lightness.{heavy_or_light, is_light}
use Rattle.machine.proofs.MissingFiles.{none_missing}
use Rattle.machine.proofs.Moments.{SetsNone}
use Rattle.machine.proofs.OtherReplies.{all_links_is_other, bad_url_is_other, full_is_other, no_lease_is_other, table_full_is_other}
use Rattle.machine.proofs.RowFacts.{Acts, RowFacts, acts_not, acts_on, kept_unchanged, rises_as}
use Rattle.machine.proofs.ViewWeights.{bare_grown}
use Rattle.machine.proofs.Woven.{stand_among}

-- ---- replies

group_is_other : (files : ℕ) → says.Group files ≢ says.Memory
group_is_other files e = cc

no_group_is_other : says.NoGroup ≢ says.Memory
no_group_is_other e = cc

-- ---- its refusals

module _ (lease : ℕ) (group : List ℕ) (shape : Shape) where
  -- but for a file that no link gives they are exact
  pub room_exact : AreExact (room_refusals lease group shape)
  room_exact = (
    exactly-exact _ _,
    (
      exactly-exact _ _,
      (
        exactly-exact _ _,
        (
          exactly_with-exact _ _ (λ x y a b.
              ap (λ (n : ℕ). says.Full n (free_blocks shape))
              (a.3.0 ∙ ap (λ (v : BareView). group_need shape.views group v.application)
              (same_Some a.0 b.0 (sym a.1 ∙ b.1)) ∙ sym b.3.0)),
          (
            exactly_with-exact _ _ (λ x y a b.
                ap (λ (n : ℕ). says.TableFull (told_weight n) (table_room shape.room))
                (a.3.0 ∙ ap (λ (v : BareView). weight_grown v.number group shape)
                (same_Some a.0 b.0 (sym a.1 ∙ b.1)) ∙ sym b.3.0)),
            tt,
          ),
        ),
      ),
    ),
  )

  pub group_unchanged : ChangeNothing (group_refusals lease group shape)
  group_unchanged =
      ((λ s. refl), ((λ s. refl), ((λ s. refl), ((λ s. refl), ((λ s. refl), ((λ s. refl), tt))))))

  abbrev set : Reply → Option ℕ
  set reply = moment_set (Some reply)

  group_none : AllGive SetsNone (group_refusals lease group shape)
  group_none = (
    (λ r given. ap set given.1),
    (
      (λ r given. ap set given.1),
      (
        (λ r given. ap set given.1),
        (
          (λ r given. ap set given.2),
          ((λ r given. ap set given.2), ((λ r given. ap set given.3), tt)),
        ),
      ),
    ),
  )

-- ---- its effect

module _ (lease : ℕ) (group : List ℕ) where
  group_acts : (old : Session) (reply : Reply) (new : Session)
      → GroupEffect lease group old reply new → Acts (Group lease group) old reply new
  group_acts old reply new done = by done.comes
    where
      by : Comes group done.view old.store done.store → Acts (Group lease group) old reply new
      by (inl same) =
          acts_not (Group lease group) old reply new
          (done.is ∙ ap (λ (s : Store). record old { store = s }) same.1)
          (λ e. group_is_other (length (group_files group done.view.application))
          (sym done.replied ∙ e))
          (ap (λ (r : Reply). moment_set (Some r)) done.replied)
      by (inr comes) =
          let grown = comes.1 in
          acts_on (Group lease group) old reply new done.store done.is
          (λ e. group_is_other (length (group_files group done.view.application))
          (sym done.replied ∙ e))
          (ap (λ (r : Reply). moment_set (Some r)) done.replied)
          (ap (λ (s : Store). s.room) grown.is) (ap (λ (s : Store). s.boot) grown.is)
          (rises_as old.store.apps done.store.apps
          (λ key. ap (λ (s : Store). minimum_of key s.apps) grown.is))
          (subst (λ (s : Store). KeepsLeases old.store s) (sym grown.is)
          (grouped_keeps done.view.number group grown.program_files old.store done.view grown.files
          (leased_number lease old.store done.view done.leased) grown.among))

  module _ (old : Session) (reply : Reply) (new : Session) (is : IsGroup group)
      (passes : PassesAll (group_refusals lease group (shape_of old)))
      (done : GroupEffect lease group old reply new) where
    abbrev view : View
    view = done.view

    abbrev bares : List BareView
    bares = map bare_view old.store.views

    leased_too : leased_bare lease (shape_of old) ≡ Some (bare_view view)
    leased_too = leased_shape lease old.store ∙ ap (option_map bare_view) done.leased

    -- there is room, where it comes
    has_room : group_stands group view.groups ≡ false
        → group_need bares group view.application ≤ free_blocks (shape_of old)
    has_room absent =
        by (cases_lt (free_blocks (shape_of old)) (group_need bares group view.application))
      where
        by : (free_blocks (shape_of old) < group_need bares group view.application)
            ⊎ (group_need bares group view.application ≤ free_blocks (shape_of old))
            → group_need bares group view.application ≤ free_blocks (shape_of old)
        by (inl less) =
            absurd (passes.1.1.1.0 (group_need bares group view.application)
            (bare_view view, leased_too, absent, (refl, less)))
        by (inr le) = le

    -- so have the tables
    has_weight : group_stands group view.groups ≡ false → (program_files : List ListedFile)
        → IsLight old.store.room
        (weight_of (map bare_view (grouped view.number group program_files old.store).views)
        old.store.apps)
    has_weight absent program_files =
        subst (λ (vs : List BareView). IsLight old.store.room (weight_of vs old.store.apps))
        (sym (bare_grown view.number group program_files old.store.views))
        (is_light old.store.room (weight_grown view.number group (shape_of old))
        (λ heavy. passes.1.1.1.1.0 (weight_grown view.number group (shape_of old))
        (bare_view view, leased_too, absent, (refl, heavy))))

    comes_valid : Valid old.store → Comes group view old.store done.store → Valid done.store
    comes_valid valid (inl same) = subst Valid (sym same.1) valid
    comes_valid valid (inr comes) =
        let grown = comes.1 in
        let found = leased_number lease old.store view done.leased in
        let used = room_after view.number group grown.program_files old.store view found
        grown.among.order valid.ordered in
        subst Valid (sym grown.is) (record {
          ordered = grouped_ordered view.number group grown.program_files old.store view found
              grown.among.order is.short valid.ordered;
          room = (let counted = counted_more (shape_of old).views (shape_of old).jobs in
              omega (arith, used, has_room comes.0, valid.room, counted));
          light = has_weight comes.0 grown.program_files;
        })

    left_valid : Valid old.store → Valid new.store
    left_valid valid =
        subst (λ (s : Session). Valid s.store) (sym done.is) (comes_valid valid done.comes)

    comes_sound : Sound old.store → Comes group view old.store done.store → Sound done.store
    comes_sound sound (inl same) = subst Sound (sym same.1) sound
    comes_sound sound (inr comes) =
        let grown = comes.1 in
        let found = leased_number lease old.store view done.leased in
        subst Sound (sym grown.is)
        (grouped_sound view.number group grown.program_files old.store view found grown.files
        grown.fetched grown.among
        (subst Valid grown.is (comes_valid sound.valid (inr comes))) sound)

    left_sound : Sound old.store → Sound new.store
    left_sound sound =
        subst (λ (s : Session). Sound s.store) (sym done.is) (comes_sound sound done.comes)

-- ---- there is an answer

module _ (now : ℕ) (heard : List (List ℕ)) (lease : ℕ) (group : List ℕ) (old : Session)
    (sound : Sound old.store) where
  abbrev shape : Shape
  shape = shape_of old

  no_lease : lease_of lease old.store.leases ≡ None → IsAnswered now heard old (Group lease group)
  no_lease none = record {
    reply = says.NoLease;
    new = old;
    answers = inl (inr (tt, inl ((none, refl), refl)));
    other = no_lease_is_other;
  }

  module _ (lives : lease_of lease old.store.leases ≡ None → ⊥) (view : View)
      (leased : leased_view lease old.store ≡ Some view)
      (bare : leased_bare lease shape ≡ Some (bare_view view)) where
    one_view : (v : BareView) → leased_bare lease shape ≡ Some v → v ≡ bare_view view
    one_view v is = same_Some v (bare_view view) (sym is ∙ bare)

    no_group : group_files group view.application ≡ [] → IsAnswered now heard old (Group lease group)
    no_group none = record {
      reply = says.NoGroup;
      new = old;
      answers = inl (inr (tt, inr (lives, inl (((bare_view view, bare, none), refl), refl))));
      other = no_group_is_other;
    }

    module _ (has : LacksGroup lease group shape → ⊥) where
      answered_by : (store : Store) → Comes group view old.store store
          → PassesAll (group_refusals lease group shape)
          → IsAnswered now heard old (Group lease group)
      answered_by store comes passes = record {
        reply = says.Group (length (group_files group view.application));
        new = record old { store = store };
        answers = inr (
          (tt, passes),
          record {
            view = view;
            leased = leased;
            replied = refl;
            store = store;
            comes = comes;
            is = refl;
          },
        );
        other = group_is_other (length (group_files group view.application));
      }

      -- what stands does not come
      no_coming : group_stands group view.groups ≡ true → (holds : BareView → Type 0)
          → OfComing lease group shape holds → ⊥
      no_coming stands holds coming =
          absurd (false≢true (sym coming.2
          ∙ ap (λ (v : BareView). group_stands group v.groups) (one_view coming.0 coming.1)
          ∙ stands))

      standing : group_stands group view.groups ≡ true → IsAnswered now heard old (Group lease group)
      standing stands =
          answered_by old.store (inl (stands, refl)) (
            lives,
            (
              has,
              (
                no_coming stands _,
                ((λ need. no_coming stands _), ((λ weight. no_coming stands _), (tt, tt))),
              ),
            ),
          )

      module _ (absent : group_stands group view.groups ≡ false) where
        abbrev stored : List BareView
        stored = map bare_view old.store.views

        abbrev wanted : List FileEntry
        wanted = group_wanted stored group view.application

        abbrev target : FileEntry → Result Target UrlFault
        target entry = file_target_of view.base view.deployment.mapped entry.name

        -- what holds of the coming view
        of_view : {P : BareView → Type 0} → OfComing lease group shape P → P (bare_view view)
        of_view {P} coming = subst P (one_view coming.0 coming.1) coming.3

        bad_url : Any (λ entry. target entry ≡ Err BadUrl) wanted
            → IsAnswered now heard old (Group lease group)
        bad_url found = record {
          reply = says.BadUrl;
          new = old;
          answers = inl (inr (
            tt,
            inr (lives, inr (has, inl (((bare_view view, bare, absent, found), refl), refl))),
          ));
          other = bad_url_is_other;
        }

        module _ (reached : OfMissing lease group shape (λ t. t ≡ Err BadUrl) → ⊥) where
          full : free_blocks shape < group_need stored group view.application
              → IsAnswered now heard old (Group lease group)
          full less =
              let need = group_need stored group view.application in
              record {
                reply = says.Full need (free_blocks shape);
                new = old;
                answers = inl (inr (
                  tt,
                  inr (
                    lives,
                    inr (
                      has,
                      inr (
                        reached,
                        inl ((need, (bare_view view, bare, absent, (refl, less)), refl), refl),
                      ),
                    ),
                  ),
                ));
                other = full_is_other need (free_blocks shape);
              }

          module _ (room : group_need stored group view.application ≤ free_blocks shape) where
            fits : (need : ℕ) → OfComing lease group shape (λ v.
                (need ≡ group_need shape.views group v.application) × (free_blocks shape < need))
                → ⊥
            fits need coming =
                let own = of_view coming in
                let same = own.0 in
                let less = own.1 in
                omega (arith, room, same, less)

            abbrev new_weight : ℕ
            new_weight = weight_grown view.number group shape

            too_heavy : IsTooHeavy shape.room new_weight
                → IsAnswered now heard old (Group lease group)
            too_heavy heavy = record {
              reply = says.TableFull (told_weight new_weight) (table_room shape.room);
              new = old;
              answers = inl (inr (
                tt,
                inr (
                  lives,
                  inr (
                    has,
                    inr (
                      reached,
                      inr (
                        fits,
                        inl (
                          (new_weight, (bare_view view, bare, absent, (refl, heavy)), refl),
                          refl,
                        ),
                      ),
                    ),
                  ),
                ),
              ));
              other = table_full_is_other (told_weight new_weight) (table_room shape.room);
            }

            weighs : (IsTooHeavy shape.room new_weight → ⊥) → (n : ℕ)
                → OfComing lease group shape (λ v.
                (n ≡ weight_grown v.number group shape) × IsTooHeavy shape.room n) → ⊥
            weighs light n coming =
                let own = of_view coming in
                light (subst (IsTooHeavy shape.room) own.0 own.1)

            links : (IsTooHeavy shape.room new_weight → ⊥)
                → (entry : FileEntry) (rest : List FileEntry) → wanted ≡ entry ∷ rest
                → (t : Target) → target entry ≡ Ok t → IsAnswered now heard old (Group lease group)
            links light entry rest is t gives = record {
              reply = says.AllLinks t [];
              new = old;
              answers = inl (inr (
                tt,
                inr (
                  lives,
                  inr (
                    has,
                    inr (
                      reached,
                      inr (
                        fits,
                        inr (
                          weighs light,
                          inl (
                            (
                              t,
                              [],
                              (
                                bare_view view,
                                bare,
                                absent,
                                subst (λ (es : List FileEntry). Any (λ e. target e ≡ Ok t) es) (sym is)
                                    (0, entry, omega arith, refl, gives),
                              ),
                              refl,
                            ),
                            refl,
                          ),
                        ),
                      ),
                    ),
                  ),
                ),
              ));
              other = all_links_is_other t [];
            }

            comes : (IsTooHeavy shape.room new_weight → ⊥) → wanted ≡ []
                → IsAnswered now heard old (Group lease group)
            comes light none =
                let held = none_missing (group_files group view.application) (standing_files stored)
                none in
                let files = taken_group old.store sound group view held in
                let was = leased_valid lease old.store view sound.valid.ordered leased in
                let among = stand_among group view files.0 absent was.files files.1.listed in
                answered_by (grouped view.number group among.0 old.store)
                (inr (
                  absent,
                  record {
                    files = files.0;
                    fetched = files.1;
                    program_files = among.0;
                    among = among.1;
                    is = refl;
                  },
                ))
                (lives, (has, (reached, (fits, (weighs light, (tt, tt))))))

            by_reached : (IsTooHeavy shape.room new_weight → ⊥)
                → (entry : FileEntry) (rest : List FileEntry) → wanted ≡ entry ∷ rest
                → IsReached (target entry) → IsAnswered now heard old (Group lease group)
            by_reached light entry rest is (inl gives) = links light entry rest is gives.0 gives.1
            by_reached light entry rest is (inr bad) =
                absurd (reached (
                  bare_view view,
                  bare,
                  absent,
                  subst (λ (es : List FileEntry). Any (λ e. target e ≡ Err BadUrl) es) (sym is)
                      (0, entry, omega arith, refl, bad),
                ))

            by_wanted : (IsTooHeavy shape.room new_weight → ⊥) → (es : List FileEntry)
                → wanted ≡ es → IsAnswered now heard old (Group lease group)
            by_wanted light [] is = comes light is
            by_wanted light (entry ∷ rest) is =
                by_reached light entry rest is
                (file_reached view.base view.deployment.mapped entry.name)

            by_weight : IsTooHeavy shape.room new_weight ⊎ (IsTooHeavy shape.room new_weight → ⊥)
                → IsAnswered now heard old (Group lease group)
            by_weight (inl heavy) = too_heavy heavy
            by_weight (inr light) = by_wanted light wanted refl

          by_room : (free_blocks shape < group_need stored group view.application)
              ⊎ (group_need stored group view.application ≤ free_blocks shape)
              → IsAnswered now heard old (Group lease group)
          by_room (inl less) = full less
          by_room (inr room) =
              by_weight room
              (heavy_or_light shape.room (weight_grown view.number group shape))

        by_bad : Any (λ entry. target entry ≡ Err BadUrl) wanted
            ⊎ (Any (λ entry. target entry ≡ Err BadUrl) wanted → ⊥)
            → IsAnswered now heard old (Group lease group)
        by_bad (inl found) = bad_url found
        by_bad (inr none) =
            by_room (λ coming. none (of_view coming))
            (cases_lt (free_blocks shape) (group_need stored group view.application))

      by_stands : (b : Bool) → group_stands group view.groups ≡ b
          → IsAnswered now heard old (Group lease group)
      by_stands true is = standing is
      by_stands false is =
          by_bad is (bad_or_none
          (λ (entry : FileEntry). file_target_of view.base view.deployment.mapped entry.name)
          (group_wanted (map bare_view old.store.views) group view.application))

    by_files : (es : List FileEntry) → group_files group view.application ≡ es
        → IsAnswered now heard old (Group lease group)
    by_files [] is = no_group is
    by_files (entry ∷ rest) is = by_stands lacks (group_stands group view.groups) refl
      where
        some : {P : Type 0} → ◌≡◌ {A = List FileEntry} [] (entry ∷ rest) → P
        some e = absurd cc

        lacks : LacksGroup lease group shape → ⊥
        lacks lacking =
            some (sym lacking.2
            ∙ ap (λ (v : BareView). group_files group v.application) (one_view lacking.0 lacking.1)
            ∙ is)

  by_lease : (found : Option Lease) → lease_of lease old.store.leases ≡ found
      → IsAnswered now heard old (Group lease group)
  by_lease None none = no_lease none
  by_lease (Some l) is =
      let kept = leased_bare_kept lease old.store sound.valid.ordered
      (some_there (lease_of lease old.store.leases) l is) in
      by_files (λ none. none-some l (sym none ∙ is)) kept.0 kept.1 kept.2
      (group_files group kept.0.application) refl

-- ---- the row

pub group_facts : (now : ℕ) (heard : List (List ℕ)) (lease : ℕ) (group : List ℕ)
    → RowFacts now heard (Group lease group)
group_facts now heard lease group = record {
  refused = λ old reply new given.
      kept_unchanged (Group lease group) (group_refusals lease group (shape_of old)) old reply
      new (group_unchanged lease group (shape_of old)) given;
  set_none = λ shape. group_none lease group shape;
  acts = group_acts lease group;
  valid = λ old reply new is few passes done valid.
      left_valid lease group old reply new is.1 passes done valid;
  sound = λ old reply new is few passes done sound.
      left_sound lease group old reply new is.1 passes done sound;
  views = λ old reply new at with_texts none valid passes done. inr (inr none);
  answered = λ old valid sound.
      by_lease now heard lease group old sound (lease_of lease old.store.leases) refl;
}
