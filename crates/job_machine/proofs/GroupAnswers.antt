-- A group has an answer beside open jobs: where no file is wanted it takes over the bytes of kept
-- views, and jobs have the same for these contents.
use Rattle.std.proofs.Common.{◌≡◌, ◌≢◌, ◌∙◌, ◌⊎◌, ◌++◌, ◌<◌, inl, inr, refl, sym, ap, subst, ℕ, Bool, true, false, List, [], ◌∷◌, length, map, All, Some, None, Result, Ok, Err, arith}
use Rattle.std.specs.Prelude.{Any}
use Rattle.std.proofs.lemmas.Bool.{false≢true}
use Rattle.std.proofs.lemmas.Option.{none-some, same_Some}
use Rattle.small_types.specs.declared.target.Target.{Target}
use Rattle.addresses.specs.declared.fault.UrlFault.{UrlFault}
use Rattle.addresses.specs.declared.fault.UrlFault.TheVariants.{BadUrl}
use Rattle.addresses.specs.Join.{file_target_of}
use Rattle.manifests.specs.declared.facts.FileEntry.{FileEntry}
use Rattle.machine.specs.declared.command.Command.TheVariants.{Group}
use Rattle.machine.specs.declared.lease.Lease.{Lease}
use Rattle.machine.specs.declared.reply.Reply.{Reply}
use Rattle.machine.specs.declared.reply.Reply.TheVariants as says
use Rattle.machine.specs.Blocks.{free_blocks, standing_files}
use Rattle.machine.specs.GroupRow.{LacksGroup, OfComing, weight_grown}
use Rattle.machine.specs.Grouped.{AreOfGroup, grouped}
use Rattle.machine.specs.Groups.{group_files, group_stands, group_wanted}
use Rattle.machine.specs.Leases.{lease_of, leased_bare, leased_view}
use Rattle.machine.specs.Rows.{PassesAll}
use Rattle.machine.specs.Shape.{BareView, Shape, bare_view, shape_of}
use Rattle.machine.specs.Sound.{program_files_of}
use Rattle.machine.specs.SoundSession.{SoundSession, program_files_in}
use Rattle.machine.specs.Store.{Session, Store}
use Rattle.machine.specs.Valid.{IsView}
use Rattle.machine.specs.Views.{ListedFile, View, content_key, standing_entries}
use Rattle.machine.specs.Wanted.{is_held}
use Rattle.machine.specs.Weight.{IsTooHeavy, table_room, told_weight}
use Rattle.machine.proofs.FileAddresses.{IsReached, bad_or_none, file_reached}
use Rattle.machine.proofs.FirstFound.{some_there}
use Rattle.machine.proofs.GroupAnswers.{taken_group}
use Rattle.machine.proofs.Leased.{leased_bare_kept, leased_valid}
use Rattle.machine.proofs.Lightness.{heavy_or_light}
use Rattle.machine.proofs.ChangedLists.{flat_map_in}
use Rattle.machine.proofs.Members.{In, all_in, in_all, in_flat_map, in_left, in_map, in_right, map_in}
use Rattle.machine.proofs.MissingFiles.{none_missing}
use Rattle.machine.proofs.OwnContents.{passes_in, same_is}
use Rattle.machine.proofs.OtherReplies.{all_links_is_other, bad_url_is_other, full_is_other, no_lease_is_other, table_full_is_other}
use Rattle.machine.proofs.Shared.{each_alike}
use Rattle.machine.proofs.Woven.{stand_among}
use Rattle.job_machine.specs.FreeBytes.{Agree}
use Rattle.job_machine.specs.GroupBeside.{ComesBeside, group_refusals_beside}
use Rattle.job_machine.specs.JobLaws.{IsAnsweredBeside}
use Rattle.job_machine.specs.Needs.{group_need}
use Rattle.job_machine.proofs.Decided.{AreDecided, Found, IsPassed, decide, less_or_not, some_or_none, when_decided, with_decided}

abbrev IsOther : Reply → Type 0
IsOther reply = reply ≢ says.Memory

group_is_other : (files : ℕ) → IsOther (says.Group files)
group_is_other files e = cc

no_group_is_other : IsOther says.NoGroup
no_group_is_other e = cc

-- ---- what is found out of the leased view

module _ (lease : ℕ) (group : List ℕ) (shape : Shape) where
  one_view : (v w : BareView) → leased_bare lease shape ≡ Some v
      → leased_bare lease shape ≡ Some w → v ≡ w
  one_view v w a b = same_Some v w (sym a ∙ b)

  coming_when : (P : BareView → Type 0) → ((v : BareView) → P v ⊎ ¬ P v)
      → OfComing lease group shape P ⊎ ¬ OfComing lease group shape P
  coming_when P each = by (some_or_none (leased_bare lease shape))
    where
      at : (v : BareView) → leased_bare lease shape ≡ Some v → (b : Bool)
          → group_stands group v.groups ≡ b → P v ⊎ ¬ P v
          → OfComing lease group shape P ⊎ ¬ OfComing lease group shape P
      at v is true stands p =
          inr (λ x. absurd (false≢true (sym x.2
          ∙ ap (λ (w : BareView). group_stands group w.groups) (one_view x.0 v x.1 is) ∙ stands)))
      at v is false absent (inl p) = inl (v, is, absent, p)
      at v is false absent (inr not) = inr (λ x. not (subst P (one_view x.0 v x.1 is) x.3))

      by : ((v : BareView) × (leased_bare lease shape ≡ Some v))
          ⊎ (leased_bare lease shape ≡ None)
          → OfComing lease group shape P ⊎ ¬ OfComing lease group shape P
      by (inl some) = at some.0 some.1 (group_stands group some.0.groups) refl (each some.0)
      by (inr none) = inr (λ x. none-some x.0 (sym none ∙ x.1))

  coming_with : (P : ℕ → BareView → Type 0)
      → ((v : BareView) → ((n : ℕ) × P n v) ⊎ ¬ ((n : ℕ) × P n v))
      → ((n : ℕ) × OfComing lease group shape (P n))
      ⊎ ((n : ℕ) → OfComing lease group shape (P n) → ⊥)
  coming_with P each = by (coming_when (λ v. (n : ℕ) × P n v) each)
    where
      by : OfComing lease group shape (λ v. (n : ℕ) × P n v)
          ⊎ ¬ OfComing lease group shape (λ v. (n : ℕ) × P n v)
          → ((n : ℕ) × OfComing lease group shape (P n))
          ⊎ ((n : ℕ) → OfComing lease group shape (P n) → ⊥)
      by (inl x) = inl (x.3.0, (x.0, x.1, x.2, x.3.1))
      by (inr not) = inr (λ n x. not (x.0, x.1, x.2, (n, x.3)))

  has_lease : (lease_of lease shape.leases ≡ None) ⊎ ¬ (lease_of lease shape.leases ≡ None)
  has_lease = by (some_or_none (lease_of lease shape.leases))
    where
      by : ((l : Lease) × (lease_of lease shape.leases ≡ Some l))
          ⊎ (lease_of lease shape.leases ≡ None)
          → (lease_of lease shape.leases ≡ None) ⊎ ¬ (lease_of lease shape.leases ≡ None)
      by (inl some) = inr (λ none. none-some some.0 (sym none ∙ some.1))
      by (inr none) = inl none

  has_group : LacksGroup lease group shape ⊎ ¬ LacksGroup lease group shape
  has_group = by (some_or_none (leased_bare lease shape))
    where
      some_files : (e : FileEntry) (es : List FileEntry) → [] ≡ e ∷ es → ⊥
      some_files e es is = cc

      at : (v : BareView) → leased_bare lease shape ≡ Some v → (es : List FileEntry)
          → group_files group v.application ≡ es
          → LacksGroup lease group shape ⊎ ¬ LacksGroup lease group shape
      at v is [] none = inl (v, is, none)
      at v is (e ∷ es) some =
          inr (λ x. some_files e es (sym x.2
          ∙ ap (λ (w : BareView). group_files group w.application) (one_view x.0 v x.1 is) ∙ some))

      by : ((v : BareView) × (leased_bare lease shape ≡ Some v))
          ⊎ (leased_bare lease shape ≡ None)
          → LacksGroup lease group shape ⊎ ¬ LacksGroup lease group shape
      by (inl some) = at some.0 some.1 (group_files group some.0.application) refl
      by (inr none) = inr (λ x. none-some x.0 (sym none ∙ x.1))

  need_or_room : (v : BareView)
      → ((n : ℕ) × ((n ≡ group_need shape group v.application) × (free_blocks shape < n)))
      ⊎ ¬ ((n : ℕ) × ((n ≡ group_need shape group v.application) × (free_blocks shape < n)))
  need_or_room v = by (less_or_not (free_blocks shape) (group_need shape group v.application))
    where
      by : (free_blocks shape < group_need shape group v.application)
          ⊎ ¬ (free_blocks shape < group_need shape group v.application)
          → ((n : ℕ) × ((n ≡ group_need shape group v.application) × (free_blocks shape < n)))
          ⊎ ¬ ((n : ℕ) × ((n ≡ group_need shape group v.application) × (free_blocks shape < n)))
      by (inl less) = inl (group_need shape group v.application, (refl, less))
      by (inr not) = inr (λ x. not (subst (λ (m : ℕ). free_blocks shape < m) x.1.0 x.1.1))

  heavy_or_room : (v : BareView)
      → ((n : ℕ) × ((n ≡ weight_grown v.number group shape) × IsTooHeavy shape.room n))
      ⊎ ¬ ((n : ℕ) × ((n ≡ weight_grown v.number group shape) × IsTooHeavy shape.room n))
  heavy_or_room v = by (heavy_or_light shape.room (weight_grown v.number group shape))
    where
      by : IsTooHeavy shape.room (weight_grown v.number group shape)
          ⊎ (IsTooHeavy shape.room (weight_grown v.number group shape) → ⊥)
          → ((n : ℕ) × ((n ≡ weight_grown v.number group shape) × IsTooHeavy shape.room n))
          ⊎ ¬ ((n : ℕ) × ((n ≡ weight_grown v.number group shape) × IsTooHeavy shape.room n))
      by (inl heavy) = inl (weight_grown v.number group shape, (refl, heavy))
      by (inr light) = inr (λ x. light (subst (IsTooHeavy shape.room) x.1.0 x.1.1))

  decided : AreDecided IsOther (group_refusals_beside lease group shape)
  decided = (
    when_decided IsOther _ _ no_lease_is_other has_lease,
    (
      when_decided IsOther _ _ no_group_is_other has_group,
      (
        when_decided IsOther _ _ bad_url_is_other
            (coming_when
            (λ v. Any (λ entry. file_target_of v.base v.deployment.mapped entry.name ≡ Err BadUrl)
            (group_wanted shape.views group v.application))
            (λ v. bad_or_none
            (λ (entry : FileEntry). file_target_of v.base v.deployment.mapped entry.name)
            (group_wanted shape.views group v.application))),
        (
          with_decided IsOther _ _ (λ n. full_is_other n (free_blocks shape))
              (coming_with
              (λ n v. (n ≡ group_need shape group v.application) × (free_blocks shape < n))
              need_or_room),
          (
            with_decided IsOther _ _
                (λ n. table_full_is_other (told_weight n) (table_room shape.room))
                (coming_with
                (λ n v. (n ≡ weight_grown v.number group shape) × IsTooHeavy shape.room n)
                heavy_or_room),
            (IsPassed tt, tt),
          ),
        ),
      ),
    ),
  )

-- ---- files whose contents kept views hold

module _ (old : Session) (sound : SoundSession old) where
  abbrev stored : List BareView
  stored = map bare_view old.store.views

  stored_like : (entry : FileEntry) → is_held (standing_files stored) entry ≡ true
      → (g : ListedFile) × In g (program_files_of old.store)
      × (content_key g.entry ≡ content_key entry)
  stored_like entry held =
      let found = passes_in _ (standing_files stored) held in
      let of = flat_map_in (λ (v : BareView). standing_entries v.groups v.application) stored
      found.0 found.1 in
      let view = map_in bare_view old.store.views of.0 of.1 in
      let is = all_in IsView old.store.views view.0 sound.store.valid.ordered.views view.1 in
      let own = subst (λ (es : List FileEntry). In found.0 es) (sym is.files)
      (subst (λ (v : BareView). In found.0 (standing_entries v.groups v.application)) (sym view.2)
      of.2) in
      let file = map_in (λ (f : ListedFile). f.entry) view.0.program_files found.0 own in (
        file.0,
        in_flat_map (λ (v : View). v.program_files) old.store.views view.0 file.0 view.1 file.1,
        ap content_key file.2 ∙ sym (same_is entry found.0 found.2),
      )

  -- jobs have the same bytes for them
  held_agree : (group : List ℕ) (view : View) (files : List ListedFile)
      → AreOfGroup group old.store view files
      → ((entry : FileEntry) → In entry (group_files group view.application)
      → is_held (standing_files stored) entry ≡ true)
      → All (Agree (program_files_in old.jobs)) files
  held_agree group view files are held =
      in_all (Agree (program_files_in old.jobs)) files (λ file there.
      in_all
      (λ (o : ListedFile). content_key o.entry ≡ content_key file.entry → o.bytes ≡ file.bytes)
      (program_files_in old.jobs) (λ o of. same file there o of))
    where
      same : (file : ListedFile) → In file files → (o : ListedFile)
          → In o (program_files_in old.jobs)
          → content_key o.entry ≡ content_key file.entry → o.bytes ≡ file.bytes
      same file there o of alike =
          let listed = subst (λ (es : List FileEntry). In file.entry es) are.listed
          (in_map (λ (f : ListedFile). f.entry) files file there) in
          let g = stored_like file.entry (held file.entry listed) in
          each_alike (program_files_of old.store ++ program_files_in old.jobs) sound.shared o g.0
          (in_right (program_files_of old.store) (program_files_in old.jobs) o of)
          (in_left (program_files_of old.store) (program_files_in old.jobs) g.0 g.1)
          (alike ∙ sym g.2)
          ∙ each_alike (program_files_of old.store ++ files) are.shared g.0 file
          (in_left (program_files_of old.store) files g.0 g.1)
          (in_right (program_files_of old.store) files file there) g.2

-- ---- the answer

module _ (now : ℕ) (heard : List (List ℕ)) (lease : ℕ) (group : List ℕ) (old : Session)
    (sound : SoundSession old) where
  module _ (passes : PassesAll (group_refusals_beside lease group (shape_of old))) (view : View)
      (leased : leased_view lease old.store ≡ Some view)
      (bare : leased_bare lease (shape_of old) ≡ Some (bare_view view)) where
    answered_by : (store : Store) → ComesBeside old.jobs group view old.store store
        → IsAnsweredBeside now heard old (Group lease group)
    answered_by store comes = record {
      reply = says.Group (length (group_files group view.application));
      new = record old { store = store };
      answers = inr (
        (tt, passes),
        record {
          view = view;
          leased = leased;
          replied = refl;
          store = store;
          comes = comes;
          is = refl;
        },
      );
      other = group_is_other (length (group_files group view.application));
    }

    module _ (absent : group_stands group view.groups ≡ false) where
      abbrev wanted : List FileEntry
      wanted = group_wanted (map bare_view old.store.views) group view.application

      abbrev target : FileEntry → Result Target UrlFault
      target entry = file_target_of view.base view.deployment.mapped entry.name

      comes : wanted ≡ [] → IsAnsweredBeside now heard old (Group lease group)
      comes none =
          let held = none_missing (group_files group view.application)
          (standing_files (map bare_view old.store.views)) none in
          let files = taken_group old.store sound.store group view held in
          let was = leased_valid lease old.store view sound.store.valid.ordered leased in
          let among = stand_among group view files.0 absent was.files files.1.listed in
          answered_by (grouped view.number group among.0 old.store)
          (inr (
            absent,
            record {
              files = files.0;
              fetched = files.1;
              program_files = among.0;
              among = among.1;
              is = refl;
            },
            held_agree old sound group view files.0 files.1 held,
          ))

      links : (entry : FileEntry) (rest : List FileEntry) → wanted ≡ entry ∷ rest → (t : Target)
          → target entry ≡ Ok t → IsAnsweredBeside now heard old (Group lease group)
      links entry rest is t gives = record {
        reply = says.AllLinks t [];
        new = old;
        answers = inl (inr (
          tt,
          inr (
            passes.0,
            inr (
              passes.1.0,
              inr (
                passes.1.1.0,
                inr (
                  passes.1.1.1.0,
                  inr (
                    passes.1.1.1.1.0,
                    inl (
                      (
                        t,
                        [],
                        (
                          bare_view view,
                          bare,
                          absent,
                          subst (λ (es : List FileEntry). Any (λ e. target e ≡ Ok t) es) (sym is)
                              (0, entry, omega arith, refl, gives),
                        ),
                        refl,
                      ),
                      refl,
                    ),
                  ),
                ),
              ),
            ),
          ),
        ));
        other = all_links_is_other t [];
      }

      reached : (entry : FileEntry) (rest : List FileEntry) → wanted ≡ entry ∷ rest
          → IsReached (target entry) → IsAnsweredBeside now heard old (Group lease group)
      reached entry rest is (inl gives) = links entry rest is gives.0 gives.1
      reached entry rest is (inr bad) =
          absurd (passes.1.1.0 (
            bare_view view,
            bare,
            absent,
            subst (λ (es : List FileEntry). Any (λ e. target e ≡ Err BadUrl) es) (sym is)
                (0, entry, omega arith, refl, bad),
          ))

      by_wanted : (es : List FileEntry) → wanted ≡ es
          → IsAnsweredBeside now heard old (Group lease group)
      by_wanted [] is = comes is
      by_wanted (entry ∷ rest) is =
          reached entry rest is (file_reached view.base view.deployment.mapped entry.name)

    by_stands : (b : Bool) → group_stands group view.groups ≡ b
        → IsAnsweredBeside now heard old (Group lease group)
    by_stands true is = answered_by old.store (inl (is, refl))
    by_stands false is =
        by_wanted is (group_wanted (map bare_view old.store.views) group view.application) refl

  passed : PassesAll (group_refusals_beside lease group (shape_of old))
      → IsAnsweredBeside now heard old (Group lease group)
  passed passes = by (some_or_none (lease_of lease old.store.leases))
    where
      by : ((l : Lease) × (lease_of lease old.store.leases ≡ Some l))
          ⊎ (lease_of lease old.store.leases ≡ None)
          → IsAnsweredBeside now heard old (Group lease group)
      by (inl some) =
          let kept = leased_bare_kept lease old.store sound.store.valid.ordered
          (some_there (lease_of lease old.store.leases) some.0 some.1) in
          by_stands passes kept.0 kept.1 kept.2 (group_stands group kept.0.groups) refl
      by (inr none) = absurd (passes.0 none)

  pub group_answered : IsAnsweredBeside now heard old (Group lease group)
  group_answered =
      by (decide IsOther (group_refusals_beside lease group (shape_of old)) old
      (decided lease group (shape_of old)))
    where
      by : Found IsOther (group_refusals_beside lease group (shape_of old)) old
          → IsAnsweredBeside now heard old (Group lease group)
      by (inl given) = record {
        reply = given.0;
        new = given.1;
        answers = inl (inr (tt, given.2));
        other = given.3;
      }
      by (inr passes) = passed passes
