-- Ends of a group that change nothing.
use Rattle.std.proofs.Common.{◌≡◌, ◌≢◌, ◌∙◌, ◌-◌, ◌^◌, ◌<◌, ◌≤◌, inl, inr, refl, sym, ap, subst, ℕ, true, false, List, [], length, map, Some, None, Err, arith}
use Rattle.std.specs.Prelude.{Any, min, sum_by}
use Rattle.std.proofs.lemmas.Bool.{false≢true}
use Rattle.std.proofs.lemmas.List.{append-nil}
use Rattle.std.proofs.lemmas.Option.{same_Some}
use Rattle.small_types.specs.declared.room.Room.{Room}
use Rattle.addresses.specs.declared.fault.UrlFault.TheVariants.{BadUrl}
use Rattle.manifests.specs.declared.facts.FileEntry.{FileEntry}
use Rattle.manifests.specs.Facts.{IsFile}
use Rattle.machine.specs.declared.command.Command.TheVariants as command
use Rattle.machine.specs.declared.reply.Reply.{Reply}
use Rattle.machine.specs.declared.reply.Reply.TheVariants as says
use Rattle.machine.specs.Blocks.{blocks_of, free_blocks, standing_files}
use Rattle.machine.specs.Fields.{IsApplication}
use Rattle.machine.specs.GroupRow.{GroupEffect, LacksGroup, OfComing, OfMissing, group_refusals}
use Rattle.machine.specs.Groups.{group_files, group_need, group_stands, group_wanted, is_in}
use Rattle.machine.specs.Leases.{lease_of, leased_bare}
use Rattle.machine.specs.Machine.{Answers, moment_after}
use Rattle.machine.specs.Rows.{PassesAll, Refuses}
use Rattle.machine.specs.Shape.{BareView, Shape}
use Rattle.machine.specs.Sound.{Sound}
use Rattle.machine.specs.Store.{Session}
use Rattle.machine.specs.Weight.{IsTooHeavy, table_room, told_weight}
use Rattle.machine.proofs.Members.{all_in, filter_in}
use Rattle.machine.proofs.MissingFiles.{are_missing, missing_in}
use Rattle.machine.proofs.Ungrouped.{need_ungrouped}
use Rattle.store_state.specs.declared.view.View.{View}
use Rattle.store_state.specs.Rows.{leased_row}
use Rattle.store_state.specs.Shows.{Shows, shown_view}
use Rattle.store_state.specs.Tables.{Tables, bare_row, table_shape}
use Rattle.store_state.proofs.ShownTables.{shape_shown}
use Rattle.links.specs.Links.{LinksState}
use Rattle.fetcher.specs.Fetched.{KeptBut}
use Rattle.fetcher.proofs.Liars.{but_all}
use Rattle.install_plan.specs.Downs.{CountsDowns}
use Rattle.install_plan.specs.GroupAsked.{AccountsGroup, GroupServed, IsListedOfGroup}
use Rattle.install_plan.specs.GroupReady.{AreUnasked, IsGroupOver, IsNoFiles, address_in, lacking, need_of, space_checks, ungrouped, weight_in}
use Rattle.install_plan.specs.Judges.{Refused, room_checks}
use Rattle.install_plan.proofs.Downs.{counts_none}
use Rattle.install_plan.proofs.Exits.{some_session}
use Rattle.install_plan.proofs.NeededBlocks.{few_blocks}
use Rattle.install_plan.proofs.LeasedRows.{IsLeased, lease_lives, no_lease, still_brought, view_shown, view_valid}
use Rattle.install_plan.proofs.UngroupedFiles.{bad_wanted, few_of_group}
use Rattle.install_plan.proofs.Wants.{sum_most}

-- ---- answers

module _ (room : Room) (tables : Tables) (lease : ℕ) (group : List ℕ) where
  abbrev pub shape : Shape
  shape = table_shape room tables

  pub by_refusal : (now : ℕ) (image : List ℕ) (old : Session) (reply : Reply)
      → old.jobs ≡ [] → Shows room tables image old.store
      → Refuses (group_refusals lease group (table_shape room tables)) old reply old
      → Answers now [] old (command.Group lease group) reply old
  by_refusal now image old reply idle shows refuses =
      inl (inr (
        tt,
        subst (λ (s : Shape). Refuses (group_refusals lease group s) old reply old)
            (sym (shape_shown old idle shows)) refuses,
      ))

  pub by_effect : (now : ℕ) (image : List ℕ) (old : Session) (reply : Reply) (new : Session)
      → old.jobs ≡ [] → Shows room tables image old.store
      → PassesAll (group_refusals lease group (table_shape room tables))
      → GroupEffect lease group old reply new
      → Answers now [] old (command.Group lease group) reply new
  by_effect now image old reply new idle shows passes done =
      inr (
        (
          tt,
          subst (λ (s : Shape). PassesAll (group_refusals lease group s))
              (sym (shape_shown old idle shows)) passes,
        ),
        done,
      )

  -- ---- a reply alone

  -- what it says of each session over a sound store that the tables show
  pub record IsDue (a c : LinksState) (reply : Reply) (now : ℕ) (old : Session) : Type 0 where
    pub answers : Answers now [] old (command.Group lease group) reply old
    pub served : GroupServed lease group (table_shape room tables) a c reply

  pub over_by : (a c : LinksState) (reply : Reply)
      → KeptBut (IsListedOfGroup lease group (table_shape room tables)) a c
      → ((now : ℕ) → moment_after now (Some reply) ≡ now)
      → CountsDowns a c reply
      → ((now : ℕ) (image : List ℕ) (old : Session) → old.jobs ≡ []
      → Shows room tables image old.store → Sound old.store → IsDue a c reply now old)
      → IsGroupOver room tables lease group a c reply
  over_by a c reply kept still downs due = record {
    kept = kept;
    still = still;
    downs = downs;
    step = λ image now old idle shows sound. (
        let is = due now image old idle shows sound in
        record {
          new = old;
          step = is.answers;
          served = subst (λ (s : Shape). GroupServed lease group s a c reply)
              (sym (shape_shown old idle shows)) is.served;
          brought = still_brought lease group old a c sound.valid.ordered;
          leaves = refl;
        }
        );
  }

  -- ---- nothing was asked

  none_gone : (a c : LinksState) → AreUnasked a c
      → KeptBut (IsListedOfGroup lease group (table_shape room tables)) a c
  none_gone a c none = but_all (IsListedOfGroup lease group (table_shape room tables)) a c none.kept

  served_none : (a c : LinksState) (reply : Reply) → AreUnasked a c
      → AccountsGroup lease group (table_shape room tables) a c [] reply
      → GroupServed lease group (table_shape room tables) a c reply
  served_none a c reply none accounts = record {
    kept = none_gone a c none;
    asked = [];
    grown = none.same ∙ sym (append-nil a.asked);
    front = λ all asks. (all, refl);
    accounts = accounts;
  }

  pub memory_over : (a c : LinksState) → AreUnasked a c
      → IsGroupOver room tables lease group a c says.Memory
  memory_over a c unasked = over_by a c says.Memory (none_gone a c unasked) (λ now. refl) (counts_none refl)
      (λ now image old idle shows sound.
      record { answers = inl (inl (refl, refl)); served = served_none a c says.Memory unasked tt })

  pub no_lease_over : (a c : LinksState) → AreUnasked a c → leased_row lease tables ≡ None
      → IsGroupOver room tables lease group a c says.NoLease
  no_lease_over a c unasked none = over_by a c says.NoLease (none_gone a c unasked) (λ now. refl) (counts_none refl)
      (λ now image old idle shows sound. (
      let gone = no_lease shows lease sound.valid.ordered none in
      record {
        answers = by_refusal now image old says.NoLease idle shows (inl ((gone, refl), refl));
        served = served_none a c says.NoLease unasked (inl ((λ passes. passes.0 gone), refl));
      }
      ))

  module _ (view : View) (leased : IsLeased room tables lease view) where
    lives : lease_of lease tables.leases ≡ None → ⊥
    lives = lease_lives leased

    one_view : (v : BareView) → leased_bare lease (table_shape room tables) ≡ Some v
        → v ≡ bare_row view
    one_view v is = same_Some v (bare_row view) (sym is ∙ leased.bare)

    pub no_group_over : (a c : LinksState) → AreUnasked a c
        → group_files group view.application ≡ []
        → IsGroupOver room tables lease group a c says.NoGroup
    no_group_over a c unasked none = over_by a c says.NoGroup (none_gone a c unasked) (λ now. refl) (counts_none refl)
        (λ now image old idle shows sound. record {
          answers = by_refusal now image old says.NoGroup idle shows
              (inr (lives, inl (((bare_row view, leased.bare, none), refl), refl)));
          served = served_none a c says.NoGroup unasked
              (inl ((λ passes. passes.1.0 (bare_row view, leased.bare, none)), refl));
        })

    pub no_files_over : (a c : LinksState) (reply : Reply) → AreUnasked a c
        → IsNoFiles group view.application reply → IsGroupOver room tables lease group a c reply
    no_files_over a c reply unasked (inl memory) =
        subst (IsGroupOver room tables lease group a c) (sym memory) (memory_over a c unasked)
    no_files_over a c reply unasked (inr none) =
        subst (IsGroupOver room tables lease group a c) (sym none.0)
        (no_group_over a c unasked none.1)

    module _ (some : ◌≢◌ {A = List FileEntry} (group_files group view.application) []) where
      pub has_group : LacksGroup lease group (table_shape room tables) → ⊥
      has_group lacks =
          some (subst (λ (v : BareView). group_files group v.application ≡ [])
          (one_view lacks.0 lacks.1) lacks.2)

      -- what stands does not come
      no_coming : group_stands group view.groups ≡ true → (holds : BareView → Type 0)
          → OfComing lease group (table_shape room tables) holds → ⊥
      no_coming stands holds coming =
          absurd (false≢true (sym coming.2
          ∙ ap (λ (v : BareView). group_stands group v.groups) (one_view coming.0 coming.1)
          ∙ stands))

      pub stands_over : (a c : LinksState) → AreUnasked a c → group_stands group view.groups ≡ true
          → IsGroupOver room tables lease group a c
          (says.Group (length (group_files group view.application)))
      stands_over a c unasked stands =
          let reply = says.Group (length (group_files group view.application)) in
          over_by a c reply (none_gone a c unasked) (λ now. refl) (counts_none refl) (λ now image old idle shows sound. record {
            answers = by_effect now image old reply old idle shows (
              lives,
              (
                has_group,
                (
                  no_coming stands _,
                  ((λ need. no_coming stands _), ((λ weight. no_coming stands _), (tt, tt))),
                ),
              ),
            )
                (record {
                  view = shown_view room image tables.contents view;
                  leased = view_shown shows leased;
                  replied = refl;
                  store = old.store;
                  comes = inl (stands, refl);
                  is = refl;
                });
            served = served_none a c reply unasked
                (inr (inl ((bare_row view, leased.bare, stands), refl)));
          })

      -- ---- one that comes

      module _ (absent : group_stands group view.groups ≡ false) where
        abbrev views : List BareView
        views = map bare_row tables.views

        abbrev wanted : List FileEntry
        wanted = group_wanted (map bare_row tables.views) group view.application

        abbrev files : List FileEntry
        files = map ungrouped (group_files group view.application)

        pub of_view : {P : BareView → Type 0} → OfComing lease group (table_shape room tables) P
            → P (bare_row view)
        of_view {P} coming = subst P (one_view coming.0 coming.1) coming.3

        pub bad_url_over : (a c : LinksState) → AreUnasked a c
            → Any (λ (entry : FileEntry). address_in view entry ≡ Err BadUrl) (lacking tables files)
            → IsGroupOver room tables lease group a c says.BadUrl
        bad_url_over a c unasked any =
            let bad = bad_wanted tables view group any in
            over_by a c says.BadUrl (none_gone a c unasked) (λ now. refl) (counts_none refl)
            (λ now image old idle shows sound. record {
              answers = by_refusal now image old says.BadUrl idle shows
                  (inr (
                    lives,
                    inr (
                      has_group,
                      inl (((bare_row view, leased.bare, absent, bad), refl), refl),
                    ),
                  ));
              served = served_none a c says.BadUrl unasked
                  (inl (
                    (λ passes. passes.1.1.0 (bare_row view, leased.bare, absent, bad)),
                    refl,
                  ));
            })

        -- each wanted file has an address
        abbrev AreReached : Type 0
        AreReached = Any (λ (entry : FileEntry). address_in view entry ≡ Err BadUrl) wanted → ⊥

        pub reached : AreReached
            → OfMissing lease group (table_shape room tables) (λ target. target ≡ Err BadUrl) → ⊥
        reached each coming = each (of_view coming)

        -- ---- room

        within : IsApplication view.application
            → sum_by (λ (entry : FileEntry). blocks_of entry.size) wanted ≤ 2 ^ 64 - 1
        within is =
            let most = sum_most (λ (entry : FileEntry). blocks_of entry.size) wanted 65536
            (λ entry there. (
            let of = filter_in (is_in group) view.application.files entry
            (missing_in (group_files group view.application) (standing_files views) entry there) in
            few_blocks entry.local entry.size
            (all_in IsFile view.application.files entry is.facts.each of.1).size
            )) in
            let few = few_of_group group view.application (standing_files views) is in
            omega (arith, most, few)

        -- the sum of their blocks is a number
        pub few_needed : IsApplication view.application
            → sum_by (λ (entry : FileEntry). blocks_of entry.size) (lacking tables files)
            ≤ 2 ^ 64 - 1
        few_needed is =
            let all = need_ungrouped views group view.application in
            let own = (are_missing views group view.application).blocks in
            let bound = within is in
            omega (arith, all, own, bound)

        pub need_is : (need : ℕ) → IsApplication view.application
            → need
            ≡ min (sum_by (λ (entry : FileEntry). blocks_of entry.size) (lacking tables files))
            (2 ^ 64 - 1)
            → need ≡ group_need views group view.application
        need_is need is same =
            let all = need_ungrouped views group view.application in
            let own = (are_missing views group view.application).blocks in
            let bound = within is in
            omega (arith, same, all, own, bound)

        -- there are as many blocks
        abbrev HasBlocks : Type 0
        HasBlocks =
            PassesAll (room_checks (need_of tables (map ungrouped
            (group_files group view.application))) (free_blocks (table_shape room tables)))

        pub blocks_pass : HasBlocks → IsApplication view.application → (need : ℕ)
            → OfComing lease group (table_shape room tables) (λ v.
            (need ≡ group_need (map bare_row tables.views) group v.application)
            × (free_blocks (table_shape room tables) < need)) → ⊥
        blocks_pass has is need coming =
            let of = of_view {P = λ (v : BareView). (need ≡ group_need views group v.application)
            × (free_blocks (table_shape room tables) < need)} coming in
            has.0 need (of.0 ∙ sym (need_is (need_of tables files) is refl), of.1)

        module _ (a c : LinksState) (unasked : AreUnasked a c) (each : AreReached) where
          full_over : (need : ℕ) → need ≡ need_of tables files
              → free_blocks (table_shape room tables) < need
              → IsGroupOver room tables lease group a c
              (says.Full need (free_blocks (table_shape room tables)))
          full_over need own less =
              let reply = says.Full need (free_blocks (table_shape room tables)) in
              over_by a c reply (none_gone a c unasked) (λ now. refl) (counts_none refl)
              (λ now image old idle shows sound. (
              let same = need_is need (view_valid shows leased sound) own in
              record {
                answers = by_refusal now image old reply idle shows
                    (inr (
                      lives,
                      inr (
                        has_group,
                        inr (
                          reached each,
                          inl (
                            (need, (bare_row view, leased.bare, absent, (same, less)), refl),
                            refl,
                          ),
                        ),
                      ),
                    ));
                served = served_none a c reply unasked
                    (inl (
                      (λ passes. passes.1.1.1.0 need
                          (bare_row view, leased.bare, absent, (same, less))),
                      refl,
                    ));
              }
              ))

          -- the tables would have no room
          heavy_over : HasBlocks → (weight : ℕ) → weight ≡ weight_in room tables view group
              → IsTooHeavy room weight
              → IsGroupOver room tables lease group a c
              (says.TableFull (told_weight weight) (table_room room))
          heavy_over has weight own heavy =
              let reply = says.TableFull (told_weight weight) (table_room room) in
              over_by a c reply (none_gone a c unasked) (λ now. refl) (counts_none refl)
              (λ now image old idle shows sound. record {
                answers = by_refusal now image old reply idle shows
                    (inr (
                      lives,
                      inr (
                        has_group,
                        inr (
                          reached each,
                          inr (
                            blocks_pass has (view_valid shows leased sound),
                            inl (
                              (weight, (bare_row view, leased.bare, absent, (own, heavy)), refl),
                              refl,
                            ),
                          ),
                        ),
                      ),
                    ));
                served = served_none a c reply unasked
                    (inl (
                      (λ passes. passes.1.1.1.1.0 weight
                          (bare_row view, leased.bare, absent, (own, heavy))),
                      refl,
                    ));
              })

          pub space_over : (reply : Reply)
              → Refused (space_checks room tables view group (map ungrouped
              (group_files group view.application))) reply
              → IsGroupOver room tables lease group a c reply
          space_over reply (inl memory) =
              subst (IsGroupOver room tables lease group a c) (sym memory) (memory_over a c unasked)
          space_over reply (inr refuses) = by (refuses some_session)
            where
              by : Refuses (space_checks room tables view group files) some_session reply
                  some_session
                  → IsGroupOver room tables lease group a c reply
              by (inl given) =
                  subst (IsGroupOver room tables lease group a c) (sym given.0.2)
                  (full_over given.0.0 given.0.1.0 given.0.1.1)
              by (inr (has, inl given)) =
                  subst (IsGroupOver room tables lease group a c) (sym given.0.2)
                  (heavy_over (has, tt) given.0.0 given.0.1.0 given.0.1.1)
              by (inr (has, inr none)) = absurd none.1
