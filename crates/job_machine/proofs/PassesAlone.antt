-- What no refusal stops beside open jobs none stops where there are none.
use Rattle.std.proofs.Common.{◌≡◌, ◌+◌, ◌<◌, ◌≤◌, refl, ℕ, List, [], arith}
use Rattle.std.specs.Prelude.{filter, sum_by}
use Rattle.manifests.specs.declared.facts.Application.{Application}
use Rattle.manifests.specs.declared.facts.Deployment.{Deployment}
use Rattle.manifests.specs.declared.facts.FileEntry.{FileEntry}
use Rattle.machine.specs.declared.command.Command.{Command}
use Rattle.machine.specs.declared.command.Command.TheVariants.{At, Require, Install, Check, Skip, Rollback, Launch, Read, Local, Put, Remove, Group, Finish, Clean, Show}
use Rattle.machine.specs.declared.command.Command.TheVariants as asks
use Rattle.machine.specs.Blocks.{blocks_of, blocks_with, free_blocks, required_files, standing_files}
use Rattle.machine.specs.Current.{bare_data_of, current_bare}
use Rattle.machine.specs.GroupRow.{OfComing}
use Rattle.machine.specs.Groups.{group_files, group_need}
use Rattle.machine.specs.InstallRow.{IsWeightOf, OfRelease}
use Rattle.machine.specs.Machine.{refusals}
use Rattle.machine.specs.Rows.{PassesAll}
use Rattle.machine.specs.Shape.{BareView, Shape, shape_of}
use Rattle.machine.specs.SoundSession.{session_blocks}
use Rattle.machine.specs.Store.{Session}
use Rattle.machine.specs.Views.{is_required}
use Rattle.machine.specs.Wanted.{copied_need, deployed_need, install_need, new_contents}
use Rattle.machine.specs.Weight.{IsTooHeavy}
use Rattle.machine.proofs.CountedBlocks.{counted_more}
use Rattle.job_machine.specs.Needs as beside
use Rattle.job_machine.specs.Sessions.{refusals_beside}
use Rattle.job_machine.proofs.Alone.{alone}
use Rattle.job_machine.proofs.Rooms.{blocks_are, blocks_spared, data_blocks, data_of_views, program_blocks}

-- what holds of a release that was heard
release_map : {P Q : Deployment → Application → Type 0} (heard : List (List ℕ))
    → ((d : Deployment) (a : Application) → P d a → Q d a) → OfRelease heard P → OfRelease heard Q
release_map heard each x =
    (x.0, x.1, x.2, x.3, (x.4.0, x.4.1, x.4.2, x.4.3, each x.1 x.4.1 x.4.4))

-- without a job the blocks are those of views
blocks_none : (views : List BareView) → blocks_with views []
    ≡ program_blocks (standing_files views) + data_blocks (data_of_views views)
blocks_none views = refl

abbrev new_blocks : List FileEntry → List FileEntry → ℕ
new_blocks used entries = sum_by (λ (entry : FileEntry). blocks_of entry.size) (new_contents used entries)

module _ (old : Session) (room : session_blocks old ≤ old.store.room.blocks) where
  abbrev shape : Shape
  shape = shape_of old

  abbrev bare : Shape
  bare = shape_of (alone old)

  abbrev views : List BareView
  views = (shape_of old).views

  -- where contents have no room without the jobs, they have none beside them
  less_room : (entries : List FileEntry) (more : ℕ)
      → free_blocks bare < new_blocks (standing_files views) entries + more
      → free_blocks shape < beside.uncounted_need shape entries + more
  less_room entries more less =
      let spared = blocks_spared (required_files shape.jobs) (standing_files views) entries in
      let counted = counted_more views shape.jobs in
      omega (
        arith,
        spared,
        counted,
        less,
        room,
        blocks_are views shape.jobs,
        blocks_none views,
      )

  free_less : (need : ℕ) → free_blocks bare < need → free_blocks shape < need
  free_less need less =
      let counted = counted_more views shape.jobs in
      omega (arith, less, counted, room, blocks_none views)

  module _ (heard : List (List ℕ)) where
    -- ---- an install

    install_less : (need : ℕ)
        → ((n : ℕ) → OfRelease heard (λ d a. (n ≡ beside.install_need shape d a) × (free_blocks shape < n))
        → ⊥)
        → OfRelease heard (λ d a. (need ≡ install_need bare d a) × (free_blocks bare < need)) → ⊥
    install_less need passes x =
        passes (beside.install_need shape x.1 x.4.1)
        (x.0, x.1, x.2, x.3, (x.4.0, x.4.1, x.4.2, x.4.3, (refl, by x.1 x.4.1 x.4.4)))
      where
        by : (d : Deployment) (a : Application)
            → (need ≡ install_need bare d a) × (free_blocks bare < need)
            → free_blocks shape < beside.install_need shape d a
        by d a needs =
            let more = deployed_need a + copied_need (bare_data_of (current_bare d.identity.key shape)) in
            let is = needs.0 in
            let less = needs.1 in
            let fits = less_room (filter is_required a.files) more
            (omega (arith, is, less)) in
            omega (arith, fits)

    weighed : (url : List ℕ) (weight : ℕ)
        → ((n : ℕ) → OfRelease heard (λ d a. IsWeightOf url shape d a n × IsTooHeavy shape.room n) → ⊥)
        → OfRelease heard (λ d a. IsWeightOf url bare d a weight × IsTooHeavy bare.room weight) → ⊥
    weighed url weight passes x =
        passes weight (release_map heard (λ d a heavy. (
          record {
            target = heavy.0.target;
            read = heavy.0.read;
            base = heavy.0.base;
            joined = heavy.0.joined;
            provider = heavy.0.provider;
            provided = heavy.0.provided;
            is = heavy.0.is;
          },
          heavy.1,
        )) x)

    install_alone : (now : ℕ) (url : List ℕ) → PassesAll (refusals_beside now heard shape (Install url))
        → PassesAll (refusals now heard bare (Install url))
    install_alone now url p = (
      p.0,
      (
        p.1.0,
        (
          p.1.1.0,
          (
            p.1.1.1.0,
            (
              p.1.1.1.1.0,
              (
                p.1.1.1.1.1.0,
                (
                  p.1.1.1.1.1.1.0,
                  (
                    p.1.1.1.1.1.1.1.0,
                    (
                      p.1.1.1.1.1.1.1.1.0,
                      (
                        p.1.1.1.1.1.1.1.1.1.0,
                        (
                          p.1.1.1.1.1.1.1.1.1.1.0,
                          (
                            p.1.1.1.1.1.1.1.1.1.1.1.0,
                            (
                              p.1.1.1.1.1.1.1.1.1.1.1.1.0,
                              (
                                p.1.1.1.1.1.1.1.1.1.1.1.1.1.0,
                                (
                                  p.1.1.1.1.1.1.1.1.1.1.1.1.1.1.0,
                                  (
                                    p.1.1.1.1.1.1.1.1.1.1.1.1.1.1.1.0,
                                    (
                                      p.1.1.1.1.1.1.1.1.1.1.1.1.1.1.1.1.0,
                                      (
                                        (λ need x. install_less need
                                            p.1.1.1.1.1.1.1.1.1.1.1.1.1.1.1.1.1.0 x),
                                        (
                                          (λ weight x. weighed url weight
                                              p.1.1.1.1.1.1.1.1.1.1.1.1.1.1.1.1.1.1.0 x),
                                          (tt, tt),
                                        ),
                                      ),
                                    ),
                                  ),
                                ),
                              ),
                            ),
                          ),
                        ),
                      ),
                    ),
                  ),
                ),
              ),
            ),
          ),
        ),
      ),
    )

    -- ---- a group

    group_alone : (now : ℕ) (lease : ℕ) (group : List ℕ)
        → PassesAll (refusals_beside now heard shape (Group lease group))
        → PassesAll (refusals now heard bare (Group lease group))
    group_alone now lease group p =
        (p.0, (p.1.0, (p.1.1.0, (full p.1.1.1.0, (p.1.1.1.1.0, (tt, tt))))))
      where
        full : ((n : ℕ) → OfComing lease group shape (λ view.
            (n ≡ beside.group_need shape group view.application) × (free_blocks shape < n)) → ⊥)
            → (need : ℕ) → OfComing lease group bare (λ view.
            (need ≡ group_need bare.views group view.application) × (free_blocks bare < need)) → ⊥
        full passes need x =
            let is = x.3.0 in
            let less = x.3.1 in
            let fits = less_room (group_files group x.0.application) 0 (omega (arith, is, less)) in
            passes (beside.group_need shape group x.0.application)
            (x.0, x.1, x.2, (refl, omega (arith, fits)))

    -- ---- a data file

    put_alone : (now : ℕ) (lease : ℕ) (name bytes : List ℕ)
        → PassesAll (refusals_beside now heard shape (Put lease name bytes))
        → PassesAll (refusals now heard bare (Put lease name bytes))
    put_alone now lease name bytes p = (
      p.0,
      (
        p.1.0,
        (
          p.1.1.0,
          ((λ need x. p.1.1.1.0 need (x.0, free_less need x.1)), (p.1.1.1.1.0, tt)),
        ),
      ),
    )

    -- ---- each command

    pub passes_alone : (now : ℕ) (command : Command)
        → PassesAll (refusals_beside now heard shape command)
        → PassesAll (refusals now heard bare command)
    passes_alone now (At next) p = p
    passes_alone now (Require key version) p = p
    passes_alone now (Install url) p = install_alone now url p
    passes_alone now (Check key) p = p
    passes_alone now (Skip key) p = p
    passes_alone now (Rollback key) p = p
    passes_alone now (Launch key) p = p
    passes_alone now (Read lease name from count) p = p
    passes_alone now (Local lease name from count) p = p
    passes_alone now (Put lease name bytes) p = put_alone now lease name bytes p
    passes_alone now (Remove lease name) p = p
    passes_alone now (Group lease group) p = group_alone now lease group p
    passes_alone now (Finish lease) p = p
    passes_alone now Clean p = p
    passes_alone now asks.List p = p
    passes_alone now (Show key) p = p
